-- What is true of each float of a record. Assumes nothing.
use Prim.Native.Nat.{ℕ, zero, suc}
use mathlib.Core.Bool.{Bool}
use mathlib.Core.List.{List, [], ◌∷◌}
use lib.Dec.{T}
use lib.Ieee.{Float}
use lib.Ieee.Fits.{and_i, and_l, and_r, fits_widens}
use lib.ListN.{drop}
use Rattle.float_forms.specs.declared.forms.Form.{Form}
use Rattle.float_forms.specs.declared.forms.Form.TheVariants.{First, Long, Short}
use Rattle.float_forms.specs.Forms.{size_of, rays_of}
use Rattle.float_forms.specs.Bytes.{number_of, numbers_of}
use Rattle.float_forms.specs.Representable.{every, fits_in}
use Rattle.record_bytes.specs.Records.{Said, kind_of, counts_of, many_numbers, numbers_place, said_of, every_said, said_fits}
use Rattle.float_forms.proofs.Numbers.{number_fits}
use Rattle.float_forms.proofs.RunLaws.{first_of, rest_of}

-- what every float passes, the ray's do, and the shape's
module _ (test : Float → Bool) (s : Said) (h : T (every_said test s)) where
  pub ray_of_lem : T (every test s.ray)
  unfolding every_said
  ray_of_lem = and_l (every test s.ray) (every test s.numbers) h

  pub numbers_of_lem : T (every test s.numbers)
  unfolding every_said
  numbers_of_lem = and_r (every test s.ray) (every test s.numbers) h

-- ---- a test of each float

-- two tests that together are a third's
module _ (t u v : Float → Bool) (one : (x : Float) → T (t x) → T (u x) → T (v x)) where
  pub every_both : (xs : List Float) → T (every t xs) → T (every u xs) → T (every v xs)
  unfolding every
  every_both [] h k = tt
  every_both (x ∷ xs) h k =
      and_i (v x) (every v xs) (one x (first_of t x xs h) (first_of u x xs k))
      (every_both xs (rest_of t x xs h) (rest_of u x xs k))

  pub said_both : (s : Said) → T (every_said t s) → T (every_said u s) → T (every_said v s)
  unfolding every_said
  said_both s h k =
      and_i (every v s.ray) (every v s.numbers) (every_both s.ray (ray_of_lem t s h) (ray_of_lem u s k))
      (every_both s.numbers (numbers_of_lem t s h) (numbers_of_lem u s k))

-- what is true of each float that a form can write is true of all that a record of it says
module _ (form : Form) (test : Float → Bool) (one : (l : List ℕ) → T (test (number_of form l))) where
  run_of : (n : ℕ) (l : List ℕ) → T (every test (numbers_of form n l))
  unfolding numbers_of every
  run_of zero l = tt
  run_of (suc n) l =
      and_i (test (number_of form l)) (every test (numbers_of form n (drop (size_of form) l))) (one l) (run_of n (drop (size_of form) l))

  pub read_of : (l : List ℕ) → T (every_said test (said_of form l))
  unfolding every_said said_of
  read_of l =
      let many = many_numbers (kind_of l) (counts_of form l) in
      let place = numbers_place form (kind_of l) in
      and_i (every test (numbers_of form (rays_of form) (drop 6 l))) (every test (numbers_of form many (drop place l)))
      (run_of (rays_of form) (drop 6 l)) (run_of many (drop place l))

-- ---- formats

-- the long format has every float of any form
long_fits : (form : Form) (l : List ℕ) → T (fits_in Long (number_of form l))
long_fits First l = number_fits First l
long_fits Long l = number_fits Long l
long_fits Short l = fits_widens (number_of Short l) (number_fits Short l)

pub long_fits_said : (form : Form) (l : List ℕ) → T (said_fits Long (said_of form l))
long_fits_said form = read_of form (fits_in Long) (long_fits form)

pub own_fits_said : (form : Form) (l : List ℕ) → T (said_fits form (said_of form l))
own_fits_said form = read_of form (fits_in form) (number_fits form)
