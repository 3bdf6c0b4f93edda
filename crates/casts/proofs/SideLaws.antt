-- A product with 1 or -1 is the float or its negative. Assumes nothing.
use mathlib.Core.Path.{◌≡◌, refl, ap, ◌∙◌}
use mathlib.Core.Bool.{Bool, true, false, cond, beq, false≢true}
use Prim.Native.Nat.{ℕ, ◌*◌}
use native.Mathlib.Nat.{mul-one}
use lib.Dec.{T, lit<}
use lib.Ieee.{Float, nan, inf, fin, binary64, of_bits, up, down, round, mul, neg, unlike, fits}
use lib.Ieee.Fits.{down_pos}
use lib.Ieee.Exact.{HasValue}
use lib.IntN.{ℤ}
use Rattle.arithmetic.proofs.ValueOrder.{mul_values}
use Rattle.arithmetic.proofs.OwnRounding.{own_rounding}
use Rattle.vectors.specs.Numbers.{◌*ᶠ◌, oneᶠ}
use Rattle.vectors.specs.Vector.{neg_of, vector}
use Rattle.vectors.specs.declared.vec3.Vec3.{Vec3}

one_value : HasValue oneᶠ false 1 1
unfolding of_bits
one_value = (refl, refl)

minus_value : HasValue (neg oneᶠ) true 1 1
unfolding of_bits neg
minus_value = (refl, refl)

fits_flipped : (s t : Bool) (m : ℕ) (e : ℤ) → T (fits binary64 (fin s m e)) → T (fits binary64 (fin t m e))
unfolding fits
fits_flipped s t m e f = f

-- the product with a float that has the value 1 or -1
product : (s t : Bool) (m : ℕ) (e : ℤ) (c : Float) → HasValue c t 1 1 → T (fits binary64 (fin s m e))
    → fin s m e *ᶠ c ≡ fin (unlike s t) m e
product s t m e c v f =
    mul_values (fin s m e) c s t (m * up e) (down e) 1 1 (down_pos e) (lit< tt) (refl, refl) v
    ∙ ap (λ (k : ℕ). round binary64 (unlike s t) k (down e * 1)) (mul-one (m * up e))
    ∙ ap (λ (k : ℕ). round binary64 (unlike s t) (m * up e) k) (mul-one (down e))
    ∙ own_rounding (unlike s t) m e (fits_flipped s (unlike s t) m e f)

times_one : (x : Float) → T (fits binary64 x) → x *ᶠ oneᶠ ≡ x
unfolding mul of_bits
times_one nan f = refl
times_one (inf false) f = refl
times_one (inf true) f = refl
times_one (fin false m e) f = product false false m e oneᶠ one_value f
times_one (fin true m e) f = product true false m e oneᶠ one_value f

times_minus_one : (x : Float) → T (fits binary64 x) → x *ᶠ neg oneᶠ ≡ neg x
unfolding mul neg of_bits
times_minus_one nan f = refl
times_minus_one (inf false) f = refl
times_minus_one (inf true) f = refl
times_minus_one (fin false m e) f = product false true m e (neg oneᶠ) minus_value f
times_minus_one (fin true m e) f = product true true m e (neg oneᶠ) minus_value f

pub times_side : (x : Float) → T (fits binary64 x) → (b : Bool) → x *ᶠ cond b (neg oneᶠ) oneᶠ ≡ cond b (neg x) x
times_side x f true = times_minus_one x f
times_side x f false = times_one x f

pub flipped_each : (v : Vec3) (b : Bool) → vector (cond b (neg v.x) v.x) (cond b (neg v.y) v.y) (cond b (neg v.z) v.z) ≡
    cond b (neg_of v) v
unfolding neg_of
flipped_each v true = refl
flipped_each v false = refl

-- ---- two tests that are the same, one of them known
pub same_tests : (a b c : Bool) → beq a b ≡ true → b ≡ c → a ≡ c
same_tests true true c h k = k
same_tests true false c h k = absurd (false≢true h)
same_tests false true c h k = absurd (false≢true h)
same_tests false false c h k = k
