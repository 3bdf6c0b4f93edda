-- A drawn ray along an axis is admitted. Assumes nothing.
use mathlib.Core.Path.{◌≡◌, refl, ap, ◌∙◌, subst}
use mathlib.Core.Bool.{Bool, true, false, not}
use Prim.Native.Nat.{ℕ, ◌*◌, ◌≤◌}
use native.Mathlib.Nat.{zero-lt-suc}
use native.Mathlib.Omega.{arith}
use lib.Dec.{T, lit≤}
use lib.IntN.{ℤ, pos, nat_abs}
use lib.Ieee.{Float, fin, binary64, of_bits, size, units, sub, lt, fits}
use lib.Ieee.Fits.{add-fits}
use lib.Ieee.Exact.{HasValue}
use lib.Ieee.Back.{whole_unique}
use borrow.Author.Tests.{le-ltb}
use Rattle.arithmetic.specs.Basic.{is_finite, absolute}
use Rattle.arithmetic.specs.Root.{root_digits, whole_root, root_round, root_of}
use Rattle.vectors.specs.Numbers.{◌-ᶠ◌, zeroᶠ, oneᶠ, tolerance}
use Rattle.vectors.specs.Vector.{dot_of, length_of, finite_vec}
use Rattle.geometry.specs.Segment.{unit_length, ray_admitted}
use Rattle.vectors.specs.declared.vec3.Vec3.{Vec3}
use Rattle.geometry.specs.declared.ray.Ray.{Ray}
use Rattle.arithmetic.proofs.SignedOrder.{plus}
use Rattle.exact_depth.proofs.Standing.{Stands}
use Rattle.whole_numbers.proofs.Whole.{WholeVec}
use Rattle.whole_numbers.specs.Points.{Point, dot_p}
use Rattle.whole_numbers.specs.WholeTriangle.{Axis, east, west, north, south, upward, downward, along}
use Rattle.arithmetic.proofs.ValueOrder.{value_finite, lt_values}
use Rattle.whole_numbers.proofs.Decisions.{parted, zero_value}
use Rattle.whole_numbers.proofs.Vectors.{dot_whole}

pub stands_finite : (x : Float) (z : ℤ) → Stands x z → is_finite x ≡ true
stands_finite x z s = let p = parted x z s in value_finite x p.sign (nat_abs z) 1 p.value

pub finite_vec_lem : (B : ℕ) (v : Vec3) (p : Point) → WholeVec B v p → finite_vec v ≡ true
unfolding finite_vec
finite_vec_lem B v p w =
    simp (
      stands_finite v.x p.x w.first.value,
      stands_finite v.y p.y w.second.value,
      stands_finite v.z p.z
          w.third.value,
    )

-- ---- the length of an axis direction is 1
square : (d : Axis) → dot_p (along d) (along d) ≡ pos 1
square east = refl
square west = refl
square north = refl
square south = refl
square upward = refl
square downward = refl

one_sign : (s : Bool) → 1 ≡ plus s 1 → s ≡ false
one_sign false h = refl
one_sign true h = absurd (omega arith)

dot_fits : (v : Vec3) → T (fits binary64 (dot_of v v))
unfolding dot_of
dot_fits v = add-fits binary64 _ _

dot_one : (v : Vec3) (d : Axis) → WholeVec 1 v (along d) → dot_of v v ≡ fin false 1 (pos 0)
dot_one v d w =
    let a =
    parted (dot_of v v) (pos 1) (subst (Stands (dot_of v v)) (square d) (dot_whole 1 1 v v (along d) (along d) w w (lit≤ tt)).value) in
    whole_unique binary64 (dot_of v v) (fin false 1 (pos 0)) false 1 (dot_fits v) (unfold fits in tt)
    (subst (λ (s : Bool). HasValue (dot_of v v) s 1 1) (one_sign a.sign a.over) a.value) (refl, refl)

one_length : not (lt tolerance (absolute (root_of (fin false 1 (pos 0)) -ᶠ oneᶠ))) ≡ true
unfolding of_bits root_of root_round whole_root root_digits size units absolute sub lt
one_length = refl

unit_length_lem : (v : Vec3) (d : Axis) → WholeVec 1 v (along d) → unit_length v ≡ true
unfolding unit_length length_of
unit_length_lem v d w = ap (λ (x : Float). not (lt tolerance (absolute (root_of x -ᶠ oneᶠ)))) (dot_one v d w) ∙ one_length

-- a whole number that is not negative is not below 0
pub not_below_zero : (x : Float) (n : ℕ) → 1 ≤ n → Stands x (pos n) → HasValue x false n 1 × (lt x zeroᶠ ≡ false)
not_below_zero x n h s =
    let p = parted x (pos n) s in
    let v : HasValue x false n 1 = subst (λ (b : Bool). HasValue x b n 1) (sign p.sign n h p.over) p.value in
    (v, lt_values x zeroᶠ false false n 1 0 1 (zero-lt-suc 0) (zero-lt-suc 0) v zero_value ∙ le-ltb (n * 1) (0 * 1) (omega arith))
  where
    sign : (s : Bool) (n : ℕ) → 1 ≤ n → n ≡ plus s n → s ≡ false
    sign false n h e = refl
    sign true n h e = absurd (omega arith)

-- a zero of either sign is not below 0, and nothing that is not negative is below it
zero_not_below : (x : Float) (s : Bool) → HasValue x s 0 1 → lt x zeroᶠ ≡ false
zero_not_below x false v = lt_values x zeroᶠ false false 0 1 0 1 (zero-lt-suc 0) (zero-lt-suc 0) v zero_value
zero_not_below x true v = lt_values x zeroᶠ true false 0 1 0 1 (zero-lt-suc 0) (zero-lt-suc 0) v zero_value

not_below_near : (x y : Float) (n : ℕ) (s : Bool) → HasValue x false n 1 → HasValue y s 0 1 → lt x y ≡ false
not_below_near x y n true v w = lt_values x y false true n 1 0 1 (zero-lt-suc 0) (zero-lt-suc 0) v w
not_below_near x y n false v w =
    lt_values x y false false n 1 0 1 (zero-lt-suc 0) (zero-lt-suc 0) v w ∙ le-ltb (n * 1) (0 * 1) (omega arith)

pub admitted : (r : Ray) (o : Point) (d : Axis) (n B : ℕ) → WholeVec B r.origin o → WholeVec 1 r.direction (along d) → 1 ≤ n
    → Stands r.max_distance (pos n) → Stands r.near (pos 0) → ray_admitted r ≡ true
unfolding ray_admitted
admitted r o d n B a b h m z =
    let p = parted r.near (pos 0) z in
    simp (
      finite_vec_lem B r.origin o a,
      finite_vec_lem 1 r.direction (along d) b,
      unit_length_lem r.direction d b,
      stands_finite r.max_distance (pos n) m,
      (not_below_zero r.max_distance n h m).1,
      stands_finite r.near (pos 0) z,
      zero_not_below r.near p.sign p.value,
      not_below_near r.max_distance r.near n p.sign (not_below_zero r.max_distance n h m).0 p.value,
    )
