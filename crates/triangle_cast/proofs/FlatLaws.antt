-- The edges' scale by comparisons alone: the largest of 1 and of each component and its negative is as large as the definition's. Assumes
-- nothing.
use mathlib.Core.Path.{◌≡◌, refl, sym, ap, ◌∙◌}
use mathlib.Core.Bool.{Bool, true, false, ◌||◌, beq, false≢true}
use Prim.Native.Nat.{◌*◌, ◌^◌}
use borrow.Author.Tests.{eqb-true}
use lib.Dec.{eqb}
use lib.Pow.{pow_pos}
use lib.Ieee.{Float, nan, inf, fin, of_bits, up, down, neg, le, eq, is_nan}
use lib.Ieee.Fits.{down_pos}
use lib.Ieee.Exact.{HasValue}
use Rattle.arithmetic.specs.Basic.{absolute}
use Rattle.arithmetic.specs.Extremes.{maximum_of}
use Rattle.arithmetic.proofs.Order.{le_right_number, le_transitive, eq_of_le_le}
use Rattle.arithmetic.proofs.ExtremesLimits.{maximum_keeps, maximum_from_first, maximum_from_second}
use Rattle.arithmetic.proofs.Sizes.{number_neg, number_size, size_neg, at_most_size, size_one}
use Rattle.arithmetic.proofs.ValueOrder.{mul_values}
use Rattle.arithmetic.proofs.Bounds.{FromOne, from_one}
use Rattle.vectors.specs.Numbers.{◌*ᶠ◌, oneᶠ, epsilon}
use Rattle.vectors.specs.Vector.{abs_of, max_element}
use Rattle.vectors.specs.declared.vec3.Vec3.{Vec3}
use Rattle.lists.proofs.JoinedTests.{and_first}
use Rattle.triangle_cast.specs.Size.{or_size, size_from_one}
use Rattle.triangle_cast.specs.Triangle.{flat, thirty_two}

-- what is below an operand is below the maximum
climb : (x m y : Float) → le x m ≡ true → le x (maximum_of m y) ≡ true
climb x m y h = le_transitive x m (maximum_of m y) h (maximum_from_first m y (le_right_number x m h))

climb_second : (x m y : Float) → le x m ≡ true → le x (maximum_of y m) ≡ true
climb_second x m y h = le_transitive x m (maximum_of y m) h (maximum_from_second y m (le_right_number x m h))

-- ---- the two scales
-- every number that is at most m, or no number
abbrev AtMost : Float → Float → Type 0
AtMost m x = is_nan x ≡ false → le x m ≡ true

module _ (m x : Float) (n : is_nan m ≡ false) where
  or_above : le m (or_size m x) ≡ true
  or_above = climb m (maximum_of m x) (neg x) (maximum_from_first m x n)

  or_size_lem : AtMost (or_size m x) (absolute x)
  or_size_lem =
      size_one (AtMost (or_size m x)) x
      (λ p. climb x (maximum_of m x) (neg x) (maximum_from_second m x p))
      (maximum_from_second (maximum_of m x) (neg x))

or_one : (P : Float → Type 0) (m x : Float) → P m → P x → P (neg x) → P (or_size m x)
or_one P m x p q r = maximum_keeps P (maximum_of m x) (neg x) (maximum_keeps P m x p q) r

one_number : is_nan oneᶠ ≡ false
unfolding is_nan of_bits
one_number = refl

module _ (v : Vec3) where
  abbrev one_x : Float
  one_x = or_size oneᶠ v.x

  abbrev one_y : Float
  one_y = or_size one_x v.y

  above_x : le oneᶠ one_x ≡ true
  above_x = or_above oneᶠ v.x one_number

  x_number : is_nan one_x ≡ false
  x_number = le_right_number oneᶠ one_x above_x

  above_y : le one_x one_y ≡ true
  above_y = or_above one_x v.y x_number

  y_number : is_nan one_y ≡ false
  y_number = le_right_number one_x one_y above_y

  above_z : le one_y (size_from_one v) ≡ true
  above_z = or_above one_y v.z y_number

  from_x : le one_x (size_from_one v) ≡ true
  from_x = le_transitive one_x one_y (size_from_one v) above_y above_z

  from_one_up : le oneᶠ (size_from_one v) ≡ true
  from_one_up = le_transitive oneᶠ one_x (size_from_one v) above_x from_x

  size_x : AtMost (size_from_one v) (absolute v.x)
  size_x p = le_transitive (absolute v.x) one_x (size_from_one v) (or_size_lem oneᶠ v.x one_number p) from_x

  size_y : AtMost (size_from_one v) (absolute v.y)
  size_y p = le_transitive (absolute v.y) one_y (size_from_one v) (or_size_lem one_x v.y x_number p) above_z

  size_z : AtMost (size_from_one v) (absolute v.z)
  size_z = or_size_lem one_y v.z y_number

  sizes_one : (P : Float → Type 0) → P oneᶠ → ((x : Float) → P (absolute x) → (P x) × (P (neg x)))
      → P (absolute v.x) → P (absolute v.y) → P (absolute v.z) → P (size_from_one v)
  sizes_one P one both x y z =
      or_one P one_y v.z
      (or_one P one_x v.y
      (or_one P oneᶠ v.x one (both v.x x).0 (both v.x x).1)
      (both v.y y).0 (both v.y y).1)
      (both v.z z).0 (both v.z z).1

  largest_x : AtMost (max_element (abs_of v)) (absolute v.x)
  unfolding max_element abs_of
  largest_x p = climb (absolute v.x) (maximum_of (absolute v.x) (absolute v.y)) (absolute v.z)
      (maximum_from_first (absolute v.x) (absolute v.y) p)

  largest_y : AtMost (max_element (abs_of v)) (absolute v.y)
  unfolding max_element abs_of
  largest_y p = climb (absolute v.y) (maximum_of (absolute v.x) (absolute v.y)) (absolute v.z)
      (maximum_from_second (absolute v.x) (absolute v.y) p)

  largest_z : AtMost (max_element (abs_of v)) (absolute v.z)
  unfolding max_element abs_of
  largest_z = maximum_from_second (maximum_of (absolute v.x) (absolute v.y)) (absolute v.z)

  largest_one : (P : Float → Type 0) → P (absolute v.x) → P (absolute v.y) → P (absolute v.z) → P (max_element (abs_of v))
  unfolding max_element abs_of
  largest_one P x y z =
      maximum_keeps P (maximum_of (absolute v.x) (absolute v.y)) (absolute v.z)
      (maximum_keeps P (absolute v.x) (absolute v.y) x y) z

-- below a bound of the size are the number and its negative
both_below : (m x : Float) → AtMost m (absolute x) → (AtMost m x) × (AtMost m (neg x))
both_below m x h = (
  λ p. le_transitive x (absolute x) m (at_most_size x p) (h (number_size x ∙ p)),
  λ p. le_transitive (neg x) (absolute x) m (ap (le (neg x)) (sym (size_neg x)) ∙ at_most_size (neg x) p)
      (h (number_size x ∙ sym (number_neg x) ∙ p)),
)

module _ (a b : Vec3) where
  abbrev ours : Float
  ours = maximum_of (size_from_one a) (size_from_one b)

  abbrev edges : Float
  edges = maximum_of (max_element (abs_of a)) (max_element (abs_of b))

  abbrev scale : Float
  scale = maximum_of edges oneᶠ

  ours_from_one : le oneᶠ ours ≡ true
  ours_from_one = climb oneᶠ (size_from_one a) (size_from_one b) (from_one_up a)

  scale_from_one : le oneᶠ scale ≡ true
  scale_from_one = maximum_from_second edges oneᶠ one_number

  -- within ours and within the scale are the same sizes
  in_ours_first : (x : Float) → AtMost (size_from_one a) x → AtMost ours x
  in_ours_first x h p = climb x (size_from_one a) (size_from_one b) (h p)

  in_ours_second : (x : Float) → AtMost (size_from_one b) x → AtMost ours x
  in_ours_second x h p = climb_second x (size_from_one b) (size_from_one a) (h p)

  in_scale_first : (x : Float) → AtMost (max_element (abs_of a)) x → AtMost scale x
  in_scale_first x h p = climb x edges oneᶠ (climb x (max_element (abs_of a)) (max_element (abs_of b)) (h p))

  in_scale_second : (x : Float) → AtMost (max_element (abs_of b)) x → AtMost scale x
  in_scale_second x h p = climb x edges oneᶠ (climb_second x (max_element (abs_of b)) (max_element (abs_of a)) (h p))

  scale_in_ours : le scale ours ≡ true
  scale_in_ours =
      maximum_keeps (AtMost ours) edges oneᶠ
      (maximum_keeps (AtMost ours) (max_element (abs_of a)) (max_element (abs_of b))
      (largest_one a (AtMost ours)
      (in_ours_first (absolute a.x) (size_x a)) (in_ours_first (absolute a.y) (size_y a))
      (in_ours_first (absolute a.z) (size_z a)))
      (largest_one b (AtMost ours)
      (in_ours_second (absolute b.x) (size_x b)) (in_ours_second (absolute b.y) (size_y b))
      (in_ours_second (absolute b.z) (size_z b))))
      (λ p. ours_from_one)
      (le_right_number oneᶠ scale scale_from_one)

  ours_in_scale : le ours scale ≡ true
  ours_in_scale =
      maximum_keeps (AtMost scale) (size_from_one a) (size_from_one b)
      (sizes_one a (AtMost scale) (λ p. scale_from_one) (both_below scale)
      (in_scale_first (absolute a.x) (largest_x a)) (in_scale_first (absolute a.y) (largest_y a))
      (in_scale_first (absolute a.z) (largest_z a)))
      (sizes_one b (AtMost scale) (λ p. scale_from_one) (both_below scale)
      (in_scale_second (absolute b.x) (largest_x b)) (in_scale_second (absolute b.y) (largest_y b))
      (in_scale_second (absolute b.z) (largest_z b)))
      (le_right_number oneᶠ ours ours_from_one)

-- ---- equal numbers have one product
pub epsilon_value : HasValue epsilon false 1 (2 ^ 52)
unfolding of_bits
epsilon_value = (refl, refl)

same_product : (x y : Float) → FromOne x → FromOne y → eq x y ≡ true → x *ᶠ epsilon ≡ y *ᶠ epsilon
unfolding eq
same_product nan y p q h = absurd p
same_product (inf s) nan p q h = absurd q
same_product (inf s) (inf t) p q h = ap (λ (z : Bool). inf z *ᶠ epsilon) (p ∙ sym q)
same_product (inf s) (fin t n d) p q h = absurd (false≢true h)
same_product (fin s m e) nan p q h = absurd q
same_product (fin s m e) (inf t) p q h = absurd (false≢true h)
same_product (fin s m e) (fin t n d) p q h =
    let same = eqb-true (m * up e * down d) (n * up d * down e)
    (and_first (eqb (m * up e * down d) (n * up d * down e)) (beq s t || eqb (m * up e * down d) 0) h) in
    mul_values (fin s m e) epsilon false false (m * up e) (down e) 1 (2 ^ 52) (down_pos e) (pow_pos 52) (p.0, refl) epsilon_value
    ∙ sym (mul_values (fin t n d) epsilon false false (m * up e) (down e) 1 (2 ^ 52) (down_pos e) (pow_pos 52) (q.0, sym same)
    epsilon_value)

pub flat_by_size : (d : Float) (a b : Vec3)
    → le (absolute d) (maximum_of (size_from_one a) (size_from_one b) *ᶠ epsilon *ᶠ thirty_two) ≡ flat d a b
unfolding flat
flat_by_size d a b =
    ap (λ (z : Float). le (absolute d) (z *ᶠ thirty_two))
    (same_product (ours a b) (scale a b) (from_one (ours a b) (ours_from_one a b)) (from_one (scale a b) (scale_from_one a b))
    (eq_of_le_le (ours a b) (scale a b) (ours_in_scale a b) (scale_in_ours a b)))
