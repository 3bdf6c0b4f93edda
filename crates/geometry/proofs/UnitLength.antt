-- Whether a length is more than 1e-12 from 1 is told by its square: the root grows with the square, and its distance from 1 grows on either
-- side of 1.
-- So two squares decide, 1 - 2e-12 and 1 + 2e-12 as floats. Their roots and those of the next floats outside are computed. Assumes nothing.
use mathlib.Core.Path.{◌≡◌, refl, sym, ap, ◌∙◌, subst}
use mathlib.Core.Bool.{Bool, true, false, not, ◌&&◌, true≢false, and_assoc, and-false}
use Prim.Native.Nat.{zero, suc}
use native.Mathlib.Nat.{zero-lt-suc}
use lib.IntN.{ℤ, pos}
use lib.Dec.{T, lit≤, lt→ltb}
use lib.Ieee.{Float, nan, inf, fin, binary64, of_bits, size, units, sub, lt, le, fits, is_nan}
use lib.Ieee.Fits.{add-fits}
use lib.Ieee.Bits.{is_true, of_bits-fits}
use lib.Ieee.Positive.{positive}
use Rattle.arithmetic.specs.Basic.{absolute, negative}
use Rattle.arithmetic.specs.Root.{root_digits, whole_root, root_round, root_of}
use Rattle.arithmetic.proofs.DistanceFromOne.{one, from_one, nearer_below_one, farther_above_one}
use Rattle.arithmetic.proofs.Neighbours.{Neighbours, below_upper, above_lower}
use Rattle.arithmetic.proofs.Order.{le_nan_false, nan_le_false, le_left_number, le_right_number, le_of_lt, le_is_not_lt, le_of_not_lt}
use Rattle.arithmetic.proofs.Order.{lt_of_not_le, not_lt_of_le, le_transitive, lt_of_lt_le}
use Rattle.arithmetic.proofs.RootLaws.{root_positive, root_grows, positive_unsigned, zero_below}
use Rattle.arithmetic.proofs.RoundedSigns.{square_not_negative, sum_not_negative}
use Rattle.arithmetic.proofs.Signs.{zero_exp}
use Rattle.vectors.specs.Numbers.{◌-ᶠ◌, oneᶠ, tolerance}
use Rattle.arithmetic.proofs.RoundedNumbers.{Unbounded, no_number, infinite}
use Rattle.vectors.specs.Vector.{dot_of, length_of, finite_vec}
use Rattle.geometry.specs.Segment.{unit_length, close_to_unit_length, range_admitted, ray_admitted}
use Rattle.vectors.proofs.SquareLaws.{square_of_infinite, square_of_finite}
use Rattle.vectors.specs.declared.vec3.Vec3.{Vec3}
use Rattle.geometry.specs.declared.ray.Ray.{Ray}

-- ---- the squares on both sides of the two bounds
abbrev short : Float
short = of_bits binary64 0x3fef_ffff_ffff_b9a1

-- 0.999999999998
abbrev pub least_square : Float
least_square = of_bits binary64 0x3fef_ffff_ffff_b9a2

-- 1.000000000002
abbrev pub greatest_square : Float
greatest_square = of_bits binary64 0x3ff0_0000_0000_232f

abbrev long : Float
long = of_bits binary64 0x3ff0_0000_0000_2330

short_beside_least : Neighbours short least_square 0x1f_ffff_ffff_b9a1 1021
unfolding of_bits
short_beside_least = record { digits = lit≤ tt; lower = (refl, refl); upper = (refl, refl) }

most_beside_long : Neighbours greatest_square long 0x10_0000_0000_232f 1022
unfolding of_bits
most_beside_long = record { digits = lit≤ tt; lower = (refl, refl); upper = (refl, refl) }

-- ---- their roots, computed
short_root : (le (root_of short) one ≡ true) × (lt tolerance (from_one (root_of short)) ≡ true)
unfolding of_bits root_of root_round whole_root root_digits size units absolute sub lt le
short_root = (refl, refl)

least_root : le (from_one (root_of least_square)) tolerance ≡ true
unfolding of_bits root_of root_round whole_root root_digits size units absolute sub le
least_root = refl

most_root : le (from_one (root_of greatest_square)) tolerance ≡ true
unfolding of_bits root_of root_round whole_root root_digits size units absolute sub le
most_root = refl

long_root : (le one (root_of long) ≡ true) × (lt tolerance (from_one (root_of long)) ≡ true)
unfolding of_bits root_of root_round whole_root root_digits size units absolute sub lt le
long_root = (refl, refl)

short_above : T (positive short) × T (positive least_square)
unfolding of_bits
short_above = (tt, tt)

most_above : T (positive greatest_square) × T (positive long)
unfolding of_bits
most_above = (tt, tt)

bounds_numbers : (is_nan least_square ≡ false) × (is_nan greatest_square ≡ false)
unfolding of_bits is_nan
bounds_numbers = (refl, refl)

-- ---- where the square x and the distance d of its root from 1 lie
data Place (x d : Float) : Type 0 where
  below : lt x least_square ≡ true → lt tolerance d ≡ true → Place x d
  within : le least_square x ≡ true → le x greatest_square ≡ true → le d tolerance ≡ true → Place x d
  above : lt greatest_square x ≡ true → lt tolerance d ≡ true → Place x d
  neither : x ≡ nan → d ≡ nan → Place x d

of_true : (b : Bool) → b ≡ true → T b
of_true b h = subst T (sym h) tt

grown : (x y : Float) → T (positive x) → T (fits binary64 x) → T (fits binary64 y) → T (le x y) → T (le (root_of x) (root_of y))
grown x y p f g h = root_grows x y f g (zero_below false (pos 0) x p) h

module _ (x : Float) (p : T (positive x)) (f : T (fits binary64 x)) where
  too_short : lt x least_square ≡ true → lt tolerance (from_one (root_of x)) ≡ true
  too_short h =
      let g = grown x short p f (of_bits-fits binary64 _)
      (below_upper short least_square x _ _ short_beside_least (positive_unsigned x p) f (of_true (lt x least_square) h)) in
      let n = nearer_below_one (root_of x) (root_of short) (root_positive x p f)
      (root_positive short short_above.0 (of_bits-fits binary64 _)) g (of_true (le (root_of short) one) short_root.0) in
      lt_of_lt_le tolerance (from_one (root_of short)) (from_one (root_of x)) short_root.1
      (is_true (le (from_one (root_of short)) (from_one (root_of x))) n)

  too_long : lt greatest_square x ≡ true → lt tolerance (from_one (root_of x)) ≡ true
  too_long h =
      let g = grown long x most_above.1 (of_bits-fits binary64 _) f
      (above_lower greatest_square long x _ _ most_beside_long (positive_unsigned x p) f (of_true (lt greatest_square x) h)) in
      let n = farther_above_one (root_of long) (root_of x) (root_positive long most_above.1 (of_bits-fits binary64 _)) (root_positive x p f)
      g (of_true (le one (root_of long)) long_root.0) in
      lt_of_lt_le tolerance (from_one (root_of long)) (from_one (root_of x)) long_root.1
      (is_true (le (from_one (root_of long)) (from_one (root_of x))) n)

  near_enough : le least_square x ≡ true → le x greatest_square ≡ true → le (from_one (root_of x)) tolerance ≡ true
  near_enough h k = go (le (root_of x) one) refl
    where
      low : T (le (root_of least_square) (root_of x))
      low = grown least_square x short_above.1 (of_bits-fits binary64 _) f (of_true (le least_square x) h)

      high : T (le (root_of x) (root_of greatest_square))
      high = grown x greatest_square p f (of_bits-fits binary64 _) (of_true (le x greatest_square) k)

      go : (b : Bool) → le (root_of x) one ≡ b → le (from_one (root_of x)) tolerance ≡ true
      go true e =
          let n = nearer_below_one (root_of least_square) (root_of x) (root_positive least_square short_above.1 (of_bits-fits binary64 _))
          (root_positive x p f) low (of_true (le (root_of x) one) e) in
          le_transitive (from_one (root_of x)) (from_one (root_of least_square)) tolerance
          (is_true (le (from_one (root_of x)) (from_one (root_of least_square))) n) least_root
      go false e =
          let a = lt_of_not_le one (root_of x) (unfold is_nan in refl)
          (le_right_number (root_of least_square) (root_of x) (is_true (le (root_of least_square) (root_of x)) low)) e in
          let n = farther_above_one (root_of x) (root_of greatest_square) (root_positive x p f)
          (root_positive greatest_square most_above.0 (of_bits-fits binary64 _)) high
          (of_true (le one (root_of x)) (le_of_lt one (root_of x) a)) in
          le_transitive (from_one (root_of x)) (from_one (root_of greatest_square)) tolerance
          (is_true (le (from_one (root_of x)) (from_one (root_of greatest_square))) n) most_root

  positive_place : is_nan x ≡ false → Place x (from_one (root_of x))
  positive_place n = go (lt x least_square) (lt greatest_square x) refl refl
    where
      go : (a b : Bool) → lt x least_square ≡ a → lt greatest_square x ≡ b → Place x (from_one (root_of x))
      go true b h k = below h (too_short h)
      go false true h k = above k (too_long k)
      go false false h k =
          let l = le_of_not_lt least_square x bounds_numbers.0 n h in
          let u = le_of_not_lt x greatest_square n bounds_numbers.1 k in
          within l u (near_enough l u)

zero_place : Place (fin false zero (pos 0)) (from_one (root_of (fin false zero (pos 0))))
unfolding of_bits root_of absolute sub lt
zero_place = below refl refl

infinite_place : Place (inf false) (from_one (root_of (inf false)))
unfolding of_bits root_of absolute sub lt
infinite_place = above refl refl

place : (x : Float) → T (fits binary64 x) → negative x ≡ false → Place x (from_one (root_of x))
place nan f n = neither refl (unfold root_of absolute sub in refl)
place (inf true) f n = absurd (true≢false (unfold negative in n))
place (inf false) f n = infinite_place
place (fin true m e) f n = absurd (true≢false (unfold negative in n))
place (fin false zero e) f n = subst (λ (k : ℤ). Place (fin false zero k) (from_one (root_of (fin false zero k))))
    (sym (zero_exp false e f))
    zero_place
place (fin false (suc m) e) f n = positive_place (fin false (suc m) e) (lt→ltb 0 (suc m) (zero-lt-suc m)) f (unfold is_nan in refl)

-- ---- the two tests
above_not_le : (x y : Float) → lt y x ≡ true → le x y ≡ false
above_not_le x y h =
    let l = le_of_lt y x h in
    le_is_not_lt x y (le_right_number y x l) (le_left_number y x l) ∙ ap not h

close : (x d : Float) → Place x d → le d tolerance ≡ (le least_square x && le x greatest_square)
close x d (below h k) = above_not_le d tolerance k ∙ ap (λ (b : Bool). b && le x greatest_square) (sym (above_not_le least_square x h))
close x d (within l u k) = k ∙ sym (ap (λ (b : Bool). b && le x greatest_square) l ∙ u)
close x d (above h k) = above_not_le d tolerance k ∙ sym (and-false (le least_square x)) ∙ ap (λ (b : Bool). le least_square x && b)
    (sym (above_not_le x greatest_square h))
close x d (neither p q) =
    ap (λ (z : Float). le z tolerance) q
    ∙ nan_le_false tolerance
    ∙ ap (λ (b : Bool). b && le nan greatest_square) (sym (le_nan_false least_square))
    ∙ ap (λ (z : Float). le least_square z && le z greatest_square) (sym p)

-- ---- a vector's
one_is : one ≡ oneᶠ
unfolding of_bits
one_is = refl

square_place : (v : Vec3) → Place (dot_of v v) (absolute (length_of v -ᶠ oneᶠ))
unfolding dot_of length_of
square_place v =
    subst (λ (z : Float). Place (dot_of v v) (absolute (length_of v -ᶠ z))) one_is
    (place (dot_of v v) (add-fits binary64 _ _)
    (sum_not_negative binary64 _ _
    (sum_not_negative binary64 _ _ (square_not_negative binary64 v.x) (square_not_negative binary64 v.y))
    (square_not_negative binary64 v.z)))

pub close_by_square : (v : Vec3) → le (absolute (length_of v -ᶠ oneᶠ)) tolerance ≡
    (le least_square (dot_of v v) && le (dot_of v v) greatest_square)
close_by_square v = close (dot_of v v) (absolute (length_of v -ᶠ oneᶠ)) (square_place v)

-- ---- a length that is close to 1 tells that the components are finite
unbounded_above : (x : Float) → Unbounded x → le x greatest_square ≡ false
unfolding of_bits le
unbounded_above nan no_number = refl
unbounded_above (inf false) infinite = refl
unbounded_above (inf true) x4 = elim x4 [ ]
unbounded_above (fin _ _ _) x6 = elim x6 [ ]

-- where the square is a number, "not more than" and "within" are one
same_at_number : (x d : Float) → Place x d → is_nan x ≡ false → not (lt tolerance d) ≡ le d tolerance
same_at_number x d (below h k) n = ap not k ∙ sym (above_not_le d tolerance k)
same_at_number x d (within l u k) n = ap not (not_lt_of_le d tolerance k) ∙ sym k
same_at_number x d (above h k) n = ap not k ∙ sym (above_not_le d tolerance k)
same_at_number x d (neither p q) n = absurd (true≢false (sym (ap is_nan p ∙ unfold is_nan in refl) ∙ n))

-- so one test serves for both that rays are asked for
finite_and_unit : (v : Vec3) → (finite_vec v && unit_length v) ≡ close_to_unit_length v
unfolding unit_length
finite_and_unit v = go (finite_vec v) refl
  where
    go : (b : Bool) → finite_vec v ≡ b → (b && not (lt tolerance (absolute (length_of v -ᶠ oneᶠ)))) ≡ le (absolute (length_of v -ᶠ oneᶠ))
        tolerance
    go true h = same_at_number (dot_of v v) (absolute (length_of v -ᶠ oneᶠ)) (square_place v) (square_of_finite v h)
    go false h =
        sym
        (close_by_square v
        ∙ ap (λ (b : Bool). le least_square (dot_of v v) && b) (unbounded_above (dot_of v v) (square_of_infinite v h))
        ∙ and-false (le least_square (dot_of v v)))

-- not refusal 1, by that test
pub admitted_is : (r : Ray) → ray_admitted r ≡ (finite_vec r.origin && (close_to_unit_length r.direction && range_admitted r))
unfolding ray_admitted
admitted_is r =
    ap (λ (b : Bool). finite_vec r.origin && b)
    (sym (and_assoc (finite_vec r.direction) (unit_length r.direction) _)
    ∙ ap (λ (b : Bool). b && range_admitted r) (finite_and_unit r.direction))
