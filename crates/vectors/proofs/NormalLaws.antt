-- What can be normalised, and that scaling lets nothing fail: the largest component is then from 1 to below 2, the dot finite and at least
-- 1. Assumes nothing.
use mathlib.Core.Path.{◌≡◌, refl, sym, ap, ◌∙◌, subst}
use mathlib.Core.Logic.{◌⊎◌, inl, inr, ⊎_elim}
use mathlib.Core.Bool.{Bool, true, false, not, ◌&&◌, cond, true≢false, false≢true, and-false}
use Prim.Native.Nat.{ℕ, ◌^◌}
use lib.Pow.{pow_pos}
use lib.Dec.{T, lit≤, lit<}
use lib.Ieee.{Float, nan, inf, fin, binary64, of_bits, lt, le, eq, ne, is_nan, fits}
use lib.Ieee.Exact.{HasValue}
use Rattle.arithmetic.specs.Basic.{is_finite, absolute}
use Rattle.arithmetic.specs.Extremes.{maximum_of}
use Rattle.arithmetic.specs.Root.{root_of}
use Rattle.arithmetic.specs.Scaling.{digits_of, scaled_by}
use Rattle.arithmetic.proofs.Order.{lt_of_lt_le, le_transitive, not_lt_of_le}
use Rattle.arithmetic.proofs.Numbers.{finite_number}
use Rattle.arithmetic.proofs.ExtremesOrder.{maximum_one, maximum_finite, maximum_above_first, maximum_above_second}
use Rattle.arithmetic.proofs.RoundedNumbers.{Unbounded, no_number, infinite, square_number, positive_sum_number}
use Rattle.arithmetic.proofs.ValueOrder.{lt_values}
use Rattle.arithmetic.proofs.WholeValues.{Is, add_is, mul_is, zero_is, zero_value}
use Rattle.arithmetic.proofs.Bounds.{Within, within_finite, wider, sum_within, product_within, FromOne, from_one, above_one}
use Rattle.arithmetic.proofs.Bounds.{square_from_one, sum_from_one, sum_from_one_second}
use Rattle.arithmetic.proofs.ScalingLaws.{Sized, sized, scaled_within, scaled_below_two, absolute_scaled, largest_from_one_to_two}
use Rattle.arithmetic.proofs.ScalingLaws.{digits_above, size_above_zero}
use Rattle.arithmetic.proofs.SignBit.{absolute_fits}
use Rattle.vectors.specs.Numbers.{◌+ᶠ◌, ◌*ᶠ◌, ◌/ᶠ◌, zeroᶠ, oneᶠ, min_positive, least_square, greatest_square}
use Rattle.vectors.specs.Vector.{finite_vec, zero_vec, normalizable, dot_tells, scaled_to_one, over_length, try_normalize, dot_of}
use Rattle.vectors.specs.Vector.{length_of}
use Rattle.vectors.specs.Vector.{tells_length, abs_of, max_element, each, vector}
use Rattle.vectors.specs.declared.vec3.Vec3.{Vec3}
use Rattle.std.specs.Prelude.{Option}
use Rattle.std.specs.Prelude.{Some, None}
use Rattle.vectors.proofs.FiniteVectors.{finite_x, finite_y, finite_z}
use Rattle.lists.proofs.JoinedTests.{and_first, and_second, and_both, and_three}
use Rattle.vectors.proofs.SquareLaws.{square_of_infinite, square_sign, first_sign, first_sum}

-- ---- what can be normalised
not_joined : (a b : Bool) → (a && not b) ≡ true → b ≡ false
not_joined true true h = absurd (false≢true h)
not_joined true false h = refl
not_joined false b h = absurd (false≢true h)

module _ (v : Vec3) (h : normalizable v ≡ true) where
  pub normalizable_finite : finite_vec v ≡ true
  unfolding normalizable
  normalizable_finite = and_first (finite_vec v) (not (zero_vec v)) h

  pub normalizable_not_zero : zero_vec v ≡ false
  unfolding normalizable
  normalizable_not_zero = not_joined (finite_vec v) (zero_vec v) h

-- "It fails only for a zero vector or a component that is not finite."
pub normalized_where : (v : Vec3) → normalizable v ≡ true → try_normalize v ≡ Some (over_length (cond (dot_tells v) v (scaled_to_one v)))
unfolding try_normalize
normalized_where v h = ap (λ (b : Bool). cond b (Some (over_length (cond (dot_tells v) v (scaled_to_one v)))) None) h

pub fails_where : (v : Vec3) → normalizable v ≡ false → try_normalize v ≡ None
unfolding try_normalize
fails_where v h = ap (λ (b : Bool). cond b (Some (over_length (cond (dot_tells v) v (scaled_to_one v)))) None) h

-- ---- a dot that tells
unbounded_not_finite : (x : Float) → Unbounded x → is_finite x ≡ false
unfolding is_finite
unbounded_not_finite nan no_number = refl
unbounded_not_finite (inf false) infinite = refl
unbounded_not_finite (inf true) x4 = elim x4 [ ]
unbounded_not_finite (fin _ _ _) x6 = elim x6 [ ]

square_zero : (x : Float) → Is x 0 0 → Is (x *ᶠ x) 0 0
square_zero x v = mul_is x x 0 0 0 0 v v (lit≤ tt) (lit≤ tt)

sum_zero : (x y : Float) → Is x 0 0 → Is y 0 0 → Is (x +ᶠ y) 0 0
sum_zero x y v w = add_is x y 0 0 0 0 v w (lit≤ tt) (lit≤ tt)

least_value : HasValue min_positive false 1 (2 ^ 1022)
unfolding of_bits
least_value = (refl, refl)

zero_below_least : (x : Float) → Is x 0 0 → lt x min_positive ≡ true
zero_below_least x v = go (zero_value x v).0 (zero_value x v).1
  where
    go : (s : Bool) → HasValue x s 0 1 → lt x min_positive ≡ true
    go false w = lt_values x min_positive false false 0 1 1 (2 ^ 1022) (lit< tt) (pow_pos 1022) w least_value
    go true w = lt_values x min_positive true false 0 1 1 (2 ^ 1022) (lit< tt) (pow_pos 1022) w least_value

module _ (v : Vec3) where
  dot_of_zero : zero_vec v ≡ true → lt (dot_of v v) min_positive ≡ true
  unfolding zero_vec dot_of
  dot_of_zero h =
      let x = and_first (eq v.x zeroᶠ) (eq v.y zeroᶠ && eq v.z zeroᶠ) h in
      let rest = and_second (eq v.x zeroᶠ) (eq v.y zeroᶠ && eq v.z zeroᶠ) h in
      let y = and_first (eq v.y zeroᶠ) (eq v.z zeroᶠ) rest in
      let z = and_second (eq v.y zeroᶠ) (eq v.z zeroᶠ) rest in
      zero_below_least (dot_of v v)
      (sum_zero (first_sum v) (v.z *ᶠ v.z)
      (sum_zero (v.x *ᶠ v.x) (v.y *ᶠ v.y) (square_zero v.x (zero_is v.x x)) (square_zero v.y (zero_is v.y y)))
      (square_zero v.z (zero_is v.z z)))

  -- where the dot is finite and at least 2^-1022, as the rule was, nothing has changed
  pub told_normalizable : dot_tells v ≡ true → normalizable v ≡ true
  unfolding dot_tells normalizable
  told_normalizable h = and_both (finite_vec v) (not (zero_vec v)) (go (finite_vec v) refl) (ap not (on (zero_vec v) refl))
    where
      go : (b : Bool) → finite_vec v ≡ b → finite_vec v ≡ true
      go true e = e
      go false e =
          absurd (true≢false
          (sym (and_first (is_finite (dot_of v v)) (not (lt (dot_of v v) min_positive)) h)
          ∙ unbounded_not_finite (dot_of v v) (square_of_infinite v e)))

      on : (b : Bool) → zero_vec v ≡ b → zero_vec v ≡ false
      on true e = absurd (true≢false (sym (dot_of_zero e) ∙ not_joined (is_finite (dot_of v v)) (lt (dot_of v v) min_positive) h))
      on false e = e

  pub unchanged_where_told : dot_tells v ≡ true → try_normalize v ≡ Some (over_length v)
  unchanged_where_told h = normalized_where v (told_normalizable h) ∙ ap (λ (b : Bool). Some (over_length (cond b v (scaled_to_one v)))) h

-- ---- the largest component
absolute_finite : (x : Float) → is_finite x ≡ true → is_finite (absolute x) ≡ true
unfolding is_finite absolute
absolute_finite nan h = h
absolute_finite (inf s) h = h
absolute_finite (fin s m e) h = refl

pub record Largest (v : Vec3) (most : Float) : Type 0 where
  pub above : lt zeroᶠ most ≡ true
  pub finite : is_finite most ≡ true
  pub first : le (absolute v.x) most ≡ true
  pub second : le (absolute v.y) most ≡ true
  pub third : le (absolute v.z) most ≡ true

module _ (v : Vec3) (h : finite_vec v ≡ true) where
  abbrev x : Float
  x = absolute v.x

  abbrev y : Float
  y = absolute v.y

  abbrev z : Float
  z = absolute v.z

  x_finite : is_finite x ≡ true
  x_finite = absolute_finite v.x (finite_x v h)

  y_finite : is_finite y ≡ true
  y_finite = absolute_finite v.y (finite_y v h)

  z_finite : is_finite z ≡ true
  z_finite = absolute_finite v.z (finite_z v h)

  both_finite : is_finite (maximum_of x y) ≡ true
  both_finite = maximum_finite x y x_finite y_finite

  most_finite : is_finite (max_element (abs_of v)) ≡ true
  unfolding max_element abs_of
  most_finite = maximum_finite (maximum_of x y) z both_finite z_finite

  above_both : le (maximum_of x y) (max_element (abs_of v)) ≡ true
  unfolding max_element abs_of
  above_both = maximum_above_first (maximum_of x y) z (finite_number (maximum_of x y) both_finite) (finite_number z z_finite)

  above_x : le x (max_element (abs_of v)) ≡ true
  above_x =
      le_transitive x (maximum_of x y) (max_element (abs_of v))
      (maximum_above_first x y (finite_number x x_finite) (finite_number y y_finite)) above_both

  above_y : le y (max_element (abs_of v)) ≡ true
  above_y =
      le_transitive y (maximum_of x y) (max_element (abs_of v))
      (maximum_above_second x y (finite_number x x_finite) (finite_number y y_finite)) above_both

  above_z : le z (max_element (abs_of v)) ≡ true
  unfolding max_element abs_of
  above_z = maximum_above_second (maximum_of x y) z (finite_number (maximum_of x y) both_finite) (finite_number z z_finite)

  most_above_zero : zero_vec v ≡ false → lt zeroᶠ (max_element (abs_of v)) ≡ true
  unfolding zero_vec
  most_above_zero n = go (eq v.x zeroᶠ) (eq v.y zeroᶠ) (eq v.z zeroᶠ) refl refl refl n
    where
      go : (a b c : Bool) → eq v.x zeroᶠ ≡ a → eq v.y zeroᶠ ≡ b → eq v.z zeroᶠ ≡ c → (a && (b && c)) ≡ false
          → lt zeroᶠ (max_element (abs_of v)) ≡ true
      go false b c p q r n = lt_of_lt_le zeroᶠ x (max_element (abs_of v)) (size_above_zero v.x (finite_x v h) p) above_x
      go true false c p q r n = lt_of_lt_le zeroᶠ y (max_element (abs_of v)) (size_above_zero v.y (finite_y v h) q) above_y
      go true true false p q r n = lt_of_lt_le zeroᶠ z (max_element (abs_of v)) (size_above_zero v.z (finite_z v h) r) above_z
      go true true true p q r n = absurd (true≢false n)

pub largest_of : (v : Vec3) → normalizable v ≡ true → Largest v (max_element (abs_of v))
largest_of v n =
    let h = normalizable_finite v n in
    record {
      above = most_above_zero v h
          (normalizable_not_zero v n);
      finite = most_finite v h;
      first = above_x v h;
      second = above_y v h;
      third = above_z v h;
    }

-- ---- what scaling makes of it, for a vector whose numbers are floats
pub record Fits (v : Vec3) : Type 0 where
  pub first : T (fits binary64 v.x)
  pub second : T (fits binary64 v.y)
  pub third : T (fits binary64 v.z)

abbrev two : Float
two = of_bits binary64 0x4000_0000_0000_0000

one_of : (P : Float → Type 0) (a b c : Float) → P a → P b → P c → P (maximum_of (maximum_of a b) c)
one_of P a b c p q r =
    ⊎_elim
    (λ e. subst P (sym e) (⊎_elim (λ f. subst P (sym f) p) (λ f. subst P (sym f) q) (maximum_one a b)))
    (λ e. subst P (sym e) r) (maximum_one (maximum_of a b) c)

-- one component is the largest
which : (a b c : Float) → (maximum_of (maximum_of a b) c ≡ a) ⊎ ((maximum_of (maximum_of a b) c ≡ b) ⊎ (maximum_of (maximum_of a b) c ≡ c))
which a b c =
    ⊎_elim
    (λ e. ⊎_elim (λ f. inl (e ∙ f)) (λ f. inr (inl (e ∙ f))) (maximum_one a b))
    (λ e. inr (inr e)) (maximum_one (maximum_of a b) c)

module _ (v : Vec3) (g : Fits v) (n : normalizable v ≡ true) where
  abbrev most : Float
  most = max_element (abs_of v)

  abbrev digits : ℕ
  digits = digits_of most

  told : Largest v most
  told = largest_of v n

  most_fits : T (fits binary64 most)
  unfolding max_element abs_of
  most_fits =
      one_of (λ (a : Float). T (fits binary64 a)) (absolute v.x) (absolute v.y) (absolute v.z)
      (absolute_fits v.x g.first) (absolute_fits v.y g.second) (absolute_fits v.z g.third)

  sized_x : Sized v.x most
  sized_x = sized v.x most g.first most_fits told.above told.finite told.first

  sized_y : Sized v.y most
  sized_y = sized v.y most g.second most_fits told.above told.finite told.second

  sized_z : Sized v.z most
  sized_z = sized v.z most g.third most_fits told.above told.finite told.third

  -- the component that is the largest comes to at least 1
  from_one_if : (a : Float) → most ≡ absolute a → FromOne (absolute (scaled_by digits a))
  from_one_if a e =
      let l = largest_from_one_to_two most most_fits told.finite (digits_above v.x most sized_x) in
      let same : absolute (scaled_by digits most) ≡ absolute (scaled_by digits a) =
      absolute_scaled digits most ∙ ap (λ (b : Float). scaled_by digits (absolute b)) e ∙ ap (scaled_by digits) (absolute_twice a)
      ∙ sym (absolute_scaled digits a) in
      from_one (absolute (scaled_by digits a)) (ap (le oneᶠ) (sym same) ∙ l.least)
    where
      absolute_twice : (b : Float) → absolute (absolute b) ≡ absolute b
      absolute_twice nan = unfold absolute in refl
      absolute_twice (inf s) = unfold absolute in refl
      absolute_twice (fin s m d) = unfold absolute in refl

  -- "at least 1 and below 2"
  pub scaled_below : lt (max_element (abs_of (scaled_to_one v))) two ≡ true
  unfolding max_element abs_of scaled_to_one
  scaled_below =
      one_of (λ (a : Float). lt a two ≡ true) (absolute (scaled_by digits v.x)) (absolute (scaled_by digits v.y))
      (absolute (scaled_by digits v.z))
      (scaled_below_two v.x most sized_x most_fits told.finite)
      (scaled_below_two v.y most sized_y most_fits told.finite)
      (scaled_below_two v.z most sized_z most_fits told.finite)

  x_within : Within 1 (scaled_by digits v.x)
  x_within = scaled_within v.x most sized_x

  y_within : Within 1 (scaled_by digits v.y)
  y_within = scaled_within v.y most sized_y

  z_within : Within 1 (scaled_by digits v.z)
  z_within = scaled_within v.z most sized_z

  scaled_finite : finite_vec (scaled_to_one v) ≡ true
  unfolding finite_vec scaled_to_one
  scaled_finite =
      and_three (is_finite (scaled_by digits v.x)) (is_finite (scaled_by digits v.y)) (is_finite (scaled_by digits v.z))
      (within_finite x_within) (within_finite y_within) (within_finite z_within)

  pub scaled_from_one : le oneᶠ (max_element (abs_of (scaled_to_one v))) ≡ true
  unfolding max_element abs_of scaled_to_one
  scaled_from_one =
      ⊎_elim (λ e. reach (scaled_by digits v.x) (from_one_if v.x e) (above_x (scaled_to_one v) scaled_finite))
      (⊎_elim (λ e. reach (scaled_by digits v.y) (from_one_if v.y e) (above_y (scaled_to_one v) scaled_finite))
      (λ e. reach (scaled_by digits v.z) (from_one_if v.z e) (above_z (scaled_to_one v) scaled_finite)))
      (which (absolute v.x) (absolute v.y) (absolute v.z))
    where
      reach : (a : Float) → FromOne (absolute a) → le (absolute a) (max_element (abs_of (scaled_to_one v))) ≡ true
          → le oneᶠ (max_element (abs_of (scaled_to_one v))) ≡ true
      reach a f l = le_transitive oneᶠ (absolute a) (max_element (abs_of (scaled_to_one v))) (above_one (absolute a) f) l

  -- the dot
  pub scaled_dot_finite : is_finite (dot_of (scaled_to_one v) (scaled_to_one v)) ≡ true
  unfolding dot_of scaled_to_one
  scaled_dot_finite =
      let square : (a : Float) → Within 1 a → Within 2 (a *ᶠ a) =
      λ (a : Float) (w : Within 1 a). product_within {k = 1} {j = 1} (lit≤ tt) w w in
      let one-two = sum_within {k = 2} (lit≤ tt) (square (scaled_by digits v.x) x_within) (square (scaled_by digits v.y) y_within) in
      within_finite (sum_within {k = 3} (lit≤ tt) one-two (wider {k = 2} {j = 3} (lit≤ tt) (square (scaled_by digits v.z) z_within)))

  square_is_number : (a : Float) → Within 1 a → is_nan (a *ᶠ a) ≡ false
  square_is_number a w = square_number binary64 a (within_finite w)

  pub scaled_dot_from_one : le oneᶠ (dot_of (scaled_to_one v) (scaled_to_one v)) ≡ true
  unfolding dot_of scaled_to_one max_element abs_of
  scaled_dot_from_one =
      let w = scaled_to_one v in
      let nx = square_is_number (scaled_by digits v.x) x_within in
      let ny = square_is_number (scaled_by digits v.y) y_within in
      let nz = square_is_number (scaled_by digits v.z) z_within in
      let n2 = positive_sum_number binary64 (w.x *ᶠ w.x) (w.y *ᶠ w.y) (square_sign w w.x) (square_sign w w.y) nx ny in
      above_one (dot_of w w)
      (⊎_elim
      (λ e. sum_from_one (first_sum w) (w.z *ᶠ w.z)
      (sum_from_one (w.x *ᶠ w.x) (w.y *ᶠ w.y) (square_from_one w.x (from_one_if v.x e)) (square_sign w w.y) ny)
      (square_sign w w.z) nz)
      (⊎_elim
      (λ e. sum_from_one (first_sum w) (w.z *ᶠ w.z)
      (sum_from_one_second (w.x *ᶠ w.x) (w.y *ᶠ w.y) (square_sign w w.x) nx (square_from_one w.y (from_one_if v.y e)))
      (square_sign w w.z) nz)
      (λ e. sum_from_one_second (first_sum w) (w.z *ᶠ w.z) (first_sign w) n2 (square_from_one w.z (from_one_if v.z e))))
      (which (absolute v.x) (absolute v.y) (absolute v.z)))

  least_at_most_one : le min_positive oneᶠ ≡ true
  unfolding of_bits le
  least_at_most_one = refl

  -- so that the scaled vector's dot tells its length
  pub scaled_dot_tells : dot_tells (scaled_to_one v) ≡ true
  unfolding dot_tells
  scaled_dot_tells =
      let d = dot_of (scaled_to_one v) (scaled_to_one v) in
      and_both (is_finite d) (not (lt d min_positive)) scaled_dot_finite
      (ap not (not_lt_of_le min_positive d (le_transitive min_positive oneᶠ d least_at_most_one scaled_dot_from_one)))

-- ---- as `is_normalizable` asks
ne_is : (x y : Float) → ne x y ≡ not (eq x y)
unfolding ne
ne_is x y = refl

joined : (f a b c : Bool) → not a ≡ true → f ≡ true → true ≡ (f && not (a && (b && c)))
joined true false b c p h = refl
joined true true b c p h = absurd (false≢true p)
joined false a b c p h = absurd (false≢true h)

joined_second : (f a b c : Bool) → not a ≡ false → not b ≡ true → f ≡ true → true ≡ (f && not (a && (b && c)))
joined_second true true false c p q h = refl
joined_second true true true c p q h = absurd (false≢true q)
joined_second true false b c p q h = absurd (true≢false p)
joined_second false a b c p q h = absurd (false≢true h)

joined_third : (f a b c : Bool) → not a ≡ false → not b ≡ false → f ≡ true → not c ≡ (f && not (a && (b && c)))
joined_third true true true c p q h = refl
joined_third true true false c p q h = absurd (true≢false q)
joined_third true false b c p q h = absurd (true≢false p)
joined_third false a b c p q h = absurd (false≢true h)

module _ (v : Vec3) where
  pub not_finite_told : finite_vec v ≡ false → false ≡ normalizable v
  unfolding normalizable
  not_finite_told h = sym (ap (λ (b : Bool). b && not (zero_vec v)) h)

  pub first_told : finite_vec v ≡ true → ne v.x zeroᶠ ≡ true → true ≡ normalizable v
  unfolding normalizable zero_vec
  first_told h p = joined (finite_vec v) (eq v.x zeroᶠ) (eq v.y zeroᶠ) (eq v.z zeroᶠ) (sym (ne_is v.x zeroᶠ) ∙ p) h

  pub second_told : finite_vec v ≡ true → ne v.x zeroᶠ ≡ false → ne v.y zeroᶠ ≡ true → true ≡ normalizable v
  unfolding normalizable zero_vec
  second_told h p q =
      joined_second (finite_vec v) (eq v.x zeroᶠ) (eq v.y zeroᶠ) (eq v.z zeroᶠ)
      (sym (ne_is v.x zeroᶠ) ∙ p) (sym (ne_is v.y zeroᶠ) ∙ q) h

  pub third_told : finite_vec v ≡ true → ne v.x zeroᶠ ≡ false → ne v.y zeroᶠ ≡ false → ne v.z zeroᶠ ≡ normalizable v
  unfolding normalizable zero_vec
  third_told h p q =
      ne_is v.z zeroᶠ
      ∙ joined_third (finite_vec v) (eq v.x zeroᶠ) (eq v.y zeroᶠ) (eq v.z zeroᶠ)
      (sym (ne_is v.x zeroᶠ) ∙ p) (sym (ne_is v.y zeroᶠ) ∙ q) h

  -- ---- as the steps of `try_normalize` compute
  pub scaled_told : (m a b c : Float) → m ≡ max_element (abs_of v) → a ≡ scaled_by (digits_of m) v.x → b ≡ scaled_by (digits_of m) v.y
      → c ≡ scaled_by (digits_of m) v.z
      → vector a b c ≡ scaled_to_one v
  unfolding scaled_to_one
  scaled_told m a b c e p q r =
      ap (λ (z : Float). vector z b c) p
      ∙ ap (λ (z : Float). vector (scaled_by (digits_of m) v.x) z c) q
      ∙ ap (λ (z : Float). vector (scaled_by (digits_of m) v.x) (scaled_by (digits_of m) v.y) z) r
      ∙ ap (λ (z : Float). each (scaled_by (digits_of z)) v) e

  pub over_told : (square length : Float) → square ≡ dot_of v v → length ≡ root_of square
      → vector (v.x /ᶠ length) (v.y /ᶠ length) (v.z /ᶠ length) ≡ over_length v
  unfolding over_length length_of
  over_told square length e l = ap (λ (z : Float). each (λ (c : Float). c /ᶠ z) v) (l ∙ ap root_of e)

  abbrev pub after_scaling : Option Vec3
  after_scaling = cond (normalizable v) (Some (over_length (scaled_to_one v))) None

  pub degenerate_told : normalizable v ≡ false → None ≡ after_scaling
  degenerate_told h = sym (ap (λ (b : Bool). cond b (Some (over_length (scaled_to_one v))) None) h)

  pub scaling_told : (w u : Vec3) → normalizable v ≡ true → w ≡ scaled_to_one v → u ≡ over_length w → Some u ≡ after_scaling
  scaling_told w u h e p =
      ap Some (p ∙ ap over_length e) ∙ sym (ap (λ (b : Bool). cond b (Some (over_length (scaled_to_one v))) None) h)

  after_scaling_lem : dot_tells v ≡ false → after_scaling ≡ try_normalize v
  unfolding try_normalize
  after_scaling_lem h = sym (ap (λ (b : Bool). cond (normalizable v) (Some (over_length (cond b v (scaled_to_one v)))) None) h)

  pub not_finite_scaled : (d : Float) → d ≡ dot_of v v → is_finite d ≡ false → after_scaling ≡ try_normalize v
  unfolding dot_tells
  not_finite_scaled d e h = after_scaling_lem (ap (λ (b : Bool). b && not (lt (dot_of v v) min_positive)) (sym (ap is_finite e) ∙ h))

  pub small_scaled : (d : Float) → d ≡ dot_of v v → lt d min_positive ≡ true → after_scaling ≡ try_normalize v
  unfolding dot_tells
  small_scaled d e h =
      after_scaling_lem
      (ap (λ (b : Bool). is_finite (dot_of v v) && not b) (sym (ap (λ (z : Float). lt z min_positive) e) ∙ h)
      ∙ and-false (is_finite (dot_of v v)))

  dot_tells_lem : (d : Float) → d ≡ dot_of v v → is_finite d ≡ true → lt d min_positive ≡ false → dot_tells v ≡ true
  unfolding dot_tells
  dot_tells_lem d e p q =
      and_both (is_finite (dot_of v v)) (not (lt (dot_of v v) min_positive)) (sym (ap is_finite e) ∙ p)
      (ap not (sym (ap (λ (z : Float). lt z min_positive) e) ∙ q))

  pub told_direction : (d : Float) → d ≡ dot_of v v → is_finite d ≡ true → lt d min_positive ≡ false → true ≡ normalizable v
  told_direction d e p q = sym (told_normalizable v (dot_tells_lem d e p q))

  pub told_unit : (d : Float) (u : Vec3) → d ≡ dot_of v v → is_finite d ≡ true → lt d min_positive ≡ false → u ≡ over_length v
      → Some u ≡ try_normalize v
  told_unit d u e p q o = ap Some o ∙ sym (unchanged_where_told v (dot_tells_lem d e p q))

-- ---- as `tells_length` asks: 1e-300 is at least 2^-1022, and 1e300 finite
between_finite : (x : Float) → le least_square x ≡ true → le x greatest_square ≡ true → is_finite x ≡ true
unfolding is_finite le of_bits
between_finite nan p q = absurd (false≢true q)
between_finite (inf false) p q = absurd (false≢true q)
between_finite (inf true) p q = absurd (false≢true p)
between_finite (fin s m e) p q = refl

least_normal : le min_positive least_square ≡ true
unfolding of_bits le
least_normal = refl

pub between_tells : (x : Float) (passed : Bool) → passed ≡ tells_length x → passed ≡ true → (is_finite x ≡ true)
    × (lt x min_positive ≡ false)
unfolding tells_length
between_tells x passed e h =
    let above = and_first (le least_square x) (le x greatest_square) (sym e ∙ h) in
    let below = and_second (le least_square x) (le x greatest_square) (sym e ∙ h) in
    (between_finite x above below, not_lt_of_le min_positive x (le_transitive min_positive least_square x least_normal above))
