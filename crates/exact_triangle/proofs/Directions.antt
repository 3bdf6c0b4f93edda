-- A ray that is admitted is read on the grid unless its origin or an end is out of range: its direction has length 1, so that no component
-- is above 2. Assumes nothing.
use Rattle.std.proofs.Common.{◌≡◌, ℕ, ◌+◌, ◌*◌, ◌<◌, ◌≤◌, Bool, true, false, not, ◌&&◌, ltb, ℤ, pos, sym, refl, ap, ◌∙◌, subst, true≢false}
use Rattle.std.proofs.Common.{mul-le-mul_right, mul-pos, arith, lit<, ltb-false, ltb-true, le-ltb}
use mathlib.Core.Bool.{false≢true}
use borrow.Author.Tests.{not-true, not-false}
use lib.Ieee.{Float, nan, inf, fin, binary64, up, down, round, units, odd, size, climb, span, sum, add, mul, of_bits, of_fields, le, lt, eq}
use lib.Ieee.{is_nan}
use lib.Ieee.Fits.{down_pos}
use Rattle.lists.proofs.JoinedTests.{and_first, and_second, and_three}
use Rattle.arithmetic.specs.Basic.{is_finite, absolute, negative}
use Rattle.arithmetic.proofs.Order.{le_transitive, le_left_number, lt_of_not_le}
use Rattle.arithmetic.proofs.SumOrder.{le_parts}
use Rattle.arithmetic.proofs.RoundedOrder.{plain_mono}
use Rattle.arithmetic.proofs.RoundedSigns.{round_not_negative}
use Rattle.arithmetic.proofs.ValueOrder.{lt_values, le_values}
use Rattle.vectors.specs.Numbers.{zeroᶠ}
use Rattle.vectors.specs.Vector.{finite_vec, dot_of}
use Rattle.vectors.specs.declared.vec3.Vec3.{Vec3}
use Rattle.vectors.proofs.Constants.{zero_is}
use Rattle.geometry.specs.Segment.{ray_admitted, range_admitted, close_to_unit_length}
use Rattle.geometry.specs.declared.ray.Ray.{Ray}
use Rattle.geometry.proofs.UnitLength.{least_square, greatest_square, close_by_square, admitted_is}
use Rattle.exact_triangle.specs.Grid.{within, all_within, two, furthest, longest, grid_admitted}
use Rattle.exact_triangle.proofs.Touching.{FiniteAt, finite_at, two_is, longest_is}
use Rattle.exact_triangle.proofs.Moving.{square_is, add_is}

-- ---- a number that is not below 0, or infinity
data Plain : Float → Type 0 where
  endless : Plain (inf false)
  plain : (m : ℕ) (e : ℤ) → Plain (fin false m e)

plain_of : (x : Float) → negative x ≡ false → is_nan x ≡ false → Plain x
unfolding negative is_nan
plain_of nan n h = absurd (true≢false h)
plain_of (inf true) n h = absurd (true≢false n)
plain_of (inf false) n h = endless
plain_of (fin true m e) n h = absurd (true≢false n)
plain_of (fin false m e) n h = plain m e

round_plain : (a c : ℕ) → 0 < c → Plain (round binary64 false a c)
round_plain a c p =
    let x = round binary64 false a c in
    plain_of x (round_not_negative binary64 a c) (le_left_number x x (plain_mono a c a c p p (omega arith)))

square_plain : (x : Float) → is_finite x ≡ true → Plain (mul binary64 x x)
unfolding is_finite
square_plain nan f = absurd (false≢true f)
square_plain (inf s) f = absurd (false≢true f)
square_plain (fin s m e) f =
    subst Plain (sym (square_is s m e))
    (round_plain (m * up e * (m * up e)) (down e * down e) (mul-pos (down_pos e) (down_pos e)))

sum_plain : (x y : Float) → Plain x → Plain y → Plain (add binary64 x y)
unfolding add sum
sum_plain x y endless endless = endless
sum_plain x y endless (plain n d) = endless
sum_plain x y (plain m e) endless = endless
sum_plain x y (plain m e) (plain n d) =
    subst Plain (sym (add_is m e n d))
    (round_plain (m * up e * down d + n * up d * down e) (down e * down d) (mul-pos (down_pos e) (down_pos d)))

-- ---- 4 and more stays 4 and more in a sum
abbrev four : Float
four = fin false 1 (pos 2)

four_rounds : round binary64 false 4 1 ≡ four
unfolding round units odd size climb span
four_rounds = refl

four_endless : le four (inf false) ≡ true
unfolding le lt eq
four_endless = refl

four_parts : (m : ℕ) (e : ℤ) → le four (fin false m e) ≡ true → 4 * down e ≤ m * up e
four_parts m e h =
    let p = le_parts four (fin false m e) (unfold is_finite in refl) (unfold is_finite in refl) h in
    omega (arith, p)

four_round : (a c : ℕ) → 0 < c → 4 * c ≤ a → le four (round binary64 false a c) ≡ true
four_round a c p h =
    sym (ap (λ (x : Float). le x (round binary64 false a c)) four_rounds) ∙ plain_mono 4 1 a c (lit< tt) p (omega (arith, h))

sum_four : (x y : Float) → Plain x → Plain y → le four x ≡ true → le four (add binary64 x y) ≡ true
unfolding add sum
sum_four x y endless endless h = four_endless
sum_four x y endless (plain n d) h = four_endless
sum_four x y (plain m e) endless h = four_endless
sum_four x y (plain m e) (plain n d) h =
    let k : 4 * down e * down d ≤ m * up e * down d = mul-le-mul_right (down d) (four_parts m e h) in
    ap (le four) (add_is m e n d)
    ∙ four_round (m * up e * down d + n * up d * down e) (down e * down d) (mul-pos (down_pos e) (down_pos d)) (omega (arith, k))

sum_four_second : (x y : Float) → Plain x → Plain y → le four y ≡ true → le four (add binary64 x y) ≡ true
unfolding add sum
sum_four_second x y endless endless h = four_endless
sum_four_second x y endless (plain n d) h = four_endless
sum_four_second x y (plain m e) endless h = four_endless
sum_four_second x y (plain m e) (plain n d) h =
    let k : 4 * down d * down e ≤ n * up d * down e = mul-le-mul_right (down e) (four_parts n d h) in
    ap (le four) (add_is m e n d)
    ∙ four_round (m * up e * down d + n * up d * down e) (down e * down d) (mul-pos (down_pos e) (down_pos d)) (omega (arith, k))

-- ---- a component above 2 has a square of 4 and more
squares : (a d : ℕ) → 2 * d < a → 4 * (d * d) ≤ a * a
squares a d h =
    let h₁ : 2 * d * a ≤ a * a = mul-le-mul_right a (omega (arith, h)) in
    let h₂ : 2 * d * d ≤ a * d = mul-le-mul_right d (omega (arith, h)) in
    omega (arith, h₁, h₂)

not_within : (m : ℕ) (e : ℤ) → le (fin false m e) (fin false 1 (pos 1)) ≡ false → 2 * down e < m * up e
not_within m e h =
    let v =
    le_values (fin false m e) (fin false 1 (pos 1)) false false (m * up e) (down e) 2 1 (down_pos e) (lit< tt) (refl, refl)
    (refl, refl) in
    let l = ltb-true (2 * down e) (m * up e * 1) (not-false (ltb (2 * down e) (m * up e * 1)) (sym v ∙ h)) in
    omega (arith, l)

square_four : (x : Float) → is_finite x ≡ true → within two x ≡ false → le four (mul binary64 x x) ≡ true
square_four x f h = go x f (ap (le (absolute x)) (sym two_is) ∙ h)
  where
    go : (x : Float) → is_finite x ≡ true → le (absolute x) (fin false 1 (pos 1)) ≡ false → le four (mul binary64 x x) ≡ true
    go nan f h = unfold is_finite in absurd (false≢true f)
    go (inf s) f h = unfold is_finite in absurd (false≢true f)
    go (fin s m e) f h =
        ap (le four) (square_is s m e)
        ∙ four_round (m * up e * (m * up e)) (down e * down e) (mul-pos (down_pos e) (down_pos e))
        (squares (m * up e) (down e) (not_within m e (unfold absolute in h)))

-- ---- the direction of an admitted ray
four_too_long : le four greatest_square ≡ true → ⊥
unfolding of_bits of_fields le lt eq
four_too_long h = false≢true h

module _ (v : Vec3) (f : FiniteAt v) (short : le (dot_of v v) greatest_square ≡ true) where
  abbrev x : Float
  x = mul binary64 v.x v.x

  abbrev y : Float
  y = mul binary64 v.y v.y

  abbrev z : Float
  z = mul binary64 v.z v.z

  px : Plain x
  px = square_plain v.x f.x

  py : Plain y
  py = square_plain v.y f.y

  pz : Plain z
  pz = square_plain v.z f.z

  pxy : Plain (add binary64 x y)
  pxy = sum_plain x y px py

  too_long : le four (add binary64 (add binary64 x y) z) ≡ true → ⊥
  unfolding dot_of
  too_long h = four_too_long (le_transitive four (dot_of v v) greatest_square h short)

  within_or : (c : Float) → (within two c ≡ false → ⊥) → within two c ≡ true
  within_or c h = go (within two c) refl
    where
      go : (b : Bool) → within two c ≡ b → b ≡ true
      go true e = refl
      go false e = absurd (h e)

  components_within : all_within two v ≡ true
  components_within =
      and_three _ _ _
      (within_or v.x (λ h. too_long (sum_four (add binary64 x y) z pxy pz (sum_four x y px py (square_four v.x f.x h)))))
      (within_or v.y
      (λ h. too_long (sum_four (add binary64 x y) z pxy pz (sum_four_second x y px py (square_four v.y f.y h)))))
      (within_or v.z (λ h. too_long (sum_four_second (add binary64 x y) z pxy pz (square_four v.z f.z h))))

module _ (r : Ray) (h : ray_admitted r ≡ true) where
  pub direction_within : all_within two r.direction ≡ true
  direction_within =
      components_within r.direction (finite_at r.direction finite)
      (and_second (le least_square (dot_of r.direction r.direction)) (le (dot_of r.direction r.direction) greatest_square)
      (sym (close_by_square r.direction) ∙ close))
    where
      finite : finite_vec r.direction ≡ true
      finite = unfold ray_admitted in and_first (finite_vec r.direction) _ (and_second (finite_vec r.origin) _ h)

      close : close_to_unit_length r.direction ≡ true
      close =
          and_first (close_to_unit_length r.direction) (range_admitted r) (and_second (finite_vec r.origin) _ (sym (admitted_is r) ∙ h))

  -- so that its origin and its ends alone decide
  pub grid_by_ends : grid_admitted r
      ≡ (all_within furthest r.origin && (within longest r.near && within longest r.max_distance))
  unfolding grid_admitted
  grid_by_ends =
      ap (λ (b : Bool). all_within furthest r.origin && (b && (within longest r.near && within longest r.max_distance)))
      direction_within

-- ---- an end out of range is above 32,768
not_below_zero : (m : ℕ) (e : ℤ) → lt (fin true m e) (fin false 0 (pos 0)) ≡ false → m * up e ≡ 0
not_below_zero m e h =
    let v = lt_values (fin true m e) (fin false 0 (pos 0)) true false (m * up e) (down e) 0 1 (down_pos e) (lit< tt) (refl, refl)
    (refl, refl) in
    let l = ltb-false 0 (m * up e * 1 + 0 * down e) (sym v ∙ h) in
    omega (arith, l)

nothing_within : (m : ℕ) (e : ℤ) → m * up e ≡ 0 → le (fin false m e) (fin false 1 (pos 15)) ≡ true
nothing_within m e h =
    le_values (fin false m e) (fin false 1 (pos 15)) false false (m * up e) (down e) 32768 1 (down_pos e) (lit< tt) (refl, refl)
    (refl, refl)
    ∙ ap not (le-ltb (32768 * down e) (m * up e * 1) (omega (arith, h)))

pub end_above : (x : Float) → is_finite x ≡ true → not (lt x zeroᶠ) ≡ true → within longest x ≡ false → lt longest x ≡ true
end_above x f n h =
    ap (λ (b : Float). lt b x) longest_is
    ∙ go x f (ap (lt x) (sym zero_is) ∙ not-true (lt x zeroᶠ) n) (ap (le (absolute x)) (sym longest_is) ∙ h)
  where
    go : (x : Float) → is_finite x ≡ true → lt x (fin false 0 (pos 0)) ≡ false → le (absolute x) (fin false 1 (pos 15)) ≡ false
        → lt (fin false 1 (pos 15)) x ≡ true
    go nan f n h = unfold is_finite in absurd (false≢true f)
    go (inf s) f n h = unfold is_finite in absurd (false≢true f)
    go (fin false m e) f n h =
        lt_of_not_le (fin false 1 (pos 15)) (fin false m e) (unfold is_nan in refl) (unfold is_nan in refl) (unfold absolute in h)
    go (fin true m e) f n h =
        absurd (true≢false (sym (nothing_within m e (not_below_zero m e n)) ∙ (unfold absolute in h)))
