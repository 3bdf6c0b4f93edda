-- Code that adds 1.5 · 2^52 and takes it off again reads a float on the grid. Assumes nothing.
use Rattle.std.proofs.Common.{◌≡◌, ℕ, zero, suc, ◌+◌, ◌-◌, ◌*◌, ◌/◌, ◌^◌, ◌<◌, ◌≤◌, Bool, true, false, cond, ◌&&◌, T, ltb, ℤ, pos, negsuc}
use Rattle.std.proofs.Common.{neg_ℤ, nat_abs, sym, refl, ap, ◌∙◌, subst, true≢false, le_trans, le_of_eq, lt_of_lt_of_le, lt_of_le_of_lt}
use Rattle.std.proofs.Common.{mul-le-mul_right, zero-lt-suc, div-lt_iff_lt-mul, lt_of_mul-lt-mul_right, mul-lt-mul_of_pos_right, mul-pos}
use Rattle.std.proofs.Common.{le-div_iff_mul-le, mul-one, mul_right_comm, le_of_mul-le-mul_right, arith, lit<, lit≤, le→leb, lt→ltb}
use Rattle.std.proofs.Common.{pow_pos, ltb-false, ltb-true, lt-ltb}
use mathlib.Core.Bool.{false≢true}
use lib.IntN.{sub_ℕ}
use lib.Ieee.{Float, nan, inf, fin, binary64, up, down, size, round, sum, add, sub, mul, neg, of_int, of_bits, fits, to_signed}
use lib.Ieee.{in_float, in_signed, le, lt, eq}
use lib.Ieee.Fits.{down_pos, round_is}
use lib.Ieee.Exact.{HasValue, units_val}
use lib.Ieee.Scale.{round_same}
use lib.Ieee.Order.{drop, kept}
use lib.Ieee.Nearest.{closest, closest_same}
use lib.Ieee.Back.{positive_back, negative_back}
use Rattle.arithmetic.specs.Basic.{is_finite, absolute}
use Rattle.arithmetic.proofs.SumOrder.{le_parts}
use Rattle.arithmetic.proofs.Exactness.{scaled_exact, of_int_is, of_int_below}
use Rattle.arithmetic.proofs.ScalingLaws.{size_between}
use Rattle.arithmetic.proofs.ValueOrder.{value_by_lem, mul_values, unlike_false}
use Rattle.arithmetic.proofs.RoundingError.{closest_near}
use Rattle.exact_triangle.specs.Grid.{units, signed, nearest_to, within, two, furthest, longest, rounder, unitsᶠ, partsᶠ, read_by}
use Rattle.exact_triangle.specs.Line.{parts}
use Rattle.exact_triangle.proofs.Touching.{two_is, furthest_is, longest_is, signed_size}
use Rattle.exact_triangle.proofs.ClosestLaws.{closest_up, closest_down}

-- ---- a fraction from 2^52 to below 2^53 is rounded to the nearest whole number
module _ (A d : ℕ) (D : 0 < d) (l : 2 ^ 52 * d ≤ A) (h : A < 2 ^ 53 * d) where
  digits : size (A * 2 ^ 1074 / d) ≡ 1127
  digits =
      size_between (A * 2 ^ 1074 / d) 1126
      ((le-div_iff_mul-le D).1 (le_trans (le_of_eq (mul_right_comm (2 ^ 52) (2 ^ 1074) d)) (mul-le-mul_right (2 ^ 1074) l)))
      ((div-lt_iff_lt-mul D).1
      (lt_of_lt_of_le (mul-lt-mul_of_pos_right h (pow_pos 1074)) (le_of_eq (mul_right_comm (2 ^ 53) d (2 ^ 1074)))))

  dropped : drop 53 (A * 2 ^ 1074) d ≡ 1074
  dropped = ap (λ (n : ℕ). n - 53) digits

  is_closest : kept 53 (A * 2 ^ 1074) d ≡ closest A d
  is_closest =
      ap (λ (k : ℕ). closest (A * 2 ^ 1074) (d * 2 ^ k)) dropped
      ∙ closest_same (A * 2 ^ 1074) (d * 2 ^ 1074) A d (mul-pos D (pow_pos 1074)) D (regroup A d (2 ^ 1074))
    where
      regroup : (A d u : ℕ) → A * u * d ≡ A * (d * u)
      regroup A d u = omega arith

  not_more : closest A d ≤ 2 ^ 53
  not_more =
      let n = (closest_near A d D).0 in
      let m : (2 * closest A d) * d < (2 * 2 ^ 53 + 1) * d = omega (arith, n, h) in
      let m' = lt_of_mul-lt-mul_right d m in
      omega (arith, m')

  pub middle_rounds : HasValue (round binary64 false A d) false (closest A d) 1
  middle_rounds =
      let q = kept 53 (A * 2 ^ 1074) d in
      let k = drop 53 (A * 2 ^ 1074) d in
      let e : q * 2 ^ k ≡ closest A d * 2 ^ 1074 = λ s. is_closest s * 2 ^ dropped s in
      value_by_lem (round binary64 false A d) false (q * 2 ^ k) (2 ^ 1074) (closest A d) 1 (pow_pos 1074) (sym (mul-one (q * 2 ^ k) ∙ e))
      (subst (λ (x : Float). HasValue x false (q * 2 ^ k) (2 ^ 1074)) (sym (round_is binary64 false A d))
      (units_val binary64 false q k (subst (λ (z : ℕ). z < 2 ^ 2098) (sym e)
      (lt_of_le_of_lt (mul-le-mul_right (2 ^ 1074) not_more) (lit< tt)))))

-- ---- 1.5 · 2^52 is even
abbrev half : ℕ
half = 3377699720527872

abbrev middle : ℕ
middle = 6755399441055744

rounder_is : rounder ≡ fin false 3 (pos 51)
unfolding of_bits
rounder_is = refl

-- ---- added to a small number, it is the nearest whole number from it
added_up : (m : ℕ) (e : ℤ) → add binary64 (fin false m e) (fin false 3 (pos 51))
    ≡ round binary64 false (m * up e * 1 + middle * down e) (down e * 1)
unfolding add sum
added_up m e = refl

added_down : (m : ℕ) (e : ℤ) → add binary64 (fin true m e) (fin false 3 (pos 51))
    ≡ cond (ltb (m * up e * 1) (middle * down e)) (round binary64 false (middle * down e - m * up e * 1) (down e * 1))
    (round binary64 (true && ltb (middle * down e) (m * up e * 1)) (m * up e * 1 - middle * down e) (down e * 1))
unfolding add sum
added_down m e = refl

-- ±N / d with N / d up to 2^31
module _ (N d : ℕ) (D : 0 < d) (small : N ≤ 2147483648 * d) where
  few : closest N d ≤ 2147483648
  few =
      let n = (closest_near N d D).0 in
      let m : (2 * closest N d) * d < (2 * 2147483648 + 2) * d = omega (arith, n, small, D) in
      let m' = lt_of_mul-lt-mul_right d m in
      omega (arith, m')

  sum_up : (y : Float) → HasValue y false N d → HasValue (add binary64 y rounder) false (middle + closest N d) 1
  sum_up nan v = absurd v
  sum_up (inf s) v = absurd v
  sum_up (fin true m e) v = absurd (true≢false v.0)
  sum_up (fin false m e) v =
      let A = N + 2 * half * d in
      let w = v.1 in
      let same : round binary64 false (m * up e * 1 + middle * down e) (down e * 1) ≡ round binary64 false A d =
      round_same binary64 false (m * up e * 1 + middle * down e) (down e * 1) A d (mul-pos (down_pos e) (lit< {m = 0} {n = 1} tt)) D
      (omega (arith, w)) in
      subst (λ (x : Float). HasValue x false (middle + closest N d) 1)
      (sym (ap (add binary64 (fin false m e)) rounder_is ∙ added_up m e ∙ same))
      (subst (λ (n : ℕ). HasValue (round binary64 false A d) false n 1) (closest_up N d half D)
      (middle_rounds A d D (omega (arith, small)) (omega (arith, small, D))))

  sum_down : (y : Float) → HasValue y true N d → HasValue (add binary64 y rounder) false (middle - closest N d) 1
  sum_down nan v = absurd v
  sum_down (inf s) v = absurd v
  sum_down (fin false m e) v = absurd (false≢true v.0)
  sum_down (fin true m e) v =
      let A = middle * d - N in
      let w = v.1 in
      let E = down_pos e in
      let f = few in
      let l : m * up e * d ≤ 2147483648 * down e * d = (let s' : N * down e ≤ 2147483648 * d * down e = mul-le-mul_right
      (down e) small in omega (arith, w, s')) in
      let l' : m * up e ≤ 2147483648 * down e = le_of_mul-le-mul_right l D in
      let below : m * up e * 1 < middle * down e = omega (arith, l', E) in
      let whole : A + N ≡ middle * d = omega (arith, small, D) in
      let same : round binary64 false (middle * down e - m * up e * 1) (down e * 1) ≡ round binary64 false A d =
      round_same binary64 false (middle * down e - m * up e * 1) (down e * 1) A d (mul-pos E (lit< {m = 0} {n = 1} tt)) D
      (cross (m * up e) (down e) N d A w below whole) in
      subst (λ (x : Float). HasValue x false (middle - closest N d) 1)
      (sym (ap (add binary64 (fin true m e)) rounder_is ∙ added_down m e
      ∙ taken (m * up e * 1) (middle * down e) (round binary64 false (middle * down e - m * up e * 1) (down e * 1))
      (round binary64 (true && ltb (middle * down e) (m * up e * 1)) (m * up e * 1 - middle * down e) (down e * 1)) below ∙ same))
      (subst (λ (n : ℕ). HasValue (round binary64 false A d) false n 1) (closest_down N d half D A (middle - closest N d) whole (omega
      (arith, f)))
      (middle_rounds A d D (omega (arith, small, whole)) (omega (arith, small, whole, D))))
    where
      taken : (a b : ℕ) (x y : Float) → a < b → cond (ltb a b) x y ≡ x
      taken a b x y h = ap (λ (k : Bool). cond k x y) (lt-ltb a b h)

      cross : (a E N d A : ℕ) → a * d ≡ N * E → a * 1 < middle * E → A + N ≡ middle * d → (middle * E - a * 1) * d ≡ A * (E * 1)
      cross a E N d A w l e =
          let x = middle * E - a * 1 in
          let g : x + a ≡ middle * E = omega (arith, l) in
          let g' : (x + a) * d ≡ middle * E * d = ap (λ (z : ℕ). z * d) g in
          let e' : (A + N) * E ≡ middle * d * E = ap (λ (z : ℕ). z * E) e in
          omega (arith, g', e', w)

-- ---- taken off again, it leaves that number
abbrev difference : ℕ → ℕ → Float
difference a D =
    cond (ltb a (middle * D)) (round binary64 true (middle * D - a) (D * 1)) (round binary64 false (a - middle * D) (D * 1))

difference_is : (D a n : ℕ) → 0 < D → a ≡ n * D → difference a D ≡ of_int binary64 (sub_ℕ n middle)
difference_is D a n C h =
    go (ltb a (middle * D)) (ltb n middle) (ltb-true a (middle * D)) (ltb-false a (middle * D)) (ltb-true n middle) (ltb-false n middle)
  where
    go : (k j : Bool) → (k ≡ true → a < middle * D) → (k ≡ false → middle * D ≤ a) → (j ≡ true → n < middle) → (j ≡ false → middle ≤ n)
        → cond k (round binary64 true (middle * D - a) (D * 1)) (round binary64 false (a - middle * D) (D * 1))
        ≡ of_int binary64 (cond j (negsuc (middle - suc n)) (pos (n - middle)))
    go true true p q r s =
        let w = suc (middle - suc n) in
        let l = r refl in
        let whole : n + w ≡ middle = omega (arith, l) in
        let scaled : (n + w) * D ≡ middle * D = ap (λ (z : ℕ). z * D) whole in
        round_same binary64 true (middle * D - a) (D * 1) w 1 (omega (arith, C)) (zero-lt-suc 0) (omega (arith, scaled, h))
        ∙ sym (of_int_below binary64 (middle - suc n))
    go false false p q r s =
        let w = n - middle in
        let l = s refl in
        let whole : middle + w ≡ n = omega (arith, l) in
        let scaled : (middle + w) * D ≡ n * D = ap (λ (z : ℕ). z * D) whole in
        round_same binary64 false (a - middle * D) (D * 1) w 1 (omega (arith, C)) (zero-lt-suc 0) (omega (arith, scaled, h))
        ∙ sym (of_int_is binary64 (n - middle))
    go true false p q r s =
        let l = p refl in
        let m : middle * D ≤ n * D = mul-le-mul_right D (s refl) in
        absurd (omega (arith, l, m, h))
    go false true p q r s =
        let l = q refl in
        let m : n * D < middle * D = mul-lt-mul_of_pos_right (r refl) C in
        absurd (omega (arith, l, m, h))

sub_is_difference : (m : ℕ) (e : ℤ) → sub binary64 (fin false m e) (fin false 3 (pos 51)) ≡ difference (m * up e * 1) (down e)
unfolding sub add sum neg
sub_is_difference m e = refl

taken_off : (y : Float) (n : ℕ) → HasValue y false n 1 → sub binary64 y rounder ≡ of_int binary64 (sub_ℕ n middle)
taken_off nan n v = absurd v
taken_off (inf s) n v = absurd v
taken_off (fin true m e) n v = absurd (true≢false v.0)
taken_off (fin false m e) n v =
    ap (sub binary64 (fin false m e)) rounder_is ∙ sub_is_difference m e ∙ difference_is (down e) (m * up e * 1) n (down_pos e) v.1

-- ---- and it is cast
more_than : (c : ℕ) → sub_ℕ (middle + c) middle ≡ pos c
more_than c = go (ltb (middle + c) middle) (ltb-true (middle + c) middle)
  where
    go : (k : Bool) → (k ≡ true → middle + c < middle) → cond k (negsuc (middle - suc (middle + c))) (pos (middle + c - middle)) ≡ pos c
    go true f = let w = f refl in absurd (omega (arith, w))
    go false f = let e : middle + c - middle ≡ c = omega arith in ap pos e

less_than : (c : ℕ) → c ≤ 2147483648 → sub_ℕ (middle - c) middle ≡ neg_ℤ (pos c)
less_than zero h = refl
less_than (suc c) h = go (ltb (middle - suc c) middle) (ltb-false (middle - suc c) middle)
  where
    go : (k : Bool) → (k ≡ false → middle ≤ middle - suc c)
        → cond k (negsuc (middle - suc (middle - suc c))) (pos (middle - suc c - middle)) ≡ negsuc c
    go true f = let e : middle - suc (middle - suc c) ≡ c = omega (arith, h) in ap negsuc e
    go false f = let w = f refl in absurd (omega (arith, w, h))

cast_back : (z : ℤ) → nat_abs z ≤ 2147483648 → to_signed 63 (of_int binary64 z) ≡ z
unfolding in_float
cast_back (pos n) l = (positive_back binary64 63 n (le→leb n (2 ^ 53) (le_trans l (lit≤ tt))) (lt_of_le_of_lt l (lit< tt))).1
cast_back (negsuc k) l = (negative_back binary64 63 k (lt→ltb k (2 ^ 53) (lt_of_lt_of_le l (lit≤ tt))) (le_trans l (lit≤ tt))).1

signed_small : (s : Bool) (c : ℕ) → c ≤ 2147483648 → nat_abs (signed s c) ≤ 2147483648
signed_small false c h = h
signed_small true zero h = h
signed_small true (suc c) h = h

-- ---- a float that fits, times 2^t up to 2^31
module _ (t : ℕ) (factor : Float) (power : HasValue factor false (2 ^ t) 1) where
  scaled : (s : Bool) (m : ℕ) (e : ℤ) → T (fits binary64 (fin s m e)) → m * up e * 2 ^ t ≤ 2147483648 * down e
      → HasValue (mul binary64 (fin s m e) factor) s (m * up e * 2 ^ t) (down e)
  scaled s m e f l =
      subst (λ (x : Float). HasValue x s (m * up e * 2 ^ t) (down e))
      (sym (mul_values (fin s m e) factor s false (m * up e) (down e) (2 ^ t) 1 (down_pos e) (lit< tt) (refl, refl) power
      ∙ (λ k. round binary64 (unlike_false s k) (m * up e * 2 ^ t) (mul-one (down e) k))))
      (scaled_exact binary64 s m e t f (lt_of_le_of_lt l (mul-lt-mul_of_pos_right (lit< {m = 2147483648} {n = 2 ^ 1024} tt) (down_pos e))))

  -- the code's float is the nearest whole number's
  reads_float : (s : Bool) (m : ℕ) (e : ℤ) → T (fits binary64 (fin s m e)) → m * up e * 2 ^ t ≤ 2147483648 * down e
      → sub binary64 (add binary64 (mul binary64 (fin s m e) factor) rounder) rounder ≡ of_int binary64 (nearest_to (2 ^ t) (fin s m e))
  unfolding nearest_to
  reads_float false m e f l =
      let N = m * up e * 2 ^ t in
      let y = mul binary64 (fin false m e) factor in
      taken_off (add binary64 y rounder) (middle + closest N (down e))
      (sum_up N (down e) (down_pos e) l y (scaled false m e f l)) ∙ ap (of_int binary64) (more_than (closest N (down e)))
  reads_float true m e f l =
      let N = m * up e * 2 ^ t in
      let y = mul binary64 (fin true m e) factor in
      let c = few N (down e) (down_pos e) l in
      taken_off (add binary64 y rounder) (middle - closest N (down e))
      (sum_down N (down e) (down_pos e) l y (scaled true m e f l)) ∙ ap (of_int binary64) (less_than (closest N (down e)) c)

  -- .. which the cast takes
  pub reads_nearest : (s : Bool) (m : ℕ) (e : ℤ) → T (fits binary64 (fin s m e)) → m * up e * 2 ^ t ≤ 2147483648 * down e
      → read_by factor (fin s m e) ≡ nearest_to (2 ^ t) (fin s m e)
  unfolding read_by nearest_to
  reads_nearest s m e f l =
      ap (to_signed 63) (reads_float s m e f l)
      ∙ cast_back (nearest_to (2 ^ t) (fin s m e))
      (signed_small s (closest (m * up e * 2 ^ t) (down e)) (few (m * up e * 2 ^ t) (down e) (down_pos e) l))

-- ---- the three ranges
units_is : unitsᶠ ≡ fin false 1 (pos 15)
unfolding of_bits
units_is = refl

parts_is : partsᶠ ≡ fin false 1 (pos 30)
unfolding of_bits
parts_is = refl

units_power : HasValue unitsᶠ false (2 ^ 15) 1
units_power = subst (λ (x : Float). HasValue x false (2 ^ 15) 1) (sym units_is) (refl, refl)

parts_power : HasValue partsᶠ false (2 ^ 30) 1
parts_power = subst (λ (x : Float). HasValue x false (2 ^ 30) 1) (sym parts_is) (refl, refl)

-- the float before the cast, and the size
closest_least : (N d B : ℕ) → 0 < d → N ≤ B * d → closest N d ≤ B
closest_least N d B D h =
    let n = (closest_near N d D).0 in
    let m : (2 * closest N d) * d < (2 * B + 2) * d = omega (arith, n, h, D) in
    let m' = lt_of_mul-lt-mul_right d m in
    omega (arith, m')

pub record Reads (k B : ℕ) (factor x : Float) : Type 0 where
  pub float : sub binary64 (add binary64 (mul binary64 x factor) rounder) rounder ≡ of_int binary64 (nearest_to k x)
  pub size : nat_abs (nearest_to k x) ≤ B

near_size : (k B : ℕ) (s : Bool) (m : ℕ) (e : ℤ) → m * up e * k ≤ B * down e → nat_abs (nearest_to k (fin s m e)) ≤ B
unfolding nearest_to
near_size k B s m e h =
    le_trans (le_of_eq (signed_size s (closest (m * up e * k) (down e))))
    (closest_least (m * up e * k) (down e) B (down_pos e) h)

within_told : (t e : ℕ) (factor x : Float) → HasValue factor false (2 ^ t) 1 → 2 ^ e * 2 ^ t ≤ 2147483648 → T (fits binary64 x)
    → le (absolute x) (fin false 1 (pos e)) ≡ true → Reads (2 ^ t) (2 ^ e * 2 ^ t) factor x
within_told t e factor nan p r f h = unfold le lt eq absolute in absurd (false≢true h)
within_told t e factor (inf s) p r f h = unfold le lt eq absolute in absurd (false≢true h)
within_told t e factor (fin s m c) p r f h =
    let l = le_parts (fin false m c) (fin false 1 (pos e)) (unfold is_finite in refl) (unfold is_finite in refl) (unfold absolute in h) in
    let l' : m * up c * 2 ^ t ≤ 2 ^ e * down c * 2 ^ t = mul-le-mul_right (2 ^ t) (omega (arith, l)) in
    let r' : 2 ^ e * 2 ^ t * down c ≤ 2147483648 * down c = mul-le-mul_right (down c) r in
    record {
      float = reads_float t factor p s m c f (omega (arith, l', r'));
      size = near_size (2 ^ t) (2 ^ e * 2 ^ t) s m c (omega (arith, l'));
    }

pub coordinate_told : (x : Float) → T (fits binary64 x) → within furthest x ≡ true → Reads units 268435456 unitsᶠ x
coordinate_told x f h = within_told 15 13 unitsᶠ x units_power (lit≤ tt) f (ap (le (absolute x)) (sym furthest_is) ∙ h)

pub distance_told : (x : Float) → T (fits binary64 x) → within longest x ≡ true → Reads units 1073741824 unitsᶠ x
distance_told x f h = within_told 15 15 unitsᶠ x units_power (lit≤ tt) f (ap (le (absolute x)) (sym longest_is) ∙ h)

pub direction_told : (x : Float) → T (fits binary64 x) → within two x ≡ true → Reads parts 2147483648 partsᶠ x
direction_told x f h = within_told 30 1 partsᶠ x parts_power (lit≤ tt) f (ap (le (absolute x)) (sym two_is) ∙ h)

pub cast_in : (z : ℤ) → nat_abs z ≤ 2147483648 → T (in_signed binary64 63 (of_int binary64 z))
unfolding in_float
cast_in (pos n) l = (positive_back binary64 63 n (le→leb n (2 ^ 53) (le_trans l (lit≤ tt))) (lt_of_le_of_lt l (lit< tt))).0
cast_in (negsuc k) l = (negative_back binary64 63 k (lt→ltb k (2 ^ 53) (lt_of_lt_of_le l (lit≤ tt))) (le_trans l (lit≤ tt))).0

pub cast_is : (z : ℤ) → nat_abs z ≤ 2147483648 → to_signed 63 (of_int binary64 z) ≡ z
cast_is z l = cast_back z l

-- a corner's size, of any float in range
size_within : (x : Float) → le (absolute x) (fin false 1 (pos 13)) ≡ true → nat_abs (nearest_to units x) ≤ 268435456
size_within nan h = unfold le lt eq absolute in absurd (false≢true h)
size_within (inf s) h = unfold le lt eq absolute in absurd (false≢true h)
size_within (fin s m c) h =
    let l = le_parts (fin false m c) (fin false 1 (pos 13)) (unfold is_finite in refl) (unfold is_finite in refl) (unfold absolute in h) in
    near_size units 268435456 s m c (omega (arith, l))

pub coordinate_size : (x : Float) → within furthest x ≡ true → nat_abs (nearest_to units x) ≤ 268435456
coordinate_size x h = size_within x (ap (le (absolute x)) (sym furthest_is) ∙ h)
