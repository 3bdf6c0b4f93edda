-- A float g whose square is less than 2 ^ -43 from x, both the square and the distance rounded, is near the root of x: x and the exact
-- square differ by
-- less than 2 ^ -42. Rounding keeps the order, and there is a float on a coarse grid between x and an exact square that is farther off.
-- Assumes nothing.
use Rattle.std.proofs.Common.{◌≡◌, ℕ, ◌+◌, ◌-◌, ◌*◌, ◌/◌, ◌^◌, ◌<◌, ◌≤◌, Bool, true, false, not, T, sym, refl, ap, ◌∙◌, subst, true≢false}
use Rattle.std.proofs.Common.{lt_trans, lt_of_lt_of_le, mul-le-mul_right, mul_assoc, mul_comm, add-mul, mul-le-mul, mul-lt-mul_of_pos_right}
use Rattle.std.proofs.Common.{mul-pos, lt_of_not-le, mul_right_comm, arith, lit≤, pow_pos}
use lib.Ieee.{Float, nan, inf, fin, binary64, of_bits, to_bits, fits, round, sub, mul, lt, le, is_nan}
use lib.Ieee.Exact.{HasValue, round_exact}
use lib.Ieee.Order.{round_mono}
use lib.Ieee.Positive.{num, den, den_pos, positive, own_value, positive_of_value, value→cross, values_of_le, mul_at, mul_mono, above}
use lib.Ieee.Positive.{above_of_le, between}
use lib.Ieee.Bits.{is_true, of_bits-to_bits}
use Rattle.arithmetic.specs.Basic.{absolute}
use Rattle.arithmetic.specs.Root.{CloseRoot}
use Rattle.arithmetic.proofs.Differences.{apart, absolute_sub}
use Rattle.arithmetic.proofs.Order.{not_lt_of_le, le_transitive}
use Rattle.arithmetic.proofs.RootPatterns.{digits_plain, from_one_value}

-- ---- 2 ^ -43 and its square
abbrev gap : Float
gap = round binary64 false 1 (2 ^ 43)

abbrev pub gap_squared : Float
gap_squared = of_bits binary64 0x3a90_0000_0000_0000

-- the test of `is_root`
abbrev pub passes : Float → Float → Bool
passes x g = let d = sub binary64 x (mul binary64 g g) in lt (mul binary64 d d) gap_squared

gap_positive : T (positive gap)
unfolding round
gap_positive = tt

gap_square : T (le gap_squared (mul binary64 gap gap))
unfolding round of_bits mul le
gap_square = tt

-- ---- a size of 2 ^ -43 or more has a square of 2 ^ -86 or more
under_infinity : T (le gap_squared (mul binary64 (inf false) (inf false)))
unfolding of_bits mul le
under_infinity = tt

square_of_size : (x : Float) → mul binary64 x x ≡ mul binary64 (absolute x) (absolute x)
unfolding absolute mul
square_of_size nan = refl
square_of_size (inf true) = refl
square_of_size (inf false) = refl
square_of_size (fin true m e) = refl
square_of_size (fin false m e) = refl

le_through : (x y z : Float) → T (le x y) → T (le y z) → T (le x z)
le_through x y z h k = subst T (sym (le_transitive x y z (is_true (le x y) h) (is_true (le y z) k))) tt

square_grows : (z : Float) → T (le gap z) → T (le gap_squared (mul binary64 z z))
square_grows z h = go z h (above_of_le gap z gap_positive h)
  where
    go : (z : Float) → T (le gap z) → T (above z) → T (le gap_squared (mul binary64 z z))
    go nan h a = absurd a
    go (inf true) h a = absurd a
    go (inf false) h a = under_infinity
    go (fin true m e) h a = absurd a
    go (fin false m e) h a = le_through gap_squared (mul binary64 gap gap) (mul binary64 (fin false m e) (fin false m e)) gap_square
        (mul_mono binary64 gap (fin false m e) gap (fin false m e) gap_positive a gap_positive a h h)

far_square : (d : Float) → T (le gap (absolute d)) → lt (mul binary64 d d) gap_squared ≡ false
far_square d h =
    not_lt_of_le gap_squared (mul binary64 d d)
    (is_true (le gap_squared (mul binary64 d d)) (subst (λ (z : Float). T (le gap_squared z)) (sym (square_of_size d))
    (square_grows (absolute
    d) h)))

-- ---- the exact distance of x = m * 2 ^ -52 and y, if y lies beyond a w * 2 ^ -52 that is 2 ^ 9 or more from m
below_gap : (a c b d m w : ℕ) → a * 2 ^ 52 ≡ m * c → b * 2 ^ 52 ≤ w * d → w + 2 ^ 9 ≤ m → 1 * (c * d) ≤ apart (a * d) (b * c) * 2 ^ 43
below_gap a c b d m w p q h =
    let x : a * d * 2 ^ 52 ≡ m * (c * d) = mul_right_comm a d (2 ^ 52) ∙ ap (λ (z : ℕ). z * d) p ∙ mul_assoc m c d in
    let y : b * c * 2 ^ 52 ≤ w * (c * d) = subst (λ (z : ℕ). z ≤ w * (c * d)) (mul_right_comm b (2 ^ 52) c)
    (subst (λ (z : ℕ). b * 2 ^ 52 * c ≤ z) (mul_assoc w d c ∙ ap (λ (z : ℕ). w * z) (mul_comm d c)) (mul-le-mul_right c q)) in
    let z : (w + 2 ^ 9) * (c * d) ≤ m * (c * d) = mul-le-mul_right (c * d) h in
    let s : (w + 2 ^ 9) * (c * d) ≡ w * (c * d) + 2 ^ 9 * (c * d) = add-mul w (2 ^ 9) (c * d) in
    omega arith

above_gap : (a c b d m w : ℕ) → a * 2 ^ 52 ≡ m * c → w * d ≤ b * 2 ^ 52 → m + 2 ^ 9 ≤ w → 1 * (c * d) ≤ apart (a * d) (b * c) * 2 ^ 43
above_gap a c b d m w p q h =
    let x : a * d * 2 ^ 52 ≡ m * (c * d) = mul_right_comm a d (2 ^ 52) ∙ ap (λ (z : ℕ). z * d) p ∙ mul_assoc m c d in
    let y : w * (c * d) ≤ b * c * 2 ^ 52 = subst (λ (z : ℕ). w * (c * d) ≤ z) (mul_right_comm b (2 ^ 52) c)
    (subst (λ (z : ℕ). z ≤ b * 2 ^ 52 * c) (mul_assoc w d c ∙ ap (λ (z : ℕ). w * z) (mul_comm d c)) (mul-le-mul_right c q)) in
    let z : (m + 2 ^ 9) * (c * d) ≤ w * (c * d) = mul-le-mul_right (c * d) h in
    let s : (m + 2 ^ 9) * (c * d) ≡ m * (c * d) + 2 ^ 9 * (c * d) = add-mul m (2 ^ 9) (c * d) in
    omega arith

-- ---- z * 2 ^ 9 * 2 ^ -52 is a float
on_grid_lem : (z : ℕ) → z < 2 ^ 46 → HasValue (round binary64 false (z * 2 ^ 9) (2 ^ 52)) false (z * 2 ^ 9) (2 ^ 52)
on_grid_lem z h =
    round_exact binary64 false (z * 2 ^ 9) (2 ^ 52) z 1031 (pow_pos 52) (lt_of_lt_of_le h (lit≤ tt))
    (lt_trans (mul-lt-mul_of_pos_right h (pow_pos 1031)) (lit≤ tt))
    (mul_assoc z (2 ^ 9) (2 ^ 1074) ∙ sym (mul_assoc z (2 ^ 1031) (2 ^ 52)))

one_positive : T (positive (round binary64 false 1 1)) × T (positive (round binary64 false 4 1))
unfolding round
one_positive = (tt, tt)

abbrev square : Float → Float
square g = mul binary64 g g

module _ (x g : Float) (m p : ℕ) (v : HasValue x false m (2 ^ 52)) (w : HasValue g false p (2 ^ 52)) (M : 2 ^ 52 ≤ m) (N : m < 2 ^ 54)
    (P : 2 ^ 52 ≤ p) (Q : p ≤ 2 ^ 53) where
  x_positive : T (positive x)
  x_positive = positive_of_value x m (2 ^ 52) v (omega arith)

  g_positive : T (positive g)
  g_positive = positive_of_value g p (2 ^ 52) w (omega arith)

  -- the rounded square, from 1 to 4
  square_is : square g ≡ round binary64 false (p * p) (2 ^ 52 * 2 ^ 52)
  square_is = mul_at binary64 g g p (2 ^ 52) p (2 ^ 52) g_positive g_positive (pow_pos 52) (pow_pos 52) w w

  square_positive : T (positive (square g))
  square_positive =
      let l : 2 ^ 52 * 2 ^ 52 ≤ p * p = mul-le-mul P P in
      let u : p * p ≤ 2 ^ 53 * 2 ^ 53 = mul-le-mul Q Q in
      subst (λ (z : Float). T (positive z)) (sym square_is)
      (between (round binary64 false 1 1) (round binary64 false (p * p) (2 ^ 52 * 2 ^ 52)) (round binary64 false 4 1) one_positive.0
      one_positive.1
      (round_mono binary64 1 1 (p * p) (2 ^ 52 * 2 ^ 52) (pow_pos 0) (pow_pos 104) (omega arith))
      (round_mono binary64 (p * p) (2 ^ 52 * 2 ^ 52) 4 1 (pow_pos 104) (pow_pos 0) (omega arith)))

  far : 1 * (den x * den (square g)) ≤ apart (num x * den (square g)) (num (square g) * den x) * 2 ^ 43
      → passes x g ≡ false
  far h =
      let y = square g in
      far_square (sub binary64 x y)
      (subst (λ (z : Float). T (le gap z)) (sym (absolute_sub x y x_positive square_positive))
      (round_mono binary64 1 (2 ^ 43) (apart (num x * den y) (num y * den x)) (den x * den y) (pow_pos 43) (mul-pos (den_pos x) (den_pos y))
      h))

  x_cross : num x * 2 ^ 52 ≡ m * den x
  x_cross = value→cross x m (2 ^ 52) v

  -- the rounded square lies on the same side of a value on the grid as the exact one
  module _ (z : ℕ) (Z : 0 < z) (S : z < 2 ^ 46) where
    edge_positive : T (positive (round binary64 false (z * 2 ^ 9) (2 ^ 52)))
    edge_positive = positive_of_value (round binary64 false (z * 2 ^ 9) (2 ^ 52)) (z * 2 ^ 9) (2 ^ 52) (on_grid_lem z S) (omega arith)

    square_under : p * p ≤ z * 2 ^ 61 → num (square g) * 2 ^ 52 ≤ z * 2 ^ 9 * den (square g)
    square_under h =
        values_of_le (square g) (round binary64 false (z * 2 ^ 9) (2 ^ 52)) (num (square g)) (den (square g)) (z * 2 ^ 9) (2 ^ 52)
        square_positive edge_positive
        (own_value (square g) square_positive) (on_grid_lem z S)
        (subst (λ (y : Float). T (le y (round binary64 false (z * 2 ^ 9) (2 ^ 52)))) (sym square_is)
        (round_mono binary64 (p * p) (2 ^ 52 * 2 ^ 52) (z * 2 ^ 9) (2 ^ 52) (pow_pos 104) (pow_pos 52) (omega arith)))

    square_over : z * 2 ^ 61 ≤ p * p → z * 2 ^ 9 * den (square g) ≤ num (square g) * 2 ^ 52
    square_over h =
        values_of_le (round binary64 false (z * 2 ^ 9) (2 ^ 52)) (square g) (z * 2 ^ 9) (2 ^ 52) (num (square g)) (den (square g))
        edge_positive square_positive
        (on_grid_lem z S) (own_value (square g) square_positive)
        (subst (λ (y : Float). T (le (round binary64 false (z * 2 ^ 9) (2 ^ 52)) y)) (sym square_is)
        (round_mono binary64 (z * 2 ^ 9) (2 ^ 52) (p * p) (2 ^ 52 * 2 ^ 52) (pow_pos 52) (pow_pos 104) (omega arith)))

  too_low : p * p + 2 ^ 62 ≤ m * 2 ^ 52 → passes x g ≡ false
  too_low h =
      let z = m / 2 ^ 9 - 1 in
      far (below_gap (num x) (den x) (num (square g)) (den (square g)) m (z * 2 ^ 9) x_cross
      (square_under z (omega arith) (omega arith) (omega arith)) (omega arith))

  too_high : m * 2 ^ 52 + 2 ^ 62 ≤ p * p → passes x g ≡ false
  too_high h =
      let z = m / 2 ^ 9 + 2 in
      far (above_gap (num x) (den x) (num (square g)) (den (square g)) m (z * 2 ^ 9) x_cross
      (square_over z (omega arith) (omega arith) (omega arith)) (omega arith))

  pub squares_near : passes x g ≡ true → (m * 2 ^ 52 < p * p + 2 ^ 62) × (p * p < m * 2 ^ 52 + 2 ^ 62)
  squares_near h = (
    lt_of_not-le (λ (k : p * p + 2 ^ 62 ≤ m * 2 ^ 52). true≢false (sym h ∙ too_low k)),
    lt_of_not-le (λ (k : m * 2 ^ 52 + 2 ^ 62 ≤ p * p). true≢false (sym h ∙ too_high k)),
  )

-- ---- a guess that passes the test is a number
nan_square : (x : Float) → passes x nan ≡ false
unfolding sub mul lt
nan_square nan = refl
nan_square (inf s) = refl
nan_square (fin s m e) = refl

pub passed_number : (x g : Float) → passes x g ≡ true → T (not (is_nan g))
passed_number x nan h = absurd (true≢false (sym h ∙ nan_square x))
passed_number x (inf s) h = unfold is_nan in tt
passed_number x (fin s m e) h = unfold is_nan in tt

-- ---- a guess from 1 to 2 that passes the test is close. c is the pattern's part below the exponent.
pub record Passed (m c : ℕ) (g : Float) : Type 0 where
  pub value : HasValue g false (c + 2 ^ 52) (2 ^ 52)
  pub close : CloseRoot m (c + 2 ^ 52)

pub passed_close : (x g : Float) (m c : ℕ) → HasValue x false m (2 ^ 52) → 2 ^ 52 ≤ m → m < 2 ^ 54 → T (fits binary64 g)
    → passes x g ≡ true
    → to_bits binary64 g ≡ c + 1023 * 2 ^ 52 → c < 2 ^ 52 → Passed m c g
passed_close x g m c v M N f t e l =
    let w : HasValue g false (c + 2 ^ 52) (2 ^ 52) =
    subst (λ (y : Float). HasValue y false (c + 2 ^ 52) (2 ^ 52)) (ap (of_bits binary64) (sym e) ∙ of_bits-to_bits binary64 g f)
    (subst (λ (n : ℕ). HasValue (of_bits binary64 (c + 1023 * 2 ^ 52)) false n (2 ^ 52)) (sym (digits_plain c (omega arith)))
    (from_one_value c (omega arith))) in
    let n = squares_near x g m (c + 2 ^ 52) v w M N (omega arith) (omega arith) t in
    record {
      value = w;
      close = record { small = omega arith; lower = omega (arith, n.0); upper = omega (arith, n.1) };
    }
