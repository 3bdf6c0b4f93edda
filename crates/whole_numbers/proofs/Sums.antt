-- The sum of two quotients that are not negative, against 1: what the whole numbers say, unless their sum is the divisor. Assumes nothing.
use mathlib.Core.Path.{◌≡◌, refl, sym, ap, ◌∙◌, subst}
use mathlib.Core.Bool.{Bool, true, false, cond, false≢true}
use Prim.Native.Nat.{ℕ, ◌+◌, ◌-◌, ◌*◌, ◌^◌, ◌≤◌, ◌<◌}
use native.Mathlib.Nat.{mul_assoc, mul_comm, mul_right_comm, mul-pos, zero-lt-suc, zero-mul, le_of_mul-le-mul_right}
use native.Mathlib.Nat.{mul-le-mul_right, le_trans, le_of_eq, lt_of_not-le}
use native.Mathlib.Omega.{arith}
use lib.Dec.{T, ltb, lit≤}
use lib.IntN.{ℤ, nat_abs}
use lib.Ieee.{Float, nan, inf, fin, binary64, up, down, round, sum, add, lt, le}
use lib.Ieee.Fits.{down_pos}
use lib.Ieee.Exact.{HasValue}
use lib.Ieee.Order.{round_mono}
use lib.Ieee.Scale.{round_same}
use lib.Ieee.Bits.{is_true}
use borrow.Author.Tests.{ltb-true, ltb-false, lt-ltb}
use Rattle.arithmetic.proofs.Order.{not_lt_of_le}
use Rattle.vectors.specs.Numbers.{◌+ᶠ◌, oneᶠ}
use Rattle.arithmetic.specs.Scaling.{unit}
use Rattle.arithmetic.proofs.SignedOrder.{less}
use Rattle.vectors.proofs.Constants.{one_is}
use Rattle.wide_integers.proofs.Integers.{no_factor, np}
use Rattle.arithmetic.proofs.WholeValues.{exact_size}
use Rattle.arithmetic.proofs.RoundingError.{round_near}
use Rattle.arithmetic.proofs.ValueOrder.{lt_values}
use Rattle.arithmetic.proofs.ScalingLaws.{unit_pos, one_value}
use Rattle.whole_numbers.proofs.Quotients.{unit_large}
use Rattle.whole_numbers.proofs.Decisions.{Ratio, not_far, nothing}

-- ---- the sum of two numbers of units
pub record Summed (x : Float) (n : ℕ) : Type 0 where
  pub sign : Bool
  pub is : x ≡ round binary64 sign n unit
  pub zeroed : sign ≡ true → n ≡ 0

-- a number that is not negative: its size is 0 where the sign says so
abbrev Free : Bool → ℕ → Type 0
Free s g = s ≡ true → g ≡ 0

same_sum : (s : Bool) (k c n : ℕ) → 0 < c → k * unit ≡ n * c → round binary64 s k c ≡ round binary64 s n unit
same_sum s k c n C h = round_same binary64 s k c n unit C unit_pos h

summed : (s : Bool) (a : ℕ) (t : Bool) (b c g h : ℕ) → 0 < c → a * unit ≡ g * c → b * unit ≡ h * c → Free s g → Free t h
    → Summed (sum binary64 s a t b c) (g + h)
unfolding sum
summed false a false b c g h C p q f k =
    record { sign = false; is = same_sum false (a + b) c (g + h) C (omega (arith, p, q)); zeroed = λ e. absurd (false≢true e) }
summed true a true b c g h C p q f k =
    record { sign = true; is = same_sum true (a + b) c (g + h) C (omega (arith, p, q)); zeroed = λ e. omega (arith, f refl, k refl) }
summed false a true b c g h C p q f k = go (ltb a b) (ltb-true a b)
  where
    z : b ≡ 0
    z = no_factor b unit unit_pos (q ∙ ap (λ (m : ℕ). m * c) (k refl) ∙ zero-mul c)

    go : (x : Bool) → (x ≡ true → a < b) → Summed (cond x (round binary64 true (b - a) c) (round binary64 false (a - b) c)) (g + h)
    go true l = absurd (let w = l refl in omega (arith, w, z))
    go false l =
        record {
          sign = false;
          is = ap (λ (m : ℕ). round binary64 false m c) (omega (arith, z))
              ∙ same_sum false a c (g + h) C (omega (arith, p, ap (λ (m : ℕ). m * c) (k refl)));
          zeroed = λ e. absurd (false≢true e);
        }
summed true a false b c g h C p q f k = go (ltb a b) (ltb b a) (ltb-false a b) (ltb-true b a)
  where
    z : a ≡ 0
    z = no_factor a unit unit_pos (p ∙ ap (λ (m : ℕ). m * c) (f refl) ∙ zero-mul c)

    o : g * c ≡ 0 * c
    o = ap (λ (m : ℕ). m * c) (f refl)

    go : (x y : Bool) → (x ≡ false → b ≤ a) → (y ≡ true → b < a)
        → Summed (cond x (round binary64 false (b - a) c) (round binary64 y (a - b) c)) (g + h)
    go true y l j =
        record {
          sign = false;
          is = ap (λ (m : ℕ). round binary64 false m c) (omega (arith, z))
              ∙ same_sum false b c (g + h) C (omega (arith, q, o));
          zeroed = λ e. absurd (false≢true e);
        }
    go false true l j = absurd (let w = j refl in omega (arith, w, z))
    go false false l j =
        let w = l refl in
        record {
          sign = false;
          is = ap (λ (m : ℕ). round binary64 false m c) (omega (arith, z, w))
              ∙ same_sum false b c (g + h) C (omega (arith, q, o));
          zeroed = λ e. absurd (false≢true e);
        }

pub sum_of : (x y : Float) (s t : Bool) (g h : ℕ) → HasValue x s g unit → HasValue y t h unit → Free s g → Free t h
    → Summed (x +ᶠ y) (g + h)
unfolding add
sum_of nan y s t g h v w f k = absurd v
sum_of (inf r) y s t g h v w f k = absurd v
sum_of (fin r m e) nan s t g h v w f k = absurd w
sum_of (fin r m e) (inf q) s t g h v w f k = absurd w
sum_of (fin r m e) (fin q i d) s t g h v w f k =
    summed r (m * up e * down d) q (i * up d * down e) (down e * down d) g h (mul-pos (down_pos e) (down_pos d))
    (mul_right_comm (m * up e) (down d) unit ∙ ap (λ (z : ℕ). z * down d) v.1 ∙ mul_assoc g (down e) (down d))
    (mul_right_comm (i * up d) (down e) unit ∙ ap (λ (z : ℕ). z * down e) w.1 ∙ mul_assoc h (down d) (down e)
    ∙ ap (λ (z : ℕ). h * z) (mul_comm (down d) (down e)))
    (λ (a : r ≡ true). f (sym v.0 ∙ a)) (λ (a : q ≡ true). k (sym w.0 ∙ a))

-- ---- against 1
one_round : round binary64 false 1 1 ≡ oneᶠ
unfolding round
one_round = refl ∙ sym one_is

sum_up_to_one : (s : Bool) (n : ℕ) → (s ≡ true → n ≡ 0) → n ≤ unit → lt oneᶠ (round binary64 s n unit) ≡ false
sum_up_to_one false n f h =
    not_lt_of_le (round binary64 false n unit) oneᶠ
    (is_true (le (round binary64 false n unit) oneᶠ)
    (subst (λ (z : Float). T (le (round binary64 false n unit) z)) one_round
    (round_mono binary64 n unit 1 1 unit_pos (zero-lt-suc 0) (omega arith))))
sum_up_to_one true n f h =
    lt_values oneᶠ (round binary64 true n unit) false true 1 1 0 1 (zero-lt-suc 0) (zero-lt-suc 0) one_value
    (exact_size true n unit 0 unit_pos (f refl ∙ sym (zero-mul unit)) (lit≤ tt))

sum_past_one : (s : Bool) (n : ℕ) → (s ≡ true → n ≡ 0) → unit ≤ n → n ≤ unit * 2 ^ 100
    → ((w : ℕ) → 2 ^ 53 * n ≤ 2 ^ 53 * w + n → unit < w) → lt oneᶠ (round binary64 s n unit) ≡ true
sum_past_one true n f h k past = absurd (let u = unit_pos in omega (arith, f refl, h, u))
sum_past_one false n f h k past =
    let r = round_near false n unit unit_pos (mul-le-mul_right unit (le_trans (le_trans (lit≤ tt) unit_large) h)) k in
    let w = r.units in
    let c : 2 ^ 53 * n ≤ 2 ^ 53 * w + n = le_of_mul-le-mul_right (omega (arith, r.close.1)) unit_pos in
    let p = past w c in
    lt_values oneᶠ (round binary64 false n unit) false false 1 1 w unit (zero-lt-suc 0) unit_pos one_value r.value
    ∙ lt-ltb (1 * unit) (w * 1) (omega (arith, p))

-- ---- two quotients
free : (s : Bool) (N g D : ℕ) → 0 < D → 0 ≡ less s N → 2 ^ 51 * (g * D) ≤ 2 ^ 51 * (N * unit) + N * unit → s ≡ true → g ≡ 0
free false N g D p h k e = absurd (false≢true e)
free true N g D p h k e = nothing g D p (subst (λ (m : ℕ). 2 ^ 51 * (g * D) ≤ 2 ^ 51 * (m * unit) + m * unit) (sym h) k)

-- the bounds of two add up
both_upper : (g h D N M u : ℕ) → 2 ^ 51 * (g * D) ≤ 2 ^ 51 * (N * u) + N * u → 2 ^ 51 * (h * D) ≤ 2 ^ 51 * (M * u) + M * u
    → 2 ^ 51 * ((g + h) * D) ≤ 2 ^ 51 * ((N + M) * u) + (N + M) * u
both_upper g h D N M u p q = omega arith

both_lower : (g h D N M u : ℕ) → 2 ^ 51 * (N * u) ≤ 2 ^ 51 * (g * D) + N * u → 2 ^ 51 * (M * u) ≤ 2 ^ 51 * (h * D) + M * u
    → 2 ^ 51 * ((N + M) * u) ≤ 2 ^ 51 * ((g + h) * D) + (N + M) * u
both_lower g h D N M u p q = omega arith

-- with A for (N + M) * unit, B for D * unit, C for (g + h) * D
at_most_twice : (B C : ℕ) → 2 ^ 53 * C ≤ 2 ^ 53 * B + C → C ≤ 2 * B
at_most_twice B C h = omega arith

coarser_bound : (B C : ℕ) → C ≤ 2 * B → 2 ^ 53 * C ≤ 2 ^ 53 * B + C → 2 ^ 51 * C ≤ 2 ^ 51 * B + B
coarser_bound B C k h = omega arith

bounds_chained : (A B c b a : ℕ) → a ≤ c + A → c ≤ b + B → a ≤ b + B + A
bounds_chained A B c b a h k = omega arith

unit_left_over : (A B U : ℕ) → B + U ≤ A → 2 ^ 51 * A ≤ 2 ^ 51 * B + B + A → 2 ^ 51 * U ≤ 2 * B + U
unit_left_over A B U h k = omega arith

unit_too_large : (B U : ℕ) → 0 < U → B ≤ 2 ^ 43 * U → 2 ^ 51 * U ≤ 2 * B + U → ⊥
unit_too_large B U u k h = omega arith

past : (A B C U : ℕ) → 0 < U → B + U ≤ A → B ≤ 2 ^ 43 * U → 2 ^ 51 * A ≤ 2 ^ 51 * C + A → 2 ^ 53 * C ≤ 2 ^ 53 * B + C → ⊥
past A B C U u h k l m =
    unit_too_large B U u k
    (unit_left_over A B U h (bounds_chained A B (2 ^ 51 * C) (2 ^ 51 * B) (2 ^ 51 * A) l (coarser_bound B C (at_most_twice B C m) m)))

scaled : (n w D u : ℕ) → w ≤ u → 2 ^ 53 * n ≤ 2 ^ 53 * w + n → 2 ^ 53 * (n * D) ≤ 2 ^ 53 * (D * u) + n * D
scaled n w D u h k =
    let a : 2 ^ 53 * n ≤ 2 ^ 53 * u + n = omega (arith, h, k) in
    let b : 2 ^ 53 * n * D ≤ (2 ^ 53 * u + n) * D = mul-le-mul_right D a in
    omega (arith, b)

-- the sizes are not too large
twice_at_most : (x y : ℕ) → 2 ^ 51 * x ≤ 2 ^ 51 * y + y → x ≤ 2 * y
twice_at_most x y h = omega arith

bounded : (n D A u : ℕ) → 0 < D → A ≤ 2 ^ 54 → 2 ^ 51 * (n * D) ≤ 2 ^ 51 * (A * u) + A * u → n ≤ u * 2 ^ 100
bounded n D A u p a h =
    let b = twice_at_most (n * D) (A * u) h in
    let c : 1 * n ≤ D * n = mul-le-mul_right n p in
    let d : A * u ≤ 2 ^ 54 * u = mul-le-mul_right u a in
    let e : n ≤ 2 ^ 55 * u = omega (arith, b, c, d, mul_comm D n) in
    le_trans e (le_trans (mul-le-mul_right u (lit≤ {m = 2 ^ 55} {n = 2 ^ 100} tt)) (le_of_eq (mul_comm (2 ^ 100) u)))

module _ (x y : Float) (z w : ℤ) (D : ℕ) (p : 0 < D) (r : Ratio x z D) (q : Ratio y w D) (f : np z ≡ 0) (g : np w ≡ 0)
    (small : D ≤ 2 ^ 43) where
  n : ℕ
  n = r.quotient.units + q.quotient.units

  A : ℕ
  A = nat_abs z + nat_abs w

  whole : Summed (x +ᶠ y) n
  unfolding n
  whole = sum_of x y r.sign q.sign r.quotient.units q.quotient.units r.quotient.value q.quotient.value
      (free r.sign (nat_abs z) r.quotient.units D p (sym f ∙ r.below_zero) r.quotient.upper)
      (free q.sign (nat_abs w) q.quotient.units D p (sym g ∙ q.below_zero) q.quotient.upper)

  upper : 2 ^ 51 * (n * D) ≤ 2 ^ 51 * (A * unit) + A * unit
  unfolding n A
  upper = both_upper r.quotient.units q.quotient.units D (nat_abs z) (nat_abs w) unit r.quotient.upper q.quotient.upper

  lower : 2 ^ 51 * (A * unit) ≤ 2 ^ 51 * (n * D) + A * unit
  unfolding n A
  lower = both_lower r.quotient.units q.quotient.units D (nat_abs z) (nat_abs w) unit r.quotient.lower q.quotient.lower

  pub sum_not_above_one : nat_abs z + nat_abs w < D → lt oneᶠ (x +ᶠ y) ≡ false
  unfolding A
  sum_not_above_one h =
      ap (lt oneᶠ) whole.is
      ∙ sum_up_to_one whole.sign n whole.zeroed
      (le_of_mul-le-mul_right
      (le_trans
      (not_far (A * unit) (D * unit) (n * D) unit (le_trans (omega arith) (mul-le-mul_right unit h)) (mul-le-mul_right unit small) upper)
      (le_of_eq (mul_comm D unit))) p)

  no_past : D < nat_abs z + nat_abs w → (v : ℕ) → v ≤ unit → 2 ^ 53 * n ≤ 2 ^ 53 * v + n → ⊥
  unfolding A
  no_past h v e c =
      past (A * unit) (D * unit) (n * D) unit unit_pos (le_trans (omega arith) (mul-le-mul_right unit h))
      (mul-le-mul_right unit small) lower (scaled n v D unit e c)

  pub sum_above_one : D < nat_abs z + nat_abs w → nat_abs z + nat_abs w ≤ 2 ^ 54 → lt oneᶠ (x +ᶠ y) ≡ true
  unfolding A
  sum_above_one h l =
      ap (lt oneᶠ) whole.is
      ∙ sum_past_one whole.sign n whole.zeroed
      (let a = lt_of_not-le (λ (e : n ≤ unit). no_past h n e (omega arith)) in omega (arith, a))
      (bounded n D A unit p l upper)
      (λ (v : ℕ) (c : 2 ^ 53 * n ≤ 2 ^ 53 * v + n). lt_of_not-le (λ (e : v ≤ unit). no_past h v e c))
