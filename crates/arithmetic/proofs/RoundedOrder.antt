-- Rounding keeps the order of fractions with a sign. Assumes nothing.
use Rattle.std.proofs.Common.{◌≡◌, ℕ, zero, suc, ◌+◌, ◌*◌, ◌<◌, ◌≤◌, Bool, true, false, pos, refl, ◌∙◌, subst, true≢false, mul-pos, arith}
use Rattle.std.proofs.Common.{lit<}
use lib.Ieee.{Float, nan, inf, fin, binary64, is_nan, neg, round, lt, le}
use lib.Ieee.Bits.{is_true}
use lib.Ieee.Order.{round_mono}
use Rattle.arithmetic.specs.Basic.{negative}
use Rattle.arithmetic.proofs.BelowLaws.{le_neg}
use Rattle.arithmetic.proofs.Exactness.{neg_round}
use Rattle.arithmetic.proofs.Order.{le_transitive, le_of_not_lt}
use Rattle.arithmetic.proofs.RoundedNumbers.{round_number}
use Rattle.arithmetic.proofs.RoundedSigns.{round_not_negative}
use Rattle.arithmetic.proofs.SignedOrder.{plus, less}
use Rattle.arithmetic.proofs.Sizes.{number_neg}

-- ---- ±a / c ≤ ±b / d
abbrev pub AtMost : Bool → ℕ → ℕ → Bool → ℕ → ℕ → Type 0
AtMost s a c t b d = plus s a * d + less t b * c ≤ plus t b * c + less s a * d

not_above : (x y : Float) → negative x ≡ false → negative y ≡ false → lt y (neg x) ≡ false
unfolding negative neg lt
not_above nan nan p q = refl
not_above nan (inf t) p q = refl
not_above nan (fin t n d) p q = refl
not_above (inf s) nan p q = refl
not_above (inf s) (inf true) p q = absurd (true≢false q)
not_above (inf s) (inf false) p q = refl
not_above (inf true) (fin t n d) p q = absurd (true≢false p)
not_above (inf false) (fin t n d) p q = refl
not_above (fin s m e) nan p q = refl
not_above (fin s m e) (inf true) p q = absurd (true≢false q)
not_above (fin s m e) (inf false) p q = refl
not_above (fin true m e) (fin t n d) p q = absurd (true≢false p)
not_above (fin false m e) (fin true n d) p q = absurd (true≢false q)
not_above (fin false m e) (fin false n d) p q = refl

opposite_signs : (x y : Float) → negative x ≡ false → negative y ≡ false → is_nan x ≡ false → is_nan y ≡ false → le (neg x) y ≡ true
opposite_signs x y p q h k = le_of_not_lt (neg x) y (number_neg x ∙ h) k (not_above x y p q)

pub plain_mono : (a c b d : ℕ) → 0 < c → 0 < d → a * d ≤ b * c → le (round binary64 false a c) (round binary64 false b d) ≡ true
plain_mono a c b d C D h = is_true (le (round binary64 false a c) (round binary64 false b d)) (round_mono binary64 a c b d C D h)

turned_mono : (a c b d : ℕ) → 0 < c → 0 < d → b * c ≤ a * d → le (round binary64 true a c) (round binary64 true b d) ≡ true
turned_mono a c b d C D h =
    subst (λ (y : Float). le y (round binary64 true b d) ≡ true) (neg_round binary64 a c)
    (subst (λ (y : Float). le (neg (round binary64 false a c)) y ≡ true) (neg_round binary64 b d)
    (le_neg (round binary64 false b d) (round binary64 false a c) (round_number binary64 false b d) (round_number binary64 false a c)
    (plain_mono b d a c D C h)))

pub zero_rounds : round binary64 false 0 1 ≡ fin false 0 (pos 0)
unfolding round
zero_rounds = refl

zeros_level : le (fin false 0 (pos 0)) (neg (fin false 0 (pos 0))) ≡ true
unfolding le neg
zeros_level = refl

both_zero : (a c b d : ℕ) → 0 < c → 0 < d → a * d ≤ 0 → b * c ≤ 0 → le (round binary64 false a c) (round binary64 true b d) ≡ true
both_zero a c b d C D h k =
    let z = fin false 0 (pos 0) in
    let first : le (round binary64 false a c) z ≡ true = subst (λ (y : Float). le (round binary64 false a c) y ≡ true) zero_rounds
    (plain_mono a c 0 1 C (lit< tt) (nothing a d c D h)) in
    let second : le (round binary64 false b d) z ≡ true = subst (λ (y : Float). le (round binary64 false b d) y ≡ true) zero_rounds
    (plain_mono b d 0 1 D (lit< tt) (nothing b c d C k)) in
    let third : le (neg z) (round binary64 true b d) ≡ true =
    subst (λ (y : Float). le (neg z) y ≡ true) (neg_round binary64 b d)
    (le_neg (round binary64 false b d) z (round_number binary64 false b d) (unfold is_nan in refl) second) in
    le_transitive (round binary64 false a c) z (round binary64 true b d) first
    (le_transitive z (neg z) (round binary64 true b d) zeros_level third)
  where
    nothing : (x p q : ℕ) → 0 < p → x * p ≤ 0 → x * 1 ≤ 0 * q
    nothing zero p q P h = omega arith
    nothing (suc x) p q P h = let g : 0 < suc x * p = mul-pos (omega arith) P in absurd (omega arith)

-- rounding keeps the order
pub rounding_mono : (s : Bool) (a c : ℕ) (t : Bool) (b d : ℕ) → 0 < c → 0 < d → AtMost s a c t b d
    → le (round binary64 s a c) (round binary64 t b d) ≡ true
rounding_mono false a c false b d C D h = plain_mono a c b d C D (omega arith)
rounding_mono true a c true b d C D h = turned_mono a c b d C D (omega arith)
rounding_mono true a c false b d C D h =
    subst (λ (y : Float). le y (round binary64 false b d) ≡ true) (neg_round binary64 a c)
    (opposite_signs (round binary64 false a c) (round binary64 false b d) (round_not_negative binary64 a c)
    (round_not_negative binary64 b d)
    (round_number binary64 false a c) (round_number binary64 false b d))
rounding_mono false a c true b d C D h = both_zero a c b d C D (omega arith) (omega arith)
