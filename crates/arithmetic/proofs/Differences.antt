-- The size of a difference of two floats above zero is their exact distance, rounded. Assumes nothing.
use Rattle.std.proofs.Common.{◌≡◌, ℕ, ◌+◌, ◌-◌, ◌*◌, ◌<◌, ◌≤◌, Bool, true, false, cond, T, ltb, ℤ, refl, ap, ◌∙◌, arith, ltb-false}
use Rattle.std.proofs.Common.{ltb-true}
use lib.Ieee.{Float, nan, inf, fin, Format, binary64, up, down, round, sum, sub}
use lib.Ieee.Positive.{num, den, positive}
use Rattle.arithmetic.specs.Basic.{absolute}
use Rattle.arithmetic.proofs.RoundedSigns.{absolute_round}

-- |a - b|
abbrev pub apart : ℕ → ℕ → ℕ
apart a b = a - b + (b - a)

absolute_sum : (f : Format) (a b c : ℕ) → absolute (sum f false a true b c) ≡ round f false (apart a b) c
unfolding sum
absolute_sum f a b c = go (ltb a b) (ltb-true a b) (ltb-false a b)
  where
    go : (t : Bool) → (t ≡ true → a < b) → (t ≡ false → b ≤ a) → absolute (cond t (round f true (b - a) c) (round f false (a - b) c)) ≡
        round f false (apart a b) c
    go true h k =
        let l : a < b = h refl in
        let e : b - a ≡ apart a b = omega arith in
        absolute_round f true (b - a) c ∙ ap (λ (z : ℕ). round f false z c) e
    go false h k =
        let l : b ≤ a = k refl in
        let e : a - b ≡ apart a b = omega arith in
        absolute_round f false (a - b) c ∙ ap (λ (z : ℕ). round f false z c) e

sub_finite : (m : ℕ) (e : ℤ) (n : ℕ) (d : ℤ) → sub binary64 (fin false m e) (fin false n d) ≡ sum binary64 false (m * up e * down d) true
    (n * up d * down e) (down e * down d)
unfolding sub
sub_finite m e n d = refl

pub absolute_sub : (x y : Float) → T (positive x) → T (positive y) → absolute (sub binary64 x y) ≡ round binary64 false
    (apart (num x * den y) (num y * den x)) (den x * den y)
absolute_sub nan y p q = absurd p
absolute_sub (inf s) y p q = absurd p
absolute_sub (fin true m e) y p q = absurd p
absolute_sub (fin false m e) nan p q = absurd q
absolute_sub (fin false m e) (inf t) p q = absurd q
absolute_sub (fin false m e) (fin true n d) p q = absurd q
absolute_sub (fin false m e) (fin false n d) p q = ap absolute (sub_finite m e n d) ∙ absolute_sum binary64 (m * up e * down d)
    (n * up d * down e) (down e * down d)
