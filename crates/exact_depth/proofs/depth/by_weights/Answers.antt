-- `exact_depth::depth::by_weights` meets its contract. Assumes nothing.
use Rattle.std.proofs.Common.{◌≡◌, Bool, true, false, ◌&&◌, None, ℤ, pos, refl, sym, ap, ◌∙◌, rules}
use mir.Syntax.{w64}
use mir.Val.{SFits}
use lib.Signed.{lt_z}
use Rattle.lists.proofs.JoinedTests.{and_not_first}
use Rattle.wide_integers.specs.Value.{value}
use Rattle.exact_depth.specs.FirstPoint.{crossing, coplanar, by_weights}
use Rattle.wide_integers.proofs.Reading.{taken, left, bits_back}
use Rattle.exact_depth.proofs.Laws.{missed, finds_as}
use Rattle.exact_depth.proofs.depth.by_weights.Goals as goal
use Rattle.exact_depth.proofs.depth.by_weights.Goals.{then-not-is_zero-via-then-not-is_zero}
use Rattle.exact_depth.proofs.depth.by_weights.Goals.{then-not-is_zero-via-else-not-is_zero+then-not-is_zero-2}

second-not : (p q : Bool) → p ≡ true → q ≡ false → (p && q) ≡ false
second-not p q h g = ap (λ (b : Bool). b && q) h ∙ g

both_yes : {p q : Bool} → p ≡ true → q ≡ true → (p && q) ≡ true
both_yes {p} {q} h g = ap (λ (b : Bool). b && q) h ∙ g

pub returns-then-is_positive : goal.returns-then-is_positive
unfolding by_weights
returns-then-is_positive c =
    let v = c.args in
    let a : SFits w64 v.a.depth = search rules in
    let b : SFits w64 v.b.depth = search rules in
    let d : SFits w64 v.c.depth = search rules in
    finds_as c.crossing.ensures
    (taken _ (sym (c.if-is_positive.ensures ∙ ap (λ (z : ℤ). lt_z (pos 0) z) c.total-signed.ensures))
    (λ i. crossing (value v.alpha) (value v.beta) (value v.gamma) (bits_back a i) (bits_back b i) (bits_back d i)
    (bits_back c.ranges.near i) (bits_back c.ranges.far i)))

pub returns-then-is_negative : goal.returns-then-is_negative
unfolding by_weights
returns-then-is_negative c =
    let v = c.args in
    let a : SFits w64 v.a.depth = search rules in
    let b : SFits w64 v.b.depth = search rules in
    let d : SFits w64 v.c.depth = search rules in
    finds_as c.crossing-then-is_negative.ensures
    (left _ (sym (c.if-is_positive.ensures ∙ ap (λ (z : ℤ). lt_z (pos 0) z) c.total-signed.ensures))
    (taken _ (sym (c.if-is_negative.ensures ∙ ap (λ (z : ℤ). lt_z z (pos 0)) c.total-signed.ensures))
    (λ i. crossing (c.negate-first.ensures i) (c.negate-second.ensures i) (c.negate-third.ensures i) (bits_back a i)
    (bits_back b i) (bits_back d i) (bits_back c.ranges.near i) (bits_back c.ranges.far i))))

-- past the two tests of the sum
pub returns-then-not-is_zero : goal.returns-then-not-is_zero
unfolding by_weights
returns-then-not-is_zero c =
    missed
    (left _ (sym (c.if-is_positive.ensures ∙ ap (λ (z : ℤ). lt_z (pos 0) z) c.total-signed.ensures))
    (left _ (sym (c.if-is_negative.ensures ∙ ap (λ (z : ℤ). lt_z z (pos 0)) c.total-signed.ensures))
    (left (coplanar c.args.a c.args.b c.args.c c.args.near c.args.far)
    (elim c.then-not-is_zero.branch [
      | then-not-is_zero-via-then-not-is_zero w ↦ and_not_first _ _ (sym w.if-not-is_zero.ensures)
      | then-not-is_zero-via-else-not-is_zero+then-not-is_zero-2 w ↦
          second-not _ _ (sym w.if-not-is_zero.ensures) (sym w.if-not-is_zero-2.ensures)
    ])
    refl)))

pub returns : goal.returns
unfolding by_weights
returns c =
    let v = c.args in
    finds_as c.coplanar.ensures
    (left _ (sym (c.if-is_positive.ensures ∙ ap (λ (z : ℤ). lt_z (pos 0) z) c.total-signed.ensures))
    (left _ (sym (c.if-is_negative.ensures ∙ ap (λ (z : ℤ). lt_z z (pos 0)) c.total-signed.ensures))
    (taken None
    (both_yes (sym c.if-not-is_zero.ensures) (sym c.if-not-is_zero-2.ensures))
    (λ i. coplanar v.a v.b v.c (bits_back c.ranges.near i) (bits_back c.ranges.far i)))))
