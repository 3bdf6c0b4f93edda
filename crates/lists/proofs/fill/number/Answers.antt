-- A store at the first place that has no number yet.
use Rattle.std.proofs.Common.{ℕ, ◌+◌, List, ◌∷◌, [], ◌++◌, drop, refl, sym, ap, ◌∙◌, arith, zero-add, set}
use Rattle.lists.specs.Lists.{range}
use Rattle.lists.proofs.Runs.{stored_after, range_next}
use Rattle.lists.proofs.CountLaws.{length_range}
use Rattle.lists.proofs.fill.number.Goals as goal

pub loop-i-init : goal.loop-i-init
unfolding range
loop-i-init c = refl

pub loop-i-preserved : goal.loop-i-preserved
loop-i-preserved c =
    let i = c.loop-i.i in
    let rest = c.args.area.now in
    ap (λ (z : List ℕ). set z i i) c.loop-i.invariant ∙ stored_after (range 0 i) rest i i 0 (length_range 0 i) (omega arith)
    ∙ ap (λ (z : List ℕ). z ++ drop (i + 1) rest)
    (ap (λ (k : ℕ). range 0 i ++ (k ∷ [])) (sym (zero-add i)) ∙ range_next 0 i)
