-- `nearest_hit::nearest::next_settled` meets its contract. Assumes nothing.
use mathlib.Core.Path.{sym, ap, ◌∙◌}
use Rattle.nearest_hit.specs.Nearest.{next_of}
use Rattle.triangle_cast.proofs.ReachLaws.{refused_by, settled_by_distance}
use Rattle.nearest_hit.proofs.NextLaws.{next_missed, next_farther}
use Rattle.nearest_hit.proofs.nearest.next_settled.Goals as goal

-- a hit that takes the place
pub returns-then-gives_way : goal.returns-then-gives_way
returns-then-gives_way c =
    let told = rw c.in-Ok-Some.field-0-is at (c.in-Ok-Some.ensures c.args.ray) in
    c.next.ensures ∙ ap (next_of _ _) (c.triangle_normal.ensures ∙ settled_by_distance _ _ _ _ _ _ (sym told))

-- a hit that does not
pub returns-else-gives_way : goal.returns-else-gives_way
returns-else-gives_way c =
    let told = rw c.in-Ok-Some.field-0-is at (c.in-Ok-Some.ensures c.args.ray) in
    next_farther _ _ _ _ (sym told) (sym c.gives_way.ensures ∙ c.if-gives_way.false)

-- a miss
pub returns-in-Ok-None : goal.returns-in-Ok-None
returns-in-Ok-None c =
    let told = rw c.in-Ok-None.field-0-is at (c.in-Ok-None.ensures c.args.ray) in
    next_missed _ _ _ (sym told)

-- a refusal
pub returns-in-Err : goal.returns-in-Err
returns-in-Err c = c.next-in-Err.ensures ∙ ap (next_of _ _) (refused_by _ _ (sym (c.in-Err.ensures c.args.ray)))
