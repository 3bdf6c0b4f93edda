-- `drill::touch::touched_by` meets its contract. Assumes nothing.
use Rattle.std.proofs.Common.{sym, ◌∙◌}
use Rattle.drill.proofs.Touching.{touched_parts}
use Rattle.drill.proofs.Laws.{or_hit, or_miss}
use Rattle.drill.specs.Code.{from_axis_of, plane_of}
use Rattle.drill.proofs.touch.touched_by.Goals as goal

pub returns-then-outline_in : goal.returns-then-outline_in
returns-then-outline_in c =
    let p = from_axis_of c.args.t.a in
    let q = from_axis_of c.args.t.b in
    let r = from_axis_of c.args.t.c in
    λ l ρ o. c.if-outline_in.true ∙ or_hit (plane_of l ρ p q r) (sym (c.outline_in.ensures l ρ o) ∙ c.if-outline_in.true)
    ∙ sym (touched_parts l ρ p q r)

pub returns-else-outline_in : goal.returns-else-outline_in
returns-else-outline_in c =
    λ l ρ o. or_miss (sym (c.outline_in.ensures l ρ o) ∙ c.if-outline_in.false) (c.plane_in.ensures l ρ o)
    ∙ sym (touched_parts l ρ (from_axis_of c.args.t.a) (from_axis_of c.args.t.b) (from_axis_of c.args.t.c))
