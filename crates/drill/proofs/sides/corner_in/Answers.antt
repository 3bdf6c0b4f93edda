-- `drill::sides::corner_in` meets its contract. Assumes nothing.
use Rattle.std.proofs.Common.{not, sym, ap, ◌∙◌, ℤ}
use mathlib.Core.Bool.{false≢true}
use lib.Signed.{le_z}
use Rattle.drill.proofs.SideTests.{corner_below, corner_beyond, corner_is}
use Rattle.drill.proofs.Laws.{negative_off, negative_on, not_false, not_true}
use Rattle.drill.specs.Code.{from_axis_of}
use Rattle.wide_integers.specs.Value.{value}
use Rattle.drill.proofs.sides.corner_in.Goals as goal
use Rattle.drill.proofs.sides.corner_in.Goals.{then-not-is_negative, else-not-is_negative}

pub returns-then-not-is_negative-2 : goal.returns-then-not-is_negative-2
returns-then-not-is_negative-2 c =
    let p = from_axis_of c.args.p in
    elim c.if-not-is_negative.branch [
      | then-not-is_negative w ↦
          corner_is (value c.args.reach) p (negative_on p.low c.is_negative.ensures w.if-not-is_negative.true)
          (negative_on p.high w.is_negative-then-not-is_negative.ensures (not_true (sym w.value-is ∙ c.if-not-is_negative-2.true)))
          (c.at_most.ensures ∙ ap (λ (z : ℤ). le_z z (value c.args.reach)) c.dot.ensures)
      | else-not-is_negative w ↦
          absurd (false≢true (ap not (sym w.if-not-is_negative.false) ∙ sym w.value-is ∙ c.if-not-is_negative-2.true))
    ]

pub returns-else-not-is_negative-2 : goal.returns-else-not-is_negative-2
returns-else-not-is_negative-2 c =
    let p = from_axis_of c.args.p in
    c.if-not-is_negative-2.false
    ∙ elim c.if-not-is_negative.branch [
      | then-not-is_negative w ↦
          corner_beyond (value c.args.reach) p (negative_on p.low c.is_negative.ensures w.if-not-is_negative.true)
          (negative_off p.high w.is_negative-then-not-is_negative.ensures (not_false (sym w.value-is ∙ c.if-not-is_negative-2.false)))
      | else-not-is_negative w ↦
          corner_below (value c.args.reach) p (negative_off p.low c.is_negative.ensures w.if-not-is_negative.false)
    ]
