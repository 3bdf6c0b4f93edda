-- `drill::inside::cap_between` meets its contract. Assumes nothing.
use Rattle.std.proofs.Common.{Bool, not, ℤ, pos, ◌-ℤ◌, ◌*ℤ◌, sym, ap, ◌∙◌}
use mathlib.Core.Bool.{false≢true}
use lib.Signed.{lt_z}
use Rattle.exact_depth.specs.declared.projection.Point.{Point}
use Rattle.wide_integers.proofs.OperationLaws.{at_most_told}
use Rattle.drill.proofs.InsideTests.{between_first, between_second, between_is}
use Rattle.drill.proofs.Laws.{negative_off, negative_on, not_false, not_true}
use Rattle.drill.specs.Code.{steps_of}
use Rattle.drill.proofs.inside.cap_between.Goals as goal
use Rattle.drill.proofs.inside.cap_between.Goals.{then-not-is_negative, else-not-is_negative}

abbrev below : ℤ → Bool
below z = lt_z z (pos 0)

-- the turns about the first and the second corner
abbrev first : Point → Point → ℤ
first s f = s.y *ℤ f.z -ℤ s.z *ℤ f.y

abbrev second : Point → Point → ℤ
second s f = s.z *ℤ f.x -ℤ s.x *ℤ f.z

pub returns-then-not-is_negative-2 : goal.returns-then-not-is_negative-2
returns-then-not-is_negative-2 c =
    let s = steps_of c.args.s in
    let f = steps_of c.args.f in
    elim c.if-not-is_negative.branch [
      | then-not-is_negative w ↦
          between_is s f (negative_on (first s f) (c.is_negative.ensures ∙ ap below c.turn.ensures) w.if-not-is_negative.true)
          (negative_on (second s f) (w.is_negative-then-not-is_negative.ensures ∙ ap below w.turn-then-not-is_negative.ensures)
          (not_true (sym w.value-is ∙ c.if-not-is_negative-2.true)))
          (ap not (c.is_negative-then-not-is_negative-2.ensures ∙ ap below c.turn-then-not-is_negative-2.ensures)
          ∙ at_most_told (pos 0) (s.x *ℤ f.y -ℤ s.y *ℤ f.x))
      | else-not-is_negative w ↦
          absurd (false≢true (ap not (sym w.if-not-is_negative.false) ∙ sym w.value-is ∙ c.if-not-is_negative-2.true))
    ]

pub returns-else-not-is_negative-2 : goal.returns-else-not-is_negative-2
returns-else-not-is_negative-2 c =
    let s = steps_of c.args.s in
    let f = steps_of c.args.f in
    c.if-not-is_negative-2.false
    ∙ elim c.if-not-is_negative.branch [
      | then-not-is_negative w ↦
          between_second s f (negative_on (first s f) (c.is_negative.ensures ∙ ap below c.turn.ensures) w.if-not-is_negative.true)
          (negative_off (second s f) (w.is_negative-then-not-is_negative.ensures ∙ ap below w.turn-then-not-is_negative.ensures)
          (not_false (sym w.value-is ∙ c.if-not-is_negative-2.false)))
      | else-not-is_negative w ↦
          between_first s f (negative_off (first s f) (c.is_negative.ensures ∙ ap below c.turn.ensures) w.if-not-is_negative.false)
    ]
