-- The origin, the direction and the range, in this order.
use Rattle.std.proofs.Common.{sym, ◌∙◌}
use Rattle.geometry.proofs.UnitLength.{admitted_is}
use Rattle.geometry.proofs.ray.Ray.validate.Goals as goal
use Rattle.geometry.proofs.ray.Ray.validate.Goals.{then-all_finite, else-all_finite}

pub returns-then-close_to_unit_length : goal.returns-then-close_to_unit_length
returns-then-close_to_unit_length c =
    elim c.if-all_finite.branch [
      | then-all_finite w ↦ simp (
        admitted_is c.args.self,
        sym c.all_finite.ensures ∙ w.if-all_finite.true,
        sym w.close_to_unit_length.ensures ∙ sym w.value-is ∙ c.if-close_to_unit_length.true,
        c.range_admitted.ensures,
      )
      | else-all_finite w ↦ cc
    ]

-- an origin that is not finite, or a direction that is not close to length 1
pub returns-else-close_to_unit_length : goal.returns-else-close_to_unit_length
returns-else-close_to_unit_length c =
    elim c.if-all_finite.branch [
      | then-all_finite w ↦ simp (
        admitted_is c.args.self,
        sym c.all_finite.ensures ∙ w.if-all_finite.true,
        sym w.close_to_unit_length.ensures ∙ sym w.value-is ∙ c.if-close_to_unit_length.false,
        c.if-close_to_unit_length.false,
      )
      | else-all_finite w ↦ simp (
        admitted_is c.args.self,
        sym c.all_finite.ensures ∙ w.if-all_finite.false,
        c.if-close_to_unit_length.false,
      )
    ]
