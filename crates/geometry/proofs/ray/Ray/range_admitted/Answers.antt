-- Two comparisons and the maximum tell.
use Rattle.std.proofs.Common.{sym, ◌∙◌}
use Rattle.geometry.proofs.RangeLaws.{in_range_lem, below_zero, past_most}
use Rattle.geometry.proofs.ray.Ray.range_admitted.Goals as goal
use Rattle.geometry.proofs.ray.Ray.range_admitted.Goals.{then-self, else-self}

-- the maximum decides
pub returns-then-self-2 : goal.returns-then-self-2
returns-then-self-2 c =
    elim c.if-self.branch [
      | then-self w ↦ c.is_finite.ensures ∙ in_range_lem c.args.self w.if-self.true (sym w.value-is ∙ c.if-self-2.true)
      | else-self w ↦ cc
    ]

-- a near distance above the maximum, or below 0
pub returns-else-self-2 : goal.returns-else-self-2
returns-else-self-2 c =
    elim c.if-self.branch [
      | then-self w ↦ c.if-self-2.false ∙ past_most c.args.self (sym w.value-is ∙ c.if-self-2.false)
      | else-self w ↦ c.if-self-2.false ∙ below_zero c.args.self w.if-self.false
    ]
