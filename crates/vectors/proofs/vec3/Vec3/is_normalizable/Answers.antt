-- The components are asked in their order.
use Rattle.std.proofs.Common.{sym, ◌∙◌}
use Rattle.lists.proofs.JoinedTests.{test_passed, test_failed}
use Rattle.vectors.proofs.NormalLaws.{not_finite_told, first_told, second_told, third_told}
use Rattle.vectors.proofs.vec3.Vec3.is_normalizable.Goals as goal
use Rattle.vectors.proofs.vec3.Vec3.is_normalizable.Goals.{then-self, else-self}

pub returns-else-is_finite : goal.returns-else-is_finite
returns-else-is_finite c =
    c.if-is_finite.false ∙ not_finite_told c.args.self (test_failed c.is_finite.ensures c.if-is_finite.false)

-- the first or the second is not 0
pub returns-then-self-2 : goal.returns-then-self-2
returns-then-self-2 c =
    let finite = test_passed c.is_finite.ensures c.if-is_finite.true in
    elim c.if-self.branch [
      | then-self w ↦ c.if-self-2.true ∙ first_told c.args.self finite w.if-self.true
      | else-self w ↦ c.if-self-2.true ∙ second_told c.args.self finite w.if-self.false (sym w.value-is ∙ c.if-self-2.true)
    ]

-- both are 0
pub returns-else-self-2 : goal.returns-else-self-2
returns-else-self-2 c =
    let finite = test_passed c.is_finite.ensures c.if-is_finite.true in
    elim c.if-self.branch [
      | then-self w ↦ cc
      | else-self w ↦ third_told c.args.self finite w.if-self.false (sym w.value-is ∙ c.if-self-2.false)
    ]
