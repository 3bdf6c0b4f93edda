-- `merge::testing::passes` meets its contract. Assumes nothing.
use Rattle.std.proofs.Common.{◌∙◌}
use Rattle.merge.proofs.TestLaws.{answer_told}
use Rattle.merge.proofs.testing.passes.Goals as goal

pub returns : goal.returns
returns c =
    c.unwrap_or.ensures ∙ answer_told _ _ _ c.requires.lengths c.requires.room c.check-verdict.result c.check-verdict.ensures.0
