-- A ray that is not admitted, or the cast in areas of zeros.
use Rattle.std.proofs.Common.{sym, ◌∙◌}
use Rattle.records.proofs.MeshAnswers.{refused_ray, fresh_answer}
use Rattle.records.proofs.meshes.cast_fresh.Goals as goal

pub returns-then-not-validate : goal.returns-then-not-validate
returns-then-not-validate c = refused_ray _ _ (sym c.validate.ensures ∙ c.if-not-validate.true)

pub returns : goal.returns
returns c =
    fresh_answer _ _ _ (sym c.validate.ensures ∙ c.if-not-validate.false) c.requires c.zero_numbers.ensures c.zero_numbers-2.ensures
    c.zero_words.ensures c.zero_words-2.ensures c.cast_built.ensures
