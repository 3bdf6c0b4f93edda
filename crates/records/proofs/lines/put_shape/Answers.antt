-- A mesh adds its index, another kind does not.
use Rattle.std.proofs.Common.{ap, ◌∙◌}
use Rattle.record_bytes.specs.Kinds.{byte_of}
use Rattle.record_text.proofs.AnswerParts.{put_as}
use Rattle.records.proofs.Answers.{mesh_answer_lem, without_indices, no_mesh}
use Rattle.records.proofs.lines.put_shape.Goals as goal

pub mesh_answer-nearest-requires : goal.mesh_answer-nearest-requires
mesh_answer-nearest-requires c = c.requires.0.1

pub put_indexed-requires : goal.put_indexed-requires
put_indexed-requires c = c.requires.1

pub returns-in-Mesh : goal.returns-in-Mesh
returns-in-Mesh c =
    put_as _ (mesh_answer_lem c.args.ray _ c.args.counts.now _ _ _ (ap byte_of c.in-Mesh.is) c.mesh_answer-nearest.ensures)
    c.put_indexed.ensures

pub shape_answer-cast-requires : goal.shape_answer-cast-requires
shape_answer-cast-requires c = (c.requires.0.0, no_mesh c.args.kind c.in_default.not-Mesh)

pub returns-in_default : goal.returns-in_default
returns-in_default c =
    put_as _
    (c.shape_answer-cast.ensures ∙ without_indices _ _ _ _ c.args.indices.now (no_mesh c.args.kind c.in_default.not-Mesh))
    c.put_answer.ensures
