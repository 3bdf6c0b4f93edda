-- The cast through the tree that was built, or the build's refusal.
use Rattle.std.proofs.lemmas.Result.{err_from_is_err_and}
use Rattle.records.proofs.MeshAnswers.{through_nodes, through_refused}
use Rattle.records.proofs.meshes.cast_built.Goals as goal

pub returns-in_err-nodes : goal.returns-in_err-nodes
returns-in_err-nodes c =
    let said = err_from_is_err_and c.from_residual.result c.from_residual.ensures.1 in
    rw (said.1, said.2) (through_refused _ _ _ _ _ _ _ c.build.ensures.0 _ c.in_err-nodes.was)

pub returns : goal.returns
returns c =
    through_nodes _ _ _ _ _ _ _ c.build.ensures.0 _ _ _ c.in_ok-nodes.was c.build.auto.work c.ray_mesh.ensures.0
