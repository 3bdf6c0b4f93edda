-- The parts have the tree's room.
use Rattle.std.proofs.Common.{arith}
use Rattle.records.proofs.MeshAnswers.{cut_room}
use Rattle.records.proofs.meshes.cast_cut.Goals as goal

pub cast_fresh-requires : goal.cast_fresh-requires
cast_fresh-requires c =
    cut_room _ _ _ _ _ _ _ (omega (arith, c.requires)) (omega arith) (omega arith) (omega arith) (omega arith) (omega arith) (omega arith)
