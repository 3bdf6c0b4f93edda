-- `mesh_hits::sorted::hit_of` meets its contract. Assumes nothing.
use Rattle.std.proofs.Common.{◌∙◌}
use Rattle.tree.proofs.Corners.{hit_inside, hit_answer}
use Rattle.mesh_hits.proofs.sorted.hit_of.Goals as goal

pub corners_of-requires : goal.corners_of-requires
corners_of-requires c = (c.requires.0, hit_inside _ _ _ _ _ c.requires.1)

pub returns : goal.returns
returns c = c.hit_at.ensures ∙ hit_answer _ _ _ _ _ c.requires.1 _ c.corners_of.ensures
