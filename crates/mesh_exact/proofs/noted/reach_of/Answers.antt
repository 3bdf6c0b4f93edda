-- `mesh_exact::noted::reach_of` meets its contract. Assumes nothing.
use Rattle.mesh_exact.proofs.Reaching.{reach_is}
use Rattle.mesh_exact.proofs.noted.reach_of.Goals as goal

-- what the line reaches its corners at
pub returns : goal.returns
returns c =
    λ ray h.
    reach_is ray _ _ _ h.valid h.shown.admitted c.requires.0.1 _ c.corners_of.ensures _
    (c.reach_on.ensures ray h.shown.sees)
