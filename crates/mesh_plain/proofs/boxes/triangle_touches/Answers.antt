-- `mesh_plain::boxes::triangle_touches` meets its contract. Assumes nothing.
use Rattle.std.proofs.Common.{ap, ◌∙◌}
use Rattle.geometry.specs.Box.{corners_box, touches}
use Rattle.mesh_plain.proofs.boxes.triangle_touches.Goals as goal

-- by the corners
pub returns-in-None : goal.returns-in-None
returns-in-None c = c.corners_touch.ensures ∙ ap (λ vs. touches (corners_box vs) c.args.bounds) c.corners_of.ensures
