-- `exact_hits::rows::hit_of` meets its contract. Assumes nothing.
use Rattle.std.proofs.Common.{◌∙◌}
use Rattle.mesh_exact.proofs.Reaching.{hit_inside, hit_answer}
use Rattle.exact_hits.proofs.rows.hit_of.Goals as goal

pub corners_of-requires : goal.corners_of-requires
corners_of-requires c = (c.requires.1.0, hit_inside c.args.ray _ _ _ c.requires.0.0 c.requires.0.1 _ c.requires.1.1)

pub returns : goal.returns
returns c =
    c.hit_on.ensures ∙ hit_answer c.args.ray _ _ _ c.requires.0.0 c.requires.0.1 _ c.requires.1.1 _ c.corners_of.ensures
