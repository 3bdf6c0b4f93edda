-- `tree_exact::walk::nearest_along` meets its contract. Assumes nothing.
use Rattle.tree_exact.proofs.walk.nearest_along.Goals as goal

pub line_of-requires : goal.line_of-requires
line_of-requires c = c.requires.0.0.1

pub find_nearest-requires : goal.find_nearest-requires
find_nearest-requires c = (c.line_of.ensures.view_sized, c.requires.1)

-- the walk of the ray's own line
pub returns : goal.returns
returns c =
    record {
      holds = c.find_nearest.ensures.holds c.args.ray
          (record { casts = record { valid = c.requires.0.0.0; shown = c.line_of.ensures }; box = c.requires.0.1 });
    }
