-- `distance_grid::sampling::sample` meets its contract. Assumes nothing.
use Rattle.std.proofs.Common.{sym}
use Rattle.distance_grid.proofs.PlaceLaws.{located_below}
use Rattle.distance_grid.proofs.sampling.sample.Goals as goal

pub sample_cell-requires : goal.sample_cell-requires
sample_cell-requires c =
    rw c.cell.ensures (located_below c.args.field.now.grid c.args.point c.args.field.now.stands.sides_stand (sym c.in_ok-place.ensures))
