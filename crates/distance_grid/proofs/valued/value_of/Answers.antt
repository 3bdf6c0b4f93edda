-- `distance_grid::valued::value_of` meets its contract. Assumes nothing.
use Rattle.std.proofs.Common.{sym}
use Rattle.distance_grid.proofs.PlaceLaws.{located_below, located_fractions}
use Rattle.distance_grid.proofs.valued.value_of.Goals as goal

pub value_in_cell-requires : goal.value_in_cell-requires
value_in_cell-requires c =
    let located = sym c.in_ok-place.ensures in
    record {
      inside = rw c.cell.ensures (located_below c.args.field.now.grid c.args.point c.args.field.now.stands.sides_stand located);
      fractions = rw c.fractions.ensures (located_fractions c.args.field.now.grid c.args.point c.args.field.now.stands.sides_stand located);
    }
