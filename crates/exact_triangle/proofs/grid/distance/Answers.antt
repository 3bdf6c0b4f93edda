-- `exact_triangle::grid::distance` meets its contract. Assumes nothing.
use Rattle.std.proofs.Common.{T, sym, subst, lit≤}
use Rattle.exact_triangle.specs.Grid.{units, unitsᶠ}
use Rattle.exact_triangle.proofs.RoundedReadings.{Reads, distance_told}
use Rattle.exact_triangle.proofs.Laws.{cast_taken, cast_told}
use Rattle.exact_triangle.proofs.grid.distance.Goals as goal

pub float_to_int-result : goal.float_to_int-result
float_to_int-result c =
    let told : Reads units 1073741824 unitsᶠ c.args.x =
    distance_told c.args.x (subst T (sym c.well_formed.0.1) tt) c.requires in
    cast_taken told (lit≤ tt)

pub returns : goal.returns
returns c =
    let told : Reads units 1073741824 unitsᶠ c.args.x =
    distance_told c.args.x (subst T (sym c.well_formed.0.1) tt) c.requires in
    cast_told told (lit≤ tt)
