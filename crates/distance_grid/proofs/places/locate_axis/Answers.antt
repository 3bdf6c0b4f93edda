-- `distance_grid::places::locate_axis` meets its contract. Assumes nothing.
use Rattle.std.proofs.Common.{sym, ap, ◌∙◌}
use lib.Ieee.Fits.{div-fits}
use lib.Ieee.{binary64}
use Rattle.distance_grid.specs.Places.{PlaceAt, locate_axis}
use Rattle.distance_grid.proofs.PlaceLaws.{guessed_place}
use Rattle.distance_grid.proofs.places.locate_axis.Goals as goal

-- in the guessed cell
pub returns-then-guess_holds : goal.returns-then-guess_holds
unfolding locate_axis
returns-then-guess_holds c =
    ap (PlaceAt c.args.near) c.clamp.ensures
    ∙ guessed_place _ c.args.near c.args.axis.side (div-fits binary64 _ _) (sym c.guess_holds.ensures ∙ c.if-guess_holds.true)

pub returns : goal.returns
unfolding locate_axis
returns c = c.place_at.ensures
