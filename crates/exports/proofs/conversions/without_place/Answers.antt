-- `exports::conversions::without_place` meets its contract. Assumes nothing.
use mathlib.Core.Path.{sym}
use Rattle.exports.proofs.ConversionCalls.{place_room, place_shape}
use Rattle.exports.proofs.conversions.without_place.Goals as goal

pub returns-in-Some : goal.returns-in-Some
returns-in-Some c = place_room c.args.form c.args.bytes.now _ (sym c.in-Some.ensures)

pub returns-in-None : goal.returns-in-None
returns-in-None c = place_shape c.args.form c.args.bytes.now (sym c.in-None.ensures)
