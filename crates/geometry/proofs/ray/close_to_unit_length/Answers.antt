-- The square tells how far the length is from 1.
use Rattle.std.proofs.Common.{sym}
use Rattle.geometry.proofs.UnitLength.{close_by_square}
use Rattle.geometry.proofs.ray.close_to_unit_length.Goals as goal

pub returns-then-square : goal.returns-then-square
returns-then-square c = simp (close_by_square c.args.vector, sym c.dot-square.ensures, c.if-square.true)

pub returns-else-square : goal.returns-else-square
returns-else-square c = simp (close_by_square c.args.vector, sym c.dot-square.ensures, c.if-square.false)
