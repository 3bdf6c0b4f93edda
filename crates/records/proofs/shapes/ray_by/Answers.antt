use Rattle.std.proofs.Common.{arith}
use Rattle.std.specs.Float.{nan}
use Rattle.vectors.specs.Numbers.{zeroᶠ}
use Rattle.records.specs.Shapes.{ray_by}
use Rattle.records.proofs.Reading.{no_default}
use Rattle.records.proofs.shapes.ray_by.Goals as goal

pub returns : goal.returns
unfolding ray_by
returns c =
    rw (c.vector_at.ensures, c.vector_at-2.ensures, no_default c.args.numbers.now 7 nan zeroᶠ (omega (arith, c.requires)))
