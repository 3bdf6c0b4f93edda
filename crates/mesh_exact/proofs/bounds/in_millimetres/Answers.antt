-- `mesh_exact::bounds::in_millimetres` meets its contract. Assumes nothing.
use mathlib.Core.Path.{ap, ◌∙◌}
use lib.Dec.{lit≤}
use lib.IntN.{ℤ}
use lib.Ieee.{binary64, of_int, mul, of_bits}
use Rattle.wide_integers.proofs.Reading.{plain, widen}
use Rattle.exact_triangle.proofs.UnitLaws.{in_millimetres_lem, in_float_lem}
use Rattle.mesh_exact.proofs.bounds.in_millimetres.Goals as goal

pub int_to_float-result : goal.int_to_float-result
int_to_float-result c = in_float_lem c.requires (lit≤ tt)

-- a number of at most 53 digits, times a power of two
pub returns : goal.returns
returns c =
    ap (λ (z : ℤ). mul binary64 (of_int binary64 z) (of_bits binary64 0x3f00_0000_0000_0000)) (plain (widen c.requires (lit≤ tt)))
    ∙ in_millimetres_lem c.args.z c.requires.size
