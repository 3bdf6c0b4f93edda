-- 1 is a number.
use Rattle.std.proofs.Common.{refl}
use lib.Ieee.{is_nan, of_bits}
use Rattle.triangle_cast.proofs.triangle.size_from_one.Goals as goal

pub at_least_size-requires : goal.at_least_size-requires
unfolding is_nan of_bits
at_least_size-requires c = refl
