-- `wide_integers::guess::near_bits` meets its contract: what is above 0 is no NaN. Assumes nothing.
use lib.Ieee.{binary64, div}
use Rattle.arithmetic.proofs.RootCases.{above_no_nan}
use Rattle.wide_integers.proofs.guess.near_bits.Goals as goal

pub float_to_bits-result : goal.float_to_bits-result
float_to_bits-result c = above_no_nan (div binary64 c.near.result c.near-2.result) c.if-x.true
