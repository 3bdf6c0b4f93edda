-- What a number of six words is. Definitions only. Assumes nothing.
use Rattle.std.specs.Prelude.{ℕ, ◌+◌, ◌*◌, ◌<◌, ℤ, pos, ◌-ℤ◌, unsigned_abs}
use Rattle.wide_integers.specs.Value.{zero_at, raised}
use Rattle.wide_integers.specs.Triples.{triple_base}
use Rattle.wide_integers.specs.declared.triples.Long.{Long}

-- 2^383
abbrev pub long_zero : ℕ
long_zero = zero_at * triple_base

-- the six words as one number from 0 on
abbrev pub long_raised : Long → ℕ
long_raised w = raised w.high * triple_base + raised w.low

-- .. which is 2^383 above the number that they stand for
unfoldable pub long_value : Long → ℤ
long_value w = pos (long_raised w) -ℤ pos long_zero

-- below 2^383, above -2^383
pub record FitsLong (z : ℤ) : Type 0 where
  pub size : unsigned_abs z < long_zero
