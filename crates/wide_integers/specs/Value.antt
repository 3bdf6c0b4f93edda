-- What a number of three words is. Definitions only. Assumes nothing.
use Rattle.std.specs.Prelude.{ℕ, ◌+◌, ◌*◌, ◌<◌, ℤ, pos, ◌-ℤ◌, unsigned_abs}
use Rattle.wide_integers.specs.Sizes.{Sized}
use Rattle.wide_integers.specs.declared.number.Wide.{Wide}

-- 2^64
abbrev pub base : ℕ
base = 18446744073709551616

-- 2^63
abbrev pub half : ℕ
half = 9223372036854775808

-- 2^191
abbrev pub zero_at : ℕ
zero_at = half * (base * base)

-- the three words as one number from 0 on
abbrev pub raised : Wide → ℕ
raised w = (w.high * base + w.middle) * base + w.low

-- .. which is 2^191 above the number that they stand for
unfoldable pub value : Wide → ℤ
value w = pos (raised w) -ℤ pos zero_at

-- below 2^191, above -2^191
pub record FitsWide (z : ℤ) : Type 0 where
  pub size : unsigned_abs z < zero_at

-- below 2^128, above -2^128: its product with an i64 is below 2^191
pub record Middling (z : ℤ) : Type 0 where
  pub size : unsigned_abs z < base * base

-- up to 2^125: three of them, and three times an i64 each, are below 2^191
abbrev pub Weight : ℤ → Type 0
Weight = Sized 42535295865117307932921825928971026432
