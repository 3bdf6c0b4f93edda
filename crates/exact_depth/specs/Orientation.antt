-- Inner contracts only: the sign of a determinant, by limbs of its numbers. Definitions only. Assumes nothing.
use Rattle.std.specs.Prelude.{ℕ, ◌+◌, ◌*◌, ◌<◌, ◌≡◌, ℤ, pos, nat_abs, ◌+ℤ◌, ◌-ℤ◌, ◌*ℤ◌}
use Rattle.std.specs.Int.Signed.{lt_z}
use Rattle.wide_integers.specs.Sizes.{Sized}
use Rattle.exact_depth.specs.declared.orientation.Limbs.{Limbs}

-- 2^31
abbrev pub radix : ℕ
radix = 2147483648

-- x is high · 2^31 + low, low from 0 to below 2^31
pub record LimbsOf (x : ℤ) (h : Limbs) : Type 0 where
  pub whole : h.high *ℤ pos radix +ℤ h.low ≡ x
  pub rest : ℕ
  pub low : h.low ≡ pos rest
  pub small : rest < radix
  pub high : nat_abs h.high * radix < nat_abs x + radix

-- the limbs of a number up to 2^61
pub record LimbsSized (h : Limbs) : Type 0 where
  pub high : Sized 1073741824 h.high
  pub low : Sized 2147483647 h.low
  pub rest : ℕ
  pub above : h.low ≡ pos rest

abbrev pub high_part : Limbs → Limbs → Limbs → Limbs → ℤ
high_part a b c d = a.high *ℤ d.high -ℤ b.high *ℤ c.high

abbrev pub middle_part : Limbs → Limbs → Limbs → Limbs → ℤ
middle_part a b c d = a.high *ℤ d.low +ℤ a.low *ℤ d.high -ℤ (b.high *ℤ c.low +ℤ b.low *ℤ c.high)

abbrev pub low_part : Limbs → Limbs → Limbs → Limbs → ℤ
low_part a b c d = a.low *ℤ d.low -ℤ b.low *ℤ c.low

-- r has the sign of x
pub record SignOf (r x : ℤ) : Type 0 where
  pub below : lt_z r (pos 0) ≡ lt_z x (pos 0)
  pub above : lt_z (pos 0) r ≡ lt_z (pos 0) x
