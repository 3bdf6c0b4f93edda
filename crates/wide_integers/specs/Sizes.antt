-- How large the code's whole numbers may be, so that none passes 2^63. Definitions only. Assumes nothing.
use Rattle.std.specs.Prelude.{ℕ, ◌≤◌, ℤ, unsigned_abs}

pub record Sized (B : ℕ) (z : ℤ) : Type 0 where
  pub size : unsigned_abs z ≤ B

-- up to 2^61
abbrev pub Sized61 : ℤ → Type 0
Sized61 = Sized 2305843009213693952
