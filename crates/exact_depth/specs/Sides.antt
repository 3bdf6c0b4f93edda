-- Inner contracts only: three numbers on one side of 0. Definitions only. Assumes nothing.
use Rattle.std.specs.Prelude.{◌≡◌, true, ℤ, pos}
use Rattle.std.specs.Int.Signed.{lt_z}

-- all above it, or all below
pub data OneSide (x y z : ℤ) : Type 0 where
  above : lt_z (pos 0) x ≡ true → lt_z (pos 0) y ≡ true → lt_z (pos 0) z ≡ true → OneSide x y z
  below : lt_z x (pos 0) ≡ true → lt_z y (pos 0) ≡ true → lt_z z (pos 0) ≡ true → OneSide x y z
