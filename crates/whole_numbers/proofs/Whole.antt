-- A float that is a whole number, by value, so that -0 counts as 0; and its size with it. Assumes nothing.
use Prim.Native.Nat.{ℕ, ◌≤◌}
use lib.IntN.{ℤ, nat_abs}
use lib.Ieee.{Float}
use Rattle.vectors.specs.declared.vec3.Vec3.{Vec3}
use Rattle.whole_numbers.specs.Points.{Point}
use Rattle.exact_depth.proofs.Standing.{Stands}

-- x is the whole number z, of size B at most
pub record Whole (B : ℕ) (x : Float) (z : ℤ) : Type 0 where
  pub value : Stands x z
  pub bound : nat_abs z ≤ B

pub record WholeVec (B : ℕ) (v : Vec3) (p : Point) : Type 0 where
  pub first : Whole B v.x p.x
  pub second : Whole B v.y p.y
  pub third : Whole B v.z p.z
