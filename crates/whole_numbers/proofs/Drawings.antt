-- What is drawn is exact. Assumes nothing.
use Prim.Native.Nat.{ℕ, ◌^◌, ◌≤◌}
use native.Mathlib.Nat.{le_trans}
use lib.IntN.{ℤ}
use lib.Ieee.{Float}
use Rattle.vectors.specs.declared.vec3.Vec3.{Vec3}
use Rattle.exact_depth.proofs.Standing.{stands}
use Rattle.whole_numbers.proofs.Whole.{Whole, WholeVec}
use Rattle.whole_numbers.specs.Points.{Point}
use Rattle.whole_numbers.specs.WholeTriangle.{Drawn, DrawnAt}

pub drawn : (B : ℕ) (x : Float) (z : ℤ) → B ≤ 2 ^ 53 → Drawn B x z → Whole B x z
drawn B x z l d = record { value = stands x z (le_trans d.bound l) d.equal; bound = d.bound }

pub drawn_at : (B : ℕ) (v : Vec3) (p : Point) → B ≤ 2 ^ 53 → DrawnAt B v p → WholeVec B v p
drawn_at B v p l d =
    record {
      first = drawn B v.x p.x l d.first;
      second = drawn B v.y p.y l d.second;
      third = drawn B v.z p.z l
          d.third;
    }
