-- The cases of an answer with an index tell each other apart. Assumes nothing.
use Prim.Native.Nat.{ℕ}
use mathlib.Core.Path.{◌≡◌}
use native.Mathlib.Omega.{arith}
use lib.Ieee.{Float}
use Rattle.vectors.specs.declared.vec3.Vec3.{Vec3}
use Rattle.nearest_hit.specs.Nearest.{hit_at, no_hit, stopped}

pub stopped_not_none : (number : ℕ) → stopped number ≡ no_hit → ⊥
stopped_not_none number h = let z : ◌≡◌ {A = ℕ} 0 1 = cc in omega arith

pub hit_not_none : (n : Vec3) (d : Float) (i : ℕ) → hit_at n d i ≡ no_hit → ⊥
hit_not_none n d i h = let z : ◌≡◌ {A = ℕ} 0 1 = cc in omega arith

pub hit_not_stopped : (n : Vec3) (d : Float) (i number : ℕ) → hit_at n d i ≡ stopped number → ⊥
hit_not_stopped n d i number h = let z : ◌≡◌ {A = ℕ} 0 1 = cc in omega arith

pub same_number : (k number : ℕ) → stopped k ≡ stopped number → k ≡ number
same_number k number h = cc
