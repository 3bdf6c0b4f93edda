-- Meshes with whole corners, bored along an axis through a checked tree: what the mesh cast answers. Definitions only. Assumes nothing.
use Rattle.std.specs.Prelude.{ℕ, ◌+◌, ◌*◌, ◌^◌, ◌≤◌, ◌<◌, ◌≡◌, true, ℤ, pos, nat_abs, ◌≤ℤ◌, ◌<ℤ◌, Float, length}
use Rattle.std.specs.Float.{nan, inf, fin}
use Rattle.std.specs.Float.Ieee.{up, down, le}
use Rattle.vectors.specs.declared.vec3.Vec3.{Vec3}
use Rattle.geometry.specs.declared.ray.Ray.{Ray}
use Rattle.nearest_hit.specs.Nearest.{Indexed, hit_at, no_hit, stopped}
use Rattle.tree.specs.Layout.{Tree}
use Rattle.tree.specs.Mesh.{Mesh, lengths_admitted, corner_at}
use Rattle.mesh.specs.MeshCast.{room_for, ray_mesh}
use Rattle.mesh.specs.Demand3.{PassesCheck, Candidate, IsHit}
use Rattle.whole_numbers.specs.Points.{Point}
use Rattle.whole_numbers.specs.WholeTriangle.{Axis, along, Drawing, Drawn, DrawnAt, Parallel, Crossing, Inside, Outside, Within}

-- ---- what is drawn
-- the ray, and the corners 0, 1 and 2 of each triangle
pub record Plan : Type 0 where
  pub o : Point
  pub direction : Axis
  pub maximum : ℕ
  pub corner : ℕ → ℕ → Point

-- the ray and one triangle of it
abbrev pub drawing_of : Plan → ℕ → Drawing
drawing_of p i =
    record { o = p.o; direction = p.direction; maximum = p.maximum; a = p.corner i 0; b = p.corner i 1; c = p.corner i 2 }

-- "Let corners and origin be whole numbers from -4,096 to 4,096, the direction one of the six axis directions, near 0 and the maximum
-- a whole number from 1 to 16,384."
pub record WholeMesh (r : Ray) (m : Mesh) (p : Plan) : Type 0 where
  pub origin : DrawnAt 4096 r.origin p.o
  pub direction : DrawnAt 1 r.direction (along p.direction)
  pub near : Drawn 0 r.near (pos 0)
  pub maximum : Drawn 16384 r.max_distance (pos p.maximum)
  pub positive : 1 ≤ p.maximum
  -- the corners of the candidates
  pub corners : (i : ℕ) → Candidate r m i → (k : ℕ) → k < 3
      → DrawnAt 4096 (corner_at m.vertices m.triangles i k) (p.corner i k)

-- ---- where a triangle is promised to be hit, and where to be missed
-- "the exact crossing lies in the triangle, not on the side opposite the first corner, at an exact depth from 0 to below the maximum"
pub record Met (g : Drawing) (D : ℕ) (u v t : ℤ) : Type 0 where
  pub apart : Parallel g → ⊥
  pub crossing : Crossing g D u v t
  pub inside : Inside D u v
  pub from_zero : pos 0 ≤ℤ t
  pub below_maximum : t <ℤ pos (g.maximum * D)

-- "the line is parallel to the triangle's plane, .. the crossing is strictly outside, or the depth is below 0 or above the maximum";
-- the line is parallel to a degenerate triangle's plane too
pub data Missed (g : Drawing) : Type 0 where
  parallel : Parallel g → Missed g
  outside : (D : ℕ) (u v t : ℤ) → Crossing g D u v t → Outside D u v → Missed g
  behind : (D : ℕ) (u v t : ℤ) → Crossing g D u v t → t <ℤ pos 0 → Missed g
  beyond : (D : ℕ) (u v t : ℤ) → Crossing g D u v t → pos (g.maximum * D) <ℤ t → Missed g

-- x lies at most 2^-51 times t / D above t / D
abbrev pub AtMost : Float → ℕ → ℕ → Type 0
AtMost nan t D = ⊥
AtMost (inf s) t D = ⊥
AtMost (fin s m e) t D = 2 ^ 51 * (m * up e * D) ≤ 2 ^ 51 * (t * down e) + t * down e

-- ---- the promise
pub record MeshExact (r : Ray) (m : Mesh) (p : Plan) (answer : Indexed) : Type 0 where
  -- never refused
  pub answers : (number : ℕ) → answer ≡ stopped number → ⊥
  -- a hit where some candidate is promised to be hit, none where every candidate is promised to be missed
  pub hits : (i : ℕ) → Candidate r m i → (D : ℕ) (u v t : ℤ) → Met (drawing_of p i) D u v t
      → (normal : Vec3) × (distance : Float) × (index : ℕ) × (answer ≡ hit_at normal distance index)
  pub misses : ((i : ℕ) → Candidate r m i → Missed (drawing_of p i)) → answer ≡ no_hit
  -- the triangle of a hit is a candidate with a crossing, and is not promised to be missed
  pub candidate : (normal : Vec3) (distance : Float) (index : ℕ) → answer ≡ hit_at normal distance index → Candidate r m index
  pub crosses : (normal : Vec3) (distance : Float) (index : ℕ) → answer ≡ hit_at normal distance index
      → (D : ℕ) × (u : ℤ) × (v : ℤ) × (t : ℤ) × Crossing (drawing_of p index) D u v t
  pub not_missed : (normal : Vec3) (distance : Float) (index : ℕ) → answer ≡ hit_at normal distance index
      → Missed (drawing_of p index) → ⊥
  -- "The distance of a hit lies within 2^-51 times the exact depth of that depth."
  pub near : (normal : Vec3) (distance : Float) (index : ℕ) → answer ≡ hit_at normal distance index
      → (D : ℕ) (u v t : ℤ) → Crossing (drawing_of p index) D u v t → Within distance (nat_abs t) D
  -- no candidate's own cast gives less, and no candidate that is promised to be hit lies less deep, but for 2^-51 of its exact depth
  pub least : (normal : Vec3) (distance : Float) (index : ℕ) → answer ≡ hit_at normal distance index
      → (i : ℕ) (normal' : Vec3) (distance' : Float) → IsHit r m i normal' distance' → le distance distance' ≡ true
  pub least_depth : (normal : Vec3) (distance : Float) (index : ℕ) → answer ≡ hit_at normal distance index
      → (i : ℕ) → Candidate r m i → (D : ℕ) (u v t : ℤ) → Met (drawing_of p i) D u v t → AtMost distance (nat_abs t) D

-- on an admitted mesh, a tree that passes the check and areas that suffice
abbrev pub MeshesExact : Type 0
MeshesExact =
    (r : Ray) (m : Mesh) (t : Tree) (list stack : ℕ) (p : Plan) → lengths_admitted (length m.vertices) (length m.triangles) ≡ true
    → PassesCheck m t → room_for m t list stack ≡ true → WholeMesh r m p → MeshExact r m p (ray_mesh r m m.vertices t list stack)
