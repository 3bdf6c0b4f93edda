-- What the exact cast's answer says of every point of the segment and every triangle of the mesh, over whole numbers: corners, origin and
-- distances are whole numbers of 2^-15 mm, a direction's components of 2^-30. Definitions only. Assumes nothing.
use Rattle.std.specs.Prelude.{ℕ, ◌*◌, ◌<◌, ◌≡◌, true, false, ℤ, pos, ◌*ℤ◌, length, Float, Some}
use Rattle.std.specs.Int.Signed.{le_z}
use Rattle.std.specs.Float.{binary64}
use Rattle.std.specs.Float.Ieee.{round, lt}
use Rattle.vectors.specs.Vector.{dot_of}
use Rattle.vectors.specs.declared.vec3.Vec3.{Vec3}
use Rattle.geometry.specs.Segment.{ray_admitted}
use Rattle.geometry.specs.declared.ray.Ray.{Ray}
use Rattle.casts.specs.Answer.{invalid_input, bad_shape, out_of_bounds, out_of_range}
use Rattle.casts.specs.Surface.{facing}
use Rattle.nearest_hit.specs.Nearest.{Indexed, hit_at, no_hit, stopped}
use Rattle.tree.specs.Mesh.{Mesh, corner_at, triangle_count, lengths_admitted, triangles_fit}
use Rattle.exact_depth.specs.declared.projection.Point.{Point}
use Rattle.exact_triangle.specs.Line.{Line}
use Rattle.exact_triangle.specs.Grid.{units, all_within, furthest, longest, grid_admitted, grid_point, grid_line}
use Rattle.exact_triangle.specs.Surface.{Surface, Apart}
use Rattle.exact_triangle.specs.Normal.{cross_of, normal_of}

-- a corner of a triangle, on the grid
abbrev pub corner_on : Mesh → ℕ → ℕ → Point
corner_on m i k = grid_point (corner_at m.vertices m.triangles i k)

-- the closed segment's point at the depth t / D, in units of the grid, lies in the closed triangle i, which has area on the grid
pub record Met (l : Line) (m : Mesh) (i D : ℕ) (t : ℤ) : Type 0 where
  pub triangle : i < triangle_count m
  pub area : Apart (corner_on m i 0) (corner_on m i 1) (corner_on m i 2)
  pub point : Surface l (corner_on m i 0) (corner_on m i 1) (corner_on m i 2) D t

-- the ray and every corner of every triangle are in range
pub record InRange (r : Ray) (m : Mesh) : Type 0 where
  pub ray : grid_admitted r ≡ true
  pub corners : (i k : ℕ) → i < triangle_count m → k < 3 → all_within furthest (corner_at m.vertices m.triangles i k) ≡ true

-- the origin or a corner of a triangle is not a number from -8,192 to 8,192, or near or the maximum is above 32,768
pub data OutOfRange (r : Ray) (m : Mesh) : Type 0 where
  origin : all_within furthest r.origin ≡ false → OutOfRange r m
  near : lt longest r.near ≡ true → OutOfRange r m
  maximum : lt longest r.max_distance ≡ true → OutOfRange r m
  corner : (i k : ℕ) → i < triangle_count m → k < 3 → all_within furthest (corner_at m.vertices m.triangles i k) ≡ false
      → OutOfRange r m

-- why a cast is refused: 1, 2 and 5 as the mesh cast, and 12
pub data Reason (r : Ray) (m : Mesh) (number : ℕ) : Type 0 where
  ray : number ≡ invalid_input → ray_admitted r ≡ false → Reason r m number
  lengths : number ≡ bad_shape → lengths_admitted (length m.vertices) (length m.triangles) ≡ false → Reason r m number
  triangles : number ≡ out_of_bounds → triangles_fit m ≡ false → Reason r m number
  range : number ≡ out_of_range → OutOfRange r m → Reason r m number

-- t / D is the least depth of all such points of all triangles, and the distance is the float nearest to it in millimetres
pub record LeastDepth (l : Line) (m : Mesh) (distance : Float) : Type 0 where
  pub index : ℕ
  pub D : ℕ
  pub t : ℕ
  pub met : Met l m index D (pos t)
  pub least : (j D' : ℕ) (t' : ℤ) → Met l m j D' t' → le_z (pos t *ℤ pos D') (t' *ℤ pos D) ≡ true
  pub nearest : distance ≡ round binary64 false t (D * units)

-- the normal of a hit: the cross of the triangle's edges on the grid, normalised, and facing the ray
pub record HitNormal (r : Ray) (m : Mesh) (index : ℕ) (normal : Vec3) : Type 0 where
  pub unit : Vec3
  pub normalised : normal_of (cross_of (corner_on m index 0) (corner_on m index 1) (corner_on m index 2)) ≡ Some unit
  pub faces : normal ≡ facing unit (dot_of r.direction unit)

-- a hit of one triangle: t / D is the least depth of such a point of it, the distance is the float nearest to it in millimetres, and the
-- normal is the triangle's
pub record TrueHit (r : Ray) (m : Mesh) (normal : Vec3) (distance : Float) (index : ℕ) : Type 0 where
  pub D : ℕ
  pub t : ℕ
  pub met : Met (grid_line r) m index D (pos t)
  pub first : (D' : ℕ) (t' : ℤ) → Met (grid_line r) m index D' t' → le_z (pos t *ℤ pos D') (t' *ℤ pos D) ≡ true
  pub nearest : distance ≡ round binary64 false t (D * units)
  pub normal_is : HitNormal r m index normal

-- where the lowest index decides, each such point of a triangle below it has a depth that is rounded to more
abbrev pub LowestIndex : Line → Mesh → Float → ℕ → Type 0
LowestIndex l m distance index =
    (j D t : ℕ) → Met l m j D (pos t) → j < index → lt distance (round binary64 false t (D * units)) ≡ true

pub record CertainMesh (r : Ray) (m : Mesh) (answer : Indexed) : Type 0 where
  -- an answer that is no refusal is about the whole mesh
  pub within : ((number : ℕ) → answer ≡ stopped number → ⊥) → InRange r m
  -- 'none exactly where no point of the segment lies in such a triangle of the mesh': a none has none, and a hit has one
  pub none : answer ≡ no_hit → (i D : ℕ) (t : ℤ) → Met (grid_line r) m i D t → ⊥
  pub hit_triangle : (normal : Vec3) (distance : Float) (index : ℕ) → answer ≡ hit_at normal distance index
      → TrueHit r m normal distance index
  pub lowest : (normal : Vec3) (distance : Float) (index : ℕ) → answer ≡ hit_at normal distance index
      → LowestIndex (grid_line r) m distance index
  -- 'at the least depth of such a point over all triangles, its distance the f64 nearest to that depth'
  pub least : (normal : Vec3) (distance : Float) (index : ℕ) → answer ≡ hit_at normal distance index
      → LeastDepth (grid_line r) m distance
  -- each refusal has its reason; 7 does not occur
  pub refused : (number : ℕ) → answer ≡ stopped number → Reason r m number
