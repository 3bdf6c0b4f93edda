-- A mesh in lent areas: which are admitted, a triangle's corners, box and answer, all boxes in order, and the candidates of a box.
-- Definitions only. Assumes nothing.
use Rattle.std.specs.Prelude.{ℕ, ◌+◌, ◌*◌, ◌/◌, ◌%◌, Bool, ◌&&◌, cond, List, [], ◌∷◌, ◌++◌, leb, ltb, eqb, Float, length}
use Rattle.geometry.specs.Box.{box_of, touches, valid_box}
use Rattle.vectors.specs.declared.vec3.Vec3.{Vec3}
use Rattle.geometry.specs.declared.aabb.Aabb.{Aabb}
use Rattle.geometry.specs.declared.ray.Ray.{Ray}
use Rattle.casts.specs.Answer.{Answer, refused, out_of_bounds}
use Rattle.triangle_cast.specs.Triangle.{triangle_of}
use Rattle.lists.specs.Lists.{range, keep, every, over}
use Rattle.tree.specs.Layout.{word_at, vector_at, box_numbers}

-- vertices, three numbers each, and triangles, three vertex indices each
pub record Mesh : Type 0 where
  pub vertices : List Float
  pub triangles : List ℕ

abbrev pub mesh : List Float → List ℕ → Mesh
mesh vertices triangles = record { vertices = vertices; triangles = triangles }

-- how many a length holds, three to each
abbrev pub thirds : ℕ → ℕ
thirds n = n / 3

-- "up to 65,536 vertices and 65,536 triangles"; "a length that three does not divide is 2"
unfoldable pub lengths_admitted : ℕ → ℕ → Bool
lengths_admitted vertices triangles = eqb (vertices % 3) 0 && (leb vertices 196608 && (eqb (triangles % 3) 0 && leb triangles 196608))

-- the vertex index at a corner, 0, 1 or 2, of a triangle
abbrev pub corner_index : List ℕ → ℕ → ℕ → ℕ
corner_index triangles index corner = word_at triangles (3 * index + corner)

-- no index past the vertices
unfoldable pub corners_inside : ℕ → List ℕ → ℕ → Bool
corners_inside count triangles index =
    ltb (corner_index triangles index 0) count && (ltb (corner_index triangles index 1) count && ltb (corner_index triangles index 2) count)

-- a corner of a triangle
unfoldable pub corner_at : List Float → List ℕ → ℕ → ℕ → Vec3
corner_at vertices triangles index corner = vector_at vertices (3 * corner_index triangles index corner)

-- the three of them, as the triangle cast takes them
unfoldable pub corners_of : List Float → List ℕ → ℕ → List Vec3
corners_of vertices triangles index =
    corner_at vertices triangles index 0 ∷ (corner_at vertices triangles index 1 ∷ (corner_at vertices triangles index 2 ∷ []))

-- "a candidate's box is that of its three vertices in the mesh"
unfoldable pub triangle_box : List Float → List ℕ → ℕ → Aabb
triangle_box vertices triangles index =
    box_of (corner_at vertices triangles index 0) (corner_at vertices triangles index 1) (corner_at vertices triangles index 2)

-- "Its answer is the triangle cast's for the same ray and its three corners"; an index past the vertices is 5
unfoldable pub triangle_answer : Ray → List Float → List ℕ → ℕ → Answer
triangle_answer r vertices triangles index =
    cond (corners_inside (thirds (length vertices)) triangles index)
    (triangle_of r (corner_at vertices triangles index 0) (corner_at vertices triangles index 1) (corner_at vertices triangles index 2))
    (refused out_of_bounds)

-- "The candidates are the triangles whose box touches the segment's box", ascending
unfoldable pub candidates : Mesh → Aabb → List ℕ
candidates m box = keep (λ (t : ℕ). touches (triangle_box m.vertices m.triangles t) box) (range 0 (thirds (length m.triangles)))

-- one box after another
unfoldable pub each_box : (ℕ → Aabb) → List ℕ → List Float
each_box box [] = []
each_box box (t ∷ ts) = box_numbers (box t) ++ each_box box ts

module _ (m : Mesh) where
  abbrev pub triangle_count : ℕ
  triangle_count = thirds (length m.triangles)

  -- not "5 for an index or box"
  unfoldable pub triangle_fits : ℕ → Bool
  triangle_fits t = corners_inside (thirds (length m.vertices)) m.triangles t && valid_box (triangle_box m.vertices m.triangles t)

  unfoldable pub triangles_fit : Bool
  triangles_fit = every triangle_fits (range 0 triangle_count)

  -- "boxes of all triangles in order first"
  unfoldable pub boxes_written : List Float → List Float
  boxes_written area = over (each_box (triangle_box m.vertices m.triangles) (range 0 triangle_count)) area
