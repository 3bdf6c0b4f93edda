-- The cast of a ray in any direction at a mesh within 8,192 mm, without a tree. Definitions only. Assumes nothing.
use Rattle.std.specs.Prelude.{ℕ, cond, List, Float, length}
use Rattle.lists.specs.Lists.{range}
use Rattle.geometry.specs.Segment.{ray_admitted}
use Rattle.geometry.specs.declared.ray.Ray.{Ray}
use Rattle.casts.specs.Answer.{Answer, refused, invalid_input, bad_shape, out_of_bounds, out_of_range}
use Rattle.nearest_hit.specs.Nearest.{Indexed, stopped, nearest_of}
use Rattle.tree.specs.Mesh.{Mesh, thirds, lengths_admitted, corners_inside, corners_of, triangle_count, triangles_fit}
use Rattle.exact_triangle.specs.Grid.{grid_admitted}
use Rattle.exact_triangle.specs.Cast.{grid_triangle}

-- a triangle's own answer: an index past the vertices is 5, a corner out of range 12
unfoldable pub exact_answer : Ray → List Float → List ℕ → ℕ → Answer
exact_answer r vertices triangles index =
    cond (corners_inside (thirds (length vertices)) triangles index) (grid_triangle r (corners_of vertices triangles index))
    (refused out_of_bounds)

-- 5, for an index or a box, before any triangle is cast; then all triangles: 12 where a corner of any is out of range, else the least
-- rounded distance, the lowest index on ties
unfoldable pub over_triangles : Ray → Mesh → Indexed
over_triangles r m =
    cond (triangles_fit m) (nearest_of (exact_answer r m.vertices m.triangles) (range 0 (triangle_count m))) (stopped out_of_bounds)

-- The mesh cast's refusals in their order, and 12, 'out of range', of the ray, after 1
unfoldable pub ray_mesh_exact_plain : Ray → Mesh → Indexed
ray_mesh_exact_plain r m =
    cond (ray_admitted r)
    (cond (grid_admitted r)
    (cond (lengths_admitted (length m.vertices) (length m.triangles)) (over_triangles r m) (stopped bad_shape))
    (stopped out_of_range))
    (stopped invalid_input)
