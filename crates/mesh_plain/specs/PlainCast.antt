-- The mesh cast without a tree (document 02, M-100), and its agreement with the tree cast. Definitions only. Assumes nothing.
use Rattle.std.specs.Prelude.{ℕ, ◌≡◌, true, cond, length}
use Rattle.geometry.specs.Segment.{ray_admitted}
use Rattle.geometry.specs.declared.aabb.Aabb.{Aabb}
use Rattle.geometry.specs.declared.ray.Ray.{Ray}
use Rattle.casts.specs.Answer.{invalid_input, bad_shape, out_of_bounds}
use Rattle.casts.specs.SegmentBox.{with_segment_box}
use Rattle.nearest_hit.specs.Nearest.{Indexed, stopped, nearest_of}
use Rattle.tree.specs.Layout.{Tree}
use Rattle.tree.specs.Mesh.{Mesh, lengths_admitted, triangle_answer, candidates}
-- "A triangle without a valid box": its box is not valid, or an index of it is past the vertices
unfoldable pub use Rattle.tree.specs.Mesh.{triangle_fits, triangles_fit}
use Rattle.mesh.specs.MeshCast.{room_for, ray_mesh}
use Rattle.mesh.specs.Demand3.{PassesCheck}

-- "walks the triangles by index, skipping those whose box does not touch the segment's box"
-- "A triangle without a valid box is 5, found in index order .. before any triangle is cast."
unfoldable pub over_triangles : Ray → Aabb → Mesh → Indexed
over_triangles r box m =
    cond (triangles_fit m) (nearest_of (triangle_answer r m.vertices m.triangles) (candidates m box)) (stopped out_of_bounds)

-- ".. after the segment end's 6": the tree cast's order, segment end 6, its box 5
unfoldable pub plain_cast : Ray → Mesh → Indexed
plain_cast r m = with_segment_box stopped r (λ (box : Aabb). over_triangles r box m)

-- "1 is tested before 2"
unfoldable pub ray_mesh_plain : Ray → Mesh → Indexed
ray_mesh_plain r m =
    cond (ray_admitted r)
    (cond (lengths_admitted (length m.vertices) (length m.triangles)) (plain_cast r m) (stopped bad_shape))
    (stopped invalid_input)

-- "It is proved to agree with the tree cast at the mesh's own vertices, areas long enough, on every tree that passes the check."
abbrev pub AgreesWithTrees : Ray → Mesh → Indexed → Type 0
AgreesWithTrees r m answer =
    (t : Tree) (list stack : ℕ) → PassesCheck m t → room_for m t list stack ≡ true → ray_mesh r m m.vertices t list stack ≡ answer
