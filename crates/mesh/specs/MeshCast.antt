-- The cast of a ray at a mesh through its tree. Definitions only. Assumes nothing.
use Rattle.std.specs.Prelude.{ℕ, ◌+◌, ◌*◌, Bool, ◌&&◌, List, [], ◌∷◌, leb, eqb, Float, length}
use Rattle.geometry.specs.Segment.{ray_admitted}
use Rattle.geometry.specs.declared.aabb.Aabb.{Aabb}
use Rattle.geometry.specs.declared.ray.Ray.{Ray}
use Rattle.casts.specs.Answer.{invalid_input, bad_shape, no_room, wrong_pose, out_of_bounds}
use Rattle.casts.specs.SegmentBox.{with_segment_box}
use Rattle.nearest_hit.specs.Nearest.{Indexed, stopped, nearest_of}
use Rattle.lists.specs.Refusals.{Test, refusing, unless_refused, all_pass}
use Rattle.tree.specs.Layout.{Tree}
use Rattle.tree.specs.Mesh.{Mesh, thirds, lengths_admitted, triangle_answer}
use Rattle.tree_walk.specs.Walk.{Walking, walking, broken, walk_of}
unfoldable pub use Rattle.tree_query.specs.Query.{tree_fits}

-- "bad shape": the mesh's lengths, those of the vertices to cast at, and "a node count above 2n is 2"
unfoldable pub shape_admitted : Mesh → List Float → Tree → Bool
shape_admitted m pose t =
    lengths_admitted (length m.vertices) (length m.triangles)
    && (lengths_admitted (length pose) (length m.triangles) && leb t.node_count (2 * thirds (length m.triangles)))

-- with the walk's: "list area n, stack area node count + 1"
unfoldable pub room_for : Mesh → Tree → ℕ → ℕ → Bool
room_for m t list stack =
    tree_fits (thirds (length m.triangles)) t && (leb (thirds (length m.triangles)) list && leb (t.node_count + 1) stack)

-- the triangles that the walk lists, in ascending order; a 5 of the walk goes before all of them
unfoldable pub over_walk : Ray → List Float → List ℕ → Walking → Indexed
over_walk r pose triangles broken = stopped out_of_bounds
over_walk r pose triangles (walking stack list) = nearest_of (triangle_answer r pose triangles) list

-- the Rust's order: the segment's refusals, the query's 5, then the triangles'
unfoldable pub mesh_cast : Ray → Mesh → List Float → Tree → Indexed
mesh_cast r m pose t =
    with_segment_box stopped r (λ (box : Aabb). over_walk r pose m.triangles (walk_of t (thirds (length m.triangles)) box))

-- "1 is tested before 2, 2 before 3, 3 before 4; the Rust's order follows"
abbrev pub mesh_tests : Ray → Mesh → List Float → Tree → ℕ → ℕ → List Test
mesh_tests r m pose t list stack =
    refusing invalid_input (ray_admitted r)
    ∷ (refusing bad_shape (shape_admitted m pose t)
    ∷ (refusing no_room (room_for m t list stack) ∷ (refusing wrong_pose (eqb (length pose) (length m.vertices)) ∷ [])))

-- until they let the call pass the lent areas are unchanged, and after it "work areas .. may hold anything"
unfoldable pub tests_pass : Ray → Mesh → List Float → Tree → ℕ → ℕ → Bool
tests_pass r m pose t list stack = all_pass (mesh_tests r m pose t list stack)

unfoldable pub ray_mesh : Ray → Mesh → List Float → Tree → ℕ → ℕ → Indexed
ray_mesh r m pose t list stack = unless_refused stopped (mesh_tests r m pose t list stack) (mesh_cast r m pose t)
