-- The listing of all exact hits of a mesh along a ray. Definitions only. Assumes nothing.
use Rattle.std.specs.Prelude.{ℕ, Bool, List, [], ◌∷◌, eqb, Float, length}
use Rattle.lists.specs.Lists.{range}
use Rattle.lists.specs.Refusals.{Test, refusing, unless_refused, all_pass}
use Rattle.geometry.specs.Segment.{ray_admitted}
use Rattle.geometry.specs.declared.ray.Ray.{Ray}
use Rattle.casts.specs.Answer.{invalid_input, bad_shape, no_room, wrong_pose, out_of_range}
use Rattle.tree.specs.Layout.{Tree}
use Rattle.tree.specs.Mesh.{Mesh, thirds, triangle_count}
use Rattle.mesh.specs.MeshCast.{shape_admitted, room_for}
use Rattle.mesh_hits.specs.HitArea.{HitArea, Outcome, hits_of}
use Rattle.mesh_hits.specs.Listing.{over_walk, unchanged}
use Rattle.exact_triangle.specs.Grid.{grid_admitted, grid_line}
use Rattle.mesh_exact.specs.GridCast.{exact_answer}
use Rattle.exact_hits.specs.LineWalk.{line_walk}

-- the triangles that the exact cast meets, ascending
abbrev pub met_triangles : Ray → Mesh → List ℕ
met_triangles r m = hits_of (exact_answer r m.vertices m.triangles) (range 0 (triangle_count m))

-- the listing of the rounded cast, of the exact cast's answers to the triangles that the line may meet
unfoldable pub exact_listing : Ray → List ℕ → List Float → Tree → HitArea → Outcome
exact_listing r triangles pose t area =
    over_walk (exact_answer r pose triangles) area (line_walk (grid_line r) t (thirds (length triangles)))

-- refusals as the exact cast's in their order; the walk's list must be long enough too
abbrev pub listing_tests : Ray → Mesh → List Float → Tree → ℕ → ℕ → List Test
listing_tests r m pose t list stack =
    refusing invalid_input (ray_admitted r)
    ∷ (refusing out_of_range (grid_admitted r)
    ∷ (refusing bad_shape (shape_admitted m pose t)
    ∷ (refusing no_room (room_for m t list stack) ∷ (refusing wrong_pose (eqb (length pose) (length m.vertices)) ∷ []))))

-- until they let the call pass the lent areas are unchanged, and after it the list and the stack may hold anything
unfoldable pub tests_pass : Ray → Mesh → List Float → Tree → ℕ → ℕ → Bool
tests_pass r m pose t list stack = all_pass (listing_tests r m pose t list stack)

unfoldable pub ray_mesh_exact_all : Ray → Mesh → List Float → Tree → ℕ → ℕ → HitArea → Outcome
ray_mesh_exact_all r m pose t list stack area =
    unless_refused (λ (number : ℕ). unchanged number area) (listing_tests r m pose t list stack)
    (exact_listing r m.triangles pose t area)
