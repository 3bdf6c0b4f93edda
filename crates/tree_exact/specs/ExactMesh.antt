-- The exact cast at a mesh through its tree, and its agreement with the one without a tree. Definitions only. Assumes nothing.
use Rattle.std.specs.Prelude.{ℕ, ◌+◌, ◌≡◌, Bool, true, false, ◌&&◌, List, [], ◌∷◌, leb, eqb, Float, length}
use Rattle.lists.specs.Refusals.{Test, refusing, unless_refused, all_pass}
use Rattle.geometry.specs.Segment.{ray_admitted}
use Rattle.geometry.specs.declared.ray.Ray.{Ray}
use Rattle.casts.specs.Answer.{invalid_input, bad_shape, no_room, wrong_pose, out_of_range}
use Rattle.nearest_hit.specs.Nearest.{Indexed, stopped}
use Rattle.tree.specs.Layout.{Tree}
use Rattle.tree.specs.Mesh.{Mesh, thirds}
use Rattle.tree_query.specs.Query.{tree_fits}
use Rattle.mesh.specs.MeshCast.{shape_admitted}
use Rattle.mesh.specs.Demand3.{PassesCheck}
use Rattle.exact_triangle.specs.Grid.{grid_admitted, grid_line}
use Rattle.tree_exact.specs.FirstWalk.{first_of}
use Rattle.tree_exact.specs.Opening.{opens_node}
use Rattle.tree_exact.specs.Order.{left_first}
use Rattle.mesh_exact.specs.GridCast.{exact_answer, ray_mesh_exact_plain}
use Rattle.tree_exact.specs.Numbers.{NoNaN}

-- the walk of any tree: the nearest hit of the triangles that it looks at
unfoldable pub exact_through : Ray → List Float → List ℕ → Tree → Indexed
exact_through r pose triangles t =
    first_of t (thirds (length triangles)) (exact_answer r pose triangles) (opens_node (grid_line r) t) (left_first (grid_line r) t)

-- the tree's areas, and a stack of node count + 1 places
unfoldable pub room_for : Mesh → Tree → ℕ → Bool
room_for m t stack = tree_fits (thirds (length m.triangles)) t && leb (t.node_count + 1) stack

-- refusals as the mesh cast's in their order, and 12, 'out of range', of the ray after 1
abbrev pub exact_tests : Ray → Mesh → List Float → Tree → ℕ → List Test
exact_tests r m pose t stack =
    refusing invalid_input (ray_admitted r)
    ∷ (refusing out_of_range (grid_admitted r)
    ∷ (refusing bad_shape (shape_admitted m pose t)
    ∷ (refusing no_room (room_for m t stack) ∷ (refusing wrong_pose (eqb (length pose) (length m.vertices)) ∷ []))))

-- until they let the call pass the stack is unchanged, and after it the stack may hold anything
unfoldable pub tests_pass : Ray → Mesh → List Float → Tree → ℕ → Bool
tests_pass r m pose t stack = all_pass (exact_tests r m pose t stack)

-- through any tree
unfoldable pub ray_mesh_exact : Ray → Mesh → List Float → Tree → ℕ → Indexed
ray_mesh_exact r m pose t stack = unless_refused stopped (exact_tests r m pose t stack) (exact_through r pose m.triangles t)

-- through any tree that passes the check, for a mesh without a NaN, the answer is the same as without a tree
abbrev pub AsWithoutTree : Ray → Mesh → Tree → ℕ → Indexed → Type 0
AsWithoutTree r m t stack answer = PassesCheck m t → NoNaN m → room_for m t stack ≡ true → answer ≡ ray_mesh_exact_plain r m

-- What the call promises: its answer; the stack, which until the tests let the call pass is unchanged; and that at the mesh's own vertices
-- the answer is the one without a tree. A stack with a stroke is the stack afterwards.
abbrev pub CastsExact : Ray → Mesh → List Float → Tree → List ℕ → List ℕ → Indexed → Type 0
CastsExact r m pose t stack stack' answer =
    (answer ≡ ray_mesh_exact r m pose t (length stack))
    × ((tests_pass r m pose t (length stack) ≡ false → stack' ≡ stack) × (pose ≡ m.vertices → AsWithoutTree r m t (length stack) answer))
