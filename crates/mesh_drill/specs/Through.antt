-- A ray's drill at a mesh through its tree. Definitions only. Assumes nothing.
use Rattle.std.specs.Prelude.{◌≡◌, ℕ, Bool, true, false, cond, List, [], ◌∷◌, length, ◌==◌, Float}
use Rattle.lists.specs.Refusals.{Test, refusing, unless_refused, all_pass}
use Rattle.geometry.specs.Segment.{ray_admitted}
use Rattle.geometry.specs.declared.ray.Ray.{Ray}
use Rattle.casts.specs.Answer.{invalid_input, bad_shape, no_room, out_of_bounds, out_of_range}
use Rattle.tree.specs.Layout.{Tree, box_at}
use Rattle.tree.specs.Mesh.{Mesh, thirds, triangle_count, corners_inside, corners_of}
use Rattle.tree_walk.specs.Walk.{Walking, walking, broken, walk_of}
use Rattle.tree_query.specs.Query.{walk_fits}
use Rattle.mesh.specs.MeshCast.{shape_admitted}
use Rattle.mesh.specs.Demand3.{PassesCheck}
use Rattle.exact_triangle.specs.Line.{Line}
use Rattle.exact_triangle.specs.Grid.{within, grid_admitted, grid_line}
use Rattle.exact_triangle.specs.Reach.{corners_read}
use Rattle.tree_exact.specs.Opening.{box_read}
use Rattle.tree_exact.specs.Numbers.{NoNaN}
use Rattle.drill.specs.Box.{drill_box}
use Rattle.mesh_drill.specs.MeshDrill.{DrillAnswer, Clear, Touches, Stopped, touched_at}
use Rattle.mesh_drill.specs.Radius.{widestᶠ, radius_admitted, radius_on}
use Rattle.mesh_drill.specs.Drilling.{over_mesh, drill_plain, CertainRayDrill}

-- the answer of one triangle that any tree lists: 5 for an index past the vertices, 12 for a corner out of range
unfoldable pub drilled_at : Line → ℕ → Mesh → ℕ → DrillAnswer
drilled_at l ρ m i =
    cond (corners_inside (thirds (length m.vertices)) m.triangles i)
    (cond (corners_read (corners_of m.vertices m.triangles i)) (cond (touched_at l ρ m i) (Touches i) Clear) (Stopped out_of_range))
    (Stopped out_of_bounds)

-- the first of a list that is not clear
abbrev pub or_else : DrillAnswer → DrillAnswer → DrillAnswer
or_else Clear rest = rest
or_else (Touches i) rest = Touches i
or_else (Stopped number) rest = Stopped number

unfoldable pub first_answer : (ℕ → DrillAnswer) → List ℕ → DrillAnswer
first_answer answer [] = Clear
first_answer answer (i ∷ is) = or_else (answer i) (first_answer answer is)

-- the triangles that the walk lists, ascending; a 5 of the walk goes before all of them
unfoldable pub over_walk : Line → ℕ → Mesh → Walking → DrillAnswer
over_walk l ρ m broken = Stopped out_of_bounds
over_walk l ρ m (walking stack list) = first_answer (drilled_at l ρ m) list

abbrev pub walked_by : Line → ℕ → Mesh → Tree → DrillAnswer
walked_by l ρ m t = over_walk l ρ m (walk_of t (triangle_count m) (drill_box l ρ))

-- the first node's box is within the grid's range, so that no triangle of a tree that passes the check is out of it
unfoldable pub root_read : Tree → Bool
root_read t = cond (t.node_count == 0) true (box_read (box_at t.node_boxes 0))

-- the walk of the drill's box; without a tree where the first node's box is out of range
unfoldable pub over_tree : Ray → Float → Mesh → Tree → DrillAnswer
over_tree r radius m t =
    cond (root_read t) (walked_by (grid_line r) (radius_on radius) m t) (over_mesh r radius m)

-- the refusals as without a tree, with the node count's among the lengths', and 3 for areas that are too short
abbrev pub through_tests : Ray → Float → Mesh → Tree → ℕ → ℕ → List Test
through_tests r radius m t list stack =
    refusing invalid_input (ray_admitted r)
    ∷ (refusing invalid_input (radius_admitted radius)
    ∷ (refusing out_of_range (grid_admitted r)
    ∷ (refusing out_of_range (within widestᶠ radius)
    ∷ (refusing bad_shape (shape_admitted m m.vertices t) ∷ (refusing no_room (walk_fits (triangle_count m) t list stack) ∷ [])))))

-- until they let the call pass the list and the stack are unchanged, and after it they may hold anything
unfoldable pub tests_pass : Ray → Float → Mesh → Tree → ℕ → ℕ → Bool
tests_pass r radius m t list stack = all_pass (through_tests r radius m t list stack)

-- through any tree
unfoldable pub drill_through : Ray → Float → Mesh → Tree → ℕ → ℕ → DrillAnswer
drill_through r radius m t list stack = unless_refused Stopped (through_tests r radius m t list stack) (over_tree r radius m t)

-- with any tree that passes the check, for a mesh without a NaN, the answer is the one without a tree, and as certain
abbrev pub AsWithoutTree : Ray → Float → Mesh → Tree → ℕ → ℕ → DrillAnswer → Type 0
AsWithoutTree r radius m t list stack answer =
    PassesCheck m t → NoNaN m → walk_fits (triangle_count m) t list stack ≡ true
    → (answer ≡ drill_plain r radius m) × CertainRayDrill r radius m answer

-- What the call promises: its answer; the list and the stack, which until the tests let the call pass are unchanged; and that with any tree
-- that passes the check it is the answer without a tree. A list or stack with a stroke is the one afterwards.
abbrev pub DrillsThrough : Ray → Float → Mesh → Tree → List ℕ → List ℕ → List ℕ → List ℕ → DrillAnswer → Type 0
DrillsThrough r radius m t list list' stack stack' answer =
    (answer ≡ drill_through r radius m t (length list) (length stack))
    × ((tests_pass r radius m t (length list) (length stack) ≡ false → (list' ≡ list) × (stack' ≡ stack))
    × AsWithoutTree r radius m t (length list) (length stack) answer)
