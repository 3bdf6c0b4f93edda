-- What the calls of the drill answer and write: without a tree, through one, and for many drills; and what holds of what a caller reads
-- back. Definitions only. Assumes nothing.
use Rattle.std.specs.Prelude.{ℕ, ◌<◌, ◌≡◌, Bool, true, false, cond, ◌&&◌, List, [], ◌∷◌, leb, eqb, Float, length}
use Rattle.lists.specs.Refusals.{unless_refused, all_pass}
use Rattle.geometry.specs.declared.ray.Ray.{Ray}
use Rattle.casts.specs.Answer.{bad_shape, no_room}
use Rattle.tree.specs.Layout.{Tree, word_at}
use Rattle.tree.specs.Mesh.{Mesh, triangle_count, lengths_admitted}
use Rattle.tree_query.specs.Query.{walk_fits}
use Rattle.mesh.specs.MeshCast.{shape_admitted}
use Rattle.mesh.specs.Demand3.{PassesCheck}
use Rattle.exact_triangle.specs.Grid.{grid_line}
use Rattle.mesh_exact.specs.Certain.{corner_on}
use Rattle.tree_exact.specs.Numbers.{NoNaN}
use Rattle.drill.specs.Drill.{InDrill}
use Rattle.mesh_drill.specs.MeshDrill.{DrillAnswer, Clear, Touches, Stopped}
use Rattle.mesh_drill.specs.Radius.{radius_on}
use Rattle.mesh_drill.specs.Drilling.{drill_tests, drill_plain, CertainRayDrill}
use Rattle.mesh_drill.specs.Through.{tests_pass, drill_through}
use Rattle.mesh_drill.specs.Part.{PartAsDrawn}
use Rattle.results.specs.Results.{with_room, hit_code, none_code, done_code}
use Rattle.many_drills.specs.Returned.{ReturnedDrill, returned_drill}
use Rattle.many_drills.specs.Many.{ray_at, radius_at, drill_count, Places, ReturnedMany, read_at, ManyCall}

-- ---- what is answered and written

-- the index slice has a place
abbrev pub index_fits : List ℕ → Bool
index_fits index = leb 1 (length index)

-- a refusal's number, and nothing written
abbrev pub refused_drill : ℕ → List ℕ → ReturnedDrill
refused_drill number index = record { number = number; index = index }

-- without a tree; the index slice's 3 comes after 1 and 12 of the ray and the radius and after 2
unfoldable pub drill_plain_returned : Ray → Float → Mesh → List ℕ → ReturnedDrill
drill_plain_returned r radius m index =
    with_room (all_pass (drill_tests r radius) && lengths_admitted (length m.vertices) (length m.triangles)) (index_fits index)
    (returned_drill (drill_plain r radius m) index) (refused_drill no_room index)

-- through a tree; the lengths of the list and the stack stand before the index slice
unfoldable pub drill_returned : Ray → Float → Mesh → Tree → ℕ → ℕ → List ℕ → ReturnedDrill
drill_returned r radius m t list stack index =
    with_room (all_pass (drill_tests r radius) && shape_admitted m m.vertices t) (index_fits index)
    (returned_drill (drill_through r radius m t list stack) index) (refused_drill no_room index)

-- the number where the index slice is too short
abbrev pub short_drill : Ray → Float → Bool → ℕ
short_drill r radius shape = unless_refused (λ (number : ℕ). number) (drill_tests r radius) (cond shape no_room bad_shape)

-- ---- what is read back

-- the answer: what the number and the index slice say together
unfoldable pub drill_read : ReturnedDrill → DrillAnswer
drill_read t =
    cond (eqb t.number hit_code) (Touches (word_at t.index 0)) (cond (eqb t.number none_code) Clear (Stopped t.number))

-- on the grid it is certain of the whole mesh: clear exactly where no point of any triangle, with area or without, lies in the drill, and
-- else the lowest index of one that has such a point; and so much it says of the part as drawn
abbrev pub CertainDrillRead : Ray → Float → Mesh → List ℕ → ReturnedDrill → Type 0
CertainDrillRead r radius m index returned =
    index_fits index ≡ true → CertainRayDrill r radius m (drill_read returned) × PartAsDrawn r radius m (drill_read returned)

-- through any tree: the triangle that is named has a point in the drill
abbrev pub TouchedRead : Ray → Float → Mesh → List ℕ → ReturnedDrill → Type 0
TouchedRead r radius m index returned =
    index_fits index ≡ true → (i : ℕ) → drill_read returned ≡ Touches i
    → InDrill (grid_line r) (radius_on radius) (corner_on m i 0) (corner_on m i 1) (corner_on m i 2)

-- ---- what the calls promise; an area with a stroke is the area afterwards

abbrev pub DrillPlainCall : Ray → Float → Mesh → List ℕ → ReturnedDrill → Type 0
DrillPlainCall r radius m index returned =
    (returned ≡ drill_plain_returned r radius m index) × CertainDrillRead r radius m index returned

-- through any tree that passes the check, for a mesh without a NaN and areas that are long enough, the same holds
abbrev pub DrillAsPlain : Ray → Float → Mesh → Tree → ℕ → ℕ → List ℕ → ReturnedDrill → Type 0
DrillAsPlain r radius m t list stack index returned =
    PassesCheck m t → NoNaN m → walk_fits (triangle_count m) t list stack ≡ true → DrillPlainCall r radius m index returned

-- what is read back from the call through a tree
abbrev pub DrillTreeRead : Ray → Float → Mesh → Tree → ℕ → ℕ → List ℕ → ReturnedDrill → Type 0
DrillTreeRead r radius m t list stack index returned =
    TouchedRead r radius m index returned × DrillAsPlain r radius m t list stack index returned

abbrev pub DrillCall : Ray → Float → Mesh → Tree → List ℕ → List ℕ → List ℕ → List ℕ → List ℕ → ReturnedDrill → Type 0
DrillCall r radius m t list list' stack stack' index returned =
    (returned ≡ drill_returned r radius m t (length list) (length stack) index)
    × (((index_fits index && tests_pass r radius m t (length list) (length stack)) ≡ false → (list' ≡ list) × (stack' ≡ stack))
    × DrillTreeRead r radius m t (length list) (length stack) index returned)

-- many drills: where the call is done, this holds of each drill, of the index that stood at its place, and of what is read there
abbrev pub DrillAnswered : Mesh → Tree → ℕ → ℕ → Ray → Float → List ℕ → ReturnedDrill → Type 0
DrillAnswered m t list stack r radius index returned =
    (returned ≡ drill_returned r radius m t list stack index) × DrillTreeRead r radius m t list stack index returned

abbrev pub EachDrill : List Float → Places → ReturnedMany → (Ray → Float → List ℕ → ReturnedDrill → Type 0) → Type 0
EachDrill drills p returned Holds =
    returned.number ≡ done_code → (i : ℕ) → i < drill_count drills
    → Holds (ray_at drills i) (radius_at drills i) (word_at p.indices i ∷ []) (read_at returned.after i)

abbrev pub DrillManyCall : List Float → Mesh → Tree → List ℕ → List ℕ → List ℕ → List ℕ → Places → ReturnedMany → Type 0
DrillManyCall drills m t list list' stack stack' p returned =
    ManyCall drills m t list list' stack stack' p returned
    × EachDrill drills p returned (DrillAnswered m t (length list) (length stack))
