-- A ray's drill at a mesh. Definitions only. Assumes nothing.
use Rattle.std.specs.Prelude.{◌≡◌, ℕ, Bool, true, false, ◌&&◌, List, [], ◌∷◌, length, ◌≢◌, Float, Option, Some, None, Result, Ok, Err}
use Rattle.lists.specs.Refusals.{Test, refusing, unless_refused}
use Rattle.geometry.specs.Box.{corners_box, touches}
use Rattle.geometry.specs.Segment.{ray_admitted}
use Rattle.geometry.specs.declared.ray.Ray.{Ray}
use Rattle.casts.specs.Answer.{invalid_input, bad_shape, out_of_bounds, out_of_range, number_of}
use Rattle.tree.specs.Mesh.{Mesh, corners_of, lengths_admitted, triangles_fit}
use Rattle.exact_triangle.specs.Line.{Line}
use Rattle.exact_triangle.specs.Grid.{within, grid_admitted, grid_line}
use Rattle.drill.specs.Box.{drill_box}
use Rattle.mesh_drill.specs.MeshDrill.{DrillAnswer, Clear, Touches, Stopped, touched_at, drill_all, mesh_read, CertainDrill}
use Rattle.mesh_exact.specs.Certain.{InRange, OutOfRange}
use Rattle.casts.specs.declared.answer.Refusal.{Refusal}
use Rattle.mesh_drill.specs.Radius.{widestᶠ, radius_admitted, radius_on}

-- what each case of the code's answer says
abbrev pub says_drill : Result (Option ℕ) Refusal → DrillAnswer
says_drill (Ok None) = Clear
says_drill (Ok (Some index)) = Touches index
says_drill (Err refusal) = Stopped (number_of refusal)

-- refusals of the ray and the radius: 1 for either, then 12 for either
abbrev pub drill_tests : Ray → Float → List Test
drill_tests r radius =
    refusing invalid_input (ray_admitted r)
    ∷ (refusing invalid_input (radius_admitted radius)
    ∷ (refusing out_of_range (grid_admitted r) ∷ (refusing out_of_range (within widestᶠ radius) ∷ [])))

-- .. of all triangles: 5 for an index or a box, then 12 for a corner; past them the first triangle that is touched
unfoldable pub over_mesh : Ray → Float → Mesh → DrillAnswer
over_mesh r radius m =
    unless_refused Stopped (refusing out_of_bounds (triangles_fit m) ∷ (refusing out_of_range (mesh_read m) ∷ []))
    (drill_all (grid_line r) (radius_on radius) m)

-- .. and of the lengths between the two
unfoldable pub drill_plain : Ray → Float → Mesh → DrillAnswer
drill_plain r radius m =
    unless_refused Stopped (drill_tests r radius)
    (unless_refused Stopped (refusing bad_shape (lengths_admitted (length m.vertices) (length m.triangles)) ∷ []) (over_mesh r radius m))

-- why a drill is refused: 1 for the ray or the radius, 12 for a radius above 128 mm, else as the exact mesh cast
pub data Reason (r : Ray) (radius : Float) (m : Mesh) (number : ℕ) : Type 0 where
  ray : number ≡ invalid_input → ray_admitted r ≡ false → Reason r radius m number
  size : number ≡ invalid_input → radius_admitted radius ≡ false → Reason r radius m number
  beyond : number ≡ out_of_range → OutOfRange r m → Reason r radius m number
  wide : number ≡ out_of_range → within widestᶠ radius ≡ false → Reason r radius m number
  lengths : number ≡ bad_shape → lengths_admitted (length m.vertices) (length m.triangles) ≡ false → Reason r radius m number
  triangles : number ≡ out_of_bounds → triangles_fit m ≡ false → Reason r radius m number

-- an answer that is no refusal is about the whole mesh, each corner of which is in range; clear: no triangle of it has a point in the
-- drill; touched: the lowest index of one that has; each refusal has its reason
pub record CertainRayDrill (r : Ray) (radius : Float) (m : Mesh) (answer : DrillAnswer) : Type 0 where
  pub within : ((number : ℕ) → answer ≢ Stopped number) → InRange r m
  pub certain : CertainDrill (grid_line r) (radius_on radius) m answer
  pub refused : (number : ℕ) → answer ≡ Stopped number → Reason r radius m number

-- ---- inner contracts only
-- the ray and the radius are let pass
pub record DrillAdmitted (r : Ray) (radius : Float) : Type 0 where
  pub ray : ray_admitted r ≡ true
  pub size : radius_admitted radius ≡ true
  pub read : grid_admitted r ≡ true
  pub widest : within widestᶠ radius ≡ true

-- the drill touches triangle i, which is asked only where their boxes touch
unfoldable pub reached_at : Line → ℕ → Mesh → ℕ → Bool
reached_at l ρ m i = touches (corners_box (corners_of m.vertices m.triangles i)) (drill_box l ρ) && touched_at l ρ m i
