-- Through any tree, one that passes the check or not, a triangle that is answered as touched has a point in the drill. Assumes nothing.
use Rattle.std.proofs.Common.{◌≡◌, ℕ, Bool, true, false, cond, List, [], ◌∷◌, length, refl, ap, subst}
use mathlib.Core.Bool.{false≢true}
use lib.Ieee.{Float}
use Rattle.lists.specs.Lists.{range}
use Rattle.geometry.specs.Segment.{ray_admitted}
use Rattle.geometry.specs.declared.ray.Ray.{Ray}
use Rattle.casts.specs.Answer.{invalid_input, bad_shape, no_room, out_of_bounds, out_of_range}
use Rattle.tree.specs.Layout.{Tree}
use Rattle.tree.specs.Mesh.{Mesh, thirds, triangle_count, corners_inside, corners_of, triangles_fit}
use Rattle.tree_walk.specs.Walk.{Walking, walking, broken, walk_of}
use Rattle.tree_query.specs.Query.{walk_fits}
use Rattle.mesh.specs.MeshCast.{shape_admitted}
use Rattle.exact_triangle.specs.Line.{Line}
use Rattle.exact_triangle.specs.Grid.{within, grid_admitted, grid_line}
use Rattle.exact_triangle.specs.Reach.{corners_read}
use Rattle.mesh_exact.specs.Certain.{corner_on}
use Rattle.drill.specs.Drill.{InDrill}
use Rattle.drill.specs.Box.{drill_box}
use Rattle.mesh_drill.specs.MeshDrill.{DrillAnswer, Clear, Touches, Stopped, touched_at, drill_all, mesh_read}
use Rattle.mesh_drill.proofs.FirstOf.{first_touches}
use Rattle.drill.proofs.Deciding.{touched_certain}
use Rattle.mesh_drill.proofs.MeshCertainty.{ray_ends}
use Rattle.mesh_drill.specs.Radius.{widestᶠ, radius_admitted, radius_on}
use Rattle.mesh_drill.specs.Drilling.{over_mesh}
use Rattle.mesh_drill.specs.Through.{drilled_at, or_else, first_answer, over_walk, walked_by, root_read, over_tree, drill_through}

abbrev touches : DrillAnswer → Bool
touches Clear = false
touches (Touches i) = true
touches (Stopped n) = false

abbrev index : DrillAnswer → ℕ
index Clear = 0
index (Touches i) = i
index (Stopped n) = 0

module _ (l : Line) (ρ : ℕ) (m : Mesh) (i : ℕ) where
  listed_touched : (xs : List ℕ) → first_answer (drilled_at l ρ m) xs ≡ Touches i → touched_at l ρ m i ≡ true
  unfolding first_answer drilled_at
  listed_touched [] h = absurd (false≢true (ap touches h))
  listed_touched (x ∷ xs) h =
      go (corners_inside (thirds (length m.vertices)) m.triangles x) (corners_read (corners_of m.vertices m.triangles x))
      (touched_at l ρ m x) refl (listed_touched xs) h
    where
      go : (a b c : Bool) → touched_at l ρ m x ≡ c → (first_answer (drilled_at l ρ m) xs ≡ Touches i → touched_at l ρ m i ≡ true)
          → or_else (cond a (cond b (cond c (Touches x) Clear) (Stopped out_of_range)) (Stopped out_of_bounds))
          (first_answer (drilled_at l ρ m) xs)
          ≡ Touches i
          → touched_at l ρ m i ≡ true
      go false b c e rest k = absurd (false≢true (ap touches k))
      go true false c e rest k = absurd (false≢true (ap touches k))
      go true true true e rest k = subst (λ (j : ℕ). touched_at l ρ m j ≡ true) (ap index k) e
      go true true false e rest k = rest k

  walked_touched : (w : Walking) → over_walk l ρ m w ≡ Touches i → touched_at l ρ m i ≡ true
  unfolding over_walk
  walked_touched broken h = absurd (false≢true (ap touches h))
  walked_touched (walking stack list) h = listed_touched list h

  all_touched : drill_all l ρ m ≡ Touches i → touched_at l ρ m i ≡ true
  unfolding drill_all
  all_touched h = (first_touches (touched_at l ρ m) (range 0 (triangle_count m)) i h).1

module _ (r : Ray) (radius : Float) (m : Mesh) (t : Tree) (i : ℕ) where
  abbrev found : Type 0
  found = touched_at (grid_line r) (radius_on radius) m i ≡ true

  mesh_touched : over_mesh r radius m ≡ Touches i → found
  unfolding over_mesh
  mesh_touched = go (triangles_fit m) (mesh_read m)
    where
      go : (a b : Bool) → cond a (cond b (drill_all (grid_line r) (radius_on radius) m) (Stopped out_of_range)) (Stopped out_of_bounds)
          ≡ Touches i
          → found
      go false b h = absurd (false≢true (ap touches h))
      go true false h = absurd (false≢true (ap touches h))
      go true true h = all_touched (grid_line r) (radius_on radius) m i h

  tree_touched : over_tree r radius m t ≡ Touches i → found
  unfolding over_tree
  tree_touched = go (root_read t)
    where
      go : (b : Bool) → cond b (walked_by (grid_line r) (radius_on radius) m t) (over_mesh r radius m) ≡ Touches i → found
      go true h =
          walked_touched (grid_line r) (radius_on radius) m i (walk_of t (triangle_count m) (drill_box (grid_line r) (radius_on radius))) h
      go false h = mesh_touched h

  -- the closed triangle of that index has a point in the closed drill
  pub touched_anywhere : (list stack : ℕ) → drill_through r radius m t list stack ≡ Touches i
      → InDrill (grid_line r) (radius_on radius) (corner_on m i 0) (corner_on m i 1) (corner_on m i 2)
  unfolding drill_through
  touched_anywhere list stack =
      go (ray_admitted r) (radius_admitted radius) (grid_admitted r) (within widestᶠ radius) (shape_admitted m m.vertices t)
      (walk_fits (triangle_count m) t list stack) refl
    where
      go : (a b c d e f : Bool) → ray_admitted r ≡ a
          → cond a (cond b (cond c (cond d (cond e (cond f (over_tree r radius m t) (Stopped no_room)) (Stopped bad_shape))
          (Stopped out_of_range))
          (Stopped out_of_range)) (Stopped invalid_input)) (Stopped invalid_input) ≡ Touches i
          → InDrill (grid_line r) (radius_on radius) (corner_on m i 0) (corner_on m i 1) (corner_on m i 2)
      go false b c d e f k h = absurd (false≢true (ap touches h))
      go true false c d e f k h = absurd (false≢true (ap touches h))
      go true true false d e f k h = absurd (false≢true (ap touches h))
      go true true true false e f k h = absurd (false≢true (ap touches h))
      go true true true true false f k h = absurd (false≢true (ap touches h))
      go true true true true true false k h = absurd (false≢true (ap touches h))
      go true true true true true true k h =
          touched_certain (grid_line r) (radius_on radius) (corner_on m i 0) (corner_on m i 1) (corner_on m i 2) (ray_ends r k)
          (tree_touched h)
