-- Every refusal of the drill, without a tree, through one and for many drills, has a number below the codes. Assumes nothing.
use Prim.Native.Nat.{ℕ, ◌<◌}
use mathlib.Core.Path.{◌≡◌, refl, ap, subst}
use mathlib.Core.Bool.{Bool, true, false, cond}
use mathlib.Core.List.{List, [], ◌∷◌}
use borrow.Author.Tests.{ne_eqb, ltb-true}
use lib.Dec.{eqb, ltb}
use lib.Ieee.{Float}
use lib.ListN.{length}
use Rattle.lists.specs.Lists.{range}
use Rattle.lists.specs.Refusals.{refusing}
use Rattle.geometry.specs.declared.ray.Ray.{Ray}
use Rattle.casts.specs.Answer.{bad_shape, out_of_bounds, out_of_range}
use Rattle.tree.specs.Layout.{Tree}
use Rattle.tree.specs.Mesh.{Mesh, thirds, triangle_count, lengths_admitted, corners_inside, corners_of, triangles_fit}
use Rattle.tree_walk.specs.Walk.{Walking, walking, broken, walk_of}
use Rattle.exact_triangle.specs.Line.{Line}
use Rattle.exact_triangle.specs.Grid.{grid_line}
use Rattle.exact_triangle.specs.Reach.{corners_read}
use Rattle.drill.specs.Box.{drill_box}
use Rattle.mesh_drill.specs.MeshDrill.{DrillAnswer, Clear, Touches, Stopped, touched_at, first_of, drill_all, mesh_read}
use Rattle.mesh_drill.specs.Radius.{radius_on}
use Rattle.mesh_drill.specs.Drilling.{drill_tests, over_mesh, drill_plain}
use Rattle.mesh_drill.specs.Through.{drilled_at, or_else, first_answer, over_walk, root_read, over_tree, through_tests, drill_through}
use Rattle.many_drills.specs.Many.{Places, drill_count, answers_of, many_tests, ReturnedMany, returned_many, many_returned}
use Rattle.results.specs.Results.{hit_code, done_code}
use Rattle.exports.proofs.RefusalNumbers.{Small, is_small, leaf, chosen, small_tests, tested}

unfoldable pub refusal_number : DrillAnswer → ℕ
refusal_number Clear = 0
refusal_number (Touches i) = 0
refusal_number (Stopped number) = number

stops : (k : ℕ) → ltb k 256 ≡ true → Small refusal_number (Stopped k)
unfolding refusal_number
stops k h = leaf refusal_number (Stopped k) h

clear_small : Small refusal_number Clear
unfolding refusal_number
clear_small = leaf refusal_number Clear refl

touches_small : (i : ℕ) → Small refusal_number (Touches i)
unfolding refusal_number
touches_small i = leaf refusal_number (Touches i) refl

-- ---- without a tree
first_small : (p : ℕ → Bool) (is : List ℕ) → Small refusal_number (first_of p is)
unfolding first_of
first_small p [] = clear_small
first_small p (i ∷ is) = chosen (p i) (touches_small i) (first_small p is)

over_mesh_small : (r : Ray) (radius : Float) (m : Mesh) → Small refusal_number (over_mesh r radius m)
unfolding over_mesh drill_all
over_mesh_small r radius m =
    chosen (triangles_fit m)
    (chosen (mesh_read m) (first_small (touched_at (grid_line r) (radius_on radius) m) (range 0 (triangle_count m)))
    (stops out_of_range refl))
    (stops out_of_bounds refl)

pub drill_plain_small : (r : Ray) (radius : Float) (m : Mesh) → Small refusal_number (drill_plain r radius m)
unfolding drill_plain small_tests
drill_plain_small r radius m =
    tested refusal_number Stopped stops (drill_tests r radius) _ refl
    (chosen (lengths_admitted (length m.vertices) (length m.triangles)) (over_mesh_small r radius m) (stops bad_shape refl))

-- ---- through a tree
or_else_small : (a b : DrillAnswer) → Small refusal_number a → Small refusal_number b → Small refusal_number (or_else a b)
or_else_small Clear b p q = q
or_else_small (Touches i) b p q = p
or_else_small (Stopped number) b p q = p

drilled_small : (l : Line) (ρ : ℕ) (m : Mesh) (i : ℕ) → Small refusal_number (drilled_at l ρ m i)
unfolding drilled_at
drilled_small l ρ m i =
    chosen (corners_inside (thirds (length m.vertices)) m.triangles i)
    (chosen (corners_read (corners_of m.vertices m.triangles i)) (chosen (touched_at l ρ m i) (touches_small i) clear_small)
    (stops out_of_range refl))
    (stops out_of_bounds refl)

listed_small : (l : Line) (ρ : ℕ) (m : Mesh) (is : List ℕ) → Small refusal_number (first_answer (drilled_at l ρ m) is)
unfolding first_answer
listed_small l ρ m [] = clear_small
listed_small l ρ m (i ∷ is) = or_else_small (drilled_at l ρ m i) _ (drilled_small l ρ m i) (listed_small l ρ m is)

walked_small : (l : Line) (ρ : ℕ) (m : Mesh) (w : Walking) → Small refusal_number (over_walk l ρ m w)
unfolding over_walk
walked_small l ρ m broken = stops out_of_bounds refl
walked_small l ρ m (walking stack list) = listed_small l ρ m list

over_tree_small : (r : Ray) (radius : Float) (m : Mesh) (t : Tree) → Small refusal_number (over_tree r radius m t)
unfolding over_tree
over_tree_small r radius m t =
    chosen (root_read t)
    (walked_small (grid_line r) (radius_on radius) m (walk_of t (triangle_count m) (drill_box (grid_line r) (radius_on radius))))
    (over_mesh_small r radius m)

pub drill_small : (r : Ray) (radius : Float) (m : Mesh) (t : Tree) (list stack : ℕ)
    → Small refusal_number (drill_through r radius m t list stack)
unfolding drill_through small_tests
drill_small r radius m t list stack =
    tested refusal_number Stopped stops (through_tests r radius m t list stack) _ refl (over_tree_small r radius m t)

-- ---- many drills: the number, unless it says 'done'
unfoldable refusal_in : ReturnedMany → ℕ
refusal_in returned = cond (eqb returned.number done_code) 0 returned.number

chosen_small : (b : Bool) (k : ℕ) → ltb k 256 ≡ true → cond b 0 k < 256
chosen_small true k h = ltb-true 0 256 refl
chosen_small false k h = ltb-true k 256 h

refusal_read : (returned : ReturnedMany) → (returned.number ≡ done_code → ⊥) → refusal_in returned ≡ returned.number
unfolding refusal_in
refusal_read returned other = ap (λ (b : Bool). cond b 0 returned.number) (ne_eqb returned.number done_code other)

module _ (answer : Ray → Float → DrillAnswer) (drills : List Float) (m : Mesh) (t : Tree) (room : Bool) (p : Places) where
  many_stops : (k : ℕ) → ltb k 256 ≡ true → Small refusal_in (returned_many k p)
  unfolding refusal_in
  many_stops k h = is_small (chosen_small (eqb k done_code) k h)

  returned_small : Small refusal_in (many_returned answer drills m t room p)
  unfolding many_returned small_tests refusal_in
  returned_small =
      tested refusal_in (λ (number : ℕ). returned_many number p) many_stops (many_tests drills m t room p)
      (returned_many done_code (answers_of answer drills (drill_count drills) p)) refl (is_small (ltb-true 0 256 refl))

  pub drill_many_small : ((many_returned answer drills m t room p).number ≡ done_code → ⊥)
      → (many_returned answer drills m t room p).number < hit_code
  drill_many_small other =
      subst (λ (n : ℕ). n < hit_code) (refusal_read (many_returned answer drills m t room p) other) returned_small.below
