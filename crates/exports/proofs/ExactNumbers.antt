-- Every refusal of the exact cast, without a tree and through one, has a number below the codes. Assumes nothing.
use Rattle.exact_depth.specs.declared.projection.Fraction.{Fraction}
use Rattle.std.specs.Prelude.{Option, Some, None}
use Prim.Native.Nat.{ℕ, zero, suc, ◌+◌}
use mathlib.Core.Path.{refl}
use mathlib.Core.Bool.{Bool, ◌&&◌, cond}
use mathlib.Core.List.{List, [], ◌∷◌}
use lib.Dec.{ltb, leb, eqb}
use lib.Ieee.{Float}
use lib.ListN.{length}
use Rattle.lists.specs.Lists.{range}
use Rattle.vectors.specs.declared.vec3.Vec3.{Vec3}
use Rattle.vectors.specs.Vector.{dot_of}
use Rattle.geometry.specs.Segment.{ray_admitted}
use Rattle.geometry.specs.declared.ray.Ray.{Ray}
use Rattle.casts.specs.Answer.{Answer, hit, none, refused, with_normal, no_normal, invalid_input, bad_shape, out_of_bounds, out_of_range}
use Rattle.casts.specs.Reach.{reach_of}
use Rattle.casts.specs.Surface.{facing}
use Rattle.casts.specs.Reach.{Reach, At, Miss, Refused}
use Rattle.nearest_hit.specs.Nearest.{no_hit, stopped}
use Rattle.nearest_hit.specs.Summary.{Kept, nobody, kept, Found, found, lower, keep_of, Summary, nothing, note_of, winner_of, answer_at}
use Rattle.tree.specs.Layout.{Tree, word_at, kind_at, first_at, second_at}
use Rattle.tree.specs.Mesh.{Mesh, thirds, triangle_count, lengths_admitted, corners_inside, corners_of, triangles_fit}
use Rattle.exact_triangle.specs.Grid.{grid_admitted, grid_line}
use Rattle.exact_triangle.specs.Shear.{depth_of}
use Rattle.exact_triangle.specs.Normal.{normal_of}
use Rattle.exact_triangle.specs.Reach.{corners_read, reach_at, corners_reach, grid_reach}
use Rattle.exact_triangle.specs.Cast.{grid_normal, reach_hit, cross_at, grid_triangle}
use Rattle.mesh_exact.specs.GridCast.{exact_answer, over_triangles, ray_mesh_exact_plain}
use Rattle.tree_exact.specs.FirstWalk.{Seeking, seeking, broken, times, take_place, take_places, at_leaf, at_branch, at_node}
use Rattle.tree_exact.specs.FirstWalk.{take_node, start, ended, first_of}
use Rattle.tree_exact.specs.Opening.{opens_node}
use Rattle.tree_exact.specs.Order.{left_first}
use Rattle.tree_exact.specs.ExactMesh.{exact_through, exact_tests, ray_mesh_exact}
use Rattle.exports.proofs.RefusalNumbers.{Small, is_small, leaf, chosen, small_tests, tested, answer_number, refuses, misses, hits}
use Rattle.exports.proofs.RefusalNumbers.{indexed_number, stops, next_small, nearest_small}

-- ---- one triangle
unfoldable reach_number : Reach → ℕ
reach_number (At x) = 0
reach_number Miss = 0
reach_number (Refused number) = number

grid_reach_small : (r : Ray) (vs : List Vec3) → Small reach_number (grid_reach r vs)
unfolding grid_reach corners_reach reach_number
grid_reach_small r vs =
    chosen (grid_admitted r) (chosen (corners_read vs) (deep (depth_of (grid_line r) _ _ _))
    (leaf reach_number (Refused out_of_range) refl))
    (leaf reach_number (Refused out_of_range) refl)
  where
    deep : (d : Option Fraction) → Small reach_number (reach_at d)
    deep (Some f) = leaf reach_number (reach_at (Some f)) refl
    deep None = leaf reach_number Miss refl

passed : (number : ℕ) → Small reach_number (Refused number) → Small answer_number (refused number)
unfolding reach_number answer_number
passed number p = is_small p.below

grid_small : (r : Ray) (vs : List Vec3) → Small answer_number (grid_triangle r vs)
unfolding grid_triangle grid_normal
grid_small r vs = go (grid_reach r vs) (grid_reach_small r vs)
  where
    faced : (x : Float) (n : Option Vec3)
        → Small answer_number (with_normal n no_normal (λ (v : Vec3). hit (facing v (dot_of r.direction v)) x))
    faced x (Some v) = hits _ x
    faced x None = refuses no_normal refl

    go : (q : Reach) → Small reach_number q → Small answer_number (reach_hit r (cross_at vs) q)
    go (At x) p = faced x (normal_of (cross_at vs))
    go Miss p = misses
    go (Refused number) p = passed number p

pub exact_small : (r : Ray) (pose : List Float) (triangles : List ℕ) (i : ℕ) → Small answer_number (exact_answer r pose triangles i)
unfolding exact_answer
exact_small r pose triangles i =
    chosen (corners_inside (thirds (length pose)) triangles i) (grid_small r (corners_of pose triangles i)) (refuses out_of_bounds refl)

pub exact_plain_small : (r : Ray) (m : Mesh) → Small indexed_number (ray_mesh_exact_plain r m)
unfolding ray_mesh_exact_plain over_triangles
exact_plain_small r m =
    chosen (ray_admitted r) (chosen (grid_admitted r) (chosen (lengths_admitted (length m.vertices) (length m.triangles))
    (chosen (triangles_fit m) (nearest_small _ (exact_small r m.vertices m.triangles) (range 0 (triangle_count m)))
    (stops out_of_bounds refl)) (stops bad_shape refl)) (stops out_of_range refl)) (stops invalid_input refl)

-- ---- through a tree: what the walk keeps of a refuser
unfoldable refuser_number : Kept (Found ℕ) → ℕ
refuser_number nobody = 0
refuser_number (kept f) = f.value

abbrev summary_number : Summary → ℕ
summary_number s = refuser_number s.refuser

unfoldable seeking_number : Seeking → ℕ
seeking_number (seeking stack s) = summary_number s
seeking_number broken = 0

module _ (t : Tree) (n : ℕ) (answer : ℕ → Answer) (opens : ℕ → Summary → Bool) (left : ℕ → Bool)
    (each : (i : ℕ) → Small answer_number (answer i)) where
  keep_small : (k : Kept (Found ℕ)) (f : Found ℕ) → Small refuser_number k → Small refuser_number (kept f)
      → Small refuser_number (keep_of lower k f)
  unfolding keep_of
  keep_small nobody f p q = q
  keep_small (kept g) f p q = chosen (lower f g) q p

  note_small : (s : Summary) (i : ℕ) (a : Answer) → Small summary_number s → Small answer_number a
      → Small summary_number (note_of s i (reach_of a))
  unfolding note_of reach_of answer_number refuser_number
  note_small s i (hit m d) p q = is_small p.below
  note_small s i none p q = p
  note_small s i (refused k) p q = is_small (keep_small s.refuser (found i k) (is_small p.below) (is_small q.below)).below

  stands : (stack : List ℕ) (s : Summary) → Small summary_number s → Small seeking_number (seeking stack s)
  unfolding seeking_number
  stands stack s p = is_small p.below

  ends : Small seeking_number broken
  unfolding seeking_number
  ends = leaf seeking_number broken refl

  place_small : (w : Seeking) (place : ℕ) → Small seeking_number w → Small seeking_number (take_place t n answer opens left w place)
  unfolding take_place seeking_number
  place_small broken place p = p
  place_small (seeking stack s) place p =
      chosen (ltb (word_at t.order place) n)
      (stands stack _ (note_small s (word_at t.order place) (answer (word_at t.order place)) (is_small p.below) (each _))) ends

  places_small : (places : List ℕ) (w : Seeking) → Small seeking_number w
      → Small seeking_number (take_places t n answer opens left w places)
  unfolding take_places
  places_small [] w p = p
  places_small (place ∷ rest) w p = places_small rest (take_place t n answer opens left w place) (place_small w place p)

  node_small : (node : ℕ) (stack : List ℕ) (s : Summary) → Small summary_number s
      → Small seeking_number (at_node t n answer opens left node stack s)
  unfolding at_node at_leaf at_branch
  node_small node stack s p =
      chosen (opens node s)
      (chosen (eqb (kind_at t.node_words node) 0)
      (chosen (leb (first_at t.node_words node + second_at t.node_words node) n)
      (places_small (range (first_at t.node_words node) (second_at t.node_words node)) (seeking stack s) (stands stack s p)) ends)
      (chosen (eqb (kind_at t.node_words node) 1)
      (chosen (ltb node (first_at t.node_words node) && ltb node (second_at t.node_words node)) (stands _ s p) ends) ends))
      (stands stack s p)

  take_small : (w : Seeking) → Small seeking_number w → Small seeking_number (take_node t n answer opens left w)
  unfolding take_node seeking_number
  take_small broken p = p
  take_small (seeking [] s) p = p
  take_small (seeking (node ∷ stack) s) p = chosen (ltb node t.node_count) (node_small node stack s (is_small p.below)) ends

  times_small : (k : ℕ) (w : Seeking) → Small seeking_number w → Small seeking_number (times k (take_node t n answer opens left) w)
  unfolding times
  times_small zero w p = p
  times_small (suc k) w p = times_small k (take_node t n answer opens left w) (take_small w p)

  answer_small : (refuser : Kept (Found ℕ)) (least : Kept (Found Float)) → Small refuser_number refuser
      → Small indexed_number (answer_at answer (winner_of refuser least))
  unfolding answer_at winner_of indexed_number refuser_number
  answer_small (kept f) least p = is_small p.below
  answer_small nobody nobody p = leaf indexed_number no_hit refl
  answer_small nobody (kept f) p = next_small no_hit f.index (answer f.index) (leaf indexed_number no_hit refl) (each f.index)

  ended_small : (w : Seeking) → Small seeking_number w → Small indexed_number (ended t n answer opens left w)
  unfolding ended seeking_number
  ended_small broken p = stops out_of_bounds refl
  ended_small (seeking [] s) p = answer_small s.refuser s.least (is_small p.below)
  ended_small (seeking (node ∷ stack) s) p = stops out_of_bounds refl

  walk_small : Small indexed_number (first_of t n answer opens left)
  unfolding first_of start seeking_number refuser_number
  walk_small =
      ended_small (times t.node_count (take_node t n answer opens left) (start t n answer opens left))
      (times_small t.node_count (start t n answer opens left)
      (leaf seeking_number (seeking (cond (eqb t.node_count 0) [] (0 ∷ [])) nothing) refl))

pub exact_tree_small : (r : Ray) (m : Mesh) (pose : List Float) (t : Tree) (stack : ℕ)
    → Small indexed_number (ray_mesh_exact r m pose t stack)
unfolding ray_mesh_exact exact_through small_tests
exact_tree_small r m pose t stack =
    tested indexed_number stopped stops (exact_tests r m pose t stack) _ refl
    (walk_small t (thirds (length m.triangles)) (exact_answer r pose m.triangles) (opens_node (grid_line r) t) (left_first (grid_line r) t)
    (exact_small r pose m.triangles))
