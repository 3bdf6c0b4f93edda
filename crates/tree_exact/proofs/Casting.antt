-- The exact cast through a tree: what the walk found is its answer, and each refusal. Assumes nothing.
use Rattle.std.specs.Prelude.{Option, Some, None}
use Rattle.nearest_hit.specs.Summary.{Outcome, Nobody, RefusedBy, NearestHit}
use Prim.Native.Nat.{ℕ, ◌+◌, ◌*◌, ◌<◌}
use mathlib.Core.Path.{◌≡◌, sym, ap, subst, ◌∙◌}
use mathlib.Core.Bool.{Bool, true, false, ◌&&◌}
use mathlib.Core.List.{List}
use native.Mathlib.Omega.{arith}
use borrow.Author.Tests.{le-leb, eq-eqb, ne_eqb}
use lib.Dec.{leb}
use lib.Ieee.{Float}
use lib.ListN.{length, length-replicate, replicate}
use Rattle.lists.proofs.JoinedTests.{and_first, and_second, and_both}
use Rattle.lists.proofs.RefusalLaws as Refusals
use Rattle.geometry.specs.Segment.{ray_admitted}
use Rattle.geometry.specs.declared.ray.Ray.{Ray}
use Rattle.casts.specs.Answer.{Answer, invalid_input, bad_shape, no_room, wrong_pose, out_of_bounds, out_of_range}
use Rattle.casts.specs.Reach.{reach_of, At}
use Rattle.nearest_hit.specs.Nearest.{Indexed, no_hit, stopped, next_of}
use Rattle.nearest_hit.specs.Summary.{Kept, nobody, kept, Found, Summary, winner_of, winner, answer_at, says_nearest_so_far}
use Rattle.nearest_hit.specs.declared.summary.NearestSoFar.{NearestSoFar}
use Rattle.tree.specs.Layout.{Tree}
use Rattle.tree.specs.Mesh.{Mesh, thirds, lengths_admitted}
use Rattle.tree_query.specs.Query.{tree_fits, walk_fits}
use Rattle.tree_query.proofs.Queries.{fits_room}
use Rattle.mesh.specs.MeshCast.{shape_admitted}
use Rattle.exact_triangle.specs.Grid.{grid_admitted, grid_line}
use Rattle.exact_triangle.specs.declared.view.View.{View}
use Rattle.exact_triangle.specs.View.{Shown, Viewed}
use Rattle.tree_exact.specs.Onward.{Reached}
use Rattle.tree_exact.specs.Opening.{opens_node}
use Rattle.tree_exact.specs.Order.{left_first}
use Rattle.mesh_exact.specs.GridCast.{exact_answer}
use Rattle.tree_exact.specs.ExactMesh.{exact_through, room_for, exact_tests, tests_pass, ray_mesh_exact}
use Rattle.tree_exact.specs.Walking.{WalkRoom, WalkedBy}

-- ---- a triangle that wins is one that is reached
abbrev kind : Outcome → ℕ
kind Nobody = 0
kind (RefusedBy number) = 1
kind (NearestHit index distance) = 2

abbrev hit_index : Outcome → ℕ
hit_index Nobody = 0
hit_index (RefusedBy number) = 0
hit_index (NearestHit index distance) = index

abbrev hit_distance : Float → Outcome → Float
hit_distance other Nobody = other
hit_distance other (RefusedBy number) = other
hit_distance other (NearestHit index distance) = distance

module _ (t : Tree) (n : ℕ) (answer : ℕ → Answer) (opens : ℕ → Summary → Bool) (left_first : ℕ → Bool) where
  pub winner_reached : (r : Kept (Found ℕ)) (l : Kept (Found Float)) → Reached t n answer opens left_first l
      → (index : ℕ) (distance : Float) → winner_of r l ≡ NearestHit index distance → (index < n) × (reach_of (answer index) ≡ At distance)
  unfolding winner_of
  winner_reached (kept r) l h index distance e = let z = ap kind e in absurd (omega (arith, z))
  winner_reached nobody nobody h index distance e = let z = ap kind e in absurd (omega (arith, z))
  winner_reached nobody (kept best) h index distance e =
      subst (λ (i : ℕ). (i < n) × (reach_of (answer i) ≡ At distance)) (ap hit_index e)
      (subst (λ (d : Float). (best.index < n) × (reach_of (answer best.index) ≡ At d)) (ap (hit_distance distance) e) h)

module _ (r : Ray) (pose : List Float) (triangles : List ℕ) (t : Tree) (result : Option NearestSoFar) (walked : WalkedBy r pose triangles
    t result)
  where
    abbrev n : ℕ
    n = thirds (length triangles)

    abbrev answer : ℕ → Answer
    answer = exact_answer r pose triangles

    known : (w : Option NearestSoFar) → result ≡ w → WalkedBy r pose triangles t w
    known w e = subst (WalkedBy r pose triangles t) e walked

    pub through_broken : result ≡ None → stopped out_of_bounds ≡ exact_through r pose triangles t
    through_broken e = known None e

    module _ (notes : NearestSoFar) (e : result ≡ Some notes) (outcome : Outcome) (w : outcome ≡ winner (says_nearest_so_far notes)) where
      ends : answer_at answer outcome ≡ exact_through r pose triangles t
      ends = ap (answer_at answer) w ∙ (known (Some notes) e).0

      pub through_nobody : outcome ≡ Nobody → no_hit ≡ exact_through r pose triangles t
      unfolding answer_at
      through_nobody h = ap (answer_at answer) (sym h) ∙ ends

      pub through_refused : (number : ℕ) → outcome ≡ RefusedBy number → stopped number ≡ exact_through r pose triangles t
      unfolding answer_at
      through_refused number h = ap (answer_at answer) (sym h) ∙ ends

      module _ (index : ℕ) (distance : Float) (h : outcome ≡ NearestHit index distance) where
        pub through_reached : (index < n) × (reach_of (answer index) ≡ At distance)
        through_reached =
            winner_reached t n answer (opens_node (grid_line r) t) (left_first (grid_line r) t) (says_nearest_so_far notes).refuser
            (says_nearest_so_far notes).least (known (Some notes) e).1 index distance (sym w ∙ h)

        pub through_hit : (a : Answer) → a ≡ answer index → (x : Indexed) → x ≡ next_of no_hit index a → x
            ≡ exact_through r pose triangles t
        unfolding answer_at
        through_hit a f x g = g ∙ ap (next_of no_hit index) f ∙ ap (answer_at answer) (sym h) ∙ ends

-- ---- what the ray's line is
pub off_line : (r : Ray) (viewed : Option View) → Viewed r viewed → viewed ≡ None → grid_admitted r ≡ false
off_line r viewed h e = subst (Viewed r) e h

pub on_line : (r : Ray) (viewed : Option View) → Viewed r viewed → (line : View) → viewed ≡ Some line → Shown r line
on_line r viewed h line e = subst (Viewed r) e h

-- ---- refusals 1, 12 and 2 to 4, in their order
module _ (r : Ray) (m : Mesh) (pose : List Float) (t : Tree) (stack : ℕ) where
  abbrev whole : Indexed
  whole = ray_mesh_exact r m pose t stack

  pub exact_invalid : ray_admitted r ≡ false → stopped invalid_input ≡ whole
  unfolding ray_mesh_exact
  exact_invalid h = simp h

  module _ (v : ray_admitted r ≡ true) where
    pub exact_off : grid_admitted r ≡ false → stopped out_of_range ≡ whole
    unfolding ray_mesh_exact
    exact_off h = simp (v, h)

    module _ (g : grid_admitted r ≡ true) where
      abbrev admitted : Bool
      admitted =
          lengths_admitted (length m.vertices) (length m.triangles)
          && (lengths_admitted (length pose) (length m.triangles) && leb t.node_count (2 * thirds (length m.triangles)))

      abbrev fitting : Bool
      fitting = tree_fits (thirds (length m.triangles)) t && leb (t.node_count + 1) stack

      pub exact_bad : admitted ≡ false → stopped bad_shape ≡ whole
      unfolding ray_mesh_exact shape_admitted
      exact_bad h = simp (v, g, h)

      module _ (s : admitted ≡ true) where
        pub exact_short : fitting ≡ false → stopped no_room ≡ whole
        unfolding ray_mesh_exact shape_admitted room_for
        exact_short h = simp (v, g, s, h)

        module _ (f : fitting ≡ true) where
          pub exact_posed : (length pose ≡ length m.vertices → ⊥) → stopped wrong_pose ≡ whole
          unfolding ray_mesh_exact shape_admitted room_for
          exact_posed h = simp (v, g, s, f, ne_eqb (length pose) (length m.vertices) h)

          module _ (p : length pose ≡ length m.vertices) where
            pub exact_passed : (answer : Indexed) → answer ≡ exact_through r pose m.triangles t → answer ≡ whole
            unfolding ray_mesh_exact shape_admitted room_for
            exact_passed answer a = a ∙ simp (v, g, s, f, eq-eqb (length pose) (length m.vertices) p)

            -- and the stack may change
            pub tests_passed : tests_pass r m pose t stack ≡ false → ⊥
            unfolding tests_pass shape_admitted room_for
            tests_passed =
                Refusals.tests_passed (exact_tests r m pose t stack)
                (v, (g, (s, (f, eq-eqb (length pose) (length m.vertices) p))))

-- areas that are as long as stated are room for the walk
pub room_of : (n : ℕ) (t : Tree) (stack : List ℕ) → leb t.node_count (2 * n) ≡ true
    → (tree_fits n t && leb (t.node_count + 1) (length stack)) ≡ true
    → WalkRoom n t.node_count t.node_boxes t.node_words t.order × (t.node_count < length stack)
unfolding walk_fits
room_of n t stack h f =
    let high = leb (t.node_count + 1) (length stack) in
    let area = replicate {A = ℕ} n 0 in
    let same : length area ≡ n = length-replicate n 0 in
    let lent : leb n (length area) ≡ true = le-leb n (length area) (omega (arith, same)) in
    let fits = and_both (tree_fits n t) (leb n (length area) && high) (and_first (tree_fits n t) high f)
    (and_both (leb n (length area)) high lent (and_second (tree_fits n t) high f)) in
    let w = fits_room n t area stack h fits in
    (record { boxed = w.boxed; worded = w.worded; ordered = w.ordered }, w.high)
