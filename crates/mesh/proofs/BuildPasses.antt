-- The last sentence of demand 3 holds: where the build answers with a node count, it has written the tree of an admitted mesh with some
-- triangles, and that tree passes the check. Assumes nothing.
use Prim.Native.Nat.{ℕ, ◌*◌, ◌<◌, ◌≤◌}
use mathlib.Core.Path.{◌≡◌, refl, sym, ap, ◌∙◌}
use mathlib.Core.Bool.{Bool, true, false, ◌&&◌, cond}
use mathlib.Core.List.{List, ◌++◌}
use native.Mathlib.Omega.{arith}
use lib.Dec.{eqb, leb}
use lib.Ieee.{Float, nan}
use lib.ListN.{length, drop, length-append, length-drop}
use lib.Seq.{take_at}
use borrow.Author.Tests.{eqb-false, leb-true, le-leb}
use Rattle.geometry.specs.Box.{valid_box}
use Rattle.lists.proofs.JoinedTests.{and_first, and_second, or_second}
use Rattle.casts.specs.Answer.{bad_shape, no_room, out_of_bounds, overflow}
use Rattle.lists.specs.Lists.{range, count}
use Rattle.tree.specs.Layout.{Tree, Areas, tree_in}
use Rattle.tree.specs.Mesh.{Mesh, thirds, lengths_admitted, corners_inside, triangle_box, each_box, triangle_count, triangle_fits}
use Rattle.tree.specs.Mesh.{triangles_fit}
use Rattle.lists.proofs.CountLaws.{every_at, member_of_count, length_range, count_range_inside}
use Rattle.tree_build.specs.Shape.{shape_of, nodes_of, words_of}
use Rattle.tree_build.specs.Ranges.{extents_finite, order_below, boxes_below}
use Rattle.tree_build.specs.Build.{Outcome, nodes, refused, zeroed, room_for, tree_written, built_of, build_of}
use Rattle.tree.specs.Mesh.{boxes_written}
use Rattle.tree_build.proofs.Shapes.{size_of_shape_of}
use Rattle.tree_check.specs.Check.{clauses_hold, tree_passes}
use Rattle.tree_check.specs.Verdict.{room_for as roomToCheck}
use Rattle.tree_check.proofs.Answers.{passes_yes}
use Rattle.mesh.specs.Builder.{BuiltTreesPass}
use Rattle.mesh.proofs.BuildOrder.{count_order, length_order}
use Rattle.mesh.proofs.BuildRuns.{run_front, run_boxes}
use Rattle.mesh.proofs.BuildClauses.{Built, built_passes}

-- ---- where the build does not refuse
abbrev refused_with : ℕ → Areas → Outcome
refused_with number left = record { answer = refused number; after = left }

pub no_refusal : (number count : ℕ) → refused number ≡ nodes count → ⊥
no_refusal number count h = let z : ◌≡◌ {A = ℕ} 0 1 = cc in omega arith

module _ (o : Outcome) (number : ℕ) (left : Areas) (count : ℕ) where
  taken : (b : Bool) → (cond b o (refused_with number left)).answer ≡ nodes count → (b ≡ true) × (cond b o (refused_with number left) ≡ o)
  taken true h = (refl, refl)
  taken false h = absurd (no_refusal number count h)

  taken_else : (b : Bool) → (cond b (refused_with number left) o).answer ≡ nodes count → (b ≡ false) ×
      (cond b (refused_with number left) o ≡ o)
  taken_else true h = absurd (no_refusal number count h)
  taken_else false h = (refl, refl)

-- what refusals 2 and 3 have let pass
record Passed (m : Mesh) (a : Areas) (work : ℕ) : Type 0 where
  pub lengths : lengths_admitted (length m.vertices) (length m.triangles) ≡ true
  pub room : room_for (triangle_count m) a work ≡ true

record Accepted (m : Mesh) (a : Areas) (o : Outcome) : Type 0 where
  pub some : 0 < triangle_count m
  pub fit : triangles_fit m ≡ true
  pub outcome : o ≡ record { answer = nodes (nodes_of (shape_of (triangle_count m))); after = tree_written m a }

module _ (m : Mesh) (a : Areas) where
  abbrev shaped : Bool
  shaped = extents_finite (boxes_written m a.triangle_boxes) (shape_of (triangle_count m)) (range 0 (triangle_count m))

  abbrev whole : Outcome
  whole = record { answer = nodes (nodes_of (shape_of (triangle_count m))); after = tree_written m a }

  abbrev finite : Outcome
  finite = cond shaped whole (refused_with overflow (zeroed a))

  abbrev fitting : Outcome
  fitting = cond (triangles_fit m) finite (refused_with out_of_bounds (zeroed a))

  built_accepted : (count : ℕ) → (built_of m a).answer ≡ nodes count → Accepted m a (built_of m a)
  unfolding built_of
  built_accepted count h =
      let s = taken_else fitting out_of_bounds (zeroed a) count (eqb (triangle_count m) 0) h in
      let f = taken finite out_of_bounds (zeroed a) count (triangles_fit m) (ap (λ (o : Outcome). o.answer) (sym s.1) ∙ h) in
      let g = taken whole overflow (zeroed a) count shaped (ap (λ (o : Outcome). o.answer) (sym (s.1 ∙ f.1)) ∙ h) in
      let n : triangle_count m ≡ 0 → ⊥ = eqb-false (triangle_count m) 0 s.0 in
      record { some = omega (arith, n); fit = f.0; outcome = s.1 ∙ f.1 ∙ g.1 }

  build_passed : (work count : ℕ) → (build_of m a work).answer ≡ nodes count → Passed m a work
  unfolding build_of
  build_passed work count h =
      let room = cond (room_for (triangle_count m) a work) (built_of m a) (refused_with no_room a) in
      let l = taken room bad_shape a count (lengths_admitted (length m.vertices) (length m.triangles)) h in
      let r = taken (built_of m a) no_room a count (room_for (triangle_count m) a work) (ap (λ (o : Outcome). o.answer) (sym l.1) ∙ h) in
      record { lengths = l.0; room = r.0 }

  build_accepted : (work count : ℕ) → (build_of m a work).answer ≡ nodes count → Accepted m a (build_of m a work)
  unfolding build_of
  build_accepted work count h =
      let room = cond (room_for (triangle_count m) a work) (built_of m a) (refused_with no_room a) in
      let l = taken room bad_shape a count (lengths_admitted (length m.vertices) (length m.triangles)) h in
      let r = taken (built_of m a) no_room a count (room_for (triangle_count m) a work) (ap (λ (o : Outcome). o.answer) (sym l.1) ∙ h) in
      let c = built_accepted count (ap (λ (o : Outcome). o.answer) (sym (l.1 ∙ r.1)) ∙ h) in
      record { some = c.some; fit = c.fit; outcome = l.1 ∙ r.1 ∙ c.outcome }

-- ---- what it has written
module _ (m : Mesh) (a : Areas) (some : 0 < triangle_count m) (fit : triangles_fit m ≡ true) where
  abbrev n : ℕ
  n = triangle_count m

  abbrev tree : Tree
  tree = tree_in (nodes_of (shape_of n)) (tree_written m a)

  triangle_fits_lem : (x : ℕ) → x < n → triangle_fits m x ≡ true
  unfolding triangles_fit
  triangle_fits_lem x h = every_at (triangle_fits m) (range 0 n) fit x
      (member_of_count x (range 0 n) (omega (arith, count_range_inside x 0 n (omega arith) (omega arith))))

  pub tree_built : Built m tree
  unfolding tree_written boxes_written triangle_fits
  tree_built = record {
    some = some;
    node_count_lem = refl;
    written = record {
      words = run_front 0 (words_of 0 0 (shape_of n)) (drop (length (words_of 0 0 (shape_of n))) a.node_words);
      boxes = run_front nan (boxes_below boxes (shape_of n) (range 0 n))
          (drop (length (boxes_below boxes (shape_of n) (range 0 n))) a.node_boxes);
      placed = run_front 0 ordered (drop (length ordered) a.order);
      long = length_range 0 n ∙ sym (size_of_shape_of n);
    };
    order_count =
        λ (x : ℕ).
        ap (count x) (take_at ordered (drop (length ordered) a.order) n (length_order boxes (shape_of n) (range 0 n) ∙ length_range 0 n))
        ∙ count_order boxes (shape_of n) (range 0 n) x;
    corners = λ (x : ℕ) (h : x < n). and_first (corners_inside (thirds (length m.vertices)) m.triangles x)
        (valid_box (triangle_box m.vertices m.triangles x)) (triangle_fits_lem x h);
    boxes =
        λ (x : ℕ) (h : x < n).
        run_boxes boxes (triangle_box m.vertices m.triangles) 0 n
        (run_front nan (each_box (triangle_box m.vertices m.triangles) (range 0 n))
        (drop (length (each_box (triangle_box m.vertices m.triangles) (range 0 n))) a.triangle_boxes))
        x (omega arith) (omega arith);
    boxes_valid_lem = λ (x : ℕ) (h : x < n). and_second (corners_inside (thirds (length m.vertices)) m.triangles x)
        (valid_box (triangle_box m.vertices m.triangles x)) (triangle_fits_lem x h);
  }
    where
      boxes : List Float
      boxes = boxes_written m a.triangle_boxes

      ordered : List ℕ
      ordered = order_below boxes (shape_of n) (range 0 n)

-- ---- the sentence
pub same_count : (p q : ℕ) → nodes p ≡ nodes q → p ≡ q
same_count p q h = cc

-- ---- the areas stay long enough for the check
over_long : {A : Type 0} (new old : List A) (k : ℕ) → leb k (length old) ≡ true → leb k (length (new ++ drop (length new) old)) ≡ true
over_long new old k h =
    let l : k ≤ length old = leb-true k (length old) h in
    le-leb k (length (new ++ drop (length new) old)) (simp (length-append, length-drop) (omega arith))

room_to_check : (m : Mesh) (a : Areas) (work marks : ℕ) → room_for (triangle_count m) a work ≡ true → 3 * triangle_count m ≤ marks
    → roomToCheck (triangle_count m) (length (tree_written m a).node_boxes) (length (tree_written m a).triangle_boxes)
    (length (tree_written m a).node_words) (length (tree_written m a).order) marks ≡ true
unfolding room_for roomToCheck tree_written boxes_written
room_to_check m a work marks h long =
    let n = triangle_count m in
    let boxes = leb (12 * n) (length a.node_boxes) in
    let around = leb (6 * n) (length a.triangle_boxes) in
    let words = leb (6 * n) (length a.node_words) in
    let ordered = leb n (length a.order) in
    let worked = leb n work in
    let h1 = and_second boxes (around && (words && (ordered && worked))) h in
    let h2 = and_second around (words && (ordered && worked)) h1 in
    let h3 = and_second words (ordered && worked) h2 in
    simp (
      over_long (boxes_below (boxes_written m a.triangle_boxes) (shape_of n) (range 0 n)) a.node_boxes (12 * n)
          (and_first boxes (around && (words && (ordered && worked))) h),
      over_long
          (each_box (triangle_box m.vertices m.triangles) (range 0 n)) a.triangle_boxes (6 * n)
          (and_first around (words && (ordered && worked)) h1),
      over_long (words_of 0 0 (shape_of n)) a.node_words (6 * n)
          (and_first words (ordered && worked) h2),
      over_long (order_below (boxes_written m a.triangle_boxes) (shape_of n) (range 0 n))
          a.order n (and_first ordered worked h3),
      le-leb (3 * n) marks long,
    )

built_tree_passes : (m : Mesh) (areas : Areas) (work count : ℕ) → (build_of m areas work).answer ≡ nodes count → tree_passes m
    (tree_in count (build_of m areas work).after) ≡ true
unfolding tree_passes
built_tree_passes m areas work count h =
    let c = build_accepted m areas work count h in
    let e : count ≡ nodes_of (shape_of (triangle_count m)) =
    same_count count (nodes_of (shape_of (triangle_count m))) (sym h ∙ ap (λ (o : Outcome). o.answer) c.outcome)
    in
    let passes : clauses_hold m (tree_in count (build_of m areas work).after) ≡ true =
    ap (λ (k : ℕ). clauses_hold m (tree_in k (build_of m areas work).after)) e
    ∙ ap (λ (o : Outcome). clauses_hold m (tree_in (nodes_of (shape_of (triangle_count m))) o.after)) c.outcome
    ∙ built_passes m (tree m areas c.some c.fit) (tree_built m areas c.some c.fit)
    in
    or_second (eqb count 0 && eqb (triangle_count m) 0) (clauses_hold m (tree_in count (build_of m areas work).after)) passes

pub built_trees_pass : BuiltTreesPass
built_trees_pass m areas work count marks h long =
    let p = build_passed m areas work count h in
    let c = build_accepted m areas work count h in
    passes_yes m (tree_in count (build_of m areas work).after) marks p.lengths
    (ap (λ (o : Outcome). roomToCheck (triangle_count m) (length o.after.node_boxes) (length o.after.triangle_boxes)
    (length o.after.node_words) (length o.after.order) marks) c.outcome
    ∙ room_to_check m areas work marks p.room long)
    (built_tree_passes m areas work count h)
