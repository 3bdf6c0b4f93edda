-- What the tests of the merge let pass is what the copying asks. Assumes nothing.
use Prim.Native.Nat.{ℕ, ◌+◌, ◌*◌, ◌≤◌}
use mathlib.Core.Path.{◌≡◌, refl, sym, ap, ◌∙◌}
use mathlib.Core.Bool.{Bool, true, false, ◌&&◌, cond, true≢false}
use native.Mathlib.Omega.{arith}
use lib.Dec.{leb}
use lib.Ieee.{Float}
use lib.ListN.{length, take}
use mathlib.Core.List.{List, [], ◌∷◌, ◌++◌}
use Rattle.geometry.specs.Box.{union_of}
use Rattle.tree.specs.Layout.{box_at, box_numbers}
use Rattle.tree_copy.specs.Moved.{moved_up, moved_nodes}
use borrow.Author.Tests.{leb-true}
use Rattle.lists.proofs.JoinedTests.{and_first, and_second}
use Rattle.casts.specs.Answer.{bad_shape, no_room, out_of_bounds}
use Rattle.lists.specs.Lists.{over}
use Rattle.tree_query.specs.Query.{tree_fits}
use Rattle.merge.specs.Merge.{nodes, refused, Board, Areas, Outcome, triangles_in, vertices_in, one_empty, roots, root_box, root_words}
use Rattle.merge.specs.Merge.{areas_of, merged_vertices, merged_triangles, merged_node_boxes, merged_triangle_boxes, merged_words}
use Rattle.merge.specs.Merge.{merged_order, merged_count, merged_over, total, room_in, results_fit, shapes_admitted, areas_fit, trees_pass}
use Rattle.merge.specs.Merge.{tests_pass, merge_of}
use Rattle.merge.specs.Ready.{Long, Ready, Checkable}
use Rattle.merge.proofs.FewNodes.{fewer_nodes}
use Rattle.merge.proofs.MergedNodes.{Root, rooted, bare, root_or_none, some_nodes}
use Rattle.merge.proofs.PassedTests.{Divided, divided, fits, fits_test, lengths_test}
use Rattle.merge.proofs.MergedTree.{Sound}
use Rattle.merge.proofs.MergePasses.{Merged, shape, first_sound, second_sound, first_fits, second_fits, others_fit}
use Rattle.merge.proofs.SmallTrees.{nodes_small, words_small, corners_small}

record RoomIn (v t n : ℕ) (old : Areas) (marks : ℕ) : Type 0 where
  vertices : v ≤ length old.vertices
  triangles : t ≤ length old.triangles
  boxes : 12 * n ≤ length old.node_boxes
  around : 6 * n ≤ length old.triangle_boxes
  words : 6 * n ≤ length old.node_words
  order : n ≤ length old.order
  marks_long : 3 * n ≤ marks

room_in_lem : (v t n : ℕ) (old : Areas) (marks : ℕ) → room_in v t n old marks ≡ true → RoomIn v t n old marks
unfolding room_in
room_in_lem v t n old marks h =
    let x = leb v (length old.vertices) in
    let y = leb t (length old.triangles) in
    let p = leb (12 * n) (length old.node_boxes) in
    let q = leb (6 * n) (length old.triangle_boxes) in
    let r = leb (6 * n) (length old.node_words) in
    let s = leb n (length old.order) in
    let w = leb (3 * n) marks in
    let h₀ = and_second x (y && (p && (q && (r && (s && w))))) h in
    let h₁ = and_second y (p && (q && (r && (s && w)))) h₀ in
    let h₂ = and_second p (q && (r && (s && w))) h₁ in
    let h₃ = and_second q (r && (s && w)) h₂ in
    let h₄ = and_second r (s && w) h₃ in
    record {
      vertices = leb-true v (length old.vertices) (and_first x (y && (p && (q && (r && (s && w))))) h);
      triangles = leb-true t (length old.triangles) (and_first y (p && (q && (r && (s && w)))) h₀);
      boxes = leb-true (12 * n) (length old.node_boxes) (and_first p (q && (r && (s && w))) h₁);
      around = leb-true (6 * n) (length old.triangle_boxes) (and_first q (r && (s && w)) h₂);
      words = leb-true (6 * n) (length old.node_words) (and_first r (s && w) h₃);
      order = leb-true n (length old.order) (and_first s w h₄);
      marks_long = leb-true (3 * n) marks (and_second s w h₄);
    }

-- ---- the outcomes
module _ (a b : Board) (old : Areas) (marks : ℕ) where
  abbrev refused_with : ℕ → Outcome
  refused_with number = record { answer = refused number; after = old }

  pub shape_refused : shapes_admitted a b ≡ false → refused_with bad_shape ≡ merge_of a b old marks
  unfolding merge_of
  shape_refused e = rw e

  pub room_refused : shapes_admitted a b ≡ true → areas_fit a b old marks ≡ false → refused_with no_room ≡ merge_of a b old marks
  unfolding merge_of
  room_refused e f = rw (e, f)

  module _ (e : shapes_admitted a b ≡ true) (f : areas_fit a b old marks ≡ true) where
    pub tree_refused : trees_pass a b ≡ false → refused_with out_of_bounds ≡ merge_of a b old marks
    unfolding merge_of
    tree_refused g = rw (e, f, g)

    module _ (g : trees_pass a b ≡ true) where
      pub merged_done : record { answer = nodes (merged_count a b); after = merged_over a b old } ≡ merge_of a b old marks
      unfolding merge_of
      merged_done = rw (e, f, g)

      passed : Merged a b old marks (merged_count a b)
      passed = record { shapes = e; fit = f; pass = g; counted = refl; after = ap (λ (o : Outcome). o.after) (sym merged_done) }

      -- ---- what the copying asks
      long : (c : Board) → Sound c → tree_fits (triangles_in c) c.tree ≡ true → length c.mesh.triangles ≤ 196608 → Long c
      long c s h few =
          let k = fits (triangles_in c) c.tree h in
          record {
            few_triangles = omega arith;
            few_nodes = omega (arith, s.checked.few);
            boxes = omega (arith, s.checked.few, k.node_boxes_lem);
            around = k.triangle_boxes_lem;
            words = omega (arith, s.checked.few, k.node_words_lem);
            order = k.order;
          }

      s : Sound a
      s = first_sound a b old marks (merged_count a b) passed

      u : Sound b
      u = second_sound a b old marks (merged_count a b) passed

      d : Divided a b
      d = shape a b old marks (merged_count a b) passed

      room : RoomIn (length a.mesh.vertices + length b.mesh.vertices) (length a.mesh.triangles + length b.mesh.triangles)
          (total a b) old marks
      unfolding results_fit
      room =
          room_in_lem (length a.mesh.vertices + length b.mesh.vertices) (length a.mesh.triangles + length b.mesh.triangles)
          (total a b) old marks
          (and_second (tree_fits (triangles_in b) b.tree) (results_fit a b old marks) (others_fit a b old marks (merged_count a b) passed))

      first_long : Long a
      first_long = long a s (first_fits a b old marks (merged_count a b) passed) (omega (arith, d.few_triangles))

      second_long : Long b
      second_long = long b u (second_fits a b old marks (merged_count a b) passed) (omega (arith, d.few_triangles))

      root_small : cond (one_empty a b) 0 1 ≤ 1
      root_small = go (one_empty a b)
        where
          go : (z : Bool) → cond z 0 1 ≤ 1
          go true = omega arith
          go false = omega arith

      some_when : one_empty a b ≡ false → (1 ≤ a.tree.node_count) × (1 ≤ b.tree.node_count)
      unfolding roots
      some_when h = go (root_or_none a b)
        where
          go : Root a b → (1 ≤ a.tree.node_count) × (1 ≤ b.tree.node_count)
          go (rooted x y z w) = (some_nodes a.mesh a.tree s.checked z, some_nodes b.mesh b.tree u.checked w)
          go (bare x y) = absurd (omega (arith, x, ap {B = ℕ} (λ (z : Bool). cond z 0 1) h))

      few_together : cond (one_empty a b) 0 1 + (a.tree.node_count + b.tree.node_count) ≤ 2 * total a b
      few_together = go (one_empty a b) refl
        where
          go : (z : Bool) → one_empty a b ≡ z → cond (one_empty a b) 0 1 + (a.tree.node_count + b.tree.node_count) ≤ 2 * total a b
          go true h = omega (arith, ap {B = ℕ} (λ (z : Bool). cond z 0 1) h, s.checked.few, u.checked.few)
          go false h =
              let k = some_when h in
              omega (arith, ap {B = ℕ} (λ (z : Bool). cond z 0 1) h, fewer_nodes a.mesh a.tree s.checked k.0, u.checked.few)

      pub ready : Ready a b old
      ready = record {
        first = first_long;
        second = second_long;
        vertices = room.vertices;
        triangles = room.triangles;
        boxes = omega (arith, few_together, room.boxes);
        around = omega (arith, room.around);
        words = omega (arith, few_together, room.words);
        order = room.order;
        some = some_when;
        corners_small = corners_small b (vertices_in a) u (omega (arith, d.few_vertices));
        first_small =
            nodes_small a.mesh a.tree s.checked (cond (one_empty a b) 0 1) 0 (omega (arith, first_long.few_nodes, root_small))
            (omega (arith, first_long.few_triangles));
        second_small =
            nodes_small b.mesh b.tree u.checked (cond (one_empty a b) 0 1 + a.tree.node_count) (triangles_in a)
            (omega (arith, first_long.few_nodes, second_long.few_nodes, root_small))
            (omega (arith, first_long.few_triangles, second_long.few_triangles));
        order_small =
            words_small b.mesh b.tree u.checked (triangles_in a)
            (omega (arith, first_long.few_triangles, second_long.few_triangles));
      }

-- ---- what the copying leaves
pub counted : (a b : Board) (r : Bool) (k : ℕ) → r ≡ one_empty a b → k ≡ cond r 0 1 + (a.tree.node_count + b.tree.node_count)
    → k ≡ merged_count a b
unfolding merged_count roots
counted a b r k e f = f ∙ ap {B = ℕ} (λ (z : Bool). cond z 0 1 + (a.tree.node_count + b.tree.node_count)) e

module _ (a b : Board) (old : Areas) (r : Bool) (e : r ≡ one_empty a b) (vertices : List Float) (triangles : List ℕ)
    (boxes around : List Float) (words order : List ℕ) where
  pub areas_left : vertices ≡ over (a.mesh.vertices ++ b.mesh.vertices) old.vertices
      → triangles ≡ over (a.mesh.triangles ++ moved_up (vertices_in a) b.mesh.triangles) old.triangles
      → boxes ≡ over (cond r [] (box_numbers (union_of (box_at a.tree.node_boxes 0) (box_at b.tree.node_boxes 0))) ++
      (take (6 * a.tree.node_count) a.tree.node_boxes ++ take (6 * b.tree.node_count) b.tree.node_boxes)) old.node_boxes
      → around ≡ over (take (6 * triangles_in a) a.tree.triangle_boxes ++ take (6 * triangles_in b) b.tree.triangle_boxes)
      old.triangle_boxes
      → words ≡ over (cond r [] (1 ∷ (1 ∷ ((1 + a.tree.node_count) ∷ []))) ++
      (moved_nodes (cond r 0 1) 0 a.tree.node_words a.tree.node_count ++ moved_nodes (cond r 0 1 + a.tree.node_count) (triangles_in a)
      b.tree.node_words b.tree.node_count)) old.node_words
      → order ≡ over (take (triangles_in a) a.tree.order ++ moved_up (triangles_in a) (take (triangles_in b) b.tree.order)) old.order
      → areas_of vertices triangles boxes around words order ≡ merged_over a b old
  unfolding merged_over merged_vertices merged_triangles merged_node_boxes merged_triangle_boxes merged_words merged_order root_box
      root_words roots
  areas_left f g h k l q = rw (f, g, h, k, l, q, e)

-- ---- both tests
module _ (a b : Board) (old : Areas) (marks : ℕ) where
  pub tests_told : shapes_admitted a b ≡ true → areas_fit a b old marks ≡ true → tests_pass a b old marks ≡ false → ⊥
  unfolding tests_pass
  tests_told e f g = true≢false (rw (e, f) at g)

  -- the check refuses neither board
  pub checkable : shapes_admitted a b ≡ true → areas_fit a b old marks ≡ true → Checkable a marks × Checkable b marks
  unfolding areas_fit results_fit
  checkable e f =
      let d = divided a b e in
      let fit₁ = tree_fits (triangles_in a) a.tree in
      let fit₂ = tree_fits (triangles_in b) b.tree in
      let k₁ = fits (triangles_in a) a.tree (and_first fit₁ (fit₂ && results_fit a b old marks) f) in
      let h = and_second fit₁ (fit₂ && results_fit a b old marks) f in
      let k₂ = fits (triangles_in b) b.tree (and_first fit₂ (results_fit a b old marks) h) in
      let r =
      room_in_lem (length a.mesh.vertices + length b.mesh.vertices) (length a.mesh.triangles + length b.mesh.triangles)
      (total a b) old marks (and_second fit₂ (results_fit a b old marks) h) in (
        record {
          lengths =
              lengths_test (length a.mesh.vertices) (length a.mesh.triangles) d.first.vertices d.first.triangles
              (omega (arith, d.few_vertices)) (omega (arith, d.few_triangles));
          room = fits_test (triangles_in a) a.tree marks k₁ (omega (arith, r.marks_long));
        },
        record {
          lengths =
              lengths_test (length b.mesh.vertices) (length b.mesh.triangles) d.second.vertices d.second.triangles
              (omega (arith, d.few_vertices)) (omega (arith, d.few_triangles));
          room = fits_test (triangles_in b) b.tree marks k₂ (omega (arith, r.marks_long));
        },
      )

pub outcome_is : (a b : Board) (old : Areas) (marks k : ℕ) (after : Areas) → shapes_admitted a b ≡ true → areas_fit a b old marks ≡ true
    → trees_pass a b ≡ true
    → k ≡ merged_count a b → after ≡ merged_over a b old → record { answer = nodes k; after = after } ≡ merge_of a b old marks
outcome_is a b old marks k after e f g h l =
    ap {B = Outcome} (λ (z : ℕ). record { answer = nodes z; after = after }) h
    ∙ ap {B = Outcome} (λ (z : Areas). record { answer = nodes (merged_count a b); after = z }) l ∙ merged_done a b old marks e f g
