-- Where the merge answers with a node count, it has written the merged tree of two boards that pass the check,
-- and that tree passes the check for the merged mesh. Assumes nothing.
use Prim.Native.Nat.{ℕ, ◌+◌, ◌*◌, ◌≤◌}
use mathlib.Core.Path.{◌≡◌, refl, sym, ap, ◌∙◌}
use mathlib.Core.Bool.{Bool, true, false, ◌&&◌, cond}
use mathlib.Core.List.{List, ◌++◌}
use native.Mathlib.Omega.{arith}
use lib.Dec.{leb}
use lib.ListN.{length, drop, length-append, length-drop}
use lib.Seq.{take_at}
use borrow.Author.Tests.{leb-true}
use Rattle.lists.proofs.JoinedTests.{and_first, and_second}
use Rattle.casts.specs.Answer.{bad_shape, no_room, out_of_bounds}
use Rattle.tree.specs.Mesh.{Mesh, lengths_admitted}
use Rattle.lists.specs.Lists.{over}
use Rattle.tree_query.specs.Query.{tree_fits}
use Rattle.tree_check.specs.Check.{tree_passes}
use Rattle.tree_check.specs.Verdict.{yes, room_for as roomToCheck, check_of}
use Rattle.tree_check.proofs.Answers.{passes_yes}
use Rattle.tree_copy.specs.Moved.{moved_up}
use Rattle.merge.specs.Merge.{nodes, refused, Board, Areas, Outcome, triangles_in, vertices_in, merged_vertices}
use Rattle.merge.specs.Merge.{merged_triangles, merged_node_boxes, merged_triangle_boxes, merged_words, merged_order, merged_count}
use Rattle.merge.specs.Merge.{merged_over, shapes_admitted, total, room_in, results_fit, areas_fit, trees_pass, merge_of}
use Rattle.merge.specs.Promises.{board_in, MergedTreesPass}
use Rattle.merge.proofs.PassedTests.{Whole, Divided, divided, Fits, fits, fits_test, lengths_test}
use Rattle.merge.proofs.GluedMesh.{glued_length}
use Rattle.merge.proofs.CheckedClauses.{checked_passes, passes_checked}
use Rattle.merge.proofs.MergedTree.{glued, Sound, all_triangles, merged_checked}

-- ---- where the merge does not refuse
abbrev refused_with : ℕ → Areas → Outcome
refused_with number old = record { answer = refused number; after = old }

no_refusal : (number count : ℕ) → refused number ≡ nodes count → ⊥
no_refusal number count h = let z : ◌≡◌ {A = ℕ} 0 1 = cc in omega arith

same_count : (p q : ℕ) → nodes p ≡ nodes q → p ≡ q
same_count p q h = cc

pub record Merged (a b : Board) (old : Areas) (work count : ℕ) : Type 0 where
  pub shapes : shapes_admitted a b ≡ true
  pub fit : areas_fit a b old work ≡ true
  pub pass : trees_pass a b ≡ true
  pub counted : count ≡ merged_count a b
  pub after : (merge_of a b old work).after ≡ merged_over a b old

module _ (a b : Board) (old : Areas) (work count : ℕ) where
  abbrev done : Outcome
  done = record { answer = nodes (merged_count a b); after = merged_over a b old }

  abbrev outcome : Bool → Bool → Bool → Outcome
  outcome p q r = cond p (cond q (cond r done (refused_with out_of_bounds old)) (refused_with no_room old)) (refused_with bad_shape old)

  pub merged_of : (merge_of a b old work).answer ≡ nodes count → Merged a b old work count
  unfolding merge_of
  merged_of = go (shapes_admitted a b) refl (areas_fit a b old work) refl (trees_pass a b) refl
    where
      go : (p : Bool) → shapes_admitted a b ≡ p → (q : Bool) → areas_fit a b old work ≡ q → (r : Bool) → trees_pass a b ≡ r
          → (outcome p q r).answer ≡ nodes count → Merged a b old work count
      go true e true f true g h = record {
        shapes = e;
        fit = f;
        pass = g;
        counted = sym (same_count (merged_count a b) count h);
        after =
            ap (λ (z : Bool). (outcome z (areas_fit a b old work) (trees_pass a b)).after) e
            ∙ ap (λ (z : Bool). (outcome true z (trees_pass a b)).after) f
            ∙ ap (λ (z : Bool). (outcome true true z).after) g;
      }
      go true e true f false g h = absurd (no_refusal out_of_bounds count h)
      go true e false f r g h = absurd (no_refusal no_room count h)
      go false e q f r g h = absurd (no_refusal bad_shape count h)

-- ---- a board that brings a tree that passes
pub sound : (a : Board) → Whole a → tree_fits (triangles_in a) a.tree ≡ true → tree_passes a.mesh a.tree ≡ true → Sound a
sound a w f p =
    let h = passes_checked a.mesh a.tree p in
    let g = fits (triangles_in a) a.tree f in
    record {
      sized = record {
        node_boxes_lem = omega (arith, h.few, g.node_boxes_lem);
        triangle_boxes_lem = g.triangle_boxes_lem;
        order = g.order;
      };
      whole = w;
      checked = h;
    }

pub board_passes : (a : Board) (marks : ℕ) → Whole a → length a.mesh.vertices ≤ 196608 → length a.mesh.triangles ≤ 196608
    → tree_fits (triangles_in a) a.tree ≡ true → tree_passes a.mesh a.tree ≡ true → 3 * triangles_in a ≤ marks
    → check_of a.mesh a.tree marks ≡ yes
board_passes a marks w v t f p long =
    passes_yes a.mesh a.tree marks
    (lengths_test (length a.mesh.vertices) (length a.mesh.triangles) w.vertices w.triangles v t)
    (fits_test (triangles_in a) a.tree marks (fits (triangles_in a) a.tree f) long) p

module _ (a b : Board) (old : Areas) (work count : ℕ) (g : Merged a b old work count) where
  pub first_fits : tree_fits (triangles_in a) a.tree ≡ true
  unfolding areas_fit
  first_fits = and_first (tree_fits (triangles_in a) a.tree) (tree_fits (triangles_in b) b.tree && results_fit a b old work) g.fit

  pub others_fit : (tree_fits (triangles_in b) b.tree && results_fit a b old work) ≡ true
  unfolding areas_fit
  others_fit = and_second (tree_fits (triangles_in a) a.tree) (tree_fits (triangles_in b) b.tree && results_fit a b old work) g.fit

  pub second_fits : tree_fits (triangles_in b) b.tree ≡ true
  second_fits = and_first (tree_fits (triangles_in b) b.tree) (results_fit a b old work) others_fit

  pub first_passes : tree_passes a.mesh a.tree ≡ true
  unfolding trees_pass
  first_passes = and_first (tree_passes a.mesh a.tree) (tree_passes b.mesh b.tree) g.pass

  pub second_passes : tree_passes b.mesh b.tree ≡ true
  unfolding trees_pass
  second_passes = and_second (tree_passes a.mesh a.tree) (tree_passes b.mesh b.tree) g.pass

  pub shape : Divided a b
  shape = divided a b g.shapes

  pub first_sound : Sound a
  first_sound = sound a shape.first first_fits first_passes

  pub second_sound : Sound b
  second_sound = sound b shape.second second_fits second_passes

  -- ---- the merged board
  abbrev pub result : Board
  result = board_in a b (merged_count a b) (merged_over a b old)

  pub mesh_is : result.mesh ≡ glued a b
  unfolding merged_over merged_vertices merged_triangles
  mesh_is =
      rw (
        take_at (a.mesh.vertices ++ b.mesh.vertices) (drop (length (a.mesh.vertices ++ b.mesh.vertices)) old.vertices)
            (length a.mesh.vertices + length b.mesh.vertices)
            (length-append a.mesh.vertices b.mesh.vertices),
        take_at (a.mesh.triangles ++ moved_up (vertices_in a) b.mesh.triangles)
            (drop (length (a.mesh.triangles ++ moved_up (vertices_in a) b.mesh.triangles)) old.triangles)
            (length a.mesh.triangles + length b.mesh.triangles)
            (glued_length a.mesh.vertices b.mesh.vertices a.mesh.triangles b.mesh.triangles shape.first.vertices
            shape.first.triangles),
      )

  -- what stays as long as it was is long enough
  over_long : {A : Type 0} (new before : List A) (k : ℕ) → leb k (length before) ≡ true → k ≤ length (over new before)
  over_long new before k h = let l : k ≤ length before = leb-true k (length before) h in simp (length-append, length-drop) (omega arith)

  pub results_fit_lem : Fits (total a b) result.tree
  unfolding results_fit room_in merged_over
  results_fit_lem =
      let v = leb (length a.mesh.vertices + length b.mesh.vertices) (length old.vertices) in
      let t = leb (length a.mesh.triangles + length b.mesh.triangles) (length old.triangles) in
      let p = leb (12 * total a b) (length old.node_boxes) in
      let q = leb (6 * total a b) (length old.triangle_boxes) in
      let r = leb (6 * total a b) (length old.node_words) in
      let s = leb (total a b) (length old.order) in
      let w = leb (3 * total a b) work in
      let h = and_second (tree_fits (triangles_in b) b.tree) (results_fit a b old work) others_fit in
      let h₁ = and_second t (p && (q && (r && (s && w)))) (and_second v (t && (p && (q && (r && (s && w))))) h) in
      let h₂ = and_second p (q && (r && (s && w))) h₁ in
      let h₃ = and_second q (r && (s && w)) h₂ in
      let h₄ = and_second r (s && w) h₃ in
      record {
        node_boxes_lem = over_long (merged_node_boxes a b) old.node_boxes (12 * total a b) (and_first p (q && (r && (s && w))) h₁);
        triangle_boxes_lem = over_long (merged_triangle_boxes a b) old.triangle_boxes (6 * total a b) (and_first q (r && (s && w)) h₂);
        node_words_lem = over_long (merged_words a b) old.node_words (6 * total a b) (and_first r (s && w) h₃);
        order = over_long (merged_order a b) old.order (total a b) (and_first s w h₄);
      }

  pub glued_lengths : lengths_admitted (length (glued a b).vertices) (length (glued a b).triangles) ≡ true
  glued_lengths =
      let v = length-append a.mesh.vertices b.mesh.vertices in
      let t =
      glued_length a.mesh.vertices b.mesh.vertices a.mesh.triangles b.mesh.triangles shape.first.vertices
      shape.first.triangles in
      lengths_test (length (glued a b).vertices) (length (glued a b).triangles)
      (omega (arith, v, shape.first.vertices, shape.second.vertices))
      (omega (arith, t, shape.first.triangles, shape.second.triangles))
      (omega (arith, v, shape.few_vertices)) (omega (arith, t, shape.few_triangles))

  result_passes : (marks : ℕ) → 3 * total a b ≤ marks → check_of (glued a b) result.tree marks ≡ yes
  result_passes marks long =
      let n = all_triangles a b old first_sound second_sound in
      passes_yes (glued a b) result.tree marks glued_lengths
      (ap (λ (k : ℕ). roomToCheck k (length result.tree.node_boxes) (length result.tree.triangle_boxes)
      (length result.tree.node_words) (length result.tree.order) marks) n
      ∙ fits_test (total a b) result.tree marks results_fit_lem long)
      (checked_passes (glued a b) result.tree (merged_checked a b old first_sound second_sound))

  -- the answer's count and the areas after it are the result's
  pub result_is : board_in a b count (merge_of a b old work).after ≡ result
  result_is = ap (λ (k : ℕ). board_in a b k (merge_of a b old work).after) g.counted ∙ ap (board_in a b (merged_count a b)) g.after

  pub merged_passes : (marks : ℕ) → 3 * total a b ≤ marks → check_of result.mesh result.tree marks ≡ yes
  merged_passes marks long = ap (λ (z : Mesh). check_of z result.tree marks) mesh_is ∙ result_passes marks long

pub merged_trees_pass : MergedTreesPass
merged_trees_pass a b old work count marks h long =
    let g = merged_of a b old work count h in
    ap (λ (c : Board). check_of c.mesh c.tree marks) (result_is a b old work count g) ∙ merged_passes a b old work count g marks long
