-- The words of a checked tree and of its mesh stay small when they are moved up. Assumes nothing.
use Prim.Native.Nat.{ℕ, ◌+◌, ◌*◌, ◌/◌, ◌%◌, ◌<◌}
use mathlib.Core.Path.{◌≡◌, refl, sym, ap, ◌∙◌}
use mathlib.Core.Bool.{Bool, true, ◌||◌}
use mathlib.Core.List.{[], ◌∷◌}
use native.Mathlib.Omega.{arith}
use lib.Dec.{eqb}
use lib.ListN.{length}
use borrow.Author.Tests.{ne_eqb}
use Rattle.lists.specs.Lists.{range, count}
use Rattle.tree.specs.Layout.{Tree, word_at, kind_at, first_at, second_at}
use Rattle.tree.specs.Mesh.{Mesh}
use Rattle.lists.proofs.CountLaws.{count_cons, one_same, gathers, range_bounds, count_range_inside}
use Rattle.tree_check.specs.Check.{triangle_count, is_branch}
use Rattle.mesh.proofs.CheckedTree.{Checked, branch_children}
use Rattle.mesh.proofs.TreeCounts.{placed_at, order_within}
use Rattle.tree_copy.specs.Sizes.{SmallWords, SmallNodes}
use Rattle.merge.specs.Merge.{Board, triangles_in, vertices_in}
use Rattle.merge.proofs.GluedMesh.{three_below}
use Rattle.merge.proofs.MergedTree.{Sound}

-- ---- words of a checked tree
module _ (m : Mesh) (t : Tree) (h : Checked m t) where
  order_small : (p : ℕ) → p < triangle_count m t → word_at t.order p < triangle_count m t
  order_small p b =
      let word = word_at t.order p in
      let there =
      gathers (placed_at t) (range 0 (triangle_count m t)) p word
      (omega (arith, count_range_inside p 0 (triangle_count m t) (omega arith) (omega arith)))
      (omega (arith, count_cons word word [], one_same word word refl)) in
      omega (arith, range_bounds word 0 (triangle_count m t) (omega (arith, there, (order_within m t h).at_most word)))

  children_small : (i : ℕ) → i < t.node_count → is_branch m t i ≡ true
      → (first_at t.node_words i < t.node_count) × (second_at t.node_words i < t.node_count)
  children_small i b e =
      let x = first_at t.node_words i in
      let y = second_at t.node_words i in
      let kids = branch_children m t i e in (
        (h.above i x b (omega (arith, ap (count x) kids, count_cons x x (y ∷ []), one_same x x refl))).1,
        (h.above i y b (omega (arith, ap (count y) kids, count_cons y x (y ∷ []), count_cons y y [], one_same y y refl))).1,
      )

  branch_of : (i : ℕ) → i < t.node_count → (kind_at t.node_words i ≡ 0 → ⊥) → is_branch m t i ≡ true
  branch_of i b n = ap (λ (z : Bool). z || is_branch m t i) (sym (ne_eqb (kind_at t.node_words i) 0 n)) ∙ h.known i b

  pub nodes_small : (nodes places : ℕ) → t.node_count + nodes < 4294967296 → triangle_count m t + places < 4294967296
      → SmallNodes t.node_words nodes places t.node_count
  nodes_small nodes places few less = record {
    each = λ i b. record {
      leaf = λ e. omega (arith, h.inside i b (ap (λ (z : ℕ). eqb z 0) e), less);
      left = λ n. omega (arith, (children_small i b (branch_of i b n)).0, few);
      right = λ n. omega (arith, (children_small i b (branch_of i b n)).1, few);
    };
  }

  pub words_small : (up : ℕ) → triangle_count m t + up < 4294967296 → SmallWords t.order (triangle_count m t) up
  words_small up less = record { small = λ i b. omega (arith, order_small i b, less) }

pub corners_small : (a : Board) (up : ℕ) → Sound a → vertices_in a + up < 4294967296
    → SmallWords a.mesh.triangles (length a.mesh.triangles) up
corners_small a up s less = record { small = λ i b. small i b }
  where
    small : (i : ℕ) → i < length a.mesh.triangles → word_at a.mesh.triangles i + up < 4294967296
    small i b =
        let x = i / 3 in
        let k = i % 3 in
        let place : 3 * x + k ≡ i = omega arith in
        let below : x < triangles_in a = omega (arith, s.whole.triangles) in
        let inside =
        three_below a.mesh.vertices a.mesh.vertices a.mesh.triangles a.mesh.triangles s.whole.vertices
        s.whole.triangles (vertices_in a) a.mesh.triangles x (s.checked.corners x below) k (omega arith) in
        omega (arith, inside, ap (word_at a.mesh.triangles) place, less)
