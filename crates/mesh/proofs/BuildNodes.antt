-- Where the words, boxes and order below a shape stand in a tree's areas, so do those of its halves; and each node below it is a filled
-- leaf or a branch with two later children, whose valid box encloses what stands below it. Assumes nothing.
use Prim.Native.Nat.{ℕ, ◌+◌, ◌-◌, ◌*◌, ◌≤◌, ◌<◌}
use mathlib.Core.Path.{◌≡◌, refl, ap, ◌∙◌, subst}
use mathlib.Core.Logic.{◌⊎◌, inl, inr}
use mathlib.Core.Bool.{Bool, true, false}
use mathlib.Core.List.{List, [], ◌∷◌, ◌++◌}
use native.Mathlib.Omega.{arith}
use lib.Dec.{ltb}
use lib.Ieee.{nan}
use lib.ListN.{length, get_or}
use borrow.Author.Tests.{ltb-true, ltb-false}
use Rattle.geometry.specs.Box.{valid_box, encloses}
use Rattle.lists.specs.Lists.{count}
use Rattle.tree.specs.Layout.{Tree, word_at, box_at, box_numbers}
use Rattle.lists.proofs.CountLaws.{same_or_other}
use Rattle.tree_build.specs.Shape.{Shape, leaf, branch, size_of, nodes_of, words_of}
use Rattle.tree_ranges.specs.Extents.{hull_of}
use Rattle.tree_build.specs.Ranges.{left_range, right_range, order_below, boxes_below}
use Rattle.tree_build.proofs.Shapes.{three_words_a_node, six_numbers_a_node, some_node}
use Rattle.tree_build.proofs.Readback.{six_long}
use Rattle.mesh.proofs.BuildBoxes.{AllValid, hull_valid, hull_encloses_each, hull_within}
use Rattle.mesh.proofs.BuildOrder.{listed_at, count_halves, length_left, length_right, length_order, Filled, filled_size}
use Rattle.mesh.proofs.BuildRuns.{Run, run_first, run_second, run_box, Words, run_words}

module _ (t : Tree) where
  -- the areas hold what the build writes below a shape, from a node and a place of the order on
  pub record Written (node start : ℕ) (s : Shape) (ts : List ℕ) : Type 0 where
    pub words : Run 0 t.node_words (3 * node) (words_of node start s)
    pub boxes : Run nan t.node_boxes (6 * node) (boxes_below t.triangle_boxes s ts)
    pub placed : Run 0 t.order start (order_below t.triangle_boxes s ts)
    pub long : length ts ≡ size_of s

  -- ---- at a branch
  module _ (node start : ℕ) (l r : Shape) (ts : List ℕ) (w : Written node start (branch l r) ts) where
    abbrev pub lefts : List ℕ
    lefts = left_range t.triangle_boxes l ts

    abbrev pub rights : List ℕ
    rights = right_range t.triangle_boxes l ts

    sizes : length ts ≡ size_of l + size_of r
    unfolding size_of
    sizes = w.long

    long_left : length lefts ≡ size_of l
    long_left = length_left t.triangle_boxes l ts (omega (arith, sizes))

    long_right : length rights ≡ size_of r
    long_right = omega (arith, sizes, length_right t.triangle_boxes l ts)

    pub branch_words : Words t.node_words node 1 (node + 1) (node + 1 + nodes_of l)
    unfolding words_of
    branch_words =
        run_words t.node_words node 1 (node + 1) (node + 1 + nodes_of l)
        (run_first 0 t.node_words (3 * node) (1 ∷ ((node + 1) ∷ ((node + 1 + nodes_of l) ∷ [])))
        (words_of (node + 1) start l ++ words_of (node + 1 + nodes_of l) (start + size_of l) r) w.words)

    words_below : Run 0 t.node_words (3 * (node + 1)) (words_of (node + 1) start l
        ++ words_of (node + 1 + nodes_of l) (start + size_of l) r)
    unfolding words_of
    words_below =
        run_second 0 t.node_words (3 * node) (1 ∷ ((node + 1) ∷ ((node + 1 + nodes_of l) ∷ [])))
        (words_of (node + 1) start l ++ words_of (node + 1 + nodes_of l) (start + size_of l) r) w.words (3 * (node + 1)) (omega arith)

    boxes_below_lem : Run nan t.node_boxes (6 * (node + 1)) (boxes_below t.triangle_boxes l lefts ++ boxes_below t.triangle_boxes r rights)
    unfolding boxes_below
    boxes_below_lem =
        run_second nan t.node_boxes (6 * node) (box_numbers (hull_of t.triangle_boxes ts))
        (boxes_below t.triangle_boxes l lefts ++ boxes_below t.triangle_boxes r rights) w.boxes (6 * (node + 1))
        (omega (arith, six_long (hull_of t.triangle_boxes ts)))

    places_below : Run 0 t.order start (order_below t.triangle_boxes l lefts ++ order_below t.triangle_boxes r rights)
    unfolding order_below
    places_below = w.placed

    pub written_left : Written (node + 1) start l lefts
    written_left = record {
      words = run_first 0 t.node_words (3 * (node + 1)) (words_of (node + 1) start l)
          (words_of (node + 1 + nodes_of l) (start + size_of l) r)
          words_below;
      boxes = run_first nan t.node_boxes (6 * (node + 1)) (boxes_below t.triangle_boxes l lefts) (boxes_below t.triangle_boxes r rights)
          boxes_below_lem;
      placed = run_first 0 t.order start (order_below t.triangle_boxes l lefts) (order_below t.triangle_boxes r rights) places_below;
      long = long_left;
    }

    pub written_right : Written (node + 1 + nodes_of l) (start + size_of l) r rights
    written_right = record {
      words =
          run_second 0 t.node_words (3 * (node + 1)) (words_of (node + 1) start l) (words_of (node + 1 + nodes_of l) (start + size_of l) r)
          words_below
          (3 * (node + 1 + nodes_of l)) (omega (arith, three_words_a_node (node + 1) start l));
      boxes =
          run_second nan t.node_boxes (6 * (node + 1)) (boxes_below t.triangle_boxes l lefts) (boxes_below t.triangle_boxes r rights)
          boxes_below_lem
          (6 * (node + 1 + nodes_of l)) (omega (arith, six_numbers_a_node t.triangle_boxes l lefts));
      placed =
          run_second 0 t.order start (order_below t.triangle_boxes l lefts) (order_below t.triangle_boxes r rights) places_below
          (start + size_of l) (omega (arith, length_order t.triangle_boxes l lefts, long_left));
      long = long_right;
    }

  pub leaf_words : (node start n : ℕ) (ts : List ℕ) → Written node start (leaf n) ts → Words t.node_words node 0 start n
  unfolding words_of
  leaf_words node start n ts w = run_words t.node_words node 0 start n w.words

  -- the first box below a shape is that of its range
  first_box : (node start : ℕ) (s : Shape) (ts : List ℕ) → Written node start s ts → box_at t.node_boxes node ≡ hull_of t.triangle_boxes
      ts
  unfolding boxes_below
  first_box node start (leaf n) ts w = run_box t.node_boxes node (hull_of t.triangle_boxes ts) w.boxes
  first_box node start (branch l r) ts w =
      run_box t.node_boxes node (hull_of t.triangle_boxes ts)
      (run_first nan t.node_boxes (6 * node) (box_numbers (hull_of t.triangle_boxes ts))
      (boxes_below t.triangle_boxes l (left_range t.triangle_boxes l ts) ++ boxes_below t.triangle_boxes r
      (right_range t.triangle_boxes l ts)) w.boxes)

  -- ---- a node of a tree over n triangles
  pub record LeafAt (n i first size : ℕ) : Type 0 where
    pub words : Words t.node_words i 0 first size
    pub filled : 0 < size
    pub inside : first + size ≤ n
    pub holds : (p : ℕ) → first ≤ p → p < first + size → encloses (box_at t.node_boxes i) (box_at t.triangle_boxes (word_at t.order p))
        ≡ true

  pub record BranchAt (i left right : ℕ) : Type 0 where
    pub words : Words t.node_words i 1 left right
    pub later : i < left
    pub ordered : left < right
    pub below : right < t.node_count
    pub holds_left : encloses (box_at t.node_boxes i) (box_at t.node_boxes left) ≡ true
    pub holds_right : encloses (box_at t.node_boxes i) (box_at t.node_boxes right) ≡ true

  pub data Kind (n i : ℕ) : Type 0 where
    is_leaf_lem : (first size : ℕ) → LeafAt n i first size → Kind n i
    is_branch_lem : (left right : ℕ) → BranchAt i left right → Kind n i

  pub record NodeAt (n i : ℕ) : Type 0 where
    pub valid : valid_box (box_at t.node_boxes i) ≡ true
    pub kinds : Kind n i

  -- the box of a range encloses that of a part of it
  part_enclosed : (node part : ℕ) (ts us : List ℕ) → box_at t.node_boxes node ≡ hull_of t.triangle_boxes ts → box_at t.node_boxes part ≡
      hull_of t.triangle_boxes us
      → 0 < length us → AllValid (box_at t.triangle_boxes) ts → ((x : ℕ) → count x us ≤ count x ts)
      → encloses (box_at t.node_boxes node) (box_at t.node_boxes part) ≡ true
  part_enclosed node part ts us e f some valid within =
      rw (e, f) (hull_within t.triangle_boxes (hull_of t.triangle_boxes ts) us some
      (λ (x : ℕ) (k : 0 < count x us). hull_encloses_each t.triangle_boxes ts valid x (omega (arith, within x))))

  module _ (n : ℕ) where
    -- the node where a shape starts
    first_node : (node start : ℕ) (s : Shape) (ts : List ℕ) → Written node start s ts → Filled s → AllValid (box_at t.triangle_boxes) ts
        → node + nodes_of s ≤ t.node_count → start + size_of s ≤ n → NodeAt n node
    first_node node start s ts w f valid few fits = record {
      valid = rw (first_box node start s ts w) (hull_valid t.triangle_boxes ts (omega (arith, w.long, filled_size s f)) valid);
      kinds = at s w f few fits;
    }
      where
        at : (s : Shape) → Written node start s ts → Filled s → node + nodes_of s ≤ t.node_count → start + size_of s ≤ n → Kind n node
        at (leaf k) w f few fits =
            let size : size_of (leaf k) ≡ k = unfold size_of in refl in
            let same : order_below t.triangle_boxes (leaf k) ts ≡ ts = unfold order_below in refl in
            let read = subst (λ (r : List ℕ). Run 0 t.order start r) same w.placed in
            is_leaf_lem start k record {
              words = leaf_words node start k ts w;
              filled = f;
              inside = omega arith;
              holds =
                  λ (p : ℕ) (a : start ≤ p) (b : p < start + k).
                  let inside : p - start < length ts = omega (arith, w.long) in
                  let place : p ≡ start + (p - start) = omega arith in
                  rw (first_box node start (leaf k) ts w, ap (word_at t.order) place ∙ read.reads (p - start) inside)
                  (hull_encloses_each t.triangle_boxes ts valid (get_or ts (p - start) 0) (listed_at ts (p - start) inside));
            }
        at (branch l r) w f few fits =
            let count : nodes_of (branch l r) ≡ 1 + (nodes_of l + nodes_of r) = unfold nodes_of in refl in
            let wl = written_left node start l r ts w in
            let wr = written_right node start l r ts w in
            is_branch_lem (node + 1) (node + 1 + nodes_of l) record {
              words = branch_words node start l r ts w;
              later = omega arith;
              ordered = omega (arith, some_node l);
              below = omega (arith, some_node r);
              holds_left =
                  part_enclosed node (node + 1) ts (lefts node start l r ts w) (first_box node start (branch l r) ts w)
                  (first_box (node + 1) start l (lefts node start l r ts w) wl)
                  (omega (arith, wl.long, filled_size l f.0)) valid (λ (x : ℕ). omega (arith, count_halves t.triangle_boxes l ts x));
              holds_right =
                  part_enclosed node (node + 1 + nodes_of l) ts (rights node start l r ts w) (first_box node start (branch l r) ts w)
                  (first_box (node + 1 + nodes_of l) (start + size_of l) r (rights node start l r ts w) wr)
                  (omega (arith, wr.long, filled_size r f.1)) valid (λ (x : ℕ). omega (arith, count_halves t.triangle_boxes l ts x));
            }

    pub nodes_below : (node start : ℕ) (s : Shape) (ts : List ℕ) → Written node start s ts → Filled s → AllValid (box_at t.triangle_boxes)
        ts
        → node + nodes_of s ≤ t.node_count → start + size_of s ≤ n → (i : ℕ) → node ≤ i → i < node + nodes_of s → NodeAt n i
    unfolding nodes_of size_of
    nodes_below node start (leaf k) ts w f valid few fits i a b =
        let e : node ≡ i = omega arith in
        subst (λ (j : ℕ). NodeAt n j) e (first_node node start (leaf k) ts w f valid few fits)
    nodes_below node start (branch l r) ts w f valid few fits i a b =
        go (first_node node start (branch l r) ts w f valid few fits)
        (nodes_below (node + 1) start l (lefts node start l r ts w) (written_left node start l r ts w) f.0
        (λ (x : ℕ) (k : 0 < count x (lefts node start l r ts w)). valid x (omega (arith, count_halves t.triangle_boxes l ts x)))
        (omega arith) (omega arith) i)
        (nodes_below (node + 1 + nodes_of l) (start + size_of l) r (rights node start l r ts w) (written_right node start l r ts w) f.1
        (λ (x : ℕ) (k : 0 < count x (rights node start l r ts w)). valid x (omega (arith, count_halves t.triangle_boxes l ts x)))
        (omega arith) (omega arith) i)
        (same_or_other node i) (ltb i (node + 1 + nodes_of l)) refl
      where
        go : NodeAt n node → (node + 1 ≤ i → i < node + 1 + nodes_of l → NodeAt n i) →
            (node + 1 + nodes_of l ≤ i → i < node + 1 + nodes_of l + nodes_of r → NodeAt n i)
            → (node ≡ i) ⊎ (node ≡ i → ⊥) → (b : Bool) → ltb i (node + 1 + nodes_of l) ≡ b → NodeAt n i
        go here left right (inl e) b c = subst (λ (j : ℕ). NodeAt n j) e here
        go here left right (inr d) true c = left (omega (arith, d)) (ltb-true i (node + 1 + nodes_of l) c)
        go here left right (inr d) false c = right (ltb-false i (node + 1 + nodes_of l) c) (omega arith)
