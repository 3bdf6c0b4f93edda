-- What the merge writes: the two trees stand in the result areas, moved up, and a root before them where both boards have triangles.
-- Assumes nothing.
use Prim.Native.Nat.{ℕ, ◌+◌, ◌*◌, ◌≤◌, ◌<◌}
use native.Mathlib.Nat.{zero-add}
use mathlib.Core.Path.{◌≡◌, refl, sym, ap, ◌∙◌, subst}
use mathlib.Core.Bool.{Bool, true, false, cond}
use mathlib.Core.List.{List, [], ◌∷◌, ◌++◌}
use native.Mathlib.Omega.{arith}
use lib.Dec.{eqb}
use lib.Ieee.{Float, nan}
use lib.ListN.{length, get_or, take, drop}
use lib.Seq.{length-take-le, get_or-take}
use Rattle.geometry.specs.Box.{union_of}
use Rattle.geometry.specs.declared.aabb.Aabb.{Aabb}
use Rattle.tree.specs.Layout.{Tree, word_at, vector_at, box_at, kind_at, first_at, second_at, box_numbers}
use Rattle.mesh.proofs.BuildRuns.{Run, run_front, run_first, run_second, run_box, Words, run_words}
use Rattle.tree_copy.specs.Moved.{moved_up, moved_node, moved_nodes}
use Rattle.merge.specs.Merge.{Board, Areas, triangles_in, one_empty, roots, root_box, root_words, merged_count, merged_node_boxes}
use Rattle.merge.specs.Merge.{merged_words, merged_triangle_boxes, merged_order, merged_over}
use Rattle.merge.specs.Promises.{board_in}
use Rattle.tree_copy.proofs.MovedLists.{length_moved, at_moved, moved_nowhere, length_threes, at_threes, three_words, length_nodes}
use Rattle.merge.proofs.Copies.{Copied}

-- ---- boxes that were copied
copied_number : (area src : List Float) (c n i : ℕ) → Run nan area (6 * c) (take (6 * n) src) → 6 * n ≤ length src → i < n
    → (j p q : ℕ) → j < 6 → p ≡ 6 * (i + c) + j → q ≡ 6 * i + j → get_or area p nan ≡ get_or src q nan
copied_number area src c n i r long b j p q f d e =
    let there : p ≡ 6 * c + (6 * i + j) = omega arith in
    ap (λ (z : ℕ). get_or area z nan) there ∙ r.reads (6 * i + j) (omega (arith, length-take-le (6 * n) src long))
    ∙ get_or-take (6 * n) src (6 * i + j) nan (omega arith) ∙ ap (λ (z : ℕ). get_or src z nan) (sym e)

copied_box : (area src : List Float) (c n : ℕ) → Run nan area (6 * c) (take (6 * n) src) → 6 * n ≤ length src → (i : ℕ) → i < n
    → box_at area (i + c) ≡ box_at src i
unfolding box_at vector_at
copied_box area src c n r long i b =
    let at = copied_number area src c n i r long b in
    rw (
      at 0 (6 * (i + c)) (6 * i) (omega arith) (omega arith) (omega arith),
      at 1 (6 * (i + c) + 1) (6 * i + 1) (omega arith) (omega arith) (omega arith),
      at 2 (6 * (i + c) + 2) (6 * i + 2) (omega arith) (omega arith) (omega arith),
      at 3 (6 * (i + c) + 3) (6 * i + 3) (omega arith) (omega arith) (omega arith),
      at 4 (6 * (i + c) + 3 + 1) (6 * i + 3 + 1) (omega arith) (omega arith) (omega arith),
      at 5 (6 * (i + c) + 3 + 2) (6 * i + 3 + 2) (omega arith) (omega arith) (omega arith),
    )

-- ---- words that were moved
moved_word : (area words : List ℕ) (nodes places c n : ℕ) → Run 0 area (3 * c) (moved_nodes nodes places words n) → (i : ℕ) → i < n
    → (j p : ℕ) → j < 3 → p ≡ 3 * (i + c) + j → get_or area p 0 ≡ get_or (moved_node nodes places words i) j 0
unfolding moved_nodes
moved_word area words nodes places c n r i b j p f d =
    let there : p ≡ 3 * c + (3 * i + j) = omega arith in
    ap (λ (z : ℕ). get_or area z 0) there
    ∙ r.reads (3 * i + j) (omega (arith, length_threes (moved_node nodes places words) 0 n (three_words nodes places words)))
    ∙ at_threes (moved_node nodes places words) 0 n (three_words nodes places words) i j b f
    ∙ ap (λ (z : ℕ). get_or (moved_node nodes places words z) j 0) (zero-add i)

module _ (area words : List ℕ) (nodes places c n : ℕ) (r : Run 0 area (3 * c) (moved_nodes nodes places words n)) (i : ℕ) (b : i < n) where
  moved_kind : kind_at area (i + c) ≡ kind_at words i
  unfolding moved_node
  moved_kind = moved_word area words nodes places c n r i b 0 (3 * (i + c)) (omega arith) (omega arith)

  moved_first : first_at area (i + c) ≡ first_at words i + cond (eqb (kind_at words i) 0) places nodes
  unfolding moved_node
  moved_first = moved_word area words nodes places c n r i b 1 (3 * (i + c) + 1) (omega arith) (omega arith)

  moved_second : second_at area (i + c) ≡ second_at words i + cond (eqb (kind_at words i) 0) 0 nodes
  unfolding moved_node
  moved_second = moved_word area words nodes places c n r i b 2 (3 * (i + c) + 2) (omega arith) (omega arith)

-- ---- an order that was moved
moved_order : (area order : List ℕ) (s n : ℕ) → Run 0 area s (moved_up s (take n order)) → n ≤ length order → (p : ℕ) → p < n
    → word_at area (p + s) ≡ word_at order p + s
moved_order area order s n r long p b =
    let there : p + s ≡ s + p = omega arith in
    let l = length-take-le n order long in
    ap (λ (z : ℕ). get_or area z 0) there ∙ r.reads p (omega (arith, length_moved s (take n order), l))
    ∙ at_moved s (take n order) p (omega (arith, l)) ∙ ap (λ (z : ℕ). z + s) (get_or-take n order p 0 b)

-- ---- the areas of a board are long enough
pub record Sized (a : Board) : Type 0 where
  pub node_boxes_lem : 6 * a.tree.node_count ≤ length a.tree.node_boxes
  pub triangle_boxes_lem : 6 * triangles_in a ≤ length a.tree.triangle_boxes
  pub order : triangles_in a ≤ length a.tree.order

module _ (a b : Board) (old : Areas) (p : Sized a) (q : Sized b) where
  abbrev written : Tree
  written = (board_in a b (merged_count a b) (merged_over a b old)).tree

  -- ---- the root's length
  pub root_numbers : length (root_box a b) ≡ 6 * roots a b
  unfolding root_box roots box_numbers
  root_numbers = go (one_empty a b)
    where
      box : List Float
      box = box_numbers (union_of (box_at a.tree.node_boxes 0) (box_at b.tree.node_boxes 0))

      go : (e : Bool) → length (cond e [] box) ≡ 6 * cond e 0 1
      go true = refl
      go false = refl

  pub root_words_lem : length (root_words a b) ≡ 3 * roots a b
  unfolding root_words roots
  root_words_lem = go (one_empty a b)
    where
      go : (e : Bool) → length (cond e [] (1 ∷ (1 ∷ ((1 + a.tree.node_count) ∷ [])))) ≡ 3 * cond e 0 1
      go true = refl
      go false = refl

  -- ---- the runs of the areas
  abbrev first_boxes : List Float
  first_boxes = take (6 * a.tree.node_count) a.tree.node_boxes

  abbrev second_boxes : List Float
  second_boxes = take (6 * b.tree.node_count) b.tree.node_boxes

  abbrev first_words : List ℕ
  first_words = moved_nodes (roots a b) 0 a.tree.node_words a.tree.node_count

  abbrev second_words : List ℕ
  second_words = moved_nodes (roots a b + a.tree.node_count) (triangles_in a) b.tree.node_words b.tree.node_count

  boxes_run : Run nan written.node_boxes 0 (root_box a b ++ (first_boxes ++ second_boxes))
  unfolding merged_over merged_node_boxes
  boxes_run =
      run_front nan (root_box a b ++ (first_boxes ++ second_boxes))
      (drop (length (root_box a b ++ (first_boxes ++ second_boxes))) old.node_boxes)

  words_run : Run 0 written.node_words 0 (root_words a b ++ (first_words ++ second_words))
  unfolding merged_over merged_words
  words_run =
      run_front 0 (root_words a b ++ (first_words ++ second_words))
      (drop (length (root_words a b ++ (first_words ++ second_words))) old.node_words)

  both_boxes : Run nan written.node_boxes (6 * roots a b) (first_boxes ++ second_boxes)
  both_boxes =
      run_second nan written.node_boxes 0 (root_box a b) (first_boxes ++ second_boxes) boxes_run (6 * roots a b)
      (omega (arith, root_numbers))

  both_words : Run 0 written.node_words (3 * roots a b) (first_words ++ second_words)
  both_words =
      run_second 0 written.node_words 0 (root_words a b) (first_words ++ second_words) words_run (3 * roots a b)
      (omega (arith, root_words_lem))

  first_boxes_lem : Run nan written.node_boxes (6 * roots a b) first_boxes
  first_boxes_lem = run_first nan written.node_boxes (6 * roots a b) first_boxes second_boxes both_boxes

  second_boxes_lem : Run nan written.node_boxes (6 * (roots a b + a.tree.node_count)) second_boxes
  second_boxes_lem =
      run_second nan written.node_boxes (6 * roots a b) first_boxes second_boxes both_boxes (6 * (roots a b + a.tree.node_count))
      (omega (arith, length-take-le (6 * a.tree.node_count) a.tree.node_boxes p.node_boxes_lem))

  first_words_lem : Run 0 written.node_words (3 * roots a b) first_words
  first_words_lem = run_first 0 written.node_words (3 * roots a b) first_words second_words both_words

  second_words_lem : Run 0 written.node_words (3 * (roots a b + a.tree.node_count)) second_words
  second_words_lem =
      run_second 0 written.node_words (3 * roots a b) first_words second_words both_words (3 * (roots a b + a.tree.node_count))
      (omega (arith, length_nodes (roots a b) 0 a.tree.node_words a.tree.node_count))

  abbrev first_around : List Float
  first_around = take (6 * triangles_in a) a.tree.triangle_boxes

  abbrev second_around : List Float
  second_around = take (6 * triangles_in b) b.tree.triangle_boxes

  around_run : Run nan written.triangle_boxes 0 (first_around ++ second_around)
  unfolding merged_over merged_triangle_boxes
  around_run = run_front nan (first_around ++ second_around) (drop (length (first_around ++ second_around)) old.triangle_boxes)

  first_around_lem : Run nan written.triangle_boxes (6 * 0) first_around
  first_around_lem = run_first nan written.triangle_boxes 0 first_around second_around around_run

  second_around_lem : Run nan written.triangle_boxes (6 * triangles_in a) second_around
  second_around_lem =
      run_second nan written.triangle_boxes 0 first_around second_around around_run (6 * triangles_in a)
      (omega (arith, length-take-le (6 * triangles_in a) a.tree.triangle_boxes p.triangle_boxes_lem))

  abbrev first_order : List ℕ
  first_order = take (triangles_in a) a.tree.order

  abbrev second_order : List ℕ
  second_order = moved_up (triangles_in a) (take (triangles_in b) b.tree.order)

  order_run : Run 0 written.order 0 (first_order ++ second_order)
  unfolding merged_over merged_order
  order_run = run_front 0 (first_order ++ second_order) (drop (length (first_order ++ second_order)) old.order)

  first_order_lem : Run 0 written.order 0 (moved_up 0 first_order)
  first_order_lem =
      subst (Run 0 written.order 0) (sym (moved_nowhere first_order)) (run_first 0 written.order 0 first_order second_order order_run)

  second_order_lem : Run 0 written.order (triangles_in a) second_order
  second_order_lem =
      run_second 0 written.order 0 first_order second_order order_run (triangles_in a)
      (omega (arith, length-take-le (triangles_in a) a.tree.order p.order))

  -- ---- both trees
  pub first_copied : Copied written a.tree (triangles_in a) (roots a b) 0
  first_copied = record {
    kind = moved_kind written.node_words a.tree.node_words (roots a b) 0 (roots a b) a.tree.node_count first_words_lem;
    first = moved_first written.node_words a.tree.node_words (roots a b) 0 (roots a b) a.tree.node_count first_words_lem;
    second = moved_second written.node_words a.tree.node_words (roots a b) 0 (roots a b) a.tree.node_count first_words_lem;
    node_box = copied_box written.node_boxes a.tree.node_boxes (roots a b) a.tree.node_count first_boxes_lem p.node_boxes_lem;
    triangle_box_lem = copied_box written.triangle_boxes a.tree.triangle_boxes 0 (triangles_in a) first_around_lem p.triangle_boxes_lem;
    ordered = moved_order written.order a.tree.order 0 (triangles_in a) first_order_lem p.order;
  }

  pub second_copied : Copied written b.tree (triangles_in b) (roots a b + a.tree.node_count) (triangles_in a)
  second_copied =
      let c = roots a b + a.tree.node_count in
      let n = b.tree.node_count in
      record {
        kind = moved_kind written.node_words b.tree.node_words c (triangles_in a) c n second_words_lem;
        first = moved_first written.node_words b.tree.node_words c (triangles_in a) c n second_words_lem;
        second = moved_second written.node_words b.tree.node_words c (triangles_in a) c n second_words_lem;
        node_box = copied_box written.node_boxes b.tree.node_boxes c n second_boxes_lem q.node_boxes_lem;
        triangle_box_lem =
            copied_box written.triangle_boxes b.tree.triangle_boxes (triangles_in a) (triangles_in b) second_around_lem
            q.triangle_boxes_lem;
        ordered = moved_order written.order b.tree.order (triangles_in a) (triangles_in b) second_order_lem q.order;
      }

  -- ---- the root
  pub root_written : one_empty a b ≡ false → Words written.node_words 0 1 1 (1 + a.tree.node_count)
  unfolding root_words
  root_written e =
      run_words written.node_words 0 1 1 (1 + a.tree.node_count)
      (subst (Run 0 written.node_words 0) (ap (λ (z : Bool). cond z [] (1 ∷ (1 ∷ ((1 + a.tree.node_count) ∷ [])))) e)
      (run_first 0 written.node_words 0 (root_words a b) (first_words ++ second_words) words_run))

  abbrev around : Aabb
  around = union_of (box_at a.tree.node_boxes 0) (box_at b.tree.node_boxes 0)

  pub root_around : one_empty a b ≡ false → box_at written.node_boxes 0 ≡ around
  unfolding root_box
  root_around e =
      run_box written.node_boxes 0 around
      (subst (Run nan written.node_boxes 0) (ap (λ (z : Bool). cond z [] (box_numbers around)) e)
      (run_first nan written.node_boxes 0 (root_box a b) (first_boxes ++ second_boxes) boxes_run))
