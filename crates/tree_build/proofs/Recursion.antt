-- One call of the recursion: what a leaf, a branch and a refusal give. Assumes nothing.
use mathlib.Core.Path.{◌≡◌, refl, sym, ap, ◌∙◌, subst}
use mathlib.Core.Bool.{Bool, true, false, ◌&&◌, cond, false≢true, and-false}
use mathlib.Core.List.{List, [], ◌∷◌, ◌++◌, append_assoc}
use Prim.Native.Nat.{ℕ, ◌+◌, ◌-◌, ◌*◌, ◌/◌, ◌<◌, ◌≤◌}
use native.Mathlib.Omega.{arith}
use lib.Dec.{ltb}
use lib.Ieee.{Float}
use lib.ListN.{length, take, drop, length-append, length-drop}
use lib.Seq.{sets, length-take-le}
use Rattle.vectors.specs.Vector.{finite_vec}
use Rattle.casts.specs.Answer.{overflow}
use Rattle.tree_build.specs.Shape.{Shape, leaf, branch, shape_of, size_of, nodes_of, words_of}
use borrow.Author.Tests.{lt-ltb, le-ltb}
use Rattle.geometry.specs.Box.{union_of}
use Rattle.tree.specs.Layout.{box_at, box_numbers}
use Rattle.tree_ranges.specs.Extents.{hull_of, extent_of}
use Rattle.tree_build.specs.Ranges.{left_range, right_range, extents_finite, order_below, boxes_below}
use Rattle.tree_build.specs.Build.{nodes, refused, says}
use Rattle.tree_build.specs.Node.{RoomAt, Arranged, Written, Grown}
use Rattle.casts.specs.declared.answer.Refusal.{Refusal}
use Rattle.casts.specs.declared.answer.Refusal.TheVariants.{Overflow}
use Rattle.std.specs.Prelude.{Result, Ok, Err}
use Rattle.casts.specs.Answer.{number_of}
use Rattle.lists.proofs.Runs.{sets_append, sets_before}
use Rattle.tree_ranges.specs.Plain.{plain_range}
use Rattle.tree_build.proofs.Alikeness.{grown_alike, hull_of_halves}
use Rattle.tree_build.proofs.Readback.{hull_first, hull_last}
use Rattle.tree_build.proofs.Shapes.{few_are_a_leaf, many_are_halved, size_of_shape_of, nodes_halved, three_words_a_node}

-- ---- Bools and answers
middle_false : (a b c : Bool) → b ≡ false → (a && (b && c)) ≡ false
middle_false true b c h = rw h
middle_false false b c h = refl

last_true : (a b c : Bool) → (a && (b && c)) ≡ true → c ≡ true
last_true true true c h = h
last_true true false c h = absurd (false≢true h)
last_true false b c h = absurd (false≢true h)

last_decides : (a b c : Bool) → a ≡ true → b ≡ true → (a && (b && c)) ≡ c
last_decides a b c p q = rw (p, q)

pub was_refused : (b : Bool) (k j : ℕ) → refused j ≡ cond b (nodes k) (refused overflow) → (b ≡ false) × (j ≡ overflow)
was_refused true k j h = let z : ◌≡◌ {A = ℕ} 0 1 = cc in absurd (omega arith)
was_refused false k j h = (refl, cc)

pub was_grown : (b : Bool) (k j : ℕ) → nodes j ≡ cond b (nodes k) (refused overflow) → (b ≡ true) × (j ≡ k)
was_grown true k j h = (refl, cc)
was_grown false k j h = let z : ◌≡◌ {A = ℕ} 0 1 = cc in absurd (omega arith)

module _ (boxes : List Float) (ts : List ℕ) (start node : ℕ) (node_boxes : List Float) (node_words : List ℕ) where
  pub leaf_grown : (n : ℕ)
      → Grown boxes (leaf n) ts start node (Ok (node + 1)) ts node_boxes (sets node_boxes (6 * node) (box_numbers (hull_of boxes ts)))
      node_words (sets node_words (3 * node) (0 ∷ (start ∷ (n ∷ []))))
  unfolding extents_finite nodes_of order_below boxes_below words_of
  leaf_grown n = record { answer = refl; written = λ _. record { order = refl; boxed = refl; worded = refl } }

  module _ (l r : Shape) (ts' : List ℕ) (nodeBoxes' : List Float) (nodeWords' : List ℕ) where
    pub extent_refused : finite_vec (extent_of boxes ts) ≡ false → Grown boxes (branch l r) ts start node (Err Overflow) ts' node_boxes
        nodeBoxes' node_words nodeWords'
    unfolding extents_finite
    extent_refused h = record { answer = rw h; written = λ e. absurd (false≢true (rw h at e)) }

    pub left_refused : (left : Result ℕ Refusal) (k : ℕ) (j : Refusal)
        → says left ≡ cond (extents_finite boxes l (left_range boxes l ts)) (nodes k) (refused overflow) → left ≡ Err j
        → Grown boxes (branch l r) ts start node left ts' node_boxes nodeBoxes' node_words nodeWords'
    unfolding extents_finite
    left_refused left k j h e =
        let told = was_refused (extents_finite boxes l (left_range boxes l ts)) k (number_of j) (sym (ap says e) ∙ h) in
        let none = middle_false (finite_vec (extent_of boxes ts)) (extents_finite boxes l (left_range boxes l ts))
        (extents_finite boxes r (right_range boxes l ts)) told.0 in
        record {
          answer = ap says e ∙ ap refused told.1 ∙ ap (λ (b : Bool). cond b (nodes (node + nodes_of (branch l r))) (refused overflow))
              (sym none);
          written = λ f. absurd (false≢true (sym none ∙ f));
        }

  -- both halves, the left one's nodes directly behind the branch and the right one's behind those
  module _ (l r : Shape) (finite : finite_vec (extent_of boxes ts) ≡ true) (front back : List ℕ) (left right : Result ℕ Refusal) (next : ℕ)
      (went : left ≡ Ok next) (nodeBoxes₀ nodeBoxes₁ nodeBoxes₂ nodeBoxes₃ : List Float) (nodeWords₁ nodeWords₂ : List ℕ)
      (on-left : Grown boxes l (left_range boxes l ts) start (node + 1) left front nodeBoxes₀ nodeBoxes₁ node_words nodeWords₁)
      (on-right : Grown boxes r (right_range boxes l ts) (start + size_of l) next right back nodeBoxes₁ nodeBoxes₂
      (sets nodeWords₁ (3 * node) (1 ∷ ((node + 1) ∷ (next ∷ [])))) nodeWords₂)
      (boxes_joined : next ≡ node + 1 + nodes_of l
      → nodeBoxes₁ ≡ sets nodeBoxes₀ (6 * (node + 1)) (boxes_below boxes l (left_range boxes l ts))
      → nodeBoxes₂ ≡ sets nodeBoxes₁ (6 * next) (boxes_below boxes r (right_range boxes l ts))
      → nodeBoxes₃ ≡ sets node_boxes (6 * node) (boxes_below boxes (branch l r) ts))
    where
      told : (extents_finite boxes l (left_range boxes l ts) ≡ true) × (next ≡ node + 1 + nodes_of l)
      told = was_grown (extents_finite boxes l (left_range boxes l ts)) (node + 1 + nodes_of l) next (sym (ap says went) ∙ on-left.answer)

      words_joined : (w : Written boxes r (right_range boxes l ts) (start + size_of l) next back nodeBoxes₁ nodeBoxes₂ (sets nodeWords₁ (3 *
          node) (1 ∷ ((node + 1) ∷ (next ∷ [])))) nodeWords₂)
          → nodeWords₂ ≡ sets node_words (3 * node) (words_of node start (branch l r))
      unfolding words_of
      words_joined w =
          let own : List ℕ = 1 ∷ ((node + 1) ∷ (next ∷ [])) in
          let below = words_of (node + 1) start l in
          let behind = words_of next (start + size_of l) r in
          let first : 3 * (node + 1) ≡ 3 * node + 3 = omega arith in
          let second : 3 * next ≡ 3 * node + length (own ++ below) = omega
          (arith, told.1, three_words_a_node (node + 1) start l, length-append own below) in
          w.worded
          ∙ ap (λ (z : List ℕ). sets (sets z (3 * node) own) (3 * next) behind)
          ((on-left.written told.0).worded ∙ ap (λ (k : ℕ). sets node_words k below) first)
          ∙ ap (λ (z : List ℕ). sets z (3 * next) behind) (sets_before node_words (3 * node) own below)
          ∙ ap (λ (k : ℕ). sets (sets node_words (3 * node) (own ++ below)) k behind) second
          ∙ sym (sets_append node_words (3 * node) (own ++ below) behind)
          ∙ ap (sets node_words (3 * node)) (append_assoc own below behind)
          ∙ ap (λ (k : ℕ). sets node_words (3 * node) ((1 ∷ ((node + 1) ∷ (k ∷ []))) ++ (below ++ words_of k (start + size_of l) r))) told.1

      pub branch_grown : Grown boxes (branch l r) ts start node right (front ++ back) node_boxes nodeBoxes₃ node_words nodeWords₂
      unfolding extents_finite nodes_of order_below
      branch_grown =
          let b = extents_finite boxes l (left_range boxes l ts) in
          let d = extents_finite boxes r (right_range boxes l ts) in
          let count : next + nodes_of r ≡ node + (1 + (nodes_of l + nodes_of r)) = omega (arith, told.1) in
          record {
            answer =
                on-right.answer
                ∙ ap (λ (k : ℕ). cond d (nodes k) (refused overflow)) count
                ∙ ap (λ (z : Bool). cond z (nodes (node + (1 + (nodes_of l + nodes_of r)))) (refused overflow))
                (sym (last_decides (finite_vec (extent_of boxes ts)) b d finite told.0));
            written = λ e.
                let w = on-right.written (last_true (finite_vec (extent_of boxes ts)) b d e) in
                record {
                  order =
                      ap (λ (z : List ℕ). z ++ back) (on-left.written told.0).order
                      ∙ ap (λ (z : List ℕ). order_below boxes l (left_range boxes l ts) ++ z) w.order;
                  boxed = boxes_joined told.1 (on-left.written told.0).boxed w.boxed;
                  worded = words_joined w;
                };
          }

-- ---- the halves, as the code lends them
module _ (n start node boxesLong wordsLong workLong : ℕ) (many : 4 < n) (room : RoomAt n start node boxesLong wordsLong workLong)
    (n' boxesLong' wordsLong' workLong' : ℕ) (sameBoxes : boxesLong' ≡ boxesLong) (same_words : wordsLong' ≡ wordsLong)
    (sameWork : workLong' ≡ workLong) where
  pub left_room : n' ≡ n / 2 → RoomAt n' start (node + 1) boxesLong' wordsLong' workLong'
  left_room e =
      let here = ap (λ (k : ℕ). nodes_of (shape_of k)) e in
      let both = nodes_halved n many in
      record {
        some = omega arith;
        work = omega (arith, room.work);
        places = omega (arith, room.places);
        indices = omega (arith, room.indices);
        boxes = omega (arith, room.boxes);
        words = omega (arith, room.words);
      }

  pub right_room : n' ≡ n - n / 2 → (next : ℕ) → next ≡ node + 1 + nodes_of (shape_of (n / 2)) → RoomAt n' (start + n / 2) next boxesLong'
      wordsLong' workLong'
  right_room e next f =
      let here = ap (λ (k : ℕ). nodes_of (shape_of k)) e in
      let both = nodes_halved n many in
      record {
        some = omega arith;
        work = omega (arith, room.work);
        places = omega (arith, room.places);
        indices = omega (arith, room.indices);
        boxes = omega (arith, room.boxes);
        words = omega (arith, room.words);
      }

-- the index behind the left half
pub next_is : (boxes : List Float) (n n' : ℕ) (ts : List ℕ) (start node : ℕ) (left : Result ℕ Refusal) (next : ℕ) (front : List ℕ)
    (node_boxes nodeBoxes₁ : List Float) (node_words nodeWords₁ : List ℕ) → n' ≡ n / 2 → left ≡ Ok next
    → Grown boxes (shape_of n') ts start (node + 1) left front node_boxes nodeBoxes₁ node_words nodeWords₁
    → next ≡ node + 1 + nodes_of (shape_of (n / 2))
next_is boxes n n' ts start node left next front node_boxes nodeBoxes₁ node_words nodeWords₁ e went g =
    (was_grown (extents_finite boxes (shape_of n') ts) (node + 1 + nodes_of (shape_of n')) next (sym (ap says went) ∙ g.answer)).1
    ∙ ap (λ (k : ℕ). node + 1 + nodes_of (shape_of k)) e

-- a leaf's box is written at once
pub written_now : (unseen : Bool) (n : ℕ) (x y z : List Float) → n ≤ 4 → x ≡ cond (unseen && ltb 4 n) y z → x ≡ z
written_now unseen n x y z h e =
    e ∙ ap (λ (b : Bool). cond (unseen && b) y z) (le-ltb 4 n h) ∙ ap (λ (b : Bool). cond b y z) (and-false unseen)

-- ---- each return of the code
module _ (boxes : List Float) (ts : List ℕ) (start node : ℕ) (node_boxes nodeBoxes' : List Float) (node_words nodeWords' : List ℕ) where
  pub few_returned : length ts ≤ 4 → nodeBoxes' ≡ sets node_boxes (6 * node) (box_numbers (hull_of boxes ts)) → nodeWords' ≡ sets node_words
      (3 * node) (0 ∷ (start ∷ (length ts ∷ [])))
      → Grown boxes (shape_of (length ts)) ts start node (Ok (node + 1)) ts node_boxes nodeBoxes' node_words nodeWords'
  few_returned h p q = rw (few_are_a_leaf (length ts) h, p, q) (leaf_grown boxes ts start node node_boxes node_words (length ts))

  module _ (many : 4 < length ts) (ts' : List ℕ) where
    pub extent_returned : false ≡ finite_vec (extent_of boxes ts) → Grown boxes (shape_of (length ts)) ts start node (Err Overflow) ts'
        node_boxes nodeBoxes' node_words nodeWords'
    extent_returned h =
        rw (many_are_halved (length ts) many)
        (extent_refused boxes ts start node node_boxes node_words (shape_of (length ts / 2)) (shape_of (length ts - length ts / 2)) ts'
        nodeBoxes' nodeWords' (sym h))

    module _ (arranged : List ℕ) (is : Arranged boxes ts arranged) (as_long : length arranged ≡ length ts) where
      pub left_long : length (take (length ts / 2) arranged) ≡ length ts / 2
      left_long = length-take-le (length ts / 2) arranged (omega arith)

      module _ (left : Result ℕ Refusal) (front : List ℕ) (nodeBoxes₁ nodeBoxes₂ : List Float) (nodeWords₁ : List ℕ)
          (on-left : Grown boxes (shape_of (length (take (length ts / 2) arranged))) (take (length ts / 2) arranged) start (node + 1) left
          front nodeBoxes₁ nodeBoxes₂ node_words nodeWords₁)
        where
          left_half : Grown boxes (shape_of (length ts / 2)) (left_range boxes (shape_of (length ts / 2)) ts) start (node + 1) left front
              nodeBoxes₁ nodeBoxes₂ node_words nodeWords₁
          left_half =
              grown_alike boxes (shape_of (length ts / 2)) (left_range boxes (shape_of (length ts / 2)) ts) (take (length ts / 2) arranged)
              start (node + 1) left front nodeBoxes₁ nodeBoxes₂ node_words nodeWords₁ is.left
              (subst (λ (k : ℕ). Grown boxes (shape_of k) (take (length ts / 2) arranged) start (node + 1) left front nodeBoxes₁ nodeBoxes₂
              node_words nodeWords₁) left_long on-left)

          pub left_returned : (j : Refusal) → left ≡ Err j → Grown boxes (shape_of (length ts)) ts start node left ts' node_boxes nodeBoxes'
              node_words nodeWords'
          left_returned j e =
              rw (many_are_halved (length ts) many)
              (left_refused boxes ts start node node_boxes node_words (shape_of (length ts / 2)) (shape_of (length ts - length ts / 2)) ts'
              nodeBoxes' nodeWords' left
              (node + 1 + nodes_of (shape_of (length ts / 2))) j left_half.answer e)

          module _ (right : Result ℕ Refusal) (next : ℕ) (part back : List ℕ) (same-part : part ≡ drop (length ts / 2) arranged)
              (whole : ts' ≡ front ++ back) (finite : true ≡ finite_vec (extent_of boxes ts)) (went : left ≡ Ok next)
              (unseen : Bool) (plains : unseen ≡ true → plain_range boxes ts ≡ true)
              (roomy : 6 * (node + nodes_of (shape_of (length ts))) ≤ length node_boxes)
              (first : nodeBoxes₁ ≡ cond (unseen && ltb 4 (length ts)) node_boxes
              (sets node_boxes (6 * node) (box_numbers (hull_of boxes ts))))
              (nodeBoxes₃ : List Float)
              (last : nodeBoxes' ≡ cond unseen (sets nodeBoxes₃ (6 * node)
              (box_numbers (union_of (box_at nodeBoxes₃ (node + 1)) (box_at nodeBoxes₃ next)))) nodeBoxes₃)
              (nodeWords₂ : List ℕ)
              (own : nodeWords₂ ≡ sets nodeWords₁ (3 * node) (1 ∷ ((node + 1) ∷ (next ∷ []))))
              (on-right : Grown boxes (shape_of (length part)) part (start + length ts / 2) next right back nodeBoxes₂ nodeBoxes₃ nodeWords₂
              nodeWords')
            where
              part_long : length part ≡ length ts - length ts / 2
              part_long = ap length same-part ∙ length-drop (length ts / 2) arranged ∙ ap (λ (k : ℕ). k - length ts / 2) as_long

              right_half : Grown boxes (shape_of (length ts - length ts / 2)) (right_range boxes (shape_of (length ts / 2)) ts)
                  (start + size_of (shape_of (length ts / 2))) next right back nodeBoxes₂ nodeBoxes₃
                  (sets nodeWords₁ (3 * node) (1 ∷ ((node + 1) ∷ (next ∷ [])))) nodeWords'
              right_half =
                  grown_alike boxes (shape_of (length ts - length ts / 2)) (right_range boxes (shape_of (length ts / 2)) ts)
                  (drop (length ts / 2) arranged) (start + size_of (shape_of (length ts / 2))) next right back nodeBoxes₂ nodeBoxes₃
                  (sets nodeWords₁ (3 * node) (1 ∷ ((node + 1) ∷ (next ∷ [])))) nodeWords' is.right
                  (rw (← part_long, ← same-part, size_of_shape_of (length ts / 2), ← own) on-right)

              -- the box is written last, or first
              boxes_joined : (b : Bool) → unseen ≡ b → next ≡ node + 1 + nodes_of (shape_of (length ts / 2))
                  → nodeBoxes₂ ≡ sets nodeBoxes₁ (6 * (node + 1))
                  (boxes_below boxes (shape_of (length ts / 2)) (left_range boxes (shape_of (length ts / 2)) ts))
                  → nodeBoxes₃ ≡ sets nodeBoxes₂ (6 * next)
                  (boxes_below boxes (shape_of (length ts - length ts / 2)) (right_range boxes (shape_of (length ts / 2)) ts))
                  → nodeBoxes' ≡ sets node_boxes (6 * node)
                  (boxes_below boxes (branch (shape_of (length ts / 2)) (shape_of (length ts - length ts / 2))) ts)
              boxes_joined true e follows below behind =
                  let size = size_of_shape_of (length ts / 2) in
                  let later : nodeBoxes₁ ≡ node_boxes = rw (e, lt-ltb 4 (length ts) many) at first in
                  hull_last boxes (shape_of (length ts / 2)) (shape_of (length ts - length ts / 2)) ts node next node_boxes nodeBoxes₂
                  nodeBoxes₃ nodeBoxes' follows (omega (arith, nodes_halved (length ts) many))
                  (hull_of_halves boxes (shape_of (length ts / 2)) ts (omega arith) (omega arith) (plains e))
                  (below ∙ ap (λ (z : List Float). sets z (6 * (node + 1))
                  (boxes_below boxes (shape_of (length ts / 2)) (left_range boxes (shape_of (length ts / 2)) ts))) later)
                  behind (rw e at last)
              boxes_joined false e follows below behind =
                  rw e at last
                  ∙ hull_first boxes (shape_of (length ts / 2)) (shape_of (length ts - length ts / 2)) ts node next node_boxes nodeBoxes₁
                  nodeBoxes₂ nodeBoxes₃ follows (rw e at first) below behind

              pub branch_returned : Grown boxes (shape_of (length ts)) ts start node right ts' node_boxes nodeBoxes' node_words nodeWords'
              branch_returned =
                  rw (many_are_halved (length ts) many, whole)
                  (branch_grown boxes ts start node node_boxes node_words (shape_of (length ts / 2)) (shape_of (length ts - length ts / 2))
                  (sym finite) front back left right next went nodeBoxes₁ nodeBoxes₂ nodeBoxes₃ nodeBoxes' nodeWords₁ nodeWords' left_half
                  right_half (boxes_joined unseen refl))
