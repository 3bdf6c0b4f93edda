-- The public call from its parts: which lengths the tests leave, and the outcome at each return. Assumes nothing.
use mathlib.Core.Path.{◌≡◌, refl, sym, ap, ◌∙◌, subst}
use mathlib.Core.Bool.{Bool, true, false, ◌&&◌, cond, false≢true}
use mathlib.Core.List.{List, ◌++◌}
use Prim.Native.Nat.{ℕ, ◌+◌, ◌*◌, ◌/◌, ◌%◌, ◌<◌, ◌≤◌}
use native.Mathlib.Nat.{zero-add}
use native.Mathlib.Omega.{arith}
use lib.Dec.{leb, eqb}
use lib.Ieee.{Float}
use lib.ListN.{length, take, drop}
use lib.Seq.{length-take-le, take_at, drop_at}
use borrow.Author.Tests.{leb-true, eq-eqb, ne_eqb}
use Rattle.lists.proofs.JoinedTests.{and_parts, and_second}
use Rattle.casts.specs.Answer.{out_of_bounds, overflow}
use Rattle.lists.specs.Lists.{range}
use Rattle.tree.specs.Mesh.{Mesh, lengths_admitted, triangle_count, triangles_fit, boxes_written}
use Rattle.tree_build.specs.Shape.{shape_of, nodes_of, words_of}
use Rattle.tree_build.specs.Ranges.{extents_finite, order_below, boxes_below}
use Rattle.tree_build.specs.Build.{Answer, nodes, refused, says, Outcome, zeroed, room_for, tree_written, built_of, build_of}
use Rattle.tree.specs.Layout.{Areas, areas}
use Rattle.tree_build.specs.Node.{RoomAt, Grown}
use Rattle.casts.specs.declared.answer.Refusal.{Refusal}
use Rattle.std.specs.Prelude.{Result, Ok, Err}
use Rattle.std.specs.Result.{is_err}
use Rattle.casts.specs.Answer.{number_of}
use Rattle.lists.proofs.Runs.{sets_front}
use Rattle.lists.proofs.CountLaws.{length_range}
use Rattle.tree_build.proofs.Shapes.{nodes_of_shape_of, three_words_a_node, six_numbers_a_node}
use Rattle.tree_build.proofs.Recursion.{was_grown}

-- ---- what the tests of 2 and 3 leave
pub count_admitted : (vertices triangles : ℕ) → lengths_admitted vertices triangles ≡ true → triangles / 3 ≤ 65536
unfolding lengths_admitted
count_admitted v t h =
    let rest = and_second (eqb (v % 3) 0) (leb v 196608 && (eqb (t % 3) 0 && leb t 196608)) h in
    let last = and_second (leb v 196608) (eqb (t % 3) 0 && leb t 196608) rest in
    let few = leb-true t 196608 (and_second (eqb (t % 3) 0) (leb t 196608) last) in
    omega arith

-- the five lengths
pub record Room (n node_boxes triangle_boxes node_words order work : ℕ) : Type 0 where
  pub for_node_boxes : 12 * n ≤ node_boxes
  pub for_triangle_boxes : 6 * n ≤ triangle_boxes
  pub for_node_words : 6 * n ≤ node_words
  pub for_order : n ≤ order
  pub for_work : n ≤ work

pub room_left : (n : ℕ) (a : Areas) (work : ℕ) → room_for n a work ≡ true → Room n (length a.node_boxes) (length a.triangle_boxes)
    (length a.node_words) (length a.order) work
unfolding room_for
room_left n a work h =
    let p = leb (12 * n) (length a.node_boxes) in
    let q = leb (6 * n) (length a.triangle_boxes) in
    let r = leb (6 * n) (length a.node_words) in
    let s = leb n (length a.order) in
    let t = leb n work in
    let b1 = and_parts p (q && (r && (s && t))) h in
    let b2 = and_parts q (r && (s && t)) b1.1 in
    let b3 = and_parts r (s && t) b2.1 in
    let b4 = and_parts s t b3.1 in
    record {
      for_node_boxes = leb-true (12 * n) (length a.node_boxes) b1.0;
      for_triangle_boxes = leb-true (6 * n) (length a.triangle_boxes) b2.0;
      for_node_words = leb-true (6 * n) (length a.node_words) b3.0;
      for_order = leb-true n (length a.order) b4.0;
      for_work = leb-true n work b4.1;
    }

pub first_room : (n n' node_boxes node_words work : ℕ) → n' ≡ n → 0 < n → n ≤ 65536 → 12 * n ≤ node_boxes → 6 * n ≤ node_words → n ≤ work →
    RoomAt n' 0 0 node_boxes node_words work
first_room n n' node_boxes node_words work e p few b w k =
    let here = ap (λ (j : ℕ). nodes_of (shape_of j)) e in
    let bound = nodes_of_shape_of n p in
    record { some = omega arith; work = omega arith; places = omega arith; indices = omega arith; boxes = omega arith; words = omega arith }

-- ---- the front of the order, numbered
module _ (n : ℕ) (order part : List ℕ) (within : n ≤ length order) (is : part ≡ range 0 (length (take n order))) where
  pub numbered_long : length part ≡ n
  numbered_long = ap length is ∙ length_range 0 (length (take n order)) ∙ length-take-le n order within

  pub numbered : take n (part ++ drop n order) ≡ range 0 n
  numbered = take_at part (drop n order) n numbered_long ∙ is ∙ ap (range 0) (length-take-le n order within)

  pub numbered_rest : drop n (part ++ drop n order) ≡ drop n order
  numbered_rest = drop_at part (drop n order) n numbered_long

-- ---- the answers of an admitted mesh with room
answer_of_lem : (b : Bool) (x y : Outcome) → (cond b x y).answer ≡ cond b x.answer y.answer
answer_of_lem true x y = refl
answer_of_lem false x y = refl

module _ (m : Mesh) (a : Areas) where
  pub none_refused : triangle_count m ≡ 0 → refused out_of_bounds ≡ (built_of m a).answer
  unfolding built_of
  none_refused h = rw (eq-eqb (triangle_count m) 0 h)

  pub unfit_refused : (triangle_count m ≡ 0 → ⊥) → triangles_fit m ≡ false → refused out_of_bounds ≡ (built_of m a).answer
  unfolding built_of
  unfit_refused h f = rw (ne_eqb (triangle_count m) 0 h, f)

  pub grown_answered : (triangle_count m ≡ 0 → ⊥) → triangles_fit m ≡ true
      → cond (extents_finite (boxes_written m a.triangle_boxes) (shape_of (triangle_count m)) (range 0 (triangle_count m)))
      (nodes (0 + nodes_of (shape_of (triangle_count m)))) (refused overflow) ≡ (built_of m a).answer
  unfolding built_of
  grown_answered h f =
      rw (ne_eqb (triangle_count m) 0 h, f, zero-add (nodes_of (shape_of (triangle_count m))))
      (sym (answer_of_lem (extents_finite (boxes_written m a.triangle_boxes) (shape_of (triangle_count m)) (range 0 (triangle_count m)))
      (record { answer = nodes (nodes_of (shape_of (triangle_count m))); after = tree_written m a })
      (record { answer = refused overflow; after = zeroed a })))

-- what the recursion wrote from the first node on
module _ (m : Mesh) (a : Areas) (r : Result ℕ Refusal) (part part' : List ℕ) (triangleBoxes' nodeBoxes' : List Float)
    (nodeWords' : List ℕ) (n : ℕ) (counted : n ≡ triangle_count m) (p : 0 < n) (work : ℕ)
    (room : Room n (length a.node_boxes) (length a.triangle_boxes) (length a.node_words) (length a.order) work)
    (boxed : triangleBoxes' ≡ boxes_written m a.triangle_boxes) (first : part ≡ range 0 n) (kept : length part' ≡ length part)
    (grew : Grown triangleBoxes' (shape_of (length part)) part 0 0 r part' a.node_boxes nodeBoxes' a.node_words nodeWords')
  where
    part_long : length part ≡ n
    part_long = ap length first ∙ length_range 0 n

    as_defined : Grown (boxes_written m a.triangle_boxes) (shape_of (triangle_count m)) (range 0 (triangle_count m)) 0 0 r part'
        a.node_boxes nodeBoxes' a.node_words nodeWords'
    as_defined =
        subst (λ (z : List Float). Grown z (shape_of (triangle_count m)) (range 0 (triangle_count m)) 0 0 r part' a.node_boxes nodeBoxes'
        a.node_words nodeWords') boxed
        (subst (λ (z : List ℕ). Grown triangleBoxes' (shape_of (triangle_count m)) z 0 0 r part' a.node_boxes nodeBoxes' a.node_words
        nodeWords') (first ∙ ap (range 0) counted)
        (subst (λ (k : ℕ). Grown triangleBoxes' (shape_of k) part 0 0 r part' a.node_boxes nodeBoxes' a.node_words nodeWords')
        (part_long ∙ counted) grew))

    pub grown_said : (triangle_count m ≡ 0 → ⊥) → triangles_fit m ≡ true → says r ≡ (built_of m a).answer
    grown_said h f = as_defined.answer ∙ grown_answered m a h f

    pub grown_written : (k : ℕ) → r ≡ Ok k → areas nodeBoxes' triangleBoxes' nodeWords' (part' ++ drop n a.order) ≡ tree_written m a
    unfolding tree_written
    grown_written k went =
        let shape = shape_of (triangle_count m) in
        let boxes = boxes_written m a.triangle_boxes in
        let ts = range 0 (triangle_count m) in
        let told = was_grown (extents_finite boxes shape ts) (0 + nodes_of shape) k (sym (ap says went) ∙ as_defined.answer) in
        let w = as_defined.written told.0 in
        let bound = nodes_of_shape_of (triangle_count m) (omega arith) in
        let b : nodeBoxes' ≡ boxes_below boxes shape ts ++ drop (length (boxes_below boxes shape ts)) a.node_boxes =
        w.boxed ∙ sets_front a.node_boxes (boxes_below boxes shape ts)
        (omega (arith, six_numbers_a_node boxes shape ts, room.for_node_boxes))
        in
        let d : nodeWords' ≡ words_of 0 0 shape ++ drop (length (words_of 0 0 shape)) a.node_words =
        w.worded ∙ sets_front a.node_words (words_of 0 0 shape) (omega (arith, three_words_a_node 0 0 shape, room.for_node_words))
        in
        let long : n ≡ length (order_below boxes shape ts) = sym (kept ∙ part_long) ∙ ap length w.order in
        let o : part' ++ drop n a.order ≡ order_below boxes shape ts ++ drop (length (order_below boxes shape ts)) a.order =
        ap (λ (z : List ℕ). z ++ drop n a.order) w.order ∙ ap (λ (j : ℕ). order_below boxes shape ts ++ drop j a.order) long
        in
        rw (b, boxed, d, o)

-- ---- the outcome at each return of the call
abbrev chosen : Bool → Bool → Bool → Areas → Areas → ℕ → Outcome
chosen z f e x y c =
    cond z (record { answer = refused out_of_bounds; after = x })
    (cond f (cond e (record { answer = nodes c; after = y }) (record { answer = refused overflow; after = x }))
    (record { answer = refused out_of_bounds; after = x }))

module _ (m : Mesh) (a : Areas) (work : ℕ) where
  pub lengths_refused : lengths_admitted (length m.vertices) (length m.triangles) ≡ false → record { answer = refused 2; after = a } ≡
      build_of m a work
  unfolding build_of
  lengths_refused h = rw h

  pub room_refused : lengths_admitted (length m.vertices) (length m.triangles) ≡ true → room_for (triangle_count m) a work ≡ false →
      record { answer = refused 3; after = a } ≡ build_of m a work
  unfolding build_of
  room_refused h k = rw (h, k)

  built : lengths_admitted (length m.vertices) (length m.triangles) ≡ true → room_for (triangle_count m) a work ≡ true → built_of m a ≡
      build_of m a work
  unfolding build_of
  built h k = rw (h, k)

  nodes_chosen : (z f e : Bool) (x y : Areas) (c k : ℕ) → (chosen z f e x y c).answer ≡ nodes k → (chosen z f e x y c).after ≡ y
  nodes_chosen true f e x y c k h = let z : ◌≡◌ {A = ℕ} 0 1 = cc in absurd (omega arith)
  nodes_chosen false true true x y c k h = refl
  nodes_chosen false true false x y c k h = let z : ◌≡◌ {A = ℕ} 0 1 = cc in absurd (omega arith)
  nodes_chosen false false e x y c k h = let z : ◌≡◌ {A = ℕ} 0 1 = cc in absurd (omega arith)

  refusal_chosen : (z f e : Bool) (x y : Areas) (c k : ℕ) → (chosen z f e x y c).answer ≡ refused k → (chosen z f e x y c).after ≡ x
  refusal_chosen true f e x y c k h = refl
  refusal_chosen false true true x y c k h = let z : ◌≡◌ {A = ℕ} 0 1 = cc in absurd (omega arith)
  refusal_chosen false true false x y c k h = refl
  refusal_chosen false false e x y c k h = refl

  nodes_after : (k : ℕ) → (built_of m a).answer ≡ nodes k → (built_of m a).after ≡ tree_written m a
  unfolding built_of
  nodes_after k h =
      nodes_chosen (eqb (triangle_count m) 0) (triangles_fit m)
      (extents_finite (boxes_written m a.triangle_boxes) (shape_of (triangle_count m)) (range 0 (triangle_count m))) (zeroed a)
      (tree_written m a) (nodes_of (shape_of (triangle_count m))) k h

  refused_after_lem : (k : ℕ) → (built_of m a).answer ≡ refused k → (built_of m a).after ≡ zeroed a
  unfolding built_of
  refused_after_lem k h =
      refusal_chosen (eqb (triangle_count m) 0) (triangles_fit m)
      (extents_finite (boxes_written m a.triangle_boxes) (shape_of (triangle_count m)) (range 0 (triangle_count m))) (zeroed a)
      (tree_written m a) (nodes_of (shape_of (triangle_count m))) k h

  whole : (x : Answer) (after : Areas) (o : Outcome) → x ≡ o.answer → after ≡ o.after → ◌≡◌ {A = Outcome}
      (record { answer = x; after = after }) o
  whole x after o p q = rw (p, q)

  module _ (admitted : lengths_admitted (length m.vertices) (length m.triangles) ≡ true)
      (room : room_for (triangle_count m) a work ≡ true) (r : Result ℕ Refusal) (said : says r ≡ (built_of m a).answer) where
    pub nodes_returned : (after : Areas) → is_err r ≡ false → ((k : ℕ) → r ≡ Ok k → after ≡ tree_written m a)
        → record { answer = says r; after = after } ≡ build_of m a work
    nodes_returned after e f = go r refl
      where
        go : (x : Result ℕ Refusal) → r ≡ x → record { answer = says r; after = after } ≡ build_of m a work
        go (Ok k) is = whole (says r) after (built_of m a) said (f k is ∙ sym (nodes_after k (sym said ∙ ap says is))) ∙ built admitted room
        go (Err refusal) is = absurd (false≢true (sym e ∙ ap is_err is))

    pub refusal_returned : (after : Areas) → is_err r ≡ true → after ≡ zeroed a
        → record { answer = says r; after = after } ≡ build_of m a work
    refusal_returned after e f = go r refl
      where
        go : (x : Result ℕ Refusal) → r ≡ x → record { answer = says r; after = after } ≡ build_of m a work
        go (Ok k) is = absurd (false≢true (sym (ap is_err is) ∙ e))
        go (Err refusal) is =
            whole (says r) after (built_of m a) said (f ∙ sym (refused_after_lem (number_of refusal) (sym said ∙ ap says is)))
            ∙ built admitted room

pub zeroed_same : (a b : Areas) → length a.node_boxes ≡ length b.node_boxes → length a.triangle_boxes ≡ length b.triangle_boxes →
    length a.node_words ≡ length b.node_words → length a.order ≡ length b.order
    → zeroed a ≡ zeroed b
unfolding zeroed
zeroed_same a b p q r s = rw (p, q, r, s)
