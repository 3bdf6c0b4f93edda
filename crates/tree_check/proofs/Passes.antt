-- The tree passes exactly when the code's four answers say so: no triangle and no node, or few enough nodes whose words, order and boxes
-- pass. Assumes nothing.
use Prim.Native.Nat.{ℕ, ◌-◌, ◌*◌, ◌/◌, ◌%◌, ◌<◌, ◌≤◌}
use mathlib.Core.Path.{◌≡◌, refl, sym, ap, ◌∙◌}
use mathlib.Core.Bool.{Bool, true, false, ◌&&◌, ◌||◌, and-false}
use mathlib.Core.List.{List}
use native.Mathlib.Omega.{arith}
use borrow.Author.Tests.{eq-eqb, ne_eqb, lt-leb, le-leb, leb-true}
use lib.Dec.{eqb, leb}
use lib.Ieee.{Float}
use lib.ListN.{length, take}
use Rattle.geometry.specs.Box.{valid_box}
use Rattle.lists.specs.Lists.{range, every, flat_map}
use Rattle.tree.specs.Layout.{Tree, box_at}
use Rattle.tree.specs.Mesh.{Mesh, lengths_admitted}
use Rattle.lists.proofs.JoinedTests.{and_first, and_second}
use Rattle.tree_check.specs.Check.{triangle_count, nodes, children_of, places_of, kinds_known, children_above, leaves_inside, named_once}
use Rattle.tree_check.specs.Check.{placed_once, ordered_once, leaves_filled, corners_known, boxes_same, boxes_valid, enclosed, clauses_hold}
use Rattle.tree_check.specs.Check.{tree_passes}
use Rattle.tree_check.specs.Marks.{once, places, second_mark, marked}
use Rattle.tree_check.specs.Steps.{words_pass, boxes_pass, Readable, Long}
use Rattle.tree_check.specs.Sound.{node_sound}
use Rattle.tree_check.specs.Verdict.{room_for}
use Rattle.tree_check.proofs.Counting.{by_equality}
use Rattle.tree_check.proofs.Clauses.{nodes_sound_is, triangles_sound_is, nodes_fit_is}
use Rattle.tree_check.proofs.Pigeonhole.{order_below}

-- the clauses in document 01's order, and as the code groups them
regrouped : (few k c l nm p o f co s vn vt e : Bool)
    → (few && (k && (c && (l && (nm && (p && (o && (f && (co && (s && ((vn && vt) && e)))))))))))
    ≡ (few && (((k && (c && (l && f))) && (nm && (p && o))) && ((co && (s && vt)) && (vn && e))))
regrouped false k c l nm p o f co s vn vt e = refl
regrouped true false c l nm p o f co s vn vt e = refl
regrouped true true false l nm p o f co s vn vt e = refl
regrouped true true true false nm p o f co s vn vt e = refl
regrouped true true true true false p o false co s vn vt e = refl
regrouped true true true true false p o true co s vn vt e = refl
regrouped true true true true true false o false co s vn vt e = refl
regrouped true true true true true false o true co s vn vt e = refl
regrouped true true true true true true false false co s vn vt e = refl
regrouped true true true true true true false true co s vn vt e = refl
regrouped true true true true true true true false co s vn vt e = refl
regrouped true true true true true true true true false s vn vt e = refl
regrouped true true true true true true true true true false vn vt e = refl
regrouped true true true true true true true true true true false false e = refl
regrouped true true true true true true true true true true false true e = refl
regrouped true true true true true true true true true true true false e = refl
regrouped true true true true true true true true true true true true e = refl

-- words and order that pass leave nothing in the tree to be read past an area's end
module _ (n count : ℕ) (words order : List ℕ) (h : words_pass n count words order ≡ true) where
  abbrev named : Bool
  named = every (once (flat_map (marked 1 n words) (range 0 count))) (range 1 (count - 1))

  abbrev placed : Bool
  placed = every (once (flat_map (places words) (range 0 count))) (range 0 n)

  abbrev ordered : Bool
  ordered = every (once (take n order)) (range 0 n)

  words_ordered : ordered ≡ true
  unfolding words_pass
  words_ordered = and_second placed ordered (and_second named (placed && ordered) (and_second (every (node_sound n count words) (range 0
      count)) (named && (placed && ordered)) h))

  pub words_sound : every (node_sound n count words) (range 0 count) ≡ true
  unfolding words_pass
  words_sound = and_first (every (node_sound n count words) (range 0 count)) (named && (placed && ordered)) h

  pub readable : (node_boxes triangle_boxes : List Float) (marks : List ℕ) → Long n node_boxes triangle_boxes words order marks → count ≤ 2
      * n
      → Readable n count node_boxes triangle_boxes words order
  readable node_boxes triangle_boxes marks long few =
      record {
        boxes_long = omega arith;
        words_long = omega arith;
        order_long = long.order_long;
        triangles_there = λ p b. omega (arith, order_below n order long.order_long words_ordered p b);
        nodes_sound = words_sound;
      }

module _ (m : Mesh) (t : Tree) where
  abbrev n : ℕ
  n = triangle_count m t

  abbrev words_clauses : Bool
  words_clauses = (kinds_known m t && (children_above m t && (leaves_inside m t && leaves_filled m t))) &&
      (named_once m t && (placed_once m t && ordered_once m t))

  abbrev boxes_clauses : Bool
  boxes_clauses =
      (corners_known m t && (boxes_same m t && every (λ (x : ℕ). valid_box (box_at t.triangle_boxes x)) (range 0 n)))
      && (every (λ (i : ℕ). valid_box (box_at t.node_boxes i)) (nodes m t) && enclosed m t)

  words_pass_is : words_pass n t.node_count t.node_words t.order ≡ words_clauses
  unfolding words_pass once marked second_mark places named_once placed_once ordered_once children_of places_of
  words_pass_is = ap (λ (b : Bool). b && (named_once m t && (placed_once m t && ordered_once m t))) (nodes_sound_is m t)

  boxes_pass_is : words_pass n t.node_count t.node_words t.order ≡ true
      → boxes_pass n t.node_count m.vertices m.triangles t.node_boxes t.triangle_boxes t.node_words t.order ≡ boxes_clauses
  unfolding boxes_pass
  boxes_pass_is h = rw (triangles_sound_is m t, nodes_fit_is m t (words_sound n t.node_count t.node_words t.order h))

  clauses_are : clauses_hold m t ≡ (leb t.node_count (2 * n) && (words_clauses && boxes_clauses))
  unfolding clauses_hold boxes_valid
  clauses_are =
      regrouped (leb t.node_count (2 * n)) (kinds_known m t) (children_above m t) (leaves_inside m t) (named_once m t) (placed_once m t)
      (ordered_once m t) (leaves_filled m t) (corners_known m t) (boxes_same m t)
      (every (λ (i : ℕ). valid_box (box_at t.node_boxes i)) (nodes m t))
      (every (λ (x : ℕ). valid_box (box_at t.triangle_boxes x)) (range 0 n)) (enclosed m t)

  -- no triangle: the tree passes where it has no node
  pub passes_empty : n ≡ 0 → eqb t.node_count 0 ≡ tree_passes m t
  unfolding tree_passes clauses_hold
  passes_empty h =
      by_equality t.node_count 0 (λ (e : t.node_count ≡ 0). simp (eq-eqb t.node_count 0 e, eq-eqb n 0 h))
      (λ (e : t.node_count ≡ 0 → ⊥). simp (ne_eqb t.node_count 0 e, lt-leb t.node_count (2 * n) (omega arith)))

  module _ (full : n ≡ 0 → ⊥) where
    passes_full : tree_passes m t ≡ (leb t.node_count (2 * n) && (words_clauses && boxes_clauses))
    unfolding tree_passes
    passes_full = ap (λ (b : Bool). b || clauses_hold m t)
        (ap (λ (b : Bool). eqb t.node_count 0 && b) (ne_eqb n 0 full) ∙ and-false (eqb t.node_count 0)) ∙ clauses_are

    pub passes_not_many : 2 * n < t.node_count → false ≡ tree_passes m t
    passes_not_many h = sym (passes_full ∙ ap (λ (b : Bool). b && (words_clauses && boxes_clauses)) (lt-leb t.node_count (2 * n) h))

    module _ (few : t.node_count ≤ 2 * n) where
      passes_few : tree_passes m t ≡ (words_pass n t.node_count t.node_words t.order && boxes_clauses)
      passes_few =
          passes_full ∙ ap (λ (b : Bool). b && (words_clauses && boxes_clauses)) (le-leb t.node_count (2 * n) few)
          ∙ ap (λ (b : Bool). b && boxes_clauses) (sym words_pass_is)

      pub passes_not_words : words_pass n t.node_count t.node_words t.order ≡ false → false ≡ tree_passes m t
      passes_not_words h = sym (passes_few ∙ ap (λ (b : Bool). b && boxes_clauses) h)

      pub passes_boxes : words_pass n t.node_count t.node_words t.order ≡ true
          → boxes_pass n t.node_count m.vertices m.triangles t.node_boxes t.triangle_boxes t.node_words t.order ≡ tree_passes
          m t
      passes_boxes h = boxes_pass_is h ∙ sym (passes_few ∙ ap (λ (b : Bool). b && boxes_clauses) h)

-- lengths that are admitted and room enough
pub few_triangles : (v t : ℕ) → lengths_admitted v t ≡ true → t / 3 ≤ 65536
unfolding lengths_admitted
few_triangles v t h =
    let e : t ≤ 196608 = leb-true t 196608
    (and_second (eqb (t % 3) 0) (leb t 196608)
    (and_second (leb v 196608) (eqb (t % 3) 0 && leb t 196608)
    (and_second (eqb (v % 3) 0) (leb v 196608 && (eqb (t % 3) 0 && leb t 196608)) h))) in
    omega arith

pub room_is_long : (n : ℕ) (node_boxes triangle_boxes : List Float) (words order marks : List ℕ) → n ≤ 65536
    → room_for n (length node_boxes) (length triangle_boxes) (length words) (length order) (length marks) ≡ true → Long n node_boxes
    triangle_boxes words order marks
unfolding room_for
room_is_long n node_boxes triangle_boxes words order marks few h =
    let a = leb (12 * n) (length node_boxes) in
    let b = leb (6 * n) (length triangle_boxes) in
    let c = leb (6 * n) (length words) in
    let d = leb n (length order) in
    let e = leb (3 * n) (length marks) in
    let h₁ = and_second a (b && (c && (d && e))) h in
    let h₂ = and_second b (c && (d && e)) h₁ in
    let h₃ = and_second c (d && e) h₂ in
    record {
      few = few;
      node_boxes_long = leb-true (12 * n) (length node_boxes) (and_first a (b && (c && (d && e))) h);
      triangle_boxes_long = leb-true (6 * n) (length triangle_boxes) (and_first b (c && (d && e)) h₁);
      node_words_long = leb-true (6 * n) (length words) (and_first c (d && e) h₂);
      order_long = leb-true n (length order) (and_first d e h₃);
      marks_long = leb-true (3 * n) (length marks) (and_second d e h₃);
    }
