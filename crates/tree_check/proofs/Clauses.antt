-- The clauses of the tree check from what the code decides node by node and triangle by triangle. Assumes nothing.
use Prim.Native.Nat.{ℕ, ◌+◌}
use mathlib.Core.Path.{◌≡◌, refl, sym, ap, ◌∙◌}
use mathlib.Core.Bool.{Bool, true, false, not, ◌&&◌, ◌||◌, cond, true≢false, and_comm}
use mathlib.Core.List.{List, [], ◌∷◌}
use native.Mathlib.Omega.{arith}
use borrow.Author.Tests.{ne_eqb, eqb-true}
use lib.Dec.{eqb, leb, ltb}
use Rattle.geometry.specs.Box.{valid_box, encloses}
use Rattle.lists.specs.Lists.{range, every, count}
use Rattle.tree.specs.Layout.{Tree, box_at, word_at, kind_at, first_at, second_at}
use Rattle.tree.specs.Mesh.{Mesh}
use Rattle.tree_check.specs.Check.{triangle_count, nodes, is_leaf, is_branch, children_of, places_of, kinds_known, children_above}
use Rattle.tree_check.specs.Check.{leaves_inside, leaves_filled, corners_known, boxes_same, node_encloses, enclosed}
use Rattle.tree_check.specs.Steps.{triangle_sound, place_enclosed, children_enclosed, node_holds, node_fits}
use Rattle.tree_check.specs.Sound.{leaf_sound, branch_sound, node_sound}
use Rattle.lists.proofs.EveryLaws.{every_agree, every_and}
use Rattle.tree_check.proofs.Sound.{sound_at}

branch_clauses : (p a b c d : Bool) → (p && (a && (b && (c && d)))) ≡ ((p && ((a && b) && ((c && d) && true))) && true)
branch_clauses false a b c d = refl
branch_clauses true false b c d = refl
branch_clauses true true false c d = refl
branch_clauses true true true false d = refl
branch_clauses true true true true false = refl
branch_clauses true true true true true = refl

-- one node's clauses, by whether it is a leaf or a branch
node_clauses : (z o : Bool) (n count i first second : ℕ) → (z ≡ true → o ≡ false)
    → cond z (leaf_sound n first second) (cond o (branch_sound count i first second) false)
    ≡ ((z || o)
    && ((not o || (not (eqb first second) && every (λ (k : ℕ). ltb i k && ltb k count) (cond o (first ∷ (second ∷ [])) [])))
    && ((not z || leb (first + second) n) && (not z || ltb 0 second))))
unfolding leaf_sound branch_sound every
node_clauses true true n count i first second h = absurd (true≢false (h refl))
node_clauses true false n count i first second h = and_comm (ltb 0 second) (leb (first + second) n)
node_clauses false true n count i first second h =
    branch_clauses (not (eqb first second)) (ltb i first) (ltb first count) (ltb i second) (ltb second count)
node_clauses false false n count i first second h = refl

not_both : (k : ℕ) → eqb k 0 ≡ true → eqb k 1 ≡ false
not_both k h = let z : k ≡ 0 = eqb-true k 0 h in ne_eqb k 1 (λ (e : k ≡ 1). omega arith)

two : (a b : Bool) → (a && b) ≡ ((a && (b && true)) && true)
two false b = refl
two true false = refl
two true true = refl

leaf_or_branch : (n count : ℕ) (words : List ℕ) (i : ℕ) → node_sound n count words i ≡ true → eqb (kind_at words i) 0 ≡ false → eqb
    (kind_at words i) 1 ≡ true
unfolding node_sound
leaf_or_branch n count words i sound h =
    branch (eqb (kind_at words i) 0) (eqb (kind_at words i) 1) (leaf_sound n (first_at words i) (second_at words i))
    (branch_sound count i (first_at words i) (second_at words i)) h sound
  where
    branch : (z o a b : Bool) → z ≡ false → cond z a (cond o b false) ≡ true → o ≡ true
    branch true o a b e h' = absurd (true≢false e)
    branch false true a b e h' = refl
    branch false false a b e h' = h'

module _ (m : Mesh) (t : Tree) where
  abbrev n : ℕ
  n = triangle_count m t

  abbrev words : List ℕ
  words = t.node_words

  pub nodes_sound_is : every (node_sound n t.node_count words) (range 0 t.node_count)
      ≡ (kinds_known m t && (children_above m t && (leaves_inside m t && leaves_filled m t)))
  unfolding kinds_known children_above leaves_inside leaves_filled node_sound children_of
  nodes_sound_is =
      every_agree _ _ 0 t.node_count
      (λ i low high. node_clauses (is_leaf m t i) (is_branch m t i) n t.node_count i (first_at words i) (second_at words i)
      (not_both (kind_at words i)))
      ∙ every_and _ _ (nodes m t)
      ∙ ap (λ (b : Bool). kinds_known m t && b)
      (every_and _ _ (nodes m t) ∙ ap (λ (b : Bool). children_above m t && b) (every_and _ _ (nodes m t)))

  pub triangles_sound_is : every (triangle_sound m.vertices m.triangles t.triangle_boxes) (range 0 n)
      ≡ (corners_known m t && (boxes_same m t && every (λ (x : ℕ). valid_box (box_at t.triangle_boxes x)) (range 0 n)))
  unfolding triangle_sound corners_known boxes_same
  triangles_sound_is = every_and _ _ (range 0 n) ∙ ap (λ (b : Bool). corners_known m t && b) (every_and _ _ (range 0 n))

  -- of a node that is a leaf or a branch
  node_holds_by : (i : ℕ) (z o : Bool) → (z ≡ true → o ≡ false) → (z ≡ false → o ≡ true)
      → cond z (every (place_enclosed (box_at t.node_boxes i) t.triangle_boxes t.order) (range (first_at words i) (second_at words i)))
      (children_enclosed (box_at t.node_boxes i) t.node_boxes (first_at words i) (second_at words i))
      ≡ (every (λ (k : ℕ). encloses (box_at t.node_boxes i) (box_at t.node_boxes k))
      (cond o (first_at words i ∷ (second_at words i ∷ [])) [])
      && every (λ (p : ℕ). encloses (box_at t.node_boxes i) (box_at t.triangle_boxes (word_at t.order p)))
      (cond z (range (first_at words i) (second_at words i)) []))
  unfolding every place_enclosed children_enclosed
  node_holds_by i true true both neither = absurd (true≢false (both refl))
  node_holds_by i true false both neither = refl
  node_holds_by i false true both neither =
      two (encloses (box_at t.node_boxes i) (box_at t.node_boxes (first_at words i)))
      (encloses (box_at t.node_boxes i) (box_at t.node_boxes (second_at words i)))
  node_holds_by i false false both neither = absurd (true≢false (sym (neither refl)))

  node_holds_is : (i : ℕ) → node_sound n t.node_count words i ≡ true → node_holds t.node_boxes t.triangle_boxes words t.order i ≡
      node_encloses m t i
  unfolding node_holds node_encloses children_of places_of
  node_holds_is i sound =
      node_holds_by i (eqb (kind_at words i) 0) (eqb (kind_at words i) 1) (not_both (kind_at words i))
      (leaf_or_branch n t.node_count words i sound)

  pub nodes_fit_is : every (node_sound n t.node_count words) (range 0 t.node_count) ≡ true
      → every (node_fits t.node_boxes t.triangle_boxes words t.order) (range 0 t.node_count)
      ≡ (every (λ (i : ℕ). valid_box (box_at t.node_boxes i)) (nodes m t) && enclosed m t)
  unfolding node_fits enclosed
  nodes_fit_is sound =
      every_and _ _ (range 0 t.node_count)
      ∙ ap (λ (b : Bool). every (λ (i : ℕ). valid_box (box_at t.node_boxes i)) (nodes m t) && b)
      (every_agree _ _ 0 t.node_count (λ i low high. node_holds_is i (sound_at n t.node_count words sound i (omega arith))))
