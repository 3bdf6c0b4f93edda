-- The walk that tests both children of a branch when it opens it: a node that does not touch may leave the stack at any time, with one node
-- less that may be taken, and what is left of the walk gives the whole. Assumes nothing.
use Prim.Native.Nat.{ℕ, zero, suc, ◌+◌, ◌<◌}
use mathlib.Core.Path.{◌≡◌, refl, sym, ap, ◌∙◌}
use mathlib.Core.Bool.{Bool, true, false, ◌&&◌, cond}
use mathlib.Core.List.{List, [], ◌∷◌, ◌++◌}
use native.Mathlib.Omega.{arith}
use lib.Dec.{ltb, leb, eqb}
use lib.ListN.{length, length-append}
use Rattle.geometry.specs.Box.{touches}
use Rattle.geometry.specs.declared.aabb.Aabb.{Aabb}
use Rattle.lists.specs.Lists.{range}
use Rattle.tree.specs.Layout.{Tree, word_at, box_at, kind_at, first_at, second_at}
use Rattle.tree_walk.specs.Walk.{Walking, walking, broken, times, take_place, take_places, at_leaf, child_fits, at_branch, at_node}
use Rattle.tree_walk.specs.Walk.{take_node, ended}
use Rattle.tree_walk.specs.Opening.{onward}
use Rattle.tree_walk.proofs.Limits.{times_broken}

-- what stands on the stack below
abbrev over : Walking → List ℕ → Walking
over (walking p l) s = walking (p ++ s) l
over broken s = broken

module _ (t : Tree) (n : ℕ) (box : Aabb) where
  -- ---- what is below on the stack is not looked at
  place_over : (w : Walking) (s : List ℕ) (place : ℕ) → take_place t n box (over w s) place ≡ over (take_place t n box w place) s
  unfolding take_place
  place_over broken s place = refl
  place_over (walking p l) s place =
      go (ltb (word_at t.order place) n) (touches (box_at t.triangle_boxes (word_at t.order place)) box) (ltb (length l) n)
    where
      go : (a b c : Bool)
          → cond a (cond b (cond c (walking (p ++ s) (l ++ (word_at t.order place ∷ []))) broken) (walking (p ++ s) l)) broken
          ≡ over (cond a (cond b (cond c (walking p (l ++ (word_at t.order place ∷ []))) broken) (walking p l)) broken) s
      go false b c = refl
      go true false c = refl
      go true true false = refl
      go true true true = refl

  places_over : (w : Walking) (s places : List ℕ) → take_places t n box (over w s) places ≡ over (take_places t n box w places) s
  unfolding take_places
  places_over w s [] = refl
  places_over w s (place ∷ rest) = ap (λ (v : Walking). take_places t n box v rest) (place_over w s place) ∙ places_over
      (take_place t n box w place) s rest

  node_over : (x : ℕ) (p s l : List ℕ) → take_node t n box (walking (x ∷ (p ++ s)) l) ≡ over (take_node t n box (walking (x ∷ p) l)) s
  unfolding take_node at_node at_leaf at_branch
  node_over x p s l =
      go (touches (box_at t.node_boxes x) box) (eqb (kind_at t.node_words x) 0)
      (leb (first_at t.node_words x + second_at t.node_words x) n) (eqb (kind_at t.node_words x) 1)
      (child_fits t n box x (first_at t.node_words x) && child_fits t n box x (second_at t.node_words x))
      (take_places t n box (walking p l) (range (first_at t.node_words x) (second_at t.node_words x)))
      (take_places t n box (walking (p ++ s) l) (range (first_at t.node_words x) (second_at t.node_words x)))
      (places_over (walking p l) s (range (first_at t.node_words x) (second_at t.node_words x)))
    where
      go : (a b c d e : Bool) (v w : Walking) → w ≡ over v s
          → cond a (cond b (cond c w broken)
          (cond d (cond e (walking (first_at t.node_words x ∷ (second_at t.node_words x ∷ (p ++ s))) l) broken) broken))
          (walking (p ++ s) l)
          ≡ over (cond a (cond b (cond c v broken)
          (cond d (cond e (walking (first_at t.node_words x ∷ (second_at t.node_words x ∷ p)) l) broken) broken)) (walking p l)) s
      go false b c d e v w f = refl
      go true true true d e v w f = f
      go true true false d e v w f = refl
      go true false c true true v w f = refl
      go true false c true false v w f = refl
      go true false c false e v w f = refl

  -- ---- a 5 stays
  pub broken_onward : (k : ℕ) (v : Walking) → broken ≡ v → broken ≡ ended t n box (times k (take_node t n box) v)
  unfolding ended
  broken_onward k v e = ap (ended t n box) (sym (times_broken t n box k)) ∙ ap (λ (x : Walking). ended t n box
      (times k (take_node t n box) x)) e

  -- ---- a stack of more nodes than may be taken is not taken down
  pub short : (k : ℕ) (s l : List ℕ) → k < length s → onward t n box k s l ≡ broken
  unfolding onward times ended
  short zero [] l h = absurd (omega arith)
  short zero (x ∷ s) l h = refl
  short (suc k) [] l h = absurd (omega arith)
  short (suc k) (x ∷ s) l h =
      ap (λ (w : Walking). ended t n box (times k (take_node t n box) w)) (node_over x [] s l)
      ∙ go (take_node t n box (walking (x ∷ []) l)) (λ p m. short k (p ++ s) m (omega (arith, length-append p s)))
    where
      go : (w : Walking) → ((p m : List ℕ) → ended t n box (times k (take_node t n box) (walking (p ++ s) m)) ≡ broken)
          → ended t n box (times k (take_node t n box) (over w s)) ≡ broken
      go broken further = ap (ended t n box) (times_broken t n box k)
      go (walking p m) further = further p m

  -- ---- a node that does not touch may leave the stack
  nonempty : (p : List ℕ) (x : ℕ) (s l : List ℕ) → ended t n box (walking (p ++ (x ∷ s)) l) ≡ broken
  unfolding ended
  nonempty [] x s l = refl
  nonempty (y ∷ p) x s l = refl

  pub missed_leaves : (k x : ℕ) (s l : List ℕ) → touches (box_at t.node_boxes x) box ≡ false → onward t n box (suc k) (x ∷ s) l ≡ onward t
      n box k s l
  unfolding onward times take_node at_node
  missed_leaves k x s l m = simp m

  pub missed_below : (k : ℕ) (u : List ℕ) (x : ℕ) (s l : List ℕ) → touches (box_at t.node_boxes x) box ≡ false
      → onward t n box (suc k) (u ++ (x ∷ s)) l ≡ onward t n box k (u ++ s) l
  unfolding onward times ended
  missed_below zero [] x s l m = missed_leaves zero x s l m
  missed_below zero (y ∷ u) x s l m =
      ap (ended t n box) (node_over y u (x ∷ s) l) ∙ go (take_node t n box (walking (y ∷ u) l))
    where
      go : (w : Walking) → ended t n box (over w (x ∷ s)) ≡ ended t n box (walking (y ∷ (u ++ s)) l)
      go broken = refl
      go (walking p v) = nonempty p x s v
  missed_below (suc k) [] x s l m = missed_leaves (suc k) x s l m
  missed_below (suc k) (y ∷ u) x s l m =
      ap (λ (w : Walking). ended t n box (times (suc k) (take_node t n box) w)) (node_over y u (x ∷ s) l)
      ∙ go (take_node t n box (walking (y ∷ u) l)) (λ p v. missed_below k p x s v m)
      ∙ ap (λ (w : Walking). ended t n box (times k (take_node t n box) w)) (sym (node_over y u s l))
    where
      go : (w : Walking)
          → ((p v : List ℕ) → ended t n box (times (suc k) (take_node t n box) (walking (p ++ (x ∷ s)) v)) ≡ ended t n box
          (times k (take_node t n box) (walking (p ++ s) v)))
          → ended t n box (times (suc k) (take_node t n box) (over w (x ∷ s))) ≡ ended t n box (times k (take_node t n box) (over w s))
      go broken further = ap (ended t n box) (times_broken t n box (suc k) ∙ sym (times_broken t n box k))
      go (walking p v) further = further p v
