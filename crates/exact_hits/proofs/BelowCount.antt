-- Whatever the tree, the walk lists indices of triangles alone. Assumes nothing.
use Prim.Native.Nat.{ℕ, zero, suc, ◌+◌, ◌<◌}
use mathlib.Core.Path.{◌≡◌, refl, sym, subst}
use mathlib.Core.Logic.{◌⊎◌, inl, inr}
use mathlib.Core.Bool.{Bool, true, false, ◌&&◌, cond}
use mathlib.Core.List.{List, [], ◌∷◌, ◌++◌}
use native.Mathlib.Omega.{arith}
use lib.Dec.{leb, ltb, eqb}
use lib.ListN.{length}
use borrow.Author.Tests.{ltb-true}
use Rattle.lists.specs.Lists.{range, count}
use Rattle.lists.proofs.CountLaws.{one_other, same_or_other, count_cons, count_nil, count_append}
use Rattle.lists.proofs.SortLaws.{count_sorted}
use Rattle.geometry.specs.Box.{touches}
use Rattle.geometry.specs.declared.aabb.Aabb.{Aabb}
use Rattle.tree.specs.Layout.{Tree, word_at, box_at, kind_at, first_at, second_at}
use Rattle.tree_walk.specs.Walk.{Walking, walking, broken, times, take_place, take_places, at_leaf, child_fits, at_branch, at_node}
use Rattle.tree_walk.specs.Walk.{take_node}
use Rattle.tree_walk.specs.Walk.{start, ended}
use Rattle.exact_hits.specs.LineWalk.{take_opened, opened_walk}

module _ (t : Tree) (n : ℕ) (box : Aabb) where
  abbrev Below : Walking → Type 0
  Below broken = Unit
  Below (walking stack list) = (x : ℕ) → 0 < count x list → x < n

  one_more : (list : List ℕ) (y : ℕ) → y < n → ((x : ℕ) → 0 < count x list → x < n) → (x : ℕ) → 0 < count x (list ++ (y ∷ [])) → x < n
  one_more list y h rest x g = go (same_or_other x y)
    where
      go : (x ≡ y) ⊎ (x ≡ y → ⊥) → x < n
      go (inl e) = subst (λ (k : ℕ). k < n) (sym e) h
      go (inr o) =
          rest x (omega (arith, g, count_append x list (y ∷ []), count_cons x y [], one_other x y o, count_nil x))

  place_below : (w : Walking) (place : ℕ) → Below w → Below (take_place t n box w place)
  unfolding take_place
  place_below broken place h = tt
  place_below (walking stack list) place h =
      go (word_at t.order place) (ltb (word_at t.order place) n) refl
      (touches (box_at t.triangle_boxes (word_at t.order place)) box) (ltb (length list) n)
    where
      go : (x : ℕ) (a : Bool) → ltb x n ≡ a → (b c : Bool)
          → Below (cond a (cond b (cond c (walking stack (list ++ (x ∷ []))) broken) (walking stack list)) broken)
      go x false e b c = tt
      go x true e false c = h
      go x true e true false = tt
      go x true e true true = one_more list x (ltb-true x n e) h

  places_below : (w : Walking) (places : List ℕ) → Below w → Below (take_places t n box w places)
  unfolding take_places
  places_below w [] h = h
  places_below w (place ∷ rest) h = places_below (take_place t n box w place) rest (place_below w place h)

  module _ (node : ℕ) (stack list : List ℕ) (h : Below (walking stack list)) where
    leaf_below : (start count : ℕ) → Below (at_leaf t n box start count stack list)
    unfolding at_leaf
    leaf_below start count = go (leb (start + count) n)
      where
        go : (b : Bool) → Below (cond b (take_places t n box (walking stack list) (range start count)) broken)
        go true = places_below (walking stack list) (range start count) h
        go false = tt

    branch_below : (left right : ℕ) → Below (at_branch t n box node left right stack list)
    unfolding at_branch
    branch_below left right = go (child_fits t n box node left && child_fits t n box node right)
      where
        go : (b : Bool) → Below (cond b (walking (left ∷ (right ∷ stack)) list) broken)
        go true = h
        go false = tt

    node_below : Below (take_node t n box (walking (node ∷ stack) list))
    unfolding take_node at_node
    node_below =
        go (first_at t.node_words node) (second_at t.node_words node) (touches (box_at t.node_boxes node) box)
        (eqb (kind_at t.node_words node) 0) (eqb (kind_at t.node_words node) 1)
      where
        go : (first second : ℕ) (a b c : Bool)
            → Below (cond a (cond b (at_leaf t n box first second stack list)
            (cond c (at_branch t n box node first second stack list) broken)) (walking stack list))
        go first second false b c = h
        go first second true true c = leaf_below first second
        go first second true false true = branch_below first second
        go first second true false false = tt

  module _ (opens : ℕ → Bool) where
    taken_below : (w : Walking) → Below w → Below (take_opened t n box opens w)
    unfolding take_opened
    taken_below broken h = tt
    taken_below (walking [] list) h = h
    taken_below (walking (node ∷ stack) list) h = go (opens node)
      where
        go : (b : Bool) → Below (cond b (take_node t n box (walking (node ∷ stack) list)) (walking stack list))
        go true = node_below node stack list h
        go false = h

    all_below_lem : (k : ℕ) (w : Walking) → Below w → Below (times k (take_opened t n box opens) w)
    unfolding times
    all_below_lem zero w h = h
    all_below_lem (suc k) w h = all_below_lem k (take_opened t n box opens w) (taken_below w h)

    ended_below : (w : Walking) → Below w → Below (ended t n box w)
    unfolding ended
    ended_below broken h = tt
    ended_below (walking [] list) h = λ x g. h x (omega (arith, g, count_sorted x list))
    ended_below (walking (node ∷ stack) list) h = tt

    pub walk_below : (stack list : List ℕ) → opened_walk t n box opens ≡ walking stack list → (x : ℕ) → 0 < count x list → x < n
    unfolding opened_walk start
    walk_below stack list e =
        subst Below e
        (ended_below _ (all_below_lem t.node_count (start t n box) (λ x g. absurd (omega (arith, g, count_nil x)))))
