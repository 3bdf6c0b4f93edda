-- The walk under a limit is the walk with its count where the limit is at least that, and else used up with the limit spent. Assumes
-- nothing.
use Prim.Native.Nat.{ℕ, zero, suc, ◌+◌, ◌-◌, ◌<◌, ◌≤◌}
use mathlib.Core.Path.{◌≡◌, refl, sym, ap, ◌∙◌}
use mathlib.Core.Bool.{Bool, true, false, cond, true≢false}
use mathlib.Core.List.{List, [], ◌∷◌}
use native.Mathlib.Omega.{arith}
use borrow.Author.Tests.{ltb-true, ltb-false, le-leb, lt-leb}
use lib.Dec.{ltb, leb}
use Rattle.geometry.specs.declared.aabb.Aabb.{Aabb}
use Rattle.tree.specs.Layout.{Tree}
use Rattle.tree_walk.specs.Walk.{Walking, walking, broken, times, take_node, start, ended, walk_of}
use Rattle.tree_walk.specs.Looking.{Looked, looked, used_up, looked_in, nodes_looked, ended_look, look, looks, walk_within}

module _ (t : Tree) (n : ℕ) (box : Aabb) where
  abbrev next : Walking → Walking
  next = take_node t n box

  -- ---- nothing more comes after a 5, nor after the last node
  pub times_broken : (k : ℕ) → times k next broken ≡ broken
  unfolding times take_node
  times_broken zero = refl
  times_broken (suc k) = times_broken k

  pub times_empty : (k : ℕ) (list : List ℕ) → times k next (walking [] list) ≡ walking [] list
  unfolding times take_node
  times_empty zero list = refl
  times_empty (suc k) list = times_empty k list

  pub looked_broken : (k : ℕ) → looked_in t n box k broken ≡ 0
  unfolding looked_in
  looked_broken zero = refl
  looked_broken (suc k) = refl

  pub looked_empty : (k : ℕ) (list : List ℕ) → looked_in t n box k (walking [] list) ≡ 0
  unfolding looked_in
  looked_empty zero list = refl
  looked_empty (suc k) list = refl

  pub looked_open : (k node : ℕ) (stack list : List ℕ)
      → looked_in t n box (suc k) (walking (node ∷ stack) list) ≡ suc (looked_in t n box k (next (walking (node ∷ stack) list)))
  unfolding looked_in
  looked_open k node stack list = refl

  -- no more are looked at than may be
  pub looked_few : (k : ℕ) (w : Walking) → looked_in t n box k w ≤ k
  unfolding looked_in
  looked_few zero w = omega arith
  looked_few (suc k) broken = omega arith
  looked_few (suc k) (walking [] list) = omega arith
  looked_few (suc k) (walking (node ∷ stack) list) = omega (arith, looked_few k (next (walking (node ∷ stack) list)))

  module _ (limit : ℕ) where
    looks_used : (k spent : ℕ) → looks t n box limit k (used_up spent) ≡ used_up spent
    unfolding looks look
    looks_used zero spent = refl
    looks_used (suc k) spent = looks_used k spent

    looks_broken : (k spent : ℕ) → looks t n box limit k (looked spent broken) ≡ looked spent broken
    unfolding looks look
    looks_broken zero spent = refl
    looks_broken (suc k) spent = looks_broken k spent

    looks_empty : (k spent : ℕ) (list : List ℕ) → looks t n box limit k (looked spent (walking [] list)) ≡ looked spent (walking [] list)
    unfolding looks look
    looks_empty zero spent list = refl
    looks_empty (suc k) spent list = looks_empty k spent list

    -- what the limit makes of a walk that needs so many nodes
    abbrev pub at_limit : ℕ → Walking → Looked
    at_limit need w = cond (leb need limit) (looked need w) (used_up limit)

    at_limit_within : (need : ℕ) (w : Walking) → need ≤ limit → looked need w ≡ at_limit need w
    at_limit_within need w h = simp (le-leb need limit h)

    at_limit_past : (need : ℕ) (w : Walking) → limit < need → used_up limit ≡ at_limit need w
    at_limit_past need w h = simp (lt-leb need limit h)

    abbrev stood : ℕ → List ℕ → List ℕ → Walking
    stood node stack list = walking (node ∷ stack) list

    -- the looks that are left, where so many were made
    abbrev rest : ℕ → ℕ → Walking → Looked
    rest k spent w = ended_look t n box (looks t n box limit k (looked spent w))

    abbrev whole : ℕ → ℕ → Walking → Looked
    whole k spent w = at_limit (spent + looked_in t n box k w) (ended t n box (times (t.node_count - spent) next w))

    abbrev Goes : ℕ → ℕ → Walking → Type 0
    Goes k spent w = spent + k ≡ suc t.node_count → spent ≤ limit → rest k spent w ≡ whole k spent w

    goes_broken : (k spent : ℕ) → Goes k spent broken
    unfolding ended_look
    goes_broken k spent e h =
        let z : spent + 0 ≡ spent = omega arith in
        simp (looks_broken k spent, times_broken (t.node_count - spent), looked_broken k, z)
        (at_limit_within spent (ended t n box broken) h)

    goes_empty : (k spent : ℕ) (list : List ℕ) → Goes k spent (walking [] list)
    unfolding ended_look
    goes_empty k spent list e h =
        let z : spent + 0 ≡ spent = omega arith in
        simp (looks_empty k spent list, times_empty (t.node_count - spent) list, looked_empty k list, z)
        (at_limit_within spent (ended t n box (walking [] list)) h)

    goes_none : (spent node : ℕ) (stack list : List ℕ) → Goes zero spent (stood node stack list)
    unfolding ended_look looks looked_in times
    goes_none spent node stack list e h =
        let z : spent + 0 ≡ spent = omega arith in
        let d : t.node_count - spent ≡ 0 = omega arith in
        rw (z, d) (at_limit_within spent (ended t n box (stood node stack list)) h)

    module _ (k spent node : ℕ) (stack list : List ℕ) (e : spent + suc k ≡ suc t.node_count) where
      -- one look at a node
      opened : rest (suc k) spent (stood node stack list)
          ≡ ended_look t n box (looks t n box limit k (cond (ltb spent limit)
          (looked (suc spent) (cond (ltb spent t.node_count) (next (stood node stack list)) broken)) (used_up spent)))
      unfolding looks look
      opened = refl

      -- the limit is used up
      goes_used : ltb spent limit ≡ false → spent ≤ limit
          → rest (suc k) spent (stood node stack list) ≡ whole (suc k) spent (stood node stack list)
      unfolding ended_look looked_in
      goes_used f h =
          let a : limit ≤ spent = ltb-false spent limit f in
          let s : spent ≡ limit = omega arith in
          let past : limit < spent + suc (looked_in t n box k (next (stood node stack list))) = omega arith in
          opened ∙ simp (f, looks_used k spent) (ap used_up s ∙ at_limit_past
          (spent + suc (looked_in t n box k (next (stood node stack list))))
          (ended t n box (times (t.node_count - spent) next (stood node stack list))) past)

      module _ (f : ltb spent limit ≡ true) where
        -- the node passes the node count
        goes_past : ltb spent t.node_count ≡ false
            → rest (suc k) spent (stood node stack list) ≡ whole (suc k) spent (stood node stack list)
        unfolding ended_look times ended
        goes_past g =
            let a : t.node_count ≤ spent = ltb-false spent t.node_count g in
            let b : spent < limit = ltb-true spent limit f in
            let z : k ≡ 0 = omega arith in
            let d : t.node_count - spent ≡ 0 = omega arith in
            let few = looked_few 0 (next (stood node stack list)) in
            let s : spent + looked_in t n box (suc 0) (stood node stack list) ≡ suc spent = omega (arith, looked_open 0 node stack list) in
            opened ∙ simp (f, g, looks_broken k (suc spent)) (rw (z, d, s) (at_limit_within (suc spent) broken (omega arith)))

        -- it is one of the tree's
        goes_on : ltb spent t.node_count ≡ true → Goes k (suc spent) (next (stood node stack list))
            → rest (suc k) spent (stood node stack list) ≡ whole (suc k) spent (stood node stack list)
        unfolding times
        goes_on g ih =
            let a : spent < t.node_count = ltb-true spent t.node_count g in
            let b : spent < limit = ltb-true spent limit f in
            let d : t.node_count - spent ≡ suc (t.node_count - suc spent) = omega arith in
            let s : spent + looked_in t n box (suc k) (stood node stack list) ≡ suc spent + looked_in t n box k
            (next (stood node stack list)) = omega (arith, looked_open k node stack list) in
            opened ∙ simp (f, g) (rw (d, s) (ih (omega arith) (omega arith)))

    goes : (k spent : ℕ) (w : Walking) → Goes k spent w
    goes zero spent broken = goes_broken zero spent
    goes zero spent (walking [] list) = goes_empty zero spent list
    goes zero spent (walking (node ∷ stack) list) = λ e h. goes_none spent node stack list e h
    goes (suc k) spent broken = goes_broken (suc k) spent
    goes (suc k) spent (walking [] list) = goes_empty (suc k) spent list
    goes (suc k) spent (walking (node ∷ stack) list) = λ e h. go e h (ltb spent limit) refl (ltb spent t.node_count) refl
        (goes k (suc spent) (next (stood node stack list)))
      where
        go : spent + suc k ≡ suc t.node_count → spent ≤ limit → (b : Bool) → ltb spent limit ≡ b → (d : Bool)
            → ltb spent t.node_count ≡ d
            → Goes k (suc spent) (next (stood node stack list)) → rest (suc k) spent (stood node stack list) ≡ whole (suc k) spent
            (stood node stack list)
        go e h false f d g ih = goes_used k spent node stack list e f h
        go e h true f false g ih = goes_past k spent node stack list e f g
        go e h true f true g ih = goes_on k spent node stack list e f g ih

    -- "The nodes spent equal those counted by the definition of the walk"; "number 10 exactly when the next node in the walk would
    -- exceed the limit"
    pub within_is : walk_within t n box limit ≡ at_limit (nodes_looked t n box) (walk_of t n box)
    unfolding walk_within nodes_looked walk_of
    within_is =
        let z : 0 + looked_in t n box (suc t.node_count) (start t n box) ≡ looked_in t n box (suc t.node_count) (start t n box) =
        omega arith in
        let d : t.node_count - 0 ≡ t.node_count = omega arith in
        rw (z, d) at (goes (suc t.node_count) 0 (start t n box) (omega arith) (omega arith))

  -- ---- a walk that ends without a 5 looks at no more nodes than there are
  abbrev is_walking : Walking → Bool
  is_walking broken = false
  is_walking (walking stack list) = true

  not_broken : (l : List ℕ) → broken ≡ walking [] l → ⊥
  not_broken l e = true≢false (sym (ap is_walking e))

  ended_few : (k : ℕ) (w : Walking) (l : List ℕ) → ended t n box (times k next w) ≡ walking [] l → looked_in t n box (suc k) w ≤ k
  unfolding times ended looked_in
  ended_few zero broken l e = omega arith
  ended_few zero (walking [] list) l e = omega arith
  ended_few zero (walking (node ∷ stack) list) l e = absurd (not_broken l e)
  ended_few (suc k) broken l e = omega arith
  ended_few (suc k) (walking [] list) l e = omega arith
  ended_few (suc k) (walking (node ∷ stack) list) l e = omega (arith, ended_few k (next (walking (node ∷ stack) list)) l e)

  pub walk_looks_few : (l : List ℕ) → walk_of t n box ≡ walking [] l → nodes_looked t n box ≤ t.node_count
  unfolding walk_of nodes_looked
  walk_looks_few l e = ended_few t.node_count (start t n box) l e
