-- Below a shape that stands in a tree's areas each node but the first is named as a child once, and the leaves' places are those of its
-- range, one after another. Assumes nothing.
use Prim.Native.Nat.{ℕ, zero, suc, ◌+◌}
use native.Mathlib.Nat.{add-zero, zero-add}
use mathlib.Core.Path.{◌≡◌, refl, sym, ap, ◌∙◌}
use mathlib.Core.Bool.{true, false}
use mathlib.Core.List.{List, [], ◌∷◌, ◌++◌, append-nil}
use native.Mathlib.Omega.{arith}
use lib.Dec.{eqb}
use Rattle.lists.specs.Lists.{range, count, flat_map}
use Rattle.tree.specs.Layout.{Tree, second_at}
use Rattle.tree.specs.Mesh.{Mesh}
use Rattle.lists.proofs.CountLaws.{one, count_cons, count_nil, count_append, flat_map_cons, flat_map_append}
use Rattle.tree_build.specs.Shape.{Shape, leaf, branch, size_of, nodes_of}
use Rattle.tree_check.specs.Check.{is_leaf, is_branch, children_of, places_of}
use Rattle.mesh.proofs.CheckedTree.{branch_children, no_children, leaf_places, no_places}
use Rattle.mesh.proofs.BuildRuns.{Words}
use Rattle.mesh.proofs.BuildNodes.{Written, lefts, rights, written_left, written_right, branch_words, leaf_words}

-- ---- ranges in parts
range_parts : (start a b : ℕ) → range start (a + b) ≡ range start a ++ range (start + a) b
unfolding range
range_parts start zero b =
    let e : 0 + b ≡ b = zero-add b in
    rw e (ap (λ (k : ℕ). range k b) (sym (add-zero start)))
range_parts start (suc a) b =
    let e : suc a + b ≡ suc (a + b) = omega arith in
    let f : suc start + a ≡ start + suc a = omega arith in
    rw e (ap (λ (r : List ℕ). start ∷ r) (range_parts (suc start) a b ∙ ap (λ (k : ℕ). range (suc start) a ++ range k b) f))

-- a branch's nodes: itself, those of the left and those of the right
range_branch : (node a b : ℕ) → range node (1 + (a + b)) ≡ node ∷ (range (node + 1) a ++ range (node + 1 + a) b)
unfolding range
range_branch node a b =
    let e : 1 + (a + b) ≡ suc (a + b) = omega arith in
    let f : suc node ≡ node + 1 = omega arith in
    rw e (ap (λ (k : ℕ). node ∷ range k (a + b)) f ∙ ap (λ (r : List ℕ). node ∷ r) (range_parts (node + 1) a b))

gather_branch : (f : ℕ → List ℕ) (node a b : ℕ) → flat_map f (range node (1 + (a + b))) ≡ f node ++
    (flat_map f (range (node + 1) a) ++ flat_map f (range (node + 1 + a) b))
gather_branch f node a b =
    ap (flat_map f) (range_branch node a b)
    ∙ flat_map_cons f node (range (node + 1) a ++ range (node + 1 + a) b)
    ∙ ap (λ (r : List ℕ). f node ++ r) (flat_map_append f (range (node + 1) a) (range (node + 1 + a) b))

gather_one : (f : ℕ → List ℕ) (node : ℕ) → flat_map f (range node 1) ≡ f node
unfolding range flat_map
gather_one f node = append-nil (f node)

range_one : (node : ℕ) → range node 1 ≡ node ∷ []
unfolding range
range_one node = refl

-- ---- a node's children and places, by its words
module _ (m : Mesh) (t : Tree) (i first second : ℕ) where
  module _ (w : Words t.node_words i 1 first second) where
    pub branch_is_branch : is_branch m t i ≡ true
    branch_is_branch = ap (λ (k : ℕ). eqb k 1) w.kind_word

    pub branch_is_no_leaf : is_leaf m t i ≡ false
    branch_is_no_leaf = ap (λ (k : ℕ). eqb k 0) w.kind_word

    pub branch_names : children_of m t i ≡ first ∷ (second ∷ [])
    branch_names =
        branch_children m t i branch_is_branch
        ∙ ap (λ (k : ℕ). k ∷ (second_at t.node_words i ∷ [])) w.first_word
        ∙ ap (λ (k : ℕ). first ∷ (k ∷ [])) w.second_word

    pub branch_places : places_of m t i ≡ []
    branch_places = no_places m t i branch_is_no_leaf

  module _ (w : Words t.node_words i 0 first second) where
    pub leaf_is_leaf : is_leaf m t i ≡ true
    leaf_is_leaf = ap (λ (k : ℕ). eqb k 0) w.kind_word

    pub leaf_is_no_branch : is_branch m t i ≡ false
    leaf_is_no_branch = ap (λ (k : ℕ). eqb k 1) w.kind_word

    pub leaf_names : children_of m t i ≡ []
    leaf_names = no_children m t i leaf_is_no_branch

    pub leaf_holds : places_of m t i ≡ range first second
    leaf_holds =
        leaf_places m t i leaf_is_leaf
        ∙ ap (λ (k : ℕ). range k (second_at t.node_words i)) w.first_word
        ∙ ap (range first) w.second_word

-- ---- below a shape
module _ (m : Mesh) (t : Tree) where
  -- the first node and all that are named: each node once
  pub named_below : (node start : ℕ) (s : Shape) (ts : List ℕ) → Written t node start s ts
      → (x : ℕ) → one x node + count x (flat_map (children_of m t) (range node (nodes_of s))) ≡ count x (range node (nodes_of s))
  unfolding nodes_of
  named_below node start (leaf n) ts w x =
      let none = ap (count x) (gather_one (children_of m t) node ∙ leaf_names m t node start n (leaf_words t node start n ts w)) in
      omega (arith, count_nil x, ap (count x) (range_one node), count_cons x node [])
  named_below node start (branch l r) ts w x =
      let a = named_below (node + 1) start l (lefts t node start l r ts w) (written_left t node start l r ts w) x in
      let b = named_below (node + 1 + nodes_of l) (start + size_of l) r (rights t node start l r ts w) (written_right t node start l r ts w)
      x in
      let names = ap (count x) (branch_names m t node (node + 1) (node + 1 + nodes_of l) (branch_words t node start l r ts w)) in
      let lefts = flat_map (children_of m t) (range (node + 1) (nodes_of l)) in
      let rights = flat_map (children_of m t) (range (node + 1 + nodes_of l) (nodes_of r)) in
      omega (
        arith,
        ap (count x) (gather_branch (children_of m t) node (nodes_of l) (nodes_of r)),
        count_append x (children_of m t node) (lefts ++ rights),
        count_append x lefts rights,
        count_cons x (node + 1) ((node + 1 + nodes_of l) ∷ []),
        count_cons x (node + 1 + nodes_of l) [],
        count_nil x,
        ap (count x) (range_branch node (nodes_of l) (nodes_of r)),
        count_cons x node (range (node + 1) (nodes_of l) ++ range (node + 1 + nodes_of l) (nodes_of r)),
        count_append x (range (node + 1) (nodes_of l)) (range (node + 1 + nodes_of l) (nodes_of r)),
      )

  -- the leaves' places, one after another
  pub places_below : (node start : ℕ) (s : Shape) (ts : List ℕ) → Written t node start s ts
      → flat_map (places_of m t) (range node (nodes_of s)) ≡ range start (size_of s)
  unfolding nodes_of size_of
  places_below node start (leaf n) ts w = gather_one (places_of m t) node ∙ leaf_holds m t node start n (leaf_words t node start n ts w)
  places_below node start (branch l r) ts w =
      let rest : List ℕ → List ℕ =
      λ (p : List ℕ). p ++ (flat_map (places_of m t) (range (node + 1) (nodes_of l))
      ++ flat_map (places_of m t) (range (node + 1 + nodes_of l)
      (nodes_of r)))
      in
      gather_branch (places_of m t) node (nodes_of l) (nodes_of r)
      ∙ ap rest (branch_places m t node (node + 1) (node + 1 + nodes_of l) (branch_words t node start l r ts w))
      ∙ ap (λ (p : List ℕ). p ++ flat_map (places_of m t) (range (node + 1 + nodes_of l) (nodes_of r)))
      (places_below (node + 1) start l (lefts t node start l r ts w) (written_left t node start l r ts w))
      ∙ ap (λ (p : List ℕ). range start (size_of l) ++ p)
      (places_below (node + 1 + nodes_of l) (start + size_of l) r (rights t node start l r ts w) (written_right t node start l r ts w))
      ∙ sym (range_parts start (size_of l) (size_of r))
