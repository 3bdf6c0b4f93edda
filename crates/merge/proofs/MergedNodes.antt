-- The nodes of a merged tree: the root where there is one, then those of the first tree and those of the second;
-- what all of them give is what the two trees gave, moved up. Assumes nothing.
use Prim.Native.Nat.{ℕ, zero, suc, ◌+◌, ◌-◌, ◌≤◌, ◌<◌}
use mathlib.Core.Path.{◌≡◌, refl, ap, ◌∙◌, subst}
use mathlib.Core.Logic.{◌⊎◌, inl, inr}
use mathlib.Core.Bool.{Bool, true, false, ◌||◌, cond}
use mathlib.Core.List.{List, [], ◌∷◌, ◌++◌, append-nil}
use native.Mathlib.Omega.{arith}
use lib.Dec.{eqb}
use borrow.Author.Tests.{eqb-true, eqb-false}
use Rattle.lists.specs.Lists.{range, count, flat_map}
use Rattle.tree.specs.Layout.{Tree}
use Rattle.tree.specs.Mesh.{Mesh}
use Rattle.lists.proofs.CountLaws.{one, one_other, same_or_other, count_cons, count_nil, count_append, flat_map_append}
use Rattle.tree_check.specs.Check.{triangle_count, places_of}
use Rattle.mesh.proofs.CheckedTree.{Checked}
use Rattle.mesh.proofs.TreeCounts.{below_or_not}
use Rattle.merge.specs.Merge.{Board, triangles_in, one_empty, roots, merged_count}
use Rattle.tree_copy.proofs.MovedLists.{range_split}

-- ---- a checked tree has nodes exactly where there are triangles
pub no_nodes : (m : Mesh) (t : Tree) → Checked m t → triangle_count m t ≡ 0 → t.node_count ≡ 0
no_nodes m t h e = omega (arith, h.few)

pub some_nodes : (m : Mesh) (t : Tree) → Checked m t → 0 < triangle_count m t → 0 < t.node_count
unfolding flat_map range
some_nodes m t h some = go t.node_count refl
  where
    go : (k : ℕ) → t.node_count ≡ k → 0 < t.node_count
    go zero e = absurd (omega (arith, h.placed 0 some, ap (λ (n : ℕ). count 0 (flat_map (places_of m t) (range 0 n))) e, count_nil 0))
    go (suc k) e = omega arith

-- ---- two numbers
pub two_counted : (i x y : ℕ) → count i (x ∷ (y ∷ [])) ≡ one i x + one i y
two_counted i x y = omega (arith, count_cons i x (y ∷ []), count_cons i y [], count_nil i)

pub one_of_two : (i x y : ℕ) → 0 < count i (x ∷ (y ∷ [])) → (i ≡ x) ⊎ (i ≡ y)
one_of_two i x y h = go (same_or_other i x) (same_or_other i y)
  where
    go : (i ≡ x) ⊎ (i ≡ x → ⊥) → (i ≡ y) ⊎ (i ≡ y → ⊥) → (i ≡ x) ⊎ (i ≡ y)
    go (inl e) d = inl e
    go (inr n) (inl e) = inr e
    go (inr n) (inr k) = absurd (omega (arith, two_counted i x y, one_other i x n, one_other i y k))

module _ (a b : Board) where
  -- ---- a root over two boards with triangles, or none
  pub data Root : Type 0 where
    rooted : one_empty a b ≡ false → roots a b ≡ 1 → 0 < triangles_in a → 0 < triangles_in b → Root
    bare : roots a b ≡ 0 → (triangles_in a ≡ 0) ⊎ (triangles_in b ≡ 0) → Root

  pub root_or_none : Root
  unfolding roots
  root_or_none = go (eqb (triangles_in a) 0) refl (eqb (triangles_in b) 0) refl
    where
      go : (d : Bool) → eqb (triangles_in a) 0 ≡ d → (e : Bool) → eqb (triangles_in b) 0 ≡ e → Root
      go true f e g = bare (ap (λ (z : Bool). cond (z || eqb (triangles_in b) 0) 0 1) f) (inl (eqb-true (triangles_in a) 0 f))
      go false f true g =
          bare (ap (λ (z : Bool). cond (z || eqb (triangles_in b) 0) 0 1) f ∙ ap (λ (z : Bool). cond z 0 1) g)
          (inr (eqb-true (triangles_in b) 0 g))
      go false f false g =
          let n : triangles_in a ≡ 0 → ⊥ = eqb-false (triangles_in a) 0 f in
          let k : triangles_in b ≡ 0 → ⊥ = eqb-false (triangles_in b) 0 g in
          rooted (ap (λ (z : Bool). z || eqb (triangles_in b) 0) f ∙ g)
          (ap (λ (z : Bool). cond (z || eqb (triangles_in b) 0) 0 1) f ∙ ap (λ (z : Bool). cond z 0 1) g) (omega (arith, n))
          (omega (arith, k))

  pub one_root : roots a b ≤ 1
  one_root = go root_or_none
    where
      go : Root → roots a b ≤ 1
      go (rooted e f g h) = omega arith
      go (bare f g) = omega arith

  -- ---- one node after another
  abbrev N : ℕ
  N = a.tree.node_count

  abbrev M : ℕ
  M = b.tree.node_count

  pub node_cases : (P : ℕ → Type 0) → (roots a b ≡ 1 → P 0) → ((i : ℕ) → i < N → P (i + roots a b))
      → ((i : ℕ) → i < M → P (i + (roots a b + N)))
      → (j : ℕ) → j < merged_count a b → P j
  unfolding merged_count
  node_cases P root first second j below = go (below_or_not j (roots a b)) (below_or_not j (roots a b + N))
    where
      go : (j < roots a b) ⊎ (roots a b ≤ j) → (j < roots a b + N) ⊎ (roots a b + N ≤ j) → P j
      go (inl f) d =
          let e : 0 ≡ j = omega (arith, one_root) in
          subst P e (root (omega (arith, one_root)))
      go (inr f) (inl g) =
          let e : (j - roots a b) + roots a b ≡ j = omega arith in
          subst P e (first (j - roots a b) (omega arith))
      go (inr f) (inr g) =
          let e : (j - (roots a b + N)) + (roots a b + N) ≡ j = omega arith in
          subst P e (second (j - (roots a b + N)) (omega arith))

  -- ---- what all nodes give
  pub gathered_nodes : (f : ℕ → List ℕ)
      → flat_map f (range 0 (merged_count a b))
      ≡ flat_map f (range 0 (roots a b)) ++ (flat_map f (range (0 + roots a b) N) ++ flat_map f (range (0 + (roots a b + N)) M))
  unfolding merged_count
  gathered_nodes f =
      let e : 0 + roots a b + N ≡ 0 + (roots a b + N) = omega arith in
      ap (flat_map f) (range_split 0 (roots a b) (N + M))
      ∙ flat_map_append f (range 0 (roots a b)) (range (0 + roots a b) (N + M))
      ∙ ap (λ (l : List ℕ). flat_map f (range 0 (roots a b)) ++ flat_map f l) (range_split (0 + roots a b) N M)
      ∙ ap (λ (l : List ℕ). flat_map f (range 0 (roots a b)) ++ l)
      (flat_map_append f (range (0 + roots a b) N) (range (0 + roots a b + N) M))
      ∙ ap (λ (z : ℕ). flat_map f (range 0 (roots a b)) ++ (flat_map f (range (0 + roots a b) N) ++ flat_map f (range z M))) e

  pub gathered_count : (f : ℕ → List ℕ) (l m : List ℕ) (x : ℕ) → flat_map f (range (0 + roots a b) N) ≡ l
      → flat_map f (range (0 + (roots a b + N)) M) ≡ m
      → count x (flat_map f (range 0 (merged_count a b))) ≡ count x (flat_map f (range 0 (roots a b))) + (count x l + count x m)
  gathered_count f l m x e g =
      ap (count x) (gathered_nodes f ∙ ap
      (λ (z : List ℕ). flat_map f (range 0 (roots a b)) ++ (z ++ flat_map f (range (0 + (roots a b + N)) M))) e
      ∙ ap (λ (z : List ℕ). flat_map f (range 0 (roots a b)) ++ (l ++ z)) g)
      ∙ count_append x (flat_map f (range 0 (roots a b))) (l ++ m)
      ∙ ap (λ (k : ℕ). count x (flat_map f (range 0 (roots a b))) + k) (count_append x l m)

  -- the root's part
  pub root_gives : (f : ℕ → List ℕ) → roots a b ≡ 1 → flat_map f (range 0 (roots a b)) ≡ f 0
  unfolding flat_map range
  root_gives f e = ap (λ (n : ℕ). flat_map f (range 0 n)) e ∙ append-nil (f 0)

  pub none_gives : (f : ℕ → List ℕ) → roots a b ≡ 0 → flat_map f (range 0 (roots a b)) ≡ []
  unfolding flat_map range
  none_gives f e = ap (λ (n : ℕ). flat_map f (range 0 n)) e
