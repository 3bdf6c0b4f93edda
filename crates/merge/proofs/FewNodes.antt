-- A checked tree has at most 2n - 1 nodes:
-- its children are all nodes but the first, a branch has two of them, and the leaves hold at least one triangle each. Assumes nothing.
use Prim.Native.Nat.{ℕ, zero, suc, ◌+◌, ◌*◌, ◌≤◌, ◌<◌}
use mathlib.Core.Path.{◌≡◌, refl, sym, ap, ◌∙◌}
use mathlib.Core.Logic.{◌⊎◌, inl, inr}
use mathlib.Core.Bool.{Bool, true, false, ◌||◌, true≢false}
use mathlib.Core.List.{List, [], ◌∷◌}
use native.Mathlib.Omega.{arith}
use lib.ListN.{length, length-append}
use Rattle.lists.specs.Lists.{range, count, flat_map}
use Rattle.tree.specs.Layout.{Tree, first_at, second_at}
use Rattle.tree.specs.Mesh.{Mesh}
use Rattle.lists.proofs.CountLaws.{flat_map_cons, count_cons, one_same, length_range, range_bounds}
use Rattle.lists.proofs.WithinLaws.{within_length}
use Rattle.tree_check.specs.Check.{triangle_count, nodes, is_leaf, is_branch, children_of, places_of, tree_passes}
use Rattle.mesh.proofs.CheckedTree.{Checked, checked_or_empty, branch_children, leaf_places}
use Rattle.mesh.proofs.TreeCounts.{placed_at, triangles_of, named_within, triangles_within}

length_gather_cons : (f : ℕ → List ℕ) (x : ℕ) (l : List ℕ) → length (flat_map f (x ∷ l)) ≡ length (f x) + length (flat_map f l)
length_gather_cons f x l = ap length (flat_map_cons f x l) ∙ length-append (f x) (flat_map f l)

-- as many triangles as places
length_placed : (t : Tree) (l : List ℕ) → length (flat_map (placed_at t) l) ≡ length l
unfolding flat_map
length_placed t [] = refl
length_placed t (p ∷ l) = ap suc (length_placed t l)

module _ (m : Mesh) (t : Tree) (c : Checked m t) where
  -- what a node gives: two children, or a triangle
  node_gives : (i : ℕ) → i < t.node_count → 2 ≤ length (children_of m t i) + 2 * length (triangles_of m t i)
  node_gives i below = go (is_leaf m t i) refl (is_branch m t i) refl (c.known i below)
    where
      go : (b : Bool) → is_leaf m t i ≡ b → (d : Bool) → is_branch m t i ≡ d → (is_leaf m t i || is_branch m t i) ≡ true
          → 2 ≤ length (children_of m t i) + 2 * length (triangles_of m t i)
      go true e d f k =
          omega (
            arith,
            length_placed t (places_of m t i),
            ap length (leaf_places m t i e),
            length_range (first_at t.node_words i)
                (second_at t.node_words i),
            c.filled i below e,
          )
      go false e true f k = omega (arith, ap length (branch_children m t i f))
      go false e false f k = absurd (true≢false (sym k ∙ ap (λ (b : Bool). b || is_branch m t i) e ∙ f))

  all_give : (l : List ℕ) → ((i : ℕ) → 0 < count i l → i < t.node_count)
      → 2 * length l ≤ length (flat_map (children_of m t) l) + 2 * length (flat_map (triangles_of m t) l)
  all_give [] below = omega arith
  all_give (i ∷ l) below =
      omega (
        arith,
        length_gather_cons (children_of m t) i l,
        length_gather_cons (triangles_of m t) i l,
        node_gives i
            (below i (omega (arith, count_cons i i l, one_same i i refl))),
        all_give l (λ j h. below j (omega (arith, count_cons j i l))),
      )

  pub fewer_nodes : 0 < t.node_count → t.node_count + 1 ≤ 2 * triangle_count m t
  fewer_nodes some =
      omega (
        arith,
        within_length (0 ∷ flat_map (children_of m t) (nodes m t)) (nodes m t) (named_within m t c some),
        within_length
            (flat_map (triangles_of m t) (nodes m t)) (range 0 (triangle_count m t)) (triangles_within m t c),
        length_range 0 t.node_count,
        length_range 0 (triangle_count m t),
        all_give (nodes m t) (λ i h. let b = range_bounds i 0 t.node_count h in omega (arith, b)),
      )

-- "a checked tree has at most 2n - 1 nodes", and none where n is 0
pub nodes_below_twice : (m : Mesh) (t : Tree) → tree_passes m t ≡ true → 0 < triangle_count m t → t.node_count + 1 ≤ 2 * triangle_count m t
nodes_below_twice m t h some = go t.node_count refl (checked_or_empty m t h)
  where
    go : (k : ℕ) → t.node_count ≡ k → Checked m t ⊎ ((t.node_count ≡ 0) × (triangle_count m t ≡ 0))
        → t.node_count + 1 ≤ 2 * triangle_count m t
    go zero e s = omega arith
    go (suc k) e (inl c) = fewer_nodes m t c (omega arith)
    go (suc k) e (inr n) = absurd (omega arith)
