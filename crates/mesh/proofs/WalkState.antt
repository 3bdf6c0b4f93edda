-- The state of a walk: what it took and what is on the stack is each node once at most, and it has listed each touching triangle of what it
-- took once; one more node keeps it so. Assumes nothing.
use Prim.Native.Nat.{ℕ, zero, suc, ◌+◌, ◌<◌}
use mathlib.Core.Path.{◌≡◌, refl, sym, ap, ◌∙◌, subst}
use mathlib.Core.Logic.{◌⊎◌, inl, inr}
use mathlib.Core.Bool.{Bool, true}
use mathlib.Core.List.{List, ◌∷◌, ◌++◌}
use native.Mathlib.Omega.{arith}
use Rattle.geometry.specs.Box.{touches}
use Rattle.geometry.specs.declared.aabb.Aabb.{Aabb}
use Rattle.lists.specs.Lists.{count, flat_map}
use Rattle.tree.specs.Layout.{Tree, box_at}
use Rattle.tree.specs.Mesh.{Mesh}
use Rattle.lists.proofs.CountLaws.{one, one_other, same_or_other, count_cons, count_append, count_flat_map_cons}
use Rattle.lists.proofs.WithinLaws.{Within}
use Rattle.tree_check.specs.Check.{nodes, children_of}
use Rattle.mesh.proofs.TreeCounts.{triangles_of}

-- ---- whether a node's or a triangle's box in the tree touches
abbrev pub node_touches : Tree → Aabb → ℕ → Bool
node_touches t box node = touches (box_at t.node_boxes node) box

abbrev pub triangle_touches : Tree → Aabb → ℕ → Bool
triangle_touches t box x = touches (box_at t.triangle_boxes x) box

-- ---- the state of a walk
module _ (m : Mesh) (t : Tree) (box : Aabb) where
  pub record State (taken stack list : List ℕ) : Type 0 where
    -- taken or on the stack is only what was named by a node that was taken, so many times at most
    pub spread : Within (taken ++ stack) (0 ∷ flat_map (children_of m t) taken)
    pub once : Within taken (nodes m t)
    pub listed : Within list (flat_map (triangles_of m t) taken)
    pub rooted : 0 < count 0 (taken ++ stack)
    pub opened : (q i : ℕ) → 0 < count q taken → node_touches t box q ≡ true → 0 < count i (children_of m t q) → 0
        < count i (taken ++ stack)
    pub found : (q x : ℕ) → 0 < count q taken → node_touches t box q ≡ true → 0 < count x (triangles_of m t q) → triangle_touches t box x ≡
        true → 0 < count x list
    pub only : (x : ℕ) → 0 < count x list → triangle_touches t box x ≡ true

  -- one more node: what of its children goes on the stack and what of its triangles into the list
  pub record Opens (node : ℕ) (children triangles : List ℕ) : Type 0 where
    pub no_others : Within children (children_of m t node)
    pub no_strangers : Within triangles (triangles_of m t node)
    pub all_children : node_touches t box node ≡ true → (i : ℕ) → 0 < count i (children_of m t node) → 0 < count i children
    pub all_triangles : node_touches t box node ≡ true → (x : ℕ) → 0 < count x (triangles_of m t node) → triangle_touches t box x ≡ true → 0
        <
        count x triangles
    pub touching : (x : ℕ) → 0 < count x triangles → triangle_touches t box x ≡ true

  pub state_next : (taken stack list : List ℕ) (node : ℕ) (children triangles : List ℕ) → Within (taken ++ (node ∷ stack)) (nodes m t) →
      State taken (node ∷ stack) list
      → Opens node children triangles → State (node ∷ taken) (children ++ stack) (list ++ triangles)
  state_next taken stack list node children triangles all s o = record {
    spread = record {
      at_most = λ (i : ℕ). omega (
        arith,
        counts i,
        s.spread.at_most i,
        o.no_others.at_most i,
        count_cons i 0 (flat_map
            (children_of m t) taken),
        count_cons i 0 (flat_map (children_of m t) (node ∷ taken)),
        count_flat_map_cons (children_of m
            t) node i taken,
      );
    };
    once = record { at_most = λ (i : ℕ). omega (arith, all.at_most i, old i, count_cons i node taken) };
    listed = record {
      at_most = λ (x : ℕ). omega (
        arith,
        s.listed.at_most x,
        o.no_strangers.at_most x,
        count_append x list triangles,
        count_flat_map_cons (triangles_of m t) node x taken,
      );
    };
    rooted = omega (arith, counts 0, s.rooted);
    opened = λ (q i : ℕ) (h : 0 < count q (node ∷ taken)). opened q i h (same_or_other q node);
    found = λ (q x : ℕ) (h : 0 < count q (node ∷ taken)). found q x h (same_or_other q node);
    only = λ (x : ℕ) (h : 0 < count x (list ++ triangles)). only x h (count x list) refl;
  }
    where
      old : (i : ℕ) → count i (taken ++ (node ∷ stack)) ≡ count i taken + (one i node + count i stack)
      old i = omega (arith, count_append i taken (node ∷ stack), count_cons i node stack)

      counts : (i : ℕ) → count i ((node ∷ taken) ++ (children ++ stack)) ≡ count i (taken ++ (node ∷ stack)) + count i children
      counts i = omega (
        arith,
        count_append i (node ∷ taken) (children ++ stack),
        count_cons i node taken,
        count_append i children stack,
        old i,
      )

      opened : (q i : ℕ) → 0 < count q (node ∷ taken) → (q ≡ node) ⊎ (q ≡ node → ⊥) → node_touches t box q ≡ true → 0 < count i
          (children_of m t q) → 0 < count i ((node ∷ taken) ++ (children ++ stack))
      opened q i h (inl e) touching child =
          omega (
            arith,
            counts i,
            o.all_children (ap (node_touches t box) (sym e) ∙ touching) i
                (subst (λ (k : ℕ). 0 < count i (children_of m t k)) e child),
          )
      opened q i h (inr n) touching child = omega (
        arith,
        counts i,
        s.opened q i (omega (
          arith,
          count_cons q node taken,
          one_other q node
              n,
        )) touching child,
      )

      found : (q x : ℕ) → 0 < count q (node ∷ taken) → (q ≡ node) ⊎ (q ≡ node → ⊥) → node_touches t box q ≡ true → 0 < count x
          (triangles_of m t q) → triangle_touches t box x ≡ true → 0 < count x (list ++ triangles)
      found q x h (inl e) touching triangle touching' =
          omega (
            arith,
            count_append x list triangles,
            o.all_triangles (ap (node_touches t box) (sym e) ∙ touching) x
                (subst (λ (k : ℕ). 0 < count x (triangles_of m t k)) e triangle) touching',
          )
      found q x h (inr n) touching triangle touching' =
          omega (
            arith,
            count_append x list triangles,
            s.found q x (omega (arith, count_cons q node taken, one_other q node n)) touching
                triangle touching',
          )

      only : (x : ℕ) → 0 < count x (list ++ triangles) → (k : ℕ) → count x list ≡ k → triangle_touches t box x ≡ true
      only x h zero e = o.touching x (omega (arith, count_append x list triangles))
      only x h (suc k) e = s.only x (omega arith)
