-- What a node's box has to enclose: a leaf's places, or a branch's children. Assumes nothing.
use Prim.Native.Nat.{ℕ, ◌+◌, ◌-◌, ◌<◌}
use mathlib.Core.Path.{◌≡◌, ap, ◌∙◌}
use mathlib.Core.List.{List}
use native.Mathlib.Omega.{arith}
use borrow.Author.Tests.{eq-eqb, ne_eqb}
use lib.Ieee.{Float}
use Rattle.geometry.specs.declared.aabb.Aabb.{Aabb}
use Rattle.lists.specs.Lists.{range, every}
use Rattle.tree.specs.Layout.{box_at, kind_at, first_at, second_at}
use Rattle.tree_check.specs.Steps.{place_enclosed, children_enclosed, node_holds, Readable}
use Rattle.tree_check.proofs.Sound.{SoundLeaf, SoundBranch, sound_at, sound_leaf, sound_branch}

module _ (node_boxes triangle_boxes : List Float) (words order : List ℕ) (node : ℕ) where
  module _ (outer : Aabb) (first second : ℕ) (o : outer ≡ box_at node_boxes node) (f : first ≡ first_at words node)
      (s : second ≡ second_at words node) where
    pub leaf_holds : kind_at words node ≡ 0
        → every (place_enclosed outer triangle_boxes order) (range first (first + second - first))
        ≡ node_holds node_boxes triangle_boxes words
        order node
    unfolding node_holds
    leaf_holds k =
        let e : first + second - first ≡ second = omega arith in
        ap (λ (c : ℕ). every (place_enclosed outer triangle_boxes order) (range first c)) e
        ∙ simp (eq-eqb (kind_at words node) 0 k, o, f, s)

    pub branch_holds : (kind_at words node ≡ 0 → ⊥) → children_enclosed outer node_boxes first second
        ≡ node_holds node_boxes triangle_boxes words
        order node
    unfolding node_holds
    branch_holds k = simp (ne_eqb (kind_at words node) 0 k, o, f, s)

-- where the tree is readable, the places and children of a node are
module _ (n nodes : ℕ) (node_boxes triangle_boxes : List Float) (words order : List ℕ) (node : ℕ)
    (readable : Readable n nodes node_boxes triangle_boxes words order) (below : node < nodes) where
  pub leaf_here : kind_at words node ≡ 0 → SoundLeaf n (first_at words node) (second_at words node)
  leaf_here = sound_leaf n nodes words node (sound_at n nodes words readable.nodes_sound node below)

  pub branch_here : (kind_at words node ≡ 0 → ⊥) → SoundBranch nodes (first_at words node) (second_at words node)
  branch_here = sound_branch n nodes words node (sound_at n nodes words readable.nodes_sound node below)
