-- What sound nodes give: marks inside the mark area, and the clauses on kinds, children and leaves. Assumes nothing.
use Prim.Native.Nat.{ℕ, ◌+◌, ◌*◌, ◌<◌, ◌≤◌}
use mathlib.Core.Path.{◌≡◌, refl}
use mathlib.Core.Bool.{Bool, true, false, not, ◌&&◌, cond}
use mathlib.Core.List.{List}
use native.Mathlib.Omega.{arith}
use borrow.Author.Tests.{eq-eqb, ne_eqb, ltb-true, leb-true}
use lib.Dec.{eqb, leb, ltb}
use Rattle.lists.specs.Lists.{range, every}
use Rattle.tree.specs.Layout.{kind_at, first_at, second_at}
use Rattle.lists.proofs.JoinedTests.{and_first, and_second}
use Rattle.tree_check.specs.Sound.{leaf_sound, branch_sound, node_sound}
use Rattle.tree_check.specs.Marks.{second_mark, Inside}
use Rattle.lists.proofs.EveryLaws.{every_at}

pub record SoundLeaf (n start size : ℕ) : Type 0 where
  pub filled : 0 < size
  pub ends : start + size ≤ n

pub record SoundBranch (nodes left right : ℕ) : Type 0 where
  pub left_below : left < nodes
  pub right_below : right < nodes

leaf_sound_lem : (n start size : ℕ) → leaf_sound n start size ≡ true → SoundLeaf n start size
unfolding leaf_sound
leaf_sound_lem n start size h =
    record {
      filled = ltb-true 0 size (and_first (ltb 0 size) (leb (start + size) n) h);
      ends = leb-true (start + size) n (and_second (ltb 0 size) (leb (start + size) n) h);
    }

branch_sound_lem : (nodes node left right : ℕ) → branch_sound nodes node left right ≡ true → SoundBranch nodes left right
unfolding branch_sound
branch_sound_lem nodes node left right h =
    let h₁ = and_second (not (eqb left right)) (ltb node left && (ltb left nodes && (ltb node right && ltb right nodes))) h in
    let h₂ = and_second (ltb node left) (ltb left nodes && (ltb node right && ltb right nodes)) h₁ in
    let h₃ = and_second (ltb left nodes) (ltb node right && ltb right nodes) h₂ in
    record {
      left_below = ltb-true left nodes (and_first (ltb left nodes) (ltb node right && ltb right nodes) h₂);
      right_below = ltb-true right nodes (and_second (ltb node right) (ltb right nodes) h₃);
    }

either : (a b : Bool) → cond a b false ≡ true → b ≡ true
either true b h = h
either false true h = refl
either false false h = h

module _ (n nodes : ℕ) (words : List ℕ) (node : ℕ) (sound : node_sound n nodes words node ≡ true) where
  pub sound_leaf : kind_at words node ≡ 0 → SoundLeaf n (first_at words node) (second_at words node)
  unfolding node_sound
  sound_leaf k = leaf_sound_lem n _ _ (simp (eq-eqb (kind_at words node) 0 k) at sound)

  pub sound_branch : (kind_at words node ≡ 0 → ⊥) → SoundBranch nodes (first_at words node) (second_at words node)
  unfolding node_sound
  sound_branch k = branch_sound_lem nodes node _ _ (either (eqb (kind_at words node) 1) _ (simp (ne_eqb (kind_at words node) 0 k) at sound))

  -- a leaf's marks lie below 3n, and a branch's children too
  pub leaf_inside : Inside 0 n words node
  unfolding second_mark
  leaf_inside = record { inside = λ (k : kind_at words node ≡ 0). let l = sound_leaf k in (omega arith, omega arith) }

  pub branch_inside : nodes ≤ 2 * n → Inside 1 n words node
  unfolding second_mark
  branch_inside h = record {
    inside = λ (k : kind_at words node ≡ 1). let b = sound_branch (λ (z : kind_at words node ≡ 0). omega arith) in
        (omega arith, omega arith);
  }

-- all nodes' marks
module _ (n nodes : ℕ) (words : List ℕ) (sound : every (node_sound n nodes words) (range 0 nodes) ≡ true) where
  pub sound_at : (i : ℕ) → i < nodes → node_sound n nodes words i ≡ true
  sound_at i h = every_at (node_sound n nodes words) 0 nodes i sound (omega arith) (omega arith)

  pub leaves_inside_lem : (i : ℕ) → i < nodes → Inside 0 n words i
  leaves_inside_lem i h = leaf_inside n nodes words i (sound_at i h)

  pub branches_inside : nodes ≤ 2 * n → (i : ℕ) → i < nodes → Inside 1 n words i
  branches_inside k i h = branch_inside n nodes words i (sound_at i h) k
