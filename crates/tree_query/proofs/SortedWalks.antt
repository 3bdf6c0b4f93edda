-- The walk's list sorted in its place is the definition's. Assumes nothing.
use Prim.Native.Nat.{ℕ, ◌≤◌}
use mathlib.Core.Path.{◌≡◌, subst, ap, ◌∙◌}
use mathlib.Core.Bool.{true, ◌&&◌}
use mathlib.Core.List.{List, [], ◌++◌}
use native.Mathlib.Omega.{arith}
use lib.Dec.{ltb, leb, leb-zero}
use lib.ListN.{length, take, drop}
use lib.Seq.{take_at, drop_at, length-take-le, length_front}
use Rattle.geometry.specs.declared.aabb.Aabb.{Aabb}
use Rattle.lists.specs.Lists.{sorted, all_below}
use Rattle.tree.specs.Layout.{Tree}
use Rattle.tree_walk.specs.Walk.{walking, broken, ended, walk_of}
use Rattle.tree_walk.specs.Areas.{listed, Grown, GrownTo}
use Rattle.std.specs.Prelude.{Option, Some, None}
use Rattle.index_sort.specs.Sorting.{all_within}
use Rattle.index_sort.proofs.Sorting.{every_with, every_sorted}

module _ (t : Tree) (n : ℕ) (box : Aabb) where
  -- the list of the walk, sorted in its place
  module _ (entry mid : List ℕ) (found : ℕ) (r : Option ℕ) (g : ended t n box (listed [] r mid) ≡ walk_of t n box)
      (h : GrownTo n entry 0 r mid) where
    pub walk_broken : r ≡ None → broken ≡ walk_of t n box
    unfolding ended
    walk_broken e = subst (λ (x : Option ℕ). ended t n box (listed [] x mid) ≡ walk_of t n box) e g

    module _ (e : r ≡ Some found) where
      is_grown : Grown n entry mid 0 found
      is_grown = subst (λ (x : Option ℕ). GrownTo n entry 0 x mid) e h

      pub walk_inside : found ≤ length mid
      walk_inside = is_grown.inside

      pub walk_within_lem : all_within 0 n (take found mid) ≡ true
      walk_within_lem =
          every_with (λ (x : ℕ). ltb x n) (λ (x : ℕ). ltb x n) (λ (x : ℕ). leb 0 x && ltb x n)
          (λ (x : ℕ) (a : ltb x n ≡ true) (b : ltb x n ≡ true). simp (leb-zero x, a)) (take found mid) is_grown.below is_grown.below

      module _ (front : List ℕ) (l : length front ≡ length (take found mid)) (s : front ≡ sorted (take found mid)) where
        front_long : length front ≡ found
        front_long = l ∙ length-take-le found mid is_grown.inside

        front_first : take found (front ++ drop found mid) ≡ sorted (take found mid)
        front_first = take_at front (drop found mid) found front_long ∙ s

        pub walk_sorted : walking [] (take found (front ++ drop found mid)) ≡ walk_of t n box
        unfolding ended
        walk_sorted = ap (walking []) front_first ∙ subst (λ (x : Option ℕ). ended t n box (listed [] x mid) ≡ walk_of t n box) e g

        pub walk_grown : Grown n entry (front ++ drop found mid) 0 found
        walk_grown =
            record {
              grows = omega arith;
              inside = omega (arith, length_front mid front found l, is_grown.inside);
              rest = drop_at front (drop found mid) found front_long ∙ is_grown.rest;
              below = ap (all_below n) front_first ∙ every_sorted (λ (x : ℕ). ltb x n) (take found mid) ∙ is_grown.below;
            }
