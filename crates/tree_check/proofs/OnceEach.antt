-- Numbers whose marks are one, and numbers that stand in a list once. Assumes nothing.
use Prim.Native.Nat.{ℕ, ◌+◌, ◌<◌, ◌≤◌}
use mathlib.Core.Path.{◌≡◌, ap}
use mathlib.Core.List.{List}
use lib.Dec.{eqb}
use lib.ListN.{get_or}
use Rattle.lists.specs.Lists.{range, every, count}
use Rattle.tree_check.specs.Marks.{once, marked_once}
use Rattle.lists.proofs.EveryLaws.{every_agree}

-- marks that count a list
pub marked_once_is : (marks l : List ℕ) (start size : ℕ) → ((x : ℕ) → start ≤ x → x < start + size → get_or marks x 0 ≡ count x l)
    → every (marked_once marks) (range start size) ≡ every (once l) (range start size)
unfolding marked_once once
marked_once_is marks l start size h = every_agree _ _ start size (λ x low high. ap (λ (k : ℕ). eqb k 1) (h x low high))
