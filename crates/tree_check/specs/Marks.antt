-- Inner contracts only: the mark area: how often a number is named, counted up. Definitions only. Assumes nothing.
use Rattle.std.specs.Prelude.{ℕ, zero, suc, ◌+◌, ◌-◌, ◌*◌, ◌<◌, ◌≡◌, Bool, cond, List, [], ◌∷◌, eqb, get_or}
use Rattle.lists.specs.Lists.{range, count}
use Rattle.tree.specs.Layout.{kind_at, first_at, second_at}

-- a number that stands in a list once
unfoldable pub once : List ℕ → ℕ → Bool
once xs x = eqb (count x xs) 1

-- a number whose mark is one
unfoldable pub marked_once : List ℕ → ℕ → Bool
marked_once marks x = eqb (get_or marks x 0) 1

-- the order places of a leaf
unfoldable pub places : List ℕ → ℕ → List ℕ
places words node = cond (eqb (kind_at words node) 0) (range (first_at words node) (second_at words node)) []

-- what a node of a kind marks: a branch its children; a leaf its first place and, n further on, the place past its last
unfoldable pub second_mark : ℕ → ℕ → ℕ → ℕ → ℕ
second_mark kind n first second = cond (eqb kind 1) second (n + (first + second))

unfoldable pub marked : ℕ → ℕ → List ℕ → ℕ → List ℕ
marked kind n words node =
    cond (eqb (kind_at words node) kind) (first_at words node ∷ (second_mark kind n (first_at words node) (second_at words node) ∷ [])) []

-- both marks lie in the mark area
pub record Inside (kind n : ℕ) (words : List ℕ) (node : ℕ) : Type 0 where
  pub inside : kind_at words node ≡ kind → (first_at words node < 3 * n) ×
      (second_mark kind n (first_at words node) (second_at words node) < 3 * n)

-- how many leaves hold the place before p, from the marks: those begun less those ended
unfoldable pub leaves_at : ℕ → List ℕ → ℕ → ℕ
leaves_at n marks zero = 0
leaves_at n marks (suc p) = leaves_at n marks p + get_or marks p 0 - get_or marks (n + p) 0

-- one leaf holds p
unfoldable pub in_one_leaf : ℕ → List ℕ → ℕ → Bool
in_one_leaf n marks p = eqb (leaves_at n marks (suc p)) 1
