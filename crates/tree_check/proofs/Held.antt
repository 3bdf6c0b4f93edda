-- The leaves that hold a place, from how many begin there and how many have ended before. Assumes nothing.
use Prim.Native.Nat.{ℕ, ◌+◌, ◌-◌}
use mathlib.Core.Path.{◌≡◌}
use mathlib.Core.Bool.{true, false}
use mathlib.Core.List.{List}
use native.Mathlib.Omega.{arith}
use native.Mathlib.Numerals.{add-one}
use borrow.Author.Tests.{eq-eqb, ne_eqb}
use lib.ListN.{get_or}
use Rattle.tree_check.specs.Marks.{leaves_at, in_one_leaf}

-- the code's test, without a difference
module _ (n : ℕ) (marks : List ℕ) (p held : ℕ) (e : held ≡ leaves_at n marks p) where
  pub held_once : held + get_or marks p 0 ≡ get_or marks (n + p) 0 + 1 → leaves_at n marks (p + 1) ≡ 1
  unfolding leaves_at
  held_once h = rw add-one (omega arith)

  pub not_held_once : (held + get_or marks p 0 ≡ get_or marks (n + p) 0 + 1 → ⊥) → in_one_leaf n marks p ≡ false
  unfolding in_one_leaf leaves_at
  not_held_once h = ne_eqb _ 1 (λ (f : leaves_at n marks p + get_or marks p 0 - get_or marks (n + p) 0 ≡ 1). h (omega arith))

pub one_held : (n : ℕ) (marks : List ℕ) (p : ℕ) → leaves_at n marks (p + 1) ≡ 1 → in_one_leaf n marks p ≡ true
unfolding in_one_leaf
one_held n marks p h = eq-eqb _ 1 (rw add-one at h)
