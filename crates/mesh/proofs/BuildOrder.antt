-- Sorting, halving and the order that the build leaves keep each number of a range, as often as it stands there, and its length; and a
-- shape of triangles has no empty leaf. Assumes nothing.
use Prim.Native.Nat.{ℕ, zero, suc, ◌+◌, ◌-◌, ◌/◌, ◌≤◌, ◌<◌}
use mathlib.Core.Path.{◌≡◌, refl, sym, ap, ◌∙◌}
use mathlib.Core.Bool.{Bool, true, false, cond}
use mathlib.Core.List.{List, [], ◌∷◌}
use native.Mathlib.Omega.{arith}
use lib.Dec.{leb}
use lib.Ieee.{Float}
use lib.ListN.{length, get_or, take, drop, length-drop, take-append-drop}
use lib.Seq.{length-take-le}
use borrow.Author.Tests.{leb-false}
use Rattle.lists.specs.Lists.{count}
use Rattle.lists.proofs.CountLaws.{one_same, count_cons, count_append}
use Rattle.lists.proofs.SortLaws.{count_sort_by, same_length}
use Rattle.tree_build.specs.Shape.{Shape, leaf, branch, shape_within, shape_of, size_of}
use Rattle.tree_ranges.specs.Extents.{longest_axis, extent_of}
use Rattle.tree_ranges.specs.Keys.{stands_before}
use Rattle.tree_build.specs.Ranges.{sorted_range, left_range, right_range, order_below}

-- what stands in a list is counted there
pub listed_at : (l : List ℕ) (i : ℕ) → i < length l → 0 < count (get_or l i 0) l
listed_at [] i h = absurd (omega arith)
listed_at (x ∷ l) zero h = omega (arith, count_cons x x l, one_same x x refl)
listed_at (x ∷ l) (suc i) h = omega (arith, count_cons (get_or l i 0) x l, listed_at l i (omega arith))

-- ---- the halves of a sorted range
module _ (boxes : List Float) (left : Shape) (ts : List ℕ) where
  count_sorted_range : (x : ℕ) → count x (sorted_range boxes ts) ≡ count x ts
  unfolding sorted_range
  count_sorted_range x = count_sort_by (stands_before boxes (longest_axis (extent_of boxes ts))) x ts

  length_sorted_range : length (sorted_range boxes ts) ≡ length ts
  length_sorted_range = same_length (sorted_range boxes ts) ts count_sorted_range

  pub count_halves : (x : ℕ) → count x (left_range boxes left ts) + count x (right_range boxes left ts) ≡ count x ts
  unfolding left_range right_range
  count_halves x =
      sym (count_append x (take (size_of left) (sorted_range boxes ts)) (drop (size_of left) (sorted_range boxes ts)))
      ∙ ap (count x) (take-append-drop (size_of left) (sorted_range boxes ts))
      ∙ count_sorted_range x

  pub length_left : size_of left ≤ length ts → length (left_range boxes left ts) ≡ size_of left
  unfolding left_range
  length_left h = length-take-le (size_of left) (sorted_range boxes ts) (omega (arith, length_sorted_range))

  pub length_right : length (right_range boxes left ts) ≡ length ts - size_of left
  unfolding right_range
  length_right = length-drop (size_of left) (sorted_range boxes ts) ∙ ap (λ (k : ℕ). k - size_of left) length_sorted_range

-- ---- the order below a shape
module _ (boxes : List Float) where
  pub count_order : (s : Shape) (ts : List ℕ) (x : ℕ) → count x (order_below boxes s ts) ≡ count x ts
  unfolding order_below
  count_order (leaf n) ts x = refl
  count_order (branch l r) ts x =
      omega (
        arith,
        count_append x (order_below boxes l (left_range boxes l ts)) (order_below boxes r (right_range boxes l ts)),
        count_order l (left_range boxes l ts) x,
        count_order r (right_range boxes l ts) x,
        count_halves boxes l ts x,
      )

  pub length_order : (s : Shape) (ts : List ℕ) → length (order_below boxes s ts) ≡ length ts
  length_order s ts = same_length (order_below boxes s ts) ts (count_order s ts)

-- ---- shapes without empty leaves
abbrev pub Filled : Shape → Type 0
Filled (leaf n) = 0 < n
Filled (branch l r) = Filled l × Filled r

filled_either : (b : Bool) (n : ℕ) (l r : Shape) → 0 < n → (b ≡ false → Filled (branch l r)) → Filled (cond b (leaf n) (branch l r))
filled_either true n l r p h = p
filled_either false n l r p h = h refl

filled_within : (k n : ℕ) → 0 < n → Filled (shape_within k n)
unfolding shape_within
filled_within zero n h = h
filled_within (suc k) n h =
    filled_either (leb n 4) n (shape_within k (n / 2)) (shape_within k (n - n / 2)) h
    (λ e. (filled_within k (n / 2) (omega (arith, leb-false n 4 e)), filled_within k (n - n / 2) (omega (arith, leb-false n 4 e))))

pub shape_filled : (n : ℕ) → 0 < n → Filled (shape_of n)
unfolding shape_of
shape_filled n h = filled_within n n h

pub filled_size : (s : Shape) → Filled s → 0 < size_of s
unfolding size_of
filled_size (leaf n) f = f
filled_size (branch l r) f = omega (arith, filled_size l f.0)
