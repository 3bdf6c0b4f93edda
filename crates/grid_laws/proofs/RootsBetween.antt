-- The first root lies from 0 to 1. Assumes nothing.
use mathlib.Core.Bool.{Bool, true, false, cond, beq}
use mathlib.Core.List.{List, [], ◌∷◌}
use Prim.Native.Nat.{ℕ, zero, suc}
use lib.Ieee.{Float, nan, le}
use lib.ListN.{get_or}
use Rattle.arithmetic.specs.Basic.{absolute, sign_positive}
use Rattle.arithmetic.specs.Ordering.{total_order}
use Rattle.vectors.specs.Numbers.{zeroᶠ, oneᶠ}
use Rattle.cubic.specs.Polynomial.{cubic_of, finite_cubic, evaluate, root_tolerance}
use Rattle.cubic.specs.Turns.{extrema, AllBetween, none_left, one_more}
use Rattle.cubic.specs.Halving.{middle_of, halve_at, halve, halvings, settled}
use Rattle.cubic.specs.Roots.{insert, sorted, points, root_between, search_on, search_from, search_list, root_of_cubic, first_cubic_root}
use Rattle.cubic.specs.declared.polynomial.Cubic.{Cubic}
use Rattle.cubic.specs.declared.halving.Halving.{Halving}
use Rattle.cubic.specs.declared.halving.Halving.TheVariants.{Open, Found}
use Rattle.cubic.specs.Roots.{Root, At, None, Overflow}
use Rattle.cubic.proofs.CubicLaws.{extrema_between}
use Rattle.cubic.proofs.UnitLaws.{Below, zero_below, one_below, between_below, middle_below}

-- ---- the points of the search
data AllBelow : List Float → Type 0 where
  no_point : AllBelow []
  point : {u : Float} {us : List Float} → Below 1 u → AllBelow us → AllBelow (u ∷ us)

chosen_points : (b : Bool) {us vs : List Float} → AllBelow us → AllBelow vs → AllBelow (cond b us vs)
chosen_points true p q = p
chosen_points false p q = q

insert_below : (u : Float) (us : List Float) → Below 1 u → AllBelow us → AllBelow (insert u us)
unfolding insert
insert_below u [] b no_point = point b no_point
insert_below u (v ∷ vs) b (point c p) = chosen_points (total_order u v) (point b (point c p)) (point c (insert_below u vs b p))

sorted_below : (us : List Float) → AllBelow us → AllBelow (sorted us)
unfolding sorted
sorted_below [] no_point = no_point
sorted_below (u ∷ us) (point b p) = insert_below u (sorted us) b (sorted_below us p)

turns_below : (us : List Float) → AllBetween us → AllBelow us
turns_below [] none_left = no_point
turns_below (u ∷ us) (one_more h p) = point (between_below u h) (turns_below us p)

points_below : (p : Cubic) → AllBelow (points (extrema p))
unfolding points
points_below p = sorted_below (zeroᶠ ∷ oneᶠ ∷ extrema p) (point zero_below (point one_below (turns_below (extrema p) (extrema_between p))))

-- ---- the halvings
data HalvedBelow : Halving → Type 0 where
  open_below : {low high value : Float} → Below 1 low → Below 1 high → HalvedBelow (Open low high value)
  found_below : {u : Float} → Below 1 u → HalvedBelow (Found u)

chosen_half : (b : Bool) {h k : Halving} → HalvedBelow h → HalvedBelow k → HalvedBelow (cond b h k)
chosen_half true p q = p
chosen_half false p q = q

-- a root that lies from 0 to 1, or none
pub data RootWithin : Root → Type 0 where
  root_at_lem : {u : Float} → Below 1 u → RootWithin (At u)
  no_root : RootWithin None
  root_refused : RootWithin Overflow

chosen_root : (b : Bool) {r s : Root} → RootWithin r → RootWithin s → RootWithin (cond b r s)
chosen_root true p q = p
chosen_root false p q = q

module _ (p : Cubic) (tolerance : Float) where
  halve_below : (h : Halving) → HalvedBelow h → HalvedBelow (halve p tolerance h)
  unfolding halve halve_at
  halve_below (Found u) (found_below b) = found_below b
  halve_below (Open low high value) (open_below a b) =
      let m = middle_below a b in
      chosen_half (le (absolute (evaluate p (middle_of low high))) tolerance) (found_below m)
      (chosen_half (beq (sign_positive (evaluate p (middle_of low high))) (sign_positive value)) (open_below m b) (open_below a m))

  halvings_below : (n : ℕ) (h : Halving) → HalvedBelow h → HalvedBelow (halvings p tolerance n h)
  unfolding halvings
  halvings_below zero h b = b
  halvings_below (suc n) h b = halvings_below n (halve p tolerance h) (halve_below h b)

  settled_below : (h : Halving) → HalvedBelow h → Below 1 (settled h)
  unfolding settled
  settled_below (Found u) (found_below b) = b
  settled_below (Open low high value) (open_below a b) = middle_below a b

  -- ---- the search
  between_within : (low high : Float) → Below 1 low → Below 1 high → RootWithin (root_between p tolerance low high)
  unfolding root_between
  between_within low high a b =
      let start = Open low high (evaluate p low) in
      chosen_root (le (absolute (evaluate p low)) tolerance) (root_at_lem a)
      (chosen_root (le (absolute (evaluate p high)) tolerance) (root_at_lem b)
      (chosen_root (beq (sign_positive (evaluate p low)) (sign_positive (evaluate p high))) no_root
      (root_at_lem (settled_below (halvings p tolerance 64 start) (halvings_below 64 start (open_below a b))))))

  on_within : (found : Root) (low high : Float) → RootWithin found → Below 1 low → Below 1 high
      → RootWithin (search_on found p tolerance low high)
  unfolding search_on
  on_within (At u) low high (root_at_lem c) a b = root_at_lem c
  on_within None low high no_root a b = between_within low high a b
  on_within Overflow low high root_refused a b = root_refused

  from_within : (found : Root) (low : Float) (us : List Float) → RootWithin found → Below 1 low → AllBelow us
      → RootWithin (search_from found p tolerance low us)
  unfolding search_from
  from_within found low [] w a no_point = w
  from_within found low (u ∷ us) w a (point b q) = from_within (search_on found p tolerance low u) u us (on_within found low u w a b) b q

  list_within : (us : List Float) → AllBelow us → RootWithin (search_list p tolerance us)
  unfolding search_list
  list_within [] no_point = no_root
  list_within (u ∷ us) (point b q) = from_within None u us no_root b q

cubic_within : (p : Cubic) → RootWithin (root_of_cubic p)
unfolding root_of_cubic
cubic_within p = chosen_root (finite_cubic p) (list_within p (root_tolerance p) (points (extrema p)) (points_below p)) root_refused

pub first_root_within : (ys : List Float) → RootWithin (first_cubic_root ys)
unfolding first_cubic_root
first_root_within ys = cubic_within (cubic_of (get_or ys 0 nan) (get_or ys 1 nan) (get_or ys 2 nan) (get_or ys 3 nan))
