-- On one axis: where the segment meets a triangle on whole millimetres, the sides of their boxes touch. Assumes nothing.
use mathlib.Core.Path.{◌≡◌}
use mathlib.Core.Bool.{Bool, true, false}
use Prim.Native.Nat.{ℕ, ◌+◌, ◌*◌, ◌≤◌, ◌<◌}
use native.Mathlib.Omega.{arith}
use lib.IntN.{ℤ, pos, negsuc, ◌-ℤ◌, ◌*ℤ◌}
use lib.Ieee.{Float, is_nan}
use Rattle.lists.proofs.JoinedTests.{and_both}
use Rattle.arithmetic.specs.Extremes.{minimum_of, maximum_of}
use Rattle.arithmetic.proofs.Order.{le_transitive}
use Rattle.arithmetic.proofs.ExtremesOrder.{minimum_below_first, minimum_below_second, maximum_above_first, maximum_above_second}
use Rattle.arithmetic.proofs.WholeValues.{Is}
use Rattle.geometry.specs.Box.{touch_side}
use Rattle.exact_depth.specs.Meeting.{mix}
use Rattle.wide_integers.proofs.Integers.{pp, np}
use Rattle.wide_integers.proofs.Polynomials.{own, own_pos, own_neg, rep_mul}
use Rattle.wide_integers.proofs.Order.{rep_same}
use Rattle.exact_depth.proofs.Standing.{Stands, is_number}
use Rattle.exact_agreement.proofs.Crossings.{mean_rep}
use Rattle.exact_agreement.proofs.Means.{greatest_above, least_below}

-- corners a, b and c; from o to e; t / D is the depth
module _ (a b c o e : Float) (A B C O : ℤ) (va : Stands a A) (vb : Stands b B) (vc : Stands c C) (vo : Stands o O)
    (F i j k : ℕ) (t : ℤ) (some : 0 < i + j + k) (least : np t ≤ pp t) (most : pp t ≤ F * (i + j + k) + np t) where
  abbrev touch : Bool
  touch = touch_side (minimum_of (minimum_of a b) c) (maximum_of (maximum_of a b) c) (minimum_of o e) (maximum_of o e)

  no : is_nan o ≡ false
  no = is_number o (pp O) (np O) vo

  -- forward: e = o + F
  pub ahead : Is e (pp O + F) (np O) → mix i j k (A -ℤ O) (B -ℤ O) (C -ℤ O) ≡ t *ℤ pos 1 → touch ≡ true
  unfolding touch_side
  ahead ve h =
      let m = rep_same (mean_rep i j k A B C O) (rep_mul (own t) (own_pos 1)) h in
      let ne = is_number e (pp O + F) (np O) ve in
      and_both _ _
      (le_transitive _ e _
      (least_below a b c e (pp A) (np A) (pp B) (np B) (pp C) (np C) (pp O + F) (np O) va vb vc ve i j k some (omega (arith, m, most)))
      (maximum_above_second o e no ne))
      (le_transitive _ o _ (minimum_below_first o e no ne)
      (greatest_above a b c o (pp A) (np A) (pp B) (np B) (pp C) (np C) (pp O) (np O) va vb vc vo i j k some (omega (arith, m, least))))

  -- backward: e = o - F
  pub behind : Is e (pp O) (np O + F) → mix i j k (A -ℤ O) (B -ℤ O) (C -ℤ O) ≡ t *ℤ negsuc 0 → touch ≡ true
  unfolding touch_side
  behind ve h =
      let m = rep_same (mean_rep i j k A B C O) (rep_mul (own t) (own_neg 0)) h in
      let ne = is_number e (pp O) (np O + F) ve in
      and_both _ _
      (le_transitive _ o _
      (least_below a b c o (pp A) (np A) (pp B) (np B) (pp C) (np C) (pp O) (np O) va vb vc vo i j k some (omega (arith, m, least)))
      (maximum_above_first o e no ne))
      (le_transitive _ e _ (minimum_below_second o e no ne)
      (greatest_above a b c e (pp A) (np A) (pp B) (np B) (pp C) (np C) (pp O) (np O + F) va vb vc ve i j k some (omega (arith, m, most))))

  -- across: e = o
  pub across : Is e (pp O) (np O) → mix i j k (A -ℤ O) (B -ℤ O) (C -ℤ O) ≡ t *ℤ pos 0 → touch ≡ true
  unfolding touch_side
  across ve h =
      let m = rep_same (mean_rep i j k A B C O) (rep_mul (own t) (own_pos 0)) h in
      let ne = is_number e (pp O) (np O) ve in
      and_both _ _
      (le_transitive _ o _
      (least_below a b c o (pp A) (np A) (pp B) (np B) (pp C) (np C) (pp O) (np O) va vb vc vo i j k some (omega (arith, m)))
      (maximum_above_first o e no ne))
      (le_transitive _ o _ (minimum_below_first o e no ne)
      (greatest_above a b c o (pp A) (np A) (pp B) (np B) (pp C) (np C) (pp O) (np O) va vb vc vo i j k some (omega (arith, m))))
