-- What the slab interval holds: of the distances it held before an axis, exactly those between the axis' two rounded quotients. Assumes
-- nothing.
use mathlib.Core.Path.{◌≡◌, refl, sym, ap, ◌∙◌}
use mathlib.Core.Bool.{Bool, true, false, cond, ◌&&◌, true≢false}
use lib.Ieee.{Float, is_nan, lt, le}
use Rattle.arithmetic.specs.Extremes.{minimum_of, maximum_of}
use Rattle.arithmetic.proofs.Order.{not_lt_of_le, le_transitive}
use Rattle.arithmetic.proofs.ExtremesLimits.{minimum_keeps, maximum_keeps, maximum_at_most, minimum_at_least}
use Rattle.grid_steps.specs.Slab.{kept, cut, Interval, Within, Miss}

-- ---- on truth values
never_both : (x y : Bool) → (x ≡ true → y ≡ true → ⊥) → false ≡ (x && y)
never_both true true h = absurd (h refl refl)
never_both true false h = refl
never_both false y h = refl

-- ---- the interval

-- the distances that an interval holds
abbrev pub holds : Interval → Float → Bool
holds (Within entry exit) t = le entry t && le t exit
holds Miss t = false

-- an interval that is not kept held nothing
kept_holds : (near far t : Float) → holds (kept near far) t ≡ (le near t && le t far)
unfolding kept
kept_holds near far t = go (lt far near) refl
  where
    go : (c : Bool) → lt far near ≡ c → holds (cond c Miss (Within near far)) t ≡ (le near t && le t far)
    go true h =
        never_both (le near t) (le t far)
        (λ (p : le near t ≡ true) (q : le t far ≡ true). true≢false (sym h ∙ not_lt_of_le near far (le_transitive near t far p q)))
    go false h = refl

-- The cut by one axis, whatever the axis: a distance is held afterwards exactly if it was held before, and lies at or past the lesser and
-- at or before the greater of the two quotients.
pub cut_holds : (entry exit first second t : Float) → is_nan entry ≡ false → is_nan exit ≡ false → is_nan first ≡ false → is_nan second
    ≡ false
    → holds (cut entry exit first second) t ≡ ((le entry t && le (minimum_of first second) t) && (le t exit && le t (maximum_of first
    second)))
unfolding cut
cut_holds entry exit first second t p q r s =
    kept_holds (maximum_of entry (minimum_of first second)) (minimum_of exit (maximum_of first second)) t
    ∙ ap (λ (b : Bool). b && le t (minimum_of exit (maximum_of first second)))
    (maximum_at_most entry (minimum_of first second) t p
    (minimum_keeps (λ (x : Float). is_nan x ≡ false) first second r s))
    ∙ ap (λ (b : Bool). (le entry t && le (minimum_of first second) t) && b)
    (minimum_at_least exit (maximum_of first second) t q
    (maximum_keeps (λ (x : Float). is_nan x ≡ false) first second r s))
