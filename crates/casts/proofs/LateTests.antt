-- A height over a plane that is not finite makes a distance that is not finite, which refuses with the same number: so the height is tested
-- with the distance. Assumes nothing.
use mathlib.Core.Path.{◌≡◌, refl}
use mathlib.Core.Bool.{Bool, true, false, cond, beq, not, true≢false}
use lib.Ieee.{Float, nan, inf, fin, add, sub, neg, div}
use Rattle.arithmetic.specs.Basic.{is_finite}
use Rattle.vectors.specs.Numbers.{◌-ᶠ◌, ◌/ᶠ◌}
use Rattle.vectors.specs.Vector.{dot_of, checked_dot}
use Rattle.std.specs.Prelude.{Some, None}
use Rattle.geometry.specs.declared.ray.Ray.{Ray}
use Rattle.casts.specs.Answer.{Answer, refused, overflow, with_value}
use Rattle.casts.specs.Plane.{plane_at}
use Rattle.casts.specs.declared.plane.Plane.{Plane}

pub endless_or_nan : (b : Bool) (s : Bool) → is_finite (cond b (inf s) nan) ≡ false
unfolding is_finite
endless_or_nan true s = refl
endless_or_nan false s = refl

-- what is taken off stays in the difference
difference_endless : (x h : Float) → is_finite h ≡ false → is_finite (x -ᶠ h) ≡ false
unfolding is_finite sub add neg
difference_endless nan h e = refl
difference_endless (inf s) nan e = refl
difference_endless (inf s) (inf t) e = endless_or_nan (beq s (not t)) s
difference_endless (inf s) (fin t n d) e = refl
difference_endless (fin s m e') nan e = refl
difference_endless (fin s m e') (inf t) e = refl
difference_endless (fin s m e') (fin t n d) e = absurd (true≢false e)

-- and so does a numerator in the quotient
quotient_endless : (x y : Float) → is_finite x ≡ false → is_finite (x /ᶠ y) ≡ false
unfolding is_finite div
quotient_endless nan y e = refl
quotient_endless (inf s) nan e = refl
quotient_endless (inf s) (inf t) e = refl
quotient_endless (inf s) (fin t n d) e = refl
quotient_endless (fin s m e') y e = absurd (true≢false e)

module _ (plane : Plane) (r : Ray) (denominator : Float) where
  abbrev at : Float → Answer
  at height = plane_at plane r denominator ((plane.distance -ᶠ height) /ᶠ denominator)

  endless_refused : (h : Float) → is_finite h ≡ false → at h ≡ refused overflow
  unfolding plane_at
  endless_refused h e =
      simp (quotient_endless (plane.distance -ᶠ h) denominator (difference_endless plane.distance h e))

  tested : (h : Float) (b : Bool) → is_finite h ≡ b → at h ≡ with_value (cond b (Some h) None) at
  tested h true e = refl
  tested h false e = endless_refused h e

  pub height_tested_late : at (dot_of r.origin plane.normal) ≡ with_value (checked_dot r.origin plane.normal) at
  unfolding checked_dot
  height_tested_late = tested (dot_of r.origin plane.normal) (is_finite (dot_of r.origin plane.normal)) refl
