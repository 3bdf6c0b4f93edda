-- What holds of a hit's distance, by how the answer is made; a hit of the cast at a plane has a distance that is a number and in the ray's
-- range. Assumes nothing.
use Prim.Native.Nat.{ℕ}
use mathlib.Core.Path.{◌≡◌, refl, subst}
use mathlib.Core.Bool.{Bool, true, false, cond}
use lib.Ieee.{Float, lt, le, is_nan}
use Rattle.lists.proofs.JoinedTests.{neither_first}
use Rattle.arithmetic.specs.Basic.{is_finite, absolute}
use Rattle.arithmetic.proofs.Numbers.{finite_number}
use Rattle.arithmetic.proofs.Order.{le_of_not_lt}
use Rattle.vectors.specs.Numbers.{◌-ᶠ◌, ◌/ᶠ◌}
use Rattle.vectors.specs.Vector.{checked_dot}
use Rattle.geometry.specs.Segment.{ray_admitted}
use Rattle.vectors.specs.declared.vec3.Vec3.{Vec3}
use Rattle.std.specs.Prelude.{Option}
use Rattle.std.specs.Prelude.{Some, None}
use Rattle.geometry.specs.declared.ray.Ray.{Ray}
use Rattle.casts.specs.Answer.{Answer, hit, none, refused, with_value, with_normal, invalid_input, bad_shape, overflow}
use Rattle.casts.specs.Surface.{off_segment, facing}
use Rattle.casts.specs.Plane.{parallel, plane_admitted, plane_at, plane_cast, ray_plane}
use Rattle.casts.specs.declared.plane.Plane.{Plane}
use Rattle.casts.proofs.AnswerLists.{OfHit, none_not_hit, hit_not_refused}

-- ---- what holds of the distance of a hit, by how the answer is made
module _ (P : Float → Type 0) where
  pub of_none : OfHit P none
  of_none n d h = absurd (none_not_hit none n d refl h)

  pub of_refused : (number : ℕ) → OfHit P (refused number)
  of_refused number n d h = absurd (hit_not_refused (refused number) n d number h refl)

  same_hit : (n m : Vec3) (d e : Float) → hit n d ≡ hit m e → d ≡ e
  same_hit n m d e h = cc

  pub of_hit : (normal : Vec3) (distance : Float) → P distance → OfHit P (hit normal distance)
  of_hit normal distance p n d h = subst P (same_hit normal n distance d h) p

  pub of_cond : (test : Bool) (x y : Answer) → (test ≡ true → OfHit P x) → (test ≡ false → OfHit P y) → OfHit P (cond test x y)
  of_cond true x y p q = p refl
  of_cond false x y p q = q refl

  pub of_value : (c : Option Float) (next : Float → Answer) → ((x : Float) → OfHit P (next x)) → OfHit P (with_value c next)
  of_value (Some x) next p = p x
  of_value None next p = of_refused overflow

  pub of_with_normal : (t : Option Vec3) (number : ℕ) (next : Vec3 → Answer) → ((normal : Vec3) → OfHit P (next normal))
      → OfHit P (with_normal t number next)
  of_with_normal (Some normal) number next p = p normal
  of_with_normal None number next p = of_refused number

-- ---- the range

-- a distance that is a number, not below near and not above the maximum
pub record Measured (r : Ray) (distance : Float) : Type 0 where
  pub number : is_nan distance ≡ false
  pub in_range_lem : off_segment r distance ≡ false

-- "hits from a near distance on"
pub not_below_near : (r : Ray) (distance : Float) → Measured r distance → lt distance r.near ≡ false
unfolding off_segment
not_below_near r distance m = neither_first (lt distance r.near) (lt r.max_distance distance) m.in_range_lem

pub from_near_on : (r : Ray) (distance : Float) → is_nan r.near ≡ false → Measured r distance → le r.near distance ≡ true
from_near_on r distance near m = le_of_not_lt r.near distance near m.number (not_below_near r distance m)

-- ---- the cast at a plane
module _ (r : Ray) where
  plane_at_measured : (plane : Plane) (denominator distance : Float) → OfHit (Measured r) (plane_at plane r denominator distance)
  unfolding plane_at
  plane_at_measured plane denominator distance =
      let kept = hit (facing plane.normal denominator) distance in
      of_cond (Measured r) (is_finite distance) (cond (off_segment r distance) none kept) (refused overflow) (λ finite.
      of_cond (Measured r) (off_segment r distance) none kept (λ _. of_none (Measured r)) (λ inside.
      of_hit (Measured r) (facing plane.normal denominator) distance
      (record { number = finite_number distance finite; in_range_lem = inside })))
      (λ _. of_refused (Measured r) overflow)

  plane_cast_measured : (plane : Plane) → OfHit (Measured r) (plane_cast plane r)
  unfolding plane_cast
  plane_cast_measured plane =
      let at : Float → Float → Answer = λ (denominator height : Float). plane_at plane r denominator
      ((plane.distance -ᶠ height) /ᶠ denominator) in
      let from : Float → Answer = λ (denominator : Float). with_value (checked_dot r.origin plane.normal) (at denominator) in
      of_value (Measured r) (checked_dot r.direction plane.normal)
      (λ (denominator : Float). cond (le (absolute denominator) parallel) none (from denominator))
      (λ (denominator : Float).
      of_cond (Measured r) (le (absolute denominator) parallel) none (from denominator) (λ _. of_none (Measured r)) (λ _.
      of_value (Measured r) (checked_dot r.origin plane.normal) (at denominator)
      (λ (height : Float). plane_at_measured plane denominator _)))

  pub ray_plane_hit_measured : (plane : Plane) → OfHit (Measured r) (ray_plane plane r)
  unfolding ray_plane
  ray_plane_hit_measured plane =
      of_cond (Measured r) (ray_admitted r) (cond (plane_admitted plane) (plane_cast plane r) (refused bad_shape)) (refused invalid_input)
      (λ _.
      of_cond (Measured r) (plane_admitted plane) (plane_cast plane r) (refused bad_shape) (λ _. plane_cast_measured plane)
      (λ _. of_refused (Measured r) bad_shape))
      (λ _. of_refused (Measured r) invalid_input)
