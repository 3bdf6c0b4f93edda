-- A cross stands for its normal: at one triangle, and in what many give. Assumes nothing.
use Prim.Native.Nat.{ℕ}
use mathlib.Core.Path.{◌≡◌, refl, ◌∙◌}
use mathlib.Core.Bool.{Bool, true, false, cond}
use lib.Ieee.{Float, lt}
use Rattle.arithmetic.specs.Basic.{is_finite}
use Rattle.vectors.specs.Numbers.{min_positive}
use Rattle.vectors.specs.Vector.{cross_of, dot_of, normalizable, over_length, try_normalize}
use Rattle.vectors.proofs.NormalLaws.{told_unit}
use Rattle.vectors.specs.declared.vec3.Vec3.{Vec3}
use Rattle.std.specs.Prelude.{Some}
use Rattle.geometry.specs.declared.ray.Ray.{Ray}
use Rattle.casts.specs.Answer.{Answer, hit, none, refused, no_normal}
use Rattle.triangle_cast.specs.Triangle.{triangle_normal}
use Rattle.nearest_hit.specs.Nearest.{Indexed, hit_at, no_hit, stopped, next_of}
use Rattle.nearest_hit.specs.Deferred.{unit_of, faced, faced_answer, faced_indexed}

-- ---- one triangle
module _ (r : Ray) (a b : Vec3) (distance : Float) where
  pub cross_faces : normalizable (cross_of a b) ≡ true → hit (faced r (cross_of a b)) distance ≡ triangle_normal r a b distance
  unfolding faced triangle_normal try_normalize
  cross_faces h = simp h

  pub cross_without : normalizable (cross_of a b) ≡ false → refused no_normal ≡ triangle_normal r a b distance
  unfolding triangle_normal try_normalize
  cross_without h = simp h

-- ---- many
module _ (r : Ray) where
  faced_cond : (b : Bool) (v w : Vec3) (d e : Float) (i j : ℕ)
      → faced_indexed r (cond b (hit_at v d i) (hit_at w e j)) ≡ cond b (hit_at (faced r v) d i) (hit_at (faced r w) e j)
  faced_cond true v w d e i j = refl
  faced_cond false v w d e i j = refl

  pub next_faced : (best : Indexed) (index : ℕ) (answer : Answer)
      → faced_indexed r (next_of best index answer) ≡ next_of (faced_indexed r best) index (faced_answer r answer)
  unfolding next_of
  next_faced (stopped number) index answer = refl
  next_faced no_hit index (hit cross distance) = refl
  next_faced no_hit index none = refl
  next_faced no_hit index (refused number) = refl
  next_faced (hit_at v d i) index (hit cross distance) = faced_cond (lt distance d) cross v distance d index i
  next_faced (hit_at v d i) index none = refl
  next_faced (hit_at v d i) index (refused number) = refl

-- ---- the unit of a vector that has a direction
module _ (v : Vec3) (h : normalizable v ≡ true) where
  told : try_normalize v ≡ Some (unit_of v)
  unfolding try_normalize
  told = simp h

  pub unit_told : (unit : Vec3) → Some unit ≡ try_normalize v → unit ≡ unit_of v
  unit_told unit e = cc (e ∙ told)

  -- where the dot tells the length
  pub unit_by_length : (d : Float) → d ≡ dot_of v v → is_finite d ≡ true → lt d min_positive ≡ false → over_length v ≡ unit_of v
  unit_by_length d e p q = unit_told (over_length v) (told_unit v d (over_length v) e p q refl)
