-- Inner contracts only: answers that have the edges' cross in place of the normal, and what they stand for. Definitions only. Assumes
-- nothing.
use Rattle.std.specs.Prelude.{◌≡◌, true, cond, Float, Option, Some, None, Result, Ok, Err}
use Rattle.vectors.specs.Vector.{dot_of, normalizable, dot_tells, scaled_to_one, over_length}
use Rattle.vectors.specs.declared.vec3.Vec3.{Vec3}
use Rattle.geometry.specs.declared.ray.Ray.{Ray}
use Rattle.casts.specs.Answer.{Answer, hit, none, refused, number_of}
use Rattle.casts.specs.declared.answer.Refusal.{Refusal}
use Rattle.nearest_hit.specs.declared.deferred.NearHit.{NearHit}
use Rattle.casts.specs.Surface.{facing}
use Rattle.nearest_hit.specs.Nearest.{Indexed, hit_at, no_hit, stopped}

-- the unit of a vector that has a direction
abbrev pub unit_of : Vec3 → Vec3
unit_of v = over_length (cond (dot_tells v) v (scaled_to_one v))

-- the normal that a cross stands for: its unit, turned to face the ray
unfoldable pub faced : Ray → Vec3 → Vec3
faced r cross = facing (unit_of cross) (dot_of r.direction (unit_of cross))

abbrev pub faced_answer : Ray → Answer → Answer
faced_answer r (hit cross distance) = hit (faced r cross) distance
faced_answer r none = none
faced_answer r (refused number) = refused number

abbrev pub faced_indexed : Ray → Indexed → Indexed
faced_indexed r (hit_at cross distance index) = hit_at (faced r cross) distance index
faced_indexed r no_hit = no_hit
faced_indexed r (stopped number) = stopped number

-- ---- what the pass holds

-- what each case says: without the cross's dot with itself
abbrev pub says_near : Result (Option NearHit) Refusal → Indexed
says_near (Ok (Some h)) = hit_at h.cross h.distance h.index
says_near (Ok None) = no_hit
says_near (Err refusal) = stopped (number_of refusal)

-- a cross has a direction, and its dot with itself is known
pub record Measured (cross : Vec3) (square : Float) : Type 0 where
  pub directs : normalizable cross ≡ true
  pub told : square ≡ dot_of cross cross

abbrev pub HitMeasured : Result (Option NearHit) Refusal → Type 0
HitMeasured (Ok (Some h)) = Measured h.cross h.square
HitMeasured (Ok None) = true ≡ true
HitMeasured (Err refusal) = true ≡ true
