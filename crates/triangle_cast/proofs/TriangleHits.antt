-- A hit of the cast at a triangle has a distance that is a number and in the ray's range. Assumes nothing.
use mathlib.Core.Bool.{cond}
use mathlib.Core.List.{List}
use lib.Ieee.{Float, lt, le, is_nan}
use Rattle.vectors.specs.Numbers.{◌+ᶠ◌, ◌*ᶠ◌, ◌/ᶠ◌, zeroᶠ, oneᶠ}
use Rattle.vectors.specs.Vector.{sub_of, cross_of, dot_of, checked_dot, try_normalize}
use Rattle.geometry.specs.Segment.{ray_admitted}
use Rattle.vectors.specs.declared.vec3.Vec3.{Vec3}
use Rattle.geometry.specs.declared.ray.Ray.{Ray}
use Rattle.casts.specs.Answer.{hit, none, refused, invalid_input, overflow, no_normal}
use Rattle.casts.specs.Surface.{off_segment, facing}
use Rattle.triangle_cast.specs.Triangle.{flat, triangle_normal, triangle_above, triangle_at, triangle_of, triangle_cast, ray_triangle}
use Rattle.casts.proofs.AnswerLists.{OfHit}
use Rattle.casts.proofs.HitLaws.{Measured, of_none, of_refused, of_hit, of_cond, of_value, of_with_normal}

module _ (r : Ray) where
  of_normal : (a b : Vec3) (distance : Float) → Measured r distance → OfHit (Measured r) (triangle_normal r a b distance)
  unfolding triangle_normal
  of_normal a b distance m =
      of_with_normal (Measured r) (try_normalize (cross_of a b)) no_normal
      (λ (normal : Vec3). hit (facing normal (dot_of r.direction normal)) distance)
      (λ (normal : Vec3). of_hit (Measured r) (facing normal (dot_of r.direction normal)) distance m)

  of_above : (offset a b : Vec3) (inverse u : Float) → OfHit (Measured r) (triangle_above r offset a b inverse u)
  unfolding triangle_above
  of_above offset a b inverse u =
      let v = dot_of r.direction (cross_of offset a) *ᶠ inverse in
      let distance = dot_of b (cross_of offset a) *ᶠ inverse in
      let number = cond (is_nan distance) (refused overflow) (triangle_normal r a b distance) in
      let in_range_lem = cond (off_segment r distance) none number in
      of_cond (Measured r) (lt v zeroᶠ) none (cond (lt oneᶠ (u +ᶠ v)) none in_range_lem) (λ _. of_none (Measured r)) (λ _.
      of_cond (Measured r) (lt oneᶠ (u +ᶠ v)) none in_range_lem (λ _. of_none (Measured r)) (λ _.
      of_cond (Measured r) (off_segment r distance) none number (λ _. of_none (Measured r)) (λ inside.
      of_cond (Measured r) (is_nan distance) (refused overflow) (triangle_normal r a b distance) (λ _. of_refused (Measured r) overflow)
      (λ real.
      of_normal a b distance (record { number = real; in_range_lem = inside })))))

  of_at : (offset a b p : Vec3) (determinant : Float) → OfHit (Measured r) (triangle_at r offset a b p determinant)
  unfolding triangle_at
  of_at offset a b p determinant =
      let inverse = oneᶠ /ᶠ determinant in
      let u = dot_of offset p *ᶠ inverse in
      let above = triangle_above r offset a b inverse u in
      of_cond (Measured r) (le zeroᶠ u) (cond (le u oneᶠ) above none) none (λ _.
      of_cond (Measured r) (le u oneᶠ) above none (λ _. of_above offset a b inverse u) (λ _. of_none (Measured r)))
      (λ _. of_none (Measured r))

  pub triangle_hit_measured : (first second third : Vec3) → OfHit (Measured r) (triangle_of r first second third)
  unfolding triangle_of
  triangle_hit_measured first second third =
      let a = sub_of second first in
      let b = sub_of third first in
      let p = cross_of r.direction b in
      let offset = sub_of r.origin first in
      of_value (Measured r) (checked_dot a p) (λ (determinant : Float). cond (flat determinant a b) none (triangle_at r offset a b p
      determinant))
      (λ (determinant : Float).
      of_cond (Measured r) (flat determinant a b) none (triangle_at r offset a b p determinant) (λ _. of_none (Measured r))
      (λ _. of_at offset a b p determinant))

  pub ray_triangle_hit_measured : (vs : List Vec3) → OfHit (Measured r) (ray_triangle r vs)
  unfolding ray_triangle
  ray_triangle_hit_measured vs =
      of_cond (Measured r) (ray_admitted r) (triangle_cast r vs) (refused invalid_input) (λ _. triangle_hit_measured _ _ _)
      (λ _. of_refused (Measured r) invalid_input)
