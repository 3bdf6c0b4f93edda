-- A hit of the height grid's cast has a distance that is a number and in the ray's range. Assumes nothing.
use Prim.Native.Nat.{ℕ}
use mathlib.Core.Bool.{cond}
use mathlib.Core.List.{List}
use lib.Ieee.{Float}
use Rattle.geometry.specs.Segment.{ray_admitted}
use Rattle.geometry.specs.declared.aabb.Aabb.{Aabb}
use Rattle.geometry.specs.declared.ray.Ray.{Ray}
use Rattle.casts.specs.Answer.{Answer, refused, invalid_input, bad_shape, overflow}
use Rattle.nearest_hit.specs.Nearest.{nearest_of}
use Rattle.casts.proofs.AnswerLists.{OfHit}
use Rattle.casts.proofs.SegmentBoxLaws.{segment_such}
use Rattle.casts.proofs.HitLaws.{Measured, of_refused, of_cond}
use Rattle.triangle_cast.proofs.TriangleHits.{triangle_hit_measured}
use Rattle.nearest_hit.proofs.IndexedHits.{nearest_such, without_index_such}
use Rattle.height_field.specs.declared.field.Field.{Field}
use Rattle.height_field.specs.Grid.{field_admitted}
use Rattle.height_field.specs.Listing.{Listing, listed, unlisted, grid_listing}
use Rattle.height_field.specs.Cast.{answer_of, cast_listed, span_finite, height_cast, ray_height_field}

module _ (ray : Ray) (f : Field) (heights : List Float) where
  answers_measured : (feature : ℕ) → OfHit (Measured ray) (answer_of ray f heights feature)
  unfolding answer_of
  answers_measured feature = triangle_hit_measured ray _ _ _

  listed_measured : (l : Listing) → OfHit (Measured ray) (cast_listed (answer_of ray f heights) l)
  unfolding cast_listed
  listed_measured (listed features) =
      without_index_such (Measured ray) (nearest_of (answer_of ray f heights) features)
      (nearest_such (Measured ray) (answer_of ray f heights) features answers_measured)
  listed_measured (unlisted number) = of_refused (Measured ray) number

  height_cast_measured : OfHit (Measured ray) (height_cast ray f heights)
  unfolding height_cast
  height_cast_measured =
      let over : Aabb → Answer = λ (box : Aabb). cast_listed (answer_of ray f heights) (grid_listing f heights box) in
      segment_such refused ray (λ (box : Aabb). cond (span_finite f) (over box) (refused overflow))
      (OfHit (Measured ray)) (of_refused (Measured ray))
      (λ (box : Aabb).
      of_cond (Measured ray) (span_finite f) (over box) (refused overflow) (λ _. listed_measured (grid_listing f heights box))
      (λ _. of_refused (Measured ray) overflow))

  pub ray_height_field_hit_measured : OfHit (Measured ray) (ray_height_field ray f heights)
  unfolding ray_height_field
  ray_height_field_hit_measured =
      let admitted = cond (field_admitted f heights) (height_cast ray f heights) (refused bad_shape) in
      of_cond (Measured ray) (ray_admitted ray) admitted (refused invalid_input) (λ _.
      of_cond (Measured ray) (field_admitted f heights) (height_cast ray f heights) (refused bad_shape) (λ _. height_cast_measured)
      (λ _. of_refused (Measured ray) bad_shape))
      (λ _. of_refused (Measured ray) invalid_input)
