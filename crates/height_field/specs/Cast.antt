-- The cast at a height grid. Definitions only. Assumes nothing.
use Rattle.std.specs.Prelude.{ℕ, ◌-◌, Bool, ◌&&◌, cond, List, Float}
use Rattle.arithmetic.specs.Basic.{is_finite}
use Rattle.geometry.specs.Segment.{ray_admitted}
use Rattle.geometry.specs.declared.aabb.Aabb.{Aabb}
use Rattle.geometry.specs.declared.ray.Ray.{Ray}
use Rattle.casts.specs.Answer.{Answer, refused, invalid_input, bad_shape, overflow}
use Rattle.casts.specs.SegmentBox.{with_segment_box}
use Rattle.triangle_cast.specs.Triangle.{triangle_cast}
use Rattle.nearest_hit.specs.Nearest.{nearest_of, without_index}
use Rattle.height_field.specs.declared.field.Field.{Field}
use Rattle.height_field.specs.Grid.{field_admitted, feature_corners}
use Rattle.height_field.specs.Cells.{span_of}
use Rattle.height_field.specs.Listing.{Listing, listed, unlisted, grid_listing}

-- the answer of a triangle by its feature number
unfoldable pub answer_of : Ray → Field → List Float → ℕ → Answer
answer_of ray f heights feature = triangle_cast ray (feature_corners f heights feature)

-- "first strictly least distance wins" among the listed triangles; none where nothing is listed
unfoldable pub cast_listed : (ℕ → Answer) → Listing → Answer
cast_listed answer (listed features) = without_index (nearest_of answer features)
cast_listed answer (unlisted number) = refused number

-- a span that is not finite is 6, even for a ray that passes outside
unfoldable pub span_finite : Field → Bool
span_finite f = is_finite (span_of f.spacing_x (f.columns - 1)) && is_finite (span_of f.spacing_y (f.rows - 1))

-- the Rust's order: the segment's refusals, the span (6), the listing's refusals, the triangles'
unfoldable pub height_cast : Ray → Field → List Float → Answer
height_cast ray f heights =
    with_segment_box refused ray (λ (box : Aabb).
    cond (span_finite f) (cast_listed (answer_of ray f heights) (grid_listing f heights box)) (refused overflow))

-- refusal 1 before 2, then the cast
unfoldable pub ray_height_field : Ray → Field → List Float → Answer
ray_height_field ray f heights =
    cond (ray_admitted ray) (cond (field_admitted f heights) (height_cast ray f heights) (refused bad_shape)) (refused invalid_input)
