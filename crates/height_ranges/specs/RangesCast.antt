-- The cast at heights known only within ranges. Definitions only. Assumes nothing.
use Rattle.std.specs.Prelude.{◌/◌, cond, List, [], ◌∷◌, Float}
use Rattle.geometry.specs.Segment.{ray_admitted}
use Rattle.geometry.specs.declared.aabb.Aabb.{Aabb}
use Rattle.geometry.specs.declared.ray.Ray.{Ray}
use Rattle.casts.specs.Answer.{invalid_input, bad_shape, overflow, bad_range}
use Rattle.casts.specs.SegmentBox.{with_segment_box}
use Rattle.height_field.specs.declared.field.Field.{Field}
use Rattle.height_field.specs.Cells.{visited_cells}
use Rattle.height_field.specs.Listing.{Listing, listed, unlisted, grid_listing}
use Rattle.height_field.specs.Cast.{span_finite}
use Rattle.height_ranges.specs.Answer.{Answer, clear, possible, refused}
use Rattle.height_ranges.specs.Ranges.{ranges_admitted, nodes_of, node_in_order, nearest_heights}
use Rattle.lists.specs.Lists.{every}

-- "the listing's later refusals, which precede both answers", or the cell of the first listed triangle, or clear
unfoldable pub answer_listed : Listing → Answer
answer_listed (listed []) = clear
answer_listed (listed (feature ∷ rest)) = possible (feature / 2)
answer_listed (unlisted number) = refused number

-- "number 9 for a range of a visited cell that is out of order or not finite; it comes as soon as the visited cells are known"; then the
-- listing of the heights nearest to the box's lower side, which touch if any do
unfoldable pub visited_answer : Field → List Float → List Float → Aabb → Answer
visited_answer f lows highs box =
    cond (every (node_in_order lows highs) (nodes_of f (visited_cells f box)))
    (answer_listed (grid_listing f (nearest_heights box.min.z lows highs) box))
    (refused bad_range)

-- the height cast's order: the segment's refusals, the span (6), then the visited cells
unfoldable pub ranges_cast : Ray → Field → List Float → List Float → Answer
ranges_cast ray f lows highs =
    with_segment_box refused ray (λ (box : Aabb). cond (span_finite f) (visited_answer f lows highs box) (refused overflow))

-- refusal 1 before 2, then the cast
unfoldable pub ray_height_ranges : Ray → Field → List Float → List Float → Answer
ray_height_ranges ray f lows highs =
    cond (ray_admitted ray) (cond (ranges_admitted f lows highs) (ranges_cast ray f lows highs) (refused bad_shape)) (refused invalid_input)
