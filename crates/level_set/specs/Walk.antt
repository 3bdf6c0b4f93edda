-- The cast at a distance grid: the walk over its cells, and its refusals. Definitions only. Assumes nothing.
use Rattle.std.specs.Prelude.{ℕ, zero, suc, ◌+◌, cond, List, [], ◌∷◌, Float, length, Option, Some, None, Result}
use Rattle.std.specs.Float.Ieee.{lt, le}
use Rattle.arithmetic.specs.Extremes.{minimum_of}
use Rattle.geometry.specs.Box.{valid_box}
use Rattle.geometry.specs.Segment.{ray_admitted}
use Rattle.geometry.specs.declared.ray.Ray.{Ray}
use Rattle.casts.specs.Answer.{Answer, none, refused, says, invalid_input, bad_shape, out_of_bounds, overflow, not_convergent}
use Rattle.distance_grid.specs.Grid.{grid_admitted, grid_box}
use Rattle.grid_steps.specs.Slab.{Interval, Within, Miss, ray_aabb_interval}
use Rattle.grid_steps.specs.Cells.{Cells, CellsAt, NoCells, ray_cell_indices, next_cell_boundary}
use Rattle.cubic.specs.Roots.{Root, At as RootAt, None as NoRoot, Overflow as RootOverflow, first_cubic_root}
use Rattle.level_set.specs.Hits.{Samples, All, SamplesRefused, point_at, along, hit_along, touch_at, samples_along, Remembered}
use Rattle.distance_grid.specs.declared.grid.Grid.{Grid}
use Rattle.casts.specs.declared.answer.Hit.{Hit}
use Rattle.casts.specs.declared.answer.Refusal.{Refusal}
use Rattle.level_set.specs.declared.hits.Known.{Known}
use Rattle.level_set.specs.declared.walk.Step.{Step}
use Rattle.level_set.specs.declared.walk.Step.TheVariants.{Done, On}

-- what a cell gives: the answer, or the distance from which the walk goes on
pub data CellResult : Type 0 where
  done : Answer → CellResult
  on : Float → CellResult

abbrev pub tells : Step → CellResult
tells (Done cast) = done (says cast)
tells (On distance known) = on distance

-- a step that goes on takes this value along
pub data Carries (known : Known) : Step → Type 0 where
  ends : {cast : Result (Option Hit) Refusal} → Carries known (Done cast)
  goes : {next : Float} → Carries known (On next known)

-- and what it takes along is true
pub data Kept (r : Ray) (g : Grid) (values : List Float) : Step → Type 0 where
  ended : {cast : Result (Option Hit) Refusal} → Kept r g values (Done cast)
  going : {next : Float} {known : Known} → Remembered r g values known → Kept r g values (On next known)

-- ---- one cell
unfoldable pub goes_on : Float → Float → CellResult
goes_on end exit = cond (le exit end) (done none) (on end)

abbrev pub root_result : Root → Ray → Grid → List Float → Float → Float → Float → CellResult
root_result (RootAt fraction) r g values current end exit = done (hit_along r g values (along current end fraction))
root_result NoRoot r g values current end exit = goes_on end exit
root_result RootOverflow r g values current end exit = done (refused overflow)

unfoldable pub cell_by : Ray → Grid → List Float → Float → Float → Float → List Float → CellResult
cell_by r g values current end exit ys = root_result (first_cubic_root ys) r g values current end exit

abbrev pub with_samples : Samples → (Float → Float → Float → Float → CellResult) → CellResult
with_samples (All y0 y1 y2 y3) next = next y0 y1 y2 y3
with_samples (SamplesRefused number) next = done (refused number)

unfoldable pub cell_cast : Ray → Grid → List Float → Float → Float → Float → CellResult
cell_cast r g values current end exit =
    with_samples (samples_along r g values current end)
    (λ (y0 y1 y2 y3 : Float). cell_by r g values current end exit (y0 ∷ y1 ∷ y2 ∷ y3 ∷ []))

unfoldable pub goes_to : Ray → Grid → List Float → Float → Float → Float → CellResult
goes_to r g values current exit next =
    cond (le next current) (done (touch_at r g values current)) (cell_cast r g values current (minimum_of next exit) exit)

abbrev pub with_boundary : Option Float → (Float → CellResult) → CellResult
with_boundary (Some next) k = k next
with_boundary None k = done (refused overflow)

abbrev pub with_cells : Cells → (ℕ → ℕ → ℕ → CellResult) → CellResult
with_cells (CellsAt x y z) k = k x y z
with_cells NoCells k = done (refused overflow)

-- "The walk's cell index and next boundary are taken from the undrawn point."
unfoldable pub walk_step : Ray → Grid → List Float → Float → Float → CellResult
walk_step r g values current exit =
    cond (lt exit current) (done none)
    (with_cells (ray_cell_indices g (point_at r current) r.direction)
    (λ (x y z : ℕ).
    with_boundary (next_cell_boundary g current (point_at r current) r.direction x y z exit)
    (λ (next : Float). goes_to r g values current exit next)))

-- ---- the walk

abbrev pub follow : CellResult → (Float → Answer) → Answer
follow (done answer) k = answer
follow (on distance) k = k distance

-- "at most the sum of sides + 4 cells, else 8"
unfoldable pub cell_limit : Grid → ℕ
cell_limit g = g.sides.x + g.sides.y + g.sides.z + 4

unfoldable pub walk_from : Ray → Grid → List Float → Float → ℕ → Float → Answer
walk_from r g values exit zero current = refused not_convergent
walk_from r g values exit (suc n) current = follow (walk_step r g values current exit) (λ (next : Float). walk_from r g values exit n next)

-- ---- the cast

abbrev pub with_interval : Interval → (Float → Float → Answer) → Answer
with_interval (Within entry exit) k = k entry exit
with_interval Miss k = none

-- "the box runs from the origin to the last node; slab interval, then at most the sum of sides + 4 cells"
unfoldable pub level_set_cast : Ray → Grid → List Float → Answer
level_set_cast r g values =
    cond (valid_box (grid_box g))
    (with_interval (ray_aabb_interval r (grid_box g)) (λ (entry exit : Float). walk_from r g values exit (cell_limit g) entry))
    (refused out_of_bounds)

-- refusal 1 before 2, then the cast
unfoldable pub ray_level_set : Ray → Grid → List Float → Answer
ray_level_set r g values =
    cond (ray_admitted r) (cond (grid_admitted g (length values)) (level_set_cast r g values) (refused bad_shape)) (refused invalid_input)
