-- The cast before M-103, in which a sample outside the box is refused with 5: kept to say what M-103 leaves as it was. Definitions only.
-- Assumes nothing.
use Rattle.std.specs.Prelude.{ℕ, zero, suc, Bool, ◌||◌, cond, List, [], ◌∷◌, Float, length}
use Rattle.std.specs.Float.Ieee.{lt, le, eq}
use Rattle.arithmetic.specs.Extremes.{minimum_of}
use Rattle.geometry.specs.Box.{valid_box}
use Rattle.vectors.specs.Numbers.{zeroᶠ, oneᶠ}
use Rattle.geometry.specs.Segment.{ray_admitted}
use Rattle.vectors.specs.Vector.{finite_vec}
use Rattle.vectors.specs.declared.vec3.Vec3.{Vec3}
use Rattle.geometry.specs.declared.ray.Ray.{Ray}
use Rattle.casts.specs.Answer.{Answer, none, refused, invalid_input, bad_shape, out_of_bounds, overflow, not_convergent}
use Rattle.cubic.specs.Roots.{first_cubic_root, Root, At as RootAt, None as NoRoot, Overflow as RootOverflow}
use Rattle.distance_grid.specs.Grid.{last_corner, grid_admitted, grid_box}
use Rattle.grid_steps.specs.Slab.{ray_aabb_interval}
use Rattle.grid_steps.specs.Cells.{ray_cell_indices, next_cell_boundary}
use Rattle.distance_grid.specs.Places.{locate_inside}
use Rattle.distance_grid.specs.Sampling.{with_located, sample_cell}
use Rattle.distance_grid.specs.Valued.{value_of}
use Rattle.level_set.specs.Hits.{point_at, along, with_sample, hit_with, third, two_thirds, samples_of}
use Rattle.level_set.specs.Walk.{CellResult, done, goes_on, with_samples, with_boundary, with_cells, follow, cell_limit, with_interval}
use Rattle.distance_grid.specs.declared.grid.Grid.{Grid}
use Rattle.distance_grid.specs.Places.{Located, NotLocated as Refused}
use Rattle.distance_grid.specs.Sampling.{Sampled}
use Rattle.distance_grid.specs.Valued.{Valued}
use Rattle.level_set.specs.Hits.{Samples}

-- ---- the sample that refuses

unfoldable pub outside_side : Float → Float → Float → Bool
outside_side point low high = lt point low || lt high point

unfoldable pub outside : Vec3 → Vec3 → Vec3 → Bool
outside p low high =
    outside_side p.x low.x high.x || (outside_side p.y low.y high.y || outside_side p.z low.z high.z)

unfoldable pub locate_refusing : Grid → Vec3 → Located
locate_refusing g p =
    cond (finite_vec p) (cond (outside p g.origin (last_corner g)) (Refused out_of_bounds) (locate_inside g p)) (Refused overflow)

unfoldable pub sample_refusing : Grid → List Float → Vec3 → Sampled
sample_refusing g values p = with_located (locate_refusing g p) (λ (x y z : ℕ) (at : Vec3). sample_cell g values x y z at)

-- ---- Hits and Walk by any sample
module _ (sampled : Vec3 → Sampled) where
  unfoldable pub hit_by : Ray → Float → Answer
  hit_by r distance = with_sample (sampled (point_at r distance)) (λ (value : Float) (gradient : Vec3). hit_with gradient distance)

  unfoldable pub touch_by : Ray → Float → Answer
  touch_by r distance =
      with_sample (sampled (point_at r distance))
      (λ (value : Float) (gradient : Vec3). cond (eq value zeroᶠ) (hit_with gradient distance) none)

  unfoldable pub value_by : Ray → Float → Valued
  value_by r distance = value_of (sampled (point_at r distance))

  unfoldable pub samples_by : Ray → Float → Float → Samples
  samples_by r current end =
      samples_of (value_by r (along current end zeroᶠ)) (value_by r (along current end third)) (value_by r (along current end two_thirds))
      (value_by r (along current end oneᶠ))

  abbrev pub root_by : Root → Ray → Float → Float → Float → CellResult
  root_by (RootAt fraction) r current end exit = done (hit_by r (along current end fraction))
  root_by NoRoot r current end exit = goes_on end exit
  root_by RootOverflow r current end exit = done (refused overflow)

  unfoldable pub cell_cast_by : Ray → Float → Float → Float → CellResult
  cell_cast_by r current end exit =
      with_samples (samples_by r current end)
      (λ (y0 y1 y2 y3 : Float). root_by (first_cubic_root (y0 ∷ y1 ∷ y2 ∷ y3 ∷ [])) r current end exit)

  unfoldable pub goes_to_by : Ray → Float → Float → Float → CellResult
  goes_to_by r current exit next = cond (le next current) (done (touch_by r current)) (cell_cast_by r current (minimum_of next exit) exit)

  unfoldable pub walk_step_by : Ray → Grid → Float → Float → CellResult
  walk_step_by r g current exit =
      cond (lt exit current) (done none)
      (with_cells (ray_cell_indices g (point_at r current) r.direction)
      (λ (x y z : ℕ).
      with_boundary (next_cell_boundary g current (point_at r current) r.direction x y z exit)
      (λ (next : Float). goes_to_by r current exit next)))

  unfoldable pub walk_by : Ray → Grid → Float → ℕ → Float → Answer
  walk_by r g exit zero current = refused not_convergent
  walk_by r g exit (suc n) current = follow (walk_step_by r g current exit) (λ (next : Float). walk_by r g exit n next)

  unfoldable pub cast_by : Ray → Grid → Answer
  cast_by r g =
      cond (valid_box (grid_box g))
      (with_interval (ray_aabb_interval r (grid_box g)) (λ (entry exit : Float). walk_by r g exit (cell_limit g) entry))
      (refused out_of_bounds)

-- ---- the cast that refuses

-- as the Rust: "The Rust is the comparison wherever it did not refuse with 5"
unfoldable pub ray_level_set_refusing : Ray → Grid → List Float → Answer
ray_level_set_refusing r g values =
    cond (ray_admitted r) (cond (grid_admitted g (length values)) (cast_by (sample_refusing g values) r g) (refused bad_shape))
    (refused invalid_input)
