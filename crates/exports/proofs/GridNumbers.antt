-- Every refusal of a definition that a call answers has a number below the codes: the casts at grids. Assumes nothing.
use Rattle.std.specs.Prelude.{Option, Some, None}
use Prim.Native.Nat.{ℕ, zero, suc, ◌+◌, ◌*◌, ◌/◌}
use mathlib.Core.Path.{◌≡◌, refl}
use mathlib.Core.Bool.{true, cond}
use mathlib.Core.List.{List, [], ◌∷◌}
use lib.Dec.{ltb}
use lib.Ieee.{Float, lt, le, eq}
use lib.ListN.{length}
use Rattle.lists.specs.Lists.{every}
use Rattle.arithmetic.specs.Extremes.{minimum_of}
use Rattle.vectors.specs.Vector.{finite_vec, try_normalize}
use Rattle.vectors.specs.Numbers.{zeroᶠ, oneᶠ}
use Rattle.vectors.specs.declared.vec3.Vec3.{Vec3}
use Rattle.geometry.specs.Box.{valid_box}
use Rattle.geometry.specs.Segment.{ray_admitted}
use Rattle.geometry.specs.declared.aabb.Aabb.{Aabb}
use Rattle.geometry.specs.declared.ray.Ray.{Ray}
use Rattle.casts.specs.Answer.{Answer, hit, none, refused, with_normal}
use Rattle.casts.specs.Answer.{invalid_input, bad_shape, out_of_bounds, overflow, not_convergent, bad_range}
use Rattle.nearest_hit.specs.Nearest.{Indexed, hit_at, no_hit, stopped, without_index}
use Rattle.height_field.specs.declared.field.Field.{Field}
use Rattle.height_field.specs.Cells.{visited_cells}
use Rattle.height_field.specs.Grid.{field_admitted, cell_row, cell_column, feature_corners}
use Rattle.height_field.specs.Listing.{Listing, listed, unlisted, both, list_all, cell_finite, feature_box, list_cell, grid_listing}
use Rattle.height_field.specs.Cast.{answer_of, cast_listed, span_finite, height_cast, ray_height_field}
use Rattle.height_ranges.specs.Answer.{clear, possible, refused as notClear}
use Rattle.height_ranges.specs.Answer.{Answer as Clearance}
use Rattle.height_ranges.specs.Ranges.{ranges_admitted, nodes_of, node_in_order, nearest_heights}
use Rattle.height_ranges.specs.RangesCast.{answer_listed, visited_answer, ranges_cast, ray_height_ranges}
use Rattle.distance_grid.specs.declared.grid.Grid.{Grid}
use Rattle.distance_grid.specs.Places.{Place, PlaceAt, NoPlace, Located, LocatedAt, NotLocated}
use Rattle.distance_grid.specs.Grid.{grid_admitted, grid_box}
use Rattle.distance_grid.specs.Places.{clamped_point, locate_axis, with_place, locate_inside, locate}
use Rattle.distance_grid.specs.Sampling.{Sampled, SampledAt, SampleRefused as NotSampled}
use Rattle.distance_grid.specs.Sampling.{gathered, sample_faces, sample_cell, with_located, sample}
use Rattle.distance_grid.specs.Valued.{value_of}
use Rattle.grid_steps.specs.Slab.{ray_aabb_interval}
use Rattle.grid_steps.specs.Cells.{ray_cell_indices, next_cell_boundary}
use Rattle.grid_steps.specs.Slab.{Interval, Within, Miss}
use Rattle.grid_steps.specs.Cells.{Cells, CellsAt, NoCells}
use Rattle.std.specs.Prelude.{Option, Some as BoundaryAt, None as NoBoundary}
use Rattle.cubic.specs.Roots.{Root, At as RootAt, None as NoRoot, Overflow as RootOverflow, first_cubic_root}
use Rattle.level_set.specs.Hits.{Samples, All, SamplesRefused as NoSamples}
use Rattle.level_set.specs.Hits.{point_at, along, with_sample, hit_with, hit_along, touch_at, value_along, third, two_thirds, samples_of}
use Rattle.level_set.specs.Hits.{samples_along}
use Rattle.level_set.specs.Walk.{CellResult, done, on, goes_on, root_result, cell_by, with_samples, cell_cast, goes_to, with_boundary}
use Rattle.level_set.specs.Walk.{with_cells}
use Rattle.level_set.specs.Walk.{walk_step, follow, cell_limit, walk_from, with_interval, level_set_cast, ray_level_set}
use Rattle.exports.proofs.RefusalNumbers.{Small, leaf, chosen, boxed, answer_number, refuses, misses, hits, corners_small}
use Rattle.exports.proofs.RefusalNumbers.{indexed_number, nearest_small}

-- ---- the height grid
unfoldable listing_number : Listing → ℕ
listing_number (listed features) = 0
listing_number (unlisted number) = number

lists : (features : List ℕ) → Small listing_number (listed features)
unfolding listing_number
lists features = leaf listing_number (listed features) refl

both_small : (a b : Listing) → Small listing_number a → Small listing_number b → Small listing_number (both a b)
unfolding both
both_small (unlisted k) b p q = p
both_small (listed features) (unlisted k) p q = q
both_small (listed features) (listed others) p q = lists _

module _ (f : Field) (heights : List Float) (box : Aabb) where
  cell_small : (cell : ℕ) → Small listing_number (list_cell f heights box cell)
  unfolding list_cell listing_number
  cell_small cell =
      chosen (cell_finite f heights (cell_row f cell) (cell_column f cell)) (chosen (valid_box (feature_box f heights (cell * 2)))
      (chosen (valid_box (feature_box f heights (cell * 2 + 1))) (lists _) (leaf listing_number (unlisted out_of_bounds) refl))
      (leaf listing_number (unlisted out_of_bounds) refl)) (leaf listing_number (unlisted overflow) refl)

  cells_small : (cells : List ℕ) → Small listing_number (list_all (list_cell f heights box) cells)
  unfolding list_all
  cells_small [] = lists []
  cells_small (cell ∷ cells) = both_small (list_cell f heights box cell) _ (cell_small cell) (cells_small cells)

  listing_small : Small listing_number (grid_listing f heights box)
  unfolding grid_listing
  listing_small = cells_small (visited_cells f box)

without_small : (x : Indexed) → Small indexed_number x → Small answer_number (without_index x)
unfolding without_index indexed_number answer_number
without_small (hit_at n d i) p = hits n d
without_small no_hit p = misses
without_small (stopped k) p = record { below = p.below }

pub height_field_small : (r : Ray) (f : Field) (heights : List Float) → Small answer_number (ray_height_field r f heights)
unfolding ray_height_field height_cast cast_listed answer_of listing_number answer_number
height_field_small r f heights =
    chosen (ray_admitted r) (chosen (field_admitted f heights) (boxed answer_number refused refuses r
    (λ (box : Aabb). cond (span_finite f) (cast_listed (answer_of r f heights) (grid_listing f heights box)) (refused overflow))
    (λ box. chosen (span_finite f) (all (grid_listing f heights box) (listing_small f heights box)) (refuses overflow refl)))
    (refuses bad_shape refl)) (refuses invalid_input refl)
  where
    all : (l : Listing) → Small listing_number l → Small answer_number (cast_listed (answer_of r f heights) l)
    all (listed features) p =
        without_small _ (nearest_small (answer_of r f heights) (λ i. corners_small r (feature_corners f heights i)) features)
    all (unlisted k) p = record { below = p.below }

unfoldable pub clearance_number : Clearance → ℕ
clearance_number clear = 0
clearance_number (possible cell) = 0
clearance_number (notClear number) = number

found_small : (l : Listing) → Small listing_number l → Small clearance_number (answer_listed l)
unfolding answer_listed listing_number clearance_number
found_small (listed []) p = leaf clearance_number clear refl
found_small (listed (feature ∷ rest)) p = leaf clearance_number (possible (feature / 2)) refl
found_small (unlisted k) p = record { below = p.below }

refuses_clear : (k : ℕ) → ltb k 256 ≡ true → Small clearance_number (notClear k)
unfolding clearance_number
refuses_clear k h = leaf clearance_number (notClear k) h

pub ranges_small : (r : Ray) (f : Field) (lows highs : List Float) → Small clearance_number (ray_height_ranges r f lows highs)
unfolding ray_height_ranges ranges_cast visited_answer
ranges_small r f lows highs =
    chosen (ray_admitted r) (chosen (ranges_admitted f lows highs) (boxed clearance_number notClear refuses_clear r
    (λ (box : Aabb). cond (span_finite f) (visited_answer f lows highs box) (notClear overflow))
    (λ box. chosen (span_finite f) (visited box) (refuses_clear overflow refl)))
    (refuses_clear bad_shape refl)) (refuses_clear invalid_input refl)
  where
    visited : (box : Aabb) → Small clearance_number (visited_answer f lows highs box)
    visited box =
        chosen (every (node_in_order lows highs) (nodes_of f (visited_cells f box)))
        (found_small _ (listing_small f (nearest_heights box.min.z lows highs) box)) (refuses_clear bad_range refl)

-- ---- the distance grid: a sample
unfoldable sampled_number : Sampled → ℕ
sampled_number (SampledAt value gradient) = 0
sampled_number (NotSampled number) = number

unfoldable located_number : Located → ℕ
located_number (LocatedAt x tx y ty z tz) = 0
located_number (NotLocated number) = number

inside_small : (a b c : Place) → Small located_number (with_place a (λ (x : ℕ) (tx : Float). with_place b (λ (y : ℕ) (ty : Float).
    with_place c (λ (z : ℕ) (tz : Float). LocatedAt x tx y ty z tz))))
unfolding located_number
inside_small NoPlace b c = leaf located_number (NotLocated overflow) refl
inside_small (PlaceAt x tx) NoPlace c = leaf located_number (NotLocated overflow) refl
inside_small (PlaceAt x tx) (PlaceAt y ty) NoPlace = leaf located_number (NotLocated overflow) refl
inside_small (PlaceAt x tx) (PlaceAt y ty) (PlaceAt z tz) = leaf located_number (LocatedAt x tx y ty z tz) refl

located_small : (g : Grid) (p : Vec3) → Small located_number (locate g p)
unfolding locate locate_inside located_number
located_small g p =
    let q = clamped_point g p in
    chosen (finite_vec p)
    (inside_small (locate_axis q.x g.origin.x g.spacing.x g.sides.x)
    (locate_axis q.y g.origin.y g.spacing.y g.sides.y) (locate_axis q.z g.origin.z g.spacing.z g.sides.z))
    (leaf located_number (NotLocated overflow) refl)

gathered_small : (v x y z : Option Float) → Small sampled_number (gathered v x y z)
unfolding gathered sampled_number
gathered_small None x y z = leaf sampled_number (NotSampled overflow) refl
gathered_small (Some v) None y z = leaf sampled_number (NotSampled overflow) refl
gathered_small (Some v) (Some x) None z = leaf sampled_number (NotSampled overflow) refl
gathered_small (Some v) (Some x) (Some y) None = leaf sampled_number (NotSampled overflow) refl
gathered_small (Some v) (Some x) (Some y) (Some z) =
    chosen (finite_vec (record { x = x; y = y; z = z }))
    (leaf sampled_number (SampledAt v (record { x = x; y = y; z = z })) refl) (leaf sampled_number (NotSampled overflow) refl)

sample_small : (g : Grid) (values : List Float) (p : Vec3) → Small sampled_number (sample g values p)
unfolding sample sample_cell sample_faces located_number sampled_number
sample_small g values p = go (locate g p) (located_small g p)
  where
    go : (l : Located) → Small located_number l → Small sampled_number
        (with_located l (λ (x y z : ℕ) (at : Vec3). sample_cell g values x y z at))
    go (LocatedAt x tx y ty z tz) q = gathered_small _ _ _ _
    go (NotLocated k) q = record { below = q.below }

-- four values of a cell
unfoldable samples_number : Samples → ℕ
samples_number (All y0 y1 y2 y3) = 0
samples_number (NoSamples number) = number

four_small : (a b c d : Sampled) → Small sampled_number a → Small sampled_number b → Small sampled_number c → Small sampled_number d
    → Small samples_number (samples_of (value_of a) (value_of b) (value_of c) (value_of d))
unfolding samples_of sampled_number samples_number
four_small (NotSampled k) b c d p q s t = record { below = p.below }
four_small (SampledAt v g) (NotSampled k) c d p q s t = record { below = q.below }
four_small (SampledAt v g) (SampledAt w h) (NotSampled k) d p q s t = record { below = s.below }
four_small (SampledAt v g) (SampledAt w h) (SampledAt x i) (NotSampled k) p q s t = record { below = t.below }
four_small (SampledAt v g) (SampledAt w h) (SampledAt x i) (SampledAt y j) p q s t = leaf samples_number (All v w x y) refl

-- ---- its walk
unfoldable result_number : CellResult → ℕ
result_number (done answer) = answer_number answer
result_number (on distance) = 0

ends : (answer : Answer) → Small answer_number answer → Small result_number (done answer)
unfolding result_number
ends answer p = record { below = p.below }

hit_with_small : (gradient : Vec3) (distance : Float) → Small answer_number (hit_with gradient distance)
unfolding hit_with
hit_with_small gradient distance = go (try_normalize gradient)
  where
    go : (n : Option Vec3) → Small answer_number (with_normal n not_convergent (λ (normal : Vec3). hit normal distance))
    go (Some normal) = hits normal distance
    go None = refuses not_convergent refl

module _ (r : Ray) (g : Grid) (values : List Float) where
  along_small : (distance : Float) → Small answer_number (hit_along r g values distance)
  unfolding hit_along sampled_number answer_number
  along_small distance = go (sample g values (point_at r distance)) (sample_small g values (point_at r distance))
    where
      go : (s : Sampled) → Small sampled_number s
          → Small answer_number (with_sample s (λ (value : Float) (gradient : Vec3). hit_with gradient distance))
      go (SampledAt value gradient) p = hit_with_small gradient distance
      go (NotSampled k) p = record { below = p.below }

  touch_small : (distance : Float) → Small answer_number (touch_at r g values distance)
  unfolding touch_at sampled_number answer_number
  touch_small distance = go (sample g values (point_at r distance)) (sample_small g values (point_at r distance))
    where
      go : (s : Sampled) → Small sampled_number s → Small answer_number
          (with_sample s (λ (value : Float) (gradient : Vec3). cond (eq value zeroᶠ) (hit_with gradient distance) none))
      go (SampledAt value gradient) p = chosen (eq value zeroᶠ) (hit_with_small gradient distance) misses
      go (NotSampled k) p = record { below = p.below }

  root_small : (t : Root) (current end exit : Float) → Small result_number (root_result t r g values current end exit)
  unfolding goes_on result_number
  root_small (RootAt fraction) current end exit = ends _ (along_small (along current end fraction))
  root_small NoRoot current end exit = chosen (le exit end) (ends none misses) (leaf result_number (on end) refl)
  root_small RootOverflow current end exit = ends (refused overflow) (refuses overflow refl)

  cell_cast_small : (current end exit : Float) → Small result_number (cell_cast r g values current end exit)
  unfolding cell_cast cell_by samples_along value_along samples_number result_number answer_number
  cell_cast_small current end exit =
      go _ (four_small _ _ _ _ (at zeroᶠ) (at third) (at two_thirds) (at oneᶠ))
    where
      at : (fraction : Float) → Small sampled_number (sample g values (point_at r (along current end fraction)))
      at fraction = sample_small g values (point_at r (along current end fraction))

      go : (s : Samples) → Small samples_number s → Small result_number (with_samples s
          (λ (y0 y1 y2 y3 : Float). cell_by r g values current end exit (y0 ∷ y1 ∷ y2 ∷ y3 ∷ [])))
      go (All y0 y1 y2 y3) q = root_small (first_cubic_root (y0 ∷ y1 ∷ y2 ∷ y3 ∷ [])) current end exit
      go (NoSamples k) q = record { below = q.below }

  goes_small : (current exit next : Float) → Small result_number (goes_to r g values current exit next)
  unfolding goes_to
  goes_small current exit next =
      chosen (le next current) (ends _ (touch_small current)) (cell_cast_small current (minimum_of next exit) exit)

  step_small : (current exit : Float) → Small result_number (walk_step r g values current exit)
  unfolding walk_step
  step_small current exit =
      chosen (lt exit current) (ends none misses) (cells (ray_cell_indices g (point_at r current) r.direction))
    where
      bounded : (b : Option Float) → Small result_number (with_boundary b (λ (next : Float). goes_to r g values current exit next))
      bounded (BoundaryAt next) = goes_small current exit next
      bounded NoBoundary = ends (refused overflow) (refuses overflow refl)

      cells : (c : Cells) → Small result_number (with_cells c (λ (x y z : ℕ).
          with_boundary (next_cell_boundary g current (point_at r current) r.direction x y z exit)
          (λ (next : Float). goes_to r g values current exit next)))
      cells (CellsAt x y z) = bounded (next_cell_boundary g current (point_at r current) r.direction x y z exit)
      cells NoCells = ends (refused overflow) (refuses overflow refl)

  follow_small : (t : CellResult) (k : Float → Answer) → Small result_number t → ((next : Float) → Small answer_number (k next))
      → Small answer_number (follow t k)
  unfolding result_number
  follow_small (done answer) k p q = record { below = p.below }
  follow_small (on distance) k p q = q distance

  walk_small : (exit : Float) (n : ℕ) (current : Float) → Small answer_number (walk_from r g values exit n current)
  unfolding walk_from
  walk_small exit zero current = refuses not_convergent refl
  walk_small exit (suc n) current =
      follow_small (walk_step r g values current exit) (λ (next : Float). walk_from r g values exit n next) (step_small current exit)
      (λ next. walk_small exit n next)

  pub level_set_small : Small answer_number (ray_level_set r g values)
  unfolding ray_level_set level_set_cast
  level_set_small =
      chosen (ray_admitted r) (chosen (grid_admitted g (length values))
      (chosen (valid_box (grid_box g)) (go (ray_aabb_interval r (grid_box g))) (refuses out_of_bounds refl))
      (refuses bad_shape refl)) (refuses invalid_input refl)
    where
      go : (i : Interval) → Small answer_number
          (with_interval i (λ (entry exit : Float). walk_from r g values exit (cell_limit g) entry))
      go (Within entry exit) = walk_small exit (cell_limit g) entry
      go Miss = misses
