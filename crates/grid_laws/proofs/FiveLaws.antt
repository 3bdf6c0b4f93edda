-- No sample is refused with 5, and the cast is 5 exactly where ray and grid are admitted and the grid's box is not valid. Assumes nothing.
use mathlib.Core.Path.{◌≡◌, refl, sym, ap, ◌∙◌}
use mathlib.Core.Bool.{Bool, true, false, cond, true≢false}
use mathlib.Core.List.{List, [], ◌∷◌}
use Prim.Native.Nat.{ℕ, zero, suc}
use lib.Dec.{eqb}
use lib.Ieee.{Float, lt, le, eq}
use lib.ListN.{length}
use Rattle.arithmetic.specs.Extremes.{minimum_of}
use Rattle.geometry.specs.Box.{valid_box}
use Rattle.vectors.specs.Numbers.{zeroᶠ}
use Rattle.geometry.specs.Segment.{ray_admitted}
use Rattle.vectors.specs.Vector.{finite_vec, try_normalize}
use Rattle.vectors.specs.declared.vec3.Vec3.{Vec3}
use Rattle.geometry.specs.declared.ray.Ray.{Ray}
use Rattle.casts.specs.Answer.{Answer, hit, none, refused, with_normal, invalid_input, bad_shape, out_of_bounds, overflow, not_convergent}
use Rattle.cubic.specs.Roots.{first_cubic_root, Root, At as RootAt, None as NoRoot, Overflow as RootOverflow}
use Rattle.distance_grid.specs.Grid.{grid_admitted, grid_box}
use Rattle.grid_steps.specs.Slab.{ray_aabb_interval}
use Rattle.grid_steps.specs.Cells.{ray_cell_indices, next_cell_boundary}
use Rattle.distance_grid.specs.Places.{with_place, locate_axis, clamped_point, locate_inside, locate}
use Rattle.distance_grid.specs.Sampling.{gathered, sample_faces, sample_cell, with_located, sample}
use Rattle.distance_grid.specs.Valued.{value_of}
use Rattle.level_set.specs.Hits.{point_at, along, with_sample, hit_with, hit_along, touch_at, value_along, samples_of, samples_along}
use Rattle.level_set.specs.Walk.{CellResult, done, on, goes_on, root_result, cell_by, cell_cast, goes_to, with_samples, with_boundary}
use Rattle.level_set.specs.Walk.{with_cells, walk_step, follow, cell_limit, walk_from, with_interval, level_set_cast, ray_level_set}
use Rattle.distance_grid.specs.declared.grid.Grid.{Grid}
use Rattle.grid_steps.specs.Slab.{Interval, Within, Miss}
use Rattle.grid_steps.specs.Cells.{Cells, CellsAt, NoCells}
use Rattle.std.specs.Prelude.{Option, Some, None}
use Rattle.distance_grid.specs.Places.{Place, PlaceAt, NoPlace, Located, LocatedAt, NotLocated}
use Rattle.distance_grid.specs.Sampling.{Sampled, SampledAt, SampleRefused}
use Rattle.distance_grid.specs.Valued.{Valued, ValuedAt, NoValue}
use Rattle.level_set.specs.Hits.{Samples, All, SamplesRefused}

-- ---- a place, a sample and a value: there, or refused with 6
data FoundPlace : Located → Type 0 where
  found_place : {x y z : ℕ} {tx ty tz : Float} → FoundPlace (LocatedAt x tx y ty z tz)
  no_place : FoundPlace (NotLocated overflow)

data FoundSample : Sampled → Type 0 where
  found_sample : {value : Float} {gradient : Vec3} → FoundSample (SampledAt value gradient)
  no_sample : FoundSample (SampleRefused overflow)

data FoundValue : Valued → Type 0 where
  found_value : {value : Float} → FoundValue (ValuedAt value)
  no_value : FoundValue (NoValue overflow)

data FoundSamples : Samples → Type 0 where
  found_samples : {a b c d : Float} → FoundSamples (All a b c d)
  no_samples : FoundSamples (SamplesRefused overflow)

places_found : (a b c : Place)
    → FoundPlace (with_place a
    (λ (x : ℕ) (tx : Float). with_place b (λ (y : ℕ) (ty : Float). with_place c (λ (z : ℕ) (tz : Float). LocatedAt x tx y ty z tz))))
places_found (PlaceAt x tx) (PlaceAt y ty) (PlaceAt z tz) = found_place
places_found (PlaceAt x tx) (PlaceAt y ty) NoPlace = no_place
places_found (PlaceAt x tx) NoPlace c = no_place
places_found NoPlace b c = no_place

place_chosen : (t : Bool) {a b : Located} → FoundPlace a → FoundPlace b → FoundPlace (cond t a b)
place_chosen true h k = h
place_chosen false h k = k

locate_found : (g : Grid) (p : Vec3) → FoundPlace (locate g p)
unfolding locate locate_inside
locate_found g p =
    place_chosen (finite_vec p)
    (places_found (locate_axis (clamped_point g p).x g.origin.x g.spacing.x g.sides.x)
    (locate_axis (clamped_point g p).y g.origin.y g.spacing.y g.sides.y)
    (locate_axis (clamped_point g p).z g.origin.z g.spacing.z g.sides.z))
    no_place

sample_chosen : (t : Bool) {a b : Sampled} → FoundSample a → FoundSample b → FoundSample (cond t a b)
sample_chosen true h k = h
sample_chosen false h k = k

gathered_found : (v a b c : Option Float) → FoundSample (gathered v a b c)
unfolding gathered
gathered_found (Some v) (Some a) (Some b) (Some c) = sample_chosen (finite_vec record { x = a; y = b; z = c }) found_sample no_sample
gathered_found (Some v) (Some a) (Some b) None = no_sample
gathered_found (Some v) (Some a) None c = no_sample
gathered_found (Some v) None b c = no_sample
gathered_found None a b c = no_sample

located_found : (g : Grid) (values : List Float) (l : Located) → FoundPlace l
    → FoundSample (with_located l (λ (x y z : ℕ) (at : Vec3). sample_cell g values x y z at))
unfolding sample_cell sample_faces
located_found g values l found_place = gathered_found _ _ _ _
located_found g values l no_place = no_sample

sample_found : (g : Grid) (values : List Float) (p : Vec3) → FoundSample (sample g values p)
unfolding sample
sample_found g values p = located_found g values (locate g p) (locate_found g p)

-- a refusal's number
number_of : Sampled → ℕ
number_of (SampledAt value gradient) = overflow
number_of (SampleRefused number) = number

found_number : (s : Sampled) → FoundSample s → number_of s ≡ overflow
unfolding number_of
found_number s found_sample = refl
found_number s no_sample = refl

-- "The outside-sample case is then shown never to occur": what a sample refuses, it refuses with 6
pub sample_refuses_six : (g : Grid) (values : List Float) (p : Vec3) (number : ℕ) → sample g values p ≡ SampleRefused number
    → number ≡ overflow
unfolding number_of
sample_refuses_six g values p number e = sym (ap number_of e) ∙ found_number (sample g values p) (sample_found g values p)

value_of_found : (s : Sampled) → FoundSample s → FoundValue (value_of s)
value_of_found s found_sample = found_value
value_of_found s no_sample = no_value

samples_found : (a b c d : Valued) → FoundValue a → FoundValue b → FoundValue c → FoundValue d → FoundSamples (samples_of a b c d)
unfolding samples_of
samples_found a b c d found_value found_value found_value found_value = found_samples
samples_found a b c d found_value found_value found_value no_value = no_samples
samples_found a b c d found_value found_value no_value k = no_samples
samples_found a b c d found_value no_value j k = no_samples
samples_found a b c d no_value i j k = no_samples

-- ---- an answer that is not 5
data Other : Answer → Type 0 where
  other_hit : {normal : Vec3} {distance : Float} → Other (hit normal distance)
  other_none : Other none
  other_six : Other (refused overflow)
  other_eight : Other (refused not_convergent)

data OtherResult : CellResult → Type 0 where
  other_done : {answer : Answer} → Other answer → OtherResult (done answer)
  other_on : {distance : Float} → OtherResult (on distance)

is_five : Answer → Bool
is_five (hit normal distance) = false
is_five none = false
is_five (refused number) = eqb number out_of_bounds

other_not_five : (a : Answer) → Other a → a ≡ refused out_of_bounds → ⊥
unfolding is_five
other_not_five a other_hit e = true≢false (sym (ap is_five e))
other_not_five a other_none e = true≢false (sym (ap is_five e))
other_not_five a other_six e = true≢false (sym (ap is_five e))
other_not_five a other_eight e = true≢false (sym (ap is_five e))

shape_not_five : refused bad_shape ≡ refused out_of_bounds → ⊥
unfolding is_five
shape_not_five e = true≢false (sym (ap is_five e))

input_not_five : refused invalid_input ≡ refused out_of_bounds → ⊥
unfolding is_five
input_not_five e = true≢false (sym (ap is_five e))

chosen : (t : Bool) {a b : Answer} → Other a → Other b → Other (cond t a b)
chosen true h k = h
chosen false h k = k

chosen_turn : (t : Bool) {a b : CellResult} → OtherResult a → OtherResult b → OtherResult (cond t a b)
chosen_turn true h k = h
chosen_turn false h k = k

hit_with_other : (gradient : Vec3) (distance : Float) → Other (hit_with gradient distance)
unfolding hit_with
hit_with_other gradient distance = go (try_normalize gradient)
  where
    go : (n : Option Vec3) → Other (with_normal n not_convergent (λ (normal : Vec3). hit normal distance))
    go (Some normal) = other_hit
    go None = other_eight

with_sample_lem : (s : Sampled) (k : Float → Vec3 → Answer) → FoundSample s → ((value : Float) (gradient : Vec3) → Other (k value gradient))
    → Other (with_sample s k)
with_sample_lem (SampledAt value gradient) k h o = o value gradient
with_sample_lem (SampleRefused number) k no_sample o = other_six

-- ---- the walk
module _ (r : Ray) (g : Grid) (values : List Float) where
  hit_other : (distance : Float) → Other (hit_along r g values distance)
  unfolding hit_along
  hit_other distance =
      with_sample_lem (sample g values (point_at r distance)) _ (sample_found g values (point_at r distance))
      (λ value gradient. hit_with_other gradient distance)

  touch_other : (distance : Float) → Other (touch_at r g values distance)
  unfolding touch_at
  touch_other distance =
      with_sample_lem (sample g values (point_at r distance)) _ (sample_found g values (point_at r distance))
      (λ value gradient. chosen (eq value zeroᶠ) (hit_with_other gradient distance) other_none)

  value_found : (distance : Float) → FoundValue (value_along r g values distance)
  unfolding value_along
  value_found distance = value_of_found (sample g values (point_at r distance)) (sample_found g values (point_at r distance))

  along_found : (current end : Float) → FoundSamples (samples_along r g values current end)
  unfolding samples_along
  along_found current end = samples_found _ _ _ _ (value_found _) (value_found _) (value_found _) (value_found _)

  root_other : (current end exit : Float) (root : Root) → OtherResult (root_result root r g values current end exit)
  unfolding goes_on
  root_other current end exit (RootAt fraction) = other_done (hit_other (along current end fraction))
  root_other current end exit NoRoot = chosen_turn (le exit end) (other_done other_none) other_on
  root_other current end exit RootOverflow = other_done other_six

  with_samples_lem : (s : Samples) (k : Float → Float → Float → Float → CellResult) → FoundSamples s → ((a b c d : Float) → OtherResult
      (k a b c d))
      → OtherResult (with_samples s k)
  with_samples_lem (All a b c d) k h o = o a b c d
  with_samples_lem (SamplesRefused number) k no_samples o = other_done other_six

  cell_other : (current end exit : Float) → OtherResult (cell_cast r g values current end exit)
  unfolding cell_cast cell_by
  cell_other current end exit =
      with_samples_lem (samples_along r g values current end) _ (along_found current end)
      (λ a b c d. root_other current end exit (first_cubic_root (a ∷ b ∷ c ∷ d ∷ [])))

  goes_other : (current exit next : Float) → OtherResult (goes_to r g values current exit next)
  unfolding goes_to
  goes_other current exit next =
      chosen_turn (le next current) (other_done (touch_other current)) (cell_other current (minimum_of next exit) exit)

  with_boundary_lem : (b : Option Float) (k : Float → CellResult) → ((a : Float) → OtherResult (k a)) → OtherResult (with_boundary b k)
  with_boundary_lem (Some a) k o = o a
  with_boundary_lem None k o = other_done other_six

  with_cells_lem : (c : Cells) (k : ℕ → ℕ → ℕ → CellResult) → ((x y z : ℕ) → OtherResult (k x y z)) → OtherResult (with_cells c k)
  with_cells_lem (CellsAt x y z) k o = o x y z
  with_cells_lem NoCells k o = other_done other_six

  step_other : (current exit : Float) → OtherResult (walk_step r g values current exit)
  unfolding walk_step
  step_other current exit =
      chosen_turn (lt exit current) (other_done other_none)
      (with_cells_lem (ray_cell_indices g (point_at r current) r.direction) _
      (λ x y z. with_boundary_lem (next_cell_boundary g current (point_at r current) r.direction x y z exit) _
      (λ next. goes_other current exit next)))

  following : (t : CellResult) (k : Float → Answer) → OtherResult t → ((a : Float) → Other (k a)) → Other (follow t k)
  following (done answer) k (other_done h) o = h
  following (on distance) k h o = o distance

  walk_other : (exit : Float) (n : ℕ) (current : Float) → Other (walk_from r g values exit n current)
  unfolding walk_from
  walk_other exit zero current = other_eight
  walk_other exit (suc n) current =
      following (walk_step r g values current exit) _ (step_other current exit) (λ next. walk_other exit n next)

  with_interval_lem : (i : Interval) (k : Float → Float → Answer) → ((a b : Float) → Other (k a b)) → Other (with_interval i k)
  with_interval_lem (Within a b) k o = o a b
  with_interval_lem Miss k o = other_none

  valid_other : Other (with_interval (ray_aabb_interval r (grid_box g))
      (λ (entry exit : Float). walk_from r g values exit (cell_limit g) entry))
  valid_other = with_interval_lem (ray_aabb_interval r (grid_box g)) _ (λ entry exit. walk_other exit (cell_limit g) entry)

  -- "5 exactly where ray and grid are admitted and the grid's box is not valid"
  pub record FiveByBox : Type 0 where
    pub ray : ray_admitted r ≡ true
    pub grid : grid_admitted g (length values) ≡ true
    pub box : valid_box (grid_box g) ≡ false

  pub five_where_box_invalid : FiveByBox → ray_level_set r g values ≡ refused out_of_bounds
  unfolding ray_level_set level_set_cast
  five_where_box_invalid f = simp (f.ray, f.grid, f.box)

  pub five_only_there : ray_level_set r g values ≡ refused out_of_bounds → FiveByBox
  unfolding ray_level_set level_set_cast
  five_only_there e = go (ray_admitted r) (grid_admitted g (length values)) (valid_box (grid_box g)) refl refl refl e
    where
      inner : Answer
      inner = with_interval (ray_aabb_interval r (grid_box g)) (λ (entry exit : Float). walk_from r g values exit (cell_limit g) entry)

      go : (a b c : Bool) → ray_admitted r ≡ a → grid_admitted g (length values) ≡ b → valid_box (grid_box g) ≡ c
          → cond a (cond b (cond c inner (refused out_of_bounds)) (refused bad_shape)) (refused invalid_input) ≡ refused out_of_bounds
          → FiveByBox
      go true true false p q s e = record { ray = p; grid = q; box = s }
      go true true true p q s e = absurd (other_not_five inner valid_other e)
      go true false c p q s e = absurd (shape_not_five e)
      go false b c p q s e = absurd (input_not_five e)
