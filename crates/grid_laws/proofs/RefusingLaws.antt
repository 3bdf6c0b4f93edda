-- Where the cast before M-103 is not 5, the cast is the same. Assumes nothing.
use mathlib.Core.Path.{◌≡◌, refl, sym, ap, ◌∙◌}
use mathlib.Core.Logic.{◌⊎◌, inl, inr, ⊎_elim}
use mathlib.Core.Bool.{Bool, true, false, cond, ◌||◌}
use mathlib.Core.List.{List, [], ◌∷◌}
use Prim.Native.Nat.{ℕ, zero, suc}
use lib.Ieee.{Float, lt, le, eq}
use lib.ListN.{length}
use Rattle.lists.proofs.JoinedTests.{neither_first, neither_second}
use Rattle.arithmetic.specs.Extremes.{minimum_of}
use Rattle.geometry.specs.Box.{valid_box}
use Rattle.vectors.specs.Numbers.{zeroᶠ, oneᶠ}
use Rattle.geometry.specs.Segment.{ray_admitted}
use Rattle.vectors.specs.Vector.{finite_vec}
use Rattle.vectors.specs.declared.vec3.Vec3.{Vec3}
use Rattle.geometry.specs.declared.ray.Ray.{Ray}
use Rattle.casts.specs.Answer.{Answer, none, refused, out_of_bounds}
use Rattle.cubic.specs.Roots.{first_cubic_root, Root, At as RootAt, None as NoRoot, Overflow as RootOverflow}
use Rattle.distance_grid.specs.Grid.{last_node, last_corner, grid_admitted, grid_box}
use Rattle.grid_steps.specs.Slab.{ray_aabb_interval}
use Rattle.grid_steps.specs.Cells.{ray_cell_indices, next_cell_boundary}
use Rattle.distance_grid.specs.Places.{clamped_to, clamped, clamped_point, locate_inside, locate}
use Rattle.distance_grid.specs.Sampling.{with_located, sample_cell, sample}
use Rattle.distance_grid.specs.Valued.{value_of}
use Rattle.level_set.specs.Hits.{point_at, along, with_sample, hit_with, hit_along, touch_at, value_along, third, two_thirds, samples_of}
use Rattle.level_set.specs.Hits.{samples_along}
use Rattle.level_set.specs.Walk.{CellResult, done, on, root_result, cell_by, cell_cast, goes_to, with_samples, with_boundary, with_cells}
use Rattle.level_set.specs.Walk.{walk_step, follow, cell_limit, walk_from, with_interval, level_set_cast, ray_level_set}
use Rattle.grid_laws.specs.Refusing.{outside_side, outside, locate_refusing, sample_refusing, hit_by, touch_by, value_by, samples_by}
use Rattle.grid_laws.specs.Refusing.{root_by, cell_cast_by, goes_to_by, walk_step_by, walk_by, cast_by, ray_level_set_refusing}
use Rattle.distance_grid.specs.declared.grid.Grid.{Grid}
use Rattle.grid_steps.specs.Slab.{Interval, Within, Miss}
use Rattle.grid_steps.specs.Cells.{Cells, CellsAt, NoCells}
use Rattle.std.specs.Prelude.{Option, Some, None}
use Rattle.distance_grid.specs.Places.{Located, NotLocated}
use Rattle.distance_grid.specs.Sampling.{Sampled, SampleRefused}
use Rattle.distance_grid.specs.Valued.{Valued, ValuedAt, NoValue}
use Rattle.level_set.specs.Hits.{Samples, All, SamplesRefused}

-- the first is the refusal, or the two are the same
abbrev Unless : {A : Type 0} → A → A → A → Type 0
Unless five a b = (a ≡ five) ⊎ (a ≡ b)

abbrev SameAnswer : Answer → Answer → Type 0
SameAnswer a b = Unless (refused out_of_bounds) a b

abbrev SameTurn : CellResult → CellResult → Type 0
SameTurn a b = Unless (done (refused out_of_bounds)) a b

abbrev SameValue : Valued → Valued → Type 0
SameValue a b = Unless (NoValue out_of_bounds) a b

abbrev SameSamples : Samples → Samples → Type 0
SameSamples a b = Unless (SamplesRefused out_of_bounds) a b

through : {A B : Type 0} (f : A → B) {five a b : A} → Unless five a b → Unless (f five) (f a) (f b)
through f h = ⊎_elim (λ e. inl (ap f e)) (λ e. inr (ap f e)) h

after : {A : Type 0} {five a b c : A} → a ≡ b → Unless five b c → Unless five a c
after e h = ⊎_elim (λ x. inl (e ∙ x)) (λ x. inr (e ∙ x)) h

chosen : {A : Type 0} (t : Bool) {five a b c d : A} → Unless five a b → Unless five c d → Unless five (cond t a c) (cond t b d)
chosen true h k = h
chosen false h k = k

-- ---- a sample

side_stays : (point origin spacing : Float) (side : ℕ) → outside_side point origin (last_node origin spacing side) ≡ false
    → clamped point origin spacing side ≡ point
unfolding outside_side clamped clamped_to
side_stays point origin spacing side h =
    simp (
      neither_first (lt point origin) (lt (last_node origin spacing side) point) h,
      neither_second (lt point origin)
          (lt (last_node origin spacing side) point) h,
    )

-- a point inside stays
pub point_stays : (g : Grid) (p : Vec3) → outside p g.origin (last_corner g) ≡ false → clamped_point g p ≡ p
unfolding outside last_corner clamped_point
point_stays g p h =
    let first = outside_side p.x g.origin.x (last_node g.origin.x g.spacing.x g.sides.x) in
    let second = outside_side p.y g.origin.y (last_node g.origin.y g.spacing.y g.sides.y) in
    let third = outside_side p.z g.origin.z (last_node g.origin.z g.spacing.z g.sides.z) in
    let a = side_stays p.x g.origin.x g.spacing.x g.sides.x (neither_first first (second || third) h) in
    let later = neither_second first (second || third) h in
    let b = side_stays p.y g.origin.y g.spacing.y g.sides.y (neither_first second third later) in
    let c = side_stays p.z g.origin.z g.spacing.z g.sides.z (neither_second second third later) in
    λ i. record { x = a i; y = b i; z = c i }

located_unless : (g : Grid) (p : Vec3) → Unless (NotLocated out_of_bounds) (locate_refusing g p) (locate g p)
unfolding locate_refusing locate
located_unless g p = chosen (finite_vec p) (go (outside p g.origin (last_corner g)) refl) (inr refl)
  where
    go : (b : Bool) → outside p g.origin (last_corner g) ≡ b
        → Unless (NotLocated out_of_bounds) (cond b (NotLocated out_of_bounds) (locate_inside g p)) (locate_inside g (clamped_point g p))
    go true h = inl refl
    go false h = inr (ap (locate_inside g) (sym (point_stays g p h)))

pub sample_unless : (g : Grid) (values : List Float) (p : Vec3)
    → Unless (SampleRefused out_of_bounds) (sample_refusing g values p) (sample g values p)
unfolding sample_refusing sample
sample_unless g values p =
    through (λ (l : Located). with_located l (λ (x y z : ℕ) (at : Vec3). sample_cell g values x y z at)) (located_unless g p)

-- ---- four samples
four : (h0 h1 h2 h3 k0 k1 k2 k3 : Valued) → SameValue h0 k0 → SameValue h1 k1 → SameValue h2 k2
    → SameValue h3 k3 → SameSamples (samples_of h0 h1 h2 h3) (samples_of k0 k1 k2 k3)
unfolding samples_of
four h0 h1 h2 h3 k0 k1 k2 k3 (inl e) u v w = inl (ap (λ (h : Valued). samples_of h h1 h2 h3) e)
four h0 h1 h2 h3 k0 k1 k2 k3 (inr e) u v w = after (ap (λ (h : Valued). samples_of h h1 h2 h3) e) (second k0 u)
  where
    fourth : (y0 y1 y2 : Float) → SameValue h3 k3
        → SameSamples (samples_of (ValuedAt y0) (ValuedAt y1) (ValuedAt y2) h3) (samples_of (ValuedAt y0) (ValuedAt y1) (ValuedAt y2) k3)
    fourth y0 y1 y2 x = through (λ (h : Valued). samples_of (ValuedAt y0) (ValuedAt y1) (ValuedAt y2) h) x

    third : (y0 y1 : Float) (k : Valued) → SameValue h2 k
        → SameSamples (samples_of (ValuedAt y0) (ValuedAt y1) h2 h3) (samples_of (ValuedAt y0) (ValuedAt y1) k k3)
    third y0 y1 k (inl x) = inl (ap (λ (h : Valued). samples_of (ValuedAt y0) (ValuedAt y1) h h3) x)
    third y0 y1 (ValuedAt y2) (inr x) = after (ap (λ (h : Valued). samples_of (ValuedAt y0) (ValuedAt y1) h h3) x) (fourth y0 y1 y2 w)
    third y0 y1 (NoValue n) (inr x) = inr (ap (λ (h : Valued). samples_of (ValuedAt y0) (ValuedAt y1) h h3) x)

    second_at : (y0 : Float) (k : Valued) → SameValue h1 k
        → SameSamples (samples_of (ValuedAt y0) h1 h2 h3) (samples_of (ValuedAt y0) k k2 k3)
    second_at y0 k (inl x) = inl (ap (λ (h : Valued). samples_of (ValuedAt y0) h h2 h3) x)
    second_at y0 (ValuedAt y1) (inr x) = after (ap (λ (h : Valued). samples_of (ValuedAt y0) h h2 h3) x) (third y0 y1 k2 v)
    second_at y0 (NoValue n) (inr x) = inr (ap (λ (h : Valued). samples_of (ValuedAt y0) h h2 h3) x)

    second : (k : Valued) → SameValue h1 k1 → SameSamples (samples_of k h1 h2 h3) (samples_of k k1 k2 k3)
    second (ValuedAt y0) x = second_at y0 k1 x
    second (NoValue n) x = inr refl

-- ---- the cast by a sample that is the grid's or 5
module _ (g : Grid) (values : List Float) (sampled : Vec3 → Sampled)
    (agrees : (p : Vec3) → Unless (SampleRefused out_of_bounds) (sampled p) (sample g values p)) where
  hit_unless : (r : Ray) (distance : Float) → SameAnswer (hit_by sampled r distance) (hit_along r g values distance)
  unfolding hit_by hit_along
  hit_unless r distance =
      through (λ (z : Sampled). with_sample z (λ (value : Float) (gradient : Vec3). hit_with gradient distance))
      (agrees (point_at r distance))

  touch_unless : (r : Ray) (distance : Float) → SameAnswer (touch_by sampled r distance) (touch_at r g values distance)
  unfolding touch_by touch_at
  touch_unless r distance =
      through (λ (z : Sampled). with_sample z
      (λ (value : Float) (gradient : Vec3). cond (eq value zeroᶠ) (hit_with gradient distance) none)) (agrees (point_at r distance))

  value_unless : (r : Ray) (distance : Float) → SameValue (value_by sampled r distance) (value_along r g values distance)
  unfolding value_by value_along
  value_unless r distance = through value_of (agrees (point_at r distance))

  samples_unless : (r : Ray) (current end : Float) → SameSamples (samples_by sampled r current end) (samples_along r g values current end)
  unfolding samples_by samples_along
  samples_unless r current end =
      four _ _ _ _ _ _ _ _ (value_unless r (along current end zeroᶠ)) (value_unless r (along current end third))
      (value_unless r (along current end two_thirds)) (value_unless r (along current end oneᶠ))

  root_unless : (r : Ray) (current end exit : Float) (root : Root)
      → SameTurn (root_by sampled root r current end exit) (root_result root r g values current end exit)
  root_unless r current end exit (RootAt fraction) = through done (hit_unless r (along current end fraction))
  root_unless r current end exit NoRoot = inr refl
  root_unless r current end exit RootOverflow = inr refl

  with_samples_lem : (z : Samples) (k j : Float → Float → Float → Float → CellResult)
      → ((a b c d : Float) → SameTurn (k a b c d) (j a b c d))
      → SameTurn (with_samples z k) (with_samples z j)
  with_samples_lem (All a b c d) k j h = h a b c d
  with_samples_lem (SamplesRefused n) k j h = inr refl

  cell_unless : (r : Ray) (current end exit : Float)
      → SameTurn (cell_cast_by sampled r current end exit) (cell_cast r g values current end exit)
  unfolding cell_cast_by cell_cast cell_by
  cell_unless r current end exit = go (samples_by sampled r current end) (samples_unless r current end)
    where
      k : Float → Float → Float → Float → CellResult
      k = λ (y0 y1 y2 y3 : Float). root_by sampled (first_cubic_root (y0 ∷ y1 ∷ y2 ∷ y3 ∷ [])) r current end exit

      j : Float → Float → Float → Float → CellResult
      j = λ (y0 y1 y2 y3 : Float). root_result (first_cubic_root (y0 ∷ y1 ∷ y2 ∷ y3 ∷ [])) r g values current end exit

      go : (z : Samples) → SameSamples z (samples_along r g values current end)
          → SameTurn (with_samples z k) (with_samples (samples_along r g values current end) j)
      go z (inl e) = inl (ap (λ (s : Samples). with_samples s k) e)
      go z (inr e) =
          after (ap (λ (s : Samples). with_samples s k) e)
          (with_samples_lem (samples_along r g values current end) k j
          (λ a b c d. root_unless r current end exit (first_cubic_root (a ∷ b ∷ c ∷ d ∷ []))))

  goes_unless : (r : Ray) (current exit next : Float)
      → SameTurn (goes_to_by sampled r current exit next) (goes_to r g values current exit next)
  unfolding goes_to_by goes_to
  goes_unless r current exit next =
      chosen (le next current) (through done (touch_unless r current)) (cell_unless r current (minimum_of next exit) exit)

  with_boundary_lem : (z : Option Float) (k j : Float → CellResult) → ((a : Float) → SameTurn (k a) (j a))
      → SameTurn (with_boundary z k) (with_boundary z j)
  with_boundary_lem (Some a) k j h = h a
  with_boundary_lem None k j h = inr refl

  with_cells_lem : (z : Cells) (k j : ℕ → ℕ → ℕ → CellResult) → ((a b c : ℕ) → SameTurn (k a b c) (j a b c))
      → SameTurn (with_cells z k) (with_cells z j)
  with_cells_lem (CellsAt a b c) k j h = h a b c
  with_cells_lem NoCells k j h = inr refl

  step_unless : (r : Ray) (current exit : Float) → SameTurn (walk_step_by sampled r g current exit) (walk_step r g values current exit)
  unfolding walk_step_by walk_step
  step_unless r current exit =
      chosen (lt exit current) (inr refl)
      (with_cells_lem (ray_cell_indices g (point_at r current) r.direction) _ _
      (λ x y z. with_boundary_lem (next_cell_boundary g current (point_at r current) r.direction x y z exit) _ _
      (λ next. goes_unless r current exit next)))

  following : (t u : CellResult) (k j : Float → Answer) → SameTurn t u → ((a : Float) → SameAnswer (k a) (j a))
      → SameAnswer (follow t k) (follow u j)
  following t u k j (inl e) h = inl (ap (λ (z : CellResult). follow z k) e)
  following t u k j (inr e) h = after (ap (λ (z : CellResult). follow z k) e) (go u)
    where
      go : (z : CellResult) → SameAnswer (follow z k) (follow z j)
      go (done a) = inr refl
      go (on a) = h a

  walk_unless : (r : Ray) (exit : Float) (n : ℕ) (current : Float)
      → SameAnswer (walk_by sampled r g exit n current) (walk_from r g values exit n current)
  unfolding walk_by walk_from
  walk_unless r exit zero current = inr refl
  walk_unless r exit (suc n) current = following _ _ _ _ (step_unless r current exit) (λ next. walk_unless r exit n next)

  with_interval_lem : (z : Interval) (k j : Float → Float → Answer) → ((a b : Float) → SameAnswer (k a b) (j a b))
      → SameAnswer (with_interval z k) (with_interval z j)
  with_interval_lem (Within a b) k j h = h a b
  with_interval_lem Miss k j h = inr refl

  cast_unless : (r : Ray) → SameAnswer (cast_by sampled r g) (level_set_cast r g values)
  unfolding cast_by level_set_cast
  cast_unless r =
      chosen (valid_box (grid_box g))
      (with_interval_lem (ray_aabb_interval r (grid_box g)) _ _ (λ entry exit. walk_unless r exit (cell_limit g) entry))
      (inr refl)

-- "The Rust is the comparison wherever it did not refuse with 5": there the cast is what it was
pub same_unless_five : (r : Ray) (g : Grid) (values : List Float) → (ray_level_set_refusing r g values ≡ refused out_of_bounds → ⊥)
    → ray_level_set r g values ≡ ray_level_set_refusing r g values
unfolding ray_level_set_refusing ray_level_set
same_unless_five r g values not_five =
    ⊎_elim (λ e. absurd (not_five e)) (λ e. sym e)
    (chosen (ray_admitted r)
    (chosen (grid_admitted g (length values)) (cast_unless g values (sample_refusing g values) (sample_unless g values) r) (inr refl))
    (inr refl))
