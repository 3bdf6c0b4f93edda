-- A hit of the distance grid's cast has a distance that is a number and not below near. Assumes nothing.
use Prim.Native.Nat.{ℕ, zero, suc}
use mathlib.Core.Path.{◌≡◌, refl, sym, subst}
use mathlib.Core.Logic.{⊎_elim}
use mathlib.Core.Bool.{Bool, true, false, not, cond}
use mathlib.Core.List.{List, [], ◌∷◌}
use borrow.Author.Tests.{not-true}
use lib.Dec.{T}
use lib.Ieee.{Float, binary64, of_bits, fits, is_nan, lt, le, eq}
use lib.Ieee.Bits.{of_bits-fits}
use lib.Ieee.Fits.{add-fits, div-fits}
use lib.ListN.{length}
use Rattle.arithmetic.specs.Basic.{is_finite, absolute}
use Rattle.arithmetic.specs.Extremes.{minimum_of, maximum_of}
use Rattle.arithmetic.proofs.ExtremesOrder.{minimum_one, maximum_one, maximum_finite, lesser_first, lesser_second}
use Rattle.arithmetic.proofs.Numbers.{finite_number}
use Rattle.arithmetic.proofs.Order.{le_of_lt, le_of_not_lt, lt_of_not_le, le_reflexive, le_transitive, not_lt_of_le, le_left_number}
use Rattle.arithmetic.proofs.Order.{le_right_number}
use Rattle.arithmetic.proofs.QuotientOrder.{between_finite}
use Rattle.arithmetic.proofs.SumOrder.{nothing}
use Rattle.arithmetic.proofs.ExtremesLimits.{maximum_from_first}
use Rattle.geometry.specs.Box.{valid_box}
use Rattle.vectors.specs.Numbers.{◌+ᶠ◌, zeroᶠ, min_positive}
use Rattle.geometry.specs.Segment.{ray_admitted, unit_length, range_admitted}
use Rattle.vectors.specs.Vector.{finite_vec, try_normalize}
use Rattle.vectors.specs.declared.vec3.Vec3.{Vec3}
use Rattle.geometry.specs.declared.aabb.Aabb.{Aabb}
use Rattle.geometry.specs.declared.ray.Ray.{Ray}
use Rattle.lists.proofs.JoinedTests.{and_first, and_second}
use Rattle.casts.specs.Answer.{Answer, hit, none, refused, invalid_input, bad_shape, out_of_bounds, overflow, not_convergent}
use Rattle.casts.proofs.AnswerLists.{OfHit}
use Rattle.casts.proofs.HitLaws.{of_none, of_refused, of_hit, of_cond, of_with_normal}
use Rattle.cubic.specs.Roots.{first_cubic_root, Root, At as RootAt, None as NoRoot, Overflow as RootOverflow}
use Rattle.distance_grid.specs.Grid.{grid_admitted, grid_box}
use Rattle.grid_steps.specs.Slab.{kept, cut, slab_from, slab, started, ray_aabb_interval}
use Rattle.grid_steps.specs.Cells.{ray_cell_indices, slack, Axis, boundary_distance, boundary_by, axis_boundary, next_cell_boundary}
use Rattle.distance_grid.specs.Sampling.{sample}
use Rattle.level_set.specs.Hits.{point_at, along, with_sample, hit_with, hit_along, touch_at, samples_along}
use Rattle.level_set.specs.Walk.{CellResult, done, on, goes_on, root_result, cell_by, cell_cast, goes_to, with_samples, with_boundary}
use Rattle.level_set.specs.Walk.{with_cells, walk_step, follow, cell_limit, walk_from, with_interval, level_set_cast, ray_level_set}
use Rattle.distance_grid.specs.declared.grid.Grid.{Grid}
use Rattle.grid_steps.specs.Slab.{Interval, Within, Miss}
use Rattle.grid_steps.specs.Cells.{Cells, CellsAt, NoCells}
use Rattle.std.specs.Prelude.{Option, Some, None}
use Rattle.distance_grid.specs.Sampling.{Sampled, SampledAt, SampleRefused}
use Rattle.level_set.specs.Hits.{Samples, All, SamplesRefused}
use Rattle.grid_laws.proofs.RootsBetween.{RootWithin, root_at_lem, first_root_within}
use Rattle.grid_laws.proofs.WayParts.{along_not_before}

-- ---- minimum and maximum where the first operand is a number, whatever the second is
lowered : (x y : Float) → is_nan x ≡ false → le (minimum_of x y) x ≡ true
lowered x y n = go (lt y x) refl
  where
    go : (b : Bool) → lt y x ≡ b → le (minimum_of x y) x ≡ true
    go true h = subst (λ (z : Float). le z x ≡ true) (lesser_second x y h).0 (le_of_lt y x h)
    go false h = subst (λ (z : Float). le z x ≡ true) (lesser_first x y h n) (le_reflexive x n)

abbrev Fits : Float → Type 0
Fits x = T (fits binary64 x)

minimum_fits : (x y : Float) → Fits x → Fits y → Fits (minimum_of x y)
minimum_fits x y f g = ⊎_elim (λ e. subst Fits (sym e) f) (λ e. subst Fits (sym e) g) (minimum_one x y)

maximum_fits : (x y : Float) → Fits x → Fits y → Fits (maximum_of x y)
maximum_fits x y f g = ⊎_elim (λ e. subst Fits (sym e) f) (λ e. subst Fits (sym e) g) (maximum_one x y)

zero_is : nothing ≡ zeroᶠ
unfolding of_bits
zero_is = refl

-- ---- the ray's range

-- what an admitted ray says of its range, and that its numbers are f64s
pub record Ranged (r : Ray) : Type 0 where
  pub near_finite : is_finite r.near ≡ true
  pub near_fits : Fits r.near
  pub near_from : le nothing r.near ≡ true
  pub most_finite : is_finite r.max_distance ≡ true
  pub most_fits : Fits r.max_distance

-- a hit's distance: "hits from a near distance on", and a number
pub record FromNear (r : Ray) (distance : Float) : Type 0 where
  pub number : is_nan distance ≡ false
  pub from : le r.near distance ≡ true

module _ (r : Ray) (range : Ranged r) where
  near : Float
  near = r.near

  most : Float
  most = r.max_distance

  -- a distance of the walk
  record Walked (d : Float) : Type 0 where
    pub finite : is_finite d ≡ true
    pub held : Fits d
    pub from : le r.near d ≡ true

  -- the walk's end
  record Ends (d : Float) : Type 0 where
    pub finite : is_finite d ≡ true
    pub held : Fits d
    pub to : le d r.max_distance ≡ true

  walked_from_near : (d : Float) → Walked d → FromNear r d
  walked_from_near d w = record { number = finite_number d w.finite; from = w.from }

  walked_from_nothing : (d : Float) → Walked d → le nothing d ≡ true
  walked_from_nothing d w = le_transitive nothing r.near d range.near_from w.from

  -- ---- the interval
  data Spans : Interval → Type 0 where
    spans : {entry exit : Float} → Walked entry → Ends exit → Spans (Within entry exit)
    missed : Spans Miss

  kept_spans : (entry exit : Float) → Fits entry → le r.near entry ≡ true → Fits exit → le exit r.max_distance ≡ true
      → Spans (kept entry exit)
  unfolding kept
  kept_spans entry exit f l g k = go (lt exit entry) refl
    where
      go : (b : Bool) → lt exit entry ≡ b → Spans (cond b Miss (Within entry exit))
      go true h = missed
      go false h =
          let between = le_of_not_lt entry exit (le_right_number r.near entry l) (le_left_number exit r.max_distance k) h in
          let above = le_transitive r.near entry exit l between in
          let exit-finite = between_finite r.near exit r.max_distance range.near_finite range.most_finite above k in
          spans (record {
            finite = between_finite r.near entry exit range.near_finite exit-finite l between;
            held = f;
            from = l;
          }) (record { finite = exit-finite; held = g; to = k })

  cut_spans : (entry exit first second : Float) → Walked entry → Ends exit → Fits first → Fits second → Spans (cut entry exit first second)
  unfolding cut
  cut_spans entry exit first second w e f g =
      let later = maximum_of entry (minimum_of first second) in
      let sooner = minimum_of exit (maximum_of first second) in
      let up = maximum_from_first entry (minimum_of first second) (finite_number entry w.finite) in
      let down = lowered exit (maximum_of first second) (finite_number exit e.finite) in
      kept_spans later sooner (maximum_fits entry (minimum_of first second) w.held (minimum_fits first second f g))
      (le_transitive r.near entry later w.from up)
      (minimum_fits exit (maximum_of first second) e.held (maximum_fits first second f g))
      (le_transitive sooner exit r.max_distance down e.to)

  chosen_spans : (b : Bool) {i j : Interval} → Spans i → Spans j → Spans (cond b i j)
  chosen_spans true p q = p
  chosen_spans false p q = q

  slab_spans : (i : Interval) (origin direction low high : Float) → Spans i → Spans (slab i origin direction low high)
  unfolding slab slab_from
  slab_spans (Within entry exit) origin direction low high (spans w e) =
      chosen_spans (le (absolute direction) min_positive)
      (chosen_spans (lt origin low) missed (chosen_spans (lt high origin) missed (spans w e)))
      (cut_spans entry exit _ _ w e (div-fits binary64 _ _) (div-fits binary64 _ _))
  slab_spans Miss origin direction low high missed = missed

  zero_finite : is_finite zeroᶠ ≡ true
  unfolding is_finite of_bits
  zero_finite = refl

  started_spans : (i : Interval) (furthest : Float) → Spans i → Spans (started i furthest)
  unfolding started
  started_spans (Within entry exit) furthest (spans w e) =
      let later = maximum_of entry zeroᶠ in
      chosen_spans (lt exit zeroᶠ) missed
      (chosen_spans (lt furthest entry) missed
      (spans (record {
        finite = maximum_finite entry zeroᶠ w.finite zero_finite;
        held = maximum_fits entry zeroᶠ w.held (of_bits-fits binary64 0);
        from = le_transitive r.near entry later w.from (maximum_from_first entry zeroᶠ (finite_number entry w.finite));
      }) e))
  started_spans Miss furthest missed = missed

  start_walked : Walked r.near
  start_walked = record {
    finite = range.near_finite;
    held = range.near_fits;
    from = le_reflexive r.near (finite_number r.near range.near_finite);
  }

  end_ends : Ends r.max_distance
  end_ends = record {
    finite = range.most_finite;
    held = range.most_fits;
    to = le_reflexive r.max_distance (finite_number r.max_distance range.most_finite);
  }

  interval_spans : (b : Aabb) → Spans (ray_aabb_interval r b)
  unfolding ray_aabb_interval
  interval_spans b =
      started_spans _ r.max_distance
      (slab_spans _ _ _ _ _ (slab_spans _ _ _ _ _ (slab_spans _ _ _ _ _ (spans start_walked end_ends))))

  -- ---- the next boundary: not past the exit
  data Reached (exit : Float) : Option Float → Type 0 where
    reached : {next : Float} → Fits next → le next exit ≡ true → Reached exit (Some next)
    unreached : Reached exit None

  chosen_reached : (exit : Float) (b : Bool) {i j : Option Float} → Reached exit i → Reached exit j → Reached exit (cond b i j)
  chosen_reached exit true p q = p
  chosen_reached exit false p q = q

  by_reached : (exit least current point distance : Float) → Fits least → le least exit ≡ true
      → Reached exit (boundary_by least current point distance)
  unfolding boundary_by
  by_reached exit least current point distance f l =
      let nearer = minimum_of least (current +ᶠ distance) in
      let below = lowered least (current +ᶠ distance) (le_left_number least exit l) in
      chosen_reached exit (is_finite distance)
      (chosen_reached exit (lt (slack point) distance)
      (reached (minimum_fits least (current +ᶠ distance) f (add-fits binary64 current distance)) (le_transitive nearer least exit below l))
      (reached f l))
      unreached

  axis_reached : (exit : Float) (b : Option Float) (current : Float) (a : Axis) (cell : ℕ) → Reached exit b
      → Reached exit (axis_boundary b current a cell)
  unfolding axis_boundary
  axis_reached exit (Some least) current a cell (reached f l) =
      chosen_reached exit (eq a.direction zeroᶠ) (reached f l)
      (by_reached exit least current a.point (boundary_distance a cell) f l)
  axis_reached exit None current a cell unreached = unreached

  next_reached : (g : Grid) (current : Float) (p d : Vec3) (x y z : ℕ) (exit : Float) → Ends exit
      → Reached exit (next_cell_boundary g current p d x y z exit)
  unfolding next_cell_boundary
  next_reached g current p d x y z exit e =
      axis_reached exit _ current _ z
      (axis_reached exit _ current _ y
      (axis_reached exit _ current _ x
      (reached e.held (le_reflexive exit (finite_number exit e.finite)))))

  -- ---- one cell
  data TurnOf : CellResult → Type 0 where
    ended : {answer : Answer} → OfHit (FromNear r) answer → TurnOf (done answer)
    going : {distance : Float} → Walked distance → TurnOf (on distance)

  chosen_turn : (b : Bool) {t u : CellResult} → (b ≡ true → TurnOf t) → (b ≡ false → TurnOf u) → TurnOf (cond b t u)
  chosen_turn true p q = p refl
  chosen_turn false p q = q refl

  module _ (g : Grid) (values : List Float) where
    hit_with_lem : (gradient : Vec3) (distance : Float) → FromNear r distance → OfHit (FromNear r) (hit_with gradient distance)
    unfolding hit_with
    hit_with_lem gradient distance p =
        of_with_normal (FromNear r) (try_normalize gradient) not_convergent (λ (normal : Vec3). hit normal distance)
        (λ (normal : Vec3). of_hit (FromNear r) normal distance p)

    with_sample_lem : (s : Sampled) (next : Float → Vec3 → Answer)
        → ((value : Float) (gradient : Vec3) → OfHit (FromNear r) (next value gradient)) → OfHit (FromNear r) (with_sample s next)
    with_sample_lem (SampledAt value gradient) next p = p value gradient
    with_sample_lem (SampleRefused number) next p = of_refused (FromNear r) number

    hit_along_lem : (distance : Float) → FromNear r distance → OfHit (FromNear r) (hit_along r g values distance)
    unfolding hit_along
    hit_along_lem distance p =
        with_sample_lem (sample g values (point_at r distance)) (λ (value : Float) (gradient : Vec3). hit_with gradient distance)
        (λ (value : Float) (gradient : Vec3). hit_with_lem gradient distance p)

    touch_at_lem : (distance : Float) → FromNear r distance → OfHit (FromNear r) (touch_at r g values distance)
    unfolding touch_at
    touch_at_lem distance p =
        with_sample_lem (sample g values (point_at r distance))
        (λ (value : Float) (gradient : Vec3). cond (eq value zeroᶠ) (hit_with gradient distance) none)
        (λ (value : Float) (gradient : Vec3).
        of_cond (FromNear r) (eq value zeroᶠ) (hit_with gradient distance) none (λ _. hit_with_lem gradient distance p)
        (λ _. of_none (FromNear r)))

    part_from_near : (current end fraction : Float) → Walked current → Walked end → le current end ≡ true → RootWithin (RootAt fraction)
        → FromNear r (along current end fraction)
    part_from_near current end fraction w e l (root_at_lem b) =
        let later = along_not_before current end fraction w.finite w.held e.finite e.held (walked_from_nothing current w) l b in
        record {
          number = le_right_number current (along current end fraction) later;
          from = le_transitive r.near current (along current end fraction) w.from later;
        }

    root_turn : (root : Root) (current end exit : Float) → RootWithin root → Walked current → Walked end → le current end ≡ true
        → TurnOf (root_result root r g values current end exit)
    unfolding goes_on
    root_turn (RootAt fraction) current end exit root w e l =
        ended (hit_along_lem (along current end fraction) (part_from_near current end fraction w e l root))
    root_turn NoRoot current end exit root w e l = chosen_turn (le exit end) (λ _. ended (of_none (FromNear r))) (λ _. going e)
    root_turn RootOverflow current end exit root w e l = ended (of_refused (FromNear r) overflow)

    with_samples_lem : (s : Samples) (next : Float → Float → Float → Float → CellResult)
        → ((a b c d : Float) → TurnOf (next a b c d)) → TurnOf (with_samples s next)
    with_samples_lem (All a b c d) next p = p a b c d
    with_samples_lem (SamplesRefused number) next p = ended (of_refused (FromNear r) number)

    cell_turn : (current end exit : Float) → Walked current → Walked end → le current end ≡ true → TurnOf
        (cell_cast r g values current end exit)
    unfolding cell_cast cell_by
    cell_turn current end exit w e l =
        with_samples_lem (samples_along r g values current end) _
        (λ (a b c d : Float).
        root_turn (first_cubic_root (a ∷ b ∷ c ∷ d ∷ [])) current end exit (first_root_within (a ∷ b ∷ c ∷ d ∷ [])) w e l)

    goes_turn : (current exit next : Float) → Walked current → Ends exit → Fits next → le next exit ≡ true
        → TurnOf (goes_to r g values current exit next)
    unfolding goes_to
    goes_turn current exit next w x f l =
        chosen_turn (le next current) (λ _. ended (touch_at_lem current (walked_from_near current w))) (λ h.
        let number = le_left_number next exit l in
        let later = le_of_lt current next (lt_of_not_le current next (finite_number current w.finite) number h) in
        let ahead : Walked next = record {
          finite = between_finite current next exit w.finite x.finite later l;
          held = f;
          from = le_transitive r.near current next w.from later;
        } in
        subst (λ (end : Float). TurnOf (cell_cast r g values current end exit))
        (lesser_first next exit (not_lt_of_le next exit l) number)
        (cell_turn current next exit w ahead later))

    with_boundary_lem : (exit : Float) (b : Option Float) (next : Float → CellResult) → Reached exit b
        → ((a : Float) → Fits a → le a exit ≡ true → TurnOf (next a)) → TurnOf (with_boundary b next)
    with_boundary_lem exit (Some a) next (reached f l) p = p a f l
    with_boundary_lem exit None next unreached p = ended (of_refused (FromNear r) overflow)

    with_cells_lem : (c : Cells) (next : ℕ → ℕ → ℕ → CellResult) → ((x y z : ℕ) → TurnOf (next x y z)) → TurnOf (with_cells c next)
    with_cells_lem (CellsAt x y z) next p = p x y z
    with_cells_lem NoCells next p = ended (of_refused (FromNear r) overflow)

    step_turn : (current exit : Float) → Walked current → Ends exit → TurnOf (walk_step r g values current exit)
    unfolding walk_step
    step_turn current exit w e =
        chosen_turn (lt exit current) (λ _. ended (of_none (FromNear r))) (λ _.
        with_cells_lem (ray_cell_indices g (point_at r current) r.direction) _
        (λ (x y z : ℕ).
        with_boundary_lem exit (next_cell_boundary g current (point_at r current) r.direction x y z exit) _
        (next_reached g current (point_at r current) r.direction x y z exit e)
        (λ (next : Float) f l. goes_turn current exit next w e f l)))

    -- ---- the walk
    following : (t : CellResult) (next : Float → Answer) → TurnOf t → ((d : Float) → Walked d → OfHit (FromNear r) (next d))
        → OfHit (FromNear r) (follow t next)
    following (done answer) next (ended p) q = p
    following (on distance) next (going w) q = q distance w

    walk_such : (exit : Float) (n : ℕ) (current : Float) → Ends exit → Walked current
        → OfHit (FromNear r) (walk_from r g values exit n current)
    unfolding walk_from
    walk_such exit zero current e w = of_refused (FromNear r) not_convergent
    walk_such exit (suc n) current e w =
        following (walk_step r g values current exit) (λ (next : Float). walk_from r g values exit n next) (step_turn current exit w e)
        (λ (next : Float) (v : Walked next). walk_such exit n next e v)

    with_interval_lem : (i : Interval) (next : Float → Float → Answer) → Spans i
        → ((a b : Float) → Walked a → Ends b → OfHit (FromNear r) (next a b)) → OfHit (FromNear r) (with_interval i next)
    with_interval_lem (Within a b) next (spans w e) p = p a b w e
    with_interval_lem Miss next missed p = of_none (FromNear r)

    cast_such : OfHit (FromNear r) (level_set_cast r g values)
    unfolding level_set_cast
    cast_such =
        let walked : Float → Float → Answer = λ (entry exit : Float). walk_from r g values exit (cell_limit g) entry in
        of_cond (FromNear r) (valid_box (grid_box g)) (with_interval (ray_aabb_interval r (grid_box g)) walked) (refused out_of_bounds)
        (λ _.
        with_interval_lem (ray_aabb_interval r (grid_box g)) walked (interval_spans (grid_box g))
        (λ (entry exit : Float) w e. walk_such exit (cell_limit g) entry e w))
        (λ _. of_refused (FromNear r) out_of_bounds)

-- ---- the cast

-- an admitted ray of f64s has such a range
ranged : (r : Ray) → Fits r.near → Fits r.max_distance → ray_admitted r ≡ true → Ranged r
unfolding ray_admitted
ranged r f g a =
    let most = r.max_distance in
    let near = r.near in
    let direction = and_second (finite_vec r.origin) _ a in
    let unit = and_second (finite_vec r.direction) _ direction in
    let range = and_second (unit_length r.direction) (range_admitted r) unit in
    let most-from = and_second (is_finite most) _ range in
    let near-tests = and_second (not (lt most zeroᶠ)) _ most-from in
    let near_finite = and_first (is_finite near) _ near-tests in
    let near_from = and_first (not (lt near zeroᶠ)) _ (and_second (is_finite near) _ near-tests) in
    record {
      near_finite = near_finite;
      near_fits = f;
      near_from =
          subst (λ (z : Float). le z near ≡ true) (sym zero_is)
          (le_of_not_lt zeroᶠ near (finite_number zeroᶠ (unfold is_finite of_bits in refl)) (finite_number near near_finite)
          (not-true (lt near zeroᶠ) near_from));
      most_finite = and_first (is_finite most) _ range;
      most_fits = g;
    }

-- "no hit lies below near", and no hit's distance is NaN
pub ray_level_set_from_near : (r : Ray) (g : Grid) (values : List Float) → T (fits binary64 r.near) → T
    (fits binary64 r.max_distance)
    → OfHit (FromNear r) (ray_level_set r g values)
unfolding ray_level_set
ray_level_set_from_near r g values f h =
    let shaped = cond (grid_admitted g (length values)) (level_set_cast r g values) (refused bad_shape) in
    of_cond (FromNear r) (ray_admitted r) shaped (refused invalid_input) (λ a.
    of_cond (FromNear r) (grid_admitted g (length values)) (level_set_cast r g values) (refused bad_shape)
    (λ _. cast_such r (ranged r f h a) g values)
    (λ _. of_refused (FromNear r) bad_shape))
    (λ _. of_refused (FromNear r) invalid_input)
