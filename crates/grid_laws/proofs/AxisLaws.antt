-- The axes of a grid that is admitted and whose box is valid: origin and last node are finite on each. Assumes nothing.
use mathlib.Core.Path.{◌≡◌, refl}
use mathlib.Core.Bool.{Bool, true, false, ◌&&◌, true≢false, false≢true}
use mathlib.Core.List.{List}
use Prim.Native.Nat.{ℕ, ◌-◌, ◌*◌}
use native.Mathlib.Omega.{arith}
use lib.Dec.{T}
use lib.Ieee.{Float, nan, inf, fin, binary64, up, down, fits, is_nan, add, mul, lt}
use lib.Ieee.Exact.{HasValue}
use lib.ListN.{length}
use Rattle.arithmetic.specs.Basic.{is_finite}
use Rattle.arithmetic.specs.Extremes.{minimum_of, maximum_of}
use Rattle.arithmetic.proofs.Exactness.{of_int_value}
use Rattle.arithmetic.proofs.ExtremesOrder.{minimum_below_second, maximum_above_second}
use Rattle.arithmetic.proofs.Numbers.{finite_number}
use Rattle.arithmetic.proofs.QuotientOrder.{between_finite}
use Rattle.arithmetic.proofs.RoundedNumbers.{round_number, sum_number}
use Rattle.vectors.specs.Numbers.{◌+ᶠ◌, ◌*ᶠ◌, zeroᶠ}
use Rattle.vectors.specs.Vector.{finite_vec, min_of, max_of}
use Rattle.geometry.specs.Box.{valid_side, valid_box}
use Rattle.lists.proofs.JoinedTests.{and_first, and_second}
use Rattle.geometry.specs.Spacing.{spacing_admitted}
use Rattle.distance_grid.specs.Grid.{whole, last_node, last_corner, grid_box, sides_admitted, grid_admitted, SideStands}
use Rattle.grid_laws.specs.Clamping.{AxisStands, AxesStand, VectorFits}
use Rattle.distance_grid.specs.declared.grid.Grid.{Grid}
use Rattle.distance_grid.proofs.GridLaws.{admitted_stands}

-- ---- the last node is a number
product_number : (s w : Float) (k : ℕ) → is_finite s ≡ true → HasValue w false k 1 → is_nan (s *ᶠ w) ≡ false
unfolding is_finite mul
product_number nan w k p v = absurd (false≢true p)
product_number (inf t) w k p v = absurd (false≢true p)
product_number (fin t n d) nan k p v = absurd v
product_number (fin t n d) (inf u) k p v = absurd v
product_number (fin t n d) (fin u m e) k p v = round_number binary64 _ (n * up d * (m * up e)) (down d * down e)

sum_number_first : (o p : Float) → is_finite o ≡ true → is_nan p ≡ false → is_nan (o +ᶠ p) ≡ false
unfolding is_finite is_nan add
sum_number_first nan p h k = absurd (false≢true h)
sum_number_first (inf s) p h k = absurd (false≢true h)
sum_number_first (fin s m e) nan h k = absurd (true≢false k)
sum_number_first (fin s m e) (inf t) h k = refl
sum_number_first (fin s m e) (fin t n d) h k = sum_number binary64 s (m * up e * down d) t (n * up d * down e) (down e * down d)

last_number_lem : (o s : Float) (side : ℕ) → is_finite o ≡ true → is_finite s ≡ true → SideStands side → is_nan (last_node o s side) ≡ false
unfolding last_node
last_number_lem o s side p q l =
    let most = l.most in
    sum_number_first o (s *ᶠ whole (side - 1)) p (product_number s (whole (side - 1)) (side - 1) q (of_int_value (side - 1) (omega arith)))

-- ---- one axis
spacing_finite : (s : Float) → spacing_admitted s ≡ true → is_finite s ≡ true
unfolding spacing_admitted
spacing_finite s h = and_first (is_finite s) (lt zeroᶠ s) h

side_last : (o last : Float) → is_finite o ≡ true → is_nan last ≡ false → valid_side (minimum_of o last) (maximum_of o last) ≡ true
    → is_finite last ≡ true
unfolding valid_side
side_last o last p n h =
    let m = finite_number o p in
    let low = and_first (is_finite (minimum_of o last)) _ h in
    let high = and_first (is_finite (maximum_of o last)) _ (and_second (is_finite (minimum_of o last)) _ h) in
    between_finite (minimum_of o last) last (maximum_of o last) low high (minimum_below_second o last m n) (maximum_above_second o last m n)

axis_stands : (o s : Float) (side : ℕ) → is_finite o ≡ true → T (fits binary64 o) → spacing_admitted s ≡ true → T (fits binary64 s)
    → SideStands side
    → valid_side (minimum_of o (last_node o s side)) (maximum_of o (last_node o s side)) ≡ true → AxisStands o s side
axis_stands o s side p f a g l v = record {
  origin_finite = p;
  origin_fits = f;
  spacing_admitted = a;
  spacing_fits = g;
  side_stands = l;
  last_finite = side_last o (last_node o s side) p (last_number_lem o s side p (spacing_finite s a) l) v;
}

-- ---- the grid
-- what is told by a chain of three tests
pub record AllThree (a b c : Bool) : Type 0 where
  pub first : a ≡ true
  pub second : b ≡ true
  pub third : c ≡ true

all_three : (a b c : Bool) → (a && (b && c)) ≡ true → AllThree a b c
all_three a b c h =
    let rest = and_second a (b && c) h in
    record { first = and_first a (b && c) h; second = and_first b c rest; third = and_second b c rest }

box_sides : (g : Grid) → valid_box (grid_box g) ≡ true
    → AllThree (valid_side (minimum_of g.origin.x (last_corner g).x) (maximum_of g.origin.x (last_corner g).x))
    (valid_side (minimum_of g.origin.y (last_corner g).y) (maximum_of g.origin.y (last_corner g).y))
    (valid_side (minimum_of g.origin.z (last_corner g).z) (maximum_of g.origin.z (last_corner g).z))
unfolding valid_box grid_box min_of max_of
box_sides g h = all_three _ _ _ h

origin_sides : (g : Grid) → finite_vec g.origin ≡ true
    → AllThree (is_finite g.origin.x) (is_finite g.origin.y) (is_finite g.origin.z)
unfolding finite_vec
origin_sides g h = all_three (is_finite g.origin.x) (is_finite g.origin.y) (is_finite g.origin.z) h

pub axes_stand : (g : Grid) (values : List Float) → VectorFits g.origin → VectorFits g.spacing → grid_admitted g (length values) ≡ true
    → valid_box (grid_box g) ≡ true → AxesStand g
unfolding grid_admitted last_corner
axes_stand g values o s a v =
    let sides = (admitted_stands g values (unfold grid_admitted in a)).sides_stand in
    let x = spacing_admitted g.spacing.x in
    let y = spacing_admitted g.spacing.y in
    let z = spacing_admitted g.spacing.z in
    let rest = and_second (sides_admitted g.sides (length values)) (x && (y && (z && finite_vec g.origin))) a in
    let ax = and_first x (y && (z && finite_vec g.origin)) rest in
    let both = all_three y z (finite_vec g.origin) (and_second x (y && (z && finite_vec g.origin)) rest) in
    let p = origin_sides g both.third in
    let b = box_sides g v in
    record {
      on_x = axis_stands g.origin.x g.spacing.x g.sides.x p.first o.fits_x ax s.fits_x sides.on_x b.first;
      on_y =
          axis_stands g.origin.y g.spacing.y g.sides.y p.second o.fits_y both.first s.fits_y sides.on_y
          b.second;
      on_z =
          axis_stands g.origin.z g.spacing.z g.sides.z p.third o.fits_z both.second s.fits_z sides.on_z
          b.third;
    }
