-- The corners of a triangle whose box is in a box are, on the grid, in that box's room. Assumes nothing.
use mathlib.Core.Path.{◌≡◌}
use mathlib.Core.Bool.{Bool, true, false, ◌&&◌}
use lib.IntN.{ℤ, ◌-ℤ◌}
use lib.Ieee.{Float, le, is_nan}
use Rattle.lists.proofs.JoinedTests.{and_first, and_second}
use Rattle.arithmetic.specs.Extremes.{minimum_of, maximum_of}
use Rattle.arithmetic.proofs.Numbers.{finite_number}
use Rattle.arithmetic.proofs.Order.{le_left_number, le_right_number, le_transitive}
use Rattle.arithmetic.proofs.ExtremesOrder.{minimum_below_first, minimum_below_second, maximum_above_first, maximum_above_second}
use Rattle.vectors.specs.Vector.{min_of, max_of}
use Rattle.vectors.specs.declared.vec3.Vec3.{Vec3}
use Rattle.geometry.specs.Box.{within_side, encloses, box_of}
use Rattle.geometry.specs.declared.aabb.Aabb.{Aabb}
use Rattle.exact_triangle.specs.Line.{Line}
use Rattle.exact_triangle.specs.Shear.{main_of, facing, from, heading, projected_of}
use Rattle.exact_triangle.specs.Grid.{units, nearest_to, within, all_within, furthest, grid_point}
use Rattle.tree_exact.specs.Room.{side_on, facing_room, room_of}
use Rattle.tree_exact.specs.Opening.{box_read}
use Rattle.tree_exact.proofs.Spans.{InSpan, less_same}
use Rattle.tree_exact.proofs.Rooms.{InRoom, in_faced, in_sheared}
use Rattle.tree_exact.proofs.Reading.{read_mono, within_finite}

-- ---- the least of three, and the greatest
pub record Among (low high x : Float) : Type 0 where
  pub above : le low x ≡ true
  pub below : le x high ≡ true

pub record AmongThree (low high a b c : Float) : Type 0 where
  pub first : Among low high a
  pub second : Among low high b
  pub third : Among low high c

pub among_three : (low high a b c : Float) → is_nan a ≡ false → is_nan b ≡ false → is_nan c ≡ false
    → within_side low high (minimum_of (minimum_of a b) c) (maximum_of (maximum_of a b) c) ≡ true → AmongThree low high a b c
unfolding within_side
among_three low high a b c na nb nc h =
    let least = minimum_of a b in
    let most = maximum_of a b in
    let nl : is_nan least ≡ false = le_left_number least a (minimum_below_first a b na nb) in
    let nm : is_nan most ≡ false = le_right_number a most (maximum_above_first a b na nb) in
    let under : le low (minimum_of least c) ≡ true = and_first (le low (minimum_of least c)) _ h in
    let over : le (maximum_of most c) high ≡ true = and_second (le low (minimum_of least c)) _ h in
    let pair : le low least ≡ true = le_transitive low (minimum_of least c) least under (minimum_below_first least c nl nc) in
    let pair' : le most high ≡ true = le_transitive most (maximum_of most c) high (maximum_above_first most c nm nc) over in
    record {
      first = record {
        above = le_transitive low least a pair (minimum_below_first a b na nb);
        below = le_transitive a most high (maximum_above_first a b na nb) pair';
      };
      second = record {
        above = le_transitive low least b pair (minimum_below_second a b na nb);
        below = le_transitive b most high (maximum_above_second a b na nb) pair';
      };
      third = record {
        above = le_transitive low (minimum_of least c) c under (minimum_below_second least c nl nc);
        below = le_transitive c (maximum_of most c) high (maximum_above_second most c nm nc) over;
      };
    }

-- ---- on the grid
among_inside : (o : ℤ) (low high x : Float) → within furthest low ≡ true → within furthest high ≡ true → within furthest x ≡ true
    → Among low high x → InSpan (side_on o low high) (nearest_to units x -ℤ o)
among_inside o low high x p q r h =
    let fl = within_finite low p in
    let fh = within_finite high q in
    let fx = within_finite x r in
    record {
      above = less_same (nearest_to units low) (nearest_to units x) o (read_mono units low x fl fx h.above);
      below = less_same (nearest_to units x) (nearest_to units high) o (read_mono units x high fx fh h.below);
    }

-- ---- on every axis
pub record Each (P : Float → Type 0) (v : Vec3) : Type 0 where
  pub x : P v.x
  pub y : P v.y
  pub z : P v.z

pub all_each : (v : Vec3) → all_within furthest v ≡ true → Each (λ (x : Float). within furthest x ≡ true) v
all_each v h =
    let rest = and_second (within furthest v.x) _ h in
    record {
      x = and_first (within furthest v.x) _ h;
      y = and_first (within furthest v.y) _ rest;
      z = and_second (within furthest v.y) _ rest;
    }

pub record AmongBox (box : Aabb) (a b c : Vec3) : Type 0 where
  pub x : AmongThree box.min.x box.max.x a.x b.x c.x
  pub y : AmongThree box.min.y box.max.y a.y b.y c.y
  pub z : AmongThree box.min.z box.max.z a.z b.z c.z

abbrev pub Numbers : Vec3 → Type 0
Numbers = Each (λ (x : Float). is_nan x ≡ false)

pub numbers_of_lem : (v : Vec3) → all_within furthest v ≡ true → Numbers v
numbers_of_lem v h =
    let e = all_each v h in
    let number : (x : Float) → within furthest x ≡ true → is_nan x ≡ false = λ x w. finite_number x (within_finite x w) in
    record { x = number v.x e.x; y = number v.y e.y; z = number v.z e.z }

pub among_box : (box : Aabb) (a b c : Vec3) → Numbers a → Numbers b → Numbers c → encloses box (box_of a b c) ≡ true → AmongBox box a b c
unfolding encloses min_of max_of
among_box box a b c na nb nc h =
    let rest = and_second (side (λ v. v.x)) (side (λ v. v.y) && side (λ v. v.z)) h in
    record {
      x =
          among_three box.min.x box.max.x a.x b.x c.x na.x nb.x nc.x
          (and_first (side (λ v. v.x)) (side (λ v. v.y) && side (λ v. v.z)) h);
      y =
          among_three box.min.y box.max.y a.y b.y c.y na.y nb.y nc.y
          (and_first (side (λ v. v.y)) (side (λ v. v.z)) rest);
      z =
          among_three box.min.z box.max.z a.z b.z c.z na.z nb.z nc.z
          (and_second (side (λ v. v.y)) (side (λ v. v.z)) rest);
    }
  where
    side : (Vec3 → Float) → Bool
    side axis =
        within_side (axis box.min) (axis box.max) (minimum_of (minimum_of (axis a) (axis b)) (axis c))
        (maximum_of (maximum_of (axis a) (axis b)) (axis c))

module _ (l : Line) (box : Aabb) (read : box_read box ≡ true) where
  pub corner_inside : (v : Vec3) → all_within furthest v ≡ true → Among box.min.x box.max.x v.x
      → Among box.min.y box.max.y v.y → Among box.min.z box.max.z v.z → InRoom (room_of l box)
      (projected_of l (grid_point v))
  unfolding room_of
  corner_inside v h ax ay az =
      let low = all_each box.min (and_first (all_within furthest box.min) _ read) in
      let high = all_each box.max (and_second (all_within furthest box.min) _ read) in
      let e = all_each v h in
      let o = l.origin in
      let x = side_on o.x box.min.x box.max.x in
      let y = side_on o.y box.min.y box.max.y in
      let z = side_on o.z box.min.z box.max.z in
      in_sheared (heading l) (facing_room (main_of l.direction) x y z) (facing (main_of l.direction) (from o (grid_point v)))
      (in_faced (main_of l.direction) x y z (from o (grid_point v))
      (among_inside o.x box.min.x box.max.x v.x low.x high.x e.x ax)
      (among_inside o.y box.min.y box.max.y v.y low.y high.y e.y ay)
      (among_inside o.z box.min.z box.max.z v.z low.z high.z e.z az))
