-- Every drawing has its board; K4 to K6, four times as large; the two cases that may go either way, computed both ways. Assumes nothing.
use mathlib.Core.Path.{◌≡◌, refl, subst}
use mathlib.Core.Bool.{Bool, true, false}
use mathlib.Core.List.{List, [], ◌∷◌}
use Prim.Native.Nat.{ℕ, suc, ◌≤◌}
use lib.Dec.{T, lit≤}
use lib.IntN.{ℤ, pos, negsuc, nat_abs}
use lib.Signed.{le_z_yes, lt_z_yes}
use lib.Ieee.{Float, binary64, span, climb, size, odd, units, of_int, round, neg, sum, add, sub, mul, div, lt, eq, le, is_nan, of_fields}
use lib.Ieee.{of_bits}
use Rattle.arithmetic.specs.Basic.{is_finite, absolute}
use Rattle.arithmetic.specs.Extremes.{maximum_of}
use Rattle.arithmetic.specs.Root.{root_digits, whole_root, root_round, root_of}
use Rattle.arithmetic.specs.Scaling.{unit, digits_of, scaled_by}
use Rattle.arithmetic.proofs.Order.{eq_of_le_le, le_reflexive}
use Rattle.arithmetic.proofs.RoundedNumbers.{round_number}
use Rattle.vectors.specs.Vector.{finite_vec, sub_of, neg_of, abs_of, max_element, dot_of, checked_dot, cross_of, length_of, normalizable}
use Rattle.vectors.specs.Vector.{zero_vec}
use Rattle.vectors.specs.Vector.{dot_tells, scaled_to_one, over_length, try_normalize}
use Rattle.geometry.specs.Segment.{unit_length, ray_admitted}
use Rattle.vectors.specs.declared.vec3.Vec3.{Vec3}
use Rattle.geometry.specs.declared.ray.Ray.{Ray}
use Rattle.casts.specs.Surface.{off_segment, facing}
use Rattle.casts.specs.Answer.{Answer, hit, none, refused}
use Rattle.triangle_cast.specs.Triangle.{flat, triangle_normal, triangle_above, triangle_at, triangle_of, ray_triangle}
use Rattle.whole_numbers.specs.Points.{Point}
use Rattle.whole_numbers.specs.WholeTriangle.{Drawing, WholeTriangle, Drawn, DrawnAt, Crossing, sum as far, downward, along}
use Rattle.whole_numbers.specs.WholeMesh.{Met}
use Rattle.whole_numbers.proofs.WholeTriangles.{exact_on_whole_numbers}

-- ---- a drawing as floats
abbrev floats : Point → Vec3
floats p = record { x = of_int binary64 p.x; y = of_int binary64 p.y; z = of_int binary64 p.z }

abbrev ray_of : Drawing → Ray
ray_of g = record {
  origin = floats g.o;
  direction = floats (along g.direction);
  max_distance = of_int binary64 (pos g.maximum);
  near = of_int binary64 (pos 0);
}

abbrev corners_of : Drawing → List Vec3
corners_of g = floats g.a ∷ floats g.b ∷ floats g.c ∷ []

int_number : (z : ℤ) → is_nan (of_int binary64 z) ≡ false
unfolding of_int
int_number (pos n) = round_number binary64 false n 1
int_number (negsuc n) = round_number binary64 true (suc n) 1

drawn : (B : ℕ) (z : ℤ) → nat_abs z ≤ B → Drawn B (of_int binary64 z) z
drawn B z h =
    let x = of_int binary64 z in
    record { equal = eq_of_le_le x x (le_reflexive x (int_number z)) (le_reflexive x (int_number z)); bound = h }

-- a point from -B to B on each axis
pub record Small (B : ℕ) (p : Point) : Type 0 where
  pub first : nat_abs p.x ≤ B
  pub second : nat_abs p.y ≤ B
  pub third : nat_abs p.z ≤ B

drawn_at : (B : ℕ) (p : Point) → Small B p → DrawnAt B (floats p) p
drawn_at B p s = record { first = drawn B p.x s.first; second = drawn B p.y s.second; third = drawn B p.z s.third }

pub record Fits (g : Drawing) : Type 0 where
  pub o : Small 4096 g.o
  pub a : Small 4096 g.a
  pub b : Small 4096 g.b
  pub c : Small 4096 g.c
  pub direction : Small 1 (along g.direction)
  pub least : 1 ≤ g.maximum
  pub most : g.maximum ≤ 16384

pub board_of_lem : (g : Drawing) → Fits g → WholeTriangle (ray_of g) (corners_of g) g
board_of_lem g f = record {
  origin = drawn_at 4096 g.o f.o;
  direction = drawn_at 1 (along g.direction) f.direction;
  near = drawn 0 (pos 0) (lit≤ tt);
  maximum = drawn 16384 (pos g.maximum) f.most;
  positive = f.least;
  first = drawn_at 4096 g.a f.a;
  second = drawn_at 4096 g.b f.b;
  third = drawn_at 4096 g.c f.c;
}

abbrev at : ℤ → ℤ → ℤ → Point
at x y z = record { x = x; y = y; z = z }

-- down from o, up to a maximum, on a triangle with its first corner at 0
abbrev down : Point → ℕ → Point → Point → Drawing
down o maximum b c = record { o = o; direction = downward; maximum = maximum; a = at (pos 0) (pos 0) (pos 0); b = b; c = c }

abbrev small : Small 1 (at (pos 0) (pos 0) (negsuc 0))
small = record { first = lit≤ tt; second = lit≤ tt; third = lit≤ tt }

abbrev zeros : Small 4096 (at (pos 0) (pos 0) (pos 0))
zeros = record { first = lit≤ tt; second = lit≤ tt; third = lit≤ tt }

abbrev is_negative : ℤ → Bool
is_negative (pos n) = false
is_negative (negsuc n) = true

-- ---- K4, four times as large, with a depth below the maximum: promised to be hit
abbrev pub k4 : Drawing
k4 = down (at (pos 1) (pos 1) (pos 4)) 5 (at (pos 4) (pos 0) (pos 0)) (at (pos 0) (pos 4) (pos 0))

pub k4_whole : WholeTriangle (ray_of k4) (corners_of k4) k4
k4_whole = board_of_lem k4 (record {
  o = record { first = lit≤ tt; second = lit≤ tt; third = lit≤ tt };
  a = zeros;
  b = record { first = lit≤ tt; second = lit≤ tt; third = lit≤ tt };
  c = record { first = lit≤ tt; second = lit≤ tt; third = lit≤ tt };
  direction = small;
  least = lit≤ tt;
  most = lit≤ tt;
})

k4_crossing : Crossing k4 4 (pos 1) (pos 1) (pos 16)
k4_crossing = record { divisor = lit≤ tt; meets = refl }

pub k4_met : Met k4 4 (pos 1) (pos 1) (pos 16)
k4_met = record {
  apart = λ (h : ◌≡◌ {A = ℤ} (negsuc 15) (pos 0)). subst (λ (z : ℤ). T (is_negative z)) h tt;
  crossing = k4_crossing;
  inside = record { first = le_z_yes tt; second = le_z_yes tt; sum = lt_z_yes tt };
  from_zero = le_z_yes tt;
  below_maximum = lt_z_yes tt;
}

k4_hit : (normal : Vec3) × (distance : Float) × (ray_triangle (ray_of k4) (corners_of k4) ≡ hit normal distance)
k4_hit =
    let m = k4_met in
    (exact_on_whole_numbers (ray_of k4) (corners_of k4) k4 k4_whole).hits m.apart 4 (pos 1) (pos 1) (pos 16) m.crossing
    m.inside m.from_zero m.below_maximum

-- ---- K6, four times as large: promised to be missed
abbrev pub k6 : Drawing
k6 = down (at (pos 3) (pos 2) (pos 4)) 5 (at (pos 4) (pos 0) (pos 0)) (at (pos 0) (pos 4) (pos 0))

pub k6_whole : WholeTriangle (ray_of k6) (corners_of k6) k6
k6_whole = board_of_lem k6 (record {
  o = record { first = lit≤ tt; second = lit≤ tt; third = lit≤ tt };
  a = zeros;
  b = record { first = lit≤ tt; second = lit≤ tt; third = lit≤ tt };
  c = record { first = lit≤ tt; second = lit≤ tt; third = lit≤ tt };
  direction = small;
  least = lit≤ tt;
  most = lit≤ tt;
})

pub k6_crossing : Crossing k6 4 (pos 3) (pos 2) (pos 16)
k6_crossing = record { divisor = lit≤ tt; meets = refl }

k6_none : ray_triangle (ray_of k6) (corners_of k6) ≡ none
k6_none =
    (exact_on_whole_numbers (ray_of k6) (corners_of k6) k6 k6_whole).outside 4 (pos 3) (pos 2) (pos 16) k6_crossing (far (lt_z_yes tt))

-- ---- the open cases
abbrev is_hit_lem : Answer → Bool
is_hit_lem (hit normal distance) = true
is_hit_lem none = false
is_hit_lem (refused number) = false

-- "The opposite side and a depth equal to the maximum may go either way.": 6 / 91 and 85 / 91, each rounded, come to more than 1
abbrev opposite_missed_drawing : Drawing
opposite_missed_drawing = down (at (pos 86) (pos 85) (pos 5)) 10 (at (pos 1) (pos 0) (pos 0)) (at (pos 92) (pos 91) (pos 0))

opposite_missed : ray_triangle (ray_of opposite_missed_drawing) (corners_of opposite_missed_drawing) ≡ none
unfolding of_int span climb size odd units round neg sum add sub mul div lt eq le is_nan of_fields of_bits is_finite absolute maximum_of
    root_digits whole_root root_round root_of unit digits_of scaled_by finite_vec sub_of neg_of abs_of max_element dot_of checked_dot
    cross_of length_of
    normalizable zero_vec dot_tells scaled_to_one over_length try_normalize unit_length ray_admitted off_segment facing flat triangle_normal
    triangle_above triangle_at triangle_of ray_triangle
opposite_missed = refl

-- K5, four times as large
abbrev opposite_hit_drawing : Drawing
opposite_hit_drawing = down (at (pos 2) (pos 2) (pos 4)) 5 (at (pos 4) (pos 0) (pos 0)) (at (pos 0) (pos 4) (pos 0))

opposite_hit : is_hit_lem (ray_triangle (ray_of opposite_hit_drawing) (corners_of opposite_hit_drawing)) ≡ true
unfolding of_int span climb size odd units round neg sum add sub mul div lt eq le is_nan of_fields of_bits is_finite absolute maximum_of
    root_digits whole_root root_round root_of unit digits_of scaled_by finite_vec sub_of neg_of abs_of max_element dot_of checked_dot
    cross_of length_of
    normalizable zero_vec dot_tells scaled_to_one over_length try_normalize unit_length ray_admitted off_segment facing flat triangle_normal
    triangle_above triangle_at triangle_of ray_triangle
opposite_hit = refl

-- 525 times the rounded inverse of 75 is more than 7
abbrev maximum_missed_drawing : Drawing
maximum_missed_drawing = down (at (pos 1) (pos 1) (pos 7)) 7 (at (pos 25) (pos 0) (pos 0)) (at (pos 0) (pos 3) (pos 0))

maximum_missed : ray_triangle (ray_of maximum_missed_drawing) (corners_of maximum_missed_drawing) ≡ none
unfolding of_int span climb size odd units round neg sum add sub mul div lt eq le is_nan of_fields of_bits is_finite absolute maximum_of
    root_digits whole_root root_round root_of unit digits_of scaled_by finite_vec sub_of neg_of abs_of max_element dot_of checked_dot
    cross_of length_of
    normalizable zero_vec dot_tells scaled_to_one over_length try_normalize unit_length ray_admitted off_segment facing flat triangle_normal
    triangle_above triangle_at triangle_of ray_triangle
maximum_missed = refl

abbrev maximum_hit_drawing : Drawing
maximum_hit_drawing = down (at (pos 1) (pos 1) (pos 4)) 4 (at (pos 4) (pos 0) (pos 0)) (at (pos 0) (pos 4) (pos 0))

maximum_hit : is_hit_lem (ray_triangle (ray_of maximum_hit_drawing) (corners_of maximum_hit_drawing)) ≡ true
unfolding of_int span climb size odd units round neg sum add sub mul div lt eq le is_nan of_fields of_bits is_finite absolute maximum_of
    root_digits whole_root root_round root_of unit digits_of scaled_by finite_vec sub_of neg_of abs_of max_element dot_of checked_dot
    cross_of length_of
    normalizable zero_vec dot_tells scaled_to_one over_length try_normalize unit_length ray_admitted off_segment facing flat triangle_normal
    triangle_above triangle_at triangle_of ray_triangle
maximum_hit = refl
