-- A drill of radius 2 along z, from 0 to 10 units, at triangles that it touches and that it does not, computed. Assumes nothing.
use mathlib.Core.Path.{◌≡◌, refl}
use mathlib.Core.Bool.{true, false}
use lib.Dec.{lit<, lit≤}
use lib.IntN.{ℤ, pos, negsuc}
use Rattle.exact_depth.specs.declared.projection.Point.{Point}
use Rattle.exact_triangle.specs.Line.{Line, Moves}
use Rattle.drill.specs.Drill.{InDrill}
use Rattle.drill.specs.Decision.{from_axis, corner_in, crossing_in, foot_in, cap_in, plane_in, touched_by, touched}
use Rattle.drill.proofs.Deciding.{touched_decides}

abbrev at : ℤ → ℤ → ℤ → Point
at x y z = record { x = x; y = y; z = z }

abbrev line : Line
line = record { origin = at (pos 0) (pos 0) (pos 0); direction = at (pos 0) (pos 0) (pos 1073741824); near = 0; far = 10 }

-- ---- around the axis, at the far cap's height and one unit past it
at_far : touched line 2 (at (negsuc 98) (negsuc 98) (pos 10)) (at (pos 99) (negsuc 98) (pos 10)) (at (pos 0) (pos 99) (pos 10)) ≡ true
unfolding touched touched_by from_axis corner_in crossing_in foot_in cap_in plane_in
at_far = refl

past_far : touched line 2 (at (negsuc 98) (negsuc 98) (pos 11)) (at (pos 99) (negsuc 98) (pos 11)) (at (pos 0) (pos 99) (pos 11)) ≡ false
unfolding touched touched_by from_axis corner_in crossing_in foot_in cap_in plane_in
past_far = refl

-- ---- in a plane beside the axis, its sides far off: 2 units from it, and 3
beside : touched line 2 (at (pos 2) (negsuc 98) (negsuc 98)) (at (pos 2) (pos 99) (negsuc 98)) (at (pos 2) (pos 0) (pos 99)) ≡ true
unfolding touched touched_by from_axis corner_in crossing_in foot_in cap_in plane_in
beside = refl

off_beside : touched line 2 (at (pos 3) (negsuc 98) (negsuc 98)) (at (pos 3) (pos 99) (negsuc 98)) (at (pos 3) (pos 0) (pos 99)) ≡ false
unfolding touched touched_by from_axis corner_in crossing_in foot_in cap_in plane_in
off_beside = refl

-- ---- without area: a side that passes at 2 units, a point at the root of 5
side_on_lem : touched line 2 (at (pos 2) (negsuc 98) (pos 5)) (at (pos 2) (pos 99) (pos 5)) (at (pos 2) (pos 50) (pos 5)) ≡ true
unfolding touched touched_by from_axis corner_in crossing_in foot_in cap_in plane_in
side_on_lem = refl

point_off : touched line 2 (at (pos 2) (pos 1) (pos 5)) (at (pos 2) (pos 1) (pos 5)) (at (pos 2) (pos 1) (pos 5)) ≡ false
unfolding touched touched_by from_axis corner_in crossing_in foot_in cap_in plane_in
point_off = refl

-- ---- so there is a point in the drill, or none
moves : Moves line.direction
moves = record { some = lit< tt }

found : InDrill line 2 (at (pos 2) (negsuc 98) (negsuc 98)) (at (pos 2) (pos 99) (negsuc 98)) (at (pos 2) (pos 0) (pos 99))
found =
    (touched_decides line 2 (at (pos 2) (negsuc 98) (negsuc 98)) (at (pos 2) (pos 99) (negsuc 98)) (at (pos 2) (pos 0) (pos 99)) moves
    (lit≤ tt)).touched beside

none : InDrill line 2 (at (pos 3) (negsuc 98) (negsuc 98)) (at (pos 3) (pos 99) (negsuc 98)) (at (pos 3) (pos 0) (pos 99)) → ⊥
none =
    (touched_decides line 2 (at (pos 3) (negsuc 98) (negsuc 98)) (at (pos 3) (pos 99) (negsuc 98)) (at (pos 3) (pos 0) (pos 99)) moves
    (lit≤ tt)).clear off_beside
