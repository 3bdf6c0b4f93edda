-- The first point of a segment in a closed triangle, by whole numbers alone. Definitions only. Assumes nothing.
-- The triangle is seen along the line: the line is where across and up are 0, and a corner's depth is along it.
use Rattle.std.specs.Prelude.{Option, Some, None}
use Rattle.std.specs.Prelude.{Bool, not, ◌&&◌, cond, ℤ, pos, neg_ℤ, ◌+ℤ◌, ◌-ℤ◌, ◌*ℤ◌}
use Rattle.std.specs.Int.Signed.{lt_z, le_z}
use Rattle.wide_integers.specs.Determinant.{determinant, is_zero}
use Rattle.exact_depth.specs.declared.projection.Projected.{Projected}
use Rattle.exact_depth.specs.declared.projection.Fraction.{Fraction}
use Rattle.exact_depth.specs.declared.plane.PlanePoint.{PlanePoint}
use Rattle.exact_depth.specs.declared.plane.Side.{Side}

-- the first point of the segment: from near to the maximum, both included
unfoldable pub kept : Fraction → ℤ → ℤ → Option Fraction
kept f near far = cond (lt_z f.t (near *ℤ f.w)) None (cond (lt_z (far *ℤ f.w) f.t) None (Some f))

-- ---- A candidate whose plane the line crosses is decided by the signs of three whole numbers and its depth t / W by two
unfoldable pub crossing : ℤ → ℤ → ℤ → ℤ → ℤ → ℤ → ℤ → ℤ → Option Fraction
crossing a b c x y z near far =
    cond (lt_z a (pos 0)) None
    (cond (lt_z b (pos 0)) None
    (cond (lt_z c (pos 0)) None
    (kept (record { t = a *ℤ x +ℤ b *ℤ y +ℤ c *ℤ z; w = a +ℤ b +ℤ c }) near far)))

-- ---- one whose plane the line lies in counts too, with the first point of the segment that lies in it (over its three sides ..)
-- in that plane the line is u = 0; a depth t / w is on the triangle's side of a side where level · w - fall · t is not below 0
unfoldable pub side_of : PlanePoint → PlanePoint → Side
side_of p q = record { level = determinant p.u p.depth q.u q.depth; fall = p.u -ℤ q.u }

abbrev pub height_of : Side → Fraction → ℤ
height_of s f = determinant s.level s.fall f.t f.w

-- a depth before the line comes over a side is put off until there
abbrev pub enter_at : Fraction → Side → Fraction
enter_at f s = cond (lt_z (height_of s f) (pos 0)) (record { t = neg_ℤ s.level; w = neg_ℤ s.fall }) f

unfoldable pub entering : Fraction → Side → Fraction
entering f s = cond (lt_z s.fall (pos 0)) (enter_at f s) f

unfoldable pub inside : Side → Side → Side → Fraction → Bool
inside p q r f =
    not (lt_z (height_of p f) (pos 0)) && (not (lt_z (height_of q f) (pos 0)) && le_z (pos 0) (height_of r f))

-- the first depth from near on that no side puts off
unfoldable pub entry : PlanePoint → PlanePoint → PlanePoint → ℤ → Fraction
entry a b c near = entering (entering (entering (record { t = near; w = pos 1 }) (side_of b c)) (side_of c a)) (side_of a b)

-- the corners turn to the left
unfoldable pub along_plane : PlanePoint → PlanePoint → PlanePoint → ℤ → ℤ → Option Fraction
along_plane a b c near far =
    cond (inside (side_of b c) (side_of c a) (side_of a b) (entry a b c near)) (kept (entry a b c near) near far) None

unfoldable pub area : PlanePoint → PlanePoint → PlanePoint → ℤ
area a b c =
    determinant b.u b.depth c.u c.depth +ℤ determinant c.u c.depth a.u a.depth
    +ℤ determinant a.u a.depth b.u b.depth

-- they turn either way; where they do not turn the answer is another's
unfoldable pub in_plane : PlanePoint → PlanePoint → PlanePoint → ℤ → ℤ → Option Fraction → Option Fraction
in_plane a b c near far other =
    cond (lt_z (pos 0) (area a b c)) (along_plane a b c near far)
    (cond (lt_z (area a b c) (pos 0)) (along_plane a c b near far) other)

abbrev pub across_point : Projected → PlanePoint
across_point s = record { u = s.across; depth = s.depth }

abbrev pub up_point : Projected → PlanePoint
up_point s = record { u = s.up; depth = s.depth }

-- a triangle without area has no surface and is skipped
unfoldable pub coplanar : Projected → Projected → Projected → ℤ → ℤ → Option Fraction
coplanar a b c near far =
    in_plane (across_point a) (across_point b) (across_point c) near far (in_plane (up_point a) (up_point b) (up_point c) near far None)

-- ---- both
abbrev pub seen_determinant : Projected → Projected → ℤ
seen_determinant p q = determinant p.across p.up q.across q.up

unfoldable pub by_weights : Projected → Projected → Projected → ℤ → ℤ → ℤ → ℤ → ℤ → Option Fraction
by_weights a b c α β γ near far =
    cond (lt_z (pos 0) (α +ℤ β +ℤ γ)) (crossing α β γ a.depth b.depth c.depth near far)
    (cond (lt_z (α +ℤ β +ℤ γ) (pos 0)) (crossing (neg_ℤ α) (neg_ℤ β) (neg_ℤ γ) a.depth b.depth c.depth near far)
    (cond (is_zero α && is_zero β) (coplanar a b c near far) None))

unfoldable pub first_point : Projected → Projected → Projected → ℤ → ℤ → Option Fraction
first_point a b c near far = by_weights a b c (seen_determinant b c) (seen_determinant c a) (seen_determinant a b) near far
