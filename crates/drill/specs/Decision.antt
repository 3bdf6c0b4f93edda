-- Whether a drill touches a triangle, by the signs of whole numbers. Definitions only. Assumes nothing.
use Rattle.std.specs.Prelude.{ℕ, ◌*◌, Bool, ◌&&◌, ◌||◌, cond, ℤ, pos, neg_ℤ, ◌+ℤ◌, ◌-ℤ◌, ◌*ℤ◌}
use Rattle.std.specs.Int.Signed.{lt_z, le_z}
use Rattle.exact_depth.specs.declared.projection.Point.{Point}
use Rattle.exact_triangle.specs.Line.{parts, Line}
use Rattle.exact_triangle.specs.Shear.{from}
use Rattle.drill.specs.Drill.{dot, square}

abbrev pub cross : Point → Point → Point
cross p q = record {
  x = p.y *ℤ q.z -ℤ p.z *ℤ q.y;
  y = p.z *ℤ q.x -ℤ p.x *ℤ q.z;
  z = p.x *ℤ q.y -ℤ p.y *ℤ q.x;
}

abbrev pub scale : ℤ → Point → Point
scale k p = record { x = k *ℤ p.x; y = k *ℤ p.y; z = k *ℤ p.z }

abbrev pub plus : Point → Point → Point
plus p q = record { x = p.x +ℤ q.x; y = p.y +ℤ q.y; z = p.z +ℤ q.z }

abbrev pub minus : Point → Point → Point
minus p q = record { x = p.x -ℤ q.x; y = p.y -ℤ q.y; z = p.z -ℤ q.z }

-- A corner from the axis: where it is from the origin; its moment about the axis, whose square is |d|² times the square of its distance to
-- the axis; its height along the axis, |d| times; how far it is above near and below far, 2^30 |d|² times.
pub record FromAxis : Type 0 where
  pub at : Point
  pub moment : Point
  pub height : ℤ
  pub low : ℤ
  pub high : ℤ

unfoldable pub from_axis : Line → Point → FromAxis
from_axis l p = record {
  at = p;
  moment = cross p l.direction;
  height = dot p l.direction;
  low = pos parts *ℤ dot p l.direction -ℤ pos l.near *ℤ square l.direction;
  high = pos l.far *ℤ square l.direction -ℤ pos parts *ℤ dot p l.direction;
}

-- ---- a corner is in the drill; R is ρ² |d|²
unfoldable pub corner_in : ℤ → FromAxis → Bool
corner_in R p = le_z (pos 0) p.low && (le_z (pos 0) p.high && le_z (square p.moment) R)

-- ---- a side crosses a cap within ρ: f and g are how far its ends are on the drill's side of the cap
abbrev pub apart : ℤ → ℤ → Bool
apart f g = cond (lt_z f (pos 0)) (le_z (pos 0) g) (lt_z g (pos 0))

unfoldable pub crossing_in : ℤ → Point → Point → ℤ → ℤ → Bool
crossing_in R v w f g = apart f g && le_z (square (minus (scale f w) (scale g v))) (R *ℤ ((f -ℤ g) *ℤ (f -ℤ g)))

-- ---- a side's point that is nearest to the axis' line lies inside the side, between the caps and within ρ
unfoldable pub foot_in : ℕ → Point → FromAxis → FromAxis → Bool
foot_in ρ d p q =
    let e = minus q.moment p.moment in
    let i = dot q.moment e in
    let j = neg_ℤ (dot p.moment e) in
    let t = dot (cross p.at q.at) d in
    lt_z (pos 0) i && (lt_z (pos 0) j
    && (le_z (pos 0) (i *ℤ p.low +ℤ j *ℤ q.low) && (le_z (pos 0) (i *ℤ p.high +ℤ j *ℤ q.high)
    && le_z (t *ℤ t) (pos (ρ * ρ) *ℤ (i +ℤ j)))))

abbrev pub side_in : ℕ → Point → ℤ → FromAxis → FromAxis → Bool
side_in ρ d R p q =
    crossing_in R p.moment q.moment p.low q.low
    || (crossing_in R p.moment q.moment p.high q.high || foot_in ρ d p q)

-- ---- the point nearest to a cap's centre, of the line in which the triangle's plane crosses the cap's, lies in the triangle and within ρ:
-- s along that line's direction g, and f above the cap
unfoldable pub cap_in : ℕ → Point → Point → ℤ → Point → Point → Point → ℤ → ℤ → ℤ → Bool
cap_in ρ d g κ a b c fa fb fc =
    let sa = dot a g in
    let sb = dot b g in
    let sc = dot c g in
    le_z (pos 0) (sb *ℤ fc -ℤ sc *ℤ fb) && (le_z (pos 0) (sc *ℤ fa -ℤ sa *ℤ fc) && (le_z (pos 0) (sa *ℤ fb -ℤ sb *ℤ fa)
    && (lt_z (pos 0) (square g)
    && le_z (κ *ℤ κ *ℤ square d) (pos (ρ * ρ) *ℤ (pos parts *ℤ pos parts) *ℤ square g))))

-- (q - r) a + (r - p) b + (p - q) c: the direction in which neither the heights p, q and r nor the plane are left
abbrev pub level : ℤ → ℤ → ℤ → Point → Point → Point → Point
level p q r a b c = plus (plus (scale (q -ℤ r) a) (scale (r -ℤ p) b)) (scale (p -ℤ q) c)

-- ---- the plane's point nearest to the axis' segment: where the axis' line crosses the plane before near it is at the near cap, past far
-- at
-- the far cap, and else it is where they cross, which is in the triangle if its weights i, j and k are not below 0; f and h are how far the
-- crossing is past near and before far
abbrev pub nearest_in : Bool → Bool → ℤ → ℤ → ℤ → ℤ → ℤ → Bool
nearest_in near far i j k f h =
    cond (lt_z f (pos 0)) near (cond (lt_z h (pos 0)) far (le_z (pos 0) i && (le_z (pos 0) j && le_z (pos 0) k)))

-- the weights' sum w is not 0 exactly if the line crosses the plane in one point; it may be below 0
unfoldable pub plane_in : Bool → Bool → ℤ → ℤ → ℤ → ℤ → ℤ → Bool
plane_in near far i j k f h =
    cond (lt_z (pos 0) (i +ℤ j +ℤ k)) (nearest_in near far i j k f h)
    (cond (lt_z (i +ℤ j +ℤ k) (pos 0)) (nearest_in near far (neg_ℤ i) (neg_ℤ j) (neg_ℤ k) (neg_ℤ f) (neg_ℤ h)) near)

-- ---- some corner, some side, or the plane's point
unfoldable pub touched_by : Line → ℕ → FromAxis → FromAxis → FromAxis → Bool
touched_by l ρ a b c =
    let d = l.direction in
    let R = pos (ρ * ρ) *ℤ square d in
    let i = dot (cross b.at c.at) d in
    let j = dot (cross c.at a.at) d in
    let k = dot (cross a.at b.at) d in
    let t = pos parts *ℤ dot (cross a.at b.at) c.at in
    let f = t -ℤ pos l.near *ℤ (i +ℤ j +ℤ k) in
    let h = pos l.far *ℤ (i +ℤ j +ℤ k) -ℤ t in
    let g = level a.height b.height c.height a.at b.at c.at in
    let g' = level (neg_ℤ a.height) (neg_ℤ b.height) (neg_ℤ c.height) a.at b.at c.at in
    corner_in R a || (corner_in R b || (corner_in R c
    || (side_in ρ d R a b || (side_in ρ d R b c || (side_in ρ d R c a
    || plane_in (cap_in ρ d g f a.at b.at c.at a.low b.low c.low)
    (cap_in ρ d g' h a.at b.at c.at a.high b.high c.high) i j k f h)))))

unfoldable pub touched : Line → ℕ → Point → Point → Point → Bool
touched l ρ a b c =
    touched_by l ρ (from_axis l (from l.origin a)) (from_axis l (from l.origin b)) (from_axis l (from l.origin c))
