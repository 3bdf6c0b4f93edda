-- How large the decision's numbers are, of corners within 8,192 mm and a direction within 2. Definitions only. Assumes nothing.
use Rattle.std.specs.Prelude.{ℕ, ◌*◌, ◌^◌, ℤ, pos, neg_ℤ, ◌+ℤ◌, ◌-ℤ◌, ◌*ℤ◌}
use Rattle.wide_integers.specs.Sizes.{Sized}
use Rattle.exact_triangle.specs.Sizes.{SizedAt}
use Rattle.exact_depth.specs.declared.projection.Point.{Point}
use Rattle.exact_triangle.specs.Line.{parts, Line}
use Rattle.drill.specs.Drill.{dot, square}
use Rattle.drill.specs.Decision.{FromAxis, cross, minus, scale}

pub record FromAxisSized (s : FromAxis) : Type 0 where
  pub at : SizedAt (2 ^ 29) s.at
  pub moment : SizedAt (2 ^ 61) s.moment
  pub height : Sized (3 * 2 ^ 60) s.height
  pub low : Sized (15 * 2 ^ 90) s.low
  pub high : Sized (15 * 2 ^ 90) s.high

-- a corner's test compares two numbers below 2^124
pub record CornerNumbers (ρ : ℕ) (d : Point) (s : FromAxis) : Type 0 where
  pub moment : Sized (3 * 2 ^ 122) (square s.moment)
  pub reach : Sized (3 * 2 ^ 106) (pos (ρ * ρ) *ℤ square d)

-- a crossing's, three squares of numbers below 2^156 with the product of one below 2^108 and one below 2^190
pub record CrossingNumbers (v w : Point) (f g : ℤ) : Type 0 where
  pub at : SizedAt (15 * 2 ^ 152) (minus (scale f w) (scale g v))
  pub apart : Sized (225 * 2 ^ 182) ((f -ℤ g) *ℤ (f -ℤ g))

-- a foot's: weights below 2^125, each times a height below 2^94; and a square of a number below 2^92 with one below 2^171
pub record FootNumbers (ρ : ℕ) (d : Point) (p q : FromAxis) : Type 0 where
  pub first : Sized (3 * 2 ^ 123) (dot q.moment (minus q.moment p.moment))
  pub second : Sized (3 * 2 ^ 123) (neg_ℤ (dot p.moment (minus q.moment p.moment)))
  pub turn : Sized (3 * 2 ^ 90) (dot (cross p.at q.at) d)
  pub reach : Sized (3 * 2 ^ 168) (pos (ρ * ρ) *ℤ (dot q.moment (minus q.moment p.moment)
      +ℤ neg_ℤ (dot p.moment (minus q.moment p.moment))))

-- the plane's: f and h, below 2^124, and the weights, below 2^92
pub record PlaneNumbers (l : Line) (a b c : Point) : Type 0 where
  pub first : Sized (3 * 2 ^ 90) (dot (cross b c) l.direction)
  pub second : Sized (3 * 2 ^ 90) (dot (cross c a) l.direction)
  pub third : Sized (3 * 2 ^ 90) (dot (cross a b) l.direction)
  pub past_near : Sized (39 * 2 ^ 118) (pos parts *ℤ dot (cross a b) c -ℤ pos l.near *ℤ (dot (cross b c) l.direction
      +ℤ dot (cross c a) l.direction +ℤ dot (cross a b) l.direction))
  pub before_far : Sized (39 * 2 ^ 118) (pos l.far *ℤ (dot (cross b c) l.direction
      +ℤ dot (cross c a) l.direction +ℤ dot (cross a b) l.direction) -ℤ pos parts *ℤ dot (cross a b) c)

-- a cap's: each s, below 2^124, times a height below 2^94; κ, below 2^124, times κ |d|², below 2^188, with ρ² 2^60, up to 2^104, times
-- |g|²,
-- below 2^188
pub record CapNumbers (d g a : Point) (κ : ℤ) : Type 0 where
  pub along : SizedAt (9 * 2 ^ 90) g
  pub s : Sized (27 * 2 ^ 119) (dot a g)
  pub square_g : Sized (243 * 2 ^ 180) (square g)
  pub κ_d : Sized (117 * 2 ^ 180) (κ *ℤ square d)
