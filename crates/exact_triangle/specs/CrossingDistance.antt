-- Inner contracts only: the distance of a triangle that the line crosses. Definitions only. Assumes nothing.
use Rattle.std.specs.Prelude.{Option}
use Rattle.exact_depth.specs.declared.projection.Fraction.{Fraction}
use Rattle.std.specs.Prelude.{◌≡◌, true, ◌⊎◌, ℤ, pos, ◌-ℤ◌, ◌*ℤ◌, neg_ℤ, int_lt, Float}
use Rattle.std.specs.Float.Ieee.{lt}
use Rattle.wide_integers.specs.Division.{fraction_of}
use Rattle.casts.specs.Reach.{At as Reached, Miss as Missed}
use Rattle.exact_triangle.specs.Reach.{reach_at}
use Rattle.exact_triangle.specs.declared.crossing.CrossingDistance.{CrossingDistance}
use Rattle.exact_triangle.specs.declared.crossing.CrossingDistance.TheVariants.{At, Miss, Undecided}

-- a float lies between two others, or outside of them
abbrev pub AgainstEnds : Float → Float → Float → CrossingDistance → Type 0
AgainstEnds x start finish (At y) = (y ≡ x) × ((lt start x ≡ true) × (lt x finish ≡ true))
AgainstEnds x start finish Miss = (lt x start ≡ true) ⊎ (lt finish x ≡ true)
AgainstEnds x start finish Undecided = Unit {0}

-- the float nearest to t / w does, or t is below 0, which is before every segment
pub data Between (t w : ℤ) (start finish : Float) (r : CrossingDistance) : Type 0 where
  below : int_lt t (pos 0) ≡ true → r ≡ Miss → Between t w start finish r
  rounded : AgainstEnds (fraction_of t w) start finish r → Between t w start finish r

-- the plane at p, at right angles to an axis, along which the direction is d
pub data AtPlane (p d : ℤ) (start finish : Float) (r : CrossingDistance) : Type 0 where
  ahead : int_lt (pos 0) d ≡ true → Between (p *ℤ pos 32768) d start finish r → AtPlane p d start finish r
  behind : int_lt d (pos 0) ≡ true → Between (p *ℤ neg_ℤ (pos 32768)) (neg_ℤ d) start finish r → AtPlane p d start finish r
  along : r ≡ Undecided → AtPlane p d start finish r

-- three corners in one plane at right angles to the axis
pub record InAxisPlane (a b c o d : ℤ) (start finish : Float) (r : CrossingDistance) : Type 0 where
  pub second : b ≡ a
  pub third : c ≡ a
  pub across : AtPlane (a -ℤ o) d start finish r

abbrev pub AxisPlane : ℤ → ℤ → ℤ → ℤ → ℤ → Float → Float → CrossingDistance → Type 0
AxisPlane a b c o d start finish r = (r ≡ Undecided) ⊎ InAxisPlane a b c o d start finish r

-- what is decided of a depth
abbrev pub Decides : Option Fraction → CrossingDistance → Type 0
Decides d (At x) = Reached x ≡ reach_at d
Decides d Miss = Missed ≡ reach_at d
Decides d Undecided = Unit {0}
