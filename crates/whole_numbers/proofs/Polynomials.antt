-- A triple product of whole points, by the laws of whole numbers. Assumes nothing.
use mathlib.Core.Path.{◌≡◌}
use lib.IntN.{neg_ℤ}
use Rattle.wide_integers.proofs.Polynomials.{ring}
use Rattle.whole_numbers.specs.Points.{Point, cross_p, dot_p}

-- a · (d × b) = - d · (a × b)
pub triple : (a d b : Point) → dot_p a (cross_p d b) ≡ neg_ℤ (dot_p d (cross_p a b))
triple a d b = simp ring
