-- What one triangle's answer says: a miss is certain, and a distance is the first point's, rounded once. Definitions only. Assumes nothing.
use Rattle.std.specs.Prelude.{◌≡◌, ℕ, ◌*◌, ◌<◌, false, ℤ, pos, ◌≢◌, Float}
use Rattle.std.specs.Float.{binary64}
use Rattle.std.specs.Float.Ieee.{round}
use Rattle.casts.specs.Reach.{Reach, At, Miss, Refused}
use Rattle.exact_depth.specs.declared.projection.Point.{Point}
use Rattle.exact_triangle.specs.Line.{Line}
use Rattle.exact_triangle.specs.Grid.{units}
use Rattle.exact_triangle.specs.Surface.{Apart, Surface, FirstSurface}

-- x is the float nearest to the first point's distance in millimetres: T / W units
pub record Nearest (l : Line) (a b c : Point) (x : Float) : Type 0 where
  pub T : ℕ
  pub W : ℕ
  pub positive : 0 < W
  pub first : FirstSurface l a b c (record { t = pos T; w = pos W })
  pub rounded : x ≡ round binary64 false T (W * units)

pub record CertainReach (l : Line) (a b c : Point) (answer : Reach) : Type 0 where
  pub none : answer ≡ Miss → Apart a b c → (D : ℕ) (t : ℤ) → Surface l a b c D t → ⊥
  pub area : (x : Float) → answer ≡ At x → Apart a b c
  pub nearest : (x : Float) → answer ≡ At x → Nearest l a b c x
  pub told : (n : ℕ) → answer ≢ Refused n
