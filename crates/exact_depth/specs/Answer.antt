-- What the code's numbers stand for: exact_depth's. Definitions only. Assumes nothing.
use Rattle.std.specs.Prelude.{Option, Some, None}
use Rattle.std.specs.Prelude.{◌≡◌}
use Rattle.exact_depth.specs.declared.projection.Fraction.{Fraction}
use Rattle.exact_depth.specs.declared.plane.Side.{Side}
use Rattle.wide_integers.specs.Value.{value, Middling}
use Rattle.exact_depth.specs.declared.wide_depth.WideDepth.{WideDepth}
use Rattle.exact_depth.specs.declared.coplanar_point.Edge.{Edge}
use Rattle.exact_depth.specs.declared.coplanar_point.PlaneDepth.{PlaneDepth}

abbrev pub wide_depth_of : WideDepth → Fraction
wide_depth_of d = record { t = value d.t; w = value d.w }

abbrev pub answer_of : Option WideDepth → Option Fraction
answer_of (Some d) = Some (wide_depth_of d)
answer_of None = None

-- its w is below 2^128, so that three words hold its product with an i64
abbrev pub Narrow : Option WideDepth → Type 0
Narrow (Some d) = Middling (value d.w)
Narrow None = Unit {0}

-- the answer of the code is the depth
pub record Finds (r : Option WideDepth) (d : Option Fraction) : Type 0 where
  pub is : answer_of r ≡ d
  pub narrow : Narrow r

-- ---- in a plane that the line lies in
abbrev pub side_as : Edge → Side
side_as s = record { level = value s.level; fall = s.fall }

abbrev pub plane_depth_of : PlaneDepth → Fraction
plane_depth_of m = record { t = value m.t; w = m.w }
