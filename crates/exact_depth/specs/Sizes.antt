-- How far from the line a corner may be, so that no number passes 2^191. Definitions only. Assumes nothing.
use Rattle.exact_depth.specs.declared.projection.Projected.{Projected}
use Rattle.wide_integers.specs.Sizes.{Sized, Sized61}
use Rattle.wide_integers.specs.Value.{value, Weight}
use Rattle.exact_depth.specs.declared.plane.PlanePoint.{PlanePoint}
use Rattle.exact_depth.specs.declared.coplanar_point.Edge.{Edge}
use Rattle.exact_depth.specs.declared.coplanar_point.PlaneDepth.{PlaneDepth}

-- up to 2^61 to the side and up; any depth
pub record Close (s : Projected) : Type 0 where
  pub across : Sized61 s.across
  pub up : Sized61 s.up

pub record Flat (p : PlanePoint) : Type 0 where
  pub u : Sized61 p.u

-- level up to 2^125, fall up to 2^62
pub record Bounded (s : Edge) : Type 0 where
  pub level : Weight (value s.level)
  pub fall : Sized 4611686018427387904 s.fall

pub record Shallow (m : PlaneDepth) : Type 0 where
  pub t : Weight (value m.t)
  pub w : Sized 4611686018427387904 m.w
