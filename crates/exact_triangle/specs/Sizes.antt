-- How large the code's whole numbers are. Definitions only. Assumes nothing.
use Rattle.std.specs.Prelude.{ℕ, ℤ}
use Rattle.exact_depth.specs.declared.projection.Projected.{Projected}
use Rattle.wide_integers.specs.Sizes.{Sized}
use Rattle.exact_depth.specs.declared.projection.Point.{Point}

-- each coordinate up to B
pub record SizedAt (B : ℕ) (p : Point) : Type 0 where
  pub x : Sized B p.x
  pub y : Sized B p.y
  pub z : Sized B p.z

-- 8,192 mm
abbrev pub Near : Point → Type 0
Near = SizedAt 268435456

-- the difference of two of them
abbrev pub Apart : Point → Type 0
Apart = SizedAt 536870912

-- a direction from -2 to 2
abbrev pub DirectionSized : Point → Type 0
DirectionSized = SizedAt 2147483648

-- the cross of two differences
abbrev pub Crossed : Point → Type 0
Crossed = SizedAt 576460752303423488

pub record SizedProjected (B : ℕ) (s : Projected) : Type 0 where
  pub across : Sized B s.across
  pub up : Sized B s.up
  pub depth : Sized B s.depth

abbrev pub CornerSized : Projected → Type 0
CornerSized = SizedProjected 536870912

pub record HeadingSized (d : Projected) (k : ℤ) : Type 0 where
  pub heading : SizedProjected 2147483648 d
  pub ahead : Sized 1073741824 k

-- 2^61 across and up
pub record ProjectedSize (s : Projected) : Type 0 where
  pub across : Sized 2305843009213693952 s.across
  pub up : Sized 2305843009213693952 s.up
