-- A finite origin has numbers, and the end is that of the segment.
use Rattle.std.proofs.Common.{sym}
use Rattle.geometry.specs.Segment.{segment_box}
use Rattle.vectors.proofs.FiniteVectors.{finite_numbers}
use Rattle.geometry.proofs.ray.Ray.segment_box.Goals as goal

pub least-requires : goal.least-requires
least-requires c = finite_numbers _ c.requires.0

pub greatest-requires : goal.greatest-requires
greatest-requires c = finite_numbers _ c.requires.0

pub returns : goal.returns
unfolding segment_box
returns c = simp (sym c.requires.1, sym c.least.ensures.0, sym c.greatest.ensures.0)
