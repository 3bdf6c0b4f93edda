-- `mesh_exact::bounds::high_corner` meets its contract. Assumes nothing.
use Rattle.mesh_exact.specs.Bounds.{high_by}
use Rattle.mesh_exact.proofs.SegmentSides.{side_asked, side_told}
use Rattle.mesh_exact.proofs.bounds.high_corner.Goals as goal

pub high_side-requires : goal.high_side-requires
high_side-requires c = side_asked c.requires.0.0.x c.requires.0.1.x c.requires.1.0 c.requires.1.1.0 c.requires.1.1.1

pub high_side-requires-2 : goal.high_side-requires-2
high_side-requires-2 c = side_asked c.requires.0.0.y c.requires.0.1.y c.requires.1.0 c.requires.1.1.0 c.requires.1.1.1

pub high_side-requires-3 : goal.high_side-requires-3
high_side-requires-3 c = side_asked c.requires.0.0.z c.requires.0.1.z c.requires.1.0 c.requires.1.1.0 c.requires.1.1.1

-- each axis has its side
pub returns : goal.returns
returns c =
    let o = c.requires.0.0 in
    let d = c.requires.0.1 in
    let n = c.requires.1.0 in
    let f = c.requires.1.1.0 in
    let w = c.requires.1.1.1 in
    λ i j e g k. record {
      x = side_told o.x d.x n f w high_by c.high_side.ensures i j e g k;
      y = side_told o.y d.y n f w high_by c.high_side-2.ensures i j e g k;
      z = side_told o.z d.z n f w high_by c.high_side-3.ensures i j e g k;
    }
