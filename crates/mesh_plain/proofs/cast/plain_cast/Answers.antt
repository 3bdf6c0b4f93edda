-- `mesh_plain::cast::plain_cast` meets its contract. Assumes nothing.
use Rattle.geometry.proofs.BoxLaws.{origin_finite}
use Rattle.mesh.proofs.Casting.{end_is}
use Rattle.mesh_plain.proofs.Casting.{triangles_few, plain_overflow, plain_over}
use Rattle.mesh_plain.proofs.cast.plain_cast.Goals as goal

pub returns-then-not-is_finite : goal.returns-then-not-is_finite
returns-then-not-is_finite c =
    plain_overflow _ _
    (end_is _ _ _ c.is_finite.ensures c.segment_end-end.ensures _ c.if-not-is_finite.true)

pub segment_box-bounds-requires : goal.segment_box-bounds-requires
segment_box-bounds-requires c = (origin_finite _ c.requires.0, c.segment_end-end.ensures)

pub over_triangles-requires : goal.over_triangles-requires
over_triangles-requires c = triangles_few _ _ c.requires.1

-- past the test of the end
pub returns : goal.returns
returns c =
    let finite = end_is _ _ _ c.is_finite.ensures c.segment_end-end.ensures _ c.if-not-is_finite.false in
    plain_over _ _ c.requires.0 finite _ c.segment_box-bounds.ensures _ c.over_triangles.ensures
