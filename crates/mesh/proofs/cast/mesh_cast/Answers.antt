-- `mesh::cast::mesh_cast` meets its contract: the segment's end is refused, the walk's 5 is told, and else the nearest of its list.
-- Assumes nothing.
use Rattle.geometry.proofs.BoxLaws.{origin_finite}
use Rattle.mesh.proofs.Casting.{end_is, cast_overflow, cast_broken, cast_empty, cast_nearest, list_inside}
use Rattle.mesh.proofs.cast.mesh_cast.Goals as goal

-- the end overflows
pub returns-then-not-is_finite : goal.returns-then-not-is_finite
returns-then-not-is_finite c =
    cast_overflow _ _ _ _ (end_is _ _ _ c.is_finite.ensures c.segment_end-end.ensures _ c.if-not-is_finite.true)

pub segment_box-bounds-requires : goal.segment_box-bounds-requires
segment_box-bounds-requires c = (origin_finite _ c.requires.0, c.segment_end-end.ensures)

-- the walk met a 5
pub returns-in_default : goal.returns-in_default
returns-in_default c =
    let finite = end_is _ _ _ c.is_finite.ensures c.segment_end-end.ensures _ c.if-not-is_finite.false in
    cast_broken _ _ _ _ c.requires.0 finite _ c.segment_box-bounds.ensures _ _ c.gather-walked.ensures.0 c.in_default.is

-- it listed nothing
pub returns-then-found-eq0 : goal.returns-then-found-eq0
returns-then-found-eq0 c =
    let finite = end_is _ _ _ c.is_finite.ensures c.segment_end-end.ensures _ c.if-not-is_finite.false in
    cast_empty _ _ _ _ c.requires.0 finite _ c.segment_box-bounds.ensures _ _ c.gather-walked.ensures.0 _ c.in-Some.is
    c.if-found-eq0.true

pub nearest_of-requires : goal.nearest_of-requires
nearest_of-requires c = list_inside _ _ _ _ _ c.gather-walked.ensures.1 c.in-Some.is

-- the nearest of those that it listed
pub returns : goal.returns
returns c =
    let finite = end_is _ _ _ c.is_finite.ensures c.segment_end-end.ensures _ c.if-not-is_finite.false in
    cast_nearest _ _ _ _ c.requires.0 finite _ c.segment_box-bounds.ensures _ _ c.gather-walked.ensures.0 _ _ c.in-Some.is
    c.nearest_of.ensures
