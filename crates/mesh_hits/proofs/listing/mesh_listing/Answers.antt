-- `mesh_hits::listing::mesh_listing` meets its contract. Assumes nothing.
use Rattle.geometry.proofs.BoxLaws.{origin_finite}
use Rattle.mesh.proofs.Casting.{end_is, list_inside}
use Rattle.mesh_hits.proofs.Listings.{listing_overflow, listing_broken, listing_walked}
use Rattle.mesh_hits.proofs.listing.mesh_listing.Goals as goal

-- refusal 6
pub returns-then-not-is_finite : goal.returns-then-not-is_finite
returns-then-not-is_finite c =
    listing_overflow _ _ _ _ _ (end_is _ _ _ c.is_finite.ensures c.segment_end-end.ensures _ c.if-not-is_finite.true) _
    c.refuse.ensures

pub segment_box-bounds-requires : goal.segment_box-bounds-requires
segment_box-bounds-requires c = (origin_finite _ c.requires.0, c.segment_end-end.ensures)

-- refusal 5
pub returns-in_default : goal.returns-in_default
returns-in_default c =
    let finite = end_is _ _ _ c.is_finite.ensures c.segment_end-end.ensures _ c.if-not-is_finite.false in
    listing_broken _ _ _ _ _ c.requires.0 finite _ c.segment_box-bounds.ensures _ _ c.gather-walked.ensures.0 c.in_default.is _
    c.refuse-in_default.ensures

pub list_hits-requires : goal.list_hits-requires
list_hits-requires c = list_inside _ _ _ _ _ c.gather-walked.ensures.1 c.in-Some.is

-- the hits of the walk's list
pub returns : goal.returns
returns c =
    let finite = end_is _ _ _ c.is_finite.ensures c.segment_end-end.ensures _ c.if-not-is_finite.false in
    listing_walked _ _ _ _ _ c.requires.0 finite _ c.segment_box-bounds.ensures _ _ c.gather-walked.ensures.0 _ _ c.in-Some.is
    c.list_hits.ensures
