-- `exact_hits::listing::exact_listing` meets its contract. Assumes nothing.
use Rattle.mesh.proofs.Casting.{list_inside}
use Rattle.exact_hits.proofs.Listings.{listing_broken, listing_walked}
use Rattle.exact_hits.proofs.listing.exact_listing.Goals as goal

pub segment_box-requires : goal.segment_box-requires
segment_box-requires c = c.requires.0.shown.admitted

pub gather_line-walked-requires : goal.gather_line-walked-requires
gather_line-walked-requires c = (c.requires.0.shown.view_sized, c.requires.1)

-- refusal 5
pub returns-in_default : goal.returns-in_default
returns-in_default c =
    listing_broken c.args.ray _ _ _ _ _ _
    (c.gather_line-walked.ensures.holds _ c.requires.0.shown.sees c.segment_box.ensures) c.in_default.is _
    c.refuse.ensures

pub list_met-requires : goal.list_met-requires
list_met-requires c = (c.requires.0, list_inside _ _ _ _ _ c.gather_line-walked.ensures.grown c.in-Some.is)

-- the hits of the walk's list
pub returns : goal.returns
returns c =
    listing_walked c.args.ray _ _ _ _ _ _
    (c.gather_line-walked.ensures.holds _ c.requires.0.shown.sees c.segment_box.ensures) _ _ c.in-Some.is
    c.list_met.ensures
