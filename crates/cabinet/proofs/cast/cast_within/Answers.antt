-- `cabinet::cast::cast_within` meets its contract. Assumes nothing.
use Rattle.cabinet.proofs.PartWalks.{within_overflows, within_broken, within_used, within_nearest, list_inside}
use Rattle.cabinet.proofs.Roots.{within_leaves}
use Rattle.mesh.proofs.Casting.{end_is}
use mathlib.Core.Path.{sym, ◌∙◌}
use Rattle.cabinet.proofs.cast.cast_within.Goals as goal

pub returns-then-not-is_finite : goal.returns-then-not-is_finite
returns-then-not-is_finite c =
    let e = c.before in
    within_overflows _ _ _ _ (end_is _ _ _ e.is_finite.ensures e.segment_end-end.ensures _
    c.if-not-is_finite.true)

pub leaves_at_root-requires : goal.leaves_at_root-requires
leaves_at_root-requires c = c.requires.1.boxed

-- the box leaves the tree at its first node
pub returns-then-leaves_at_root : goal.returns-then-leaves_at_root
returns-then-leaves_at_root c =
    let l = c.leaves_at_root in
    within_leaves _ _ _ _ (end_is _ _ _ c.is_finite.ensures c.segment_end-end.ensures _
    c.if-not-is_finite.false) _ c.segment_box-bounds.ensures (sym l.ensures ∙ c.if-leaves_at_root.true)

pub nearest_of-requires : goal.nearest_of-requires
nearest_of-requires c = list_inside _ _ _ _ _ _ c.gather_within-walked.ensures.1 c.in-Count.is

pub returns-in-Count : goal.returns-in-Count
returns-in-Count c =
    within_nearest _ _ _ _ (end_is _ _ _ c.is_finite.ensures c.segment_end-end.ensures _
    c.if-not-is_finite.false) _ c.segment_box-bounds.ensures _ _ c.gather_within-walked.ensures.0 _ _ _
    c.in-Count.is c.nearest_of.ensures

pub returns-in-Broken : goal.returns-in-Broken
returns-in-Broken c =
    within_broken _ _ _ _ (end_is _ _ _ c.is_finite.ensures c.segment_end-end.ensures _
    c.if-not-is_finite.false) _ c.segment_box-bounds.ensures _ _
    c.gather_within-walked.ensures.0 _ c.in-Broken.is

pub returns-in-UsedUp : goal.returns-in-UsedUp
returns-in-UsedUp c =
    within_used _ _ _ _ (end_is _ _ _ c.is_finite.ensures c.segment_end-end.ensures _
    c.if-not-is_finite.false) _ c.segment_box-bounds.ensures _ _
    c.gather_within-walked.ensures.0 _ c.in-UsedUp.is
