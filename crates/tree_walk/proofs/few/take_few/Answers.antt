-- `tree_walk::few::take_few` meets its contract: what is left of the places gives what all of them give, and what stood behind the last one
-- listed is known. Assumes nothing.
use Rattle.std.proofs.Common.{ap, ◌∙◌, arith}
use Rattle.geometry.specs.Box.{touches}
use Rattle.geometry.specs.declared.aabb.Aabb.{Aabb}
use Rattle.tree_walk.specs.Opening.{as_number}
use Rattle.tree_walk.proofs.FewPlaces.{five_behind, behind_is, number_bounds, few_begins, few_inside, few_goes, few_breaks, few_ends}
use Rattle.tree_walk.proofs.few.take_few.Goals as goal

pub loop-place-init : goal.loop-place-init
loop-place-init c = (few_begins _ _ _ _ _ _ _ _ c.requires.1.1.1.1 c.requires.0, five_behind _ _)

pub returns-then-index-count : goal.returns-then-index-count
returns-then-index-count c =
    let r = c.requires.1.1 in
    few_breaks _ _ _ _ _ _ _ _ r.1.1 r.0 r.1.0 _ _ _ c.loop-place.invariant.0 c.loop-place-test.true c.if-index-count.true

pub bounds-list-listed : goal.bounds-list-listed
bounds-list-listed c =
    let r = c.requires.1.1 in
    few_inside _ _ _ _ _ _ _ _ r.1.1 r.0 r.1.0 _ _ _ c.loop-place.invariant.0

pub box_at-requires : goal.box_at-requires
box_at-requires c = omega (arith, c.requires.1.1.1.1.boxed, c.if-index-count.false)

pub overflow_add-listed : goal.overflow_add-listed
overflow_add-listed c =
    let r = c.requires.1.1 in
    let p = c.loop-place.invariant.0 in
    omega (arith, c.well_formed, r.0, r.1.0, p.few, p.within, number_bounds _ _ _ c.touch_number-listed.ensures)

pub loop-place-preserved : goal.loop-place-preserved
loop-place-preserved c =
    let r = c.requires.1.1 in (
      few_goes _ _ _ _ _ _ _ _ r.1.1 r.0 r.1.0 _ _ _ c.loop-place.invariant.0 c.loop-place-test.true c.if-index-count.false _
          (c.touch_number-listed.ensures ∙ ap (λ (a : Aabb). as_number (touches a c.args.bounds)) c.box_at.ensures),
      c.loop-place.invariant.1,
    )

pub overflow_sub-list : goal.overflow_sub-list
overflow_sub-list c = c.loop-place.invariant.0.grows

pub bounds-before-listed : goal.bounds-before-listed
bounds-before-listed c = omega (arith, c.requires.1.1.0, c.loop-place.invariant.0.few, c.loop-place.invariant.0.within)

pub bounds-list-listed-2 : goal.bounds-list-listed-2
bounds-list-listed-2 c =
    let r = c.requires.1.1 in
    few_inside _ _ _ _ _ _ _ _ r.1.1 r.0 r.1.0 _ _ _ c.loop-place.invariant.0

pub returns : goal.returns
returns c =
    let r = c.requires.1.1 in
    let p = c.loop-place.invariant.0 in
    few_ends _ _ _ _ _ _ _ _ r.1.1 r.0 r.1.0 _ _ _ p c.loop-place-test.false _
    (behind_is _ _ _ _ c.loop-place.invariant.1 p.grows (omega (arith, r.0, p.few, p.within)))
