-- `tree_walk::step::take_places` meets its contract: what is left of the places gives what all of them give. Assumes nothing.
use Rattle.std.proofs.Common.{arith}
use Rattle.tree_walk.proofs.Places.{placing_begins, placing_room, placing_goes, placing_breaks, placing_ends}
use Rattle.tree_walk.proofs.step.take_places.Goals as goal

pub loop-place-init : goal.loop-place-init
loop-place-init c = placing_begins _ _ _ _ _ _ _ _ c.requires.1.1 c.requires.0

pub take_place-requires : goal.take_place-requires
take_place-requires c =
    (omega (arith, c.requires), placing_room _ _ _ _ _ _ _ _ c.requires.1.1 _ _ _ c.loop-place.invariant)

pub returns-in_err-listed : goal.returns-in_err-listed
returns-in_err-listed c =
    rw c.from_residual.ensures
    (placing_breaks _ _ _ _ _ _ _ _ _ _ _ c.loop-place.invariant c.loop-place-test.true _ _ c.take_place.ensures c.in_err-listed.was)

pub loop-place-preserved : goal.loop-place-preserved
loop-place-preserved c =
    placing_goes _ _ _ _ _ _ _ _ _ _ _ c.loop-place.invariant c.loop-place-test.true _ _ _ c.take_place.ensures c.in_ok-listed.was
    c.take_place.auto.list

pub returns : goal.returns
returns c = placing_ends _ _ _ _ _ _ _ _ _ _ _ c.loop-place.invariant (omega arith)
