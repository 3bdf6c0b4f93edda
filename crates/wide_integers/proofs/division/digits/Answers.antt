-- `wide_integers::division::digits` meets its contract. Assumes nothing.
use Rattle.wide_integers.proofs.DivisionLaws.{dividing_first, dividing_asks, dividing_again, dividing_last}
use Rattle.wide_integers.proofs.division.digits.Goals as goal

pub loop-i-init : goal.loop-i-init
loop-i-init c = dividing_first c.args.rest c.args.whole c.requires

pub step-at-requires : goal.step-at-requires
step-at-requires c = dividing_asks c.loop-i.invariant c.loop-i-test.true

pub loop-i-preserved : goal.loop-i-preserved
loop-i-preserved c = dividing_again c.loop-i.invariant c.loop-i-test.true c.step-at.ensures

pub returns : goal.returns
returns c = dividing_last c.loop-i.invariant c.loop-i-test.false
