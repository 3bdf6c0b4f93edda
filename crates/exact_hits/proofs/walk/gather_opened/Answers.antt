-- `exact_hits::walk::gather_opened` meets its contract. Assumes nothing.
use native.Mathlib.Omega.{arith}
use Rattle.exact_hits.proofs.OpenedSteps.{opened_begins, opened_room, opened_next, opened_stopped, opened_ended}
use Rattle.exact_hits.proofs.OpenedSteps.{opened_past}
use Rattle.exact_hits.proofs.walk.gather_opened.Goals as goal

pub loop-taken-init : goal.loop-taken-init
loop-taken-init c = opened_begins _ _ _ _ _ _ c.requires.0.1

pub take_opened-step-requires : goal.take_opened-step-requires
take_opened-step-requires c =
    (c.requires.0.0, opened_room c.args.line _ c.args.reach _ _ _ _ _ _ _ _ _ c.loop-taken.invariant c.loop-taken-test.true c.requires.1)

-- the next node
pub loop-taken-preserved : goal.loop-taken-preserved
loop-taken-preserved c =
    opened_next _ _ _ _ _ _ _ _ _ _ _ _ c.loop-taken.invariant c.loop-taken-test.true _ _ _ c.take_opened-step.ensures _ _ _
    c.in-Next.is c.take_opened-step.auto.list
    c.take_opened-step.auto.stack

-- the last node
pub returns-in-Ended : goal.returns-in-Ended
returns-in-Ended c =
    opened_ended _ _ _ _ _ _ _ _ _ _ _ _ c.loop-taken.invariant c.loop-taken-test.true _ _ _ c.take_opened-step.ensures _
    c.in-Ended.is

-- a 5
pub returns-in-Stopped : goal.returns-in-Stopped
returns-in-Stopped c =
    opened_stopped _ _ _ _ _ _ _ _ _ _ _ _ c.loop-taken.invariant c.loop-taken-test.true _ _ _ c.take_opened-step.ensures c.in-Stopped.is

-- as many were taken as there are: the node passes the node count
pub returns : goal.returns
returns c = opened_past _ _ _ _ _ _ _ _ _ _ _ _ c.loop-taken.invariant (omega arith) _
