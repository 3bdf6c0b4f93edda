-- `cubic::halving::halvings` meets its contract. Assumes nothing.
use Rattle.std.proofs.Common.{arith, ◌∙◌}
use Rattle.cubic.specs.Halving.{settled}
use Rattle.cubic.specs.declared.halving.Halving.TheVariants.{Open}
use Rattle.cubic.proofs.CubicLaws.{turn_open, turn_found, turn_last}
use Rattle.cubic.proofs.halving.halvings.Goals as goal

pub returns-in-Found : goal.returns-in-Found
returns-in-Found c = turn_found c.args.cubic c.args.tolerance _ _ _ _ c.loop-turn.invariant (omega arith) c.in-Found.ensures

pub loop-turn-preserved : goal.loop-turn-preserved
loop-turn-preserved c = turn_open c.args.cubic c.args.tolerance _ _ _ _ _ c.loop-turn.invariant (omega arith) c.in-Open.ensures

pub returns : goal.returns
unfolding settled
returns c =
    c.middle_of.ensures ∙ turn_last c.args.cubic c.args.tolerance _
    (Open c.loop-turn.low c.loop-turn.high c.loop-turn.low_value) _ c.loop-turn.invariant (omega arith)
