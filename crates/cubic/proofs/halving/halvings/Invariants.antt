-- The halvings that are left, of the interval as it is, give what all 64 give. Assumes nothing.
use Rattle.std.proofs.Common.{◌≡◌, ◌-◌}
use Rattle.cubic.specs.Halving.{halvings}
use Rattle.cubic.specs.declared.halving.Halving.TheVariants.{Open}
use Rattle.cubic.proofs.halving.halvings.Given as goal

abbrev pub invariant-loop-turn : goal.invariant-loop-turn
invariant-loop-turn l =
    halvings l.cubic l.tolerance (64 - l.turn) (Open l.low l.high l.low_value)
    ≡ halvings l.cubic l.tolerance 64 (Open l.fn.start l.fn.end l.fn.start_value)
