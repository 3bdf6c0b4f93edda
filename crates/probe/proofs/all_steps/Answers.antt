use Rattle.std.proofs.Common.{true≢false, arith, refl, sym, ap, ◌∙◌}
use Rattle.probe.specs.declared.runs.Run.{Run}
use Rattle.probe.proofs.Known.{moves_none, moves_more, moves_finished, moves_output}
use Rattle.probe.proofs.all_steps.Goals as goal

-- no step was made
pub loop-steps-init : goal.loop-steps-init
loop-steps-init g c = record {
  input_length = refl;
  output_length = refl;
  held_bound = omega (arith, ap (λ (r : Run). r.held) c.start-run.ensures);
  moves = moves_none c.start-run.result _ _ _ c.start-run.ensures;
}

-- one step more was made
pub loop-steps-preserved : goal.loop-steps-preserved
loop-steps-preserved g c = record {
  input_length = omega (arith, c.step-run.auto.input);
  output_length = omega (arith, c.step-run.auto.output);
  held_bound = c.step-run.ensures.held_bound;
  moves = moves_more c.loop-steps.invariant.moves c.if-run.false c.step-run.ensures.moves c.step-run.ensures.end;
}

-- the run is over
pub returns-then-run-clause-finished : goal.returns-then-run-clause-finished
returns-then-run-clause-finished g c =
    moves_finished c.loop-steps.invariant.moves (λ o. absurd (true≢false (sym c.if-run.true ∙ o)))

pub returns-then-run-clause-output : goal.returns-then-run-clause-output
returns-then-run-clause-output g c = moves_output c.loop-steps.invariant.moves

-- all steps were made
pub returns-clause-finished : goal.returns-clause-finished
returns-clause-finished g c = moves_finished c.loop-steps.invariant.moves (λ o. omega arith)

pub returns-clause-output : goal.returns-clause-output
returns-clause-output g c = moves_output c.loop-steps.invariant.moves
