use Rattle.std.proofs.Common.{◌≡◌, ◌≤◌, length}
use Rattle.probe.proofs.Known.{Moves}
use Rattle.probe.proofs.all_steps.Given as goal

-- the areas keep their lengths, and so many steps were made
abbrev pub invariant-loop-steps : goal.invariant-loop-steps
invariant-loop-steps g l = record {
  input_length : length l.input ≡ 65536;
  output_length : length l.output ≡ 65536;
  held_bound : l.run.held ≤ 65536;
  moves : Moves l.steps l.run l.input (g.R.Read.remaining l.fn.stdin) (g.R.Read.remaining l.stdin)
      (g.W.Write.contents l.fn.stdout) (g.W.Write.contents l.stdout);
}
