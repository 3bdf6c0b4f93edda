-- The walk over the cells that are left gives what the whole walk gives, and what is remembered is true. Assumes nothing.
use Rattle.std.proofs.Common.{◌≡◌, ◌-◌}
use Rattle.level_set.specs.Hits.{Remembered}
use Rattle.level_set.specs.Walk.{walk_from, cell_limit}
use Rattle.level_set.proofs.walk.walk_from.Given as goal

abbrev pub invariant-loop-taken : goal.invariant-loop-taken
invariant-loop-taken l = record {
  rest : walk_from l.ray l.field.grid l.field.values.now l.exit (cell_limit l.field.grid - l.taken) l.current
      ≡ walk_from l.ray l.field.grid l.field.values.now l.exit (cell_limit l.field.grid) l.entry;
  remembered : Remembered l.ray l.field.grid l.field.values.now l.known;
}
