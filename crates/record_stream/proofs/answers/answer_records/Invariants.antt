-- What is written and what is left give the whole.
use Rattle.std.proofs.Common.{length}
use Rattle.record_stream.proofs.LoopLaws.{Going, measure}
use Rattle.record_stream.proofs.answers.answer_records.Given as goal

abbrev pub invariant-loop-areas : goal.invariant-loop-areas
invariant-loop-areas l = Going l.input l.ended l.number (length l.initial.output) l.output l.s

abbrev pub decreases-loop-areas : goal.decreases-loop-areas
decreases-loop-areas l = measure l.input l.s
