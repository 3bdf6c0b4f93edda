-- Each turn writes the next u32.
use Rattle.std.proofs.Common.{refl, arith}
use Rattle.float_forms.proofs.RunSteps.{first_place, all_left, next_place, one_less, copy_next, copy_done}
use Rattle.float_forms.proofs.runs.put_words.Goals as goal

pub loop-i-init : goal.loop-i-init
loop-i-init c = rw (first_place c.args.place 4, first_place c.args.at 4, all_left) record {
  enough = c.requires.0;
  room = c.requires.1;
  kept = refl;
  same = refl;
}

pub loop-i-preserved : goal.loop-i-preserved
loop-i-preserved c =
    rw (next_place c.args.place 4, next_place c.args.at 4, one_less)
    (copy_next c.args.source.now _ _ _ _ _ _ _ _ (omega arith) c.loop-i.invariant c.word_at.ensures.0 c.put_word.ensures)

pub returns : goal.returns
returns c = copy_done c.args.source.now _ _ _ _ _ _ (omega arith) c.loop-i.invariant
