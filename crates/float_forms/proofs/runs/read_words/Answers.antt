-- Each turn reads the next word.
use Rattle.std.proofs.Common.{arith}
use Rattle.float_forms.specs.Bytes.{word_of, words_of}
use Rattle.float_forms.proofs.RunSteps.{words_run, first_place, next_place, read_start, read_next, read_done}
use Rattle.float_forms.proofs.runs.read_words.Goals as goal

pub loop-i-init : goal.loop-i-init
loop-i-init c =
    rw first_place (read_start word_of 4 words_of words_run c.args.source.now c.args.out.now c.args.place c.args.count
    c.requires.0 c.requires.1)

pub loop-i-preserved : goal.loop-i-preserved
loop-i-preserved c =
    rw next_place
    (read_next word_of 4 words_of words_run c.args.source.now _ _ _ _ _ _ c.loop-i.invariant _ (omega arith) c.word_at.ensures.0)

pub returns : goal.returns
returns c = read_done word_of 4 words_of words_run c.args.source.now _ _ _ _ _ _ c.loop-i.invariant (omega arith)
