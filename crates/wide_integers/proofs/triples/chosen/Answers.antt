-- `wide_integers::triples::chosen` meets its contract. Assumes nothing.
use Rattle.std.proofs.Common.{arith}
use Rattle.wide_integers.specs.Value.{base}
use Rattle.wide_integers.proofs.OperationLaws.{flag_word}
use Rattle.wide_integers.proofs.Rows.{chosen_words}
use Rattle.wide_integers.proofs.triples.chosen.Goals as goal

pub overflow_mul-result : goal.overflow_mul-result
overflow_mul-result c = record { fits = flag_word c.requires (omega arith) }

pub overflow_mul-result-2 : goal.overflow_mul-result-2
overflow_mul-result-2 c = record { fits = flag_word c.requires (omega arith) }

pub overflow_mul-result-3 : goal.overflow_mul-result-3
overflow_mul-result-3 c = record { fits = flag_word c.requires (omega arith) }

pub returns : goal.returns
returns c =
    let a = c.args.a in
    record {
      product = chosen_words base c.args.s a.high a.middle a.low;
      words =
          record {
            high = flag_word c.requires (omega arith);
            middle = flag_word c.requires (omega arith);
            low = flag_word c.requires (omega arith);
          };
    }
