-- `wide_integers::triples::subtract_pair` meets its contract. Assumes nothing.
use Rattle.wide_integers.proofs.Rows.{pair_words}
use Rattle.wide_integers.specs.Value.{base}
use Rattle.wide_integers.proofs.triples.subtract_pair.Goals as goal

pub returns : goal.returns
returns c =
    let v = c.args in
    let x = c.subtract-low.result in
    let y = c.subtract-high.result in
    record {
      rest =
          pair_words base v.h1 v.h0 v.x1 v.x0 y.words x.words x.over y.over c.subtract-low.ensures.rest
          c.subtract-high.ensures.rest;
      high = c.subtract-high.ensures.word;
      low = c.subtract-low.ensures.word;
    }
