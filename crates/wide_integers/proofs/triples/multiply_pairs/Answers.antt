-- `wide_integers::triples::multiply_pairs` meets its contract. Assumes nothing.
use Rattle.wide_integers.proofs.Rows.{pairs_words}
use Rattle.wide_integers.specs.Value.{base}
use Rattle.wide_integers.proofs.triples.multiply_pairs.Goals as goal

pub returns : goal.returns
returns c =
    let v = c.args in
    let x = c.times_add-first.result in
    let y = c.times_add-second.result in
    let z = c.times_add-third.result in
    let w = c.times_add-fourth.result in
    record {
      product =
          pairs_words base v.a1 v.a0 v.b1 v.b0 x.high x.low y.high y.low z.high z.low w.high w.low
          c.times_add-first.ensures.sum c.times_add-second.ensures.sum c.times_add-third.ensures.sum c.times_add-fourth.ensures.sum;
      w3 = c.times_add-fourth.ensures.high;
      w2 = c.times_add-fourth.ensures.low;
      w1 = c.times_add-third.ensures.low;
      w0 = c.times_add-first.ensures.low;
    }
