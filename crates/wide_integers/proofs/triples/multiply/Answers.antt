-- `wide_integers::triples::multiply` meets its contract. Assumes nothing.
use Rattle.wide_integers.specs.Value.{base, raised}
use Rattle.wide_integers.proofs.Rows.{multiply_words}
use Rattle.wide_integers.proofs.triples.multiply.Goals as goal

pub returns : goal.returns
returns c =
    let b = c.args.b in
    let p = c.row-first.result in
    let q = c.row-second.result in
    let r = c.row-third.result in
    let x = c.row-first.ensures in
    let y = c.row-second.ensures in
    let z = c.row-third.ensures in
    record {
      product =
          multiply_words base (raised c.args.a) b.high b.middle b.low p.over p.words.high p.words.middle
          p.words.low q.over q.words.high q.words.middle q.words.low r.over r.words.high r.words.middle
          r.words.low x.sum y.sum z.sum;
      high = record { high = z.over; middle = z.words.high; low = z.words.middle };
      low = record { high = z.words.low; middle = y.words.low; low = x.words.low };
    }
