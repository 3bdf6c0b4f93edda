-- `wide_integers::triples::row` meets its contract. Assumes nothing.
use Rattle.wide_integers.specs.Value.{base}
use Rattle.wide_integers.proofs.Rows.{row_words}
use Rattle.wide_integers.proofs.triples.row.Goals as goal

pub returns : goal.returns
returns c =
    let a = c.args.a in
    let k = c.args.k in
    let b = c.args.more in
    let p = c.times_add-low.result in
    let q = c.times_add-middle.result in
    let r = c.times_add-high.result in
    record {
      sum =
          row_words base a.high a.middle a.low k b.high b.middle b.low r.high r.low q.high q.low p.high
          p.low c.times_add-low.ensures.sum c.times_add-middle.ensures.sum c.times_add-high.ensures.sum;
      words =
          record { high = c.times_add-high.ensures.low; middle = c.times_add-middle.ensures.low; low = c.times_add-low.ensures.low };
      over = c.times_add-high.ensures.high;
    }
