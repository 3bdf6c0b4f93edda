-- `wide_integers::long::sum` meets its contract. Assumes nothing.
use Rattle.wide_integers.proofs.LongLaws.{sum_is}
use Rattle.wide_integers.proofs.long.sum.Goals as goal

pub returns : goal.returns
returns c =
    sum_is c.args.a c.args.b c.add-low.result c.add-high.result c.signed-top.result c.signed-top.ensures c.add-low.ensures
    c.add-high.ensures c.requires
