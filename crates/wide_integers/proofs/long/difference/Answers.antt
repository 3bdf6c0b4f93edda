-- `wide_integers::long::difference` meets its contract. Assumes nothing.
use Rattle.wide_integers.proofs.LongLaws.{difference_is}
use Rattle.wide_integers.proofs.long.difference.Goals as goal

pub returns : goal.returns
returns c =
    difference_is c.args.a c.args.b c.subtract-low.result c.subtract-high.result c.signed-top.result c.signed-top.ensures
    c.subtract-low.ensures
    c.subtract-high.ensures c.requires
