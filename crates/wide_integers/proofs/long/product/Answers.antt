-- `wide_integers::long::product` meets its contract. Assumes nothing.
use Rattle.std.proofs.Common.{arith}
use Rattle.wide_integers.proofs.LongLaws.{product_fits, product_is}
use Rattle.wide_integers.proofs.long.product.Goals as goal

pub returns : goal.returns
returns c =
    product_is c.signed-x.ensures c.signed-y.ensures c.multiply-whole.result c.multiply-whole.ensures c.subtract-once.result
    c.subtract-twice.result c.signed-top.result c.chosen.ensures c.chosen-2.ensures c.subtract-once.ensures
    c.subtract-twice.ensures c.signed-top.ensures
    (product_fits c.args.a c.args.b
    (record { high = omega arith; middle = omega arith; low = omega arith })
    (record { high = omega arith; middle = omega arith; low = omega arith }))
