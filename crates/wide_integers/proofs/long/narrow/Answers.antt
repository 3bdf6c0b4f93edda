-- `wide_integers::long::narrow` meets its contract. Assumes nothing.
use Rattle.wide_integers.proofs.LongLaws.{narrow_is}
use Rattle.wide_integers.proofs.long.narrow.Goals as goal

pub returns : goal.returns
returns c = narrow_is c.args.a c.signed.result c.signed.ensures c.requires
