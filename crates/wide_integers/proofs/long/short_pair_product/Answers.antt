-- `wide_integers::long::short_pair_product` meets its contract. Assumes nothing.
use Rattle.wide_integers.specs.Value.{FitsWide}
use Rattle.std.proofs.Common.{sym, ◌∙◌, subst}
use Rattle.wide_integers.proofs.long.short_pair_product.Goals as goal

pub narrow-requires : goal.narrow-requires
narrow-requires c = subst FitsWide (sym c.pair_product.ensures) c.requires.1

pub returns : goal.returns
returns c = c.narrow.ensures ∙ c.pair_product.ensures
