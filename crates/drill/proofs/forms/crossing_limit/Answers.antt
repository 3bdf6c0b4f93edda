-- `drill::forms::crossing_limit` meets its contract. Assumes nothing.
use Rattle.drill.proofs.Laws.{fits_wide, sized_as}
use Rattle.wide_integers.proofs.OperationLaws.{held}
use Rattle.wide_integers.proofs.Reading.{widen, product_size, difference_size}
use Rattle.wide_integers.specs.Value.{value}
use lib.IntN.{◌*ℤ◌}
use lib.Dec.{lit<, lit≤}
use mathlib.Core.Path.{◌∙◌}
use Rattle.drill.proofs.forms.crossing_limit.Goals as goal

pub difference-step-requires : goal.difference-step-requires
difference-step-requires c = held (difference_size c.requires.0 c.requires.1) (lit< tt)

pub short_pair_product-requires : goal.short_pair_product-requires
short_pair_product-requires c =
    let e = c.difference-step.ensures in
    let h = difference_size c.requires.0 c.requires.1 in
    let k = widen (sized_as e h) (lit≤ tt) in
    ((k, k), fits_wide (λ i. e i *ℤ e i) (product_size h h) (lit< tt))

pub returns : goal.returns
returns c =
    let e = c.difference-step.ensures in
    c.product.ensures ∙ (λ j. value c.args.k *ℤ ((c.short_pair_product.ensures ∙ (λ i. e i *ℤ e i)) j))
