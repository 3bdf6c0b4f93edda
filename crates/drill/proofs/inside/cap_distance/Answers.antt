-- `drill::inside::cap_distance` meets its contract. Assumes nothing.
use Rattle.wide_integers.proofs.OperationLaws.{held}
use Rattle.wide_integers.proofs.Reading.{widen, product_size}
use Rattle.wide_integers.proofs.Polynomials.{times_comm, times_assoc}
use Rattle.wide_integers.specs.Value.{value}
use lib.IntN.{ℤ, ◌*ℤ◌}
use lib.Dec.{lit<, lit≤}
use mathlib.Core.Path.{sym, ap, ◌∙◌}
use Rattle.drill.proofs.inside.cap_distance.Goals as goal

pub short_pair_product-requires : goal.short_pair_product-requires
short_pair_product-requires c = ((c.requires.0, widen c.requires.1 (lit≤ tt)), held (product_size c.requires.0 c.requires.1) (lit< tt))

pub returns : goal.returns
returns c =
    let k = value c.args.k in
    let l = value c.args.length in
    c.product.ensures ∙ ap (λ (z : ℤ). z *ℤ k) c.short_pair_product.ensures ∙ times_comm (k *ℤ l) k ∙ sym (times_assoc k k l)
