-- `drill::inside::cap_limit` meets its contract. Assumes nothing.
use Rattle.exact_triangle.specs.Line.{parts}
use Rattle.wide_integers.proofs.Reading.{bits_back}
use Rattle.wide_integers.specs.Value.{value}
use lib.IntN.{ℤ, pos, ◌*ℤ◌}
use mathlib.Core.Path.{ap, ◌∙◌}
use Rattle.drill.proofs.inside.cap_limit.Goals as goal

pub returns : goal.returns
returns c =
    c.product-2.ensures
    ∙ ap (λ (z : ℤ). z *ℤ value c.args.whole)
    (c.product.ensures ∙ ap (λ (z : ℤ). z *ℤ (pos parts *ℤ pos parts)) (bits_back c.ranges.area))
