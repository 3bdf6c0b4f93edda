-- The tests are those of the definition, and the bit patterns decide between equal numbers.
use Rattle.std.proofs.Common.{◌≡◌, false, sym, ◌∙◌}
use lib.Ieee.{is_nan}
use Rattle.arithmetic.specs.Ordering.{total_order}
use Rattle.arithmetic.proofs.TotalOrder.{bits_order_is}
use Rattle.arithmetic.proofs.ordering.total_order.Goals as goal

pub returns : goal.returns
unfolding total_order
returns c =
    let x = c.args.x in
    let y = c.args.y in
    let q : is_nan y ≡ false = sym c.is_nan.ensures.value ∙ c.if-is_nan.false in
    let p : is_nan x ≡ false = sym c.is_nan-2.ensures.value ∙ c.if-is_nan-2.false in
    bits_order_is x y p q c.if-x-y.false c.if-y-x.false
    ∙ simp (c.if-x-y.false, c.if-y-x.false, p, q)
