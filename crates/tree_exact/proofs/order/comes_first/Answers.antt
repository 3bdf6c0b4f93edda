-- `tree_exact::order::comes_first` meets its contract. Assumes nothing.
use lib.Dec.{lit≤}
use Rattle.wide_integers.proofs.Reading.{plain, widen}
use Rattle.tree_exact.proofs.BoxSteps.{comes_backward, comes_forward}
use Rattle.tree_exact.proofs.order.comes_first.Goals as goal

-- against the axis
pub returns-then-heading-lt0 : goal.returns-then-heading-lt0
returns-then-heading-lt0 c =
    λ l sees. comes_backward c.args.line l sees c.args.a c.args.b (plain (widen c.requires.heading_sized.heading.depth
    (lit≤ tt)))
    c.if-heading-lt0.true c.coordinate_on.ensures c.coordinate_on-then-heading-lt0.ensures

-- along it
pub returns : goal.returns
returns c =
    λ l sees. comes_forward c.args.line l sees c.args.a c.args.b (plain (widen c.requires.heading_sized.heading.depth
    (lit≤ tt)))
    c.if-heading-lt0.false c.coordinate_on-2.ensures c.coordinate_on-3.ensures
