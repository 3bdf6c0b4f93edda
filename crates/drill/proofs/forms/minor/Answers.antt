-- `drill::forms::minor` meets its contract. Assumes nothing.
use Rattle.drill.proofs.Laws.{minor_fits, minor_is, minor_sized}
use Rattle.exact_triangle.proofs.Laws.{times_fits}
use lib.Dec.{lit≤}
use Rattle.drill.proofs.forms.minor.Goals as goal

pub overflow_mul-result : goal.overflow_mul-result
overflow_mul-result c = times_fits c.requires.0.0 c.requires.1.1 (lit≤ tt) (lit≤ tt) (lit≤ tt)

pub overflow_mul-result-2 : goal.overflow_mul-result-2
overflow_mul-result-2 c = times_fits c.requires.0.1 c.requires.1.0 (lit≤ tt) (lit≤ tt) (lit≤ tt)

pub overflow_sub-result : goal.overflow_sub-result
overflow_sub-result c = minor_fits c.requires.0.0 c.requires.0.1 c.requires.1.0 c.requires.1.1

pub returns : goal.returns
returns c =
    let h = c.requires.0 in
    let g = c.requires.1 in (minor_is h.0 h.1 g.0 g.1, minor_sized h.0 h.1 g.0 g.1)
