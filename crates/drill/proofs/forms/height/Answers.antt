-- `drill::forms::height` meets its contract. Assumes nothing.
use Rattle.drill.proofs.Laws.{two_fit, three_fit, three_is, three_sized}
use Rattle.exact_triangle.proofs.Laws.{times_fits}
use lib.Dec.{lit≤}
use Rattle.drill.proofs.forms.height.Goals as goal

pub overflow_mul-result : goal.overflow_mul-result
overflow_mul-result c = times_fits c.requires.0.x c.requires.1.x (lit≤ tt) (lit≤ tt) (lit≤ tt)

pub overflow_mul-result-2 : goal.overflow_mul-result-2
overflow_mul-result-2 c = times_fits c.requires.0.y c.requires.1.y (lit≤ tt) (lit≤ tt) (lit≤ tt)

pub overflow_add-result : goal.overflow_add-result
overflow_add-result c =
    let p = c.requires.0 in
    let q = c.requires.1 in
    two_fit p.x q.x p.y q.y p.z q.z

pub overflow_mul-result-3 : goal.overflow_mul-result-3
overflow_mul-result-3 c = times_fits c.requires.0.z c.requires.1.z (lit≤ tt) (lit≤ tt) (lit≤ tt)

pub overflow_add-result-2 : goal.overflow_add-result-2
overflow_add-result-2 c =
    let p = c.requires.0 in
    let q = c.requires.1 in
    three_fit p.x q.x p.y q.y p.z q.z

pub returns : goal.returns
returns c =
    let p = c.requires.0 in
    let q = c.requires.1 in (
      three_is p.x q.x p.y q.y p.z q.z,
      three_sized p.x q.x p.y q.y p.z q.z,
    )
