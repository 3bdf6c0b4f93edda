-- `drill::forms::minus` meets its contract. Assumes nothing.
use Rattle.exact_triangle.proofs.Laws.{minus_fits, minus_read, minus_sized}
use lib.Dec.{lit≤}
use Rattle.drill.proofs.forms.minus.Goals as goal

pub overflow_sub-result : goal.overflow_sub-result
overflow_sub-result c = minus_fits c.requires.0.x c.requires.1.x (lit≤ tt) (lit≤ tt)

pub overflow_sub-result-2 : goal.overflow_sub-result-2
overflow_sub-result-2 c = minus_fits c.requires.0.y c.requires.1.y (lit≤ tt) (lit≤ tt)

pub overflow_sub-result-3 : goal.overflow_sub-result-3
overflow_sub-result-3 c = minus_fits c.requires.0.z c.requires.1.z (lit≤ tt) (lit≤ tt)

pub returns : goal.returns
returns c =
    let p = c.requires.0 in
    let q = c.requires.1 in (
      (λ i. record {
        x = minus_read p.x q.x (lit≤ tt) (lit≤ tt) i;
        y = minus_read p.y q.y (lit≤ tt) (lit≤ tt) i;
        z = minus_read p.z q.z (lit≤ tt) (lit≤ tt) i;
      }),
      record {
        x = minus_sized p.x q.x (lit≤ tt) (lit≤ tt);
        y = minus_sized p.y q.y (lit≤ tt) (lit≤ tt);
        z = minus_sized p.z q.z (lit≤ tt) (lit≤ tt);
      },
    )
