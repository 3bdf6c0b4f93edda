-- `exact_triangle::seen::from` meets its contract. Assumes nothing.
use Rattle.std.proofs.Common.{lit≤}
use Rattle.exact_triangle.proofs.Laws.{minus_fits, minus_read, minus_sized}
use Rattle.exact_triangle.proofs.seen.from.Goals as goal

pub overflow_sub-result : goal.overflow_sub-result
overflow_sub-result c = minus_fits c.requires.1.x c.requires.0.x (lit≤ tt) (lit≤ tt)

pub overflow_sub-result-2 : goal.overflow_sub-result-2
overflow_sub-result-2 c = minus_fits c.requires.1.y c.requires.0.y (lit≤ tt) (lit≤ tt)

pub overflow_sub-result-3 : goal.overflow_sub-result-3
overflow_sub-result-3 c = minus_fits c.requires.1.z c.requires.0.z (lit≤ tt) (lit≤ tt)

pub returns : goal.returns
returns c =
    let o = c.requires.0 in
    let h = c.requires.1 in (
      (λ i. record {
        x = minus_read h.x o.x (lit≤ tt) (lit≤ tt) i;
        y = minus_read h.y o.y (lit≤ tt) (lit≤ tt) i;
        z = minus_read h.z o.z (lit≤ tt) (lit≤ tt) i;
      }),
      record {
        x = minus_sized h.x o.x (lit≤ tt) (lit≤ tt);
        y = minus_sized h.y o.y (lit≤ tt) (lit≤ tt);
        z = minus_sized h.z o.z (lit≤ tt) (lit≤ tt);
      },
    )
