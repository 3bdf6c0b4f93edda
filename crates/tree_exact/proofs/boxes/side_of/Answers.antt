-- `tree_exact::boxes::side_of` meets its contract. Assumes nothing.
use mathlib.Core.Path.{ap, ◌∙◌}
use lib.Dec.{lit≤}
use lib.IntN.{ℤ, ◌-ℤ◌}
use Rattle.wide_integers.proofs.Reading.{widen}
use Rattle.exact_triangle.proofs.Laws.{minus_fits, minus_read, minus_sized}
use Rattle.tree_exact.proofs.boxes.side_of.Goals as goal

pub coordinate-first-requires : goal.coordinate-first-requires
coordinate-first-requires c = c.requires.0.0

pub coordinate-last-requires : goal.coordinate-last-requires
coordinate-last-requires c = c.requires.0.1

pub overflow_sub-result : goal.overflow_sub-result
overflow_sub-result c = minus_fits c.coordinate-first.ensures.1 c.requires.1 (lit≤ tt) (lit≤ tt)

pub overflow_sub-result-2 : goal.overflow_sub-result-2
overflow_sub-result-2 c = minus_fits c.coordinate-last.ensures.1 c.requires.1 (lit≤ tt) (lit≤ tt)

-- each side less the origin's coordinate
pub returns : goal.returns
returns c =
    let p = c.coordinate-first.ensures in
    let q = c.coordinate-last.ensures in
    let o = c.args.o in (
      (λ i. record {
        low = (minus_read p.1 c.requires.1 (lit≤ tt) (lit≤ tt) ∙ ap (λ (z : ℤ). z -ℤ o) p.0) i;
        high = (minus_read q.1 c.requires.1 (lit≤ tt) (lit≤ tt) ∙ ap (λ (z : ℤ). z -ℤ o) q.0) i;
      }),
      record {
        low = widen (minus_sized p.1 c.requires.1 (lit≤ tt) (lit≤ tt)) (lit≤ tt);
        high = widen (minus_sized q.1 c.requires.1 (lit≤ tt) (lit≤ tt)) (lit≤ tt);
      },
    )
