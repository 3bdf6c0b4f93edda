-- `exact_triangle::normal::determinant` meets its contract. Assumes nothing.
use Rattle.std.proofs.Common.{◌≡◌, ◌-ℤ◌, ◌*ℤ◌, sym, subst, lit≤}
use Rattle.wide_integers.specs.Sizes.{Sized}
use Rattle.wide_integers.specs.Determinant.{determinant}
use Rattle.wide_integers.proofs.Reading.{bits, widen, product_size, difference_size, sub-fits, sub_read}
use Rattle.exact_triangle.proofs.Laws.{times_fits, times_read}
use Rattle.exact_triangle.proofs.normal.determinant.Goals as goal

pub overflow_mul-result : goal.overflow_mul-result
overflow_mul-result c = times_fits c.requires.0.0 c.requires.1.1 (lit≤ tt) (lit≤ tt) (lit≤ tt)

pub overflow_mul-result-2 : goal.overflow_mul-result-2
overflow_mul-result-2 c = times_fits c.requires.0.1 c.requires.1.0 (lit≤ tt) (lit≤ tt) (lit≤ tt)

pub overflow_sub-result : goal.overflow_sub-result
overflow_sub-result c =
    let h = c.requires.0 in
    let g = c.requires.1 in
    sub-fits (times_read h.0 g.1 (lit≤ tt) (lit≤ tt) (lit≤ tt)) (times_read h.1 g.0 (lit≤ tt) (lit≤ tt) (lit≤ tt))
    (widen (product_size h.0 g.1) (lit≤ tt)) (widen (product_size h.1 g.0) (lit≤ tt))

pub returns : goal.returns
returns c =
    let told : let v = c.args in bits (bits (bits v.a *ℤ bits v.d) -ℤ bits (bits v.b *ℤ bits v.c)) ≡ determinant v.a v.b v.c v.d =
    let h = c.requires.0 in
    let g = c.requires.1 in
    sub_read (times_read h.0 g.1 (lit≤ tt) (lit≤ tt) (lit≤ tt)) (times_read h.1 g.0 (lit≤ tt) (lit≤ tt) (lit≤ tt))
    (widen (product_size h.0 g.1) (lit≤ tt)) (widen (product_size h.1 g.0) (lit≤ tt)) in
    let h = c.requires.0 in
    let g = c.requires.1 in (
      told,
      subst (Sized 576460752303423488) (sym told) (difference_size (product_size h.0 g.1) (product_size h.1 g.0)),
    )
