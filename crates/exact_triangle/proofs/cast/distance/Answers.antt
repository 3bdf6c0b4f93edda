-- `exact_triangle::cast::distance` meets its contract. Assumes nothing.
use Rattle.std.proofs.Common.{ℤ, pos, ◌*ℤ◌, sym, ap, ◌∙◌, lit≤}
use Rattle.wide_integers.proofs.Polynomials.{times_assoc}
use Rattle.wide_integers.specs.Value.{value}
use Rattle.wide_integers.specs.Division.{fraction_of}
use Rattle.exact_triangle.proofs.Laws.{fixed_fits, fixed_once}
use Rattle.exact_triangle.proofs.cast.distance.Goals as goal

pub overflow_mul-gain : goal.overflow_mul-gain
overflow_mul-gain c = fixed_fits 32768 c.requires.1 (lit≤ tt) (lit≤ tt)

pub times-requires : goal.times-requires
times-requires c = c.requires.0

pub returns : goal.returns
returns c =
    let v = c.args in
    c.nearest.ensures
    ∙ ap (fraction_of (value v.at.t))
    (c.times.ensures ∙ ap (λ (z : ℤ). value v.at.w *ℤ z) (fixed_once 32768 c.requires.1 (lit≤ tt) (lit≤ tt))
    ∙ sym (times_assoc (value v.at.w) v.gain (pos 32768)))
