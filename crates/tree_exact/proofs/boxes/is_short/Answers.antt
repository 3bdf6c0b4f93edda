-- `tree_exact::boxes::is_short` meets its contract. Assumes nothing.
use mathlib.Core.Path.{◌≡◌, ap, ◌∙◌}
use lib.Dec.{lit≤}
use lib.IntN.{ℤ, pos, ◌-ℤ◌, ◌*ℤ◌}
use lib.Signed.{le_z}
use Rattle.wide_integers.proofs.Reading.{bits, plain, widen, sub-fits, sub_read}
use Rattle.exact_triangle.proofs.Laws.{fixed_fits, fixed_once}
use Rattle.tree_exact.specs.Opening.{short_segment}
use Rattle.tree_exact.proofs.boxes.is_short.Goals as goal

pub overflow_sub-length : goal.overflow_sub-length
overflow_sub-length c =
    let far-plain : bits c.args.line.far ≡ c.args.line.far =
    plain (widen c.requires.far (lit≤ tt)) in
    let near-plain : bits c.args.line.near ≡ c.args.line.near =
    plain (widen c.requires.near (lit≤ tt)) in
    sub-fits far-plain near-plain c.requires.far c.requires.near

pub overflow_mul-most : goal.overflow_mul-most
overflow_mul-most c = fixed_fits 2097152 c.requires.gain (lit≤ tt) (lit≤ tt)

pub returns : goal.returns
unfolding short_segment
returns c =
    let far-plain : bits c.args.line.far ≡ c.args.line.far =
    plain (widen c.requires.far (lit≤ tt)) in
    let near-plain : bits c.args.line.near ≡ c.args.line.near =
    plain (widen c.requires.near (lit≤ tt)) in
    λ l sees.
    let length = sub_read far-plain near-plain c.requires.far c.requires.near ∙ (λ i. sees.far i -ℤ sees.near i) in
    let most = fixed_once 2097152 c.requires.gain (lit≤ tt) (lit≤ tt) ∙ ap (λ (z : ℤ). z *ℤ pos 2097152) sees.gain in
    λ i. le_z (length i) (most i)
