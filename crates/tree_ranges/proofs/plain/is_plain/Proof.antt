-- `tree_ranges::plain::is_plain` meets its contract. Assumes nothing.
use mathlib.Core.Path.{sym, ◌∙◌}
use Rattle.arithmetic.proofs.Order.{ne_self_is_nan, ne_self_number}
use Rattle.arithmetic.proofs.Numbers.{number_passes}
use Rattle.tree_ranges.proofs.PlainNumbers.{nan_not_plain, number_plain, below_plain, above_plain}
use Rattle.tree_ranges.proofs.plain.is_plain.Statement.{statement}
use Rattle.tree_ranges.proofs.plain.is_plain.Tie as tie

-- below 0
returns : tie.Need-returns-then-x
returns c =
    let s : tie.Start = search in
    below_plain s.args.x s.well_formed.0.1 c.if-x.true

-- above 0
returns-2 : tie.Need-returns-then-x-2
returns-2 c =
    let s : tie.Start = search in
    above_plain s.args.x s.well_formed.0.1 c.if-x-2.true

-- a NaN
returns-3 : tie.Need-returns-then-x-3
returns-3 c =
    let s : tie.Start = search in
    sym (nan_not_plain s.args.x (sym (ne_self_is_nan s.args.x) ∙ c.if-x-3.true))

float-to-bits-result : tie.Need-float_to_bits-result
float-to-bits-result c =
    let s : tie.Start = search in
    number_passes s.args.x (ne_self_number s.args.x c.if-x-3.false)

-- a zero: the pattern tells which
returns-4 : tie.Need-returns
returns-4 c =
    let s : tie.Start = search in
    number_plain s.args.x s.well_formed.0.1 (ne_self_number s.args.x c.if-x-3.false)

pub is_plain_spec : {M : Type 1} → statement M
is_plain_spec = tie.close (tie.spec
    returns
    returns-2
    returns-3
    float-to-bits-result
    returns-4)
