-- `exact_hits::walk::line_meets` meets its contract. Assumes nothing.
use mathlib.Core.Path.{◌≡◌, sym, ◌∙◌}
use lib.Dec.{lit≤}
use Rattle.wide_integers.proofs.Reading.{bits, plain, widen}
use Rattle.tree_exact.proofs.LimitSteps.{past_fits, past_read, past_none}
use Rattle.exact_hits.specs.LineWalk.{line_meets}
use Rattle.exact_hits.proofs.walk.line_meets.Goals as goal

-- a short segment
pub returns-then-is_short : goal.returns-then-is_short
unfolding line_meets
returns-then-is_short c = λ l sees. sym (simp (sym (c.is_short.ensures l sees) ∙ c.if-is_short.true))

pub overflow_add-line : goal.overflow_add-line
overflow_add-line c =
    let gain-plain : bits c.args.line.gain ≡ c.args.line.gain =
    plain (widen c.requires.gain (lit≤ tt)) in
    let far-plain : bits c.args.line.far ≡ c.args.line.far =
    plain (widen c.requires.far (lit≤ tt)) in
    past_fits far-plain gain-plain c.requires.far c.requires.gain

-- the line decides
pub returns : goal.returns
unfolding line_meets
returns c =
    let gain-plain : bits c.args.line.gain ≡ c.args.line.gain =
    plain (widen c.requires.gain (lit≤ tt)) in
    let far-plain : bits c.args.line.far ≡ c.args.line.far =
    plain (widen c.requires.far (lit≤ tt)) in
    λ l sees.
    c.line_met.ensures l _ sees
    (past_read far-plain gain-plain c.requires.far c.requires.gain ∙ past_none c.args.line l sees)
    ∙ sym (simp (sym (c.is_short.ensures l sees) ∙ c.if-is_short.false))
