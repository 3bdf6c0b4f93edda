-- `tree_walk::step::pop` meets its contract. Assumes nothing.
use Rattle.tree_walk.proofs.Branches.{popped_none, popped_next}
use Prim.Native.Nat.{◌-◌}
use native.Mathlib.Omega.{arith}
use borrow.Author.Rules.{rules}
use Rattle.tree_walk.proofs.step.pop.Statement.{statement}
use Rattle.tree_walk.proofs.step.pop.Tie as tie

returns : tie.Need-returns-then-top-eq0
returns c = popped_none _ _ _ c.if-top-eq0.true

cast-t9 : tie.Need-overflow_cast-result
cast-t9 c =
    let start : tie.Start = search in
    omega (arith, c.shared_slice_known-1.given (start.args.top - 1))

returns-2 : tie.Need-returns
returns-2 c = popped_next _ _ _ c.if-top-eq0.false

pub pop_spec : {M : Type 1} → statement M
pop_spec = tie.close (tie.spec
    returns
    (search rules)  -- overflow_sub-below
    (search rules)  -- offset_bounds-stack-below
    (search rules)  -- bounds-stack-below
    cast-t9
    returns-2)
