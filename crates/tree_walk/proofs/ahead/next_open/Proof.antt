-- `tree_walk::ahead::next_open` meets its contract. Assumes nothing.
use Rattle.tree_walk.proofs.Children.{next_none, next_some}
use Prim.Native.Nat.{◌-◌}
use native.Mathlib.Omega.{arith}
use borrow.Author.Rules.{rules}
use Rattle.tree_walk.proofs.ahead.next_open.Statement.{statement}
use Rattle.tree_walk.proofs.ahead.next_open.Tie as tie

-- nothing stands there
returns : tie.Need-returns-then-top-eq0
returns c = next_none _ _ _ _ c.if-top-eq0.true

cast-t10 : tie.Need-overflow_cast-result
cast-t10 c =
    let start : tie.Start = search in
    omega (arith, c.shared_slice_known-1.given (start.args.top - 1))

-- the last one put there
returns-2 : tie.Need-returns
returns-2 c = next_some _ _ _ _ c.if-top-eq0.false

pub next_open_spec : {M : Type 1} → statement M
next_open_spec = tie.close (tie.spec
    returns
    (search rules)  -- overflow_sub-below
    (search rules)  -- offset_bounds-stack-below
    (search rules)  -- bounds-stack-below
    cast-t10
    returns-2)
