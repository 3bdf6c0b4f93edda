-- `tree_copy::joining::join_numbers` meets its contract. Assumes nothing.
use mathlib.Core.Path.{ap, ◌∙◌}
use mathlib.Core.List.{List}
use native.Mathlib.Omega.{arith}
use lib.Ieee.{Float}
use lib.ListN.{take}
use lib.Seq.{sets, length-take-le}
use Rattle.tree_copy.proofs.JoinLaws.{two_runs}
use borrow.Author.Rules.{rules}
use Rattle.tree_copy.proofs.joining.join_numbers.Statement.{statement}
use Rattle.tree_copy.proofs.joining.join_numbers.Tie as tie

returns : tie.Need-returns
returns c =
    let (start, at-copy-numbers, at-copy-numbers2) : tie.Start × tie.After-copy_numbers × tie.After-copy_numbers-2 = search in
    let a = start.args in
    let p = start.requires in
    at-copy-numbers2.copy_numbers-2.ensures
    ∙ ap (λ (z : List Float). sets z a.m (take a.n a.second.now))
    at-copy-numbers.copy_numbers.ensures
    ∙ two_runs a.area.now (take a.m a.first.now) (take a.n a.second.now) a.m
    (length-take-le a.m a.first.now p.0.0)
    (omega (arith, length-take-le a.m a.first.now p.0.0, length-take-le a.n a.second.now p.0.1, p.1))

pub join_numbers_spec : {M : Type 1} → statement M
join_numbers_spec =
    tie.close (tie.spec
    (search rules)  -- copy_numbers-requires
    (search rules)  -- copy_numbers-requires-2
    (search rules)  -- shape_of-area
    returns)
