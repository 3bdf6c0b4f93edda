-- `tree_exact::node::push` meets its contract. Assumes nothing.
use mathlib.Core.Path.{sym, ap, ◌∙◌}
use mathlib.Core.Bool.{Bool, cond}
use native.Mathlib.Omega.{arith}
use lib.ListN.{length-set}
use mathlib.Core.List.{◌∷◌}
use Rattle.tree.specs.Layout.{first_at, second_at}
use Rattle.tree_walk.specs.Areas.{on_stack}
use Rattle.tree_exact.proofs.OnwardLaws.{two_pushed}
use Rattle.tree_exact.proofs.node.push.Goals as goal

pub bounds-stack-top-then-left_first : goal.bounds-stack-top-then-left_first
bounds-stack-top-then-left_first c = simp length-set (omega arith)

pub bounds-stack-top-3 : goal.bounds-stack-top-3
bounds-stack-top-3 c = simp length-set (omega arith)

-- the left one on top
pub returns-then-left_first : goal.returns-then-left_first
returns-then-left_first c =
    let v = c.args in
    let words = v.words.now in
    let node = v.node in
    let rest = on_stack v.stack.now v.top in
    two_pushed v.stack.now v.top (second_at words node) (first_at words node) c.requires.1
    ∙ sym (ap (λ (b : Bool). cond b (first_at words node ∷ (second_at words node ∷ rest))
    (second_at words node ∷ (first_at words node ∷ rest)))
    c.if-left_first.true)

-- the right one on top
pub returns : goal.returns
returns c =
    let v = c.args in
    let words = v.words.now in
    let node = v.node in
    let rest = on_stack v.stack.now v.top in
    two_pushed v.stack.now v.top (first_at words node) (second_at words node) c.requires.1
    ∙ sym (ap (λ (b : Bool). cond b (first_at words node ∷ (second_at words node ∷ rest))
    (second_at words node ∷ (first_at words node ∷ rest)))
    c.if-left_first.false)
