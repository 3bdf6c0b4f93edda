-- `tree_check::words::mark_node` meets its contract. Assumes nothing.
use Rattle.tree_check.proofs.Tally.{marks_other, marks_here}
use native.Mathlib.Omega.{arith}
use Prim.Native.Nat.{◌+◌, ◌*◌, ◌<◌}
use Rattle.tree_check.proofs.words.mark_node.Goals as goal

pub returns-then-words-node : goal.returns-then-words-node
returns-then-words-node c = λ x. marks_other _ _ _ _ x _ c.if-words-node.true

pub second_mark-requires : goal.second_mark-requires
second_mark-requires c = (
  c.requires.0.1.0,
  (
    omega (arith, c.shared_slice_known-4-1.given (3 * c.args.node + 1)),
    omega (
      arith,
      c.shared_slice_known-4-1.given (3 * c.args.node + 2),
    ),
  ),
)

pub mark_pair-requires : goal.mark_pair-requires
mark_pair-requires c =
    let i = c.requires.1.0.inside c.if-words-node.false in let r : c.second_mark.result < 3 * c.args.n = omega
    (arith, c.second_mark.ensures) in
    ((omega (arith, c.requires), omega (arith, c.requires)), (c.requires.1.1 _ i.0, c.requires.1.1 _ r))

pub returns : goal.returns
returns c = λ x. marks_here _ _ _ _ x _ _ _ c.if-words-node.false c.second_mark.ensures (c.mark_pair.ensures x)
