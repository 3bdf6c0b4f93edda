-- `tree_check::words::mark_nodes`: what is marked, with what is left to mark, is all that is to be marked.
use Rattle.std.proofs.Common.{◌≡◌, ℕ, ◌+◌, ◌-◌, ◌*◌, ◌<◌, get_or}
use Rattle.lists.specs.Lists.{range, count, flat_map}
use Rattle.tree_check.specs.Marks.{marked}
use Rattle.tree_check.proofs.words.mark_nodes.Given as goal

abbrev pub invariant-loop-node : goal.invariant-loop-node
invariant-loop-node l =
    let all = marked l.kind l.n l.words in
    (x : ℕ) → x < 3 * l.n → get_or l.marks x 0 + count x (flat_map all (range l.node (l.nodes - l.node)))
    ≡ count x (flat_map all (range 0 l.nodes))
