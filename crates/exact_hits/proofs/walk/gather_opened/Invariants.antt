-- What each iteration of `exact_hits::walk::gather_opened` keeps. Assumes nothing.
use Rattle.tree.specs.Layout.{tree_of}
use Rattle.exact_hits.proofs.OpenedSteps.{OpenedSoFar}
use Rattle.exact_hits.proofs.walk.gather_opened.Given as goal

abbrev pub invariant-loop-taken : goal.invariant-loop-taken
invariant-loop-taken l =
    OpenedSoFar l.line l.count l.reach (tree_of l.nodes l.node_boxes l.triangle_boxes l.node_words l.order) l.initial.list l.initial.stack
    l.list l.stack l.next l.height l.listed l._taken
