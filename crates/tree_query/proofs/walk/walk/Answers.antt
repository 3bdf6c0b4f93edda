-- `tree_query::walk::walk` meets its contract: `gather_ahead` lists the triangles, and their places sorted are the definition's list.
-- Assumes nothing.
use Rattle.tree.specs.Layout.{tree_of}
use Rattle.tree_query.proofs.SortedWalks.{walk_broken, walk_sorted, walk_grown}
use Rattle.tree_query.proofs.walk.walk.Goals as goal

-- `gather_ahead` has stopped
pub returns-in_err-found : goal.returns-in_err-found
returns-in_err-found c =
    let a = c.args in
    let t = tree_of a.nodes a.node_boxes.now a.triangle_boxes.now a.node_words.now a.order.now in
    rw c.from_residual.ensures
    (walk_broken t _ _ _ _ 0 _ c.gather_ahead.ensures.0 c.gather_ahead.ensures.1 c.in_err-found.was, tt)

-- what is listed, sorted, is the walk's list
pub returns : goal.returns
returns c =
    let a = c.args in
    let t = tree_of a.nodes a.node_boxes.now a.triangle_boxes.now a.node_words.now a.order.now in
    let told = c.gather_ahead.ensures in (
      walk_sorted t _ _ _ _ _ _ told.0 told.1 c.in_ok-found.was _ c.sort_in.auto.xs c.sort_in.ensures,
      walk_grown t _ _ _ _ _ _ told.0 told.1 c.in_ok-found.was _ c.sort_in.auto.xs c.sort_in.ensures,
    )
