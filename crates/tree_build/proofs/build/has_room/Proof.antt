-- `tree_build::build::has_room` meets its contract. Assumes nothing.
use lib.ListN.{length}
use Rattle.tree.proofs.Lengths.{room_failed, room_passed}
use Rattle.tree_build.specs.Build.{room_for}
use borrow.Author.Rules.{rules}
use Rattle.tree_build.proofs.build.has_room.Statement.{statement}
use Rattle.tree_build.proofs.build.has_room.Tie as tie

returns : tie.Need-returns-then-not-lengths_fit
unfolding room_for
returns c =
    let (start, fit) : tie.Start × tie.After-lengths_fit = search in
    let a = start.args in
    room_failed a.count (length a.node_boxes.now) (length a.triangle_boxes.now) (length a.node_words.now)
    (length a.order.now) a.count (length a.work.now) fit.lengths_fit.ensures c.if-not-lengths_fit.true

returns-2 : tie.Need-returns
unfolding room_for
returns-2 c =
    let (start, fit) : tie.Start × tie.After-lengths_fit = search in
    let a = start.args in
    room_passed a.count (length a.node_boxes.now) (length a.triangle_boxes.now) (length a.node_words.now)
    (length a.order.now) a.count (length a.work.now) fit.lengths_fit.ensures c.if-not-lengths_fit.false

pub has_room_spec : {M : Type 1} → statement M
has_room_spec = tie.close (tie.spec
    (search rules)  -- lengths_fit-requires
    returns
    returns-2)
