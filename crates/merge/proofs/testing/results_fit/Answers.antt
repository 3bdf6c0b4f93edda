-- `merge::testing::results_fit` meets its contract. Assumes nothing.
use Prim.Native.Nat.{◌*◌}
use lib.ListN.{length}
use borrow.Author.Tests.{lt-leb, le-leb}
use Rattle.merge.specs.Merge.{room_in}
use Rattle.merge.proofs.testing.results_fit.Goals as goal

pub returns-then-vertices-v : goal.returns-then-vertices-v
unfolding room_in
returns-then-vertices-v c = rw (lt-leb c.args.v (length c.args.vertices.now) c.if-vertices-v.true)

pub returns-then-triangles-t : goal.returns-then-triangles-t
unfolding room_in
returns-then-triangles-t c =
    rw (
      le-leb c.args.v (length c.args.vertices.now) c.if-vertices-v.false,
      lt-leb
          c.args.t (length c.args.triangles.now) c.if-triangles-t.true,
    )

pub returns-then-node_boxes-n : goal.returns-then-node_boxes-n
unfolding room_in
returns-then-node_boxes-n c =
    rw (
      le-leb c.args.v (length c.args.vertices.now)
          c.if-vertices-v.false,
      le-leb c.args.t (length c.args.triangles.now)
          c.if-triangles-t.false,
      lt-leb (12 * c.args.n) (length c.args.node_boxes.now)
          c.if-node_boxes-n.true,
    )

pub returns-then-triangle_boxes-n : goal.returns-then-triangle_boxes-n
unfolding room_in
returns-then-triangle_boxes-n c =
    rw (
      le-leb c.args.v (length c.args.vertices.now)
          c.if-vertices-v.false,
      le-leb c.args.t
          (length c.args.triangles.now) c.if-triangles-t.false,
      le-leb
          (12 * c.args.n) (length c.args.node_boxes.now)
          c.if-node_boxes-n.false,
      lt-leb (6 * c.args.n)
          (length c.args.triangle_boxes.now) c.if-triangle_boxes-n.true,
    )

pub returns-then-node_words-n : goal.returns-then-node_words-n
unfolding room_in
returns-then-node_words-n c =
    rw (
      le-leb c.args.v
          (length c.args.vertices.now) c.if-vertices-v.false,
      le-leb
          c.args.t (length c.args.triangles.now)
          c.if-triangles-t.false,
      le-leb (12 * c.args.n)
          (length c.args.node_boxes.now) c.if-node_boxes-n.false,
      le-leb
          (6 * c.args.n)
          (length c.args.triangle_boxes.now) c.if-triangle_boxes-n.false,
      lt-leb
          (6 * c.args.n) (length c.args.node_words.now)
          c.if-node_words-n.true,
    )

pub returns-then-order-n : goal.returns-then-order-n
unfolding room_in
returns-then-order-n c =
    rw (
      le-leb c.args.v
          (length c.args.vertices.now)
          c.if-vertices-v.false,
      le-leb c.args.t
          (length c.args.triangles.now) c.if-triangles-t.false,
      le-leb (12 * c.args.n)
          (length c.args.node_boxes.now) c.if-node_boxes-n.false,
      le-leb
          (6 * c.args.n)
          (length c.args.triangle_boxes.now) c.if-triangle_boxes-n.false,
      le-leb
          (6 * c.args.n)
          (length c.args.node_words.now) c.if-node_words-n.false,
      lt-leb
          c.args.n
          (length c.args.order.now) c.if-order-n.true,
    )

pub returns : goal.returns
unfolding room_in
returns c =
    rw (
      le-leb c.args.v
          (length c.args.vertices.now)
          c.if-vertices-v.false,
      le-leb c.args.t
          (length c.args.triangles.now) c.if-triangles-t.false,
      le-leb (12 * c.args.n)
          (length c.args.node_boxes.now) c.if-node_boxes-n.false,
      le-leb
          (6 * c.args.n)
          (length c.args.triangle_boxes.now) c.if-triangle_boxes-n.false,
      le-leb
          (6 * c.args.n)
          (length c.args.node_words.now) c.if-node_words-n.false,
      le-leb
          c.args.n
          (length c.args.order.now) c.if-order-n.false,
    )
