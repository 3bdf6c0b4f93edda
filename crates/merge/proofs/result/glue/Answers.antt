-- `merge::result::glue` meets its contract. Assumes nothing.
use Rattle.merge.specs.Merge.{says_board, areas_of}
use Rattle.merge.proofs.TestsPassed.{counted, areas_left}
use Rattle.merge.proofs.result.glue.Goals as goal

pub returns : goal.returns
returns c =
    let a = c.args in
    let x = says_board a.first in
    let y = says_board a.second in
    let old = areas_of a.vertices.now a.triangles.now a.node_boxes.now a.triangle_boxes.now a.node_words.now a.order.now in
    let o = c.one_empty-empty in
    let g = c.glue_mesh in
    let h = c.glue_boxes in
    let w = c.glue_words in (
      counted x y o.result c.count_nodes.result o.ensures c.count_nodes.ensures,
      areas_left x y old o.result o.ensures g.new.vertices g.new.triangles h.new.boxes h.new.around w.new.words w.new.order
          g.ensures.0 g.ensures.1 h.ensures.0 h.ensures.1 w.ensures.0 w.ensures.1,
    )
