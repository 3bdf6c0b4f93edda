-- The walk of the query that takes only those nodes which a test opens, and the test of the exact listing: the line can meet the node's
-- box. Definitions only. Assumes nothing.
use Rattle.std.specs.Prelude.{ℕ, suc, Bool, true, ◌&&◌, cond, [], ◌∷◌}
use Rattle.geometry.specs.Box.{touches}
use Rattle.geometry.specs.declared.aabb.Aabb.{Aabb}
use Rattle.tree.specs.Layout.{Tree, box_at}
use Rattle.tree_walk.specs.Walk.{Walking, walking, broken, times, take_node, start, ended}
use Rattle.exact_triangle.specs.Line.{Line}
use Rattle.exact_triangle.specs.Box.{certain_box}
use Rattle.tree_exact.specs.Opening.{box_read, line_met, short_segment}

-- ---- any test
module _ (t : Tree) (n : ℕ) (box : Aabb) (opens : ℕ → Bool) where
  -- one node taken from the stack: as the query takes it if it is opened, else passed over
  unfoldable pub take_opened : Walking → Walking
  take_opened broken = broken
  take_opened (walking [] list) = walking [] list
  take_opened (walking (node ∷ stack) list) = cond (opens node) (take_node t n box (walking (node ∷ stack) list)) (walking stack list)

  unfoldable pub opened_walk : Walking
  opened_walk = ended t n box (times t.node_count take_opened (start t n box))

-- ---- the line
-- the line can meet a box on the segment: any box, where the segment is short
unfoldable pub line_meets : Line → Aabb → Bool
line_meets l b = cond (short_segment l) true (line_met l (suc l.far) b)

-- .. and the box touches the one that the walk goes by
unfoldable pub box_opens : Line → Aabb → Aabb → Bool
box_opens l box b = touches b box && line_meets l b

abbrev pub node_opens : Line → Aabb → Tree → ℕ → Bool
node_opens l box t node = box_opens l box (box_at t.node_boxes node)

-- The box that the walk goes by: the segment's, where the tree's first box is in the grid's range. Else a triangle may be out of range,
-- which is a refusal wherever it lies: then the first box, which every box of a tree that passes the check touches.
unfoldable pub walk_box : Line → Aabb → Aabb
walk_box l first = cond (box_read first) (certain_box l) first

-- the triangles that the line may meet, ascending
unfoldable pub line_walk : Line → Tree → ℕ → Walking
line_walk l t n =
    opened_walk t n (walk_box l (box_at t.node_boxes 0)) (node_opens l (walk_box l (box_at t.node_boxes 0)) t)
