-- Which nodes of a tree the exact cast opens. Definitions only. Assumes nothing.
use Rattle.std.specs.Prelude.{ℕ, suc, ◌*◌, Bool, true, not, ◌&&◌, cond, pos, nat_abs, ◌-ℤ◌, ◌*ℤ◌, Float}
use Rattle.std.specs.Int.Signed.{le_z}
use Rattle.geometry.specs.Box.{touches}
use Rattle.geometry.specs.declared.aabb.Aabb.{Aabb}
use Rattle.nearest_hit.specs.Summary.{Kept, nobody, kept, Found, Summary}
use Rattle.tree.specs.Layout.{Tree, box_at}
use Rattle.exact_triangle.specs.Line.{Line}
use Rattle.exact_triangle.specs.Grid.{units, nearest_to, within, all_within, furthest, longest}
use Rattle.exact_triangle.specs.Shear.{gain}
use Rattle.exact_triangle.specs.Box.{certain_box}
use Rattle.tree_exact.specs.Room.{room_of, room_met}

-- the first whole depth, in units, at which nothing takes the place of what was found: its distance is past the one of the nearest hit so
-- far; where there is none, past the segment
abbrev pub limit_of : Line → Kept (Found Float) → ℕ
limit_of l nobody = suc l.far
limit_of l (kept best) = cond (within longest best.value) (suc (nat_abs (nearest_to units best.value))) (suc l.far)

-- a box within the range that is read on the grid
abbrev pub box_read : Aabb → Bool
box_read b = all_within furthest b.min && all_within furthest b.max

-- the line can pass through a box before the limit; a box out of range counts as one that it can
unfoldable pub line_met : Line → ℕ → Aabb → Bool
line_met l limit b = cond (box_read b) (room_met l limit (room_of l b)) true

-- a segment of at most 64 mm, 2^21 units, by its depth
unfoldable pub short_segment : Line → Bool
short_segment l = le_z (pos (l.far * gain l) -ℤ pos (l.near * gain l)) (pos (gain l) *ℤ pos 2097152)

-- A box apart from the segment's is met only if it is out of range. One that touches it is met if the segment is short, and else if the
-- line can pass through it.
unfoldable pub box_met : Line → ℕ → Aabb → Bool
box_met l limit b = cond (touches b (certain_box l)) (cond (short_segment l) true (line_met l limit b)) (not (box_read b))

-- a node is opened if its box may be met before the limit
unfoldable pub opens_node : Line → Tree → ℕ → Summary → Bool
opens_node l t node s = box_met l (limit_of l s.least) (box_at t.node_boxes node)
