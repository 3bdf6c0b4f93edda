-- Which child of a branch the exact cast takes first. Definitions only. Assumes nothing.
use Rattle.std.specs.Prelude.{ℕ, Bool, true, cond, List, ltb, pos, Float}
use Rattle.std.specs.Int.Signed.{lt_z}
use Rattle.std.specs.Float.Ieee.{le}
use Rattle.vectors.specs.declared.vec3.Vec3.{Vec3}
use Rattle.geometry.specs.declared.aabb.Aabb.{Aabb}
use Rattle.tree.specs.Layout.{Tree, box_at, first_at, second_at}
use Rattle.exact_triangle.specs.Line.{Line}
use Rattle.tree_exact.specs.Opening.{short_segment}
use Rattle.exact_triangle.specs.Shear.{Main, alongX, alongY, alongZ, main_of, heading}

-- the coordinate on an axis
abbrev pub coordinate_on : Main → Vec3 → Float
coordinate_on alongX v = v.x
coordinate_on alongY v = v.y
coordinate_on alongZ v = v.z

-- on the axis of its depth the line comes to the first box before the second, or at once
abbrev pub comes_first : Line → Aabb → Aabb → Bool
comes_first l a b =
    cond (lt_z (heading l).depth (pos 0))
    (le (coordinate_on (main_of l.direction) b.max) (coordinate_on (main_of l.direction) a.max))
    (le (coordinate_on (main_of l.direction) a.min) (coordinate_on (main_of l.direction) b.min))

-- of two nodes the first, where one of them is none; else the nearer one
unfoldable pub nearer_first : Line → ℕ → List Float → ℕ → ℕ → Bool
nearer_first l nodes boxes left right =
    cond (ltb left nodes) (cond (ltb right nodes) (comes_first l (box_at boxes left) (box_at boxes right)) true) true

-- for a short segment the left child, without a test; else the nearer one
unfoldable pub taken_first : Line → ℕ → List Float → ℕ → ℕ → Bool
taken_first l nodes boxes left right = cond (short_segment l) true (nearer_first l nodes boxes left right)

unfoldable pub left_first : Line → Tree → ℕ → Bool
left_first l t node = taken_first l t.node_count t.node_boxes (first_at t.node_words node) (second_at t.node_words node)
