-- The steps of the code's test of a box, and of the order of two boxes, on numbers as the machine reads them back. Assumes nothing.
use Prim.Native.Nat.{ℕ, ◌*◌, ◌≤◌, ◌<◌}
use mathlib.Core.Path.{◌≡◌, sym, ap, ◌∙◌}
use mathlib.Core.Bool.{Bool, true, false, not, cond}
use mathlib.Core.List.{List}
use borrow.Author.Tests.{lt-ltb, le-ltb}
use lib.Dec.{ltb}
use lib.IntN.{ℤ, pos}
use lib.Signed.{lt_z}
use lib.Ieee.{Float, le}
use Rattle.lists.proofs.JoinedTests.{and_first, and_second}
use Rattle.vectors.specs.declared.vec3.Vec3.{Vec3}
use Rattle.geometry.specs.Box.{touches}
use Rattle.geometry.specs.declared.aabb.Aabb.{Aabb}
use Rattle.tree.specs.Layout.{box_at}
use Rattle.exact_depth.specs.declared.projection.Projected.{Projected}
use Rattle.exact_triangle.specs.Line.{Line}
use Rattle.exact_triangle.specs.Shear.{Main, alongX, alongY, alongZ, main_of, heading, gain}
use Rattle.exact_triangle.specs.Grid.{all_within, furthest}
use Rattle.exact_triangle.specs.Box.{certain_box}
use Rattle.exact_triangle.specs.declared.view.View.{View}
use Rattle.exact_triangle.specs.View.{main_as, Sees}
use Rattle.tree_exact.specs.Room.{facing_room, box_room, sheared_room_by, passes, room_of, room_met, SideSized, RoomSized}
use Rattle.tree_exact.specs.Opening.{box_read, line_met, short_segment, box_met}
use Rattle.tree_exact.specs.Order.{coordinate_on, comes_first, nearer_first, taken_first}
use Rattle.tree_exact.specs.declared.room.Span.{Span}
use Rattle.tree_exact.specs.declared.room.Room.{Room}

-- ---- a box that is read
pub low_read : (b : Aabb) → box_read b ≡ true → all_within furthest b.min ≡ true
low_read b h = and_first (all_within furthest b.min) (all_within furthest b.max) h

pub high_read : (b : Aabb) → box_read b ≡ true → all_within furthest b.max ≡ true
high_read b h = and_second (all_within furthest b.min) (all_within furthest b.max) h

pub faced_sized : (m : Main) {x y z : Span} → SideSized x → SideSized y → SideSized z → RoomSized (facing_room m x y z)
faced_sized alongX f g h = record { across = g; up = h; depth = f }
faced_sized alongY f g h = record { across = h; up = f; depth = g }
faced_sized alongZ f g h = record { across = f; up = g; depth = h }

-- ---- the test
module _ (line : View) (l : Line) (sees : Sees line l) (limit : ℕ) (b : Aabb) where
  pub unread_met : box_read b ≡ false → true ≡ line_met l limit b
  unfolding line_met
  unread_met h = sym (ap (λ (k : Bool). cond k (room_met l limit (room_of l b)) true) h)

  room_seen : box_room (main_as line.axis) line.origin b ≡ box_room (main_of l.direction) l.origin b
  room_seen = λ i. box_room (sees.axis i) (sees.origin i) b

  pub read_met : box_read b ≡ true → {r : Bool} {N P K : ℤ} {room : Room} → r ≡ passes N P (sheared_room_by line.heading K room)
      → N ≡ line.near → P ≡ pos (limit * gain l) → K ≡ line.ahead → room ≡ box_room (main_as line.axis) line.origin b
      → r ≡ line_met l limit b
  unfolding line_met room_met room_of
  read_met read {room = room} h n p k e =
      h
      ∙ (λ i. passes ((n ∙ sees.near) i) (p i) (sheared_room_by (sees.heading i) ((k ∙ sees.ahead) i) ((e ∙ room_seen) i)))
      ∙ sym (ap (λ (q : Bool). cond q (room_met l limit (room_of l b)) true) read)

-- ---- the segment's box before it
module _ (l : Line) (limit : ℕ) (b reach : Aabb) (box : reach ≡ certain_box l) where
  touching : {k : Bool} → touches b reach ≡ k → touches b (certain_box l) ≡ k
  touching h = ap (touches b) (sym box) ∙ h

  pub apart_met : touches b reach ≡ false → {r : Bool} → r ≡ box_read b → not r ≡ box_met l limit b
  unfolding box_met
  apart_met h e =
      ap not e ∙ sym (ap (λ (k : Bool). cond k (cond (short_segment l) true (line_met l limit b)) (not (box_read b))) (touching h))

  pub short_met : touches b reach ≡ true → short_segment l ≡ true → true ≡ box_met l limit b
  unfolding box_met
  short_met h e = sym (λ i. cond (touching h i) (cond (e i) true (line_met l limit b)) (not (box_read b)))

  pub long_met : touches b reach ≡ true → short_segment l ≡ false → {r : Bool} → r ≡ line_met l limit b → r ≡ box_met l limit b
  unfolding box_met
  long_met h e p = p ∙ sym (λ i. cond (touching h i) (cond (e i) true (line_met l limit b)) (not (box_read b)))

-- ---- the order
module _ (line : View) (l : Line) (sees : Sees line l) (a b : Aabb) where
  abbrev main : Main
  main = main_of l.direction

  on_axis : {x : Float} (v : Vec3) → x ≡ coordinate_on (main_as line.axis) v → x ≡ coordinate_on main v
  on_axis v e = e ∙ ap (λ (m : Main). coordinate_on m v) sees.axis

  depth_is : {D : ℤ} {k : Bool} → D ≡ line.heading.depth → lt_z D (pos 0) ≡ k → lt_z (heading l).depth (pos 0) ≡ k
  depth_is e h = ap (λ (z : ℤ). lt_z z (pos 0)) (sym (e ∙ ap (λ (s : Projected). s.depth) sees.heading)) ∙ h

  pub comes_backward : {D : ℤ} → D ≡ line.heading.depth → lt_z D (pos 0) ≡ true → {x y : Float}
      → x ≡ coordinate_on (main_as line.axis) b.max → y ≡ coordinate_on (main_as line.axis) a.max → le x y ≡ comes_first l a b
  comes_backward e h p q =
      (λ i. le (on_axis b.max p i) (on_axis a.max q i))
      ∙ sym (ap (λ (k : Bool). cond k (le (coordinate_on main b.max) (coordinate_on main a.max))
      (le (coordinate_on main a.min) (coordinate_on main b.min))) (depth_is e h))

  pub comes_forward : {D : ℤ} → D ≡ line.heading.depth → lt_z D (pos 0) ≡ false → {x y : Float}
      → x ≡ coordinate_on (main_as line.axis) a.min → y ≡ coordinate_on (main_as line.axis) b.min → le x y ≡ comes_first l a b
  comes_forward e h p q =
      (λ i. le (on_axis a.min p i) (on_axis b.min q i))
      ∙ sym (ap (λ (k : Bool). cond k (le (coordinate_on main b.max) (coordinate_on main a.max))
      (le (coordinate_on main a.min) (coordinate_on main b.min))) (depth_is e h))

module _ (l : Line) (nodes : ℕ) (boxes : List Float) (left right : ℕ) where
  abbrev nearer : Bool
  nearer = comes_first l (box_at boxes left) (box_at boxes right)

  pub left_missing : nodes ≤ left → true ≡ nearer_first l nodes boxes left right
  unfolding nearer_first
  left_missing h = sym (ap (λ (k : Bool). cond k (cond (ltb right nodes) nearer true) true) (le-ltb left nodes h))

  module _ (p : left < nodes) where
    pub right_missing : nodes ≤ right → true ≡ nearer_first l nodes boxes left right
    unfolding nearer_first
    right_missing h =
        sym (λ i. cond (lt-ltb left nodes p i) (cond (le-ltb right nodes h i) nearer true) true)

    pub both_there : right < nodes → {r : Bool} {a b : Aabb} → r ≡ comes_first l a b → a ≡ box_at boxes left → b ≡ box_at boxes right
        → r ≡ nearer_first l nodes boxes left right
    unfolding nearer_first
    both_there q h e f =
        h ∙ (λ i. comes_first l (e i) (f i))
        ∙ sym (λ i. cond (lt-ltb left nodes p i) (cond (lt-ltb right nodes q i) nearer true) true)

  -- a short segment takes the left child first, a long one the nearer
  pub short_left : short_segment l ≡ true → true ≡ taken_first l nodes boxes left right
  unfolding taken_first
  short_left h = sym (ap (λ (k : Bool). cond k true (nearer_first l nodes boxes left right)) h)

  pub long_left : short_segment l ≡ false → {r : Bool} → r ≡ nearer_first l nodes boxes left right → r
      ≡ taken_first l nodes boxes left right
  unfolding taken_first
  long_left h e = e ∙ sym (ap (λ (k : Bool). cond k true (nearer_first l nodes boxes left right)) h)
