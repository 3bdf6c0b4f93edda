-- Inner contracts only: what the tests of the merge let pass, as the copying asks it: room for each part, and words that stay small when
-- they are moved up.
-- Definitions only. Assumes nothing.
use Rattle.std.specs.Prelude.{ℕ, ◌+◌, ◌*◌, ◌≤◌, ◌≡◌, true, false, cond, length}
use Rattle.tree.specs.Mesh.{lengths_admitted}
use Rattle.tree_check.specs.Verdict.{room_for}
use Rattle.tree_copy.specs.Sizes.{SmallWords, SmallNodes}
use Rattle.merge.specs.Merge.{Board, Areas, triangles_in, vertices_in, one_empty}

-- a board whose tree areas are long enough and whose counts are small
pub record Long (a : Board) : Type 0 where
  pub few_triangles : triangles_in a ≤ 65536
  pub few_nodes : a.tree.node_count ≤ 131072
  pub boxes : 6 * a.tree.node_count ≤ length a.tree.node_boxes
  pub around : 6 * triangles_in a ≤ length a.tree.triangle_boxes
  pub words : 3 * a.tree.node_count ≤ length a.tree.node_words
  pub order : triangles_in a ≤ length a.tree.order

pub record Ready (a b : Board) (old : Areas) : Type 0 where
  pub first : Long a
  pub second : Long b
  pub vertices : length a.mesh.vertices + length b.mesh.vertices ≤ length old.vertices
  pub triangles : length a.mesh.triangles + length b.mesh.triangles ≤ length old.triangles
  pub boxes : 6 * (cond (one_empty a b) 0 1 + (a.tree.node_count + b.tree.node_count)) ≤ length old.node_boxes
  pub around : 6 * triangles_in a + 6 * triangles_in b ≤ length old.triangle_boxes
  pub words : 3 * (cond (one_empty a b) 0 1 + (a.tree.node_count + b.tree.node_count)) ≤ length old.node_words
  pub order : triangles_in a + triangles_in b ≤ length old.order
  pub some : one_empty a b ≡ false → (1 ≤ a.tree.node_count) × (1 ≤ b.tree.node_count)
  pub corners_small : SmallWords b.mesh.triangles (length b.mesh.triangles) (vertices_in a)
  pub first_small : SmallNodes a.tree.node_words (cond (one_empty a b) 0 1) 0 a.tree.node_count
  pub second_small : SmallNodes b.tree.node_words (cond (one_empty a b) 0 1 + a.tree.node_count) (triangles_in a) b.tree.node_count
  pub order_small : SmallWords b.tree.order (triangles_in b) (triangles_in a)

-- a board that the check does not refuse
pub record Checkable (a : Board) (marks : ℕ) : Type 0 where
  pub lengths : lengths_admitted (length a.mesh.vertices) (length a.mesh.triangles) ≡ true
  pub room : room_for (triangles_in a) (length a.tree.node_boxes) (length a.tree.triangle_boxes) (length a.tree.node_words)
      (length a.tree.order) marks ≡ true
