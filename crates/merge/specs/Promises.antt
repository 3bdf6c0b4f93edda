-- What is promised of the merge: its result passes the check, and a cast on it is the two casts glued. Definitions only. Assumes nothing.
use Rattle.std.specs.Prelude.{ℕ, ◌+◌, ◌*◌, ◌≤◌, ◌≡◌, true, length, take}
use Rattle.geometry.specs.declared.ray.Ray.{Ray}
use Rattle.tree_check.specs.Verdict.{yes, check_of}
use Rattle.mesh.specs.MeshCast.{room_for, ray_mesh}
use Rattle.merge.specs.Glue.{glue}
use Rattle.merge.specs.Merge.{nodes, Board, Areas, triangles_in, total, merge_of}

-- the result as a board: the mesh is the result areas cut to their lengths
abbrev pub board_in : Board → Board → ℕ → Areas → Board
board_in a b count after = record {
  mesh = record {
    vertices = take (length a.mesh.vertices + length b.mesh.vertices) after.vertices;
    triangles = take (length a.mesh.triangles + length b.mesh.triangles) after.triangles;
  };
  tree = record {
    node_count = count;
    node_boxes = after.node_boxes;
    triangle_boxes = after.triangle_boxes;
    node_words = after.node_words;
    order = after.order;
  };
}

-- "The result passes the check", with every mark area that is long enough
abbrev pub MergedTreesPass : Type 0
MergedTreesPass =
    (a b : Board) (old : Areas) (work count marks : ℕ) → (merge_of a b old work).answer ≡ nodes count → 3 * total a b ≤ marks
    → let c = board_in a b count (merge_of a b old work).after in check_of c.mesh c.tree marks ≡ yes

-- a board with lists and stacks long enough for a cast, at its own vertices
pub record Lent : Type 0 where
  pub list : ℕ
  pub stack : ℕ

abbrev pub Suffice : Board → Lent → Type 0
Suffice a l = room_for a.mesh a.tree l.list l.stack ≡ true

-- "Areas long enough, a cast on the result gives the lesser distance of the two casts, the first board on ties;
-- if either refuses, the first board's refusal goes ahead"
abbrev pub CastsGlued : Board → Board → Board → Type 0
CastsGlued a b c =
    (r : Ray) (l l₁ l₂ : Lent) → Suffice c l → Suffice a l₁ → Suffice b l₂
    → ray_mesh r c.mesh c.mesh.vertices c.tree l.list l.stack
    ≡ glue (triangles_in a) (ray_mesh r a.mesh a.mesh.vertices a.tree l₁.list l₁.stack)
    (ray_mesh r b.mesh b.mesh.vertices b.tree l₂.list l₂.stack)

abbrev pub MergedCastsGlue : Type 0
MergedCastsGlue =
    (a b : Board) (old : Areas) (work count : ℕ) → (merge_of a b old work).answer ≡ nodes count
    → CastsGlued a b (board_in a b count (merge_of a b old work).after)

-- both, of a result with its node count
pub record Glued (a b : Board) (count : ℕ) (after : Areas) : Type 0 where
  pub passes : (marks : ℕ) → 3 * total a b ≤ marks
      → check_of (board_in a b count after).mesh (board_in a b count after).tree marks ≡ yes
  pub casts : CastsGlued a b (board_in a b count after)
