-- The last sentence of demand 3 as one statement: what the build writes without refusing passes the check. Definitions only. Assumes
-- nothing.
use Rattle.std.specs.Prelude.{ℕ, ◌*◌, ◌≤◌, ◌≡◌, length}
use Rattle.tree.specs.Layout.{Areas, tree_in}
use Rattle.tree.specs.Mesh.{Mesh, thirds}
use Rattle.tree_build.specs.Build.{nodes, build_of}
use Rattle.tree_check.specs.Verdict.{yes, check_of}

-- "Every tree our builder writes without refusing, whatever the admitted mesh and whatever its areas held before, passes the check."
-- The check says yes with every mark area that is long enough.
abbrev pub BuiltTreesPass : Type 0
BuiltTreesPass =
    (m : Mesh) (areas : Areas) (work count marks : ℕ) → (build_of m areas work).answer ≡ nodes count → 3 * thirds (length m.triangles) ≤
    marks
    → check_of m (tree_in count (build_of m areas work).after) marks ≡ yes
