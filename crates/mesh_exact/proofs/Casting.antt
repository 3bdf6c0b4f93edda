-- The exact cast without a tree, refusal by refusal. Assumes nothing.
use mathlib.Core.Path.{◌≡◌, ◌∙◌}
use mathlib.Core.Bool.{true, false}
use lib.ListN.{length}
use Rattle.geometry.specs.Segment.{ray_admitted}
use Rattle.geometry.specs.declared.ray.Ray.{Ray}
use Rattle.casts.specs.Answer.{invalid_input, bad_shape, out_of_range}
use Rattle.nearest_hit.specs.Nearest.{Indexed, stopped}
use Rattle.tree.specs.Mesh.{Mesh, lengths_admitted}
use Rattle.exact_triangle.specs.Grid.{grid_admitted}
use Rattle.mesh_exact.specs.GridCast.{over_triangles, ray_mesh_exact_plain}

module _ (r : Ray) (m : Mesh) where
  pub exact_invalid : ray_admitted r ≡ false → stopped invalid_input ≡ ray_mesh_exact_plain r m
  unfolding ray_mesh_exact_plain
  exact_invalid h = simp h

  module _ (v : ray_admitted r ≡ true) where
    pub exact_out : grid_admitted r ≡ false → stopped out_of_range ≡ ray_mesh_exact_plain r m
    unfolding ray_mesh_exact_plain
    exact_out h = simp (v, h)

    module _ (g : grid_admitted r ≡ true) where
      pub exact_bad : lengths_admitted (length m.vertices) (length m.triangles) ≡ false → stopped bad_shape ≡ ray_mesh_exact_plain r m
      unfolding ray_mesh_exact_plain
      exact_bad h = simp (v, g, h)

      pub exact_passed : lengths_admitted (length m.vertices) (length m.triangles) ≡ true
          → (answer : Indexed) → answer ≡ over_triangles r m → answer ≡ ray_mesh_exact_plain r m
      unfolding ray_mesh_exact_plain
      exact_passed h answer a = a ∙ (simp (v, g, h))
