-- A mesh whose tree is built first, and the ray cast through it. Definitions only. Assumes nothing.
use Rattle.std.specs.Prelude.{ℕ, ◌+◌, ◌*◌}
use Rattle.geometry.specs.declared.ray.Ray.{Ray}
use Rattle.nearest_hit.specs.Nearest.{Indexed, stopped}
use Rattle.tree.specs.Layout.{Areas, tree_in, fresh_areas}
use Rattle.tree.specs.Mesh.{Mesh, triangle_count}
use Rattle.tree_build.specs.Build.{Answer, nodes, refused, Outcome, build_of}
use Rattle.mesh.specs.MeshCast.{ray_mesh}

-- the cast at the mesh's own vertices through the tree that was built, with areas of so many places; "a refusal of the build is printed"
unfoldable pub through_built : Ray → Mesh → ℕ → ℕ → Answer → Areas → Indexed
through_built ray m list stack (nodes count) after = ray_mesh ray m m.vertices (tree_in count after) list stack
through_built ray m list stack (refused number) after = stopped number

abbrev pub through_tree : Ray → Mesh → ℕ → ℕ → Outcome → Indexed
through_tree ray m list stack built = through_built ray m list stack built.answer built.after

-- the build in areas that are just long enough and all zero
abbrev pub freshly_built : Mesh → Outcome
freshly_built m = build_of m (fresh_areas (triangle_count m)) (triangle_count m)

-- and the cast through it: n places for the list, and 2n + 1, a node count's most, for the stack
abbrev pub through_own_tree : Ray → Mesh → Indexed
through_own_tree ray m = through_tree ray m (triangle_count m) (2 * triangle_count m + 1) (freshly_built m)
