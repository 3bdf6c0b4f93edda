-- What the tests of both boards answer, one test after another. Assumes nothing.
use Prim.Native.Nat.{ℕ, ◌+◌}
use mathlib.Core.Path.{◌≡◌}
use mathlib.Core.Bool.{Bool, true, false}
use lib.ListN.{length}
use Rattle.tree_check.specs.Check.{tree_passes}
use Rattle.tree_query.specs.Query.{tree_fits}
use Rattle.merge.specs.Merge.{Board, Areas, triangles_in, total, room_in, results_fit, areas_fit, trees_pass}

module _ (a b : Board) (old : Areas) (marks : ℕ) where
  pub first_short : tree_fits (triangles_in a) a.tree ≡ false → false ≡ areas_fit a b old marks
  unfolding areas_fit
  first_short e = rw e

  pub second_short : tree_fits (triangles_in a) a.tree ≡ true → tree_fits (triangles_in b) b.tree ≡ false → false ≡ areas_fit a b old marks
  unfolding areas_fit
  second_short e f = rw (e, f)

  pub results_told : tree_fits (triangles_in a) a.tree ≡ true → tree_fits (triangles_in b) b.tree ≡ true → (r : Bool)
      → r ≡ room_in (length a.mesh.vertices + length b.mesh.vertices) (length a.mesh.triangles + length b.mesh.triangles)
      (total a b) old marks → r ≡ areas_fit a b old marks
  unfolding areas_fit results_fit
  results_told e f r g = rw (e, f) g

pub first_tree_fails : (a b : Board) → tree_passes a.mesh a.tree ≡ false → false ≡ trees_pass a b
unfolding trees_pass
first_tree_fails a b e = rw e

pub second_tree_told : (a b : Board) → tree_passes a.mesh a.tree ≡ true → (r : Bool) → r ≡ tree_passes b.mesh b.tree
    → r ≡ trees_pass a b
unfolding trees_pass
second_tree_told a b e r f = rw e f
