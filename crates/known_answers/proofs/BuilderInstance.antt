-- The builder's sentence of demand 3 at a mesh of five triangles, whose tree has three nodes. Assumes nothing.
use mathlib.Core.Path.{◌≡◌}
use native.Mathlib.Omega.{arith}
use lib.ListN.{replicate}
use Rattle.vectors.specs.Numbers.{zeroᶠ}
use Rattle.tree.specs.Mesh.{Mesh, mesh}
use Rattle.tree.specs.Layout.{Areas, areas, tree_in}
use Rattle.tree_build.specs.Build.{build_of}
use Rattle.known_answers.proofs.BuildExamples.{corners, times, answered, k11_five}
use Rattle.tree_check.specs.Verdict.{yes, check_of}
use Rattle.mesh.proofs.BuildPasses.{built_trees_pass}

abbrev five : Mesh
five = mesh corners (times 5)

abbrev lent : Areas
lent = areas (replicate 60 zeroᶠ) (replicate 30 zeroᶠ) (replicate 30 0) (replicate 5 0)

pub five_pass : check_of five (tree_in 3 (build_of five lent 5).after) 15 ≡ yes
unfolding answered times
five_pass = built_trees_pass five lent 5 3 15 k11_five (omega arith)
