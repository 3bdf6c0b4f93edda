-- One part of the first pass: each of the code's answers is the definition's. Assumes nothing.
use Prim.Native.Nat.{ℕ, ◌+◌, ◌<◌, ◌≤◌}
use mathlib.Core.Path.{◌≡◌, refl, sym}
use mathlib.Core.Bool.{Bool, true, false}
use native.Mathlib.Omega.{arith}
use borrow.Author.Tests.{ltb-true, ltb-false, le-leb, lt-leb}
use lib.Dec.{leb, ltb}
use Rattle.tree.specs.Mesh.{thirds}
use Rattle.lists.proofs.JoinedTests.{and_second}
use Rattle.cabinet.specs.declared.part.Part.{Part}
use Rattle.cabinet.specs.Found.{Look}
use Rattle.cabinet.specs.Parts.{ranges_inside}
use Rattle.cabinet.specs.Looks.{look_shape}
use Rattle.cabinet.proofs.PartSteps.{triangles_few}

-- a node more than there are fits
pub stack_fits : (nodes stack : ℕ) → ltb nodes stack ≡ leb (nodes + 1) stack
stack_fits nodes stack = go (ltb nodes stack) (ltb-true nodes stack) (ltb-false nodes stack)
  where
    go : (b : Bool) → (b ≡ true → nodes < stack) → (b ≡ false → stack ≤ nodes) → b ≡ leb (nodes + 1) stack
    go true f g = let k = f refl in sym (le-leb (nodes + 1) stack (omega arith))
    go false f g = let k = g refl in sym (lt-leb (nodes + 1) stack (omega arith))

pub look_few : (s : Look) (p : Part) → look_shape s p ≡ true → thirds p.triangles.length ≤ 65536
unfolding look_shape
look_few s p h = triangles_few p.vertices.length p.triangles.length p.nodes (and_second
    (ranges_inside p s.vertices s.triangles s.node_boxes s.triangle_boxes s.node_words s.order) _ h)
