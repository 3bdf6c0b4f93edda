-- Inner contracts only: a box that leaves a tree at its first node. Definitions only. Assumes nothing.
use Rattle.std.specs.Prelude.{ℕ, Bool, false, cond, not, List, eqb, Float}
use Rattle.geometry.specs.Box.{touches}
use Rattle.geometry.specs.declared.aabb.Aabb.{Aabb}
use Rattle.tree.specs.Layout.{box_at}

-- the limit lets a node be taken, there is one, and its box does not touch
unfoldable pub leaves_at_root : ℕ → ℕ → List Float → Aabb → Bool
leaves_at_root limit nodes boxes box = cond (eqb limit 0) false (cond (eqb nodes 0) false (not (touches (box_at boxes 0) box)))
