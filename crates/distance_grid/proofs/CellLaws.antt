-- A cell is at most the last one, and a node's place lies among the values. Assumes nothing.
use mathlib.Core.Path.{◌≡◌, refl, sym, subst}
use mathlib.Core.Bool.{Bool, true, false, cond}
use mathlib.Core.List.{List}
use Prim.Native.Nat.{ℕ, ◌+◌, ◌*◌, ◌≤◌, ◌<◌}
use native.Mathlib.Nat.{lt_of_lt_of_le}
use native.Mathlib.Omega.{arith}
use lib.Dec.{ltb}
use lib.Ieee.{Float}
use lib.ListN.{length}
use borrow.Author.Tests.{ltb-true}
use lib.Arith.{digits_lt}
use Rattle.distance_grid.specs.Grid.{nodes, Stands}
use Rattle.distance_grid.specs.Places.{up_to}
use Rattle.distance_grid.specs.declared.grid.Grid.{Grid}
use Rattle.distance_grid.proofs.GridLaws.{plane_small, nodes_small}

-- ---- a cell is at most the last one
pub up_to_least : (last n : ℕ) → up_to last n ≤ last
unfolding up_to
up_to_least last n = go (ltb n last) (ltb-true n last)
  where
    go : (b : Bool) → (b ≡ true → n < last) → cond b n last ≤ last
    go true h = let g = h refl in omega arith
    go false h = omega arith

-- ---- a node's place
-- a node of the grid has its place among the values, and no step to it is large
pub record Placed (g : Grid) (values : List Float) (x y z : ℕ) : Type 0 where
  pub line : z * g.sides.y + y < 256 * 256
  pub place : (z * g.sides.y + y) * g.sides.x + x < 256 * 256 * 256
  pub inside : (z * g.sides.y + y) * g.sides.x + x < length values

pub node_placed : (g : Grid) (values : List Float) (x y z : ℕ)
    → Stands g values × ((x < g.sides.x) × ((y < g.sides.y) × (z < g.sides.z))) → Placed g values x y z
node_placed g values x y z p =
    let line-below : z * g.sides.y + y < g.sides.z * g.sides.y = digits_lt p.1.1.1 p.1.1.0 in
    let place_below : (z * g.sides.y + y) * g.sides.x + x < nodes g.sides = digits_lt line-below p.1.0 in
    record {
      line = lt_of_lt_of_le line-below (plane_small g.sides p.0.sides_stand);
      place = lt_of_lt_of_le place_below (nodes_small g.sides p.0.sides_stand);
      inside = subst (λ (n : ℕ). (z * g.sides.y + y) * g.sides.x + x < n) (sym p.0.count) place_below;
    }
