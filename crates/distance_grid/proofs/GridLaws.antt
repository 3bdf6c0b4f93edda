-- What the admission of a grid's sides says of them, and that their products are small. Assumes nothing.
use Prim.Native.Nat.{ℕ, ◌*◌, ◌≤◌}
use native.Mathlib.Nat.{mul-le-mul}
use mathlib.Core.Path.{◌≡◌}
use mathlib.Core.Bool.{true, ◌&&◌}
use mathlib.Core.List.{List}
use lib.Dec.{leb, eqb}
use lib.Ieee.{Float}
use lib.ListN.{length}
use borrow.Author.Tests.{leb-true, eqb-true}
use Rattle.lists.proofs.JoinedTests.{and_first, and_second}
use Rattle.distance_grid.specs.Grid.{nodes, side_admitted, sides_admitted, grid_admitted, SideStands, SidesStand, Stands}
use Rattle.distance_grid.specs.declared.grid.Sides.{Sides}
use Rattle.distance_grid.specs.declared.grid.Grid.{Grid}

pub side_stands : (n : ℕ) → side_admitted n ≡ true → SideStands n
unfolding side_admitted
side_stands n e = record {
  least = leb-true 2 n (and_first (leb 2 n) (leb n 256) e);
  most = leb-true n 256 (and_second (leb 2 n) (leb n 256)
      e);
}

-- the products of admitted sides
pub plane_small : (s : Sides) → SidesStand s → s.z * s.y ≤ 256 * 256
plane_small s p = mul-le-mul p.on_z.most p.on_y.most

pub nodes_small : (s : Sides) → SidesStand s → nodes s ≤ 256 * 256 * 256
nodes_small s p = mul-le-mul (plane_small s p) p.on_x.most

-- ---- what the admission of a grid says of it
sides_stand_by : (s : Sides) (count : ℕ) → sides_admitted s count ≡ true → SidesStand s × (count ≡ nodes s)
unfolding sides_admitted
sides_stand_by s count e =
    let x = and_first (side_admitted s.x) (side_admitted s.y && (side_admitted s.z && eqb count (nodes s))) e in
    let yz = and_second (side_admitted s.x) (side_admitted s.y && (side_admitted s.z && eqb count (nodes s))) e in
    let y = and_first (side_admitted s.y) (side_admitted s.z && eqb count (nodes s)) yz in
    let z-count = and_second (side_admitted s.y) (side_admitted s.z && eqb count (nodes s)) yz in
    let z = and_first (side_admitted s.z) (eqb count (nodes s)) z-count in
    let n = and_second (side_admitted s.z) (eqb count (nodes s)) z-count in
    (record { on_x = side_stands s.x x; on_y = side_stands s.y y; on_z = side_stands s.z z }, eqb-true count (nodes s) n)

pub admitted_stands : (g : Grid) (values : List Float) → grid_admitted g (length values) ≡ true → Stands g values
unfolding grid_admitted
admitted_stands g values e =
    let p = sides_stand_by g.sides (length values) (and_first (sides_admitted g.sides (length values)) _ e) in
    record { sides_stand = p.0; count = p.1 }
