-- The values at a cell's nodes, x fastest, and the cell's faces. Definitions only. Assumes nothing.
use Rattle.std.specs.Prelude.{ℕ, ◌+◌, ◌*◌, List, Float, get_or}
use Rattle.std.specs.Float.{nan}
use Rattle.distance_grid.specs.declared.grid.Grid.{Grid}
use Rattle.distance_grid.specs.declared.faces.Face.{Face}

unfoldable pub value_at : Grid → List Float → ℕ → ℕ → ℕ → Float
value_at g values x y z = get_or values ((z * g.sides.y + y) * g.sides.x + x) nan

-- the four values of a cell at one z
unfoldable pub face_at : Grid → List Float → ℕ → ℕ → ℕ → Face
face_at g values x y z = record {
  a00 = value_at g values x y z;
  a10 = value_at g values (x + 1) y z;
  a01 = value_at g values x (y + 1) z;
  a11 = value_at g values (x + 1) (y + 1) z;
}

-- the faces across x and across y, of the faces at lower and higher z
abbrev pub low_x : Face → Face → Face
low_x low high = record { a00 = low.a00; a10 = low.a01; a01 = high.a00; a11 = high.a01 }

abbrev pub high_x : Face → Face → Face
high_x low high = record { a00 = low.a10; a10 = low.a11; a01 = high.a10; a11 = high.a11 }

abbrev pub low_y : Face → Face → Face
low_y low high = record { a00 = low.a00; a10 = low.a10; a01 = high.a00; a11 = high.a10 }

abbrev pub high_y : Face → Face → Face
high_y low high = record { a00 = low.a01; a10 = low.a11; a01 = high.a01; a11 = high.a11 }
