-- The four vertices, then the two triangles. Assumes nothing.
use Rattle.std.proofs.Common.{sym, arith}
use Rattle.nearest_hit.specs.Nearest.{says_indexed}
use Rattle.height_field.specs.Grid.{cell_at, corners_at}
use Rattle.height_field.proofs.Sizes.{cell_small}
use Rattle.height_field.proofs.CellPass.{pass_of_finite}
use Rattle.height_field.proofs.ApartCells.{lower_near, upper_near}
use Rattle.height_field.proofs.pass.pass_cell.Goals as goal

pub overflow_mul-cell : goal.overflow_mul-cell
overflow_mul-cell c =
    let small = cell_small c.args.grid.field c.args.grid.heights.now c.args.row c.args.column c.args.grid.sized c.requires.0
    c.requires.1.0 in
    omega arith

pub overflow_add-cell : goal.overflow_add-cell
overflow_add-cell c =
    let small = cell_small c.args.grid.field c.args.grid.heights.now c.args.row c.args.column c.args.grid.sized c.requires.0
    c.requires.1.0 in
    omega arith

pub overflow_mul-cell-2 : goal.overflow_mul-cell-2
overflow_mul-cell-2 c =
    let small = cell_small c.args.grid.field c.args.grid.heights.now c.args.row c.args.column c.args.grid.sized c.requires.0
    c.requires.1.0 in
    omega arith

pub overflow_cast-cell : goal.overflow_cast-cell
overflow_cast-cell c =
    let small = cell_small c.args.grid.field c.args.grid.heights.now c.args.row c.args.column c.args.grid.sized c.requires.0
    c.requires.1.0 in
    omega arith

pub pass_triangles-requires : goal.pass_triangles-requires
unfolding corners_at
pass_triangles-requires c =
    let a = c.args in
    let small = cell_small a.grid.field a.grid.heights.now a.row a.column c.args.grid.sized c.requires.0 c.requires.1.0 in
    let lower = lower_near a.grid.field a.grid.heights.now a.row a.column c.requires.1.0 a.bounds c.requires.1.1.0 c.requires.1.1.1 in
    let upper = upper_near a.grid.field a.grid.heights.now a.row a.column c.requires.1.0 a.bounds c.requires.1.1.0 c.requires.1.1.1 in
    rw (c.vertex-v00.ensures, c.vertex-v10.ensures, c.vertex-v01.ensures, c.vertex-v11.ensures)
    (lower, (upper, omega arith))

pub returns : goal.returns
unfolding corners_at cell_at
returns c =
    let a = c.args in
    rw (sym (pass_of_finite a.grid.field a.grid.heights.now a.row a.column c.requires.1.0 a.ray a.bounds
    (says_indexed a.best) c.requires.1.1.0))
    (simp (
      sym c.vertex-v00.ensures,
      sym c.vertex-v10.ensures,
      sym c.vertex-v01.ensures,
      sym c.vertex-v11.ensures,
      sym c.pass_triangles.ensures,
    ))
