-- `grid_steps::cells::whole_cell` meets its contract. Assumes nothing.
use Rattle.std.proofs.Common.{◌≡◌, true, T, sym, ap, ◌∙◌, subst, arith}
use lib.Ieee.{Float, lt}
use Rattle.arithmetic.specs.Rounding.{whole_of}
use Rattle.vectors.specs.Numbers.{zeroᶠ}
use Rattle.grid_steps.proofs.NodeLaws.{nearest_above_zero}
use Rattle.grid_steps.proofs.cells.whole_cell.Goals as goal

-- a node above the first has a cell below it
pub overflow_sub-result : goal.overflow_sub-result
overflow_sub-result c =
    omega (
      arith,
      nearest_above_zero c.args.coordinate (subst T (sym c.well_formed.0.1) tt)
          (subst (λ (z : Float). lt zeroᶠ z ≡ true) c.round-nearest.ensures c.if-nearest.true),
      c.to_u64.ensures ∙ ap whole_of c.round-nearest.ensures,
    )
