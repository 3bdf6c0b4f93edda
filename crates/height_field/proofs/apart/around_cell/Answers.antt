-- `height_field::apart::around_cell` meets its contract. Assumes nothing.
use mathlib.Core.Path.{sym}
use Rattle.vectors.proofs.FiniteVectors.{finite_numbers}
use Rattle.height_field.specs.Pass.{around_cell}
use Rattle.height_field.proofs.CellPass.{each_finite}
use Rattle.height_field.proofs.apart.around_cell.Goals as goal

pub least-requires : goal.least-requires
least-requires c = finite_numbers _ (each_finite _ _ _ _ c.requires).0

pub least-requires-2 : goal.least-requires-2
least-requires-2 c = finite_numbers _ (each_finite _ _ _ _ c.requires).1.1.0

pub least-requires-3 : goal.least-requires-3
least-requires-3 c = c.least.ensures.1

pub greatest-requires : goal.greatest-requires
greatest-requires c = finite_numbers _ (each_finite _ _ _ _ c.requires).0

pub greatest-requires-2 : goal.greatest-requires-2
greatest-requires-2 c = finite_numbers _ (each_finite _ _ _ _ c.requires).1.1.0

pub greatest-requires-3 : goal.greatest-requires-3
greatest-requires-3 c = c.greatest.ensures.1

pub returns : goal.returns
unfolding around_cell
returns c =
    simp (
      sym c.least.ensures.0,
      sym c.least-2.ensures.0,
      sym c.least-3.ensures.0,
      sym c.greatest.ensures.0,
      sym c.greatest-2.ensures.0,
      sym c.greatest-3.ensures.0,
    )
