-- `level_set::walk::ray_level_set` meets its contract. Assumes nothing.
use Rattle.std.proofs.Common.{sym, ◌∙◌}
use Rattle.distance_grid.proofs.GridLaws.{admitted_stands}
use Rattle.level_set.proofs.walk.ray_level_set.Goals as goal

pub invariant_of-level_set_cast : goal.invariant_of-level_set_cast
invariant_of-level_set_cast c = record { stands = admitted_stands _ _ (sym c.is_admitted.ensures ∙ c.if-not-is_admitted.false) }
