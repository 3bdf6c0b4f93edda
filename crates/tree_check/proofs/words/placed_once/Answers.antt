-- `tree_check::words::placed_once` meets its contract. Assumes nothing.
use Rattle.tree_check.proofs.Balance.{placed_once_is}
use Rattle.tree_check.proofs.Sound.{leaves_inside_lem}
use mathlib.Core.Path.{◌∙◌}
use Rattle.tree_check.proofs.words.placed_once.Goals as goal

pub mark_nodes-requires : goal.mark_nodes-requires
mark_nodes-requires c = (c.requires.0, leaves_inside_lem _ _ _ c.requires.1)

pub returns : goal.returns
returns c = c.all_in_one_leaf.ensures ∙ placed_once_is _ _ _ _ c.requires.1 c.mark_nodes.ensures
