-- `tree_check::words::nodes_sound` meets its contract. Assumes nothing.
use Rattle.std.proofs.Common.{rules, refl, ◌∙◌}
use native.Mathlib.Nat.{sub-zero}
use Rattle.std.proofs.lemmas.Iterator.{YieldsList-from_range}
use Rattle.std.proofs.lemmas.Iterator.Search.{all_from_yields_List}
use Rattle.tree_check.specs.Sound.{node_sound}
use Rattle.tree_check.proofs.EachOf.{every_listed}
use Rattle.tree_check.proofs.words.nodes_sound.Goals as goal

pub returns : goal.returns
returns c =
    let a = c.args in
    let test = node_sound a.n a.nodes a.words.now in
    all_from_yields_List test _ _ c.all.result c.all.ensures.ran
    (YieldsList-from_range 0 a.nodes _ refl (sub-zero a.nodes)) (λ x b q k. search rules)
    ∙ every_listed test 0 a.nodes
