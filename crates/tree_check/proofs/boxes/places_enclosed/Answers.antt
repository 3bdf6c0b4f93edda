-- `tree_check::boxes::places_enclosed` meets its contract. Assumes nothing.
use Rattle.std.proofs.Common.{rules, refl, ◌∙◌, ◌-◌}
use Rattle.std.proofs.lemmas.Iterator.{YieldsList-from_range}
use Rattle.std.proofs.lemmas.Iterator.Search.{all_from_yields_List}
use Rattle.tree_check.specs.Steps.{place_enclosed}
use Rattle.tree_check.proofs.EachOf.{every_listed}
use Rattle.tree_check.proofs.boxes.places_enclosed.Goals as goal

pub returns : goal.returns
returns c =
    let a = c.args in
    let test = place_enclosed a.outer a.boxes.now a.order.now in
    all_from_yields_List test _ _ c.all.result c.all.ensures.ran (YieldsList-from_range a.start a.end _ refl refl) (λ x b q k. search rules)
    ∙ every_listed test a.start (a.end - a.start)
