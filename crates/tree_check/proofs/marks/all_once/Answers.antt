-- `tree_check::marks::all_once` meets its contract. Assumes nothing.
use Rattle.std.proofs.Common.{rules, refl, ◌∙◌, ◌-◌}
use Rattle.std.proofs.lemmas.Iterator.{YieldsList-from_range}
use Rattle.std.proofs.lemmas.Iterator.Search.{all_from_yields_List}
use Rattle.tree_check.specs.Marks.{marked_once}
use Rattle.tree_check.proofs.EachOf.{every_listed}
use Rattle.tree_check.proofs.marks.all_once.Goals as goal

pub returns : goal.returns
unfolding marked_once
returns c =
    let a = c.args in
    let test = marked_once a.marks.now in
    all_from_yields_List test _ _ c.all.result c.all.ensures.ran (YieldsList-from_range a.start a.end _ refl refl) (λ x b q k. search rules)
    ∙ every_listed test a.start (a.end - a.start)
