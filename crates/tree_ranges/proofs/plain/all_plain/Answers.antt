-- `tree_ranges::plain::all_plain` meets its contract. Assumes nothing.
use Rattle.std.proofs.Common.{◌≡◌, refl, ap, ◌∙◌, ℕ, Bool, List, [], ◌∷◌, ◌&&◌, rules}
use Rattle.std.specs.List.{list_all}
use Rattle.std.proofs.lemmas.Iterator.{YieldsList-from_slice}
use Rattle.std.proofs.lemmas.Iterator.Search.{all_from_yields_List}
use Rattle.lists.specs.Lists.{every}
use Rattle.tree.specs.Layout.{box_at}
use Rattle.tree_ranges.specs.Plain.{plain_box, plain_range}
use Rattle.tree_ranges.proofs.plain.all_plain.Goals as goal

every_listed : (p : ℕ → Bool) (xs : List ℕ) → list_all p xs ≡ every p xs
unfolding every
every_listed p [] = refl
every_listed p (x ∷ xs) = ap (λ (b : Bool). p x && b) (every_listed p xs)

pub returns : goal.returns
unfolding plain_range
returns c =
    let test : ℕ → Bool = λ t. plain_box (box_at c.args.boxes.now t) in
    all_from_yields_List test _ _ c.all.result c.all.ensures.ran (YieldsList-from_slice c.args.order.now cc) (λ x b q k. search rules)
    ∙ every_listed test c.args.order.now
