-- Where each test of a call passes, the tests let the call pass. Assumes nothing.
use mathlib.Core.Path.{◌≡◌, refl, sym, ap, ◌∙◌}
use mathlib.Core.Bool.{Bool, true, false, ◌&&◌, true≢false}
use mathlib.Core.List.{List, [], ◌∷◌}
use Rattle.lists.specs.Refusals.{Test, all_pass}

-- each of them
abbrev pub EachPasses : List Test → Type 0
EachPasses [] = Unit
EachPasses (t ∷ []) = t.passes ≡ true
EachPasses (t ∷ (u ∷ us)) = (t.passes ≡ true) × EachPasses (u ∷ us)

all_passed : (ts : List Test) → EachPasses ts → all_pass ts ≡ true
all_passed [] p = refl
all_passed (t ∷ []) p = p
all_passed (t ∷ (u ∷ us)) p = ap (λ (b : Bool). b && all_pass (u ∷ us)) p.0 ∙ all_passed (u ∷ us) p.1

pub tests_passed : (ts : List Test) → EachPasses ts → all_pass ts ≡ false → ⊥
tests_passed ts p failed = true≢false (sym (all_passed ts p) ∙ failed)
