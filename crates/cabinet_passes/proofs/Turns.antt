-- A turn of a pass over the parts, and its end. Assumes nothing.
use mathlib.Core.Path.{◌≡◌, sym, ap, ◌∙◌}
use mathlib.Core.List.{List}
use Prim.Native.Nat.{ℕ, ◌+◌, ◌<◌}
use lib.ListN.{length, get_or, drop}
use lib.Seq.{drop-cons, drop-length}
use native.Mathlib.Numerals.{add-one}
use Rattle.cabinet.specs.declared.part.Part.{Part}
use Rattle.cabinet.specs.Found.{State, Look}
use Rattle.cabinet.specs.Parts.{Areas}
use Rattle.cabinet.specs.Looks.{look_part, look_parts}
use Rattle.cabinet.specs.Steps.{step_part, step_parts}

pub look_turn : (s r : Look) (i : ℕ) (parts : List Part) (none : Part) → i < length parts → r ≡ look_part s (get_or parts i none)
    → look_parts r (drop (i + 1) parts) ≡ look_parts s (drop i parts)
unfolding look_parts
look_turn s r i parts none l e =
    ap (λ (z : Look). look_parts z (drop (i + 1) parts)) e
    ∙ ap (λ (k : ℕ). look_parts (look_part s (get_or parts i none)) (drop k parts)) (add-one i)
    ∙ sym (ap (look_parts s) (drop-cons parts i none l))

pub look_end : (s : Look) (i : ℕ) (parts : List Part) → i ≡ length parts → s ≡ look_parts s (drop i parts)
unfolding look_parts
look_end s i parts e = sym (ap (λ (k : ℕ). look_parts s (drop k parts)) e ∙ ap (look_parts s) (drop-length parts))

-- the same of the pass that casts, whose work areas keep their lengths
module _ (a : Areas) (list stack : ℕ) where
  pub step_turn : (s r : State) (i : ℕ) (parts : List Part) (none : Part) (m k : ℕ) → i < length parts → m ≡ list → k ≡ stack
      → r ≡ step_part a m k s (get_or parts i none)
      → step_parts a list stack r (drop (i + 1) parts) ≡ step_parts a list stack s (drop i parts)
  unfolding step_parts
  step_turn s r i parts none m k l p q e =
      let part = get_or parts i none in
      ap (λ (z : State). step_parts a list stack z (drop (i + 1) parts))
      (e ∙ ap (λ (n : ℕ). step_part a n k s part) p ∙ ap (λ (n : ℕ). step_part a list n s part) q)
      ∙ ap (λ (n : ℕ). step_parts a list stack (step_part a list stack s part) (drop n parts)) (add-one i)
      ∙ sym (ap (step_parts a list stack s) (drop-cons parts i none l))

  pub step_end : (s : State) (i : ℕ) (parts : List Part) → i ≡ length parts → s ≡ step_parts a list stack s (drop i parts)
  unfolding step_parts
  step_end s i parts e =
      sym (ap (λ (k : ℕ). step_parts a list stack s (drop k parts)) e ∙ ap (step_parts a list stack s) (drop-length parts))
