-- A refusal met in the casts is that of a part which was begun, so the last state's answer carries the count. Assumes nothing.
use Prim.Native.Nat.{ℕ, ◌+◌, ◌-◌}
use mathlib.Core.Path.{◌≡◌, refl, ap, ◌∙◌}
use mathlib.Core.Bool.{Bool, true, false, ◌&&◌}
use mathlib.Core.List.{List, [], ◌∷◌}
use native.Mathlib.Omega.{arith}
use borrow.Author.Tests.{ltb-false, ne_eqb}
use lib.Dec.{ltb, eqb}
use Rattle.geometry.specs.declared.ray.Ray.{Ray}
use Rattle.cabinet.specs.declared.part.Part.{Part}
use Rattle.cabinet.specs.Found.{Progress}
use Rattle.cabinet.specs.Parts.{Areas, mesh_of, tree_of_part}
use Rattle.cabinet.specs.PartCast.{Costed, cast_moved}
use Rattle.cabinet.specs.Cabinet.{is_refused, found_next, next_part, after_part, beginning, cast_part, cast_parts, answer_of}
use Rattle.cabinet.specs.Steps.{last_answer}
use Rattle.cabinet.proofs.Limits.{after_refused, after_begun}

-- refused before a part was begun
abbrev early : Progress → Bool
early s = is_refused s.found && eqb s.part 0

next_not_first : (k : ℕ) → eqb (next_part k) 0 ≡ false
next_not_first k = go (ltb k 18446744073709551615) refl
  where
    go : (b : Bool) → ltb k 18446744073709551615 ≡ b → eqb (next_part k) 0 ≡ false
    go true e = simp e (ne_eqb (k + 1) 0 (λ f. omega (arith, f)))
    go false e =
        let far = ltb-false k 18446744073709551615 e in
        simp e (ne_eqb k 0 (λ f. omega (arith, f, far)))

and_none : (b : Bool) → (b && false) ≡ false
and_none true = refl
and_none false = refl

after_late : (s : Progress) (c : Costed) → early s ≡ false → early (after_part s c) ≡ false
after_late s c h = go (is_refused s.found) refl
  where
    go : (b : Bool) → is_refused s.found ≡ b → early (after_part s c) ≡ false
    go true e = ap early (after_refused s c e) ∙ h
    go false e =
        ap early (after_begun s c e)
        ∙ ap (λ (b : Bool). is_refused (found_next s.found s.part c.answer) && b) (next_not_first s.part)
        ∙ and_none (is_refused (found_next s.found s.part c.answer))

module _ (r : Ray) (a : Areas) (limit : ℕ) where
  casts_late : (s : Progress) (ps : List Part) → early s ≡ false → early (cast_parts r a limit s ps) ≡ false
  unfolding cast_parts cast_part
  casts_late s [] h = h
  casts_late s (p ∷ ps) h =
      let c = cast_moved (limit - s.spent) r p.origin (mesh_of a p) (tree_of_part a p) in
      casts_late (after_part s c) ps (after_late s c h)

  pub last_of_casts : (parts : List Part) → last_answer (cast_parts r a limit beginning parts) ≡ answer_of
      (cast_parts r a limit beginning parts)
  unfolding last_answer
  last_of_casts parts = simp (casts_late beginning parts refl)
