-- What a caller reads of the cast at a cabinet is its answer, so that it says the nearest of the parts. Assumes nothing.
use Prim.Native.Nat.{ℕ, ◌<◌, ◌≤◌}
use mathlib.Core.Path.{◌≡◌, refl, sym, ap, subst, ◌∙◌}
use mathlib.Core.Bool.{Bool, true, false, ◌&&◌}
use mathlib.Core.List.{List, [], ◌∷◌}
use native.Mathlib.Omega.{arith}
use borrow.Author.Tests.{leb-true, ltb-true, lt-leb, ne_eqb}
use lib.Dec.{leb, ltb}
use lib.Ieee.{Float}
use lib.ListN.{length}
use lib.Seq.{sets}
use Rattle.lists.proofs.JoinedTests.{and_first, and_second}
use Rattle.vectors.specs.declared.vec3.Vec3.{Vec3}
use Rattle.geometry.specs.declared.ray.Ray.{Ray}
use Rattle.casts.specs.Answer.{no_room, limit_reached}
use Rattle.tree.specs.Layout.{word_at, vector_at}
use Rattle.cabinet.specs.declared.part.Part.{Part}
use Rattle.cabinet.specs.Parts.{Areas}
use Rattle.cabinet.specs.Cabinet.{Answer, hit_in, none_after, refused, refused_after, cast_cabinet, with_results}
use Rattle.cabinet.specs.PartAnswers.{AnswersParts}
use Rattle.cabinet.proofs.Promises.{returned_apart, returned_apart_lem}
use Rattle.cabinet.proofs.PartAnswers.{answers_parts, answers_with_results}
use Rattle.results.specs.Results.{hit_code, none_code}
use Rattle.exports.specs.CabinetResults.{cabinet_fits, CabinetReturned, returned_cabinet, read_cabinet}
use Rattle.exports.proofs.CabinetAnswers.{Places, places_there}

-- a number is read where it was written
word_read : (place : List ℕ) (k : ℕ) → 1 ≤ length place → word_at (sets place 0 (k ∷ [])) 0 ≡ k
word_read [] k h = absurd (omega arith)
word_read (x ∷ place) k h = refl

hit_read : (p triangle : ℕ) (n : Vec3) (d : Float) (s : ℕ) (hit : List Float) (index part spent : List ℕ)
    → Places (length hit) (length index) (length part) (length spent)
    → read_cabinet (returned_cabinet (hit_in p triangle n d s) hit index part spent) ≡ hit_in p triangle n d s
unfolding read_cabinet returned_cabinet vector_at
hit_read p triangle n d s [] index part spent h = absurd (omega (arith, h.hit))
hit_read p triangle n d s (x ∷ []) index part spent h = absurd (omega (arith, h.hit))
hit_read p triangle n d s (x ∷ (y ∷ [])) index part spent h = absurd (omega (arith, h.hit))
hit_read p triangle n d s (x ∷ (y ∷ (z ∷ []))) index part spent h = absurd (omega (arith, h.hit))
hit_read p triangle n d s (x ∷ (y ∷ (z ∷ (w ∷ hit)))) index part spent h =
    rw (word_read part p h.part, word_read index triangle h.index, word_read spent s h.spent) refl

-- no refusal has a code of a hit or of none
code_apart : (number : ℕ) → number ≤ limit_reached → (number ≡ hit_code → ⊥) × (number ≡ none_code → ⊥)
code_apart number h = ((λ same. omega (arith, same)), (λ same. omega (arith, same)))

module _ (hit : List Float) (index part spent : List ℕ) where
  early_read : (number : ℕ) → leb number no_room ≡ true
      → read_cabinet (returned_cabinet (refused number) hit index part spent) ≡ refused number
  unfolding read_cabinet returned_cabinet
  early_read number e =
      let apart = code_apart number (omega (arith, leb-true number no_room e)) in
      simp (ne_eqb number hit_code apart.0, ne_eqb number none_code apart.1, e)

  late_read : (number s : ℕ) → 1 ≤ length spent → (ltb no_room number && leb number limit_reached) ≡ true
      → read_cabinet (returned_cabinet (refused_after number s) hit index part spent) ≡ refused_after number s
  unfolding read_cabinet returned_cabinet
  late_read number s h e =
      let above = ltb-true no_room number (and_first (ltb no_room number) (leb number limit_reached) e) in
      let apart = code_apart number (leb-true number limit_reached (and_second (ltb no_room number) (leb number limit_reached) e)) in
      simp (
        ne_eqb number hit_code apart.0,
        ne_eqb number none_code apart.1,
        lt-leb number no_room above,
        word_read spent s h,
      )

  none_read : (s : ℕ) → 1 ≤ length spent → read_cabinet (returned_cabinet (none_after s) hit index part spent) ≡ none_after s
  unfolding read_cabinet returned_cabinet
  none_read s h = ap none_after (word_read spent s h)

  -- with places for the results, every answer is read back; without, refusals 1, 2 and 3 are
  read_back : Places (length hit) (length index) (length part) (length spent) → (x : Answer) → returned_apart x ≡ true
      → read_cabinet (returned_cabinet x hit index part spent) ≡ x
  read_back h (hit_in p triangle n d s) e = hit_read p triangle n d s hit index part spent h
  read_back h (none_after s) e = none_read s h.spent
  read_back h (refused number) e = early_read number e
  read_back h (refused_after number s) e = late_read number s h.spent e

  abbrev fits : Bool
  fits = cabinet_fits (length hit) (length index) (length part) (length spent)

  results_read : (b : Bool) → fits ≡ b → (x : Answer) → returned_apart x ≡ true
      → read_cabinet (returned_cabinet (with_results b x) hit index part spent) ≡ with_results b x
  unfolding with_results
  results_read true f x e = read_back (places_there (length hit) (length index) (length part) (length spent) f) x e
  results_read false f (refused number) e = early_read number e
  results_read false f (refused_after number s) e = early_read no_room refl
  results_read false f (none_after s) e = early_read no_room refl
  results_read false f (hit_in p triangle n d s) e = early_read no_room refl

-- ---- the whole call
module _ (r : Ray) (a : Areas) (m k limit : ℕ) (parts : List Part) (hit : List Float) (index part spent : List ℕ) where
  pub cabinet_reads : length parts < 18446744073709551616 → (returned : CabinetReturned)
      → returned ≡ returned_cabinet (with_results (cabinet_fits (length hit) (length index) (length part) (length spent))
      (cast_cabinet r a m k limit parts)) hit index part spent
      → AnswersParts r a m k parts (read_cabinet returned)
  cabinet_reads few returned e =
      let b = cabinet_fits (length hit) (length index) (length part) (length spent) in
      let x = cast_cabinet r a m k limit parts in
      subst (AnswersParts r a m k parts)
      (sym (ap read_cabinet e ∙ results_read hit index part spent b refl x (returned_apart_lem r a m k limit parts)))
      (answers_with_results r a m k parts b x (answers_parts r a m k parts limit few))
