-- What the cast at a cabinet tells of its last state is what the definition says, and the work areas stay where a test fails. Assumes
-- nothing.
use Prim.Native.Nat.{ℕ, ◌≤◌}
use mathlib.Core.Path.{◌≡◌, refl, ap, ◌∙◌}
use mathlib.Core.Bool.{Bool, true, false, ◌&&◌}
use mathlib.Core.List.{List, [], ◌∷◌}
use borrow.Author.Tests.{leb-true}
use lib.Dec.{leb, eqb}
use lib.Ieee.{Float}
use lib.ListN.{length}
use lib.Seq.{sets}
use Rattle.lists.proofs.JoinedTests.{and_first, and_second}
use Rattle.vectors.specs.declared.vec3.Vec3.{Vec3}
use Rattle.geometry.specs.declared.ray.Ray.{Ray}
use Rattle.casts.specs.Answer.{no_room}
use Rattle.cabinet.specs.declared.part.Part.{Part}
use Rattle.cabinet.specs.Found.{Nothing, Hit, Refused, Progress, State, Look}
use Rattle.cabinet.specs.Parts.{Areas}
use Rattle.cabinet.specs.Looks.{look_from, look_parts, second_pass}
use Rattle.cabinet.specs.Cabinet.{Answer, hit_in, none_after, refused, refused_after, cast_cabinet, tests_pass, with_results}
use Rattle.cabinet.specs.Steps.{is_idle, Kept, begun, between, passes, step_parts, last_answer}
use Rattle.cabinet.proofs.Passes.{tests_keep, passes_are_cabinet}
use Rattle.results.specs.Results.{hit_code, none_code}
use Rattle.exports.specs.CabinetResults.{cabinet_fits, CabinetReturned, cabinet_returned, returned_cabinet}

-- ---- result slices that fit have their places
pub record Places (a b c d : ℕ) : Type 0 where
  pub hit : 4 ≤ a
  pub index : 1 ≤ b
  pub part : 1 ≤ c
  pub spent : 1 ≤ d

pub places_there : (hit index part spent : ℕ) → cabinet_fits hit index part spent ≡ true → Places hit index part spent
unfolding cabinet_fits
places_there hit index part spent h =
    let h1 = and_second (leb 4 hit) (leb 1 index && (leb 1 part && leb 1 spent)) h in
    let h2 = and_second (leb 1 index) (leb 1 part && leb 1 spent) h1 in
    record {
      hit = leb-true 4 hit (and_first (leb 4 hit) (leb 1 index && (leb 1 part && leb 1 spent)) h);
      index = leb-true 1 index (and_first (leb 1 index) (leb 1 part && leb 1 spent) h1);
      part = leb-true 1 part (and_first (leb 1 part) (leb 1 spent) h2);
      spent = leb-true 1 spent (and_second (leb 1 part) (leb 1 spent) h2);
    }

-- ---- what is written of the last state
module _ (s : Progress) (hit : List Float) (index part spent : List ℕ) where
  abbrev returned : Bool → CabinetReturned
  returned fits = returned_cabinet (with_results fits (last_answer s)) hit index part spent

  pub none_short : (fits : Bool) → fits ≡ false → s.found ≡ Nothing → cabinet_returned no_room hit index part spent ≡ returned fits
  unfolding returned_cabinet with_results last_answer
  none_short fits f e = simp (f, e)

  pub none_returned : (fits : Bool) → fits ≡ true → s.found ≡ Nothing
      → cabinet_returned none_code hit index part (sets spent 0 (s.spent ∷ [])) ≡ returned fits
  unfolding returned_cabinet with_results last_answer
  none_returned fits f e = simp (f, e)

  module _ (p triangle : ℕ) (n : Vec3) (d : Float) (e : s.found ≡ Hit p triangle n d) where
    pub hit_short : (fits : Bool) → fits ≡ false → cabinet_returned no_room hit index part spent ≡ returned fits
    unfolding returned_cabinet with_results last_answer
    hit_short fits f = simp (f, e)

    pub hit_told : (fits : Bool) → fits ≡ true
        → cabinet_returned hit_code (sets hit 0 (n.x ∷ n.y ∷ n.z ∷ d ∷ [])) (sets index 0 (triangle ∷ [])) (sets part 0 (p ∷ []))
        (sets spent 0 (s.spent ∷ []))
        ≡ returned fits
    unfolding returned_cabinet with_results last_answer
    hit_told fits f = simp (f, e)

  module _ (number : ℕ) (e : s.found ≡ Refused number) where
    -- before a part was begun
    pub refused_early : (fits : Bool) → eqb s.part 0 ≡ true → cabinet_returned number hit index part spent ≡ returned fits
    unfolding returned_cabinet with_results last_answer
    refused_early true z = simp (e, z)
    refused_early false z = simp (e, z)

    pub refused_short : (fits : Bool) → fits ≡ false → eqb s.part 0 ≡ false → cabinet_returned no_room hit index part spent ≡ returned fits
    unfolding returned_cabinet with_results last_answer
    refused_short fits f z = simp (f, e, z)

    pub refused_returned : (fits : Bool) → fits ≡ true → eqb s.part 0 ≡ false
        → cabinet_returned number hit index part (sets spent 0 (s.spent ∷ [])) ≡ returned fits
    unfolding returned_cabinet with_results last_answer
    refused_returned fits f z = simp (f, e, z)

-- ---- the two passes, one after the other
module _ (a : Areas) (m k : ℕ) (start : State) (parts : List Part) where
  pub starts_second : (s : State) (i l : Look)
      → i ≡ look_from start (length a.vertices) (length a.triangles) (length a.node_boxes) (length a.triangle_boxes)
      (length a.node_words) (length a.order) m k
      → l ≡ look_parts i parts → s ≡ second_pass start l → s ≡ between a m k start parts
  unfolding between
  starts_second s i l e f g = g ∙ ap (second_pass start) (f ∙ ap (λ (z : Look). look_parts z parts) e)

  pub ends_second : (s r : State) → s ≡ between a m k start parts → r ≡ step_parts a m k s parts → r ≡ passes a m k start parts
  unfolding passes
  ends_second s r e f = f ∙ ap (λ (z : State). step_parts a m k z parts) e

-- ---- the whole call
-- the result slices are asked once
results_twice : (fits : Bool) (answer : Answer) → with_results fits (with_results fits answer) ≡ with_results fits answer
unfolding with_results
results_twice true answer = refl
results_twice false (hit_in part triangle normal distance spent) = refl
results_twice false (none_after spent) = refl
results_twice false (refused number) = refl
results_twice false (refused_after number spent) = refl

module _ (r : Ray) (a : Areas) (m k limit : ℕ) (fits : Bool) (parts : List Part) where
  last_is : (f s : State) → f ≡ begun r limit fits → s ≡ passes a m k f parts
      → last_answer s.at ≡ with_results fits (cast_cabinet r a m k limit parts)
  last_is f s e g =
      ap (λ (x : State). last_answer x.at) (g ∙ ap (λ (x : State). passes a m k x parts) e)
      ∙ passes_are_cabinet a m k r limit fits parts

  pub cabinet_answers : (f s : State) → f ≡ begun r limit fits → s ≡ passes a m k f parts
      → (hit : List Float) (index part spent : List ℕ) (x : CabinetReturned)
      → x ≡ returned_cabinet (with_results fits (last_answer s.at)) hit index part spent
      → x ≡ returned_cabinet (with_results fits (cast_cabinet r a m k limit parts)) hit index part spent
  cabinet_answers f s e g hit index part spent x h =
      h
      ∙ ap (λ (answer : Answer). returned_cabinet answer hit index part spent)
      (ap (with_results fits) (last_is f s e g) ∙ results_twice fits (cast_cabinet r a m k limit parts))

  pub cabinet_keeps : (f : State) → f ≡ begun r limit fits → (list list' stack stack' : List ℕ)
      → Kept (between a m k f parts) list list' stack stack' → tests_pass r a m k fits parts ≡ false → (list' ≡ list) × (stack' ≡ stack)
  cabinet_keeps f e list list' stack stack' kept h =
      kept (ap (λ (x : State). is_idle (between a m k x parts)) e ∙ tests_keep a m k r limit fits parts h)
