-- The number that the cast at a cabinet answers, what its result slices hold afterwards, and what the call promises. Definitions only.
-- Assumes nothing.
use Rattle.std.specs.Prelude.{ℕ, ◌≡◌, Bool, false, ◌&&◌, cond, List, [], ◌∷◌, leb, eqb, Float, length}
use Rattle.std.proofs.lemmas.List.Edits.{sets}
use Rattle.geometry.specs.declared.ray.Ray.{Ray}
use Rattle.casts.specs.Answer.{no_room}
use Rattle.tree.specs.Layout.{word_at, number_at, vector_at}
use Rattle.cabinet.specs.declared.part.Part.{Part}
use Rattle.cabinet.specs.Parts.{Areas}
use Rattle.cabinet.specs.Cabinet.{Answer, hit_in, none_after, refused, refused_after, cast_cabinet, tests_pass, with_results}
use Rattle.cabinet.specs.Promises.{Passes, LimitPromises}
use Rattle.cabinet.specs.PartAnswers.{AnswersParts}
use Rattle.results.specs.Results.{hit_code, none_code}

-- the lengths of the result slices hit, index, part and spent
unfoldable pub cabinet_fits : ℕ → ℕ → ℕ → ℕ → Bool
cabinet_fits hit index part spent = leb 4 hit && (leb 1 index && (leb 1 part && leb 1 spent))

pub record CabinetReturned : Type 0 where
  pub number : ℕ
  pub hit : List Float
  pub index : List ℕ
  pub part : List ℕ
  pub spent : List ℕ

abbrev pub cabinet_returned : ℕ → List Float → List ℕ → List ℕ → List ℕ → CabinetReturned
cabinet_returned number hit index part spent = record { number = number; hit = hit; index = index; part = part; spent = spent }

-- "the least distance with its part, triangle and normal .. and the nodes spent, which a refusal met from the first part on carries too"
unfoldable pub returned_cabinet : Answer → List Float → List ℕ → List ℕ → List ℕ → CabinetReturned
returned_cabinet (hit_in p triangle n d s) hit index part spent =
    cabinet_returned hit_code (sets hit 0 (n.x ∷ n.y ∷ n.z ∷ d ∷ [])) (sets index 0 (triangle ∷ [])) (sets part 0 (p ∷ []))
    (sets spent 0 (s ∷ []))
returned_cabinet (none_after s) hit index part spent = cabinet_returned none_code hit index part (sets spent 0 (s ∷ []))
returned_cabinet (refused number) hit index part spent = cabinet_returned number hit index part spent
returned_cabinet (refused_after number s) hit index part spent = cabinet_returned number hit index part (sets spent 0 (s ∷ []))

-- what the number and the slices say together: refusals 1, 2 and 3 are met before the first part, any other carries the nodes spent
unfoldable pub read_cabinet : CabinetReturned → Answer
read_cabinet returned =
    cond (eqb returned.number hit_code)
    (hit_in (word_at returned.part 0) (word_at returned.index 0) (vector_at returned.hit 0) (number_at returned.hit 3)
    (word_at returned.spent 0))
    (cond (eqb returned.number none_code) (none_after (word_at returned.spent 0))
    (cond (leb returned.number no_room) (refused returned.number) (refused_after returned.number (word_at returned.spent 0))))

-- The call: its number and its slices; the work areas, unchanged until 1, 2 and 3 let the call pass; what is promised of the limit; and
-- that what is read is the nearest of the parts, that no part is hit, or the first part's refusal. An area with a stroke is the area
-- afterwards.
module _ (r : Ray) (a : Areas) (limit : ℕ) (parts : List Part) (list list' stack stack' : List ℕ) where
  abbrev pub CabinetCall : List Float → List ℕ → List ℕ → List ℕ → CabinetReturned → Type 0
  CabinetCall hit index part spent returned =
      (returned ≡ returned_cabinet (with_results (cabinet_fits (length hit) (length index) (length part) (length spent))
      (cast_cabinet r a (length list) (length stack) limit parts)) hit index part spent)
      × (tests_pass r a (length list) (length stack) (cabinet_fits (length hit) (length index) (length part) (length spent)) parts ≡ false
      → (list' ≡ list) × (stack' ≡ stack))
      × (Passes r a (length list) (length stack) parts → LimitPromises r a (length list) (length stack) parts)
      × AnswersParts r a (length list) (length stack) parts (read_cabinet returned)
