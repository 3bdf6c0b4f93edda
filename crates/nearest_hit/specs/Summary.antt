-- What of a list of triangles decides its nearest hit, whatever their order. Definitions only. Assumes nothing.
-- nobody yet, or the one that goes before all others that came
pub use Rattle.std.proofs.Math.Option.{Option as Kept, none as nobody, some as kept}
use Rattle.std.specs.Prelude.{ℕ, Bool, ◌&&◌, ◌||◌, cond, List, [], ◌∷◌, ltb, Float, Option, Some, None, Result, Ok, Err}
use Rattle.std.specs.Float.Ieee.{lt, le}
use Rattle.casts.specs.Answer.{Answer, number_of}
use Rattle.nearest_hit.specs.Nearest.{Indexed, no_hit, stopped, next_of}
use Rattle.casts.specs.Reach.{Reach, At, Miss, Refused, reach_of}
use Rattle.casts.specs.declared.answer.Refusal.{Refusal}
use Rattle.nearest_hit.specs.declared.summary.IndexedRefusal.{IndexedRefusal}
use Rattle.nearest_hit.specs.declared.summary.IndexedReach.{IndexedReach}
use Rattle.nearest_hit.specs.declared.summary.NearestSoFar.{NearestSoFar}

-- one more comes
unfoldable pub keep_of : {A : Type 0} → (A → A → Bool) → Kept A → A → Kept A
keep_of before nobody x = kept x
keep_of before (kept y) x = cond (before x y) (kept x) (kept y)

-- a triangle with what was found of it: the distance of its hit, or the number of its refusal
pub record Found (A : Type 0) : Type 0 where
  pub index : ℕ
  pub value : A

abbrev pub found : {A : Type 0} → ℕ → A → Found A
found index value = record { index = index; value = value }

-- of a lower index
unfoldable pub lower : {A : Type 0} → Found A → Found A → Bool
lower a b = ltb a.index b.index

-- nearer, or at most as far and of a lower index
unfoldable pub nearer : Found Float → Found Float → Bool
nearer a b = lt a.value b.value || (le a.value b.value && ltb a.index b.index)

pub record Summary : Type 0 where
  -- of those that refuse "the lowest-indexed one", with its number
  pub refuser : Kept (Found ℕ)
  -- of those that are hit: every other one "lies at least as far, and farther if its index is lower"
  pub least : Kept (Found Float)

abbrev pub nothing : Summary
nothing = record { refuser = nobody; least = nobody }

-- one more triangle
unfoldable pub note_of : Summary → ℕ → Reach → Summary
note_of s index Miss = s
note_of s index (Refused number) = record { refuser = keep_of lower s.refuser (found index number); least = s.least }
note_of s index (At distance) = record { refuser = s.refuser; least = keep_of nearer s.least (found index distance) }

-- all triangles of a list, on top of those noted before
unfoldable pub summary_from : (ℕ → Answer) → Summary → List ℕ → Summary
summary_from answer s [] = s
summary_from answer s (index ∷ rest) = summary_from answer (note_of s index (reach_of (answer index))) rest

-- the answer of all, without a normal: nobody's, a refusal with its number, or that of a triangle hit at a distance
pub data Outcome : Type 0 where
  Nobody : Outcome
  RefusedBy : ℕ → Outcome
  NearestHit : ℕ → Float → Outcome

abbrev pub hit_outcome : Kept (Found Float) → Outcome
hit_outcome nobody = Nobody
hit_outcome (kept s) = NearestHit s.index s.value

-- whose answer it is: a refuser's before any hit's
unfoldable pub winner_of : Kept (Found ℕ) → Kept (Found Float) → Outcome
winner_of (kept refuser) least = RefusedBy refuser.value
winner_of nobody least = hit_outcome least

abbrev pub winner : Summary → Outcome
winner s = winner_of s.refuser s.least

-- the winner's answer, a hit's with its index
unfoldable pub answer_at : (ℕ → Answer) → Outcome → Indexed
answer_at answer Nobody = no_hit
answer_at answer (RefusedBy number) = stopped number
answer_at answer (NearestHit index distance) = next_of no_hit index (answer index)

-- the nearest hit of a list of triangles, in whatever order they stand
abbrev pub nearest_noted : (ℕ → Answer) → List ℕ → Indexed
nearest_noted answer l = answer_at answer (winner (summary_from answer nothing l))

-- what the code's notes say
abbrev pub says_chosen_refusal : Option IndexedRefusal → Kept (Found ℕ)
says_chosen_refusal None = nobody
says_chosen_refusal (Some r) = kept (found r.index (number_of r.refusal))

abbrev pub says_chosen_hit : Option IndexedReach → Kept (Found Float)
says_chosen_hit None = nobody
says_chosen_hit (Some r) = kept (found r.index r.distance)

abbrev pub says_nearest_so_far : NearestSoFar → Summary
says_nearest_so_far notes =
    record { refuser = says_chosen_refusal notes.refuser; least = says_chosen_hit notes.least }

abbrev pub says_outcome : Result (Option IndexedReach) Refusal → Outcome
says_outcome (Ok (Some r)) = NearestHit r.index r.distance
says_outcome (Ok None) = Nobody
says_outcome (Err refusal) = RefusedBy (number_of refusal)
