-- What a summary keeps is true and of the list: what holds of every triangle of a list with its reach holds of the winner with what was
-- found of it. Assumes nothing.
use Prim.Native.Nat.{ℕ}
use mathlib.Core.Path.{refl}
use mathlib.Core.Bool.{Bool, true, false, cond}
use mathlib.Core.List.Memᴰ
use mathlib.Core.List.{List, [], ◌∷◌}
use lib.Ieee.{Float}
use Rattle.casts.specs.Answer.{Answer}
use Rattle.casts.specs.Reach.{reach_of}
use Rattle.nearest_hit.specs.Summary.{Kept, nobody, kept, keep_of, Found, found, lower, nearer, Summary, nothing, note_of, summary_from}
use Rattle.nearest_hit.specs.Summary.{hit_outcome, winner_of, winner}
use Rattle.casts.specs.Reach.{Reach, At, Miss, Refused}
use Rattle.nearest_hit.specs.Summary.{Outcome, Nobody, RefusedBy, NearestHit}
use Rattle.lists.proofs.Members.{Each, each_rest}

-- of the one that is kept
abbrev OfKept : {A : Type 0} → (A → Type 0) → Kept A → Type 0
OfKept P nobody = Unit
OfKept P (kept x) = P x

keep_of_lem : {A : Type 0} (P : A → Type 0) (before : A → A → Bool) (k : Kept A) (x : A) → OfKept P k → P x → OfKept P (keep_of before k x)
unfolding keep_of
keep_of_lem P before nobody x h p = p
keep_of_lem P before (kept y) x h p = go (before x y)
  where
    go : (b : Bool) → OfKept P (cond b (kept x) (kept y))
    go true = p
    go false = h

module _ (P : ℕ → Reach → Type 0) where
  -- of a triangle that refuses with a number
  abbrev OfRefuser : Found ℕ → Type 0
  OfRefuser r = P r.index (Refused r.value)

  -- of a triangle hit at a distance
  abbrev OfHit : Found Float → Type 0
  OfHit s = P s.index (At s.value)

  record OfSummary (s : Summary) : Type 0 where
    refuser : OfKept OfRefuser s.refuser
    least : OfKept OfHit s.least

  note_of_lem : (s : Summary) (i : ℕ) (a : Reach) → P i a → OfSummary s → OfSummary (note_of s i a)
  unfolding note_of
  note_of_lem s i Miss p h = h
  note_of_lem s i (Refused number) p h = record {
    refuser = keep_of_lem OfRefuser lower s.refuser (found i number) h.refuser p;
    least = h.least;
  }
  note_of_lem s i (At d) p h = record {
    refuser = h.refuser;
    least = keep_of_lem OfHit nearer s.least (found i d) h.least p;
  }

  -- of the winner: some triangle refuses with its number, or its own triangle is hit at its distance
  abbrev pub OfOutcome : Outcome → Type 0
  OfOutcome Nobody = Unit
  OfOutcome (RefusedBy number) = (i : ℕ) × P i (Refused number)
  OfOutcome (NearestHit i d) = P i (At d)

  hit_of_lem : (k : Kept (Found Float)) → OfKept OfHit k → OfOutcome (hit_outcome k)
  hit_of_lem nobody h = tt
  hit_of_lem (kept s) h = h

  winner_of_lem : (r : Kept (Found ℕ)) (l : Kept (Found Float)) → OfKept OfRefuser r → OfKept OfHit l → OfOutcome (winner_of r l)
  unfolding winner_of
  winner_of_lem (kept r) l p s = (r.index, p)
  winner_of_lem nobody l p s = hit_of_lem l s

  module _ (answer : ℕ → Answer) where
    abbrev OfAnswer : ℕ → Type 0
    OfAnswer i = P i (reach_of (answer i))

    summary_of : (s : Summary) (l : List ℕ) → Each OfAnswer l → OfSummary s → OfSummary (summary_from answer s l)
    unfolding summary_from
    summary_of s [] each h = h
    summary_of s (x ∷ xs) each h =
        summary_of (note_of s x (reach_of (answer x))) xs (each_rest OfAnswer x xs each)
        (note_of_lem s x (reach_of (answer x)) (each x (Memᴰ.head refl)) h)

    pub winner_of_list : (l : List ℕ) → Each OfAnswer l → OfOutcome (winner (summary_from answer nothing l))
    winner_of_list l each =
        let h = summary_of nothing l each (record { refuser = tt; least = tt }) in
        winner_of_lem (summary_from answer nothing l).refuser (summary_from answer nothing l).least h.refuser h.least
