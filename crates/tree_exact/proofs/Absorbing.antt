-- A triangle that changes nothing of what was found changes nothing later, and one that was noted changes nothing when it is noted again.
-- Assumes that those hit are hit at numbers.
use Prim.Native.Nat.{ℕ}
use mathlib.Core.Path.{◌≡◌, refl, ap, ◌∙◌}
use mathlib.Core.Logic.{◌⊎◌, inl, inr}
use mathlib.Core.Bool.{Bool, true, false, cond}
use mathlib.Core.List.Memᴰ
use mathlib.Core.List.{List, [], ◌∷◌, Memᴰ}
use lib.Ieee.{Float}
use Rattle.lists.proofs.Members.{Each, each_rest}
use Rattle.casts.specs.Answer.{Answer}
use Rattle.casts.specs.Reach.{reach_of, Reach, At, Miss, Refused}
use Rattle.casts.proofs.AnswerLists.{HitsAreNumbers}
use Rattle.nearest_hit.specs.Summary.{Kept, nobody, kept, keep_of, Found, found, lower, nearer, Summary, note_of, summary_from}
use Rattle.nearest_hit.proofs.SummaryOrder.{exchanged, summary_order_free}
use Rattle.tree_exact.specs.WalkDemand.{Absorbed}

-- ---- the same one twice
keep_twice : {A : Type 0} (before : A → A → Bool) (k : Kept A) (x : A) → keep_of before (keep_of before k x) x ≡ keep_of before k x
unfolding keep_of
keep_twice before nobody x = go (before x x)
  where
    go : (b : Bool) → cond b (kept x) (kept x) ≡ kept x
    go true = refl
    go false = refl
keep_twice before (kept y) x = go (before x y) refl (before x x)
  where
    go : (b : Bool) → before x y ≡ b → (c : Bool) → keep_of before (cond b (kept x) (kept y)) x ≡ cond b (kept x) (kept y)
    go true e c = own (before x x)
      where
        own : (c : Bool) → cond c (kept x) (kept x) ≡ kept x
        own true = refl
        own false = refl
    go false e c = simp e

note_twice : (s : Summary) (x : ℕ) (r : Reach) → note_of (note_of s x r) x r ≡ note_of s x r
unfolding note_of
note_twice s x Miss = refl
note_twice s x (Refused number) =
    ap (λ (k : Kept (Found ℕ)). record { refuser = k; least = s.least }) (keep_twice lower s.refuser (found x number))
note_twice s x (At d) =
    ap (λ (k : Kept (Found Float)). record { refuser = s.refuser; least = k }) (keep_twice nearer s.least (found x d))

module _ (answer : ℕ → Answer) (numbers : HitsAreNumbers answer) where
  abbrev note : Summary → ℕ → Summary
  note s x = note_of s x (reach_of (answer x))

  either_first : (s : Summary) (x y : ℕ) → note (note s x) y ≡ note (note s y) x
  unfolding summary_from
  either_first s x y = summary_order_free answer numbers (exchanged x y []) s

  pub absorbed_next : (s : Summary) (x y : ℕ) → Absorbed answer s x → Absorbed answer (note s y) x
  absorbed_next s x y h = either_first s y x ∙ ap (λ (s : Summary). note s y) h

  pub absorbed_later : (s : Summary) (l : List ℕ) (x : ℕ) → Absorbed answer s x → Absorbed answer (summary_from answer s l) x
  unfolding summary_from
  absorbed_later s [] x h = h
  absorbed_later s (y ∷ l) x h = absorbed_later (note s y) l x (absorbed_next s x y h)

  -- those that were noted
  pub absorbed_member : (s : Summary) (l : List ℕ) (x : ℕ) → Memᴰ x l → Absorbed answer (summary_from answer s l) x
  unfolding summary_from
  absorbed_member s [] x m = absurd (Memᴰ.not-nil m)
  absorbed_member s (y ∷ l) x m = go (Memᴰ.cases_cons m) (λ n. absorbed_member (note s y) l x n)
    where
      go : (x ≡ y) ⊎ Memᴰ x l → (Memᴰ x l → Absorbed answer (summary_from answer (note s y) l) x)
          → Absorbed answer (summary_from answer (note s y) l) x
      go (inl e) further = absorbed_later (note s y) l x (rw e (note_twice s y (reach_of (answer y))))
      go (inr n) further = further n

  -- one more before all others is one more after them
  note_after : (s : Summary) (l : List ℕ) (x : ℕ) → summary_from answer (note s x) l ≡ note (summary_from answer s l) x
  unfolding summary_from
  note_after s [] x = refl
  note_after s (y ∷ l) x = ap (λ (s : Summary). summary_from answer s l) (either_first s x y) ∙ note_after (note s y) l x

  -- one of those that are still to come
  pub noted_before : (s : Summary) (l : List ℕ) (x : ℕ) → Memᴰ x l → summary_from answer (note s x) l ≡ summary_from answer s l
  noted_before s l x m = note_after s l x ∙ absorbed_member s l x m

  pub all_noted_before : (s : Summary) (xs l : List ℕ) → Each (λ (x : ℕ). Memᴰ x l) xs
      → summary_from answer (summary_from answer s xs) l ≡ summary_from answer s l
  unfolding summary_from
  all_noted_before s [] l each = refl
  all_noted_before s (x ∷ xs) l each =
      all_noted_before (note s x) xs l (each_rest (λ (x : ℕ). Memᴰ x l) x xs each) ∙ noted_before s l x (each x (Memᴰ.head refl))

  -- where nothing changes anything
  pub all_absorbed : (s : Summary) (l : List ℕ) → Each (Absorbed answer s) l → summary_from answer s l ≡ s
  unfolding summary_from
  all_absorbed s [] each = refl
  all_absorbed s (x ∷ l) each =
      ap (λ (s : Summary). summary_from answer s l) (each x (Memᴰ.head refl))
      ∙ all_absorbed s l (each_rest (Absorbed answer s) x l each)
