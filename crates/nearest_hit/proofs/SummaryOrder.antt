-- The summary of a list of triangles does not depend on their order. Assumes that those hit are hit at numbers.
use Prim.Native.Nat.{ℕ}
use mathlib.Core.Path.{◌≡◌, refl, ap, ◌∙◌}
use mathlib.Core.Bool.{false}
use mathlib.Core.List.{List, ◌∷◌}
use lib.Ieee.{Float, is_nan}
use Rattle.casts.specs.Answer.{Answer, hit, none, refused}
use Rattle.casts.specs.Reach.{reach_of}
use Rattle.nearest_hit.specs.Summary.{Kept, Found, found, lower, nearer, Summary, note_of, summary_from}
use Rattle.casts.specs.Reach.{Reach, At, Miss, Refused}
use Rattle.casts.proofs.AnswerLists.{OfHit, IsNumber, HitsAreNumbers}
use Rattle.nearest_hit.proofs.KeptLaws.{keep_commutes, lower_goes, lower_apart, nearer_goes, nearer_apart}
use Rattle.nearest_hit.proofs.NextLaws.{same_reach}

-- the same triangles in another order
pub data Reordered : List ℕ → List ℕ → Type 0 where
  unchanged : {l : List ℕ} → Reordered l l
  exchanged : (x y : ℕ) (l : List ℕ) → Reordered (x ∷ (y ∷ l)) (y ∷ (x ∷ l))
  behind : (x : ℕ) {l m : List ℕ} → Reordered l m → Reordered (x ∷ l) (x ∷ m)
  through : {l m n : List ℕ} → Reordered l m → Reordered m n → Reordered l n

same_refusal : (m n : ℕ) → Refused m ≡ Refused n → m ≡ n
same_refusal m n h = cc

-- what is reached is reached at a number
abbrev AtNumber : Reach → Type 0
AtNumber (At distance) = is_nan distance ≡ false
AtNumber Miss = Unit
AtNumber (Refused number) = Unit

reached_at_number : (a : Answer) → OfHit IsNumber a → AtNumber (reach_of a)
unfolding reach_of
reached_at_number (hit normal distance) h = h normal distance refl
reached_at_number none h = tt
reached_at_number (refused number) h = tt

-- two triangles, in either order; an index has one answer
note_commutes : (s : Summary) (i j : ℕ) (a b : Reach) → AtNumber a → AtNumber b → (i ≡ j → a ≡ b)
    → note_of (note_of s i a) j b ≡ note_of (note_of s j b) i a
unfolding note_of
note_commutes s i j Miss b p q same = refl
note_commutes s i j (Refused m) Miss p q same = refl
note_commutes s i j (Refused m) (Refused n) p q same =
    let number : i ≡ j → m ≡ n = λ h. same_refusal m n (same h) in
    ap (λ (k : Kept (Found ℕ)). record { refuser = k; least = s.least })
    (keep_commutes lower lower_goes (found i m) (found j n) (lower_apart i j m n number) s.refuser)
note_commutes s i j (Refused m) (At e) p q same = refl
note_commutes s i j (At d) Miss p q same = refl
note_commutes s i j (At d) (Refused n) p q same = refl
note_commutes s i j (At d) (At e) p q same =
    let reach : i ≡ j → d ≡ e = λ h. same_reach d e (same h) in
    ap (λ (k : Kept (Found Float)). record { refuser = s.refuser; least = k })
    (keep_commutes nearer nearer_goes (found i d) (found j e) (nearer_apart i j d e p q reach) s.least)

module _ (answer : ℕ → Answer) (numbers : HitsAreNumbers answer) where
  at_number : (i : ℕ) → AtNumber (reach_of (answer i))
  at_number i = reached_at_number (answer i) (numbers i)

  pub summary_order_free : {l m : List ℕ} → Reordered l m → (s : Summary) → summary_from answer s l ≡ summary_from answer s m
  unfolding summary_from
  summary_order_free unchanged s = refl
  summary_order_free (exchanged x y rest) s =
      ap (λ (t : Summary). summary_from answer t rest)
      (note_commutes s x y (reach_of (answer x)) (reach_of (answer y)) (at_number x) (at_number y)
      (λ h. ap (λ (i : ℕ). reach_of (answer i)) h))
  summary_order_free (behind x r) s = summary_order_free r (note_of s x (reach_of (answer x)))
  summary_order_free (through a b) s = summary_order_free a s ∙ summary_order_free b s
