-- The fold of triangle answers over any list stops exactly where one refuses, with the first one's number, and finds none exactly where all
-- answer none. Assumes nothing.
use Prim.Native.Nat.{ℕ}
use mathlib.Core.Path.{◌≡◌, refl, sym, ap, ◌∙◌}
use mathlib.Core.Logic.{⊎_elim}
use mathlib.Core.Bool.{Bool, true, false, cond}
use mathlib.Core.List.Memᴰ
use mathlib.Core.List.{List, [], ◌∷◌, ◌++◌, Memᴰ}
use lib.Ieee.{Float, lt}
use Rattle.vectors.specs.declared.vec3.Vec3.{Vec3}
use Rattle.casts.specs.Answer.{Answer, hit, none, refused}
use Rattle.nearest_hit.specs.Nearest.{Indexed, hit_at, no_hit, stopped, next_of, fold_from, nearest_of}
use Rattle.lists.proofs.Members.{Each, each_cons, each_rest}
use Rattle.casts.proofs.AnswerLists.{AnswersNone, NotRefused, none_not_refused}
use Rattle.nearest_hit.proofs.IndexedCases.{stopped_not_none, hit_not_none, hit_not_stopped}
use Rattle.casts.proofs.AnswerLists.{hit_not_refused}
use Rattle.nearest_hit.proofs.IndexedCases.{same_number}

-- the first of a list that refuses
pub record FirstRefusal (answer : ℕ → Answer) (l : List ℕ) (number : ℕ) : Type 0 where
  pub before : List ℕ
  pub index : ℕ
  pub after : List ℕ
  pub split : l ≡ before ++ (index ∷ after)
  pub refuses : answer index ≡ refused number
  pub earlier : Each (NotRefused answer) before

-- ---- refusals
abbrev pub Going : Indexed → Type 0
Going best = (number : ℕ) → best ≡ stopped number → ⊥

module _ (answer : ℕ → Answer) where
  pub fold_stays_stopped : (number : ℕ) (l : List ℕ) → fold_from answer (stopped number) l ≡ stopped number
  unfolding fold_from next_of
  fold_stays_stopped number [] = refl
  fold_stays_stopped number (x ∷ xs) = fold_stays_stopped number xs

  next_stops : (best : Indexed) (x number : ℕ) → (k : ℕ) × (next_of best x (refused number) ≡ stopped k)
  unfolding next_of
  next_stops (stopped k) x number = (k, refl)
  next_stops no_hit x number = (number, refl)
  next_stops (hit_at n d i) x number = (number, refl)

  next_stops_with : (best : Indexed) (x number : ℕ) → Going best → next_of best x (refused number) ≡ stopped number
  unfolding next_of
  next_stops_with (stopped k) x number going = absurd (going k refl)
  next_stops_with no_hit x number going = refl
  next_stops_with (hit_at n d i) x number going = refl

  next_goes : (best : Indexed) (x : ℕ) (a : Answer) → Going best → ((number : ℕ) → a ≡ refused number → ⊥) → Going (next_of best x a)
  unfolding next_of
  next_goes (stopped k) x a going fine = absurd (going k refl)
  next_goes no_hit x (hit n d) going fine = λ (number : ℕ). hit_not_stopped n d x number
  next_goes no_hit x none going fine = going
  next_goes no_hit x (refused k) going fine = absurd (fine k refl)
  next_goes (hit_at n d i) x (hit n' d') going fine = either (lt d' d)
    where
      either : (b : Bool) → Going (cond b (hit_at n' d' x) (hit_at n d i))
      either true = λ (number : ℕ). hit_not_stopped n' d' x number
      either false = going
  next_goes (hit_at n d i) x none going fine = going
  next_goes (hit_at n d i) x (refused k) going fine = absurd (fine k refl)

  pub refusal_stops : (best : Indexed) (l : List ℕ) (i number : ℕ) → Memᴰ i l → answer i ≡ refused number → (k : ℕ) ×
      (fold_from answer best l ≡ stopped k)
  unfolding fold_from
  refusal_stops best [] i number m h = absurd (Memᴰ.not-nil m)
  refusal_stops best (x ∷ xs) i number m h =
      ⊎_elim
      (λ (e : i ≡ x).
      let s = next_stops best x number in
      let f : next_of best x (answer x) ≡ stopped s.0 = ap (next_of best x) (ap answer (sym e) ∙ h) ∙ s.1 in
      (s.0, ap (λ (b : Indexed). fold_from answer b xs) f ∙ fold_stays_stopped s.0 xs))
      (λ (n : Memᴰ i xs). refusal_stops (next_of best x (answer x)) xs i number n h)
      (Memᴰ.cases_cons m)

  refusal_later : (x : ℕ) (xs : List ℕ) (number : ℕ) → NotRefused answer x → FirstRefusal answer xs number → FirstRefusal answer (x ∷ xs)
      number
  refusal_later x xs number fine f = record {
    before = x ∷ f.before;
    index = f.index;
    after = f.after;
    split = ap (λ (l : List ℕ). x ∷ l) f.split;
    refuses = f.refuses;
    earlier = each_cons (NotRefused answer) x f.before (λ j e k h. fine k (ap answer (sym e) ∙ h)) f.earlier;
  }

  pub stopped_by_first_refusal : (best : Indexed) (l : List ℕ) (number : ℕ) → Going best → fold_from answer best l ≡ stopped number →
      FirstRefusal answer l number
  unfolding fold_from
  stopped_by_first_refusal best [] number going h = absurd (going number h)
  stopped_by_first_refusal best (x ∷ xs) number going h =
      go (λ (g : Going (next_of best x (answer x))). stopped_by_first_refusal (next_of best x (answer x)) xs number g h) (answer x) refl
    where
      goes : (Going (next_of best x (answer x)) → FirstRefusal answer xs number) → NotRefused answer x → FirstRefusal answer (x ∷ xs) number
      goes rest fine = refusal_later x xs number fine (rest (next_goes best x (answer x) going fine))

      go : (Going (next_of best x (answer x)) → FirstRefusal answer xs number) → (a : Answer) → answer x ≡ a → FirstRefusal answer (x ∷ xs)
          number
      go rest (hit n d) e = goes rest (λ (k : ℕ). hit_not_refused (answer x) n d k e)
      go rest none e = goes rest (λ (k : ℕ). none_not_refused (answer x) k e)
      go rest (refused k) e =
          let f : next_of best x (answer x) ≡ stopped k = ap (next_of best x) e ∙ next_stops_with best x k going in
          let g : stopped k ≡ stopped number = sym (fold_stays_stopped k xs) ∙ ap (λ (b : Indexed). fold_from answer b xs) (sym f) ∙ h in
          record {
            before = [];
            index = x;
            after = xs;
            split = refl;
            refuses = e ∙ ap refused (same_number k number g);
            earlier = λ (j : ℕ) (m : Memᴰ j []). absurd (Memᴰ.not-nil m);
          }

  -- ---- none
  pub none_of_nones : (l : List ℕ) → Each (AnswersNone answer) l → nearest_of answer l ≡ no_hit
  unfolding fold_from next_of
  none_of_nones [] h = refl
  none_of_nones (x ∷ xs) h =
      ap (λ (a : Answer). fold_from answer (next_of no_hit x a) xs) (h x (Memᴰ.head refl)) ∙ none_of_nones xs
      (each_rest (AnswersNone answer) x xs h)

  fold_keeps_hit : (n : Vec3) (d : Float) (i : ℕ) (l : List ℕ) → fold_from answer (hit_at n d i) l ≡ no_hit → ⊥
  unfolding fold_from next_of
  fold_keeps_hit n d i [] h = hit_not_none n d i h
  fold_keeps_hit n d i (x ∷ xs) h = go (λ n' d' i'. fold_keeps_hit n' d' i' xs) (answer x) h
    where
      go : ((n' : Vec3) (d' : Float) (i' : ℕ) → fold_from answer (hit_at n' d' i') xs ≡ no_hit → ⊥) → (a : Answer) → fold_from answer
          (next_of (hit_at n d i) x a) xs ≡ no_hit → ⊥
      go rest (hit n' d') f = either (lt d' d) f
        where
          either : (b : Bool) → fold_from answer (cond b (hit_at n' d' x) (hit_at n d i)) xs ≡ no_hit → ⊥
          either true = rest n' d' x
          either false = rest n d i
      go rest none f = rest n d i f
      go rest (refused k) f = stopped_not_none k (sym (fold_stays_stopped k xs) ∙ f)

  pub nones_of_none : (l : List ℕ) → nearest_of answer l ≡ no_hit → Each (AnswersNone answer) l
  unfolding fold_from next_of
  nones_of_none [] h = λ (j : ℕ) (m : Memᴰ j []). absurd (Memᴰ.not-nil m)
  nones_of_none (x ∷ xs) h = go (nones_of_none xs) (answer x) refl
    where
      go : (nearest_of answer xs ≡ no_hit → Each (AnswersNone answer) xs) → (a : Answer) → answer x ≡ a → Each (AnswersNone answer) (x ∷ xs)
      go rest (hit n d) e = absurd (fold_keeps_hit n d x xs (ap (λ (a : Answer). fold_from answer (next_of no_hit x a) xs) (sym e) ∙ h))
      go rest none e =
          each_cons (AnswersNone answer) x xs (λ j f. ap answer f ∙ e)
          (rest (ap (λ (a : Answer). fold_from answer (next_of no_hit x a) xs) (sym e) ∙ h))
      go rest (refused k) e =
          absurd (stopped_not_none k (sym (fold_stays_stopped k xs) ∙ ap (λ (a : Answer). fold_from answer (next_of no_hit x a) xs) (sym e)
          ∙
          h))
