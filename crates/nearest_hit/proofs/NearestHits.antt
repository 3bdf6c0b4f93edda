-- The fold of triangle answers over any list finds the first of the nearest hits, where no distance is NaN. Assumes nothing.
use Prim.Native.Nat.{ℕ}
use mathlib.Core.Path.{◌≡◌, refl, sym, ap, ◌∙◌, subst}
use mathlib.Core.Logic.{◌⊎◌, inl, inr}
use mathlib.Core.Bool.{Bool, true, false, cond}
use mathlib.Core.List.Memᴰ
use mathlib.Core.List.{List, [], ◌∷◌, ◌++◌, Memᴰ}
use lib.Ieee.{Float, lt, le}
use Rattle.arithmetic.proofs.Order.{le_of_not_lt, lt_transitive, lt_of_lt_le}
use Rattle.vectors.specs.declared.vec3.Vec3.{Vec3}
use Rattle.casts.specs.Answer.{Answer, hit, none, refused}
use Rattle.nearest_hit.specs.Nearest.{hit_at, no_hit, next_of, fold_from, nearest_of}
use Rattle.lists.proofs.Members.{Each, each_cons, each_rest}
use Rattle.casts.proofs.AnswerLists.{HitSuch, IsNumber, AtLeast, Farther, none_not_hit, same_distance}
use Rattle.nearest_hit.proofs.IndexedCases.{hit_not_none, hit_not_stopped}
use Rattle.nearest_hit.proofs.NearestRefusals.{fold_stays_stopped}

-- the first of a list's nearest hits
pub record FirstNearest (answer : ℕ → Answer) (l : List ℕ) (normal : Vec3) (distance : Float) (index : ℕ) : Type 0 where
  pub before : List ℕ
  pub after : List ℕ
  pub split : l ≡ before ++ (index ∷ after)
  pub answers : answer index ≡ hit normal distance
  pub earlier : Each (HitSuch (Farther distance) answer) before
  pub later : Each (HitSuch (AtLeast distance) answer) after

module _ (answer : ℕ → Answer) where
  nearest_later : (x : ℕ) (xs : List ℕ) (normal : Vec3) (distance : Float) (index : ℕ) → HitSuch (Farther distance) answer x → FirstNearest
      answer xs normal distance index
      → FirstNearest answer (x ∷ xs) normal distance index
  nearest_later x xs normal distance index far f = record {
    before = x ∷ f.before;
    after = f.after;
    split = ap (λ (l : List ℕ). x ∷ l) f.split;
    answers = f.answers;
    earlier = each_cons (HitSuch (Farther distance) answer) x f.before (λ j e n d h. far n d (ap answer (sym e) ∙ h)) f.earlier;
    later = f.later;
  }

  -- of an answer that is a hit, what its distance is
  pub hit_such : (P : Float → Type 0) (x : ℕ) (n : Vec3) (d : Float) → answer x ≡ hit n d → P d → HitSuch P answer x
  hit_such P x n d e p n' d' f = rw (← (same_distance (answer x) n n' d d' e f)) p

  none_such : (P : Float → Type 0) (x : ℕ) → answer x ≡ none → HitSuch P answer x
  none_such P x e n d f = absurd (none_not_hit (answer x) n d e f)

  module _ (normal : Vec3) (distance : Float) (index : ℕ) where
    -- on top of a hit: that one stays, and nothing in the list is nearer
    record Kept (l : List ℕ) (n : Vec3) (d : Float) (i : ℕ) : Type 0 where
      same : hit_at n d i ≡ hit_at normal distance index
      none_nearer : Each (HitSuch (AtLeast d) answer) l

    -- or the first of the nearest in the list is nearer
    record Replaced (l : List ℕ) (d : Float) : Type 0 where
      nearer : lt distance d ≡ true
      first : FirstNearest answer l normal distance index

    abbrev Rest : List ℕ → Type 0
    Rest l = (n : Vec3) (d : Float) (i : ℕ) → IsNumber d → fold_from answer (hit_at n d i) l ≡ hit_at normal distance index → Kept l n d i ⊎
        Replaced l d

    -- the next one is none
    over_none : (x : ℕ) (xs : List ℕ) (n : Vec3) (d : Float) (i : ℕ) → answer x ≡ none → Kept xs n d i ⊎ Replaced xs d → Kept (x ∷ xs) n d i
        ⊎ Replaced (x ∷ xs) d
    over_none x xs n d i e (inl k) =
        inl record {
          same = k.same;
          none_nearer = each_cons (HitSuch (AtLeast d) answer) x xs (λ j f. none_such (AtLeast d) j (ap answer f ∙ e)) k.none_nearer;
        }
    over_none x xs n d i e (inr k) = inr record {
      nearer = k.nearer;
      first = nearest_later x xs normal distance index (none_such (Farther
          distance) x e) k.first;
    }

    -- the next one is nearer
    here_nearest : (x : ℕ) (xs : List ℕ) (n : Vec3) (d : Float) → answer x ≡ hit n d → Kept xs n d x → FirstNearest answer (x ∷ xs) normal
        distance index
    here_nearest x xs n d e k =
        let same_index : x ≡ index = cc k.same in
        let same_hit : hit n d ≡ hit normal distance = cc k.same in
        let same_reach : d ≡ distance = cc k.same in
        record {
          before = [];
          after = xs;
          split = ap (λ (i : ℕ). i ∷ xs) same_index;
          answers = ap answer (sym same_index) ∙ e ∙ same_hit;
          earlier = λ (j : ℕ) (m : Memᴰ j []). absurd (Memᴰ.not-nil m);
          later = subst (λ (z : Float). Each (HitSuch (AtLeast z) answer) xs) same_reach k.none_nearer;
        }

    over_nearer : (x : ℕ) (xs : List ℕ) (n : Vec3) (d : Float) (d₀ : Float) → answer x ≡ hit n d → lt d d₀ ≡ true → Kept xs n d x ⊎ Replaced
        xs d → Replaced (x ∷ xs) d₀
    over_nearer x xs n d d₀ e g (inl k) =
        let same_reach : d ≡ distance = cc k.same in
        record { nearer = subst (λ (z : Float). lt z d₀ ≡ true) same_reach g; first = here_nearest x xs n d e k }
    over_nearer x xs n d d₀ e g (inr k) = record {
      nearer = lt_transitive distance d d₀ k.nearer g;
      first = nearest_later x xs normal distance index (hit_such (Farther distance) x n d e k.nearer) k.first;
    }

    -- the next one is hit and not nearer
    over_farther : (x : ℕ) (xs : List ℕ) (n' : Vec3) (d' : Float) (n : Vec3) (d : Float) (i : ℕ) → answer x ≡ hit n' d' → le d d' ≡ true →
        Kept xs n d i ⊎ Replaced xs d
        → Kept (x ∷ xs) n d i ⊎ Replaced (x ∷ xs) d
    over_farther x xs n' d' n d i e g (inl k) =
        inl record {
          same = k.same;
          none_nearer = each_cons (HitSuch (AtLeast d) answer) x xs (λ j f. hit_such (AtLeast d) j n' d' (ap answer f ∙ e) g)
              k.none_nearer;
        }
    over_farther x xs n' d' n d i e g (inr k) =
        inr record {
          nearer = k.nearer;
          first = nearest_later x xs normal distance index (hit_such (Farther distance) x n' d' e (lt_of_lt_le distance d d' k.nearer g))
              k.first;
        }

    over_hit : (l : List ℕ) → Each (HitSuch IsNumber answer) l → Rest l
    unfolding fold_from next_of
    over_hit [] numbers n d i p h = inl record { same = h; none_nearer = λ (j : ℕ) (m : Memᴰ j []). absurd (Memᴰ.not-nil m) }
    over_hit (x ∷ xs) numbers n d i p h = go (over_hit xs (each_rest (HitSuch IsNumber answer) x xs numbers)) (answer x) refl
      where
        next : (a : Answer) → answer x ≡ a → fold_from answer (next_of (hit_at n d i) x a) xs ≡ hit_at normal distance index
        next a e = ap (λ (a : Answer). fold_from answer (next_of (hit_at n d i) x a) xs) (sym e) ∙ h

        either : Rest xs → (n' : Vec3) (d' : Float) → answer x ≡ hit n' d' → (b : Bool) → lt d' d ≡ b → Kept (x ∷ xs) n d i ⊎ Replaced
            (x ∷ xs) d
        either rest n' d' e true g =
            let f : fold_from answer (hit_at n' d' x) xs ≡ hit_at normal distance index =
            ap (λ (b : Bool). fold_from answer (cond b (hit_at n' d' x) (hit_at n d i)) xs) (sym g) ∙ next (hit n' d') e in
            inr (over_nearer x xs n' d' d e g (rest n' d' x (numbers x (Memᴰ.head refl) n' d' e) f))
        either rest n' d' e false g =
            let f : fold_from answer (hit_at n d i) xs ≡ hit_at normal distance index =
            ap (λ (b : Bool). fold_from answer (cond b (hit_at n' d' x) (hit_at n d i)) xs) (sym g) ∙ next (hit n' d') e in
            over_farther x xs n' d' n d i e (le_of_not_lt d d' p (numbers x (Memᴰ.head refl) n' d' e) g) (rest n d i p f)

        go : Rest xs → (a : Answer) → answer x ≡ a → Kept (x ∷ xs) n d i ⊎ Replaced (x ∷ xs) d
        go rest (hit n' d') e = either rest n' d' e (lt d' d) refl
        go rest none e = over_none x xs n d i e (rest n d i p (next none e))
        go rest (refused k) e = absurd (hit_not_stopped normal distance index k (sym (next (refused k) e) ∙ fold_stays_stopped answer k xs))

    pub hit_of_first_nearest : (l : List ℕ) → Each (HitSuch IsNumber answer) l → nearest_of answer l ≡ hit_at normal distance index →
        FirstNearest answer l normal distance index
    unfolding fold_from next_of
    hit_of_first_nearest [] numbers h = absurd (hit_not_none normal distance index (sym h))
    hit_of_first_nearest (x ∷ xs) numbers h = go (hit_of_first_nearest xs (each_rest (HitSuch IsNumber answer) x xs numbers)) (answer x)
        refl
      where
        next : (a : Answer) → answer x ≡ a → fold_from answer (next_of no_hit x a) xs ≡ hit_at normal distance index
        next a e = ap (λ (a : Answer). fold_from answer (next_of no_hit x a) xs) (sym e) ∙ h

        among : (n : Vec3) (d : Float) → answer x ≡ hit n d → Kept xs n d x ⊎ Replaced xs d → FirstNearest answer (x ∷ xs) normal distance
            index
        among n d e (inl k) = here_nearest x xs n d e k
        among n d e (inr k) = nearest_later x xs normal distance index (hit_such (Farther distance) x n d e k.nearer) k.first

        go : (nearest_of answer xs ≡ hit_at normal distance index → FirstNearest answer xs normal distance index) → (a : Answer) → answer x
            ≡
            a
            → FirstNearest answer (x ∷ xs) normal distance index
        go rest (hit n d) e =
            among n d e (over_hit xs (each_rest (HitSuch IsNumber answer) x xs numbers) n d x (numbers x (Memᴰ.head refl) n d e) (next
            (hit n d) e))
        go rest none e = nearest_later x xs normal distance index (none_such (Farther distance) x e) (rest (next none e))
        go rest (refused k) e = absurd (hit_not_stopped normal distance index k (sym (next (refused k) e) ∙ fold_stays_stopped answer k xs))
