-- The fold over two lists joined is the two folds glued, where the second one's distances are numbers. Assumes nothing.
use Prim.Native.Nat.{ℕ, ◌+◌}
use mathlib.Core.Path.{◌≡◌, refl, sym, ap, ◌∙◌}
use mathlib.Core.Bool.{Bool, true, false, cond, true≢false}
use mathlib.Core.List.Memᴰ
use mathlib.Core.List.{List, [], ◌∷◌, ◌++◌}
use lib.Ieee.{Float, lt, is_nan}
use Rattle.arithmetic.proofs.Order.{le_of_lt, le_right_number, le_of_not_lt, lt_of_lt_le, lt_transitive}
use Rattle.vectors.specs.declared.vec3.Vec3.{Vec3}
use Rattle.casts.specs.Answer.{Answer, hit, none, refused}
use Rattle.nearest_hit.specs.Nearest.{Indexed, hit_at, no_hit, stopped, next_of, fold_from, nearest_of}
use Rattle.lists.proofs.Members.{Each, each_rest}
use Rattle.casts.proofs.AnswerLists.{HitSuch, IsNumber}
use Rattle.nearest_hit.proofs.IndexedCases.{hit_not_none, hit_not_stopped}
use Rattle.tree_copy.specs.Moved.{moved_up}
use Rattle.merge.specs.Glue.{glue}

-- ---- folds
fold_append : (answer : ℕ → Answer) (best : Indexed) (l m : List ℕ)
    → fold_from answer best (l ++ m) ≡ fold_from answer (fold_from answer best l) m
unfolding fold_from
fold_append answer best [] m = refl
fold_append answer best (x ∷ l) m = fold_append answer (next_of best x (answer x)) l m

fold_alike : (p q : ℕ → Answer) (best : Indexed) (l : List ℕ) → Each (λ (x : ℕ). p x ≡ q x) l → fold_from p best l ≡ fold_from q best l
unfolding fold_from
fold_alike p q best [] h = refl
fold_alike p q best (x ∷ l) h =
    ap (λ (a : Answer). fold_from p (next_of best x a) l) (h x (Memᴰ.head refl))
    ∙ fold_alike p q (next_of best x (q x)) l (each_rest (λ (x : ℕ). p x ≡ q x) x l h)

-- ---- distances
-- what is nearer than a first hit, where the second hit is not, is nearer than the second
not_nearer : (d e f : Float) → is_nan e ≡ false → lt e d ≡ false → lt f e ≡ false → lt f d ≡ false
not_nearer d e f number h k = go (lt f d) refl
  where
    go : (b : Bool) → lt f d ≡ b → lt f d ≡ false
    go false g = g
    go true g =
        let at_most = le_of_not_lt d e (le_right_number f d (le_of_lt f d g)) number h in
        absurd (true≢false (sym (lt_of_lt_le f d e g at_most) ∙ k))

-- a hit so far has a number
abbrev Numbered : Indexed → Type 0
Numbered best = (v : Vec3) (d : Float) (i : ℕ) → best ≡ hit_at v d i → is_nan d ≡ false

same_reach : (v w : Vec3) (d e : Float) (i j : ℕ) → hit_at v d i ≡ hit_at w e j → d ≡ e
same_reach v w d e i j h = cc

numbered_hit : (v : Vec3) (d : Float) (i : ℕ) → is_nan d ≡ false → Numbered (hit_at v d i)
numbered_hit v d i h w e j same = ap is_nan (sym (same_reach v w d e i j same)) ∙ h

none_numbered : Numbered no_hit
none_numbered v d i h = absurd (hit_not_none v d i (sym h))

stopped_numbered : (k : ℕ) → Numbered (stopped k)
stopped_numbered k v d i h = absurd (hit_not_stopped v d i k (sym h))

next_numbered : (best : Indexed) (x : ℕ) (a : Answer) → Numbered best → ((n : Vec3) (d : Float) → a ≡ hit n d → is_nan d ≡ false)
    → Numbered (next_of best x a)
unfolding next_of
next_numbered (stopped k) x a h g = h
next_numbered no_hit x (hit n d) h g = numbered_hit n d x (g n d refl)
next_numbered no_hit x none h g = h
next_numbered no_hit x (refused k) h g = stopped_numbered k
next_numbered (hit_at v e i) x (hit n d) h g = go (lt d e)
  where
    go : (b : Bool) → Numbered (cond b (hit_at n d x) (hit_at v e i))
    go true = numbered_hit n d x (g n d refl)
    go false = h
next_numbered (hit_at v e i) x none h g = h
next_numbered (hit_at v e i) x (refused k) h g = stopped_numbered k

-- ---- one more triangle of the second board
module _ (n : ℕ) where
  -- a hit on the first, a hit so far on the second, and one more hit there
  three_hits : (v w u : Vec3) (d e f : Float) (i j x : ℕ) → is_nan e ≡ false
      → next_of (glue n (hit_at v d i) (hit_at w e j)) (x + n) (hit u f) ≡ glue n (hit_at v d i) (next_of (hit_at w e j) x (hit u f))
  unfolding glue next_of
  three_hits v w u d e f i j x number = go (lt e d) refl (lt f e) refl
    where
      go : (p : Bool) → lt e d ≡ p → (q : Bool) → lt f e ≡ q
          → next_of (cond (lt e d) (hit_at w e (j + n)) (hit_at v d i)) (x + n) (hit u f)
          ≡ glue n (hit_at v d i) (cond (lt f e) (hit_at u f x) (hit_at w e j))
      go true g true h = simp (g, h, lt_transitive f e d h g)
      go true g false h = simp (g, h)
      go false g true h = simp (g, h)
      go false g false h = simp (g, h, not_nearer d e f number g h)

  next_glued : (best other : Indexed) (x : ℕ) (a : Answer) → Numbered other
      → next_of (glue n best other) (x + n) a ≡ glue n best (next_of other x a)
  unfolding glue next_of
  next_glued (stopped k) other x a h = refl
  next_glued no_hit (stopped k) x a h = refl
  next_glued no_hit no_hit x (hit u f) h = refl
  next_glued no_hit no_hit x none h = refl
  next_glued no_hit no_hit x (refused k) h = refl
  next_glued no_hit (hit_at w e j) x (hit u f) h = go (lt f e)
    where
      go : (p : Bool) → cond p (hit_at u f (x + n)) (hit_at w e (j + n)) ≡ glue n no_hit (cond p (hit_at u f x) (hit_at w e j))
      go true = refl
      go false = refl
  next_glued no_hit (hit_at w e j) x none h = refl
  next_glued no_hit (hit_at w e j) x (refused k) h = refl
  next_glued (hit_at v d i) (stopped k) x a h = refl
  next_glued (hit_at v d i) no_hit x (hit u f) h = refl
  next_glued (hit_at v d i) no_hit x none h = refl
  next_glued (hit_at v d i) no_hit x (refused k) h = refl
  next_glued (hit_at v d i) (hit_at w e j) x (hit u f) h = three_hits v w u d e f i j x (h w e j refl)
  next_glued (hit_at v d i) (hit_at w e j) x none h = go (lt e d)
    where
      go : (p : Bool) → next_of (cond p (hit_at w e (j + n)) (hit_at v d i)) (x + n) none ≡ cond p (hit_at w e (j + n)) (hit_at v d i)
      go true = refl
      go false = refl
  next_glued (hit_at v d i) (hit_at w e j) x (refused k) h = go (lt e d)
    where
      go : (p : Bool) → next_of (cond p (hit_at w e (j + n)) (hit_at v d i)) (x + n) (refused k) ≡ stopped k
      go true = refl
      go false = refl

  glue_none : (best : Indexed) → best ≡ glue n best no_hit
  unfolding glue
  glue_none (stopped k) = refl
  glue_none no_hit = refl
  glue_none (hit_at v d i) = refl

  -- ---- all of them
  fold_glued : (p q : ℕ → Answer) (best other : Indexed) (l : List ℕ) → Each (λ (x : ℕ). p (x + n) ≡ q x) l → Each (HitSuch IsNumber q) l
      → Numbered other
      → fold_from p (glue n best other) (moved_up n l) ≡ glue n best (fold_from q other l)
  unfolding fold_from moved_up
  fold_glued p q best other [] same numbers h = refl
  fold_glued p q best other (x ∷ l) same numbers h =
      ap (λ (a : Answer). fold_from p (next_of (glue n best other) (x + n) a) (moved_up n l)) (same x (Memᴰ.head refl))
      ∙ ap (λ (b : Indexed). fold_from p b (moved_up n l)) (next_glued best other x (q x) h)
      ∙ fold_glued p q best (next_of other x (q x)) l (each_rest (λ (x : ℕ). p (x + n) ≡ q x) x l same)
      (each_rest (HitSuch IsNumber q) x l numbers)
      (next_numbered other x (q x) h (numbers x (Memᴰ.head refl)))

  pub nearest_glued : (p q₁ q₂ : ℕ → Answer) (l₁ l₂ : List ℕ) → Each (λ (x : ℕ). p x ≡ q₁ x) l₁ → Each (λ (x : ℕ). p (x + n) ≡ q₂ x) l₂
      → Each (HitSuch IsNumber q₂) l₂
      → nearest_of p (l₁ ++ moved_up n l₂) ≡ glue n (nearest_of q₁ l₁) (nearest_of q₂ l₂)
  nearest_glued p q₁ q₂ l₁ l₂ same₁ same₂ numbers =
      fold_append p no_hit l₁ (moved_up n l₂)
      ∙ ap (λ (b : Indexed). fold_from p b (moved_up n l₂)) (fold_alike p q₁ no_hit l₁ same₁ ∙ glue_none (nearest_of q₁ l₁))
      ∙ fold_glued p q₂ (nearest_of q₁ l₁) no_hit l₂ same₂ numbers none_numbered
