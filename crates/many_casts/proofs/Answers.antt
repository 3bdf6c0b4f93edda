-- What is read at a ray's places is what the single call leaves there, and past the last ray's places nothing changes. Assumes nothing.
use Prim.Native.Nat.{ℕ, zero, suc, ◌+◌, ◌*◌, ◌<◌, ◌≤◌}
use native.Mathlib.Omega.{arith}
use native.Mathlib.Numerals.{add-one, add-two, add-three}
use mathlib.Core.Path.{◌≡◌, refl, sym, ap, ◌∙◌, subst}
use mathlib.Core.Bool.{true, ◌&&◌}
use mathlib.Core.Logic.{◌⊎◌, inl, inr, ⊎_elim}
use mathlib.Core.List.{List, [], ◌∷◌}
use lib.Dec.{leb}
use lib.Ieee.{Float, nan}
use lib.ListN.{length, get_or, set, length-set}
use lib.Seq.{sets, length-sets, get_or-set_same, get_or-set_other}
use borrow.Author.Tests.{leb-true}
use Rattle.lists.proofs.JoinedTests.{and_first, and_second}
use Rattle.lists.proofs.CountLaws.{same_or_other}
use Rattle.geometry.specs.declared.ray.Ray.{Ray}
use Rattle.nearest_hit.specs.Nearest.{Indexed, hit_at, no_hit, stopped}
use Rattle.tree.specs.Layout.{number_at, word_at}
use Rattle.results.specs.Results.{ReturnedIndexed, returned_indexed, hit_code, none_code}
use Rattle.many_casts.specs.Many.{ray_at, ray_count, Places, places_fit, answer_at, answers_of, hit_of, read_at}
use Rattle.many_casts.specs.Many.{EachAsSingle}

-- ---- the next ray's answer, after those before it

pub answers_next : (answer : Ray → Indexed) (rays : List Float) (i : ℕ) (before p p' : Places) → p ≡ answers_of answer rays i before
    → p' ≡ answer_at (answer (ray_at rays i)) i p → p' ≡ answers_of answer rays (i + 1) before
unfolding answers_of
answers_next answer rays i before p p' e g =
    g ∙ ap (answer_at (answer (ray_at rays i)) i) e ∙ ap (λ (k : ℕ). answers_of answer rays k before) (sym (add-one i))

pub answers_all : (answer : Ray → Indexed) (rays : List Float) (i n : ℕ) (before p : Places) → p ≡ answers_of answer rays i before → i ≡ n
    → p ≡ answers_of answer rays n before
answers_all answer rays i n before p e f = e ∙ ap (λ (k : ℕ). answers_of answer rays k before) f

-- ---- four numbers from a place on

module _ (l : List Float) (at : ℕ) (x y z d : Float) where
  abbrev l₁ : List Float
  l₁ = set l at x

  abbrev l₂ : List Float
  l₂ = set l₁ (suc at) y

  abbrev l₃ : List Float
  l₃ = set l₂ (suc (suc at)) z

  abbrev four : List Float
  four = sets l at (x ∷ y ∷ z ∷ d ∷ [])

  long₁ : length l₁ ≡ length l
  long₁ = length-set l at x

  long₂ : length l₂ ≡ length l
  long₂ = length-set l₁ (suc at) y ∙ long₁

  long₃ : length l₃ ≡ length l
  long₃ = length-set l₂ (suc (suc at)) z ∙ long₂

  four_else : (k : ℕ) → (k ≡ at → ⊥) → (k ≡ suc at → ⊥) → (k ≡ suc (suc at) → ⊥) → (k ≡ suc (suc (suc at)) → ⊥)
      → get_or four k nan ≡ get_or l k nan
  four_else k a b c e =
      get_or-set_other l₃ (suc (suc (suc at))) k d nan e ∙ get_or-set_other l₂ (suc (suc at)) k z nan c
      ∙ get_or-set_other l₁ (suc at) k y nan b
      ∙ get_or-set_other l at k x nan a

  four_first : at + 4 ≤ length l → get_or four at nan ≡ x
  four_first h =
      get_or-set_other l₃ (suc (suc (suc at))) at d nan (λ e. omega (arith, e))
      ∙ get_or-set_other l₂ (suc (suc at)) at z nan (λ e. omega (arith, e))
      ∙ get_or-set_other l₁ (suc at) at y nan (λ e. omega (arith, e))
      ∙ get_or-set_same l at x nan (omega (arith, h))

  four_second : at + 4 ≤ length l → get_or four (suc at) nan ≡ y
  four_second h =
      get_or-set_other l₃ (suc (suc (suc at))) (suc at) d nan (λ e. omega (arith, e))
      ∙ get_or-set_other l₂ (suc (suc at)) (suc at) z nan (λ e. omega (arith, e))
      ∙ get_or-set_same l₁ (suc at) y nan (omega (arith, h, long₁))

  four_third : at + 4 ≤ length l → get_or four (suc (suc at)) nan ≡ z
  four_third h =
      get_or-set_other l₃ (suc (suc (suc at))) (suc (suc at)) d nan (λ e. omega (arith, e))
      ∙ get_or-set_same l₂ (suc (suc at)) z nan (omega (arith, h, long₂))

  four_last : at + 4 ≤ length l → get_or four (suc (suc (suc at))) nan ≡ d
  four_last h = get_or-set_same l₃ (suc (suc (suc at))) d nan (omega (arith, h, long₃))

-- four numbers by their places
fours : {a b c d a' b' c' d' : Float} → a ≡ a' → b ≡ b' → c ≡ c' → d ≡ d'
    → ◌≡◌ {A = List Float} (a ∷ b ∷ c ∷ d ∷ []) (a' ∷ b' ∷ c' ∷ d' ∷ [])
fours e f g h = cc

-- ---- one answer at its places

-- the places of a ray at k
pub record Inside (k : ℕ) (p : Places) : Type 0 where
  pub code : k < length p.codes
  pub hit : 4 * k + 4 ≤ length p.hits
  pub index : k < length p.indices

abbrev made : ℕ → List Float → List ℕ → ReturnedIndexed
made number hit index = record { number = number; hit = hit; index = index }

read_as : (p : Places) (i number : ℕ) (hit : List Float) (index : ℕ) → word_at p.codes i ≡ number → hit_of p.hits i ≡ hit
    → word_at p.indices i ≡ index → read_at p i ≡ made number hit (index ∷ [])
unfolding read_at
read_as p i number hit index e f g =
    ap (λ (n : ℕ). made n (hit_of p.hits i) (word_at p.indices i ∷ [])) e
    ∙ ap (λ (h : List Float). made number h (word_at p.indices i ∷ [])) f
    ∙ ap (λ (k : ℕ). made number hit (k ∷ [])) g

read_same : (a : Indexed) (k : ℕ) (p : Places) → Inside k p → read_at (answer_at a k p) k ≡ returned_indexed a (hit_of p.hits k)
    (word_at p.indices k ∷ [])
unfolding answer_at returned_indexed
read_same (hit_at n d j) k p h =
    let at : ℕ → Float = λ (q : ℕ). get_or (four p.hits (4 * k) n.x n.y n.z d) q nan in
    read_as (answer_at (hit_at n d j) k p) k hit_code (n.x ∷ n.y ∷ n.z ∷ d ∷ []) j (get_or-set_same p.codes k hit_code 0 h.code)
    (fours (four_first p.hits (4 * k) n.x n.y n.z d h.hit)
    (ap at (add-one (4 * k)) ∙ four_second p.hits (4 * k) n.x n.y n.z d h.hit)
    (ap at (add-two (4 * k)) ∙ four_third p.hits (4 * k) n.x n.y n.z d h.hit)
    (ap at (add-three (4 * k)) ∙ four_last p.hits (4 * k) n.x n.y n.z d h.hit))
    (get_or-set_same p.indices k j 0 h.index)
read_same no_hit k p h =
    read_as (answer_at no_hit k p) k none_code (hit_of p.hits k) (word_at p.indices k)
    (get_or-set_same p.codes k none_code 0 h.code) refl refl
read_same (stopped number) k p h =
    read_as (answer_at (stopped number) k p) k number (hit_of p.hits k) (word_at p.indices k)
    (get_or-set_same p.codes k number 0 h.code) refl refl

-- what other places hold
code_else : (a : Indexed) (k : ℕ) (p : Places) (i : ℕ) → (i ≡ k → ⊥) → word_at (answer_at a k p).codes i ≡ word_at p.codes i
unfolding answer_at
code_else (hit_at n d j) k p i h = get_or-set_other p.codes k i hit_code 0 h
code_else no_hit k p i h = get_or-set_other p.codes k i none_code 0 h
code_else (stopped number) k p i h = get_or-set_other p.codes k i number 0 h

index_else : (a : Indexed) (k : ℕ) (p : Places) (i : ℕ) → (i ≡ k → ⊥) → word_at (answer_at a k p).indices i ≡ word_at p.indices i
unfolding answer_at
index_else (hit_at n d j) k p i h = get_or-set_other p.indices k i j 0 h
index_else no_hit k p i h = refl
index_else (stopped number) k p i h = refl

hit_else : (a : Indexed) (k : ℕ) (p : Places) (i : ℕ) → (i < 4 * k) ⊎ (4 * k + 4 ≤ i) → number_at (answer_at a k p).hits i ≡ number_at
    p.hits i
unfolding answer_at
hit_else (hit_at n d j) k p i (inl h) =
    four_else p.hits (4 * k) n.x n.y n.z d i (λ e. omega (arith, e, h)) (λ e. omega (arith, e, h)) (λ e. omega (arith, e, h))
    (λ e. omega (arith, e, h))
hit_else (hit_at n d j) k p i (inr h) =
    four_else p.hits (4 * k) n.x n.y n.z d i (λ e. omega (arith, e, h)) (λ e. omega (arith, e, h)) (λ e. omega (arith, e, h))
    (λ e. omega (arith, e, h))
hit_else no_hit k p i h = refl
hit_else (stopped number) k p i h = refl

read_else : (a : Indexed) (k : ℕ) (p : Places) (i : ℕ) → i < k → read_at (answer_at a k p) i ≡ read_at p i
unfolding read_at
read_else a k p i h =
    read_as (answer_at a k p) i (word_at p.codes i) (hit_of p.hits i) (word_at p.indices i)
    (code_else a k p i (λ e. omega (arith, e, h)))
    (fours (hit_else a k p (4 * i) (inl (omega (arith, h)))) (hit_else a k p (4 * i + 1) (inl (omega (arith, h))))
    (hit_else a k p (4 * i + 2) (inl (omega (arith, h)))) (hit_else a k p (4 * i + 3) (inl (omega (arith, h)))))
    (index_else a k p i (λ e. omega (arith, e, h)))

-- the slices keep their lengths
inside_kept : (a : Indexed) (k : ℕ) (p : Places) (i : ℕ) → Inside i p → Inside i (answer_at a k p)
unfolding answer_at
inside_kept (hit_at n d j) k p i h = record {
  code = subst (λ (q : ℕ). i < q) (sym (length-set p.codes k hit_code)) h.code;
  hit = subst (λ (q : ℕ). 4 * i + 4 ≤ q) (sym (length-sets p.hits (4 * k) (n.x ∷ n.y ∷ n.z ∷ d ∷ []))) h.hit;
  index = subst (λ (q : ℕ). i < q) (sym (length-set p.indices k j)) h.index;
}
inside_kept no_hit k p i h = record {
  code = subst (λ (q : ℕ). i < q) (sym (length-set p.codes k none_code)) h.code;
  hit = h.hit;
  index = h.index;
}
inside_kept (stopped number) k p i h = record {
  code = subst (λ (q : ℕ). i < q) (sym (length-set p.codes k number)) h.code;
  hit = h.hit;
  index = h.index;
}

-- ---- all of them

-- result slices that are long enough
pub fits_inside : (n codes hits indices : ℕ) → (leb n codes && (leb (4 * n) hits && leb n indices)) ≡ true
    → (n ≤ codes) × ((4 * n ≤ hits) × (n ≤ indices))
fits_inside n codes hits indices fit =
    let rest = and_second (leb n codes) (leb (4 * n) hits && leb n indices) fit in (
      leb-true n codes (and_first (leb n codes) (leb (4 * n) hits && leb n indices) fit),
      (
        leb-true (4 * n) hits (and_first (leb (4 * n) hits) (leb n indices) rest),
        leb-true n indices (and_second (leb (4 * n) hits) (leb n indices) rest),
      ),
    )

lower : (n i : ℕ) → i < suc n → (i ≡ n → ⊥) → i < n
lower n i h other = omega (arith, h, other)

module _ (answer : Ray → Indexed) (rays : List Float) (p : Places) where
  abbrev after : ℕ → Places
  after n = answers_of answer rays n p

  abbrev one : ℕ → Indexed
  one i = answer (ray_at rays i)

  insides : (n i : ℕ) → Inside i p → Inside i (after n)
  unfolding answers_of
  insides zero i h = h
  insides (suc n) i h = inside_kept (one n) n (after n) i (insides n i h)

  codes_past : (n k : ℕ) → n ≤ k → word_at (after n).codes k ≡ word_at p.codes k
  unfolding answers_of
  codes_past zero k h = refl
  codes_past (suc n) k h = code_else (one n) n (after n) k (λ e. omega (arith, e, h)) ∙ codes_past n k (omega (arith, h))

  hits_past : (n k : ℕ) → 4 * n ≤ k → number_at (after n).hits k ≡ number_at p.hits k
  unfolding answers_of
  hits_past zero k h = refl
  hits_past (suc n) k h = hit_else (one n) n (after n) k (inr (omega (arith, h))) ∙ hits_past n k (omega (arith, h))

  indices_past : (n k : ℕ) → n ≤ k → word_at (after n).indices k ≡ word_at p.indices k
  unfolding answers_of
  indices_past zero k h = refl
  indices_past (suc n) k h = index_else (one n) n (after n) k (λ e. omega (arith, e, h)) ∙ indices_past n k (omega (arith, h))

  abbrev single : ℕ → ReturnedIndexed
  single i = returned_indexed (one i) (hit_of p.hits i) (word_at p.indices i ∷ [])

  -- the last ray's places
  last : (n : ℕ) → Inside n p → read_at (after (suc n)) n ≡ single n
  unfolding answers_of
  last n h =
      read_same (one n) n (after n) (insides n n h) ∙ ap (λ (hit : List Float). returned_indexed (one n) hit
      (word_at (after n).indices n ∷ []))
      (fours (hits_past n (4 * n) (omega arith)) (hits_past n (4 * n + 1) (omega arith)) (hits_past n (4 * n + 2) (omega arith))
      (hits_past n (4 * n + 3) (omega arith)))
      ∙ ap (λ (w : ℕ). returned_indexed (one n) (hit_of p.hits n) (w ∷ [])) (indices_past n n (omega arith))

  each : (n i : ℕ) → i < n → ((k : ℕ) → k < n → Inside k p) → read_at (after n) i ≡ single i
  unfolding answers_of
  each zero i h fit = absurd (omega (arith, h))
  each (suc n) i h fit =
      ⊎_elim (λ (same : i ≡ n). subst (λ (k : ℕ). read_at (after (suc n)) k ≡ single k) (sym same) (last n (fit n (omega arith))))
      (λ (other : i ≡ n → ⊥). let less : i < n = lower n i h other in read_else (one n) n (after n) i less ∙ each n i less
      (λ (k : ℕ) (lt : k < n). fit k (omega (arith, lt)))) (same_or_other i n)

  -- the places that the tests ask for
  all_inside : (n : ℕ) → places_fit n p ≡ true → (k : ℕ) → k < n → Inside k p
  unfolding places_fit
  all_inside n fit k h =
      let f = fits_inside n (length p.codes) (length p.hits) (length p.indices) fit in
      record { code = omega (arith, h, f.0); hit = omega (arith, h, f.1.0); index = omega (arith, h, f.1.1) }

  -- the law: read at a ray's places, the answer is the single call's
  pub each_as_single : places_fit (ray_count rays) p ≡ true → EachAsSingle answer rays p (after (ray_count rays))
  each_as_single fit = record {
    each = λ (i : ℕ) (h : i < ray_count rays). each (ray_count rays) i h (all_inside (ray_count rays) fit);
    codes_past = codes_past (ray_count rays);
    hits_past = hits_past (ray_count rays);
    indices_past = indices_past (ray_count rays);
  }
