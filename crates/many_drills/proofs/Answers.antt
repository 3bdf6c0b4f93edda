-- What is read at a drill's places is what the single call leaves there, and past the last drill's places nothing changes. Assumes nothing.
use Prim.Native.Nat.{ℕ, zero, suc, ◌+◌, ◌<◌, ◌≤◌}
use native.Mathlib.Omega.{arith}
use native.Mathlib.Numerals.{add-one}
use mathlib.Core.Path.{◌≡◌, refl, sym, ap, ◌∙◌, subst}
use mathlib.Core.Bool.{true, ◌&&◌}
use mathlib.Core.Logic.{⊎_elim}
use mathlib.Core.List.{List, [], ◌∷◌}
use lib.Dec.{leb}
use lib.Ieee.{Float}
use lib.ListN.{length, set, length-set}
use lib.Seq.{get_or-set_same, get_or-set_other}
use borrow.Author.Tests.{leb-true}
use Rattle.lists.proofs.JoinedTests.{and_first, and_second}
use Rattle.lists.proofs.CountLaws.{same_or_other}
use Rattle.geometry.specs.declared.ray.Ray.{Ray}
use Rattle.tree.specs.Layout.{word_at}
use Rattle.mesh_drill.specs.MeshDrill.{DrillAnswer, Clear, Touches, Stopped}
use Rattle.results.specs.Results.{hit_code, none_code}
use Rattle.many_drills.specs.Returned.{ReturnedDrill, returned_drill}
use Rattle.many_drills.specs.Many.{ray_at, radius_at, drill_count, Places, places_fit, answer_at, answers_of, read_at, EachAsSingle}

-- ---- the next drill's answer, after those before it
module _ (answer : Ray → Float → DrillAnswer) (drills : List Float) where
  pub answers_next : (i : ℕ) (before p p' : Places) → p ≡ answers_of answer drills i before
      → p' ≡ answer_at (answer (ray_at drills i) (radius_at drills i)) i p → p' ≡ answers_of answer drills (i + 1) before
  unfolding answers_of
  answers_next i before p p' e g =
      g ∙ ap (answer_at (answer (ray_at drills i) (radius_at drills i)) i) e ∙ ap (λ (k : ℕ). answers_of answer drills k before)
      (sym (add-one i))

  pub answers_all : (i n : ℕ) (before p : Places) → p ≡ answers_of answer drills i before → i ≡ n → p ≡ answers_of answer drills n before
  answers_all i n before p e f = e ∙ ap (λ (k : ℕ). answers_of answer drills k before) f

-- ---- one answer at its places

-- the places of a drill at k
pub record Inside (k : ℕ) (p : Places) : Type 0 where
  pub code : k < length p.codes
  pub index : k < length p.indices

abbrev made : ℕ → List ℕ → ReturnedDrill
made number index = record { number = number; index = index }

read_as : (p : Places) (i number index : ℕ) → word_at p.codes i ≡ number → word_at p.indices i ≡ index
    → read_at p i ≡ made number (index ∷ [])
unfolding read_at
read_as p i number index e f =
    ap (λ (n : ℕ). made n (word_at p.indices i ∷ [])) e ∙ ap (λ (k : ℕ). made number (k ∷ [])) f

read_same : (a : DrillAnswer) (k : ℕ) (p : Places) → Inside k p
    → read_at (answer_at a k p) k ≡ returned_drill a (word_at p.indices k ∷ [])
unfolding answer_at returned_drill
read_same Clear k p h =
    read_as (answer_at Clear k p) k none_code (word_at p.indices k) (get_or-set_same p.codes k none_code 0 h.code) refl
read_same (Touches j) k p h =
    read_as (answer_at (Touches j) k p) k hit_code j (get_or-set_same p.codes k hit_code 0 h.code)
    (get_or-set_same p.indices k j 0 h.index)
read_same (Stopped number) k p h =
    read_as (answer_at (Stopped number) k p) k number (word_at p.indices k) (get_or-set_same p.codes k number 0 h.code) refl

-- what other places hold
code_else : (a : DrillAnswer) (k : ℕ) (p : Places) (i : ℕ) → (i ≡ k → ⊥) → word_at (answer_at a k p).codes i ≡ word_at p.codes i
unfolding answer_at
code_else Clear k p i h = get_or-set_other p.codes k i none_code 0 h
code_else (Touches j) k p i h = get_or-set_other p.codes k i hit_code 0 h
code_else (Stopped number) k p i h = get_or-set_other p.codes k i number 0 h

index_else : (a : DrillAnswer) (k : ℕ) (p : Places) (i : ℕ) → (i ≡ k → ⊥) → word_at (answer_at a k p).indices i ≡ word_at p.indices i
unfolding answer_at
index_else Clear k p i h = refl
index_else (Touches j) k p i h = get_or-set_other p.indices k i j 0 h
index_else (Stopped number) k p i h = refl

read_else : (a : DrillAnswer) (k : ℕ) (p : Places) (i : ℕ) → i < k → read_at (answer_at a k p) i ≡ read_at p i
unfolding read_at
read_else a k p i h =
    read_as (answer_at a k p) i (word_at p.codes i) (word_at p.indices i)
    (code_else a k p i (λ e. omega (arith, e, h))) (index_else a k p i (λ e. omega (arith, e, h)))

-- the slices keep their lengths
inside_kept : (a : DrillAnswer) (k : ℕ) (p : Places) (i : ℕ) → Inside i p → Inside i (answer_at a k p)
unfolding answer_at
inside_kept Clear k p i h = record {
  code = subst (λ (q : ℕ). i < q) (sym (length-set p.codes k none_code)) h.code;
  index = h.index;
}
inside_kept (Touches j) k p i h = record {
  code = subst (λ (q : ℕ). i < q) (sym (length-set p.codes k hit_code)) h.code;
  index = subst (λ (q : ℕ). i < q) (sym (length-set p.indices k j)) h.index;
}
inside_kept (Stopped number) k p i h = record {
  code = subst (λ (q : ℕ). i < q) (sym (length-set p.codes k number)) h.code;
  index = h.index;
}

-- ---- all of them

-- result slices that are long enough
pub fits_inside : (n codes indices : ℕ) → (leb n codes && leb n indices) ≡ true → (n ≤ codes) × (n ≤ indices)
fits_inside n codes indices fit = (
  leb-true n codes (and_first (leb n codes) (leb n indices) fit),
  leb-true n indices (and_second (leb n codes) (leb n indices) fit),
)

lower : (n i : ℕ) → i < suc n → (i ≡ n → ⊥) → i < n
lower n i h other = omega (arith, h, other)

module _ (answer : Ray → Float → DrillAnswer) (drills : List Float) (p : Places) where
  abbrev after : ℕ → Places
  after n = answers_of answer drills n p

  abbrev one : ℕ → DrillAnswer
  one i = answer (ray_at drills i) (radius_at drills i)

  insides : (n i : ℕ) → Inside i p → Inside i (after n)
  unfolding answers_of
  insides zero i h = h
  insides (suc n) i h = inside_kept (one n) n (after n) i (insides n i h)

  codes_past : (n k : ℕ) → n ≤ k → word_at (after n).codes k ≡ word_at p.codes k
  unfolding answers_of
  codes_past zero k h = refl
  codes_past (suc n) k h = code_else (one n) n (after n) k (λ e. omega (arith, e, h)) ∙ codes_past n k (omega (arith, h))

  indices_past : (n k : ℕ) → n ≤ k → word_at (after n).indices k ≡ word_at p.indices k
  unfolding answers_of
  indices_past zero k h = refl
  indices_past (suc n) k h = index_else (one n) n (after n) k (λ e. omega (arith, e, h)) ∙ indices_past n k (omega (arith, h))

  abbrev single : ℕ → ReturnedDrill
  single i = returned_drill (one i) (word_at p.indices i ∷ [])

  -- the last drill's places
  last : (n : ℕ) → Inside n p → read_at (after (suc n)) n ≡ single n
  unfolding answers_of
  last n h =
      read_same (one n) n (after n) (insides n n h)
      ∙ ap (λ (w : ℕ). returned_drill (one n) (w ∷ [])) (indices_past n n (omega arith))

  each : (n i : ℕ) → i < n → ((k : ℕ) → k < n → Inside k p) → read_at (after n) i ≡ single i
  unfolding answers_of
  each zero i h fit = absurd (omega (arith, h))
  each (suc n) i h fit =
      ⊎_elim (λ (same : i ≡ n). subst (λ (k : ℕ). read_at (after (suc n)) k ≡ single k) (sym same) (last n (fit n (omega arith))))
      (λ (other : i ≡ n → ⊥). let less : i < n = lower n i h other in read_else (one n) n (after n) i less ∙ each n i less
      (λ (k : ℕ) (lt : k < n). fit k (omega (arith, lt)))) (same_or_other i n)

  -- the places that the tests ask for
  all_inside : (n : ℕ) → places_fit n p ≡ true → (k : ℕ) → k < n → Inside k p
  unfolding places_fit
  all_inside n fit k h =
      let f = fits_inside n (length p.codes) (length p.indices) fit in
      record { code = omega (arith, h, f.0); index = omega (arith, h, f.1) }

  -- the law: read at a drill's places, the answer is the single call's
  pub each_as_single : places_fit (drill_count drills) p ≡ true → EachAsSingle answer drills p (after (drill_count drills))
  each_as_single fit = record {
    each = λ (i : ℕ) (h : i < drill_count drills). each (drill_count drills) i h (all_inside (drill_count drills) fit);
    codes_past = codes_past (drill_count drills);
    indices_past = indices_past (drill_count drills);
  }
