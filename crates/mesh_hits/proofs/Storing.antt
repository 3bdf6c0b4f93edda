-- The hits of a list are stored one after another, as far as there are places. Assumes nothing.
use Prim.Native.Nat.{ℕ, ◌+◌, ◌*◌, ◌<◌, ◌≤◌}
use mathlib.Core.Path.{◌≡◌, refl, sym, ap, subst, ◌∙◌}
use mathlib.Core.Logic.{◌⊎◌, inl, inr}
use mathlib.Core.Bool.{Bool, true, false, cond}
use mathlib.Core.List.{List, [], ◌∷◌, ◌++◌, append-nil}
use native.Mathlib.Omega.{arith}
use lib.Ieee.{Float, nan}
use lib.ListN.{length, take, drop, set, length-set, length-append}
use lib.Seq.{length-take-le, get_or-take, get_or-set_same, get_or-set_other, drop-set-lt, drop-drop}
use Rattle.casts.specs.Answer.{Answer, hit, none, refused}
use Rattle.casts.specs.Reach.{Reach, At, Miss, Refused, reach_of}
use Rattle.lists.specs.Lists.{keep}
use Rattle.nearest_hit.proofs.NextLaws.{miss_not_at, refused_not_at, same_reach}
use Rattle.tree.specs.Layout.{number_at, word_at}
use Rattle.lists.proofs.CountLaws.{same_or_other, keep_append}
use Rattle.lists.proofs.Runs.{stored_after}
use Rattle.mesh_hits.specs.HitArea.{is_hit, depth_of, hits_of, depth_at}
use Rattle.mesh_hits.specs.Rows.{Stored, StoredNext}
use Rattle.depth_sort.specs.SortRows.{Keyed}

-- ---- one triangle
module _ (index : ℕ) (reach : Reach) (hits places : ℕ) (indices : List ℕ) (numbers : List Float) where
  unstored : ((d : Float) → reach ≡ At d → ⊥) → StoredNext index reach hits places indices numbers hits indices numbers
  unstored miss = record { missed = λ _. (refl, (refl, refl)); hit = λ d e. absurd (miss d e) }

  pub stored_miss : reach ≡ Miss → StoredNext index reach hits places indices numbers hits indices numbers
  stored_miss h = unstored (λ d e. miss_not_at d (sym h ∙ e))

  pub stored_refusal : (number : ℕ) → reach ≡ Refused number → StoredNext index reach hits places indices numbers hits indices numbers
  stored_refusal number h = unstored (λ d e. refused_not_at number d (sym h ∙ e))

  module _ (distance : Float) (h : reach ≡ At distance) where
    pub stored_past : places ≤ hits → StoredNext index reach hits places indices numbers (hits + 1) indices numbers
    stored_past full = record { missed = λ miss. absurd (miss distance h); hit = λ d e. (refl, λ some. absurd (omega arith)) }

    pub stored_hit : StoredNext index reach hits places indices numbers (hits + 1) (set indices hits index)
        (set numbers (4 * hits) distance)
    stored_hit = record {
      missed = λ miss. absurd (miss distance h);
      hit = λ d e. (refl, λ some. (refl, ap (set numbers (4 * hits)) (same_reach distance d (sym h ∙ e))));
    }

-- at most one more hit
pub stored_few : (index : ℕ) (reach : Reach) (hits places : ℕ) (indices₀ : List ℕ) (numbers₀ : List Float) (next : ℕ)
    (indices : List ℕ) (numbers : List Float) → StoredNext index reach hits places indices₀ numbers₀ next indices numbers
    → next ≤ hits + 1
stored_few index (At distance) hits places indices₀ numbers₀ next indices numbers s =
    let same = (s.hit distance refl).0 in
    omega arith
stored_few index Miss hits places indices₀ numbers₀ next indices numbers s =
    let same = (s.missed (λ d e. miss_not_at d e)).0 in
    omega arith
stored_few index (Refused number) hits places indices₀ numbers₀ next indices numbers s =
    let same = (s.missed (λ d e. refused_not_at number d e)).0 in
    omega arith

-- ---- the hits of a longer list
module _ (answer : ℕ → Answer) where
  more_hits : (l : List ℕ) (x : ℕ) → is_hit (answer x) ≡ true → hits_of answer (l ++ (x ∷ [])) ≡ hits_of answer l ++ (x ∷ [])
  unfolding keep
  more_hits l x h = keep_append (λ (t : ℕ). is_hit (answer t)) l (x ∷ []) ∙ ap (λ (b : Bool). hits_of answer l ++ cond b (x ∷ []) []) h

  as_many_hits : (l : List ℕ) (x : ℕ) → is_hit (answer x) ≡ false → hits_of answer (l ++ (x ∷ [])) ≡ hits_of answer l
  unfolding keep
  as_many_hits l x h = keep_append (λ (t : ℕ). is_hit (answer t)) l (x ∷ [])
      ∙ ap (λ (b : Bool). hits_of answer l ++ cond b (x ∷ []) []) h ∙ append-nil (hits_of answer l)

  module _ (places : ℕ) (indices₀ : List ℕ) (numbers₀ : List Float) (room : places ≤ length indices₀)
      (roomN : 4 * places ≤ length numbers₀)
      (l : List ℕ) (x hits : ℕ) (indices : List ℕ) (numbers : List Float) (long : length indices ≡ length indices₀)
      (longN : length numbers ≡ length numbers₀)
      (s : Stored answer l places indices₀ numbers₀ hits indices numbers)
    where
      unchanged : is_hit (answer x) ≡ false → Stored answer (l ++ (x ∷ [])) places indices₀ numbers₀ hits indices numbers
      unchanged h = record {
        counts = s.counts ∙ ap length (sym (as_many_hits l x h));
        holds = λ few. s.holds few ∙ ap (λ (z : List ℕ). z ++ drop hits indices₀) (sym (as_many_hits l x h));
        keyed = s.keyed;
        rest = s.rest;
      }

      module _ (d : Float) (same : depth_at answer x ≡ d) (h : is_hit (answer x) ≡ true) where
        added_keyed : hits < places → Keyed (depth_at answer) (take (hits + 1) (set indices hits x)) (set numbers (4 * hits) d)
        added_keyed some = record {
          at = λ (j : ℕ) (g : j < length (take (hits + 1) (set indices hits x))). go j (below j g)
              (same_or_other j hits);
        }
          where
            below : (j : ℕ) → j < length (take (hits + 1) (set indices hits x)) → j < hits + 1
            below j g = omega (arith, length-take-le (hits + 1) (set indices hits x) (omega (arith, long, length-set indices hits x)))

            go : (j : ℕ) → j < hits + 1 → (j ≡ hits) ⊎ (j ≡ hits → ⊥)
                → number_at (set numbers (4 * hits) d) (4 * j) ≡ depth_at answer (word_at (take (hits + 1) (set indices hits x)) j)
            go j g (inl e) =
                ap (λ (k : ℕ). number_at (set numbers (4 * hits) d) (4 * k)) e
                ∙ get_or-set_same numbers (4 * hits) d nan (omega (arith, longN))
                ∙ sym same
                ∙ ap (depth_at answer) (sym (get_or-take (hits + 1) (set indices hits x) j 0 g ∙ ap (word_at (set indices hits x)) e
                ∙ get_or-set_same indices hits x 0 (omega (arith, long))))
            go j g (inr n) =
                let k : j < hits = omega (arith, n) in
                let few : hits ≤ places = omega arith in
                let inside : hits ≤ length indices = omega (arith, long) in
                get_or-set_other numbers (4 * hits) (4 * j) d nan (λ e. omega arith)
                ∙ (s.keyed few).at j (omega (arith, length-take-le hits indices inside))
                ∙ ap (depth_at answer) (get_or-take hits indices j 0 k
                ∙ sym (get_or-take (hits + 1) (set indices hits x) j 0 g ∙ get_or-set_other indices hits j x 0 n))

        added : (indices' : List ℕ) (numbers' : List Float)
            → (hits < places → (indices' ≡ set indices hits x) × (numbers' ≡ set numbers (4 * hits) d))
            → Stored answer (l ++ (x ∷ [])) places indices₀ numbers₀ (hits + 1) indices' numbers'
        added indices' numbers' e = record {
          counts = omega (arith, s.counts, ap length (more_hits l x h), length-append (hits_of answer l) (x ∷ []));
          holds =
              λ few. let some : hits < places = omega arith in
              (e some).0
              ∙ ap (λ (z : List ℕ). set z hits x) (s.holds (omega arith))
              ∙ stored_after (hits_of answer l) indices₀ hits x 0 (sym s.counts) (omega arith)
              ∙ ap (λ (z : List ℕ). z ++ drop (hits + 1) indices₀) (sym (more_hits l x h));
          keyed =
              λ few. let some : hits < places = omega arith in
              subst (λ (z : List ℕ). Keyed (depth_at answer) (take (hits + 1) z) numbers') (sym (e some).0)
              (subst (Keyed (depth_at answer) (take (hits + 1) (set indices hits x))) (sym (e some).1) (added_keyed some));
          rest =
              λ few. let some : hits < places = omega arith in
              let four : 4 * hits + 4 ≡ 4 * (hits + 1) = omega arith in
              ap (drop (4 * (hits + 1))) (e some).1
              ∙ drop-set-lt (4 * (hits + 1)) numbers (4 * hits) d (omega arith)
              ∙ ap (λ (k : ℕ). drop k numbers) (sym four)
              ∙ sym (drop-drop 4 (4 * hits) numbers)
              ∙ ap (drop 4) (s.rest (omega arith))
              ∙ drop-drop 4 (4 * hits) numbers₀
              ∙ ap (λ (k : ℕ). drop k numbers₀) four;
        }

      pub stored_more : (reach : Reach) → reach ≡ reach_of (answer x) → (hits' : ℕ) (indices' : List ℕ) (numbers' : List Float)
          → StoredNext x reach hits places indices numbers hits' indices' numbers'
          → Stored answer (l ++ (x ∷ [])) places indices₀ numbers₀ hits' indices' numbers'
      unfolding reach_of is_hit depth_of
      stored_more reach e hits' indices' numbers' n = go (answer x) refl
        where
          same : (indices'' : List ℕ) (numbers'' : List Float) (hits'' : ℕ) → (hits'' ≡ hits)
              × ((indices'' ≡ indices) × (numbers'' ≡ numbers))
              → Stored answer (l ++ (x ∷ [])) places indices₀ numbers₀ hits indices numbers
              → Stored answer (l ++ (x ∷ [])) places indices₀ numbers₀ hits'' indices'' numbers''
          same indices'' numbers'' hits'' q w = rw (q.0, q.1.0, q.1.1) w

          go : (a : Answer) → answer x ≡ a → Stored answer (l ++ (x ∷ [])) places indices₀ numbers₀ hits' indices' numbers'
          go (hit normal d) f =
              let r : reach ≡ At d = e ∙ ap reach_of f in
              let w = n.hit d r in
              subst (λ (k : ℕ). Stored answer (l ++ (x ∷ [])) places indices₀ numbers₀ k indices' numbers') (sym w.0)
              (added d (ap depth_of f) (ap is_hit f) indices' numbers' w.1)
          go none f = same indices' numbers' hits' (n.missed (λ d g. miss_not_at d (sym (ap reach_of f) ∙ sym e ∙ g)))
              (unchanged (ap is_hit f))
          go (refused number) f =
              same indices' numbers' hits' (n.missed (λ d g. refused_not_at number d (sym (ap reach_of f) ∙ sym e ∙ g)))
              (unchanged (ap is_hit f))
