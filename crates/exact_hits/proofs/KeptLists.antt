-- A listing does not change where misses are left out of its list. Assumes nothing.
use Prim.Native.Nat.{ℕ, zero, suc, ◌<◌}
use mathlib.Core.Path.{◌≡◌, refl, sym, ap, ◌∙◌}
use mathlib.Core.Logic.{◌⊎◌, inl, inr}
use mathlib.Core.Bool.{Bool, true, false, cond, true≢false}
use mathlib.Core.List.{List, [], ◌∷◌, Memᴰ}
use native.Mathlib.Omega.{arith}
use lib.Dec.{leb}
use borrow.Author.Tests.{le-leb, lt-leb}
use Rattle.lists.specs.Lists.{range, count, keep, sorted}
use Rattle.lists.proofs.Members.{Each, each_rest}
use Rattle.lists.proofs.CountLaws.{count_keep, count_range_inside, range_bounds}
use Rattle.lists.proofs.WithinLaws.{Within}
use Rattle.lists.proofs.SortLaws.{count_sorted, sorted_rises, rising_equal, ascending_rises, range_ascends, keep_ascends}
use Rattle.casts.specs.Answer.{Answer, none}
use Rattle.nearest_hit.specs.Nearest.{Indexed, hit_at, no_hit, stopped, next_of, fold_from, nearest_of}
use Rattle.mesh_hits.specs.HitArea.{HitArea, is_hit, hits_of, in_order}
use Rattle.mesh_hits.specs.HitListing.{fitted, after_refusals, listing_of}

-- ---- a list of triangles, each at most once, ascending
module _ (n : ℕ) (list : List ℕ) (w : Within list (range 0 n)) where
  abbrev pub is_listed : ℕ → Bool
  is_listed x = leb 1 (count x list)

  counts : (x : ℕ) → count x list ≡ count x (keep is_listed (range 0 n))
  counts x = go (count x list) refl
    where
      kept : (b : Bool) → is_listed x ≡ b → count x (keep is_listed (range 0 n)) ≡ cond b (count x (range 0 n)) 0
      kept b e = count_keep is_listed x (range 0 n) ∙ ap (λ (b : Bool). cond b (count x (range 0 n)) 0) e

      go : (k : ℕ) → count x list ≡ k → count x list ≡ count x (keep is_listed (range 0 n))
      go zero e = e ∙ sym (kept false (lt-leb 1 (count x list) (omega arith)))
      go (suc k) e =
          let some : 0 < count x (range 0 n) = omega (arith, w.at_most x) in
          let inside = range_bounds x 0 n some in
          omega (
            arith,
            kept true (le-leb 1 (count x list) (omega arith)),
            w.at_most x,
            count_range_inside x 0 n inside.0 inside.1,
          )

  pub sorted_is_kept : sorted list ≡ keep is_listed (range 0 n)
  sorted_is_kept =
      rising_equal (sorted list) (keep is_listed (range 0 n)) (sorted_rises list)
      (ascending_rises (keep is_listed (range 0 n)) (keep_ascends is_listed (range 0 n) (range_ascends 0 n)))
      (λ (x : ℕ). count_sorted x list ∙ counts x)

  -- one that is a miss or is listed is a miss where it is not listed
  pub missed_or_listed : {P : Type 0} (x : ℕ) → P ⊎ (0 < count x list) → is_listed x ≡ false → P
  missed_or_listed x (inl h) e = h
  missed_or_listed x (inr h) e = absurd (true≢false (sym (le-leb 1 (count x list) (omega (arith, h))) ∙ e))

-- ---- misses left out
module _ (answer : ℕ → Answer) (p : ℕ → Bool) where
  abbrev pub Leaves : ℕ → Type 0
  Leaves x = p x ≡ false → answer x ≡ none

  next_none : (best : Indexed) (x : ℕ) → next_of best x none ≡ best
  unfolding next_of
  next_none (stopped number) x = refl
  next_none no_hit x = refl
  next_none (hit_at n d i) x = refl

  kept_fold : (best : Indexed) (l : List ℕ) → Each Leaves l → fold_from answer best (keep p l) ≡ fold_from answer best l
  unfolding fold_from keep
  kept_fold best [] each = refl
  kept_fold best (x ∷ l) each = go (p x) refl (λ b. kept_fold b l (each_rest Leaves x l each))
    where
      go : (b : Bool) → p x ≡ b → ((best : Indexed) → fold_from answer best (keep p l) ≡ fold_from answer best l)
          → fold_from answer best (cond b (x ∷ keep p l) (keep p l)) ≡ fold_from answer (next_of best x (answer x)) l
      go true e further = further (next_of best x (answer x))
      go false e further =
          further best
          ∙ ap (λ (z : Indexed). fold_from answer z l)
          (sym (ap (next_of best x) (each x (Memᴰ.head refl) e) ∙ next_none best x))

  kept_hits : (l : List ℕ) → Each Leaves l → hits_of answer (keep p l) ≡ hits_of answer l
  unfolding keep is_hit
  kept_hits [] each = refl
  kept_hits (x ∷ l) each = go (p x) refl (kept_hits l (each_rest Leaves x l each))
    where
      go : (b : Bool) → p x ≡ b → hits_of answer (keep p l) ≡ hits_of answer l
          → hits_of answer (cond b (x ∷ keep p l) (keep p l)) ≡ cond (is_hit (answer x)) (x ∷ hits_of answer l) (hits_of answer l)
      go true e rest = ap (λ (z : List ℕ). cond (is_hit (answer x)) (x ∷ z) z) rest
      go false e rest =
          rest ∙ sym (ap (λ (a : Answer). cond (is_hit a) (x ∷ hits_of answer l) (hits_of answer l)) (each x (Memᴰ.head refl) e))

  pub listing_kept : (area : HitArea) (l : List ℕ) → Each Leaves l → listing_of answer area (keep p l) ≡ listing_of answer area l
  unfolding listing_of
  listing_kept area l each =
      ap (λ (z : Indexed). after_refusals z area (fitted answer area (in_order answer (hits_of answer (keep p l)))))
      (kept_fold no_hit l each)
      ∙ ap (λ (z : List ℕ). after_refusals (nearest_of answer l) area (fitted answer area (in_order answer z))) (kept_hits l each)
