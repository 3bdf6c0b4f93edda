-- Runs of stores: one after another, in any order where they do not meet, over the front of an area, and one store a turn from the front.
-- Assumes nothing.
use mathlib.Core.Path.{◌≡◌, refl, sym, ap, ◌∙◌}
use mathlib.Core.List.{List, [], ◌∷◌, ◌++◌}
use Prim.Native.Nat.{ℕ, zero, suc, ◌+◌, ◌<◌, ◌≤◌}
use native.Mathlib.Nat.{add-zero, zero-add}
use native.Mathlib.Omega.{arith}
use native.Mathlib.Numerals.{add-one}
use lib.ListN.{length, get_or, set, drop}
use lib.Seq.{sets, sets-eq, set_comm, set_at, append_snoc, drop-cons}
use Rattle.lists.specs.Lists.{range}

module _ {A : Type 0} where
  pub sets_append : (l : List A) (i : ℕ) (xs ys : List A) → sets l i (xs ++ ys) ≡ sets (sets l i xs) (i + length xs) ys
  sets_append l i [] ys = ap (λ (k : ℕ). sets l k ys) (sym (add-zero i))
  sets_append l i (x ∷ xs) ys =
      let e : suc i + length xs ≡ i + suc (length xs) = omega arith in
      sets_append (set l i x) (suc i) xs ys ∙ ap (λ (k : ℕ). sets (sets (set l i x) (suc i) xs) k ys) e

  set_below : (l : List A) (p i : ℕ) (v : A) (xs : List A) → p < i → set (sets l i xs) p v ≡ sets (set l p v) i xs
  set_below l p i v [] h = refl
  set_below l p i v (x ∷ xs) h =
      set_below (set l i x) p (suc i) v xs (omega arith) ∙ ap (λ (z : List A). sets z (suc i) xs) (set_comm l i p x v (λ e. omega arith))

  pub sets_below : (l : List A) (p : ℕ) (ws : List A) (i : ℕ) (xs : List A) → p + length ws ≤ i → sets (sets l i xs) p ws ≡ sets
      (sets l p ws) i xs
  sets_below l p [] i xs h = refl
  sets_below l p (w ∷ ws) i xs h =
      ap (λ (z : List A). sets z (suc p) ws) (set_below l p i w xs (omega arith)) ∙ sets_below (set l p w) (suc p) ws i xs (omega arith)

  -- a run above a place, then one that ends there
  pub sets_before : (l : List A) (p : ℕ) (ws xs : List A) → sets (sets l (p + length ws) xs) p ws ≡ sets l p (ws ++ xs)
  sets_before l p ws xs = sets_below l p ws (p + length ws) xs (omega arith) ∙ sym (sets_append l p ws xs)

  pub sets_front : (l vs : List A) → length vs ≤ length l → sets l 0 vs ≡ vs ++ drop (length vs) l
  sets_front l vs h =
      let k : 0 + length vs ≤ length l = omega arith in
      sets-eq vs l 0 k ∙ ap (λ (j : ℕ). vs ++ drop j l) (zero-add (length vs))

  -- ---- a loop from the front: what is done stands before the rest of what was there

  pub stored_after : (done rest : List A) (i : ℕ) (v z : A) → length done ≡ i → i < length rest → set (done ++ drop i rest) i v ≡
      (done ++ (v ∷ [])) ++ drop (i + 1) rest
  stored_after done rest i v z e h =
      rw (add-one, drop-cons rest i z) (set_at done (get_or rest i z) (drop (suc i) rest) v i e ∙ sym (append_snoc done v (drop (suc i)
      rest)))

pub range_next : (start n : ℕ) → range start n ++ ((start + n) ∷ []) ≡ range start (n + 1)
unfolding range
range_next start zero = ap (λ (k : ℕ). k ∷ []) (add-zero start)
range_next start (suc n) =
    let e : start + suc n ≡ suc start + n = omega arith in
    let f : suc (n + 1) ≡ suc n + 1 = omega arith in
    ap (λ (k : ℕ). start ∷ (range (suc start) n ++ (k ∷ []))) e ∙ ap (λ (z : List ℕ). start ∷ z) (range_next (suc start) n) ∙ ap
    (range start) f
