-- The first of a list that passes a test. Assumes nothing.
use Rattle.std.proofs.Common.{◌≡◌, ℕ, ◌<◌, ◌≤◌, Bool, true, false, cond, ◌⊎◌, List, [], ◌∷◌, sym, refl, ap, ◌∙◌, subst, inl, inr}
use Rattle.std.proofs.Common.{true≢false, le_of_eq, le_of_lt}
use mathlib.Core.Bool.{false≢true}
use mathlib.Core.List.Memᴰ
use mathlib.Core.List.{Memᴰ}
use Rattle.lists.specs.Lists.{keep}
use Rattle.lists.proofs.Members.{Each, Ascending, each_rest}
use Rattle.mesh_drill.specs.MeshDrill.{DrillAnswer, Clear, Touches, Stopped, first_of}

abbrev is_clear : DrillAnswer → Bool
is_clear Clear = true
is_clear (Touches i) = false
is_clear (Stopped n) = false

abbrev is_stopped : DrillAnswer → Bool
is_stopped Clear = false
is_stopped (Touches i) = false
is_stopped (Stopped n) = true

abbrev index_in : DrillAnswer → ℕ
index_in Clear = 0
index_in (Touches i) = i
index_in (Stopped n) = 0

module _ (p : ℕ → Bool) where
  pub first_clear : (xs : List ℕ) → first_of p xs ≡ Clear → Each (λ (j : ℕ). p j ≡ false) xs
  unfolding first_of
  first_clear [] h j m = absurd (Memᴰ.not-nil m)
  first_clear (x ∷ xs) h j m = go (p x) refl h (first_clear xs) (Memᴰ.cases_cons m)
    where
      go : (b : Bool) → p x ≡ b → cond b (Touches x) (first_of p xs) ≡ Clear
          → (first_of p xs ≡ Clear → Each (λ (j : ℕ). p j ≡ false) xs) → (j ≡ x) ⊎ Memᴰ j xs → p j ≡ false
      go true e k rest c = absurd (false≢true (ap is_clear k))
      go false e k rest (inl q) = ap p q ∙ e
      go false e k rest (inr q) = rest k j q

  pub first_touches : (xs : List ℕ) (i : ℕ) → first_of p xs ≡ Touches i → Memᴰ i xs × (p i ≡ true)
  unfolding first_of
  first_touches [] i h = absurd (true≢false (ap is_clear h))
  first_touches (x ∷ xs) i h = go (p x) refl h (first_touches xs i)
    where
      go : (b : Bool) → p x ≡ b → cond b (Touches x) (first_of p xs) ≡ Touches i
          → (first_of p xs ≡ Touches i → Memᴰ i xs × (p i ≡ true)) → Memᴰ i (x ∷ xs) × (p i ≡ true)
      go true e k rest = let q : x ≡ i = ap index_in k in (Memᴰ.head (sym q), ap p (sym q) ∙ e)
      go false e k rest = let r = rest k in (Memᴰ.tail r.0, r.1)

  pub first_lowest : (xs : List ℕ) → Ascending xs → (i j : ℕ) → first_of p xs ≡ Touches i → Memᴰ j xs → p j ≡ true → i ≤ j
  unfolding first_of
  first_lowest [] a i j h m q = absurd (Memᴰ.not-nil m)
  first_lowest (x ∷ xs) a i j h m q = go (p x) refl h (first_lowest xs a.1 i j) (Memᴰ.cases_cons m)
    where
      go : (b : Bool) → p x ≡ b → cond b (Touches x) (first_of p xs) ≡ Touches i
          → (first_of p xs ≡ Touches i → Memᴰ j xs → p j ≡ true → i ≤ j) → (j ≡ x) ⊎ Memᴰ j xs → i ≤ j
      go true e k rest (inl c) = le_of_eq (sym (ap index_in k) ∙ sym c)
      go true e k rest (inr c) = let l : x < j = a.0 j c in let s : x ≡ i = ap index_in k in at_most s (le_of_lt l)
        where
          at_most : x ≡ i → x ≤ j → i ≤ j
          at_most s t = subst (λ (n : ℕ). n ≤ j) s t
      go false e k rest (inl c) = absurd (true≢false (sym q ∙ ap p c ∙ e))
      go false e k rest (inr c) = rest k c q

  -- those left out do not pass
  pub first_kept : (q : ℕ → Bool) (xs : List ℕ) → Each (λ (j : ℕ). p j ≡ true → q j ≡ true) xs → first_of p (keep q xs) ≡ first_of p xs
  unfolding first_of keep
  first_kept q [] h = refl
  first_kept q (x ∷ xs) h =
      go (q x) (p x) refl refl (first_kept q xs (each_rest (λ (j : ℕ). p j ≡ true → q j ≡ true) x xs h))
    where
      go : (b c : Bool) → q x ≡ b → p x ≡ c → first_of p (keep q xs) ≡ first_of p xs
          → first_of p (cond b (x ∷ keep q xs) (keep q xs)) ≡ cond c (Touches x) (first_of p xs)
      go true c e f rest = (λ s. cond (f s) (Touches x) (rest s))
      go false true e f rest = absurd (true≢false (sym (h x (Memᴰ.head refl) f) ∙ e))
      go false false e f rest = rest

  pub never_stopped : (xs : List ℕ) (n : ℕ) → first_of p xs ≡ Stopped n → ⊥
  unfolding first_of
  never_stopped [] n h = false≢true (ap is_stopped h)
  never_stopped (x ∷ xs) n h = go (p x) h (never_stopped xs n)
    where
      go : (b : Bool) → cond b (Touches x) (first_of p xs) ≡ Stopped n → (first_of p xs ≡ Stopped n → ⊥) → ⊥
      go true k rest = false≢true (ap is_stopped k)
      go false k rest = rest k
