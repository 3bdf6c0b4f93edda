-- A test of every number of a range, one after another; tests joined, exchanged, and read at one place. Assumes nothing.
use Prim.Native.Nat.{ℕ, zero, suc, ◌+◌, ◌-◌, ◌<◌, ◌≤◌}
use mathlib.Core.Path.{◌≡◌, refl, sym, ap, ◌∙◌}
use mathlib.Core.Bool.{Bool, true, false, ◌&&◌}
use mathlib.Core.List.{List, [], ◌∷◌, ◌++◌}
use native.Mathlib.Omega.{arith}
use native.Mathlib.Nat.{sub-zero}
use borrow.Author.Tests.{eqb-true, eqb-false}
use lib.Dec.{eqb}
use native.Mathlib.Numerals.{add-one}
use Rattle.lists.specs.Lists.{range, every}
use Rattle.lists.proofs.JoinedTests.{and_first, and_second}

-- what is left of a range that ends below n
pub range_next : (i n : ℕ) → i < n → range i (n - i) ≡ i ∷ range (i + 1) (n - (i + 1))
unfolding range
range_next i n h = let e : n - i ≡ suc (n - (i + 1)) = omega arith in rw (e, add-one)

pub range_done : (i n : ℕ) → n ≤ i → range i (n - i) ≡ []
unfolding range
range_done i n h = let e : n - i ≡ 0 = omega arith in rw e

module _ (p : ℕ → Bool) where
  pub every_next : (i n : ℕ) → i < n → every p (range i (n - i)) ≡ (p i && every p (range (i + 1) (n - (i + 1))))
  unfolding every
  every_next i n h = ap (every p) (range_next i n h)

  pub every_done : (i n : ℕ) → n ≤ i → every p (range i (n - i)) ≡ true
  unfolding every
  every_done i n h = ap (every p) (range_done i n h)

  -- a loop from 0 on begins with the whole range
  pub every_whole : (n : ℕ) → every p (range 0 (n - 0)) ≡ every p (range 0 n)
  every_whole n = ap (λ (k : ℕ). every p (range 0 k)) (sub-zero n)

  -- one that fails
  pub every_fails : (i n : ℕ) (b : Bool) → i < n → p i ≡ false → every p (range i (n - i)) ≡ b → b ≡ false
  every_fails i n b h f e = sym e ∙ every_next i n h ∙ ap (λ (q : Bool). q && every p (range (i + 1) (n - (i + 1)))) f

  -- one that passes
  pub every_passes : (i n : ℕ) (b : Bool) → i < n → p i ≡ true → every p (range i (n - i)) ≡ b → every p (range (i + 1) (n - (i + 1))) ≡ b
  every_passes i n b h t e = sym (every_next i n h ∙ ap (λ (q : Bool). q && every p (range (i + 1) (n - (i + 1)))) t) ∙ e

  -- what holds of every number of a range holds of each
  pub every_at : (start size i : ℕ) → every p (range start size) ≡ true → start ≤ i → i < start + size → p i ≡ true
  unfolding every range
  every_at start zero i e low high = absurd (omega arith)
  every_at start (suc size) i e low high =
      here (eqb i start) (eqb-true i start) (eqb-false i start) (and_first (p start) (every p (range (suc start) size)) e)
      (every_at (suc start) size i (and_second (p start) (every p (range (suc start) size)) e))
    where
      here : (t : Bool) → (t ≡ true → i ≡ start) → (t ≡ false → i ≡ start → ⊥) → p start ≡ true
          → (suc start ≤ i → i < suc start + size → p i ≡ true) → p i ≡ true
      here true same other first rest = ap p (same refl) ∙ first
      here false same other first rest = let apart : i ≡ start → ⊥ = other refl in rest (omega arith) (omega arith)

-- two tests that agree on a range
pub every_agree : (p q : ℕ → Bool) (start size : ℕ) → ((i : ℕ) → start ≤ i → i < start + size → p i ≡ q i) → every p (range start size) ≡
    every q (range start size)
unfolding every range
every_agree p q start zero h = refl
every_agree p q start (suc size) h =
    ap (λ (b : Bool). b && every p (range (suc start) size)) (h start (omega arith) (omega arith))
    ∙ ap (λ (b : Bool). q start && b) (every_agree p q (suc start) size (λ i low high. h i (omega arith) (omega arith)))

-- two tests at once
pub every_and : (p q : ℕ → Bool) (l : List ℕ) → every (λ (i : ℕ). p i && q i) l ≡ (every p l && every q l)
unfolding every
every_and p q [] = refl
every_and p q (x ∷ l) = ap (λ (b : Bool). (p x && q x) && b) (every_and p q l) ∙ between (p x) (q x) (every p l) (every q l)
  where
    between : (a b c d : Bool) → ((a && b) && (c && d)) ≡ ((a && c) && (b && d))
    between false b c d = refl
    between true false false d = refl
    between true false true d = refl
    between true true c d = refl

-- one more number that passes, behind the others and before them
pub every_snoc : (p : ℕ → Bool) (xs : List ℕ) (x : ℕ) → every p xs ≡ true → p x ≡ true → every p (xs ++ (x ∷ [])) ≡ true
unfolding every
every_snoc p [] x a b = simp b
every_snoc p (y ∷ ys) x a b = simp (and_first (p y) (every p ys) a, every_snoc p ys x (and_second (p y) (every p ys) a) b)

pub every_cons : (p : ℕ → Bool) (x : ℕ) (xs : List ℕ) → p x ≡ true → every p xs ≡ true → every p (x ∷ xs) ≡ true
unfolding every
every_cons p x xs a b = simp (a, b)
