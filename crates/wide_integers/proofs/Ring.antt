-- Equations of polynomials over the whole numbers, by computing both sides' coefficients. Assumes nothing.
use Rattle.std.proofs.Common.{◌≡◌, ℕ, zero, suc, Bool, true, false, cond, ◌&&◌, eqb, leb, List, [], ◌∷◌, ℤ, pos, negsuc, ◌+ℤ◌, ◌-ℤ◌, ◌*ℤ◌}
use Rattle.std.proofs.Common.{neg_ℤ, nat_abs, sym, refl, ap, ◌∙◌, arith, eqb-true}
use mathlib.Core.Bool.{false≢true}
use lib.IntN.{+ℤ_idl, *ℤ-zero, zero-*ℤ}
use Rattle.lists.proofs.JoinedTests.{and_first, and_second}
use Rattle.wide_integers.proofs.Integers.{size_zero}
use Rattle.wide_integers.proofs.Polynomials.{own, own_pos, own_neg, rep_mul, rep_neg, equal, equal_of_minus}
use Rattle.wide_integers.proofs.Polynomials.{ring, times_assoc, times_comm, times_left_comm, plus_times, sum_comm, sum_assoc}
use Rattle.wide_integers.proofs.Polynomials.{sum_left_comm}

infixl 6 ◌⊕◌ ◌⊖◌
infixl 7 ◌⊗◌
-- a polynomial as it is written, in variables that are numbered
pub data Written : Type 0 where
  var : ℕ → Written
  num : ℤ → Written
  ◌⊕◌ : Written → Written → Written
  ◌⊖◌ : Written → Written → Written
  ◌⊗◌ : Written → Written → Written
  opp : Written → Written

abbrev look : List ℤ → ℕ → ℤ
look [] n = pos 0
look (x ∷ xs) zero = x
look (x ∷ xs) (suc n) = look xs n

abbrev pub value : List ℤ → Written → ℤ
value ρ (var n) = look ρ n
value ρ (num z) = z
value ρ (p ⊕ q) = value ρ p +ℤ value ρ q
value ρ (p ⊖ q) = value ρ p -ℤ value ρ q
value ρ (p ⊗ q) = value ρ p *ℤ value ρ q
value ρ (opp p) = neg_ℤ (value ρ p)

-- ---- a product of variables, in order
abbrev into : ℕ → List ℕ → List ℕ
into v [] = v ∷ []
into v (w ∷ m) = cond (leb v w) (v ∷ w ∷ m) (w ∷ into v m)

abbrev joined : List ℕ → List ℕ → List ℕ
joined [] n = n
joined (v ∷ m) n = into v (joined m n)

abbrev product : List ℤ → List ℕ → ℤ
product ρ [] = pos 1
product ρ (v ∷ m) = look ρ v *ℤ product ρ m

abbrev same : List ℕ → List ℕ → Bool
same [] [] = true
same [] (w ∷ n) = false
same (v ∷ m) [] = false
same (v ∷ m) (w ∷ n) = eqb v w && same m n

-- ---- a sum of such, each with its coefficient
record Term : Type 0 where
  coefficient : ℤ
  variables : List ℕ

abbrev sum : List ℤ → List Term → ℤ
sum ρ [] = pos 0
sum ρ (t ∷ p) = t.coefficient *ℤ product ρ t.variables +ℤ sum ρ p

abbrev with : ℤ → List ℕ → List Term → List Term
with c m [] = record { coefficient = c; variables = m } ∷ []
with c m (t ∷ p) =
    cond (same m t.variables) (record { coefficient = c +ℤ t.coefficient; variables = t.variables } ∷ p) (t ∷ with c m p)

abbrev both : List Term → List Term → List Term
both [] q = q
both (t ∷ p) q = with t.coefficient t.variables (both p q)

abbrev times : ℤ → List ℕ → List Term → List Term
times c m [] = []
times c m (t ∷ p) = with (c *ℤ t.coefficient) (joined m t.variables) (times c m p)

abbrev multiplied : List Term → List Term → List Term
multiplied [] q = []
multiplied (t ∷ p) q = both (times t.coefficient t.variables q) (multiplied p q)

abbrev ordered : Written → List Term
ordered (var n) = record { coefficient = pos 1; variables = n ∷ [] } ∷ []
ordered (num z) = record { coefficient = z; variables = [] } ∷ []
ordered (p ⊕ q) = both (ordered p) (ordered q)
ordered (p ⊖ q) = both (ordered p) (times (negsuc 0) [] (ordered q))
ordered (p ⊗ q) = multiplied (ordered p) (ordered q)
ordered (opp p) = times (negsuc 0) [] (ordered p)

abbrev vanishes : List Term → Bool
vanishes [] = true
vanishes (t ∷ p) = eqb (nat_abs t.coefficient) 0 && vanishes p

-- ---- what they are worth
one_times : (z : ℤ) → pos 1 *ℤ z ≡ z
one_times z = equal (rep_mul (own_pos 1) (own z)) (own z) (omega arith)

minus_times : (z : ℤ) → negsuc 0 *ℤ z ≡ neg_ℤ z
minus_times z = equal (rep_mul (own_neg 0) (own z)) (rep_neg (own z)) (omega arith)

same_is : (m n : List ℕ) → same m n ≡ true → m ≡ n
same_is [] [] h = refl
same_is [] (w ∷ n) h = absurd (false≢true h)
same_is (v ∷ m) [] h = absurd (false≢true h)
same_is (v ∷ m) (w ∷ n) h = λ s.
    eqb-true v w (and_first (eqb v w) (same m n) h) s ∷ same_is m n (and_second (eqb v w) (same m n) h) s

module _ (ρ : List ℤ) where
  into_is : (v : ℕ) (m : List ℕ) → product ρ (into v m) ≡ look ρ v *ℤ product ρ m
  into_is v [] = refl
  into_is v (w ∷ m) = go (leb v w) (into_is v m)
    where
      go : (b : Bool) → product ρ (into v m) ≡ look ρ v *ℤ product ρ m
          → product ρ (cond b (v ∷ w ∷ m) (w ∷ into v m)) ≡ look ρ v *ℤ (look ρ w *ℤ product ρ m)
      go true h = refl
      go false h = ap (λ (z : ℤ). look ρ w *ℤ z) h ∙ times_left_comm (look ρ w) (look ρ v) (product ρ m)

  joined_is : (m n : List ℕ) → product ρ (joined m n) ≡ product ρ m *ℤ product ρ n
  joined_is [] n = sym (one_times (product ρ n))
  joined_is (v ∷ m) n =
      into_is v (joined m n) ∙ ap (λ (z : ℤ). look ρ v *ℤ z) (joined_is m n)
      ∙ sym (times_assoc (look ρ v) (product ρ m) (product ρ n))

  with_is : (c : ℤ) (m : List ℕ) (p : List Term) → sum ρ (with c m p) ≡ c *ℤ product ρ m +ℤ sum ρ p
  with_is c m [] = refl
  with_is c m (t ∷ p) = go (same m t.variables) (same_is m t.variables) (with_is c m p)
    where
      go : (b : Bool) → (b ≡ true → m ≡ t.variables) → sum ρ (with c m p) ≡ c *ℤ product ρ m +ℤ sum ρ p
          → sum ρ (cond b (record { coefficient = c +ℤ t.coefficient; variables = t.variables } ∷ p) (t ∷ with c m p))
          ≡ c *ℤ product ρ m +ℤ (t.coefficient *ℤ product ρ t.variables +ℤ sum ρ p)
      go true f h =
          ap (λ (z : ℤ). z +ℤ sum ρ p) (plus_times c t.coefficient (product ρ t.variables))
          ∙ ap (λ (n : List ℕ). c *ℤ product ρ n +ℤ t.coefficient *ℤ product ρ t.variables +ℤ sum ρ p) (sym (f refl))
          ∙ sum_assoc (c *ℤ product ρ m) (t.coefficient *ℤ product ρ t.variables) (sum ρ p)
      go false f h =
          ap (λ (z : ℤ). t.coefficient *ℤ product ρ t.variables +ℤ z) h
          ∙ sum_left_comm (t.coefficient *ℤ product ρ t.variables) (c *ℤ product ρ m) (sum ρ p)

  both_is : (p q : List Term) → sum ρ (both p q) ≡ sum ρ p +ℤ sum ρ q
  both_is [] q = sym (+ℤ_idl (sum ρ q))
  both_is (t ∷ p) q =
      with_is t.coefficient t.variables (both p q)
      ∙ ap (λ (z : ℤ). t.coefficient *ℤ product ρ t.variables +ℤ z) (both_is p q)
      ∙ sym (sum_assoc (t.coefficient *ℤ product ρ t.variables) (sum ρ p) (sum ρ q))

  times_is : (c : ℤ) (m : List ℕ) (p : List Term) → sum ρ (times c m p) ≡ c *ℤ product ρ m *ℤ sum ρ p
  times_is c m [] = sym (*ℤ-zero (c *ℤ product ρ m))
  times_is c m (t ∷ p) =
      let e = t.coefficient in
      let n = t.variables in
      with_is (c *ℤ e) (joined m n) (times c m p)
      ∙ (λ s. c *ℤ e *ℤ joined_is m n s +ℤ times_is c m p s)
      ∙ shuffle c e (product ρ m) (product ρ n) (sum ρ p)
    where
      shuffle : (c e m n s : ℤ) → c *ℤ e *ℤ (m *ℤ n) +ℤ c *ℤ m *ℤ s ≡ c *ℤ m *ℤ (e *ℤ n +ℤ s)
      shuffle c e m n s = simp ring

  multiplied_is : (p q : List Term) → sum ρ (multiplied p q) ≡ sum ρ p *ℤ sum ρ q
  multiplied_is [] q = sym (zero-*ℤ (sum ρ q))
  multiplied_is (t ∷ p) q =
      both_is (times t.coefficient t.variables q) (multiplied p q)
      ∙ (λ s. times_is t.coefficient t.variables q s +ℤ multiplied_is p q s)
      ∙ sym (plus_times (t.coefficient *ℤ product ρ t.variables) (sum ρ p) (sum ρ q))

  opposite_is : (p : List Term) → sum ρ (times (negsuc 0) [] p) ≡ neg_ℤ (sum ρ p)
  opposite_is p = times_is (negsuc 0) [] p ∙ minus_times (sum ρ p)

  ordered_is : (w : Written) → sum ρ (ordered w) ≡ value ρ w
  ordered_is (var n) = sum_comm (pos 1 *ℤ (look ρ n *ℤ pos 1)) (pos 0) ∙ +ℤ_idl (pos 1 *ℤ (look ρ n *ℤ pos 1))
      ∙ one_times (look ρ n *ℤ pos 1) ∙ times_comm (look ρ n) (pos 1) ∙ one_times (look ρ n)
  ordered_is (num z) = sum_comm (z *ℤ pos 1) (pos 0) ∙ +ℤ_idl (z *ℤ pos 1) ∙ times_comm z (pos 1) ∙ one_times z
  ordered_is (p ⊕ q) = both_is (ordered p) (ordered q) ∙ (λ s. ordered_is p s +ℤ ordered_is q s)
  ordered_is (p ⊖ q) =
      both_is (ordered p) (times (negsuc 0) [] (ordered q))
      ∙ (λ s. ordered_is p s +ℤ (opposite_is (ordered q) ∙ ap neg_ℤ (ordered_is q)) s)
  ordered_is (p ⊗ q) = multiplied_is (ordered p) (ordered q) ∙ (λ s. ordered_is p s *ℤ ordered_is q s)
  ordered_is (opp p) = opposite_is (ordered p) ∙ ap neg_ℤ (ordered_is p)

  vanishes_is : (p : List Term) → vanishes p ≡ true → sum ρ p ≡ pos 0
  vanishes_is [] h = refl
  vanishes_is (t ∷ p) h =
      let z : t.coefficient ≡ pos 0 =
      size_zero t.coefficient (eqb-true (nat_abs t.coefficient) 0 (and_first (eqb (nat_abs t.coefficient) 0) (vanishes p) h)) in
      (λ s. z s *ℤ product ρ t.variables +ℤ vanishes_is p (and_second (eqb (nat_abs t.coefficient) 0) (vanishes p) h) s)
      ∙ ap (λ (y : ℤ). y +ℤ pos 0) (zero-*ℤ (product ρ t.variables))

-- the same polynomial, written in two ways
pub alike : (ρ : List ℤ) (p q : Written) → vanishes (ordered (p ⊖ q)) ≡ true → value ρ p ≡ value ρ q
alike ρ p q h =
    equal_of_minus (value ρ p) (value ρ q) (sym (ordered_is ρ (p ⊖ q)) ∙ vanishes_is ρ (ordered (p ⊖ q)) h)
