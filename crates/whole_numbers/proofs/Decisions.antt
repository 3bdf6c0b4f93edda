-- What the comparisons of a quotient of whole numbers say: exactly what the whole numbers say. Assumes nothing.
use mathlib.Core.Path.{◌≡◌, refl, sym, ap, ◌∙◌, subst}
use mathlib.Core.Bool.{Bool, true, false, not}
use Prim.Native.Nat.{ℕ, zero, suc, ◌+◌, ◌*◌, ◌^◌, ◌≤◌, ◌<◌}
use native.Mathlib.Nat.{mul_right_comm, mul-pos, zero-lt-suc, zero-mul, le_of_mul-le-mul_right}
use native.Mathlib.Nat.{mul-le-mul_right, le_trans, le_of_eq, lt_of_not-le}
use native.Mathlib.Omega.{arith}
use lib.Dec.{ltb}
use lib.IntN.{ℤ, pos, negsuc, nat_abs, neg_ℤ}
use lib.Ieee.{Float, nan, inf, fin, of_bits, down, lt, unlike, below}
use lib.Ieee.Fits.{down_pos}
use lib.Ieee.Exact.{HasValue}
use borrow.Author.Tests.{lt-ltb, le-ltb}
use Rattle.vectors.specs.Numbers.{◌*ᶠ◌, ◌/ᶠ◌, zeroᶠ, oneᶠ}
use Rattle.arithmetic.specs.Scaling.{unit}
use Rattle.arithmetic.proofs.SignedOrder.{plus, less}
use Rattle.wide_integers.proofs.Integers.{pp, np, no_factor, neg_pp, neg_np, neg_size}
use Rattle.exact_depth.proofs.Standing.{Stands}
use Rattle.arithmetic.proofs.ValueOrder.{lt_values}
use Rattle.arithmetic.proofs.ScalingLaws.{unit_pos}
use Rattle.whole_numbers.proofs.Quotients.{Quotient, inverse_near, product_near}

-- ---- a float of a whole number, by its sign and its size
pub record Parted (x : Float) (z : ℤ) : Type 0 where
  pub sign : Bool
  pub value : HasValue x sign (nat_abs z) 1
  pub over : pp z ≡ plus sign (nat_abs z)
  pub below_zero : np z ≡ less sign (nat_abs z)

pub parted : (x : Float) (z : ℤ) → Stands x z → Parted x z
parted nan z v = absurd v
parted (inf s) z v = absurd v
parted (fin false m e) (pos n) v = record { sign = false; value = (refl, omega (arith, v)); over = refl; below_zero = refl }
parted (fin false m e) (negsuc n) v = let d = mul-pos (zero-lt-suc n) (down_pos e) in absurd (omega (arith, v, d))
parted (fin true m e) (pos n) v =
    let c : n * down e ≡ 0 = omega (arith, v) in
    let z : n ≡ 0 = no_factor n (down e) (down_pos e) c in
    record { sign = true; value = (refl, omega (arith, v)); over = z; below_zero = sym z }
parted (fin true m e) (negsuc n) v = record { sign = true; value = (refl, omega (arith, v)); over = refl; below_zero = refl }

-- ---- a quotient with its sign
pub record Ratio (x : Float) (z : ℤ) (D : ℕ) : Type 0 where
  pub sign : Bool
  pub quotient : Quotient x sign (nat_abs z) D
  pub over : pp z ≡ plus sign (nat_abs z)
  pub below_zero : np z ≡ less sign (nat_abs z)

-- N with the sign of N / D
abbrev pub signed_by : ℤ → ℤ → ℤ
signed_by (pos d) n = n
signed_by (negsuc d) n = neg_ℤ n

pub signed_size : (d n : ℤ) → nat_abs (signed_by d n) ≡ nat_abs n
signed_size (pos d) n = refl
signed_size (negsuc d) n = neg_size n

plus_not : (s : Bool) (a : ℕ) → plus (not s) a ≡ less s a
plus_not true a = refl
plus_not false a = refl

less_not : (s : Bool) (a : ℕ) → less (not s) a ≡ plus s a
less_not true a = refl
less_not false a = refl

-- the sign of a whole number that is not 0
sign_pos : (s : Bool) (n : ℕ) → 0 < n → n ≡ plus s n → s ≡ false
sign_pos false n p h = refl
sign_pos true n p h = absurd (omega arith)

sign_neg : (s : Bool) (n : ℕ) → 0 < n → n ≡ less s n → s ≡ true
sign_neg true n p h = refl
sign_neg false n p h = absurd (omega arith)

unlike_false : (t : Bool) → unlike t false ≡ t
unlike_false true = refl
unlike_false false = refl

unlike_true : (t : Bool) → unlike t true ≡ not t
unlike_true true = refl
unlike_true false = refl

-- N times the rounded inverse of D
pub ratio : (y x : Float) (n d : ℤ) → Stands y n → Stands x d → 0 < nat_abs d → nat_abs n ≤ 2 ^ 53 → nat_abs d ≤ 2 ^ 53
    → Ratio (y *ᶠ (oneᶠ /ᶠ x)) (signed_by d n) (nat_abs d)
ratio y x n (pos D) v w p h k =
    let a = parted y n v in
    let b = parted x (pos D) w in
    let s : unlike a.sign b.sign ≡ a.sign =
    ap (λ (z : Bool). unlike a.sign z) (sign_pos b.sign D p b.over) ∙ unlike_false a.sign in
    record {
      sign = unlike a.sign b.sign;
      quotient = product_near y (oneᶠ /ᶠ x) a.sign b.sign (nat_abs n) D a.value h (inverse_near x b.sign D b.value p k) p k;
      over = a.over ∙ ap (λ (z : Bool). plus z (nat_abs n)) (sym s);
      below_zero = a.below_zero ∙ ap (λ (z : Bool). less z (nat_abs n)) (sym s);
    }
ratio y x n (negsuc D) v w p h k =
    let a = parted y n v in
    let b = parted x (negsuc D) w in
    let s : unlike a.sign b.sign ≡ not a.sign =
    ap (λ (z : Bool). unlike a.sign z) (sign_neg b.sign (suc D) p b.below_zero) ∙ unlike_true a.sign in
    let e : nat_abs (neg_ℤ n) ≡ nat_abs n = neg_size n in
    record {
      sign = unlike a.sign b.sign;
      quotient = subst (λ (m : ℕ). Quotient (y *ᶠ (oneᶠ /ᶠ x)) (unlike a.sign b.sign) m (suc D)) (sym e)
          (product_near y (oneᶠ /ᶠ x) a.sign b.sign (nat_abs n) (suc D) a.value h
          (inverse_near x b.sign (suc D) b.value p k) p k);
      over =
          neg_pp n ∙ a.below_zero ∙ sym (plus_not a.sign (nat_abs n)) ∙ ap (λ (z : Bool). plus z (nat_abs n)) (sym s)
          ∙ ap (λ (m : ℕ). plus (unlike a.sign b.sign) m) (sym e);
      below_zero =
          neg_np n ∙ a.over ∙ sym (less_not a.sign (nat_abs n)) ∙ ap (λ (z : Bool). less z (nat_abs n)) (sym s)
          ∙ ap (λ (m : ℕ). less (unlike a.sign b.sign) m) (sym e);
    }

-- ---- comparisons
pub zero_value : HasValue zeroᶠ false 0 1
unfolding of_bits
zero_value = (refl, refl)

some : (N g D : ℕ) → 0 < N → 2 ^ 51 * (N * unit) ≤ 2 ^ 51 * (g * D) + N * unit → 0 < g
some N zero D h k = let u = mul-pos h unit_pos in absurd (omega (arith, k, u))
some N (suc g) D h k = zero-lt-suc g

pub nothing : (g D : ℕ) → 0 < D → 2 ^ 51 * (g * D) ≤ 2 ^ 51 * (0 * unit) + 0 * unit → g ≡ 0
nothing zero D p k = refl
nothing (suc g) D p k = let u = mul-pos (zero-lt-suc g) p in absurd (omega (arith, k, u))

-- against a 0 of either sign
below_any_zero : (s t : Bool) (g k : ℕ) → below s (g * 1) t (0 * k) ≡ below s (g * 1) false (0 * k)
below_any_zero s false g k = refl
below_any_zero false true g k = sym (le-ltb (g * 1) (0 * k) (omega arith))
below_any_zero true true g k = let e : g * 1 ≡ g * 1 + 0 * k = omega arith in ap (λ (z : ℕ). ltb z (g * 1)) (zero-mul k) ∙ ap (ltb 0) e

not_under : (s : Bool) (N g D : ℕ) → 0 < D → 0 ≡ less s N → 2 ^ 51 * (g * D) ≤ 2 ^ 51 * (N * unit) + N * unit
    → below s (g * 1) false (0 * unit) ≡ false
not_under false N g D p h k = le-ltb (g * 1) (0 * unit) (omega arith)
not_under true N g D p h k =
    let e : g ≡ 0 = nothing g D p (subst (λ (m : ℕ). 2 ^ 51 * (g * D) ≤ 2 ^ 51 * (m * unit) + m * unit) (sym h) k) in
    le-ltb 0 (g * 1 + 0 * unit) (omega (arith, e))

under : (s : Bool) (N g D : ℕ) → 0 < less s N → 2 ^ 51 * (N * unit) ≤ 2 ^ 51 * (g * D) + N * unit → below s (g * 1) false (0 * unit) ≡ true
under false N g D h k = absurd (omega arith)
under true N g D h k = let a = some N g D h k in lt-ltb 0 (g * 1 + 0 * unit) (omega (arith, a))

-- with B for M * D * unit, A for N * unit and C for g * D
-- (in steps, so that no number in `omega` grows past its 38 digits)
bound_kept : (A B C : ℕ) → C ≤ B → 2 ^ 51 * A ≤ 2 ^ 51 * C + A → 2 ^ 51 * A ≤ 2 ^ 51 * B + A
bound_kept A B C l m = omega arith

unit_below_bound : (A B U : ℕ) → B + U ≤ A → 2 ^ 51 * A ≤ 2 ^ 51 * B + A → 2 ^ 51 * U ≤ B + U
unit_below_bound A B U h m = omega arith

no_unit_below : (B U : ℕ) → 0 < U → B ≤ 2 ^ 43 * U → 2 ^ 51 * U ≤ B + U → ⊥
no_unit_below B U u k m = omega arith

too_far : (A B C U : ℕ) → 0 < U → B + U ≤ A → B ≤ 2 ^ 43 * U → C ≤ B → 2 ^ 51 * A ≤ 2 ^ 51 * C + A → ⊥
too_far A B C U u h k l m = no_unit_below B U u k (unit_below_bound A B U h (bound_kept A B C l m))

below_many_units : (A B U : ℕ) → A + U ≤ B → B ≤ 2 ^ 43 * U → A ≤ 2 ^ 51 * U
below_many_units A B U h k = omega arith

below_by_units : (A a b c u : ℕ) → a + u ≤ b → A ≤ u → c ≤ a + A → c ≤ b
below_by_units A a b c u h k l = omega arith

power_of_both : (A B U : ℕ) → A + U ≤ B → 2 ^ 51 * A + 2 ^ 51 * U ≤ 2 ^ 51 * B
power_of_both A B U h = omega arith

power_cancelled : (B C : ℕ) → 2 ^ 51 * C ≤ 2 ^ 51 * B → C ≤ B
power_cancelled B C h = omega arith

pub not_far : (A B C U : ℕ) → A + U ≤ B → B ≤ 2 ^ 43 * U → 2 ^ 51 * C ≤ 2 ^ 51 * A + A → C ≤ B
not_far A B C U h k m =
    power_cancelled B C
    (below_by_units A (2 ^ 51 * A) (2 ^ 51 * B) (2 ^ 51 * C) (2 ^ 51 * U) (power_of_both A B U h) (below_many_units A B U h k) m)

over_whole : (M N D g : ℕ) → M * D < N → M * D ≤ 2 ^ 43 → 2 ^ 51 * (N * unit) ≤ 2 ^ 51 * (g * D) + N * unit → M * unit < g
over_whole M N D g h k l = lt_of_not-le (λ (c : g ≤ M * unit).
    too_far (N * unit) (M * D * unit) (g * D) unit unit_pos
    (le_trans (omega arith) (mul-le-mul_right unit h)) (mul-le-mul_right unit k)
    (le_trans (mul-le-mul_right D c) (le_of_eq (mul_right_comm M unit D))) l)

up_to_whole : (M N D g : ℕ) → 0 < D → N < M * D → M * D ≤ 2 ^ 43 → 2 ^ 51 * (g * D) ≤ 2 ^ 51 * (N * unit) + N * unit → g ≤ M * unit
up_to_whole M N D g p h k l =
    le_of_mul-le-mul_right
    (le_trans
    (not_far (N * unit) (M * D * unit) (g * D) unit (le_trans (omega arith) (mul-le-mul_right unit h)) (mul-le-mul_right unit k) l)
    (le_of_eq (mul_right_comm M D unit))) p

module _ (x : Float) (z : ℤ) (D : ℕ) (p : 0 < D) (r : Ratio x z D) where
  pub not_negative : np z ≡ 0 → lt x zeroᶠ ≡ false
  not_negative h =
      let q = r.quotient in
      lt_values x zeroᶠ r.sign false q.units unit 0 1 unit_pos (zero-lt-suc 0) q.value zero_value
      ∙ not_under r.sign (nat_abs z) q.units D p (sym h ∙ r.below_zero) q.upper

  -- the same against any float of the value 0, -0 too
  pub near_is : (y : Float) (t : Bool) → HasValue y t 0 1 → lt x y ≡ lt x zeroᶠ
  near_is y t v =
      let q = r.quotient in
      lt_values x y r.sign t q.units unit 0 1 unit_pos (zero-lt-suc 0) q.value v
      ∙ below_any_zero r.sign t q.units unit
      ∙ sym (lt_values x zeroᶠ r.sign false q.units unit 0 1 unit_pos (zero-lt-suc 0) q.value zero_value)

  pub negative : 0 < np z → lt x zeroᶠ ≡ true
  negative h =
      let q = r.quotient in
      lt_values x zeroᶠ r.sign false q.units unit 0 1 unit_pos (zero-lt-suc 0) q.value zero_value
      ∙ under r.sign (nat_abs z) q.units D (subst (λ (m : ℕ). 0 < m) r.below_zero h) q.lower

  module _ (y : Float) (M : ℕ) (v : HasValue y false M 1) where
    above_is : lt y x ≡ below false (M * unit) r.sign (r.quotient.units * 1)
    above_is = lt_values y x false r.sign M 1 r.quotient.units unit (zero-lt-suc 0) unit_pos v r.quotient.value

    pub above_whole : M * D < pp z → M * D ≤ 2 ^ 43 → lt y x ≡ true
    above_whole h k = above_is ∙ go r.sign r.over
      where
        go : (s : Bool) → pp z ≡ plus s (nat_abs z) → below false (M * unit) s (r.quotient.units * 1) ≡ true
        go true e = absurd (omega arith)
        go false e =
            let a =
            over_whole M (nat_abs z) D r.quotient.units (omega arith) k r.quotient.lower in lt-ltb (M * unit)
            (r.quotient.units * 1) (omega (arith, a))

    not_above : r.quotient.units ≤ M * unit → (s : Bool) → below false (M * unit) s (r.quotient.units * 1) ≡ false
    not_above a true = refl
    not_above a false = le-ltb (M * unit) (r.quotient.units * 1) (omega arith)

    pub not_above_whole : nat_abs z < M * D → M * D ≤ 2 ^ 43 → lt y x ≡ false
    not_above_whole h k = above_is ∙ not_above (up_to_whole M (nat_abs z) D r.quotient.units p h k r.quotient.upper) r.sign
