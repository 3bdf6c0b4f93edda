-- The cases that `root` tells apart by its tests: above zero, by the bit pattern; a zero; and the rest, whose root is NaN. Assumes nothing.
use Rattle.std.proofs.Common.{◌≡◌, ℕ, zero, suc, ◌+◌, ◌*◌, ◌/◌, ◌%◌, ◌^◌, ◌<◌, ◌≤◌, Bool, true, false, cond, not, ◌&&◌, ◌||◌, T, eqb, leb}
use Rattle.std.proofs.Common.{ℤ, pos, sym, refl, ap, ◌∙◌, subst, inl, inr, lt_irrefl, zero-lt-suc, eq-zero-or-pos, mul-pos, zero-mul, arith}
use Rattle.std.proofs.Common.{lt-ltb, eqb-true, leb-false}
use mathlib.Core.Bool.{beq, false≢true}
use lib.Ieee.{Float, nan, inf, fin, binary64, up, down, odd, of_fields, of_bits, to_bits, fits, is_nan, lt, eq, div}
use lib.Ieee.Fits.{up_pos}
use lib.Ieee.Bits.{of_bits-to_bits}
use Rattle.lists.proofs.JoinedTests.{and_first}
use Rattle.arithmetic.specs.Root.{root_of}
use Rattle.arithmetic.proofs.RootPatterns.{positive_fields, signed_fields, top_field}

abbrev pub none : Float
none = fin false 0 (pos 0)

pub zero_pattern : of_bits binary64 0 ≡ none
unfolding of_bits
zero_pattern = refl

-- ---- above zero
pub above_no_nan : (x : Float) → lt (of_bits binary64 0) x ≡ true → T (not (is_nan x))
above_no_nan x h = go x (subst (λ (z : Float). lt z x ≡ true) zero_pattern h)
  where
    go : (x : Float) → lt none x ≡ true → T (not (is_nan x))
    go nan h = absurd (false≢true (unfold lt in h))
    go (inf s) h = unfold is_nan in tt
    go (fin s m e) h = unfold is_nan in tt

pub below_no_nan : (x y : Float) → lt x y ≡ true → T (not (is_nan x))
unfolding lt
below_no_nan nan nan h = absurd (false≢true h)
below_no_nan nan (inf s) h = absurd (false≢true h)
below_no_nan nan (fin s m e) h = absurd (false≢true h)
below_no_nan (inf s) y h = unfold is_nan in tt
below_no_nan (fin s m e) y h = unfold is_nan in tt

none_above_itself : lt none none ≡ false
unfolding lt
none_above_itself = refl

pub above_pattern : (x : Float) → T (fits binary64 x) → lt (of_bits binary64 0) x ≡ true → 0 < to_bits binary64 x
above_pattern x f h =
    elim (eq-zero-or-pos (to_bits binary64 x)) [
      | inl z ↦
          let e : x ≡ none = sym (of_bits-to_bits binary64 x f) ∙ ap (of_bits binary64) z ∙ zero_pattern in
          absurd (false≢true (sym none_above_itself ∙ ap (lt none) (sym e) ∙ ap (λ (z : Float). lt z x) (sym zero_pattern) ∙ h))
      | inr p ↦ p
    ]

-- what has a set sign is not above zero
negative_odd : (q k : ℕ) → lt none (odd 53 true q k 1074) ≡ false
unfolding odd lt
negative_odd zero k = refl
negative_odd (suc q) k = refl

negative_top : (a b : Bool) (v : Float) → lt none v ≡ false → lt none (cond a (cond b (inf true) nan) v) ≡ false
unfolding lt
negative_top true true v h = refl
negative_top true false v h = refl
negative_top false b v h = h

negative_fields : (x t : ℕ) → lt none (of_fields binary64 true x t) ≡ false
unfolding of_fields
negative_fields zero t = negative_odd t 0
negative_fields (suc x) t = negative_top (eqb (suc x) 2047) (eqb t 0) (odd 53 true (2 ^ 52 + t) x 1074) (negative_odd (2 ^ 52 + t) x)

infinite : (c : Bool) → lt none (cond c (inf false) nan) ≡ true → cond c (inf false) nan ≡ inf false
infinite true h = refl
infinite false h = absurd (false≢true (unfold lt in h))

highest : (b : ℕ) → 2047 * 2 ^ 52 ≤ b → lt none (of_bits binary64 b) ≡ true → of_bits binary64 b ≡ inf false
highest b l h = go (leb (2 ^ 63) b) refl
  where
    field : b < 2 ^ 63 → b / 2 ^ 52 ≡ 2047
    field k = omega arith

    go : (s : Bool) → leb (2 ^ 63) b ≡ s → of_bits binary64 b ≡ inf false
    go true e =
        absurd (false≢true (sym (negative_fields (b % 2 ^ 63 / 2 ^ 52) (b % 2 ^ 52))
        ∙ ap (lt none) (sym (signed_fields b ∙ ap (λ (s : Bool). of_fields binary64 s (b % 2 ^ 63 / 2 ^ 52) (b % 2 ^ 52)) e)) ∙ h))
    go false e =
        let k : b < 2 ^ 63 = leb-false (2 ^ 63) b e in
        let v : of_bits binary64 b ≡ cond (eqb (b % 2 ^ 52) 0) (inf false) nan = positive_fields b k ∙ ap
        (λ (z : ℕ). of_fields binary64 false z (b % 2 ^ 52)) (field k) ∙ top_field (b % 2 ^ 52) in
        v ∙ infinite (eqb (b % 2 ^ 52) 0) (sym (ap (lt none) v) ∙ h)

pub highest_infinite : (x : Float) → T (fits binary64 x) → lt (of_bits binary64 0) x ≡ true → 2047 * 2 ^ 52 ≤ to_bits binary64 x → x ≡ inf
    false
highest_infinite x f h l =
    let v : of_bits binary64 (to_bits binary64 x) ≡ x = of_bits-to_bits binary64 x f in
    sym v ∙ highest (to_bits binary64 x) l (ap (lt none) v ∙ ap (λ (z : Float). lt z x) (sym zero_pattern) ∙ h)

pub infinite_root : inf false ≡ root_of (inf false)
unfolding root_of
infinite_root = refl

pub highest_is_root : (x : Float) → T (fits binary64 x) → lt (of_bits binary64 0) x ≡ true → 2047 * 2 ^ 52 ≤ to_bits binary64 x → x
    ≡ root_of x
highest_is_root x f h l =
    let v : x ≡ inf false = highest_infinite x f h l in
    v ∙ infinite_root ∙ ap root_of (sym v)

-- ---- a zero is its own root
size_pos : (m : ℕ) (e : ℤ) → 0 < suc m * up e * 1
size_pos m e = mul-pos (mul-pos (zero-lt-suc m) (up_pos e)) (zero-lt-suc 0)

zero_root : (x : Float) → eq x none ≡ true → x ≡ root_of x
unfolding eq root_of
zero_root nan h = absurd (false≢true h)
zero_root (inf s) h = absurd (false≢true h)
zero_root (fin s zero e) h = refl
zero_root (fin s (suc m) e) h =
    let z : suc m * up e * 1 ≡ 0 * down e = eqb-true (suc m * up e * 1) (0 * down e)
    (and_first (eqb (suc m * up e * 1) (0 * down e)) (beq s false || eqb (suc m * up e * 1) 0) h) in
    absurd (lt_irrefl 0 (subst (λ (k : ℕ). 0 < k) (z ∙ zero-mul (down e)) (size_pos m e)))

pub zero_is_root : (x : Float) → eq x (of_bits binary64 0) ≡ true → x ≡ root_of x
zero_is_root x h = zero_root x (subst (λ (z : Float). eq x z ≡ true) zero_pattern h)

-- ---- NaN, and what is below zero, has the root NaN
pub zero_equal : (s : Bool) (e : ℤ) → eq (fin s zero e) none ≡ true
unfolding eq
zero_equal s e =
    let z : zero * up e * 1 ≡ 0 = ap (λ (k : ℕ). k * 1) (zero-mul (up e)) in
    let w : 0 * down e ≡ 0 = zero-mul (down e) in
    ap (λ (k : ℕ). eqb k (0 * down e) && (beq s false || eqb k 0)) z ∙ ap (λ (k : ℕ). eqb 0 k && (beq s false || true)) w ∙
    or-true (beq s false)
  where
    or-true : (b : Bool) → (b || true) ≡ true
    or-true true = refl
    or-true false = refl

pub positive_above : (m : ℕ) (e : ℤ) → lt none (fin false (suc m) e) ≡ true
unfolding lt
positive_above m e = lt-ltb (0 * 1 * down e) (suc m * up e * 1)
    (subst (λ (k : ℕ). k < suc m * up e * 1) (sym (zero-mul (down e))) (size_pos m e))

no_root : (x : Float) → lt none x ≡ false → eq x none ≡ false → nan ≡ root_of x
unfolding root_of
no_root nan h k = refl
no_root (inf true) h k = refl
no_root (inf false) h k = absurd (false≢true (sym (unfold lt in h)))
no_root (fin s zero e) h k = absurd (false≢true (sym k ∙ zero_equal s e))
no_root (fin true (suc m) e) h k = refl
no_root (fin false (suc m) e) h k = absurd (false≢true (sym h ∙ positive_above m e))

pub zero_over_zero : div binary64 (of_bits binary64 0) (of_bits binary64 0) ≡ nan
unfolding div of_bits
zero_over_zero = refl

pub quotient_is_root : (x : Float) → lt (of_bits binary64 0) x ≡ false → eq x (of_bits binary64 0) ≡ false
    → div binary64 (of_bits binary64 0)
    (of_bits binary64 0) ≡ root_of x
quotient_is_root x h k = zero_over_zero ∙ no_root x (subst (λ (z : Float). lt z x ≡ false) zero_pattern h)
    (subst (λ (z : Float). eq x z ≡ false) zero_pattern k)
