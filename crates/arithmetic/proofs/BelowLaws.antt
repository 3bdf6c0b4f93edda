-- The float just below a finite number is below it, no float lies between, and it is an f64 where the number is. Assumes nothing.
use Rattle.std.proofs.Common.{◌≡◌, ℕ, zero, suc, ◌+◌, ◌-◌, ◌*◌, ◌%◌, ◌^◌, ◌<◌, ◌≤◌, Bool, true, false, not, T, ltb, ◌⊎◌, ℤ, sym, refl, ap}
use Rattle.std.proofs.Common.{◌∙◌, subst, inl, inr, true≢false, eq-or-lt_of_le, zero-mul, arith, ltb-false, ltb-true, le-ltb, lt-ltb}
use mathlib.Core.Bool.{false≢true}
use lib.Ieee.{Float, nan, inf, fin, binary64, up, down, of_bits, to_bits, nan_bits, fits, is_nan, neg, lt, le}
use lib.Ieee.Bits.{of_bits-to_bits, of_bits-fits, nan_bits_above}
use lib.Ieee.Fits.{cond-fits, neg-fits}
use lib.Ieee.Exact.{HasValue}
use Rattle.arithmetic.specs.Basic.{is_finite, absolute}
use Rattle.arithmetic.specs.Below.{just_below}
use Rattle.arithmetic.proofs.Order.{le_of_not_lt, le_of_lt, le_left_number, le_right_number, not_lt_of_le, nan_lt_false}
use Rattle.arithmetic.proofs.Order.{lt_irreflexive}
use Rattle.arithmetic.proofs.SignBit.{absolute_fits}
use Rattle.arithmetic.proofs.Patterns.{endless, endless_is, in_units, pattern_value, patterns_le, patterns_lt, patterns_back}
use Rattle.arithmetic.proofs.Patterns.{pattern_most, pattern_finite}
use Rattle.arithmetic.proofs.Sizes.{number_neg}

abbrev none : Float
none = of_bits binary64 0

-- ---- above zero
above_is_own : (x : Float) → lt none x ≡ true → absolute x ≡ x
unfolding of_bits lt absolute
above_is_own nan h = refl
above_is_own (inf true) h = absurd (false≢true h)
above_is_own (inf false) h = refl
above_is_own (fin true m e) h = absurd (false≢true h)
above_is_own (fin false m e) h = refl

pub above_number : (x : Float) → lt none x ≡ true → is_nan x ≡ false
above_number x h = le_right_number none x (le_of_lt none x h)

own_bits : (x : Float) → T (fits binary64 x) → lt none x ≡ true → to_bits binary64 x ≤ endless
own_bits x f h = subst (λ (z : Float). to_bits binary64 z ≤ endless) (above_is_own x h) (pattern_most x f (above_number x h))

pub above_bits : (x : Float) → T (fits binary64 x) → lt none x ≡ true → 1 ≤ to_bits binary64 x
above_bits x f h = go (to_bits binary64 x) refl
  where
    go : (b : ℕ) → to_bits binary64 x ≡ b → 1 ≤ b
    go zero e =
        absurd (true≢false
        (sym h ∙ ap (lt none) (sym (of_bits-to_bits binary64 x f) ∙ ap (of_bits binary64) e) ∙ lt_irreflexive none))
    go (suc b) e = omega arith

-- patterns up to the infinity's are no NaN's
pub plain_pattern : (b : ℕ) → b ≤ endless → nan_bits binary64 b ≡ false
plain_pattern b h =
    nan_bits_above binary64 b
    ∙ (let e : b % 0x8000_0000_0000_0000 ≤ endless = omega arith in le-ltb endless (b % 0x8000_0000_0000_0000) e)

pub lower_pattern : (x : Float) → T (fits binary64 x) → lt none x ≡ true → T (not (nan_bits binary64 (to_bits binary64 x - 1)))
lower_pattern x f h =
    let l = own_bits x f h in
    subst (λ (b : Bool). T (not b)) (sym (plain_pattern (to_bits binary64 x - 1) (omega arith))) tt

pub higher_pattern : (x : Float) → T (fits binary64 x) → is_finite x ≡ true
    → T (not (nan_bits binary64 (to_bits binary64 (absolute x) + 1)))
higher_pattern x f h =
    let l = pattern_finite x f h in
    subst (λ (b : Bool). T (not b)) (sym (plain_pattern (to_bits binary64 (absolute x) + 1) (omega arith))) tt

pub higher_fits : (x : Float) → T (fits binary64 x) → is_finite x ≡ true → to_bits binary64 (absolute x) + 1 < 2 ^ 64
higher_fits x f h = let l = pattern_finite x f h in omega arith

pub absolute_number : (x : Float) → is_finite x ≡ true → T (not (is_nan (absolute x)))
unfolding absolute is_finite is_nan
absolute_number nan h = absurd (false≢true h)
absolute_number (inf s) h = tt
absolute_number (fin s m e) h = tt

-- ---- the order of the sizes of numbers at or below zero
lt_neg : (x y : Float) → lt (neg y) (neg x) ≡ lt x y
unfolding lt neg
lt_neg nan nan = refl
lt_neg nan (inf t) = refl
lt_neg nan (fin t n d) = refl
lt_neg (inf s) nan = refl
lt_neg (inf true) (inf true) = refl
lt_neg (inf true) (inf false) = refl
lt_neg (inf false) (inf true) = refl
lt_neg (inf false) (inf false) = refl
lt_neg (inf true) (fin t n d) = refl
lt_neg (inf false) (fin t n d) = refl
lt_neg (fin s m e) nan = refl
lt_neg (fin s m e) (inf true) = refl
lt_neg (fin s m e) (inf false) = refl
lt_neg (fin true m e) (fin true n d) = refl
lt_neg (fin true m e) (fin false n d) =
    let e : n * up d * down e + m * up e * down d ≡ m * up e * down d + n * up d * down e = omega arith in ap (ltb 0) e
lt_neg (fin false m e) (fin true n d) = refl
lt_neg (fin false m e) (fin false n d) = refl

pub le_neg : (x y : Float) → is_nan x ≡ false → is_nan y ≡ false → le x y ≡ true → le (neg y) (neg x) ≡ true
le_neg x y p q h = le_of_not_lt (neg y) (neg x) (number_neg y ∙ q) (number_neg x ∙ p) (lt_neg y x ∙ not_lt_of_le x y h)

-- -∞ is at most any number
endless_below : (w : Float) → is_nan w ≡ false → le (inf true) w ≡ true
unfolding is_nan le
endless_below nan n = absurd (true≢false n)
endless_below (inf true) n = refl
endless_below (inf false) n = refl
endless_below (fin s m e) n = refl

-- a finite number below one that is not above zero has the larger size, and is negative
below_both : (x z : Float) → lt none x ≡ false → is_finite x ≡ true → lt z x ≡ true → is_finite z ≡ true
    → (z ≡ neg (absolute z)) × (lt (absolute x) (absolute z) ≡ true)
unfolding of_bits lt is_finite absolute neg
below_both nan z a p h q = absurd (false≢true p)
below_both (inf s) z a p h q = absurd (false≢true p)
below_both (fin s m e) nan a p h q = absurd (false≢true q)
below_both (fin s m e) (inf t) a p h q = absurd (false≢true q)
below_both (fin true m e) (fin true n d) a p h q = (refl, h)
below_both (fin true m e) (fin false n d) a p h q = absurd (false≢true h)
below_both (fin false m e) (fin true n d) a p h q =
    let k = ltb-false (0 * down e) (m * up e * 1) a in
    let l : 0 < n * up d * down e + m * up e * down d = ltb-true 0 (n * up d * down e + m * up e * down d) h in
    let none : m * up e ≡ 0 = omega arith in
    let nothing : m * up e * down d ≡ 0 = ap (λ (i : ℕ). i * down d) none ∙ zero-mul (down d) in
    (refl, lt-ltb (m * up e * down d) (n * up d * down e) (omega arith))
below_both (fin false m e) (fin false n d) a p h q =
    let k = ltb-false (0 * down e) (m * up e * 1) a in
    let l : n * up d * down e < m * up e * down d = ltb-true (n * up d * down e) (m * up e * down d) h in
    let none : m * up e ≡ 0 = omega arith in
    let nothing : m * up e * down d ≡ 0 = ap (λ (i : ℕ). i * down d) none ∙ zero-mul (down d) in
    absurd (omega arith)

-- the negative of a number of a larger size is below
larger_below : (x y : Float) → is_finite x ≡ true → lt (absolute x) y ≡ true → lt (neg y) x ≡ true
unfolding lt is_finite absolute neg
larger_below nan y p h = absurd (false≢true p)
larger_below (inf s) y p h = absurd (false≢true p)
larger_below (fin s m e) nan p h = absurd (false≢true h)
larger_below (fin s m e) (inf true) p h = absurd (false≢true h)
larger_below (fin s m e) (inf false) p h = refl
larger_below (fin s m e) (fin true n d) p h = absurd (false≢true h)
larger_below (fin true m e) (fin false n d) p h = h
larger_below (fin false m e) (fin false n d) p h =
    let l = ltb-true (m * up e * down d) (n * up d * down e) h in lt-ltb 0 (n * up d * down e + m * up e * down d) (omega arith)

finite_below_endless : (x : Float) → is_finite x ≡ true → lt (absolute x) (inf false) ≡ true
unfolding lt is_finite absolute
finite_below_endless nan h = absurd (false≢true h)
finite_below_endless (inf s) h = absurd (false≢true h)
finite_below_endless (fin s m e) h = refl

finite_not_above : (x : Float) → is_finite x ≡ true → lt (inf false) x ≡ false
unfolding lt is_finite
finite_not_above nan h = absurd (false≢true h)
finite_not_above (inf s) h = absurd (false≢true h)
finite_not_above (fin s m e) h = refl

value_not_below : (y : Float) (R u n : ℕ) (d : ℤ) → HasValue y false R u → lt y (fin true n d) ≡ false
unfolding lt
value_not_below nan R u n d v = absurd v
value_not_below (inf s) R u n d v = absurd v
value_not_below (fin true m e) R u n d v = absurd (true≢false v.0)
value_not_below (fin false m e) R u n d v = refl

-- ---- the two cases of the definition
below_positive : (x : Float) → lt none x ≡ true → just_below x ≡ of_bits binary64 (to_bits binary64 x - 1)
unfolding just_below
below_positive x h = simp h

below_others : (x : Float) → lt none x ≡ false → is_finite x ≡ true → just_below x
    ≡ neg (of_bits binary64 (to_bits binary64 (absolute x) + 1))
unfolding just_below
below_others x h p = simp (h, p)

module _ (x : Float) (f : T (fits binary64 x)) (p : is_finite x ≡ true) where
  size : ℕ
  size = to_bits binary64 (absolute x)

  size_small : size < endless
  unfolding size
  size_small = pattern_finite x f p

  size_is : of_bits binary64 size ≡ absolute x
  unfolding size
  size_is = of_bits-to_bits binary64 (absolute x) (absolute_fits x f)

  own_is : lt none x ≡ true → of_bits binary64 size ≡ x
  own_is h = size_is ∙ above_is_own x h

  own_positive : lt none x ≡ true → just_below x ≡ of_bits binary64 (size - 1)
  unfolding size
  own_positive h = below_positive x h ∙ ap (λ (z : Float). of_bits binary64 (to_bits binary64 z - 1)) (sym (above_is_own x h))

  own_others : lt none x ≡ false → just_below x ≡ neg (of_bits binary64 (size + 1))
  unfolding size
  own_others h = below_others x h p

  size_above : lt none x ≡ true → 1 ≤ size
  unfolding size
  size_above h = subst (λ (z : Float). 1 ≤ to_bits binary64 z) (sym (above_is_own x h)) (above_bits x f h)

  -- the next size, infinite or not, is larger
  next_larger : (t : (suc size ≡ endless) ⊎ (suc size < endless)) → lt (absolute x) (of_bits binary64 (size + 1)) ≡ true
  next_larger (inl e) =
      let g : size + 1 ≡ endless = omega arith in
      subst (λ (y : Float). lt (absolute x) y ≡ true) (sym (ap (of_bits binary64) g ∙ endless_is)) (finite_below_endless x p)
  next_larger (inr l) =
      subst (λ (y : Float). lt y (of_bits binary64 (size + 1)) ≡ true) size_is (patterns_lt size (size + 1) (omega arith) (omega arith))

  pub just_below_less : lt (just_below x) x ≡ true
  just_below_less = go (lt none x) refl
    where
      go : (b : Bool) → lt none x ≡ b → lt (just_below x) x ≡ true
      go true h =
          let l = size_small in
          let m = size_above h in
          subst (λ (y : Float). lt y x ≡ true) (sym (own_positive h))
          (subst (λ (y : Float). lt (of_bits binary64 (size - 1)) y ≡ true) (own_is h) (patterns_lt (size - 1) size (omega arith) l))
      go false h =
          subst (λ (y : Float). lt y x ≡ true) (sym (own_others h))
          (larger_below x (of_bits binary64 (size + 1)) p (next_larger (eq-or-lt_of_le size_small)))

  pub just_below_number : is_nan (just_below x) ≡ false
  just_below_number = le_left_number (just_below x) x (le_of_lt (just_below x) x just_below_less)

  -- a negative number is at most what is below a positive one
  below_negative : (n : ℕ) (d : ℤ) → lt none x ≡ true → le (fin true n d) (just_below x) ≡ true
  below_negative n d h =
      let l = size_small in
      le_of_not_lt (fin true n d) (just_below x) (unfold is_nan in refl) just_below_number
      (subst (λ (y : Float). lt y (fin true n d) ≡ false) (sym (own_positive h))
      (value_not_below (of_bits binary64 (size - 1)) (in_units (size - 1)) (2 ^ 1074) n d (pattern_value (size - 1) (omega arith))))

  -- a number that is not negative, below a positive one
  below_own : (z : Float) → T (fits binary64 z) → is_finite z ≡ true → absolute z ≡ z → lt none x ≡ true → lt z x ≡ true
      → le z (just_below x) ≡ true
  below_own z g q a h k =
      let l = size_small in
      let n = to_bits binary64 (absolute z) in
      let i : of_bits binary64 n ≡ absolute z = of_bits-to_bits binary64 (absolute z) (absolute_fits z g) in
      let m : n < size =
      patterns_back n size (pattern_finite z g q) l
      (subst (λ (y : Float). lt y (of_bits binary64 size) ≡ true) (sym (i ∙ a))
      (subst (λ (y : Float). lt z y ≡ true) (sym (own_is h)) k)) in
      subst (λ (y : Float). le z y ≡ true) (sym (own_positive h))
      (subst (λ (y : Float). le y (of_bits binary64 (size - 1)) ≡ true) (i ∙ a) (patterns_le n (size - 1) (omega arith) (omega arith)))

  -- below one that is not positive
  below_other : (z : Float) → T (fits binary64 z) → is_finite z ≡ true → lt none x ≡ false → lt z x ≡ true → le z (just_below x) ≡ true
  below_other z g q h k =
      let both = below_both x z h p k q in
      let l = pattern_finite z g q in
      let n = to_bits binary64 (absolute z) in
      let i : of_bits binary64 n ≡ absolute z = of_bits-to_bits binary64 (absolute z) (absolute_fits z g) in
      let m : size < n =
      patterns_back size n size_small l
      (subst (λ (y : Float). lt y (of_bits binary64 n) ≡ true) (sym size_is)
      (subst (λ (y : Float). lt (absolute x) y ≡ true) (sym i) both.1)) in
      let w : le (of_bits binary64 (size + 1)) (absolute z) ≡ true =
      subst (λ (y : Float). le (of_bits binary64 (size + 1)) y ≡ true) i (patterns_le (size + 1) n (omega arith) l) in
      subst (λ (y : Float). le z y ≡ true) (sym (own_others h))
      (subst (λ (y : Float). le y (neg (of_bits binary64 (size + 1))) ≡ true) (sym both.0)
      (le_neg (of_bits binary64 (size + 1)) (absolute z) (le_left_number (of_bits binary64 (size + 1)) (absolute z) w)
      (le_right_number (of_bits binary64 (size + 1)) (absolute z) w) w))

  -- no float lies between
  pub just_below_greatest : (z : Float) → T (fits binary64 z) → lt z x ≡ true → le z (just_below x) ≡ true
  just_below_greatest nan g k = absurd (false≢true (sym (nan_lt_false x) ∙ k))
  just_below_greatest (inf true) g k = endless_below (just_below x) just_below_number
  just_below_greatest (inf false) g k = absurd (false≢true (sym (finite_not_above x p) ∙ k))
  just_below_greatest (fin true n d) g k = go (lt none x) refl
    where
      go : (b : Bool) → lt none x ≡ b → le (fin true n d) (just_below x) ≡ true
      go true h = below_negative n d h
      go false h = below_other (fin true n d) g (unfold is_finite in refl) h k
  just_below_greatest (fin false n d) g k = go (lt none x) refl
    where
      go : (b : Bool) → lt none x ≡ b → le (fin false n d) (just_below x) ≡ true
      go true h = below_own (fin false n d) g (unfold is_finite in refl) (unfold absolute in refl) h k
      go false h = below_other (fin false n d) g (unfold is_finite in refl) h k

pub just_below_fits : (x : Float) → T (fits binary64 x) → T (fits binary64 (just_below x))
unfolding just_below
just_below_fits x f =
    cond-fits binary64 (lt (of_bits binary64 0) x) _ _ (of_bits-fits binary64 _)
    (cond-fits binary64 (is_finite x) _ _ (neg-fits binary64 _ (of_bits-fits binary64 _)) f)
