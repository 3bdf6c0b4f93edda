-- Numbers that are not below 0: their sums, differences and order are those of natural numbers. Assumes nothing.
use Rattle.std.proofs.Common.{◌≡◌, ℕ, zero, suc, ◌+◌, ◌-◌, ◌<◌, ◌≤◌, Bool, true, false, ltb, leb, ℤ, pos, negsuc, ◌+ℤ◌, ◌-ℤ◌, nat_abs, sym}
use Rattle.std.proofs.Common.{refl, ap, ◌∙◌, subst, true≢false, zero-le, lt_of_le_of_lt, arith, ltb-false, ltb-true, le-ltb}
use lib.Ieee.{nan, binary64, round}
use lib.Signed.{lt_z, le_z}
use Rattle.wide_integers.proofs.Polynomials.{Rep, own_pos, rep_sub, equal}
use Rattle.wide_integers.specs.declared.number.Wide.{Wide}
use Rattle.wide_integers.specs.Value.{base, half, zero_at, raised, value, FitsWide}
use Rattle.wide_integers.specs.Division.{magnitude, Counts, Positive, fraction_of}
use Rattle.wide_integers.proofs.Limbs.{three_below}
use Rattle.wide_integers.proofs.ValueLaws.{value_rep}

pub magnitude_is : {w : Wide} {n : ℕ} → Counts w n → magnitude w ≡ n
magnitude_is h = ap nat_abs h.is

-- a number that counts n counts its own magnitude
pub counted : {w : Wide} {n : ℕ} → Counts w n → Counts w (magnitude w)
counted {w} h = subst (Counts w) (sym (magnitude_is h)) h

pos_minus : (m n : ℕ) → n ≤ m → pos m -ℤ pos n ≡ pos (m - n)
pos_minus m n h = equal (rep_sub (own_pos m) (own_pos n)) (own_pos (m - n)) (omega (arith, h))

lower : (m n : ℕ) → m - n ≤ m
lower m n = omega arith

module _ {a b : Wide} {m n : ℕ} (h : Counts a m) (k : Counts b n) where
  sum_pos : value a +ℤ value b ≡ pos (m + n)
  sum_pos = λ i. h.is i +ℤ k.is i

  pub sum_held : m + n < zero_at → FitsWide (value a +ℤ value b)
  sum_held l = subst FitsWide (sym sum_pos) (record { size = l })

  pub sum_counts : {r : Wide} → m + n < zero_at → value r ≡ value a +ℤ value b → Counts r (m + n)
  sum_counts l e = record { is = e ∙ sum_pos; small = l }

  difference_pos : n ≤ m → value a -ℤ value b ≡ pos (m - n)
  difference_pos l = (λ i. h.is i -ℤ k.is i) ∙ pos_minus m n l

  pub difference_held : n ≤ m → FitsWide (value a -ℤ value b)
  difference_held l = subst FitsWide (sym (difference_pos l)) (record { size = lt_of_le_of_lt (lower m n) h.small })

  pub difference_counts : {r : Wide} → n ≤ m → value r ≡ value a -ℤ value b → Counts r (m - n)
  difference_counts l e = record { is = e ∙ difference_pos l; small = lt_of_le_of_lt (lower m n) h.small }

  pub below_counts : {t : Bool} → t ≡ lt_z (value a) (value b) → t ≡ ltb m n
  below_counts e = e ∙ (λ i. lt_z (h.is i) (k.is i))

  pub at_most_counts : {t : Bool} → t ≡ le_z (value a) (value b) → t ≡ leb m n
  at_most_counts e = e ∙ (λ i. le_z (h.is i) (k.is i))

-- ---- every number of three words is below 2^191
pub record Fitting (w : Wide) : Type 0 where
  pub high : w.high < base
  pub middle : w.middle < base
  pub low : w.low < base

twice_zero : (x z : ℕ) → x < z + z → (n : ℕ) → n + z ≡ x + 0 → n < z
twice_zero x z h n e = omega (arith, h, e)

pub whole_counts : (w : Wide) → Fitting w → lt_z (value w) (pos 0) ≡ false → Counts w (magnitude w)
whole_counts w f h = go (value w) refl h
  where
    go : (z : ℤ) → value w ≡ z → lt_z z (pos 0) ≡ false → Counts w (nat_abs z)
    go (pos n) e k = record {
      is = e;
      small = twice_zero (raised w) zero_at (three_below base half w.high w.middle w.low f.high f.middle f.low) n (rep e);
    }
      where
        rep : value w ≡ pos n → n + zero_at ≡ raised w + 0
        rep e = (subst (λ (z : ℤ). Rep z (raised w) zero_at) e (value_rep w)).is
    go (negsuc n) e k = absurd (true≢false k)

pub whole_positive : (w : Wide) → Fitting w → lt_z (pos 0) (value w) ≡ true → Positive w
whole_positive w f h = record {
  counts = whole_counts w f (not_negative (value w) h);
  positive = above (value w) h;
}
  where
    not_negative : (z : ℤ) → lt_z (pos 0) z ≡ true → lt_z z (pos 0) ≡ false
    not_negative (pos n) k = le-ltb n 0 zero-le
    not_negative (negsuc n) k = absurd (true≢false (sym k))

    above : (z : ℤ) → lt_z (pos 0) z ≡ true → 0 < nat_abs z
    above (pos n) k = ltb-true 0 n k
    above (negsuc n) k = absurd (true≢false (sym k))

-- ---- which fractions there are
pub fraction_negative : (t w : ℤ) → lt_z t (pos 0) ≡ true → nan ≡ fraction_of t w
fraction_negative (pos n) w h = absurd (omega (arith, ltb-true n 0 h))
fraction_negative (negsuc n) w h = refl

pub fraction_none : (t w : ℤ) → lt_z t (pos 0) ≡ false → lt_z (pos 0) w ≡ false → nan ≡ fraction_of t w
fraction_none (pos n) (pos zero) h k = refl
fraction_none (pos n) (pos (suc w)) h k = absurd (omega (arith, ltb-false 0 (suc w) k))
fraction_none (pos n) (negsuc w) h k = refl
fraction_none (negsuc n) w h k = refl

pub fraction_is : (t w : ℤ) → lt_z t (pos 0) ≡ false → lt_z (pos 0) w ≡ true → round binary64 false (nat_abs t) (nat_abs w)
    ≡ fraction_of t w
fraction_is (pos n) (pos zero) h k = absurd (omega (arith, ltb-true 0 0 k))
fraction_is (pos n) (pos (suc w)) h k = refl
fraction_is (pos n) (negsuc w) h k = absurd (true≢false (sym k))
fraction_is (negsuc n) w h k = absurd (true≢false h)

pub none_above : (t : ℤ) → lt_z t (pos 0) ≡ false → lt_z (pos 0) t ≡ false → nat_abs t ≡ 0
none_above (pos n) h k = omega (arith, ltb-false 0 n k)
none_above (negsuc n) h k = absurd (true≢false h)
