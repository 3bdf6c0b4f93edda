-- A guess at a fraction's digits, checked. Assumes nothing.
use Rattle.std.proofs.Common.{◌≡◌, ℕ, suc, ◌+◌, ◌*◌, ◌/◌, ◌%◌, ◌^◌, ◌<◌, ◌≤◌, false, ℤ, pos, ◌+ℤ◌, ◌*ℤ◌, sym, refl}
use Rattle.std.proofs.Common.{ap, ◌∙◌, subst, le_trans, le_of_eq, lt_of_le_of_lt, le_of_lt, mod-lt, mod-eq_of_lt, mul_assoc}
use Rattle.std.proofs.Common.{mul-le-mul_left, div-add-mod', arith, lit<, pow-add}
use lib.Pow.{pow-lt}
use lib.Ieee.{Float, binary64, round, units}
use Rattle.wide_integers.proofs.Polynomials.{Rep}
use Rattle.wide_integers.specs.declared.number.Wide.{Wide}
use Rattle.wide_integers.specs.declared.division.Quotient.{Quotient}
use Rattle.std.specs.Prelude.{Option, Some, None}
use Rattle.wide_integers.specs.Value.{base, half, zero_at, raised, value, Middling}
use Rattle.wide_integers.specs.Division.{magnitude, Counts, digits_of}
use Rattle.wide_integers.specs.Guess.{Left, Divides, Found, Finds, Answers}
use Rattle.wide_integers.proofs.Limbs.{low_high}
use Rattle.wide_integers.proofs.ValueLaws.{value_rep}
use Rattle.wide_integers.proofs.OperationLaws.{below_product}
use Rattle.wide_integers.proofs.NaturalLaws.{magnitude_is, sum_counts}
use Rattle.wide_integers.proofs.RoundLaws.{round_told}

-- ---- multiples
-- a number whose highest word is not above 2^63 is below 2^128
module _ {a : Wide} {n : ℕ} (c : Counts a n) (hh : a.high ≤ half) (hm : a.middle < base) (hl : a.low < base) where
  middle_size : n < base * base
  middle_size =
      low_high base half a.high a.middle a.low hm hl hh n
      (subst (λ (z : ℤ). Rep z (raised a) zero_at) c.is (value_rep a)).is

  pub multiple_asks : Middling (value a)
  multiple_asks = subst Middling (sym c.is) (record { size = middle_size })

  pub multiple_holds : (m : ℕ) (v : Wide) → m < half → value v ≡ value a *ℤ pos m → Counts v (n * m)
  multiple_holds m v l e = record {
    is = e ∙ ap (λ (z : ℤ). z *ℤ pos m) c.is;
    small = below_product n m (base * base) half middle_size (le_of_lt l) (lit< tt);
  }

-- ---- powers of two that a word holds
pub power_word : (g : ℕ) → g ≤ 62 → 1 * 2 ^ g % 18446744073709551616 ≡ 2 ^ g
power_word g h = ap (λ (n : ℕ). n % 18446744073709551616) (once (2 ^ g)) ∙ mod-eq_of_lt (pow-lt (less g h))
  where
    once : (n : ℕ) → 1 * n ≡ n
    once n = omega arith

    less : (g : ℕ) → g ≤ 62 → g < 64
    less g h = omega (arith, h)

-- ---- the digits before and after the guess
module _ {d rest n : Wide} (T D first P g : ℕ) (q : Quotient) (p : P ≡ 2 ^ g) (cd : Counts d D) (l : Left T (D * first) rest)
    (cn : Counts n (magnitude rest * P)) (h : Divides (magnitude n) D q) where
  pub joined : (first * P + q.word) * D + magnitude q.rest ≡ T * 2 ^ g
  joined =
      plain q.word (magnitude q.rest) (magnitude rest) (magnitude n) l.same (magnitude_is cn) h.same
      ∙ ap (λ (z : ℕ). T * z) p
    where
      plain : (w R R₁ N : ℕ) → R₁ + D * first ≡ T → N ≡ R₁ * P → w * D + R ≡ N → (first * P + w) * D + R ≡ T * P
      plain w R R₁ N a b c = let a' : (R₁ + D * first) * P ≡ T * P = ap (λ (z : ℕ). z * P) a in omega (arith, a', b, c)

  module _ (least : 4503599627370496 ≤ first * P + q.word) (most : first * P + q.word ≤ 9007199254740991) where
    pub found_guess : (k : ℕ) (x : Float) → x ≡ units binary64 false (digits_of D (record { word = first * P + q.word; rest = q.rest })) k
        → Found T D g k x
    found_guess k x e = record {
      quotient = record { word = first * P + q.word; rest = q.rest };
      same = joined;
      below = h.below;
      least = least;
      most = plain (first * P + q.word) most;
      is = e;
    }
      where
        plain : (n : ℕ) → n ≤ 9007199254740991 → n < 9007199254740992
        plain n h = omega (arith, h)

-- ---- the float
pub found_fine : (T W g k : ℕ) → 0 < W → g + k ≡ 1074 → {x : Float} → Found T W g k x → x ≡ round binary64 false T W
found_fine T W g k w e h =
    h.is
    ∙ sym (round_told T W h.quotient.word W (magnitude h.quotient.rest) k k w
    (ap (λ (n : ℕ). T * 2 ^ n) (sym e) ∙ ap (λ (n : ℕ). T * n) (pow-add 2 g k) ∙ sym (mul_assoc T (2 ^ g) (2 ^ k))
    ∙ ap (λ (n : ℕ). n * 2 ^ k) (sym h.same)) refl h.below h.least h.most)

pub found_coarse : (T W D j k : ℕ) → 0 < W → j + 1074 ≡ k → D ≡ W * 2 ^ j → {x : Float} → Found T D 0 k x → x ≡ round binary64 false T W
found_coarse T W D j k w e f h =
    h.is
    ∙ sym (round_told T W h.quotient.word D (magnitude h.quotient.rest) 1074 k w
    (ap (λ (n : ℕ). n * 2 ^ 1074) (sym (once T) ∙ sym h.same))
    (ap (λ (n : ℕ). W * 2 ^ n) (sym e) ∙ ap (λ (n : ℕ). W * n) (pow-add 2 j 1074) ∙ sym (mul_assoc W (2 ^ j) (2 ^ 1074))
    ∙ ap (λ (n : ℕ). n * 2 ^ 1074) (sym f)) h.below h.least h.most)
  where
    once : (T : ℕ) → T * 1 ≡ T
    once T = omega arith

-- t was raised by 2^26 before
pub answers_low : (T U W g k : ℕ) → 0 < W → U ≡ T * 2 ^ 26 → g + k ≡ 1048 → (r : Option Float) → Finds U W g k r → Answers T W r
answers_low T U W g k w u e (Some x) h =
    found_fine T W (26 + g) k w (exponents g k e)
    (record {
      quotient = h.quotient;
      same =
          h.same ∙ ap (λ (n : ℕ). n * 2 ^ g) u ∙ mul_assoc T (2 ^ 26) (2 ^ g) ∙ ap (λ (n : ℕ). T * n) (sym (pow-add 2 26 g));
      below = h.below;
      least = h.least;
      most = h.most;
      is = h.is;
    })
  where
    exponents : (g k : ℕ) → g + k ≡ 1048 → 26 + g + k ≡ 1074
    exponents g k e = omega (arith, e)
answers_low T U W g k w u e None h = tt

pub answers_fine : (T W g k : ℕ) → 0 < W → g + k ≡ 1074 → (r : Option Float) → Finds T W g k r → Answers T W r
answers_fine T W g k w e (Some x) h = found_fine T W g k w e h
answers_fine T W g k w e None h = tt

pub answers_coarse : (T W D j k : ℕ) → 0 < W → j + 1074 ≡ k → D ≡ W * 2 ^ j → (r : Option Float) → Finds T D 0 k r → Answers T W r
answers_coarse T W D j k w e f (Some x) h = found_coarse T W D j k w e f h
answers_coarse T W D j k w e f None h = tt

-- ---- the digits before the point, more than 53 of them
module _ {rest low d : Wide} (T W first P : ℕ) (q : Quotient) (positive : 0 < P) (l : Left T (W * (first * P)) rest)
    (h : Divides (magnitude rest) W q) (cl : Counts low (W * ((first * P + q.word) % P))) (cd : Counts d (W * P)) where
  -- what is left of the division by W P
  abbrev left_over : ℕ
  left_over = W * ((first * P + q.word) % P) + magnitude q.rest

  left_below : left_over < W * P
  left_below =
      plain (W * ((first * P + q.word) % P)) (magnitude q.rest) W (W * P) h.below
      (le_trans (le_of_eq (once W ((first * P + q.word) % P))) (mul-le-mul_left W (mod-lt (first * P + q.word) positive)))
    where
      once : (a b : ℕ) → a * b + a ≡ a * suc b
      once a b = omega arith

      plain : (a r w n : ℕ) → r < w → a + w ≤ n → a + r < n
      plain a r w n x y = omega (arith, x, y)

  left_small : left_over < zero_at
  left_small = lt_of_le_of_lt (le_of_lt left_below) cd.small

  module _ (v : Wide) (e : value v ≡ value low +ℤ value q.rest) where
    left_is_counted : Counts v left_over
    left_is_counted = sum_counts cl h.rest left_small e

    whole_same : (first * P + q.word) / P * (W * P) + magnitude v ≡ T * 1
    whole_same =
        plain ((first * P + q.word) / P) ((first * P + q.word) % P) q.word (magnitude q.rest) (magnitude rest) (magnitude v)
        (div-add-mod' (first * P + q.word) P) (magnitude_is left_is_counted) l.same h.same
      where
        plain : (u r w R R₁ v : ℕ) → u * P + r ≡ first * P + w → v ≡ W * r + R → R₁ + W * (first * P) ≡ T → w * W + R ≡ R₁
            → u * (W * P) + v ≡ T * 1
        plain u r w R R₁ v a b c e =
            let a' : W * (u * P + r) ≡ W * (first * P + w) = ap (λ (z : ℕ). W * z) a in
            omega (arith, a', b, c, e)

    whole_below : magnitude v < W * P
    whole_below = subst (λ (z : ℕ). z < W * P) (sym (magnitude_is left_is_counted)) left_below

    module _ (least : 4503599627370496 ≤ (first * P + q.word) / P) (most : (first * P + q.word) / P ≤ 9007199254740991) where
      most_word : (first * P + q.word) / P < 9007199254740992
      most_word = plain ((first * P + q.word) / P) most
        where
          plain : (n : ℕ) → n ≤ 9007199254740991 → n < 9007199254740992
          plain n h = omega (arith, h)

      pub found_whole : (j k : ℕ) (x : Float) → P ≡ 2 ^ j
          → x ≡ units binary64 false (digits_of (magnitude d) (record { word = (first * P + q.word) / P; rest = v })) k
          → Found T (W * 2 ^ j) 0 k x
      found_whole j k x p e =
          subst (λ (z : ℕ). Found T (W * z) 0 k x) p
          (record {
            quotient = record { word = (first * P + q.word) / P; rest = v };
            same = whole_same;
            below = whole_below;
            least = least;
            most = most_word;
            is =
                e
                ∙ ap (λ (z : ℕ). units binary64 false (digits_of z (record { word = (first * P + q.word) / P; rest = v })) k)
                (magnitude_is cd);
          })
