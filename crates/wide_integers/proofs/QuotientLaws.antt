-- The quotient's first digit, and the fraction that its other digits round. Assumes nothing.
use Rattle.std.proofs.Common.{◌≡◌, ℕ, ◌+◌, ◌-◌, ◌*◌, ◌^◌, ◌<◌, ◌≤◌, false, ◌-ℤ◌, sym, refl, ap, ◌∙◌, subst, mul_assoc, arith, pow-add}
use lib.Ieee.{binary64, units, round}
use Rattle.wide_integers.specs.declared.number.Wide.{Wide}
use Rattle.wide_integers.specs.declared.division.Grown.{Grown}
use Rattle.wide_integers.specs.declared.division.Quotient.{Quotient}
use Rattle.wide_integers.specs.Value.{value, FitsWide}
use Rattle.wide_integers.specs.Division.{magnitude, Counts, Less, Ready, Grows, Divided, digits_of}
use Rattle.wide_integers.proofs.NaturalLaws.{magnitude_is, counted, difference_held, difference_counts}
use Rattle.wide_integers.proofs.RoundLaws.{round_told}

pub ready : {D N : ℕ} {q : Quotient} {d : Wide} → Counts d D → Divided D N q → Ready q d
ready {D} {N} {q} {d} c h = record {
  less = record {
    rest = h.rest;
    whole = counted c;
    below = subst (λ (n : ℕ). magnitude q.rest < n) (sym (magnitude_is c)) h.below;
  };
  least = h.least;
  most = h.most;
}

-- the digits of N / D, where N is T · 2^a, D · 2^c is W · 2^k, and a + 52 + c is 1074
pub quotient_rounds : (T W D N a c k : ℕ) (q : Quotient) → 0 < W → N ≡ T * 2 ^ a → W * 2 ^ k ≡ D * 2 ^ c → a + 52 + c ≡ 1074 → Divided D N q
    → round binary64 false T W ≡ units binary64 false (digits_of D q) k
quotient_rounds T W D N a c k q w e f s h =
    round_told T W q.word D (magnitude q.rest) c k w
    (ap (λ (n : ℕ). T * 2 ^ n) (sym s) ∙ ap (λ (n : ℕ). T * n) (pow-add 2 (a + 52) c ∙ ap (λ (n : ℕ). n * 2 ^ c) (pow-add 2 a 52))
    ∙ sym (mul_assoc T (2 ^ a * 2 ^ 52) (2 ^ c)) ∙ ap (λ (n : ℕ). n * 2 ^ c)
    (sym (mul_assoc T (2 ^ a) (2 ^ 52)) ∙ ap (λ (n : ℕ). n * 2 ^ 52) (sym e) ∙ sym h.same))
    f h.below h.least h.most

-- ---- t is at least w: w · 2^power is the whole
module _ {t : Wide} (g : Grown) {T W : ℕ} (ct : Counts t T) (h : Grows T W g) where
  pub over_held : FitsWide (value t -ℤ value g.whole)
  over_held = difference_held ct h.whole h.most

  module _ (rest : Wide) (r : value rest ≡ value t -ℤ value g.whole) where
    over_counts : Counts rest (T - W * 2 ^ g.power)
    over_counts = difference_counts ct h.whole h.most r

    pub over_less : Less rest g.whole
    over_less =
        let a = magnitude_is over_counts in
        let b = magnitude_is h.whole in
        record {
          rest = counted over_counts;
          whole = counted h.whole;
          below = plain T (W * 2 ^ g.power) (magnitude rest) (magnitude g.whole) a b h.most h.least;
        }
      where
        plain : (T X r d : ℕ) → r ≡ T - X → d ≡ X → X ≤ T → T < X + X → r < d
        plain T X r d a b l m = omega (arith, a, b, l, m)

    pub over_rounds : (q : Quotient) → 0 < W → Divided (magnitude g.whole) (magnitude g.whole + magnitude rest) q
        → round binary64 false T W ≡ units binary64 false (digits_of (magnitude g.whole) q) (g.power + 1022)
    over_rounds q p v =
        let a = magnitude_is over_counts in
        let b = magnitude_is h.whole in
        quotient_rounds T W (magnitude g.whole) (magnitude g.whole + magnitude rest) 0 1022 (g.power + 1022) q p
        (plain T (W * 2 ^ g.power) (magnitude rest) (magnitude g.whole) a b h.most)
        (ap (λ (n : ℕ). W * n) (pow-add 2 g.power 1022) ∙ sym (mul_assoc W (2 ^ g.power) (2 ^ 1022))
        ∙ ap (λ (n : ℕ). n * 2 ^ 1022) (sym b)) refl v
      where
        plain : (T X r d : ℕ) → r ≡ T - X → d ≡ X → X ≤ T → d + r ≡ T * 1
        plain T X r d a b l = omega (arith, a, b, l)

-- ---- t is below w: the double of t · 2^power is at least w
module _ {w : Wide} (g : Grown) {T W : ℕ} (cw : Counts w W) (p : 0 < W) (h : Grows (W - 1) T g) where
  under_most : T * 2 ^ g.power ≤ W
  under_most = plain (T * 2 ^ g.power) W h.most
    where
      plain : (X W : ℕ) → X ≤ W - 1 → X ≤ W
      plain X W l = omega (arith, l)

  pub under_held : FitsWide (value w -ℤ value g.whole)
  under_held = difference_held cw h.whole under_most

  module _ (room : Wide) (r : value room ≡ value w -ℤ value g.whole) where
    under_room : Counts room (W - T * 2 ^ g.power)
    under_room = difference_counts cw h.whole under_most r

    under_twice : W - T * 2 ^ g.power ≤ T * 2 ^ g.power
    under_twice = plain (T * 2 ^ g.power) W h.least
      where
        plain : (X W : ℕ) → W - 1 < X + X → W - X ≤ X
        plain X W l = omega (arith, l)

    pub rest_held : FitsWide (value g.whole -ℤ value room)
    rest_held = difference_held h.whole under_room under_twice

    module _ (rest : Wide) (s : value rest ≡ value g.whole -ℤ value room) where
      under_counts : Counts rest (T * 2 ^ g.power - (W - T * 2 ^ g.power))
      under_counts = difference_counts h.whole under_room under_twice s

      pub under_less : Less rest w
      under_less =
          let a = magnitude_is under_counts in
          let b = magnitude_is cw in
          record {
            rest = counted under_counts;
            whole = counted cw;
            below = plain (T * 2 ^ g.power) W (magnitude rest) (magnitude w) a b h.most p;
          }
        where
          plain : (X W r d : ℕ) → r ≡ X - (W - X) → d ≡ W → X ≤ W - 1 → 0 < W → r < d
          plain X W r d a b l m = omega (arith, a, b, l, m)

      pub under_rounds : (q : Quotient) → Divided (magnitude w) (magnitude w + magnitude rest) q
          → round binary64 false T W ≡ units binary64 false (digits_of (magnitude w) q) (1021 - g.power)
      under_rounds q v =
          let a = magnitude_is under_counts in
          let b = magnitude_is cw in
          quotient_rounds T W (magnitude w) (magnitude w + magnitude rest) (g.power + 1) (1021 - g.power) (1021 - g.power) q p
          (plain (T * 2 ^ g.power) W (magnitude rest) (magnitude w) a b under_most under_twice
          ∙ doubled T (2 ^ g.power) (2 ^ (g.power + 1)) (pow-add 2 g.power 1))
          (ap (λ (n : ℕ). n * 2 ^ (1021 - g.power)) (sym b)) (exponents g.power h.few) v
        where
          plain : (X W r d : ℕ) → r ≡ X - (W - X) → d ≡ W → X ≤ W → W - X ≤ X → d + r ≡ X + X
          plain X W r d a b l m = omega (arith, a, b, l, m)

          doubled : (T p q : ℕ) → q ≡ p * 2 → T * p + T * p ≡ T * q
          doubled T p q e = let f : T * q ≡ T * (p * 2) = ap (λ (z : ℕ). T * z) e in omega (arith, f)

          exponents : (i : ℕ) → i < 191 → i + 1 + 52 + (1021 - i) ≡ 1074
          exponents i l = omega (arith, l)
