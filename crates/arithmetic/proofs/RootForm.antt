-- Every float above zero has a value of the form m * 2 ^ 52 * 4 ^ k in units of 2 ^ -2148, and its root is r * 2 ^ k units of 2 ^ -1074,
-- for the whole number r nearest to the root of m * 2 ^ 52. Assumes nothing.
use Rattle.std.proofs.Common.{◌≡◌, ℕ, zero, suc, ◌+◌, ◌-◌, ◌*◌, ◌/◌, ◌%◌, ◌^◌, ◌<◌, ◌≤◌, Bool, true, false, T, ltb, sym, refl, ap, ◌∙◌}
use Rattle.std.proofs.Common.{subst, lt_of_lt_of_le, lt_irrefl, zero-lt-suc, arith, lit≤, ltb→lt, ltb-false, ltb-true}
use lib.Ieee.{Float, nan, inf, fin, binary64, odd, fits, of_bits, to_bits, lt}
use lib.Ieee.Fits.{odd-fits}
use lib.Ieee.Exact.{HasValue, odd_sign}
use lib.Ieee.Bits.{of_bits-to_bits}
use lib.Ieee.Scale.{finite}
use lib.Ieee.Positive.{positive, positive-finite}
use Rattle.arithmetic.specs.Root.{root_of, NearestRoot}
use Rattle.arithmetic.proofs.RootWhole.{nearest_exists}
use Rattle.arithmetic.proofs.RootScaled.{root_of_scaled, root_digits_lem, under_top, units_odd}
use Rattle.arithmetic.proofs.RootPatterns.{normal_scaled, even_digits, EvenDigits, Lifted, lifted_at_first, lifted_left}
use Rattle.arithmetic.proofs.RootPatterns.{lifted_again, lifted_scaled}
use Rattle.arithmetic.proofs.RootCases.{none, zero_pattern, positive_above, above_pattern, highest_infinite}

pub record Scaled (x : Float) (m k : ℕ) : Type 0 where
  pub least : 2 ^ 52 ≤ m
  pub most : m ≤ 2 ^ 54 - 2
  pub count : k ≤ 1533
  pub value : HasValue x false (m * 2 ^ 52 * (2 ^ k * 2 ^ k)) (2 ^ 2148)

-- ---- a subnormal number, lifted to its end
lifted_whole : (k b m : ℕ) → 0 < b → Lifted b m k → (m' : ℕ) × (k' : ℕ) × Lifted b m' k' × (2 ^ 52 ≤ m')
lifted_whole zero b m B l = go (ltb m (2 ^ 52)) (ltb-true m (2 ^ 52)) (ltb-false m (2 ^ 52))
  where
    go : (c : Bool) → (c ≡ true → m < 2 ^ 52) → (c ≡ false → 2 ^ 52 ≤ m) → (m' : ℕ) × (k' : ℕ) × Lifted b m' k' × (2 ^ 52 ≤ m')
    go true h g = absurd (lt_irrefl 0 (lifted_left b m 0 B l (h refl)))
    go false h g = (m, 0, l, g refl)
lifted_whole (suc k) b m B l = go (ltb m (2 ^ 52)) (ltb-true m (2 ^ 52)) (ltb-false m (2 ^ 52)) (lifted_whole k b (m * 4) B)
  where
    less : suc k - 1 ≡ k
    less = omega arith

    go : (c : Bool) → (c ≡ true → m < 2 ^ 52) → (c ≡ false → 2 ^ 52 ≤ m) →
        (Lifted b (m * 4) k → (m' : ℕ) × (k' : ℕ) × Lifted b m' k' × (2 ^ 52 ≤ m'))
        → (m' : ℕ) × (k' : ℕ) × Lifted b m' k' × (2 ^ 52 ≤ m')
    go true h g ih = ih (subst (Lifted b (m * 4)) less (lifted_again b m (suc k) (zero-lt-suc k) l (h refl)))
    go false h g ih = (m, suc k, l, g refl)

subnormal_form : (b : ℕ) → 0 < b → b < 2 ^ 52 → (m : ℕ) × (k : ℕ) × Scaled (of_bits binary64 b) m k
subnormal_form b B h =
    let w = lifted_whole 511 b b B (lifted_at_first b h) in (
      w.0,
      w.1,
      record {
        least = w.3;
        most = small w.0 w.2.small;
        count = few w.1 w.2.count;
        value = lifted_scaled b w.0
            w.1 h w.2;
      },
    )
  where
    small : (m : ℕ) → m ≤ 2 ^ 54 - 4 → m ≤ 2 ^ 54 - 2
    small m l = omega arith

    few : (k : ℕ) → k ≤ 511 → k ≤ 1533
    few k l = omega arith

normal_form : (b : ℕ) → 2 ^ 52 ≤ b → b < 2047 * 2 ^ 52 → (m : ℕ) × (k : ℕ) × Scaled (of_bits binary64 b) m k
normal_form b lo hi =
    let r = b + 1021 * 2 ^ 52 in
    let c = r % 2 ^ 53 in
    let d : EvenDigits ((c % 2 ^ 52 + 2 ^ 52) * (1 + c / 2 ^ 52)) = even_digits c ((c % 2 ^ 52 + 2 ^ 52) * (1 + c / 2 ^ 52)) (omega arith)
    refl in (
      (c % 2 ^ 52 + 2 ^ 52) * (1 + c / 2 ^ 52),
      r / 2 ^ 53,
      record
          { least = d.least; most = d.most; count = omega arith; value = normal_scaled b r lo hi refl },
    )

pattern_form : (b : ℕ) → 0 < b → b < 2047 * 2 ^ 52 → (m : ℕ) × (k : ℕ) × Scaled (of_bits binary64 b) m k
pattern_form b B h = go (ltb b (2 ^ 52)) (ltb-true b (2 ^ 52)) (ltb-false b (2 ^ 52))
  where
    go : (c : Bool) → (c ≡ true → b < 2 ^ 52) → (c ≡ false → 2 ^ 52 ≤ b) → (m : ℕ) × (k : ℕ) × Scaled (of_bits binary64 b) m k
    go true l g = subnormal_form b B (l refl)
    go false l g = normal_form b (g refl) h

-- ---- every float above zero
above : (x : Float) → T (positive x) → lt (of_bits binary64 0) x ≡ true
above x p = ap (λ (z : Float). lt z x) zero_pattern ∙ go x p
  where
    go : (x : Float) → T (positive x) → lt none x ≡ true
    go nan p = absurd p
    go (inf s) p = absurd p
    go (fin true m e) p = absurd p
    go (fin false zero e) p = absurd (lt_irrefl 0 (ltb→lt 0 0 p))
    go (fin false (suc m) e) p = positive_above m e

pub positive_form : (x : Float) → T (positive x) → T (fits binary64 x) → (m : ℕ) × (k : ℕ) × Scaled x m k
positive_form x p f =
    let b = to_bits binary64 x in
    subst (λ (v : Float). (m : ℕ) × (k : ℕ) × Scaled v m k) (of_bits-to_bits binary64 x f)
    (pattern_form b (above_pattern x f (above x p))
    (below (ltb b (2047 * 2 ^ 52)) (ltb-true b (2047 * 2 ^ 52)) (ltb-false b (2047 * 2 ^ 52))))
  where
    below : (c : Bool) → (c ≡ true → to_bits binary64 x < 2047 * 2 ^ 52) → (c ≡ false → 2047 * 2 ^ 52 ≤ to_bits binary64 x)
        → to_bits binary64
        x < 2047 * 2 ^ 52
    below true l g = l refl
    below false l g = absurd (subst (λ (v : Float). T (finite v)) (highest_infinite x f (above x p) (g refl)) (positive-finite x p))

-- ---- and its root
pub record RootForm (x : Float) (n k r : ℕ) : Type 0 where
  pub low : 2 ^ 104 ≤ n
  pub argument : HasValue x false (n * (2 ^ k * 2 ^ k)) (2 ^ 2148)
  pub nearest : NearestRoot n r
  pub digits : 2 ^ 52 ≤ r
  pub result : HasValue (root_of x) false (r * 2 ^ k) (2 ^ 1074)
  pub held : T (fits binary64 (root_of x))

pub root_form : (x : Float) → T (positive x) → T (fits binary64 x) → (n : ℕ) × (k : ℕ) × (r : ℕ) × RootForm x n k r
root_form x p f = go (positive_form x p f)
  where
    at : (m k r : ℕ) → Scaled x m k → NearestRoot (m * 2 ^ 52) r → RootForm x (m * 2 ^ 52) k r
    at m k r s h =
        let l : 2 ^ 104 ≤ m * 2 ^ 52 = omega (arith, s.least) in
        let u : m * 2 ^ 52 ≤ 2 ^ 106 - 2 ^ 53 = omega (arith, s.most) in
        let d = root_digits_lem (m * 2 ^ 52) r l u h in
        let t = under_top r k d.1 s.count in
        let e : root_of x ≡ odd 54 false r k 1074 = root_of_scaled x (m * 2 ^ 52) k r s.value l (omega arith) h ∙ units_odd r k t in
        record {
          low = l;
          argument = s.value;
          nearest = h;
          digits = d.0;
          result = subst (λ (v : Float). HasValue v false (r * 2 ^ k) (2 ^ 1074)) (sym e) (odd_sign 54 false r k 1074);
          held = subst (λ (v : Float). T (fits binary64 v)) (sym e)
              (odd-fits binary64 54 false r k (lt_of_lt_of_le d.1 (lit≤ tt)) (under r d.1) t);
        }
      where
        under : (r : ℕ) → r < 2 ^ 53 → r ≤ 2 ^ 53
        under r h = omega arith

    go : (m : ℕ) × (k : ℕ) × Scaled x m k → (n : ℕ) × (k : ℕ) × (r : ℕ) × RootForm x n k r
    go (m, k, s) =
        let w = nearest_exists (m * 2 ^ 52) (omega (arith, s.least)) in
        (m * 2 ^ 52, k, w.0, at m k w.0 s w.1)
