-- Steps on single words: sums and differences with what passes 2^64, the product by halves, and a number's sign. Assumes nothing.
use Rattle.std.proofs.Common.{◌≡◌, ℕ, ◌+◌, ◌-◌, ◌*◌, ◌/◌, ◌%◌, ◌^◌, ◌<◌, ◌≤◌, Bool, true, false, T, ltb, ℤ, pos, negsuc, ◌-ℤ◌, nat_abs, sym}
use Rattle.std.proofs.Common.{refl, ap, ◌∙◌, subst, true≢false, mul-le-mul, arith, w64, Fits, SFits, ltb-false, ltb-true}
use lib.Signed.{lt_z, non_neg}
use mir.Val.{bool_byte}
use mir.ValLaws.{to_z-of_z}
use Rattle.wide_integers.proofs.Polynomials.{own_pos, own_neg, rep_sub, equal}
use Rattle.wide_integers.proofs.Reading.{bits}
use Rattle.wide_integers.specs.Value.{base}
use Rattle.wide_integers.specs.Steps.{Added, Subtracted, Multiplied, SplitSign}

-- ---- sums and differences
pub flags_fit : (x y : Bool) → Fits w64 (bool_byte x + bool_byte y)
flags_fit true true = record { fits = omega arith }
flags_fit true false = record { fits = omega arith }
flags_fit false true = record { fits = omega arith }
flags_fit false false = record { fits = omega arith }

-- s is the sum's lowest 64 digits, and w those with the carry: one of the two is less than what it grew from, or none
pub added : (a b c s w : ℕ) → a < base → b < base → c ≤ 1 → s ≡ (a + b) % 2 ^ 64 → w ≡ (s + c) % 2 ^ 64
    → Added a b c (record { words = w; over = bool_byte (ltb s a) + bool_byte (ltb w s) })
added a b c s w ha hb hc hs hw = go (ltb s a) (ltb-true s a) (ltb-false s a) (ltb w s) (ltb-true w s) (ltb-false w s)
  where
    go : (x : Bool) → (x ≡ true → s < a) → (x ≡ false → a ≤ s) → (y : Bool) → (y ≡ true → w < s) → (y ≡ false → s ≤ w)
        → Added a b c (record { words = w; over = bool_byte x + bool_byte y })
    go true f g true f' g' = let p = f refl in let q = f' refl in absurd (omega arith)
    go true f g false f' g' = let p = f refl in let q = g' refl in record { sum = omega arith; word = omega arith; over = omega arith }
    go false f g true f' g' = let p = g refl in let q = f' refl in record { sum = omega arith; word = omega arith; over = omega arith }
    go false f g false f' g' = let p = g refl in let q = g' refl in record { sum = omega arith; word = omega arith; over = omega arith }

pub taken : (a b c s w : ℕ) → a < base → b < base → c ≤ 1 → s < base → w < base → (s + b) % 2 ^ 64 ≡ a → (w + c) % 2 ^ 64 ≡ s
    → Subtracted a b c (record { words = w; over = bool_byte (ltb a b) + bool_byte (ltb s c) })
taken a b c s w ha hb hc ks kw hs hw = go (ltb a b) (ltb-true a b) (ltb-false a b) (ltb s c) (ltb-true s c) (ltb-false s c)
  where
    go : (x : Bool) → (x ≡ true → a < b) → (x ≡ false → b ≤ a) → (y : Bool) → (y ≡ true → s < c) → (y ≡ false → c ≤ s)
        → Subtracted a b c (record { words = w; over = bool_byte x + bool_byte y })
    go true f g true f' g' = let p = f refl in let q = f' refl in absurd (omega arith)
    go true f g false f' g' = let p = f refl in let q = g' refl in record { rest = omega arith; word = omega arith; over = omega arith }
    go false f g true f' g' = let p = g refl in let q = f' refl in record { rest = omega arith; word = omega arith; over = omega arith }
    go false f g false f' g' = let p = g refl in let q = g' refl in record { rest = omega arith; word = omega arith; over = omega arith }

-- ---- the product
pub schoolbook : (C x₁ x₀ y₁ y₀ p₁ p₀ q₁ q₀ r₁ r₀ : ℕ) → x₀ * y₀ ≡ p₁ * C + p₀ → x₁ * y₀ + p₁ ≡ q₁ * C + q₀ → x₀ * y₁ + q₀ ≡ r₁ * C + r₀
    → (x₁ * y₁ + q₁ + r₁) * (C * C) + (r₀ * C + p₀) ≡ (x₁ * C + x₀) * (y₁ * C + y₀)
schoolbook C x₁ x₀ y₁ y₀ p₁ p₀ q₁ q₀ r₁ r₀ e f g =
    let f' : (x₁ * y₀ + p₁) * C ≡ (q₁ * C + q₀) * C = ap (λ (z : ℕ). z * C) f in
    let g' : (x₀ * y₁ + q₀) * C ≡ (r₁ * C + r₀) * C = ap (λ (z : ℕ). z * C) g in
    omega (arith, e, f', g')

-- the product of two halves, of 32 digits each
pub halves : {a b : ℕ} → a ≤ 4294967295 → b ≤ 4294967295 → a * b ≤ 18446744065119617025
halves h k = mul-le-mul h k

divided : (n : ℕ) → n ≡ n / 4294967296 * 4294967296 + n % 4294967296
divided n = omega arith

digits : (r p : ℕ) → r % 4294967296 * 4294967296 + p % 4294967296 < base
digits r p = omega arith

pub multiplied : (a b p q r : ℕ) → p ≡ a % 4294967296 * (b % 4294967296) → q ≡ a / 4294967296 * (b % 4294967296) + p / 4294967296
    → r ≡ a % 4294967296 * (b / 4294967296) + q % 4294967296
    → Multiplied a b (record {
      high = a / 4294967296 * (b / 4294967296) + q / 4294967296 + r / 4294967296;
      low = r % 4294967296 * 4294967296 + p % 4294967296;
    })
multiplied a b p q r hp hq hr =
    record {
      product =
          schoolbook 4294967296 (a / 4294967296) (a % 4294967296) (b / 4294967296) (b % 4294967296) (p / 4294967296) (p % 4294967296)
          (q / 4294967296) (q % 4294967296) (r / 4294967296) (r % 4294967296) (sym hp ∙ divided p) (sym hq ∙ divided q)
          (sym hr ∙ divided r)
          ∙ (λ i. sym (divided a) i * sym (divided b) i);
      low = digits r p;
    }

-- ---- a number's sign
pub record Negative (X : ℤ) : Type 0 where
  pub n : ℕ
  pub small : n < 9223372036854775808
  pub other : negsuc 0 -ℤ X ≡ pos n
  pub own : X ≡ negsuc n

pub negative : (X : ℤ) → SFits w64 X → lt_z X (pos 0) ≡ true → Negative X
negative (pos a) f h = absurd (omega (arith, ltb-true a 0 h))
negative (negsuc a) f h = record {
  n = a;
  small = f.sfits;
  other = equal (rep_sub (own_neg 0) (own_neg a)) (own_pos a) (omega arith);
  own = refl;
}

module _ (X : ℤ) (g : Negative X) where
  pub other_fits : SFits w64 (negsuc 0 -ℤ X)
  other_fits = subst (SFits w64) (sym g.other) (record { sfits = g.small })

  pub other_read : bits (negsuc 0 -ℤ X) ≡ pos g.n
  other_read = ap (λ (z : ℤ). bits z) g.other ∙ to_z-of_z w64 (pos g.n) (record { sfits = g.small })

  pub other_size : nat_abs (bits (negsuc 0 -ℤ X)) ≡ g.n
  other_size = ap nat_abs other_read

  pub other_cast : T (non_neg (bits (negsuc 0 -ℤ X))) × Fits w64 (nat_abs (bits (negsuc 0 -ℤ X)))
  other_cast =
      let e = other_size in
      let s = g.small in
      (subst (λ (z : ℤ). T (non_neg z)) (sym other_read) tt, record { fits = omega arith })

  pub negative_split_sign : (x : ℤ) → X ≡ x → SplitSign x (record {
    word = 18446744073709551615 - nat_abs (bits
        (negsuc 0 -ℤ X));
    below = 1;
  })
  negative_split_sign x e =
      let k = other_size in
      let s = g.small in
      record {
        whole =
            equal (rep_sub (own_pos (18446744073709551615 - nat_abs (bits (negsuc 0 -ℤ X)))) (own_pos 18446744073709551616)) (own_neg g.n)
            (omega arith)
            ∙ sym g.own ∙ e;
        word = omega arith;
        below = omega arith;
      }

pub not_negative : (X : ℤ) → SFits w64 X → lt_z X (pos 0) ≡ false → T (non_neg X) × Fits w64 (nat_abs X)
not_negative (pos a) f h = let s = f.sfits in (tt, record { fits = omega (arith, s) })
not_negative (negsuc a) f h = absurd (true≢false h)

pub positive_split_sign : (X x : ℤ) → SFits w64 X → X ≡ x → lt_z X (pos 0) ≡ false → SplitSign x (record { word = nat_abs X; below = 0 })
positive_split_sign (pos a) x f e h =
    let s = f.sfits in
    record {
      whole = equal (rep_sub (own_pos a) (own_pos 0)) (own_pos a) (omega arith) ∙ e;
      word = omega (arith, s);
      below = omega arith;
    }
positive_split_sign (negsuc a) x f e h = absurd (true≢false h)
