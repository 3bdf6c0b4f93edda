-- The guess is right wherever 4 bytes hold the number; and coming back gives the same pattern. Assumes nothing.
use Prim.Native.Nat.{ℕ, zero, suc, ◌+◌, ◌-◌, ◌*◌, ◌/◌, ◌%◌, ◌^◌, ◌<◌, ◌≤◌}
use native.Mathlib.Omega.{arith}
use native.Mathlib.Nat.{mul_assoc, div-one, mul-one, lt_of_lt_of_le, mul-le-mul_right}
use native.Mathlib.Nat.{mul-lt-mul_of_pos_right, le_antisymm, lt_irrefl, lt_of_le_of_lt, lt_of_not-le}
use mathlib.Core.Path.{◌≡◌, refl, sym, ap, subst, ◌∙◌}
use mathlib.Core.Bool.{Bool, true, false, not, ◌&&◌, cond}
use lib.IntN.{ℤ, pos, negsuc}
use lib.Dec.{T, leb, ltb, eqb, ltb→lt, leb→le, eqb→eq}
use lib.Pow.{pow-add, pow_pos, pow_mono, pow-lt, shl-shr}
use lib.Ieee.{Float, nan, inf, fin, binary32, binary64, up, down, low, prec, hid, top, size, span, climb, is_nan, fits, to_bits, of_bits}
use lib.Ieee.Bits.{of_bits-to_bits, to_bits-of_bits, of_bits-fits}
use lib.Ieee.Digits.{size-lt, size_reaches, size-le}
use lib.Ieee.Fits.{and_i, and_l, and_r, fits_widens}
use borrow.Author.Tests.{leb-true, leb-false, ne_eqb, le-leb, lt-leb, le-ltb}
use Rattle.arithmetic.proofs.Signs.{zero_exponent}
use Rattle.float_forms.specs.declared.forms.Form.TheVariants.{Short}
use Rattle.float_forms.specs.Representable.{representable}
use Rattle.float_forms.specs.Short.{guess, guess_size}

-- ---- powers of two

pub pow_split : (i j : ℕ) → 2 ^ (i + j) ≡ 2 ^ i * 2 ^ j
pow_split i j = pow-add 2 i j

pub exponent_lt : (a b : ℕ) → 2 ^ a < 2 ^ b → suc a ≤ b
exponent_lt a b h = lt_of_not-le (λ (g : b ≤ a). lt_irrefl (2 ^ a) (lt_of_lt_of_le h (pow_mono g)))

-- a number shifted up has as many more digits
pub size_up : (m j : ℕ) → 0 < m → size (m * 2 ^ j) ≡ size m + j
size_up m j h = le_antisymm below above
  where
    below : size (m * 2 ^ j) ≤ size m + j
    below =
        size-le (m * 2 ^ j) (size m + j)
        (subst (λ (x : ℕ). m * 2 ^ j < x) (sym (pow_split (size m) j)) (mul-lt-mul_of_pos_right (size-lt m) (pow_pos j)))

    digits : (a : ℕ) → size m ≡ suc a → 2 ^ a ≤ m
    digits a e = size_reaches m a (omega (arith, e))

    above_at : (a : ℕ) → size m ≡ a → a + j ≤ size (m * 2 ^ j)
    above_at zero e =
        let none : m < 1 = subst (λ (k : ℕ). m < 2 ^ k) e (size-lt m) in
        absurd (omega (arith, none, h))
    above_at (suc a) e =
        let least : 2 ^ (a + j) ≤ m * 2 ^ j = subst (λ (x : ℕ). x ≤ m * 2 ^ j) (sym (pow_split a j))
        (mul-le-mul_right (2 ^ j) (digits a e)) in
        let big : 2 ^ (a + j) < 2 ^ size (m * 2 ^ j) = lt_of_le_of_lt least (size-lt (m * 2 ^ j)) in
        omega (arith, exponent_lt (a + j) (size (m * 2 ^ j)) big)

    above : size m + j ≤ size (m * 2 ^ j)
    above = above_at (size m) refl

-- ---- the magnitudes, in units of each format's least number

-- where j is the exponent in units of 2^-149: with a digits, the pattern of 8 bytes and that of 4
pub wide_size : (m j : ℕ) → 0 < m → size m ≤ 24
    → (size (m * 2 ^ (j + 925)) - 53) * 0x10_0000_0000_0000 + m * 2 ^ (j + 925) / 2 ^ (size (m * 2 ^ (j + 925)) - 53)
    ≡ (size m + j + 872) * 0x10_0000_0000_0000 + m * 2 ^ (53 - size m)
wide_size m j h few =
    ap (λ (k : ℕ). k * 0x10_0000_0000_0000 + m * 2 ^ (j + 925) / 2 ^ k) dropped ∙ ap
    (λ (x : ℕ). (size m + j + 872) * 0x10_0000_0000_0000 + x) kept
  where
    one : 0 < size m
    one = go (size m) refl
      where
        go : (a : ℕ) → size m ≡ a → 0 < a
        go zero e = let none : m < 1 = subst (λ (k : ℕ). m < 2 ^ k) e (size-lt m) in absurd (omega (arith, none, h))
        go (suc a) e = omega arith

    dropped : size (m * 2 ^ (j + 925)) - 53 ≡ size m + j + 872
    dropped = omega (arith, size_up m (j + 925) h)

    parts : j + 925 ≡ (53 - size m) + (size m + j + 872)
    parts = omega (arith, few)

    kept : m * 2 ^ (j + 925) / 2 ^ (size m + j + 872) ≡ m * 2 ^ (53 - size m)
    kept =
        ap (λ (x : ℕ). m * 2 ^ x / 2 ^ (size m + j + 872)) parts
        ∙ ap (λ (x : ℕ). m * x / 2 ^ (size m + j + 872)) (pow_split (53 - size m) (size m + j + 872))
        ∙ ap (λ (x : ℕ). x / 2 ^ (size m + j + 872)) (sym (mul_assoc m (2 ^ (53 - size m)) (2 ^ (size m + j + 872))))
        ∙ shl-shr (m * 2 ^ (53 - size m)) (size m + j + 872)

-- what is kept of a normal number
pub short_normal : (m j : ℕ) → 0 < m → size m ≤ 24 → 24 ≤ size m + j
    → (size (m * 2 ^ j) - 24) * 0x80_0000 + m * 2 ^ j / 2 ^ (size (m * 2 ^ j) - 24) ≡ (size m + j - 24) * 0x80_0000 + m * 2 ^ (24 - size m)
short_normal m j h few many =
    ap (λ (k : ℕ). k * 0x80_0000 + m * 2 ^ j / 2 ^ k) dropped ∙ ap (λ (x : ℕ). (size m + j - 24) * 0x80_0000 + x) kept
  where
    dropped : size (m * 2 ^ j) - 24 ≡ size m + j - 24
    dropped = ap (λ (a : ℕ). a - 24) (size_up m j h)

    parts : j ≡ (24 - size m) + (size m + j - 24)
    parts = omega (arith, few, many)

    kept : m * 2 ^ j / 2 ^ (size m + j - 24) ≡ m * 2 ^ (24 - size m)
    kept =
        ap (λ (x : ℕ). m * 2 ^ x / 2 ^ (size m + j - 24)) parts
        ∙ ap (λ (x : ℕ). m * x / 2 ^ (size m + j - 24)) (pow_split (24 - size m) (size m + j - 24))
        ∙ ap (λ (x : ℕ). x / 2 ^ (size m + j - 24)) (sym (mul_assoc m (2 ^ (24 - size m)) (2 ^ (size m + j - 24))))
        ∙ shl-shr (m * 2 ^ (24 - size m)) (size m + j - 24)

-- a subnormal number is kept whole
pub short_small : (m j : ℕ) → 0 < m → size m + j < 24
    → (size (m * 2 ^ j) - 24) * 0x80_0000 + m * 2 ^ j / 2 ^ (size (m * 2 ^ j) - 24) ≡ m * 2 ^ j
short_small m j h small = ap (λ (k : ℕ). k * 0x80_0000 + m * 2 ^ j / 2 ^ k) dropped ∙ whole (m * 2 ^ j)
  where
    dropped : size (m * 2 ^ j) - 24 ≡ 0
    dropped = omega (arith, size_up m j h, small)

    whole : (n : ℕ) → 0 * 0x80_0000 + n / 2 ^ 0 ≡ n
    whole n = omega arith

-- ---- the guess at such a magnitude

-- the leading digits, 24 of them
pub leading : (m : ℕ) → 0 < m → size m ≤ 24
    → (0x80_0000 ≤ m * 2 ^ (24 - size m)) × (m * 2 ^ (24 - size m) < 0x100_0000) ×
    (m * 2 ^ (53 - size m) ≡ m * 2 ^ (24 - size m) * 0x2000_0000)
leading m h few = go (size m) refl few
  where
    go : (a : ℕ) → size m ≡ a → a ≤ 24
        → (0x80_0000 ≤ m * 2 ^ (24 - a)) × (m * 2 ^ (24 - a) < 0x100_0000) × (m * 2 ^ (53 - a) ≡ m * 2 ^ (24 - a) * 0x2000_0000)
    go zero e few = let none : m < 1 = subst (λ (k : ℕ). m < 2 ^ k) e (size-lt m) in absurd (omega (arith, none, h))
    go (suc a) e few =
        let first : 2 ^ a ≤ m = size_reaches m a (omega (arith, e)) in
        let last : m < 2 ^ suc a = subst (λ (k : ℕ). m < 2 ^ k) e (size-lt m) in
        let low_sum : a + (24 - suc a) ≡ 23 = omega (arith, few) in
        let high_sum : suc a + (24 - suc a) ≡ 24 = omega (arith, few) in
        let more : 53 - suc a ≡ (24 - suc a) + 29 = omega (arith, few) in (
          subst (λ (x : ℕ). x ≤ m * 2 ^ (24 - suc a)) (sym (pow_split a (24 - suc a)) ∙ ap (λ (x : ℕ). 2 ^ x) low_sum)
              (mul-le-mul_right (2 ^ (24 - suc a)) first),
          subst (λ (x : ℕ). m * 2 ^ (24 - suc a) < x) (sym (pow_split (suc a) (24 - suc a)) ∙ ap (λ (x : ℕ). 2 ^ x) high_sum)
              (mul-lt-mul_of_pos_right last (pow_pos (24 - suc a))),
          ap (λ (x : ℕ). m * 2 ^ x) more ∙ ap (λ (x : ℕ). m * x) (pow_split (24 - suc a) 29) ∙ sym
              (mul_assoc m (2 ^ (24 - suc a)) (2 ^ 29)),
        )

normal_is : (n : ℕ) → (n ≡ 0x7ff0_0000_0000_0000 → ⊥) → 897 ≤ n / 0x10_0000_0000_0000
    → guess_size n ≡ (n / 0x2000_0000 - 0x1_c000_0000) % 0x8000_0000
unfolding guess_size
normal_is n h g = simp (ne_eqb _ _ h, le-leb _ _ g)

small_is : (n : ℕ) → (n ≡ 0x7ff0_0000_0000_0000 → ⊥) → n / 0x10_0000_0000_0000 < 897 → 874 ≤ n / 0x10_0000_0000_0000
    → guess_size n ≡ (0x10_0000_0000_0000 + n % 0x10_0000_0000_0000) / 2 ^ (926 - n / 0x10_0000_0000_0000) % 0x8000_0000
unfolding guess_size
small_is n h g l = simp (ne_eqb _ _ h, lt-leb _ _ g, le-ltb _ _ l)

-- t digits above 2^-149, the first 24 of them q
abbrev pattern : ℕ → ℕ → ℕ
pattern t q = (t + 872) * 0x10_0000_0000_0000 + q * 0x2000_0000

guess_normal : (t q : ℕ) → 24 ≤ t → t ≤ 277 → 0x80_0000 ≤ q → q < 0x100_0000 → guess_size (pattern t q) ≡ (t - 24) * 0x80_0000 + q
guess_normal t q a b c d =
    let finite : pattern t q ≡ 0x7ff0_0000_0000_0000 → ⊥ = λ e. absurd (omega (arith, e, b, d)) in
    let field : 897 ≤ pattern t q / 0x10_0000_0000_0000 = omega (arith, a, c) in
    let value : (pattern t q / 0x2000_0000 - 0x1_c000_0000) % 0x8000_0000 ≡ (t - 24) * 0x80_0000 + q = omega (arith, a, b, c, d) in
    normal_is (pattern t q) finite field ∙ value

guess_small : (t q : ℕ) → 1 ≤ t → t < 24 → 0x80_0000 ≤ q → q < 0x100_0000
    → guess_size (pattern t q) ≡ q * 0x2000_0000 / 2 ^ (53 - t) % 0x8000_0000
guess_small t q a b c d =
    let finite : pattern t q ≡ 0x7ff0_0000_0000_0000 → ⊥ = λ e. absurd (omega (arith, e, b, d)) in
    let field : pattern t q / 0x10_0000_0000_0000 ≡ t + 873 = omega (arith, c, d) in
    let below : pattern t q / 0x10_0000_0000_0000 < 897 = omega (arith, b, field) in
    let above : 874 ≤ pattern t q / 0x10_0000_0000_0000 = omega (arith, a, field) in
    let digits : 0x10_0000_0000_0000 + pattern t q % 0x10_0000_0000_0000 ≡ q * 0x2000_0000 = omega (arith, c, d) in
    let shift : 926 - pattern t q / 0x10_0000_0000_0000 ≡ 53 - t = omega (arith, field) in
    small_is (pattern t q) finite below above
    ∙ ap (λ (x : ℕ). x / 2 ^ (926 - pattern t q / 0x10_0000_0000_0000) % 0x8000_0000) digits
    ∙ ap (λ (x : ℕ). q * 0x2000_0000 / 2 ^ x % 0x8000_0000) shift

-- with a sign
signed_guess : (s : Bool) (n : ℕ) → n < 0x8000_0000_0000_0000
    → guess (cond s 0x8000_0000_0000_0000 0 + n) ≡ cond s 0x8000_0000 0 + guess_size n
unfolding guess
signed_guess true n h =
    let one : (0x8000_0000_0000_0000 + n) / 0x8000_0000_0000_0000 * 0x8000_0000 ≡ 0x8000_0000 = omega (arith, h) in
    let rest : (0x8000_0000_0000_0000 + n) % 0x8000_0000_0000_0000 ≡ n = omega (arith, h) in
    ap (λ (x : ℕ). x + guess_size ((0x8000_0000_0000_0000 + n) % 0x8000_0000_0000_0000)) one
    ∙ ap (λ (x : ℕ). 0x8000_0000 + guess_size x) rest
signed_guess false n h =
    let none : (0 + n) / 0x8000_0000_0000_0000 * 0x8000_0000 ≡ 0 = omega (arith, h) in
    let rest : (0 + n) % 0x8000_0000_0000_0000 ≡ n = omega (arith, h) in
    ap (λ (x : ℕ). x + guess_size ((0 + n) % 0x8000_0000_0000_0000)) none ∙ ap (λ (x : ℕ). 0 + guess_size x) rest

-- ---- patterns by magnitude

to_bits_is_lem : (f : _) (s : Bool) (m : ℕ) (e : ℤ) (n : ℕ) → m * up e * 2 ^ low f / down e ≡ n
    → to_bits f (fin s m e) ≡ cond s (top f) 0 + (size n - prec f) * hid f + n / 2 ^ (size n - prec f)
unfolding to_bits
to_bits_is_lem f s m e n h = ap (λ (n : ℕ). cond s (top f) 0 + (size n - prec f) * hid f + n / 2 ^ (size n - prec f)) h

regroup : (a b c : ℕ) → a + b + c ≡ a + (b + c)
regroup a b c = omega arith

-- the guess at a number of j, in units of 2^-149
module _ (m j : ℕ) (pos-m : 0 < m) (few-m : m < 2 ^ 24) (most : size m + j ≤ 277) where
  abbrev t : ℕ
  t = size m + j

  abbrev q : ℕ
  q = m * 2 ^ (24 - size m)

  few : size m ≤ 24
  few = size-le m 24 few-m

  some_digit : 1 ≤ size m
  some_digit = go (size m) refl
    where
      go : (a : ℕ) → size m ≡ a → 1 ≤ a
      go zero e = let none : m < 1 = subst (λ (k : ℕ). m < 2 ^ k) e (size-lt m) in absurd (omega (arith, none, pos-m))
      go (suc a) e = omega arith

  as_pattern : (size (m * 2 ^ (j + 925)) - 53) * 0x10_0000_0000_0000 + m * 2 ^ (j + 925) / 2 ^ (size (m * 2 ^ (j + 925)) - 53) ≡ pattern t q
  as_pattern = wide_size m j pos-m few ∙ ap (λ (x : ℕ). (size m + j + 872) * 0x10_0000_0000_0000 + x) (leading m pos-m few).2

  in_range_lem : pattern t q < 0x8000_0000_0000_0000
  in_range_lem = omega (arith, most, (leading m pos-m few).1)

  -- a subnormal number: the guess shifts its digits back
  shifted_back : t < 24 → q * 0x2000_0000 / 2 ^ (53 - t) % 0x8000_0000 ≡ m * 2 ^ j
  shifted_back small =
      let parts : 53 - size m ≡ j + (53 - t) = omega (arith, small) in
      let within : m * 2 ^ j < 2 ^ t = subst (λ (x : ℕ). m * 2 ^ j < x) (sym (pow_split (size m) j))
      (mul-lt-mul_of_pos_right (size-lt m) (pow_pos j)) in
      let less : t ≤ 23 = omega (arith, small) in
      let tiny : 2 ^ t ≤ 2 ^ 23 = pow_mono less in
      let digits : q * 0x2000_0000 / 2 ^ (53 - t) ≡ m * 2 ^ j =
      ap (λ (x : ℕ). x / 2 ^ (53 - t))
      (sym (leading m pos-m few).2 ∙ ap (λ (x : ℕ). m * 2 ^ x) parts ∙ ap (λ (x : ℕ). m * x) (pow_split j (53 - t)) ∙ sym
      (mul_assoc m (2 ^ j) (2 ^ (53 - t))))
      ∙ shl-shr (m * 2 ^ j) (53 - t) in
      omega (arith, digits, within, tiny)

  by_size : (b : Bool) → leb 24 t ≡ b
      → guess_size (pattern t q) ≡ (size (m * 2 ^ j) - 24) * 0x80_0000 + m * 2 ^ j / 2 ^ (size (m * 2 ^ j) - 24)
  by_size true e =
      let many : 24 ≤ t = leb-true 24 t e in
      guess_normal t q many most (leading m pos-m few).0 (leading m pos-m few).1 ∙ sym (short_normal m j pos-m few many)
  by_size false e =
      let small : t < 24 = leb-false 24 t e in
      let some : 1 ≤ t = omega (arith, some_digit) in
      guess_small t q some small (leading m pos-m few).0 (leading m pos-m few).1 ∙ shifted_back small ∙ sym (short_small m j pos-m small)

  narrow_at : (s : Bool) (e : ℤ) → m * up e * 2 ^ 149 / down e ≡ m * 2 ^ j → m * up e * 2 ^ 1074 / down e ≡ m * 2 ^ (j + 925)
      → guess (to_bits binary64 (fin s m e)) ≡ to_bits binary32 (fin s m e)
  narrow_at s e short wide =
      ap guess
      (to_bits_is_lem binary64 s m e (m * 2 ^ (j + 925)) wide ∙ regroup (cond s (top binary64) 0) _ _ ∙ ap
      (λ (x : ℕ). cond s (top binary64) 0 + x) as_pattern)
      ∙ signed_guess s (pattern t q) in_range_lem
      ∙ ap (λ (x : ℕ). cond s (top binary32) 0 + x) (by_size (leb 24 t) refl)
      ∙ sym (to_bits_is_lem binary32 s m e (m * 2 ^ j) short ∙ regroup (cond s (top binary32) 0) _ _)

-- ---- every number that 4 bytes hold

four : (a b c d : Bool) → T (a && b && c && d) → T b × T c × T d
four true true true true _ = (tt, tt, tt)
four false b c d h = absurd h
four true false c d h = absurd h
four true true false d h = absurd h
four true true true false h = absurd h

shift_up : (m l k d : ℕ) → d ≡ k + l → m * 2 ^ k * 2 ^ l / 1 ≡ m * 2 ^ d
shift_up m l k d e =
    div-one (m * 2 ^ k * 2 ^ l) ∙ mul_assoc m (2 ^ k) (2 ^ l) ∙ ap (λ (x : ℕ). m * x)
    (sym (pow_split k l) ∙ ap (λ (x : ℕ). 2 ^ x) (sym e))

shift_down : (m l k d : ℕ) → l ≡ d + k → m * 1 * 2 ^ l / 2 ^ k ≡ m * 2 ^ d
shift_down m l k d e =
    ap (λ (x : ℕ). x * 2 ^ l / 2 ^ k) (mul-one m)
    ∙ ap (λ (x : ℕ). m * x / 2 ^ k) (ap (λ (x : ℕ). 2 ^ x) e ∙ pow_split d k)
    ∙ ap (λ (x : ℕ). x / 2 ^ k) (sym (mul_assoc m (2 ^ d) (2 ^ k)))
    ∙ shl-shr (m * 2 ^ d) k

narrow_inf : (s : Bool) → guess (to_bits binary64 (inf s)) ≡ to_bits binary32 (inf s)
unfolding guess guess_size to_bits
narrow_inf true = refl
narrow_inf false = refl

narrow_zero : (s : Bool) → guess (to_bits binary64 (fin s 0 (pos 0))) ≡ to_bits binary32 (fin s 0 (pos 0))
unfolding guess guess_size to_bits size span climb
narrow_zero true = refl
narrow_zero false = refl

narrow_up : (s : Bool) (m k : ℕ) → 0 < m → m < 2 ^ 24 → m * 2 ^ k < 2 ^ 128 * 1
    → guess (to_bits binary64 (fin s m (pos k))) ≡ to_bits binary32 (fin s m (pos k))
narrow_up s m k some few below =
    let far : k + 149 + 925 ≡ k + 1074 = omega arith in
    narrow_at m (k + 149) some few most s (pos k) (shift_up m 149 k (k + 149) refl) (shift_up m 1074 k (k + 149 + 925) far)
  where
    most : size m + (k + 149) ≤ 277
    most =
        let grown : m * 2 ^ k * 2 ^ 149 < 2 ^ 128 * 1 * 2 ^ 149 = mul-lt-mul_of_pos_right below (pow_pos 149) in
        let product : m * 2 ^ (k + 149) < 2 ^ 277 = subst (λ (x : ℕ). x < 2 ^ 277)
        (mul_assoc m (2 ^ k) (2 ^ 149) ∙ ap (λ (x : ℕ). m * x) (sym (pow_split k 149))) grown in
        omega (arith, size_up m (k + 149) some, size-le (m * 2 ^ (k + 149)) 277 product)

narrow_down : (s : Bool) (m k : ℕ) → 0 < m → m < 2 ^ 24 → 2 ^ suc k ≤ 2 ^ 149
    → guess (to_bits binary64 (fin s m (negsuc k))) ≡ to_bits binary32 (fin s m (negsuc k))
narrow_down s m k some few low-enough =
    let within : suc (suc k) ≤ 150 = exponent_lt (suc k) 150 (lt_of_le_of_lt low-enough (pow-lt {i = 149} {j = 150} (omega arith))) in
    let short : 149 ≡ (149 - suc k) + suc k = omega (arith, within) in
    let wide : 1074 ≡ (149 - suc k) + 925 + suc k = omega (arith, within) in
    let most : size m + (149 - suc k) ≤ 277 = omega (arith, size-le m 24 few) in
    narrow_at m (149 - suc k) some few most s (negsuc k) (shift_down m 149 (suc k) (149 - suc k) short)
    (shift_down m 1074 (suc k) ((149 - suc k) + 925) wide)

pub narrow_right : (x : Float) → T (fits binary32 x) → T (not (is_nan x)) → guess (to_bits binary64 x) ≡ to_bits binary32 x
unfolding fits is_nan
narrow_right nan f n = absurd n
narrow_right (inf s) f n = narrow_inf s
narrow_right (fin s zero e) f n =
    subst (λ (z : ℤ). guess (to_bits binary64 (fin s 0 z)) ≡ to_bits binary32 (fin s 0 z))
    (sym (zero_exponent e (eqb→eq (up e * down e) 1 f))) (narrow_zero s)
narrow_right (fin s (suc m) (pos k)) f n =
    let some : 0 < suc m = omega arith in
    let parts = four (eqb (suc m % 2) 1) (ltb (suc m) (2 ^ 24)) (leb 1 (2 ^ 149)) (ltb (suc m * 2 ^ k) (2 ^ 128 * 1)) f in
    narrow_up s (suc m) k some (ltb→lt (suc m) (2 ^ 24) parts.0) (ltb→lt (suc m * 2 ^ k) (2 ^ 128 * 1) parts.2)
narrow_right (fin s (suc m) (negsuc k)) f n =
    let some : 0 < suc m = omega arith in
    let parts = four (eqb (suc m % 2) 1) (ltb (suc m) (2 ^ 24)) (leb (2 ^ suc k) (2 ^ 149)) (ltb (suc m * 1) (2 ^ 128 * 2 ^ suc k)) f in
    narrow_down s (suc m) k some (ltb→lt (suc m) (2 ^ 24) parts.0) (leb→le (2 ^ suc k) (2 ^ 149) parts.1)

-- ---- the round trips, on patterns

-- from 8 bytes to 4 and back
pub back_wide : (bits : ℕ) → bits < 0x1_0000_0000_0000_0000 → T (representable Short (of_bits binary64 bits))
    → to_bits binary64 (of_bits binary32 (to_bits binary32 (of_bits binary64 bits))) ≡ bits
unfolding representable
back_wide bits h f =
    ap (to_bits binary64)
    (of_bits-to_bits binary32 (of_bits binary64 bits) (and_r (not (is_nan (of_bits binary64 bits))) (fits binary32 (of_bits binary64 bits))
    f))
    ∙ to_bits-of_bits binary64 bits h (and_l (not (is_nan (of_bits binary64 bits))) (fits binary32 (of_bits binary64 bits)) f)

-- from 4 bytes to 8 and back: every pattern but a NaN's
pub back_short : (bits : ℕ) → bits < 0x1_0000_0000 → T (not (is_nan (of_bits binary32 bits)))
    → to_bits binary32 (of_bits binary64 (to_bits binary64 (of_bits binary32 bits))) ≡ bits
back_short bits h n =
    ap (to_bits binary32) (of_bits-to_bits binary64 (of_bits binary32 bits)
    (fits_widens (of_bits binary32 bits) (of_bits-fits binary32 bits)))
    ∙ to_bits-of_bits binary32 bits h n

-- what 4 bytes stand for is representable by 4 bytes
pub widened_representable : (bits : ℕ) → T (not (is_nan (of_bits binary32 bits))) → T (representable Short (of_bits binary32 bits))
unfolding representable
widened_representable bits n =
    and_i (not (is_nan (of_bits binary32 bits))) (fits binary32 (of_bits binary32 bits)) n (of_bits-fits binary32 bits)
