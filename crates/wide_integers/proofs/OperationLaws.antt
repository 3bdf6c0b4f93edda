-- Sums, differences, products and comparisons, from what their steps on single words tell. Assumes nothing.
use Rattle.std.proofs.Common.{◌≡◌, ℕ, suc, ◌+◌, ◌-◌, ◌*◌, ◌/◌, ◌%◌, ◌^◌, ◌<◌, ◌≤◌, Bool, true, false, not, ltb, leb, ℤ, pos, negsuc}
use Rattle.std.proofs.Common.{◌+ℤ◌, ◌-ℤ◌, ◌*ℤ◌, nat_abs, sym, refl, ap, ◌∙◌, subst, lt_of_le_of_lt, mul-le-mul_right, mul-le-mul_left}
use Rattle.std.proofs.Common.{arith, lit<, w64, SFits, ltb-false, ltb-true, le-leb}
use native.Mathlib.Nat.{add-mul-mod_self_right}
use lib.Signed.{lt_z, le_z, nat_abs-le}
use borrow.Author.Tests.{lt-leb}
use Rattle.wide_integers.specs.Sizes.{Sized}
use Rattle.wide_integers.proofs.Integers.{pp, np, mul_size}
use Rattle.wide_integers.proofs.Polynomials.{Rep, own_pos, rep_add, rep_sub, rep_mul}
use Rattle.wide_integers.proofs.Order.{lt_rep, nlt_rep}
use Rattle.wide_integers.proofs.Reading.{product_size}
use Rattle.wide_integers.specs.declared.number.Wide.{Wide}
use Rattle.wide_integers.specs.declared.words.Carried.{Carried}
use Rattle.wide_integers.specs.declared.words.Double.{Double}
use Rattle.wide_integers.specs.declared.words.Part.{Part}
use Rattle.wide_integers.specs.Value.{base, half, zero_at, raised, value, FitsWide, Middling}
use Rattle.wide_integers.specs.Steps.{Added, Subtracted, Multiplied, SplitSign}
use Rattle.wide_integers.proofs.Limbs.{sum_words, difference_words, product_words}
use Rattle.wide_integers.proofs.Limbs.{times_words}
use Rattle.wide_integers.proofs.Limbs.{high_less, high_not_less, sign_words}
use Rattle.wide_integers.proofs.Limbs.{sign_above, sign_below, sign_least, sign_most}
use Rattle.wide_integers.proofs.Limbs.{middle_least, middle_most, middle_words}
use Rattle.wide_integers.proofs.ValueLaws.{difference_rep, rep_least, rep_most, value_rep, value_is, value_told}

-- ---- sizes
pub held : {B : ℕ} {z : ℤ} → Sized B z → B < zero_at → FitsWide z
held s l = record { size = lt_of_le_of_lt s.size l }

pub middling : {B : ℕ} {z : ℤ} → Sized B z → B < base * base → Middling z
middling s l = record { size = lt_of_le_of_lt s.size l }

pub word_size : {z : ℤ} → SFits w64 z → Sized half z
word_size {z} f = record { size = nat_abs-le z f.sfits }

pub below_product : (n k C H : ℕ) → n < C → k ≤ H → 0 < H → n * k < H * C
below_product n k C H h g p =
    let f : n * k ≤ n * H = mul-le-mul_left n g in
    let e : suc n * H ≤ C * H = mul-le-mul_right H h in
    omega (arith, f, e, p)

-- ---- sums and differences
module _ (a b : Wide) (l m : Carried ℕ) (s h : ℕ) where
  pub sum_told : Added a.low b.low 0 l → Added a.middle b.middle l.over m → s ≡ (a.high + b.high) % 2 ^ 64
      → h ≡ (s + (half + m.over)) % 2 ^ 64 → FitsWide (value a +ℤ value b)
      → value (record { high = h; middle = m.words; low = l.words }) ≡ value a +ℤ value b
  sum_told e f g k held =
      value_told (rep_add (value_rep a) (value_rep b)) (record { high = h; middle = m.words; low = l.words }) half
      (a.high + b.high + m.over)
      (sum_words base half a.high a.middle a.low b.high b.middle b.low m.words l.words l.over m.over e.sum
      f.sum) held (fits s m.over k) (top a.high b.high m.over s h g k) f.word e.word
    where
      fits : (s o : ℕ) → h ≡ (s + (half + o)) % 2 ^ 64 → h < base
      fits s o k = omega (arith, k)

      top : (x y o s h : ℕ) → s ≡ (x + y) % 2 ^ 64 → h ≡ (s + (half + o)) % 2 ^ 64 → (h + half) % base ≡ (x + y + o) % base
      top x y o s h g k = omega (arith, g, k)

-- what is taken twice is taken once
taken_twice : (h o s y t : ℕ) → (h + o) % 2 ^ 64 ≡ s → (s + y) % 2 ^ 64 ≡ t → (h + (y + o)) % 2 ^ 64 ≡ t
taken_twice h o s y t e f = omega (arith, e, f)

module _ (a b : Wide) (l m : Carried ℕ) (t s h : ℕ) (hh : h < base) where
  pub difference_told : Subtracted a.low b.low 0 l → Subtracted a.middle b.middle l.over m → t ≡ (a.high + half) % 2 ^ 64
      → (s + b.high) % 2 ^ 64 ≡ t → (h + m.over) % 2 ^ 64 ≡ s → FitsWide (value a -ℤ value b)
      → value (record { high = h; middle = m.words; low = l.words }) ≡ value a -ℤ value b
  difference_told e f g k j held =
      value_told (rep_sub (value_rep a) (value_rep b)) (record { high = h; middle = m.words; low = l.words }) (b.high + m.over)
      (a.high + half)
      (difference_words base half a.high a.middle a.low b.high b.middle b.low m.words l.words l.over m.over
      e.rest f.rest) held hh (taken_twice h m.over s b.high t j k ∙ g) f.word e.word

-- ---- products
pub part_rep : {x : ℤ} {r : Part} → SplitSign x r → Rep x r.word (r.below * base)
part_rep {r = r} h = subst (λ (z : ℤ). Rep z r.word (r.below * base)) h.whole (difference_rep r.word (r.below * base))

pub flag_word : {s w : ℕ} → s ≤ 1 → w < base → s * w < base
flag_word {s} {w} h k = let g : s * w ≤ 1 * w = mul-le-mul_right w h in omega (arith, g, k)

module _ {x y : ℤ} (a b : Part) (d : Double) (once twice : Carried ℕ) (pa : SplitSign x a) (pb : SplitSign y b) (fx : SFits w64 x)
    (fy : SFits w64 y) where
  product_told : Multiplied a.word b.word d → Subtracted d.high (b.below * a.word) 0 once
      → Subtracted once.words (a.below * b.word) 0 twice
      → value (record { high = half + a.below * b.below - (once.over + twice.over); middle = twice.words; low = d.low }) ≡ x *ℤ y
  product_told e f g =
      value_is (rep_mul (part_rep pa) (part_rep pb))
      (record { high = half + a.below * b.below - (once.over + twice.over); middle = twice.words; low = d.low })
      (once.over + twice.over) (half + a.below * b.below)
      (product_words base half a.word a.below b.word b.below d.high d.low once.words twice.words once.over
      twice.over e.product f.rest g.rest) (top (a.below * b.below) once.over twice.over f.over g.over)
      g.word e.low
    where
      top : (st u v : ℕ) → u ≤ 1 → v ≤ 1 → half + st - (u + v) + (u + v) ≡ half + st
      top st u v h k = omega (arith, h, k)

-- the highest word of a number below 2^127 either way
high_told : (w : Wide) → w.middle < base → w.low < base → nat_abs (value w) < half * base → w.high ≡ half - w.middle / half
high_told w hm hl k =
    go w.high w.middle hm (sign_least base half w.high w.middle w.low hm hl refl least)
    (sign_most base half w.high w.middle w.low hm hl refl most)
    (sign_above base half w.high w.middle w.low hm hl refl most)
    (sign_below base half w.high w.middle w.low hm hl refl least)
  where
    least : zero_at < raised w + half * base
    least = rep_least (value_rep w) (half * base) k

    most : raised w < zero_at + half * base
    most = rep_most (value_rep w) (half * base) k

    go : (h m : ℕ) → m < base → half ≤ h + 1 → h ≤ half → (half ≤ h → m < half) → (h < half → half ≤ m) → h ≡ half - m / half
    go h m hm a b f g = split (ltb h half) (ltb-true h half) (ltb-false h half)
      where
        split : (t : Bool) → (t ≡ true → h < half) → (t ≡ false → half ≤ h) → h ≡ half - m / half
        split true p q = let l = p refl in let n = g l in omega (arith, l, n, a, hm)
        split false p q = let l = q refl in let n = f l in omega (arith, l, n, b)

module _ {x y : ℤ} (a b : Part) (d : Double) (once twice : Carried ℕ) (pa : SplitSign x a) (pb : SplitSign y b) (fx : SFits w64 x)
    (fy : SFits w64 y) where
  pub product_signed : Multiplied a.word b.word d → Subtracted d.high (b.below * a.word) 0 once
      → Subtracted once.words (a.below * b.word) 0 twice
      → value (record { high = half - twice.words / half; middle = twice.words; low = d.low }) ≡ x *ℤ y
  product_signed e f g =
      let h = half + a.below * b.below - (once.over + twice.over) in
      let v : value (record { high = h; middle = twice.words; low = d.low }) ≡ x *ℤ y = product_told a b d once twice pa pb fx fy e f g in
      ap (λ (n : ℕ). value (record { high = n; middle = twice.words; low = d.low }))
      (sym (high_told (record { high = h; middle = twice.words; low = d.low }) g.word e.low
      (subst (λ (z : ℤ). nat_abs z < half * base) (sym v)
      (lt_of_le_of_lt (product_size (word_size fx) (word_size fy)).size (lit< tt)))))
      ∙ v

-- a number below 2^128 either way, by its two lower words
module _ (a : Wide) (hm : a.middle < base) (hl : a.low < base) (k : Middling (value a)) where
  pub middling_most : a.high ≤ half
  middling_most = middle_most base half a.high a.middle a.low hm hl (rep_most (value_rep a) (base * base) k.size)

  pub middling_least : half - a.high ≤ 1
  middling_least =
      plain a.high (middle_least base half a.high a.middle a.low hm hl (rep_least (value_rep a) (base * base) k.size))
    where
      plain : (h : ℕ) → half ≤ h + 1 → half - h ≤ 1
      plain h g = omega (arith, g)

  middling_rep : Rep (value a) (a.middle * base + a.low) ((half - a.high) * (base * base))
  middling_rep =
      record {
        is = middle_words base half a.high a.middle a.low hm hl (half - a.high) (pp (value a)) (np (value a))
            (plain a.high middling_most) (value_rep a).is;
      }
    where
      plain : (h : ℕ) → h ≤ half → h + (half - h) ≡ half
      plain h g = omega (arith, g)

  module _ {y : ℤ} (b : Part) (lower upper : Double) (once twice : Carried ℕ) (over first second h : ℕ) (pb : SplitSign y b)
      (fy : SFits w64 y)
      (hh : h < base) where
    pub times_told : Multiplied a.low b.word lower → Multiplied a.middle b.word upper → Added lower.high upper.low 0 once
        → Subtracted once.words (b.below * a.low) 0 twice → over ≡ (upper.high + (half + once.over)) % 2 ^ 64
        → (first + twice.over) % 2 ^ 64 ≡ over → (second + b.below * a.middle) % 2 ^ 64 ≡ first
        → (h + (half - a.high) * b.word) % 2 ^ 64 ≡ second
        → value (record { high = h; middle = twice.words; low = lower.low }) ≡ value a *ℤ y
    times_told e f g j w u v x =
        value_told (rep_mul middling_rep (part_rep pb)) (record { high = h; middle = twice.words; low = lower.low })
        (twice.over + b.below * a.middle + (half - a.high) * b.word)
        (upper.high + once.over + half + (half - a.high) * b.below * base)
        (times_words base half a.middle a.low (half - a.high) b.word b.below lower.high lower.low upper.high
        upper.low once.words twice.words twice.over once.over e.product f.product g.sum j.rest)
        (record { size = held_product }) hh
        (top twice.over (b.below * a.middle) ((half - a.high) * b.word) upper.high once.over ((half - a.high) * b.below) w u
        (taken_twice h ((half - a.high) * b.word) second (b.below * a.middle) first x v)) j.word e.low
      where
        held_product : nat_abs (value a *ℤ y) < zero_at
        held_product =
            subst (λ (n : ℕ). n < zero_at) (sym (mul_size (value a) y))
            (below_product (nat_abs (value a)) (nat_abs y) (base * base) half k.size (word_size fy).size (lit< tt))

        grouped : (h x y z : ℕ) → h + (x + y + z) ≡ h + (x + (y + z))
        grouped h x y z = omega arith

        shifted : (i c : ℕ) → i + (half + c) ≡ i + c + half
        shifted i c = omega arith

        top : (p₁ p₂ p₃ i c st : ℕ) → over ≡ (i + (half + c)) % 2 ^ 64 → (first + p₁) % 2 ^ 64 ≡ over → (h + (p₂ + p₃)) % 2 ^ 64 ≡ first
            → (h + (p₁ + p₂ + p₃)) % base ≡ (i + c + half + st * base) % base
        top p₁ p₂ p₃ i c st w u r =
            ap (λ (n : ℕ). n % base) (grouped h p₁ p₂ p₃) ∙ taken_twice h (p₂ + p₃) first p₁ over r u ∙ w
            ∙ ap (λ (n : ℕ). n % base) (shifted i c) ∙ sym (add-mul-mod_self_right (i + c + half) st base)

-- ---- the order
moved : (x y z : ℕ) → x < y → x + z < y + z
moved x y z h = omega (arith, h)

at_most_nat : (a b : ℕ) → not (ltb b a) ≡ leb a b
at_most_nat a b = go (ltb b a) (ltb-true b a) (ltb-false b a)
  where
    go : (t : Bool) → (t ≡ true → b < a) → (t ≡ false → a ≤ b) → not t ≡ leb a b
    go true f g = sym (lt-leb a b (f refl))
    go false f g = sym (le-leb a b (g refl))

pub at_most_told : (z w : ℤ) → not (lt_z w z) ≡ le_z z w
at_most_told (pos a) (pos b) = at_most_nat a b
at_most_told (pos a) (negsuc b) = refl
at_most_told (negsuc a) (pos b) = refl
at_most_told (negsuc a) (negsuc b) = at_most_nat b a

pub negative_told : (a : Wide) → a.middle < base → a.low < base → ltb a.high half ≡ lt_z (value a) (pos 0)
negative_told a hm hl = go (ltb a.high half) (ltb-true a.high half) (ltb-false a.high half)
  where
    plain : (x y : ℕ) → x < y → x + 0 < 0 + y
    plain x y h = omega (arith, h)

    plain_not : (x y : ℕ) → y ≤ x → 0 + y ≤ x + 0
    plain_not x y h = omega (arith, h)

    go : (t : Bool) → (t ≡ true → a.high < half) → (t ≡ false → half ≤ a.high) → t ≡ lt_z (value a) (pos 0)
    go true f g =
        sym (lt_rep (value_rep a) (own_pos 0) (plain (raised a) zero_at (high_less base half a.high a.middle a.low hm hl (f refl))))
    go false f g =
        sym (nlt_rep (value_rep a) (own_pos 0) (plain_not (raised a) zero_at
        (high_not_less base half a.high a.middle a.low (g refl))))

-- a single word with its sign, as three words
pub whole_told : {x : ℤ} (a : Part) → SplitSign x a
    → value (record { high = half - a.below; middle = a.below * 18446744073709551615; low = a.word }) ≡ x
whole_told {x} a h =
    value_is (part_rep h) (record { high = half - a.below; middle = a.below * 18446744073709551615; low = a.word }) a.below half
    (go a.below h.below) (top a.below h.below) (flag_word h.below (lit< tt)) h.word
  where
    go : (s : ℕ) → s ≤ 1
        → a.word + half * (base * base) + s * (base * base) ≡ s * base + half * (base * base) + (s * 18446744073709551615 * base + a.word)
    go s k = sign_words base half 18446744073709551615 refl a.word s

    top : (s : ℕ) → s ≤ 1 → half - s + s ≡ half
    top s k = omega (arith, k)
