-- Sums, differences, products and comparisons, from what their steps on three words tell. Assumes nothing.
use Rattle.std.proofs.Common.{◌≡◌, ℕ, ◌+◌, ◌-◌, ◌*◌, ◌/◌, ◌^◌, ◌<◌, ◌≤◌, Bool, true, false, ℤ, pos, negsuc, ◌+ℤ◌, ◌-ℤ◌}
use Rattle.std.proofs.Common.{◌*ℤ◌, nat_abs, sym, refl, ap, ◌∙◌, le_trans, le_of_eq, lt_of_le_of_lt, arith, lit<}
use lib.Signed.{lt_z}
use Rattle.wide_integers.specs.declared.number.Wide.{Wide}
use Rattle.wide_integers.specs.Value.{base, half, zero_at, raised, value, FitsWide, Middling}
use Rattle.wide_integers.proofs.Integers.{pp, np, mul_size}
use Rattle.wide_integers.proofs.Polynomials.{Rep, own_pos, rep_add, rep_sub, rep_mul, equal}
use Rattle.wide_integers.proofs.Order.{lt_rep, nlt_rep, rep_lt, rep_nlt}
use Rattle.wide_integers.proofs.Reading.{mul_le, product_size}
use Rattle.wide_integers.proofs.ValueLaws.{difference_rep, rep_least, rep_most, value_rep}
use Rattle.wide_integers.specs.declared.words.Carried.{Carried}
use Rattle.wide_integers.specs.declared.words.Double.{Double}
use Rattle.wide_integers.specs.declared.triples.Long.{Long}
use Rattle.wide_integers.specs.Triples.{triple_base, Words, Carries, Borrows, Doubled, Signed, Times}
use Rattle.wide_integers.specs.LongValue.{long_zero, long_raised, long_value, FitsLong}
use Rattle.wide_integers.proofs.Limbs.{three, two_words, middle_words}
use Rattle.wide_integers.proofs.OperationLaws.{middling_most}
use Rattle.wide_integers.specs.Sizes.{Sized}
use Rattle.wide_integers.specs.declared.triples.Quad.{Quad}
use Rattle.wide_integers.specs.Triples.{PairsMultiplied, PairSubtracted}
use Rattle.wide_integers.proofs.Pairs.{medium_pair, medium_turned, medium_sum, six_words, six_joined, narrow_pair}
use Rattle.wide_integers.proofs.Rows.{below_cube, signed_top}
use Rattle.wide_integers.proofs.Pairs.{remainder_is, sum_pair, difference_pair, product_pair}
use Rattle.wide_integers.proofs.Pairs.{pair_below, sign_less, sign_not_less}

-- ---- what words stand for
pub words_below : {w : Wide} → Words w → raised w < triple_base
words_below {w} k = below_cube base w.high w.middle w.low k.high k.middle k.low

pub long_rep : (w : Long) → Rep (long_value w) (long_raised w) long_zero
unfolding long_value
long_rep w = difference_rep (long_raised w) long_zero

swap : (a n p l : ℕ) → p + l ≡ n + a → a + n ≡ p + l
swap a n p l g = omega (arith, g)

-- a number as a difference P - N, and the words that this difference leaves up to a multiple of 2^384, or of 2^192
module _ {z : ℤ} {P N : ℕ} (r : Rep z P N) (p q : ℕ) where
  pub long_is : (w : Long) → Words w.high → Words w.low → FitsLong z
      → P + long_zero + p * (triple_base * triple_base) ≡ N + long_raised w + q * (triple_base * triple_base) → long_value w ≡ z
  long_is w h l k e =
      equal (long_rep w) r
      (swap (long_raised w) N P long_zero
      (remainder_is P N long_zero (long_raised w) (triple_base * triple_base) p q refl (rep_least r long_zero k.size)
      (rep_most r long_zero k.size)
      (pair_below triple_base (raised w.high) (raised w.low) (words_below h) (words_below l)) e))

  pub wide_is : (w : Wide) → Words w → FitsWide z → P + zero_at + p * triple_base ≡ N + raised w + q * triple_base → value w ≡ z
  wide_is w h k e =
      equal (value_rep w) r
      (swap (raised w) N P zero_at
      (remainder_is P N zero_at (raised w) triple_base p q refl (rep_least r zero_at k.size) (rep_most r zero_at k.size)
      (words_below h) e))

-- a number of three words is their words less 2^192 where it is below 0
pub signed_rep : {a : Wide} {x : Carried Wide} → Signed a x → Rep (value a) (raised x.words) (x.over * triple_base)
signed_rep {a} {x} s =
    record {
      is =
          moved (pp (value a)) (np (value a)) (raised a) zero_at (raised x.words) (x.over * triple_base) (value_rep a).is s.same;
    }
  where
    moved : (v n A Z X S : ℕ) → v + Z ≡ A + n → X + Z ≡ A + S → v + S ≡ X + n
    moved v n A Z X S e f = omega (arith, e, f)

-- ---- sums and differences
module _ (a b : Long) (l h t : Carried Wide) (c : Signed h.words t) where
  pub sum_is : Carries a.low b.low 0 l → Carries a.high b.high l.over h → FitsLong (long_value a +ℤ long_value b)
      → long_value (record { high = t.words; low = l.words }) ≡ long_value a +ℤ long_value b
  sum_is e f k =
      long_is (rep_add (long_rep a) (long_rep b)) t.over h.over (record { high = t.words; low = l.words }) c.words
      e.words k
      (sum_pair triple_base zero_at refl (raised a.high) (raised a.low) (raised b.high) (raised b.low) (raised h.words)
      (raised l.words) l.over h.over (raised t.words) t.over e.sum f.sum c.same)

  pub difference_is : Borrows a.low b.low 0 l → Borrows a.high b.high l.over h → FitsLong (long_value a -ℤ long_value b)
      → long_value (record { high = t.words; low = l.words }) ≡ long_value a -ℤ long_value b
  difference_is e f k =
      long_is (rep_sub (long_rep a) (long_rep b)) (h.over + t.over) 1 (record { high = t.words; low = l.words }) c.words
      e.words k
      (difference_pair triple_base zero_at refl (raised a.high) (raised a.low) (raised b.high) (raised b.low)
      (raised h.words) (raised l.words) l.over h.over (raised t.words) t.over e.rest f.rest c.same)

-- ---- products
-- a number of three words is 2^191 at most, and the product of two is 2^382 at most
value_size : (a : Wide) → Words a → nat_abs (value a) ≤ zero_at
value_size a h = most (value a) (raised a) zero_at (value_rep a) (words_below h)
  where
    most : (z : ℤ) (A Z : ℕ) → Rep z A Z → A < Z + Z → nat_abs z ≤ Z
    most (pos n) A Z r k = let e = r.is in omega (arith, e, k)
    most (negsuc n) A Z r k = let e = r.is in omega (arith, e)

pub product_fits : (a b : Wide) → Words a → Words b → FitsLong (value a *ℤ value b)
product_fits a b h k =
    record {
      size =
          lt_of_le_of_lt (le_trans (le_of_eq (mul_size (value a) (value b)))
          (mul_le (nat_abs (value a)) (nat_abs (value b)) zero_at zero_at (value_size a h) (value_size b k))) (lit< tt);
    }

module _ {a b : Wide} {x y : Carried Wide} (sa : Signed a x) (sb : Signed b y) (m : Long) (e : Doubled x.words y.words m) where
  pub product_is : {u v : Wide} (once twice top : Carried Wide) → Times y.over x.words u → Times x.over y.words v
      → Borrows m.high u 0 once → Borrows once.words v 0 twice → Signed twice.words top → FitsLong (value a *ℤ value b)
      → long_value (record { high = top.words; low = m.low }) ≡ value a *ℤ value b
  product_is {u} {v} once twice top tu tv f g c k =
      long_is (rep_mul (signed_rep sa) (signed_rep sb)) (once.over + twice.over + top.over) (x.over * y.over + 1)
      (record { high = top.words; low = m.low }) c.words e.low k
      (product_pair triple_base zero_at refl (raised x.words) (raised y.words) x.over y.over (raised m.high)
      (raised m.low) (raised once.words) (raised twice.words) (raised top.words) once.over twice.over top.over
      e.product
      (ap (λ (n : ℕ). raised once.words + (n + 0)) (sym tu.product) ∙ f.rest)
      (ap (λ (n : ℕ). raised twice.words + (n + 0)) (sym tv.product) ∙ g.rest) c.same)

-- ---- the order
-- the sign is that of the higher words
pub negative_decides : (a : Long) → Words a.low → lt_z (value a.high) (pos 0) ≡ lt_z (long_value a) (pos 0)
negative_decides a k = go (lt_z (value a.high) (pos 0)) refl
  where
    less₀ : (x y : ℕ) → x < y → x + 0 < 0 + y
    less₀ x y h = omega (arith, h)

    not_less₀ : (x y : ℕ) → y ≤ x → 0 + y ≤ x + 0
    not_less₀ x y h = omega (arith, h)

    less⁰ : (x y : ℕ) → x + 0 < 0 + y → x < y
    less⁰ x y h = omega (arith, h)

    not_less⁰ : (x y : ℕ) → 0 + y ≤ x + 0 → y ≤ x
    not_less⁰ x y h = omega (arith, h)

    go : (t : Bool) → lt_z (value a.high) (pos 0) ≡ t → t ≡ lt_z (long_value a) (pos 0)
    go true e =
        sym (lt_rep (long_rep a) (own_pos 0) (less₀ (long_raised a) long_zero
        (sign_less triple_base zero_at (raised a.high) (raised a.low) (words_below k)
        (less⁰ (raised a.high) zero_at (rep_lt (value_rep a.high) (own_pos 0) e)))))
    go false e =
        sym (nlt_rep (long_rep a) (own_pos 0) (not_less₀ (long_raised a) long_zero
        (sign_not_less triple_base zero_at (raised a.high) (raised a.low)
        (not_less⁰ (raised a.high) zero_at (rep_nlt (value_rep a.high) (own_pos 0) e)))))

-- ---- two words by two
-- 2^255
abbrev quad_half : ℕ
quad_half = half * base * (base * base)

pub medium_fits : {x y : ℤ} → Sized (2 ^ 126) x → Sized (2 ^ 126) y → nat_abs (x *ℤ y) < quad_half
medium_fits h k = lt_of_le_of_lt (product_size h k).size (lit< tt)

turned_word : (v : ℕ) → v < base → v + half - v / half * base + v / half * base ≡ v + half
turned_word v h = omega (arith, h)

turned_below : (v : ℕ) → v < base → v + half - v / half * base < base
turned_below v h = omega (arith, h)

top_word : (v : ℕ) → v < base → half - v / half + v / half ≡ half
top_word v h = omega (arith, h)

module _ (a b : Wide) (s t : ℕ) (ra : Rep (value a) (a.middle * base + a.low) (s * (base * base)))
    (rb : Rep (value b) (b.middle * base + b.low) (t * (base * base))) (q : Quad) (once twice : Carried Double) where
  abbrev X : ℕ
  X = a.middle * base + a.low

  abbrev Y : ℕ
  Y = b.middle * base + b.low

  abbrev P : ℕ
  P = X * Y + s * (base * base) * (t * (base * base))

  abbrev N : ℕ
  N = X * (t * (base * base)) + s * (base * base) * Y

  abbrev lower : ℕ
  lower = q.w1 * base + q.w0

  abbrev v : ℕ
  v = twice.words.high

  abbrev σ : ℕ
  σ = twice.words.high / half

  abbrev v' : ℕ
  v' = twice.words.high + half - twice.words.high / half * base

  abbrev R : ℕ
  R = (v' * base + twice.words.low) * (base * base) + lower

  abbrev answer : Long
  answer = record {
    high = record { high = half - σ; middle = σ * 18446744073709551615; low = twice.words.high };
    low = record { high = twice.words.low; middle = q.w1; low = q.w0 };
  }

  pub medium_is : PairsMultiplied a.middle a.low b.middle b.low q
      → PairSubtracted q.w3 q.w2 (t * a.middle) (t * a.low) once
      → PairSubtracted once.words.high once.words.low (s * b.middle) (s * b.low) twice
      → nat_abs (value a *ℤ value b) < quad_half → long_value answer ≡ value a *ℤ value b
  medium_is e f g k =
      equal (long_rep answer) r
      (six_joined R quad_half (long_raised answer) P N long_zero
      (remainder_is P N quad_half R (base * base * (base * base)) (once.over + twice.over) (s * t + σ) refl
      (rep_least r quad_half k) (rep_most r quad_half k) small
      (medium_sum P N ((v * base + twice.words.low) * (base * base) + lower) quad_half R (base * base * (base * base))
      (once.over + twice.over) (s * t) σ
      (medium_pair (base * base) X Y s t (q.w3 * base + q.w2) lower (once.words.high * base + once.words.low) (v * base + twice.words.low)
      once.over
      twice.over e.product (pulled t a.middle a.low base (once.words.high * base + once.words.low) f.rest)
      (pulled s b.middle b.low base (v * base + twice.words.low) g.rest))
      (medium_turned (base * base) base half v twice.words.low v' σ lower (turned_word v g.high) refl)))
      (joined (six_words (three base (half - σ) (σ * 18446744073709551615) v) (σ * base) (half * (base * base)) v v' half
      (base * (base * base)) (raised answer.low) (signed_top base half 18446744073709551615 (half - σ) σ v (top_word v g.high) refl)
      (turned_word v g.high))))
    where
      r : Rep (value a *ℤ value b) P N
      r = rep_mul ra rb

      pulled : (c m l B w : ℕ) {z : ℕ} → w + (c * m * B + c * l) ≡ z → w + c * (m * B + l) ≡ z
      pulled c m l B w e = same c m l B w ∙ e
        where
          same : (c m l B w : ℕ) → w + c * (m * B + l) ≡ w + (c * m * B + c * l)
          same c m l B w = omega arith

      small : R < base * base * (base * base)
      small =
          pair_below (base * base) (v' * base + twice.words.low) lower (two_words base v' twice.words.low (turned_below v g.high) g.low)
          (two_words base q.w1 q.w0 e.w1 e.w0)

      ordered : (v B w l m : ℕ) → v * (B * (B * B)) + ((w * B + l) * B + m) ≡ (v * B + w) * (B * B) + (l * B + m)
      ordered v B w l m = omega arith

      joined : {z : ℕ} → z ≡ v' * (base * (base * base)) + raised answer.low + half * (base * base) * (base * (base * base))
          → z ≡ R + long_zero
      joined h = h ∙ ap (λ (n : ℕ). n + long_zero) (ordered v' base twice.words.low q.w1 q.w0)

-- a number below 2^128 either way, by its two lower words
pub two_words_rep : (a : Wide) → Words a → Middling (value a) → Rep (value a) (a.middle * base + a.low) ((half - a.high) * (base * base))
two_words_rep a h k = record {
  is = middle_words base half a.high a.middle a.low h.middle h.low (half - a.high) (pp (value a)) (np (value a))
      (plain a.high (middling_most a h.middle h.low k)) (value_rep a).is;
}
  where
    plain : (x : ℕ) → x ≤ half → x + (half - x) ≡ half
    plain x g = omega (arith, g)

pub narrow_is : (a : Long) (t : Carried Wide) → Signed a.low t → FitsWide (long_value a) → value t.words ≡ long_value a
narrow_is a t c k =
    wide_is (long_rep a) (zero_at + t.over) (raised a.high + 1) t.words c.words k
    (narrow_pair triple_base zero_at (raised a.high) (raised a.low) (raised t.words) t.over refl c.same)
