-- The digits of a quotient, one at a time. Assumes nothing.
use Rattle.std.proofs.Common.{◌≡◌, ℕ, ◌+◌, ◌-◌, ◌*◌, ◌%◌, ◌^◌, ◌<◌, ◌≤◌, Bool, true, false, ltb, ◌+ℤ◌, ◌-ℤ◌, sym, refl, ap, ◌∙◌, subst}
use Rattle.std.proofs.Common.{le_trans, lt_of_lt_of_le, lt_of_le_of_lt, le_of_lt, mul-le-mul_right, mul-le-mul_left, mul-one, not-le_of_lt}
use Rattle.std.proofs.Common.{add-one, arith, pow_pos, pow_mono, pow-add, ltb-false, ltb-true}
use Prim.Native.Nat.{compare, Ordering}
use lib.Ieee.{nearest}
use lib.Signed.{lt_z}
use Rattle.arithmetic.proofs.RoundingError.{cmp, Cmp}
use Rattle.wide_integers.specs.declared.number.Wide.{Wide}
use Rattle.wide_integers.specs.declared.division.Quotient.{Quotient}
use Rattle.wide_integers.specs.Value.{zero_at, value, FitsWide}
use Rattle.wide_integers.specs.Division.{magnitude, Counts, Below, Grows, Less, Proper, Stepped, Divided, digits_of}
use Rattle.wide_integers.proofs.NaturalLaws.{magnitude_is, counted, sum_held}
use Rattle.wide_integers.proofs.NaturalLaws.{sum_counts, difference_held, difference_counts, below_counts}

-- ---- a number, doubled
pub record Growing (L S e : ℕ) (w : Wide) : Type 0 where
  pub whole : Counts w (S * 2 ^ e)
  pub most : S * 2 ^ e ≤ L
  pub start : 0 < S

power_up : (S e : ℕ) → S * 2 ^ e + S * 2 ^ e ≡ S * 2 ^ (e + 1)
power_up S e = let p : 2 ^ (e + 1) ≡ 2 ^ e * 2 ^ 1 = pow-add 2 e 1 in twice (2 ^ e) (2 ^ (e + 1)) p
  where
    twice : (p q : ℕ) → q ≡ p * 2 → S * p + S * p ≡ S * q
    twice p q h = let k : S * q ≡ S * (p * 2) = ap (λ (z : ℕ). S * z) h in omega (arith, k)

-- a power below 2^191 has an exponent below 191
pub few_powers : (S e : ℕ) → 0 < S → S * 2 ^ e < zero_at → e < 191
few_powers S e p h = go (ltb e 191) (ltb-true e 191) (ltb-false e 191)
  where
    go : (b : Bool) → (b ≡ true → e < 191) → (b ≡ false → 191 ≤ e) → e < 191
    go true f g = f refl
    go false f g = absurd (clash (2 ^ e) (pow_mono (g refl)) (mul-le-mul_right (2 ^ e) p) h)
      where
        one_of : (x : ℕ) → 1 * x ≤ S * x → x ≤ S * x
        one_of x l = omega (arith, l)

        clash : (x : ℕ) → 2 ^ 191 ≤ x → 1 * x ≤ S * x → S * x < zero_at → ⊥
        clash x k l m = not-le_of_lt m (le_trans k (one_of x l))

pub growing_first : {l s : Wide} → Below s l → Growing (magnitude l) (magnitude s) 0 s
growing_first {l} {s} h =
    let e : magnitude s ≡ magnitude s * 2 ^ 0 = sym (mul-one (magnitude s)) in
    record {
      whole = subst (Counts s) e h.start.counts;
      most = subst (λ (n : ℕ). n ≤ magnitude l) e h.most;
      start = h.start.positive;
    }

module _ {L S e : ℕ} {l w : Wide} (k : Counts l L) (g : Growing L S e w) where
  pub room_held : FitsWide (value l -ℤ value w)
  room_held = difference_held k g.whole g.most

  module _ (room : Wide) (r : value room ≡ value l -ℤ value w) {t : Bool} (q : t ≡ lt_z (value room) (value w)) where
    room_counts : Counts room (L - S * 2 ^ e)
    room_counts = difference_counts k g.whole g.most r

    pub grown_last : t ≡ true → Grows L S (record { whole = w; power = e })
    grown_last h = record {
      whole = g.whole;
      most = g.most;
      least = past L (S * 2 ^ e) g.most (ltb-true (L - S * 2 ^ e) (S * 2 ^ e) (sym (below_counts room_counts g.whole q) ∙ h));
      few = few_powers S e g.start g.whole.small;
    }
      where
        past : (L X : ℕ) → X ≤ L → L - X < X → L < X + X
        past L X h k = omega (arith, h, k)

    twice_most : t ≡ false → S * 2 ^ e + S * 2 ^ e ≤ L
    twice_most h =
        within L (S * 2 ^ e) g.most (ltb-false (L - S * 2 ^ e) (S * 2 ^ e) (sym (below_counts room_counts g.whole q) ∙ h))
      where
        within : (L X : ℕ) → X ≤ L → X ≤ L - X → X + X ≤ L
        within L X h k = omega (arith, h, k)

    twice_small : t ≡ false → S * 2 ^ e + S * 2 ^ e < zero_at
    twice_small h = lt_of_le_of_lt (twice_most h) k.small

    pub twice_held : t ≡ false → FitsWide (value w +ℤ value w)
    twice_held h = sum_held g.whole g.whole (twice_small h)

    module _ (v : Wide) (h : t ≡ false) (j : value v ≡ value w +ℤ value w) where
      twice_counts : Counts v (S * 2 ^ e + S * 2 ^ e)
      twice_counts = sum_counts g.whole g.whole (twice_small h) j

      pub growing_again : Growing L S (e + 1) v
      growing_again = record {
        whole = subst (Counts v) (power_up S e) twice_counts;
        most = subst (λ (n : ℕ). n ≤ L) (power_up S e) (twice_most h);
        start = g.start;
      }

      pub growing_less : L - magnitude v < L - magnitude w
      growing_less =
          let a : magnitude v ≡ S * 2 ^ e + S * 2 ^ e = magnitude_is twice_counts in
          let b : magnitude w ≡ S * 2 ^ e = magnitude_is g.whole in
          less L (S * 2 ^ e) (magnitude v) (magnitude w) a b (twice_most h)
          (lt_of_lt_of_le g.start (le_trans (one_times S) (mul-le-mul_left S (pow_pos e))))
        where
          one_times : (n : ℕ) → n ≤ n * 1
          one_times n = omega arith

          less : (L X v w : ℕ) → v ≡ X + X → w ≡ X → X + X ≤ L → 0 < X → L - v < L - w
          less L X v w a b h p = omega (arith, a, b, h, p)

-- ---- one digit more
module _ (p : Quotient) {d : Wide} (h : Less p.rest d) where
  pub left_held : FitsWide (value d -ℤ value p.rest)
  left_held = difference_held h.whole h.rest (le_of_lt h.below)

  module _ (room : Wide) (r : value room ≡ value d -ℤ value p.rest) {t : Bool} (q : t ≡ lt_z (value p.rest) (value room)) where
    left_counts : Counts room (magnitude d - magnitude p.rest)
    left_counts = difference_counts h.whole h.rest (le_of_lt h.below) r

    low_digit : t ≡ true → magnitude p.rest < magnitude d - magnitude p.rest
    low_digit k = ltb-true (magnitude p.rest) (magnitude d - magnitude p.rest) (sym (below_counts h.rest left_counts q) ∙ k)

    high_digit : t ≡ false → magnitude d - magnitude p.rest ≤ magnitude p.rest
    high_digit k = ltb-false (magnitude p.rest) (magnitude d - magnitude p.rest) (sym (below_counts h.rest left_counts q) ∙ k)

    twice_below : t ≡ true → magnitude p.rest + magnitude p.rest < magnitude d
    twice_below k = plain (magnitude p.rest) (magnitude d) (low_digit k)
      where
        plain : (R D : ℕ) → R < D - R → R + R < D
        plain R D g = omega (arith, g)

    low_small : t ≡ true → magnitude p.rest + magnitude p.rest < zero_at
    low_small k = lt_of_le_of_lt (le_of_lt (twice_below k)) h.whole.small

    pub low_held : t ≡ true → FitsWide (value p.rest +ℤ value p.rest)
    low_held k = sum_held h.rest h.rest (low_small k)

    pub stepped_low : (s : Wide) → t ≡ true → value s ≡ value p.rest +ℤ value p.rest
        → Stepped (magnitude d) p (record { word = p.word + p.word; rest = s })
    stepped_low s k j =
        let c = sum_counts h.rest h.rest (low_small k) j in
        let e : magnitude s ≡ magnitude p.rest + magnitude p.rest = magnitude_is c in
        record {
          rest = counted c;
          same = same p.word (magnitude d) (magnitude p.rest) (magnitude s) e;
          below = subst (λ (n : ℕ). n < magnitude d) (sym e) (twice_below k);
          least = plain p.word;
          most = above p.word;
        }
      where
        plain : (w : ℕ) → w + w ≤ w + w
        plain w = omega arith

        above : (w : ℕ) → w + w ≤ w + w + 1
        above w = omega arith

        same : (w D R s : ℕ) → s ≡ R + R → (w + w) * D + s ≡ (w * D + R) + (w * D + R)
        same w D R s e = omega (arith, e)

    pub high_held : t ≡ false → FitsWide (value p.rest -ℤ value room)
    high_held k = difference_held h.rest left_counts (high_digit k)

    pub stepped_high : (s : Wide) → t ≡ false → value s ≡ value p.rest -ℤ value room
        → Stepped (magnitude d) p (record { word = p.word + p.word + 1; rest = s })
    stepped_high s k j =
        let c = difference_counts h.rest left_counts (high_digit k) j in
        let e : magnitude s ≡ magnitude p.rest - (magnitude d - magnitude p.rest) = magnitude_is c in
        record {
          rest = counted c;
          same = same p.word (magnitude d) (magnitude p.rest) (magnitude s) e (high_digit k) h.below;
          below = below (magnitude d) (magnitude p.rest) (magnitude s) e h.below;
          least = plain p.word;
          most = above p.word;
        }
      where
        plain : (w : ℕ) → w + w ≤ w + w + 1
        plain w = omega arith

        above : (w : ℕ) → w + w + 1 ≤ w + w + 1
        above w = omega arith

        same : (w D R s : ℕ) → s ≡ R - (D - R) → D - R ≤ R → R < D → (w + w + 1) * D + s ≡ (w * D + R) + (w * D + R)
        same w D R s e g b = omega (arith, e, g, b)

        below : (D R s : ℕ) → s ≡ R - (D - R) → R < D → s < D
        below D R s e b = omega (arith, e, b)

-- ---- 53 digits
pub record Dividing (d : Wide) (N i : ℕ) (q : Quotient) : Type 0 where
  pub less : Less q.rest d
  pub same : q.word * magnitude d + magnitude q.rest ≡ N * 2 ^ i
  pub least : 2 ^ i ≤ q.word
  pub most : q.word < 2 ^ i + 2 ^ i
  pub some : i ≤ 52

pub dividing_first : (r d : Wide) → Less r d → Dividing d (magnitude d + magnitude r) 0 (record { word = 1; rest = r })
dividing_first r d h = record {
  less = h;
  same = plain (magnitude d) (magnitude r);
  least = omega arith;
  most = omega arith;
  some = omega arith;
}
  where
    plain : (D R : ℕ) → 1 * D + R ≡ (D + R) * 1
    plain D R = omega arith

power_next : (i : ℕ) → 2 ^ (i + 1) ≡ 2 ^ i + 2 ^ i
power_next i = twice (2 ^ i) (2 ^ (i + 1)) (pow-add 2 i 1)
  where
    twice : (p q : ℕ) → q ≡ p * 2 → q ≡ p + p
    twice p q h = omega (arith, h)

module _ {d : Wide} {N i : ℕ} {q : Quotient} (h : Dividing d N i q) (l : i < 52) where
  pub dividing_asks : Proper q d
  dividing_asks = record {
    less = h.less;
    few = lt_of_lt_of_le (subst (λ (n : ℕ). q.word < n) (sym (power_next i)) h.most) (pow_mono (next i l));
  }
    where
      next : (i : ℕ) → i < 52 → i + 1 ≤ 52
      next i l = omega (arith, l)

  pub dividing_again : {r : Quotient} → Stepped (magnitude d) q r → Dividing d N (i + 1) r
  dividing_again {r} g = record {
    less = record { rest = g.rest; whole = h.less.whole; below = g.below };
    same = g.same ∙ (λ j. h.same j + h.same j) ∙ power_up N i;
    least = subst (λ (n : ℕ). n ≤ r.word) (sym (power_next i)) (low (2 ^ i) q.word r.word h.least g.least);
    most = subst (λ (n : ℕ). r.word < n + n) (sym (power_next i)) (high (2 ^ i) q.word r.word h.most g.most);
    some = next i l;
  }
    where
      next : (i : ℕ) → i < 52 → i + 1 ≤ 52
      next i l = omega (arith, l)

      low : (p w v : ℕ) → p ≤ w → w + w ≤ v → p + p ≤ v
      low p w v a b = omega (arith, a, b)

      high : (p w v : ℕ) → w < p + p → v ≤ w + w + 1 → v < (p + p) + (p + p)
      high p w v a b = omega (arith, a, b)

pub dividing_last : {d : Wide} {N i : ℕ} {q : Quotient} → Dividing d N i q → 52 ≤ i → Divided (magnitude d) N q
dividing_last {d} {N} {i} {q} h l =
    let e : i ≡ 52 = exactly h.some l in
    let g : Dividing d N 52 q = subst (λ (n : ℕ). Dividing d N n q) e h in
    record { rest = g.less.rest; same = g.same; below = g.less.below; least = g.least; most = g.most }
  where
    exactly : i ≤ 52 → 52 ≤ i → i ≡ 52
    exactly a b = omega (arith, a, b)

-- ---- the digits, rounded
rounds_down : (q R D : ℕ) (o : Ordering) → Cmp o (R * 2) D → R < D - R → q ≡ nearest q o
rounds_down q R D Ordering.lt c h = refl
rounds_down q R D Ordering.eq c h = absurd (omega (arith, c, h))
rounds_down q R D Ordering.gt c h = absurd (omega (arith, c, h))

rounds_up : (q R D : ℕ) (o : Ordering) → Cmp o (R * 2) D → R < D → D - R < R → q + 1 ≡ nearest q o
rounds_up q R D Ordering.lt c l h = absurd (omega (arith, c, l, h))
rounds_up q R D Ordering.eq c l h = absurd (omega (arith, c, l, h))
rounds_up q R D Ordering.gt c l h = add-one q

rounds_even : (q R D : ℕ) (o : Ordering) → Cmp o (R * 2) D → R < D → D - R ≤ R → R ≤ D - R → q + q % 2 ≡ nearest q o
rounds_even q R D Ordering.lt c l h k = absurd (omega (arith, c, l, h, k))
rounds_even q R D Ordering.eq c l h k = refl
rounds_even q R D Ordering.gt c l h k = absurd (omega (arith, c, l, h, k))

module _ (p : Quotient) {d : Wide} (h : Less p.rest d) (room : Wide) (r : value room ≡ value d -ℤ value p.rest) {t : Bool}
    (q : t ≡ lt_z (value p.rest) (value room)) where
  pub rounded_down : t ≡ true → p.word ≡ digits_of (magnitude d) p
  rounded_down k =
      rounds_down p.word (magnitude p.rest) (magnitude d) (compare (magnitude p.rest * 2) (magnitude d))
      (cmp (magnitude p.rest * 2) (magnitude d)) (low_digit p h room r q k)

  module _ (e : t ≡ false) {u : Bool} (f : u ≡ lt_z (value room) (value p.rest)) where
    test : u ≡ ltb (magnitude d - magnitude p.rest) (magnitude p.rest)
    test = below_counts (left_counts p h room r q) h.rest f

    pub rounded_up : u ≡ true → p.word + 1 ≡ digits_of (magnitude d) p
    rounded_up k =
        rounds_up p.word (magnitude p.rest) (magnitude d) (compare (magnitude p.rest * 2) (magnitude d))
        (cmp (magnitude p.rest * 2) (magnitude d)) h.below
        (ltb-true (magnitude d - magnitude p.rest) (magnitude p.rest) (sym test ∙ k))

    pub rounded_even : u ≡ false → p.word + p.word % 2 ≡ digits_of (magnitude d) p
    rounded_even k =
        rounds_even p.word (magnitude p.rest) (magnitude d) (compare (magnitude p.rest * 2) (magnitude d))
        (cmp (magnitude p.rest * 2) (magnitude d)) h.below
        (high_digit p h room r q e) (ltb-false (magnitude d - magnitude p.rest) (magnitude p.rest) (sym test ∙ k))
