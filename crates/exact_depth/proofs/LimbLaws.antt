-- The sign of a determinant, by limbs of its numbers. Assumes nothing.
use mathlib.Core.Path.{◌≡◌, refl, sym, ap, ◌∙◌, subst}
use mathlib.Core.Logic.{◌⊎◌, inl, inr}
use Prim.Native.Nat.{ℕ, zero, suc, ◌+◌, ◌-◌, ◌*◌, ◌/◌, ◌%◌, ◌≤◌, ◌<◌}
use native.Mathlib.Omega.{arith}
use lib.Dec.{lit≤}
use lib.IntN.{ℤ, pos, negsuc, nat_abs, ◌+ℤ◌, ◌-ℤ◌, ◌*ℤ◌}
use lib.Signed.{lt_z, shr_z}
use mir.Syntax.{w64}
use mir.Val.{SFits}
use Rattle.wide_integers.specs.Sizes.{Sized, Sized61}
use Rattle.wide_integers.specs.Determinant.{determinant}
use Rattle.wide_integers.proofs.Integers.{pp, np, size_is, sub_parts, mul_size}
use Rattle.wide_integers.proofs.Reading.{bits, bits_back, widen, mul_le}
use Rattle.wide_integers.proofs.Polynomials.{own, own_pos, rep_add, rep_sub, rep_mul, equal, ring}
use Rattle.wide_integers.proofs.Polynomials.{diff_minus, diff_add, diff_right, diff_equal}
use Rattle.wide_integers.proofs.Order.{lt_rep, nlt_rep}
use Rattle.exact_depth.proofs.Terms.{most, Term, term, word_fits}
use Rattle.exact_depth.specs.declared.orientation.Limbs.{Limbs}
use Rattle.exact_depth.specs.Orientation.{radix, LimbsOf, LimbsSized, SignOf, high_part, middle_part, low_part}

-- ---- the limbs
abbrev pub limbs_of : ℤ → Limbs
limbs_of x = record { high = shr_z x radix; low = x -ℤ shr_z x radix *ℤ pos radix }

low_pos : (a : ℕ) → pos a -ℤ pos (a / radix) *ℤ pos radix ≡ pos (a % radix)
low_pos a = equal (rep_sub (own_pos a) (rep_mul (own_pos (a / radix)) (own_pos radix))) (own_pos (a % radix)) (omega arith)

low_neg : (a : ℕ) → negsuc a -ℤ negsuc (a / radix) *ℤ pos radix ≡ pos (2147483647 - a % radix)
low_neg a =
    equal (rep_sub (own (negsuc a)) (rep_mul (own (negsuc (a / radix))) (own_pos radix))) (own_pos (2147483647 - a % radix)) (omega arith)

whole_back : (x h : ℤ) → h +ℤ (x -ℤ h) ≡ x
whole_back x h = equal (rep_add (own h) (rep_sub (own x) (own h))) (own x) (omega arith)

pub limbs_are : (x : ℤ) → LimbsOf x (limbs_of x)
limbs_are (pos a) = record {
  whole = whole_back (pos a) (pos (a / radix) *ℤ pos radix);
  rest = a % radix;
  low = low_pos a;
  small = omega arith;
  high = omega arith;
}
limbs_are (negsuc a) = record {
  whole = whole_back (negsuc a) (negsuc (a / radix) *ℤ pos radix);
  rest = 2147483647 - a % radix;
  low = low_neg a;
  small = omega arith;
  high = omega arith;
}

-- ---- their sizes
pub limbs_sized : {x : ℤ} {h : Limbs} → Sized61 x → LimbsOf x h → LimbsSized h
limbs_sized {x} {h} s k = record {
  high = record { size = let m = s.size in let n = k.high in small (nat_abs h.high) (nat_abs x) n m };
  low = subst (Sized 2147483647) (sym k.low) (record { size = let m = k.small in omega (arith, m) });
  rest = k.rest;
  above = k.low;
}
  where
    small : (h x : ℕ) → h * radix < x + radix → x ≤ 2305843009213693952 → h ≤ 1073741824
    small h x n m = omega (arith, n, m)

-- ---- the sign
module _ (m n : ℕ) (hm : m < radix) (hn : n < radix) where
  pub sign_high : (h : ℤ) → (h ≡ pos 0 → ⊥) → SignOf h ((h *ℤ pos radix +ℤ pos m) *ℤ pos radix +ℤ pos n)
  sign_high (pos zero) h = absurd (h refl)
  sign_high (pos (suc k)) h =
      let r = rep_add (rep_mul (rep_add (rep_mul (own_pos (suc k)) (own_pos radix)) (own_pos m)) (own_pos radix)) (own_pos n) in
      record {
        below = nlt_rep (own_pos (suc k)) (own_pos 0) (omega arith) ∙ sym (nlt_rep r (own_pos 0) (omega arith));
        above = lt_rep (own_pos 0) (own_pos (suc k)) (omega arith) ∙ sym (lt_rep (own_pos 0) r (omega arith));
      }
  sign_high (negsuc k) h =
      let r = rep_add (rep_mul (rep_add (rep_mul (own (negsuc k)) (own_pos radix)) (own_pos m)) (own_pos radix)) (own_pos n) in
      record {
        below = lt_rep (own (negsuc k)) (own_pos 0) (omega arith) ∙ sym (lt_rep r (own_pos 0) (omega (arith, hm, hn)));
        above = nlt_rep (own_pos 0) (own (negsuc k)) (omega arith) ∙ sym (nlt_rep (own_pos 0) r (omega (arith, hm, hn)));
      }

  pub sign_low : SignOf (pos (m + n)) ((pos 0 *ℤ pos radix +ℤ pos m) *ℤ pos radix +ℤ pos n)
  sign_low = record { below = lows; above = go m n }
    where
      lows : lt_z (pos (m + n)) (pos 0) ≡ lt_z ((pos 0 *ℤ pos radix +ℤ pos m) *ℤ pos radix +ℤ pos n) (pos 0)
      lows =
          nlt_rep (own_pos (m + n)) (own_pos 0) (omega arith)
          ∙ sym (nlt_rep (own_pos ((0 * radix + m) * radix + n)) (own_pos 0) (omega arith))

      go : (m n : ℕ) → lt_z (pos 0) (pos (m + n)) ≡ lt_z (pos 0) (pos ((0 * radix + m) * radix + n))
      go zero zero = refl
      go zero (suc n) =
          lt_rep (own_pos 0) (own_pos (0 + suc n)) (omega arith)
          ∙ sym (lt_rep (own_pos 0) (own_pos ((0 * radix + 0) * radix + suc n)) (omega arith))
      go (suc m) n =
          lt_rep (own_pos 0) (own_pos (suc m + n)) (omega arith)
          ∙ sym (lt_rep (own_pos 0) (own_pos ((0 * radix + suc m) * radix + n)) (omega arith))

-- ---- the determinant by its limbs
by_limbs : (R p p' q q' r r' s s' : ℤ)
    → determinant (p *ℤ R +ℤ p') (q *ℤ R +ℤ q') (r *ℤ R +ℤ r') (s *ℤ R +ℤ s')
    ≡ ((p *ℤ s -ℤ q *ℤ r) *ℤ R +ℤ (p *ℤ s' +ℤ p' *ℤ s -ℤ (q *ℤ r' +ℤ q' *ℤ r))) *ℤ R +ℤ (p' *ℤ s' -ℤ q' *ℤ r')
by_limbs R p p' q q' r r' s s' =
    diff_equal (diff_minus ((p *ℤ R +ℤ p') *ℤ (s *ℤ R +ℤ s')) ((q *ℤ R +ℤ q') *ℤ (r *ℤ R +ℤ r')))
    (diff_add
    (diff_right
    (diff_add (diff_right (diff_minus (p *ℤ s) (q *ℤ r)) R) (diff_minus (p *ℤ s' +ℤ p' *ℤ s) (q *ℤ r' +ℤ q' *ℤ r))) R)
    (diff_minus (p' *ℤ s') (q' *ℤ r')))
    (simp ring)

carried : (R o i l j k u v : ℤ) → j *ℤ R +ℤ u ≡ l → k *ℤ R +ℤ v ≡ i +ℤ j → (o *ℤ R +ℤ i) *ℤ R +ℤ l ≡ ((o +ℤ k) *ℤ R +ℤ v) *ℤ R +ℤ u
carried R o i l j k u v e f =
    ap (λ (z : ℤ). (o *ℤ R +ℤ i) *ℤ R +ℤ z) (sym e) ∙ first R o i j u
    ∙ ap (λ (z : ℤ). (o *ℤ R +ℤ z) *ℤ R +ℤ u) (sym f) ∙ second R o k u v
  where
    first : (R o i j u : ℤ) → (o *ℤ R +ℤ i) *ℤ R +ℤ (j *ℤ R +ℤ u) ≡ (o *ℤ R +ℤ (i +ℤ j)) *ℤ R +ℤ u
    first R o i j u = simp ring

    second : (R o k u v : ℤ) → (o *ℤ R +ℤ (k *ℤ R +ℤ v)) *ℤ R +ℤ u ≡ ((o +ℤ k) *ℤ R +ℤ v) *ℤ R +ℤ u
    second R o k u v = simp ring

module _ {a b c d : ℤ} {p q r s low middle : Limbs} (ha : LimbsOf a p) (hb : LimbsOf b q) (hc : LimbsOf c r) (hd : LimbsOf d s)
    (hl : LimbsOf (low_part p q r s) low) (hm : LimbsOf (middle_part p q r s +ℤ low.high) middle) where
  abbrev highest : ℤ
  highest = high_part p q r s +ℤ middle.high

  determined : determinant a b c d ≡ (highest *ℤ pos radix +ℤ middle.low) *ℤ pos radix +ℤ low.low
  determined =
      (λ i. determinant (sym ha.whole i) (sym hb.whole i) (sym hc.whole i) (sym hd.whole i))
      ∙ by_limbs (pos radix) p.high p.low q.high q.low r.high r.low s.high s.low
      ∙ carried (pos radix) (high_part p q r s) (middle_part p q r s) (low_part p q r s) low.high middle.high low.low middle.low
      hl.whole hm.whole

  by_rests : determinant a b c d ≡ (highest *ℤ pos radix +ℤ pos hm.rest) *ℤ pos radix +ℤ pos hl.rest
  by_rests = determined ∙ (λ i. (highest *ℤ pos radix +ℤ hm.low i) *ℤ pos radix +ℤ hl.low i)

  pub sign_by_high : (highest ≡ pos 0 → ⊥) → SignOf highest (determinant a b c d)
  sign_by_high h = subst (SignOf highest) (sym by_rests) (sign_high hm.rest hl.rest hm.small hl.small highest h)

  pub sign_by_low : highest ≡ pos 0 → SignOf (middle.low +ℤ low.low) (determinant a b c d)
  sign_by_low e =
      subst (λ (z : ℤ). SignOf z (determinant a b c d)) (λ i. sym hm.low i +ℤ sym hl.low i)
      (subst (SignOf (pos (hm.rest + hl.rest)))
      (sym (by_rests ∙ ap (λ (z : ℤ). (z *ℤ pos radix +ℤ pos hm.rest) *ℤ pos radix +ℤ pos hl.rest) e))
      (sign_low hm.rest hl.rest hm.small hl.small))

-- ---- the limbs, as the machine computes them
module _ {x : ℤ} (h : Sized 9223372034707292160 x) where
  x_term : Term (bits x) x 9223372034707292160
  x_term = term h (lit≤ tt)

  high_sized : Sized 4294967296 (shr_z x radix)
  high_sized = record { size = let m = h.size in let n = (limbs_are x).high in small (nat_abs (shr_z x radix)) (nat_abs x) n m }
    where
      small : (h x : ℕ) → h * radix < x + radix → x ≤ 9223372034707292160 → h ≤ 4294967296
      small h x n m = omega (arith, n, m)

  abbrev shifted : ℤ
  shifted = bits (shr_z (bits x) radix)

  high_term : Term shifted (shr_z x radix) 4294967296
  high_term = record {
    is = ap (λ (z : ℤ). bits (shr_z z radix)) x_term.is ∙ bits_back (word_fits (widen high_sized (lit≤ tt)));
    sized = high_sized;
  }

  -- high · 2^31 is x or below by less than 2^31
  product_sized : Sized most (shr_z x radix *ℤ pos radix)
  product_sized = record {
    size =
        let m = h.size in
        let n = (limbs_are x).high in
        let e = mul_size (shr_z x radix) (pos radix) in
        small (nat_abs (shr_z x radix *ℤ pos radix)) (nat_abs (shr_z x radix)) (nat_abs x) e n m;
  }
    where
      small : (p h x : ℕ) → p ≡ h * radix → h * radix < x + radix → x ≤ 9223372034707292160 → p ≤ most
      small p h x e n m = omega (arith, e, n, m)

  pub part_fits : SFits w64 (shifted *ℤ pos radix)
  part_fits = subst (λ (z : ℤ). SFits w64 (z *ℤ pos radix)) (sym high_term.is) (word_fits product_sized)

  part_term : Term (bits (shifted *ℤ pos radix)) (shr_z x radix *ℤ pos radix) most
  part_term = record {
    is = ap (λ (z : ℤ). bits (z *ℤ pos radix)) high_term.is ∙ bits_back (word_fits product_sized);
    sized = product_sized;
  }

  low_sized : Sized most (x -ℤ shr_z x radix *ℤ pos radix)
  low_sized =
      subst (Sized most) (sym (limbs_are x).low) (record { size = let m = (limbs_are x).small in omega (arith, m) })

  pub rest_fits : SFits w64 (bits x -ℤ bits (shifted *ℤ pos radix))
  rest_fits = subst (SFits w64) (λ i. sym x_term.is i -ℤ sym part_term.is i) (word_fits low_sized)

  pub limbs_read : LimbsOf x (record { high = shifted; low = bits (bits x -ℤ bits (shifted *ℤ pos radix)) })
  limbs_read =
      subst (LimbsOf x)
      (λ i. record {
        high = sym high_term.is i;
        low = sym ((λ j. bits (x_term.is j -ℤ part_term.is j)) ∙ bits_back (word_fits low_sized)) i;
      }) (limbs_are x)

-- ---- the difference of two numbers that are not below 0 is no larger than the larger
between : (x y B : ℕ) → x ≤ B → y ≤ B → Sized B (pos x -ℤ pos y)
between x y B h g =
    let p = sub_parts (pos x) (pos y) in
    let n = size_is (pos x -ℤ pos y) in
    record {
      size = apart (nat_abs (pos x -ℤ pos y)) (pp (pos x -ℤ pos y)) (np (pos x -ℤ pos y)) x y B n (one_sided (pos x -ℤ pos y)) p h g;
    }
  where
    one_sided : (z : ℤ) → (pp z ≡ 0) ⊎ (np z ≡ 0)
    one_sided (pos n) = inr refl
    one_sided (negsuc n) = inl refl

    apart : (s p n x y B : ℕ) → s ≡ p + n → (p ≡ 0) ⊎ (n ≡ 0) → x + 0 + n ≡ p + (0 + y) → x ≤ B → y ≤ B → s ≤ B
    apart s p n x y B e (inl o) d h g = omega (arith, e, o, d, h, g)
    apart s p n x y B e (inr o) d h g = omega (arith, e, o, d, h, g)

pub low_part_sized : {a b c d : Limbs} → LimbsSized a → LimbsSized b → LimbsSized c → LimbsSized d
    → Sized 4611686014132420609 (low_part a b c d)
low_part_sized {a} {b} {c} {d} ha hb hc hd =
    subst (Sized 4611686014132420609) (λ i. sym ha.above i *ℤ sym hd.above i -ℤ sym hb.above i *ℤ sym hc.above i)
    (between (ha.rest * hd.rest) (hb.rest * hc.rest) 4611686014132420609
    (mul_le ha.rest hd.rest 2147483647 2147483647 (few ha) (few hd))
    (mul_le hb.rest hc.rest 2147483647 2147483647 (few hb) (few hc)))
  where
    few : {h : Limbs} → (k : LimbsSized h) → k.rest ≤ 2147483647
    few {h} k = subst (λ (z : ℤ). nat_abs z ≤ 2147483647) k.above k.low.size
