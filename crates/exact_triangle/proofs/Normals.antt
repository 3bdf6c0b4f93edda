-- A whole vector up to 2^59 that is not 0 has floats that are finite and not all 0: it has a normal. Assumes nothing.
use Rattle.std.proofs.Common.{◌≡◌, ℕ, zero, suc, ◌*◌, ◌<◌, ◌≤◌, Bool, true, false, cond, not, ◌&&◌, T, eqb, ℤ, pos, negsuc, nat_abs, sym}
use Rattle.std.proofs.Common.{refl, ap, ◌∙◌, subst, true≢false, zero-lt-suc, arith, lit<, eqb→eq}
use mathlib.Core.Bool.{false≢true}
use Rattle.lists.proofs.JoinedTests.{and_both, and_three, and_not_first}
use Rattle.arithmetic.proofs.Exactness.{neg_round, of_int_is, of_int_below, round_one}
use Rattle.exact_triangle.specs.Surface.{Apart}
use lib.Ieee.{Float, nan, inf, fin, binary64, up, down, round, of_int, of_bits, neg, le, lt, eq}
use lib.Ieee.Fits.{down_pos}
use Rattle.arithmetic.specs.Basic.{is_finite}
use Rattle.arithmetic.proofs.SumOrder.{le_parts}
use Rattle.arithmetic.proofs.RoundedOrder.{plain_mono}
use Rattle.vectors.specs.Numbers.{zeroᶠ}
use Rattle.vectors.specs.Vector.{finite_vec, zero_vec, normalizable, dot_tells, scaled_to_one, over_length, try_normalize}
use Rattle.std.specs.Prelude.{Some, None}
use Rattle.vectors.specs.declared.vec3.Vec3.{Vec3}
use Rattle.wide_integers.specs.Sizes.{Sized}
use Rattle.exact_depth.specs.declared.projection.Point.{Point}
use Rattle.exact_triangle.specs.Sizes.{Crossed}
use Rattle.exact_triangle.specs.Normal.{cross_of, floats_of, normal_of}

pub record Sound (x : Float) : Type 0 where
  pub finite : is_finite x ≡ true
  pub apart : eq x zeroᶠ ≡ false

most_is : round binary64 false 576460752303423488 1 ≡ fin false 1 (pos 59)
unfolding round
most_is = refl

not_level : (a b : ℕ) → 0 < a → b ≡ 0 → eqb a b ≡ false
not_level a b h e = go (eqb a b) refl
  where
    go : (k : Bool) → eqb a b ≡ k → k ≡ false
    go false q = refl
    go true q = let w = eqb→eq a b (subst T (sym q) tt) in absurd (omega (arith, h, e, w))

fin_sound : (s : Bool) (m : ℕ) (e : ℤ) → 0 < m * up e → Sound (fin s m e)
unfolding is_finite eq of_bits
fin_sound s m e h = record {
  finite = refl;
  apart = and_not_first _ _ (not_level (m * up e * 1) (0 * 1 * down e) (omega (arith, h)) (omega arith));
}

record Both (x : Float) : Type 0 where
  plain : Sound x
  turned : Sound (neg x)

finite_fin : (s : Bool) (m : ℕ) (e : ℤ) → is_finite (fin s m e) ≡ true
unfolding is_finite
finite_fin s m e = refl

above : (x : Float) → le (fin false 1 (pos 0)) x ≡ true → le x (fin false 1 (pos 59)) ≡ true → Both x
unfolding neg
above nan h g = absurd (false≢true (unfold le lt eq in h))
above (inf true) h g = absurd (false≢true (unfold le lt eq in h))
above (inf false) h g = absurd (false≢true (unfold le lt eq in g))
above (fin false m e) h g =
    let p = le_parts (fin false 1 (pos 0)) (fin false m e) (finite_fin false 1 (pos 0)) (finite_fin false m e) h in
    let d = down_pos e in
    let l : 0 < m * up e = omega (arith, p, d) in
    record { plain = fin_sound false m e l; turned = fin_sound true m e l }
above (fin true m e) h g =
    let p = le_parts (fin false 1 (pos 0)) (fin true m e) (finite_fin false 1 (pos 0)) (finite_fin true m e) h in
    let d = down_pos e in
    absurd (omega (arith, p, d))

-- the float of a number from 1 to 2^59, of either sign
both_of : (n : ℕ) → 0 < n → n ≤ 576460752303423488 → Both (round binary64 false n 1)
both_of n p h =
    above (round binary64 false n 1)
    (subst (λ (z : Float). le z (round binary64 false n 1) ≡ true) round_one (plain_mono 1 1 n 1 (lit< tt) (lit< tt) (omega (arith, p))))
    (subst (λ (z : Float). le (round binary64 false n 1) z ≡ true) most_is
    (plain_mono n 1 576460752303423488 1 (lit< tt) (lit< tt) (omega (arith, h))))

pub whole_sound : (z : ℤ) → (z ≡ pos 0 → ⊥) → Sized 576460752303423488 z → Sound (of_int binary64 z)
whole_sound (pos zero) h s = absurd (h refl)
whole_sound (pos (suc n)) h s = subst Sound (sym (of_int_is binary64 (suc n))) (both_of (suc n) (zero-lt-suc n) s.size).plain
whole_sound (negsuc n) h s =
    subst Sound (neg_round binary64 (suc n) 1 ∙ sym (of_int_below binary64 n)) (both_of (suc n) (zero-lt-suc n) s.size).turned

zero_finite : is_finite (of_int binary64 (pos 0)) ≡ true
unfolding is_finite of_int round
zero_finite = refl

pub whole_finite : (z : ℤ) → Sized 576460752303423488 z → is_finite (of_int binary64 z) ≡ true
whole_finite (pos zero) s = zero_finite
whole_finite (pos (suc n)) s = (whole_sound (pos (suc n)) (λ e. let w = ap nat_abs e in omega (arith, w)) s).finite
whole_finite (negsuc n) s = (whole_sound (negsuc n) (λ e. let w = ap nat_abs e in omega (arith, w)) s).finite

-- ---- a vector of them
all_finite_lem : (v : Vec3) → is_finite v.x ≡ true → is_finite v.y ≡ true → is_finite v.z ≡ true → finite_vec v ≡ true
unfolding finite_vec
all_finite_lem v x y z = and_three (is_finite v.x) (is_finite v.y) (is_finite v.z) x y z

-- one that is not 0 is enough
none_zero : (p q r : Bool) → (p ≡ true → q ≡ true → r ≡ true → ⊥) → (p && (q && r)) ≡ false
none_zero true true true h = absurd (h refl refl refl)
none_zero true true false h = refl
none_zero true false r h = refl
none_zero false q r h = refl

-- a number whose float is 0 is 0
back_zero : (z : ℤ) → Sized 576460752303423488 z → eq (of_int binary64 z) zeroᶠ ≡ true → z ≡ pos 0
back_zero (pos zero) s h = refl
back_zero (pos (suc n)) s h =
    absurd (true≢false (sym h ∙ (whole_sound (pos (suc n)) (λ e. let w = ap nat_abs e in omega (arith, w)) s).apart))
back_zero (negsuc n) s h =
    absurd (true≢false (sym h ∙ (whole_sound (negsuc n) (λ e. let w = ap nat_abs e in omega (arith, w)) s).apart))

-- a triangle with area on the grid has a normal
pub has_normal_lem : (a b c : Point) → Apart a b c → Crossed (cross_of a b c) → normalizable (floats_of (cross_of a b c)) ≡ true
unfolding normalizable zero_vec
has_normal_lem a b c h s =
    let n = cross_of a b c in
    let f = all_finite_lem (floats_of n) (whole_finite n.x s.x) (whole_finite n.y s.y) (whole_finite n.z s.z) in
    let z =
    none_zero (eq (of_int binary64 n.x) zeroᶠ) (eq (of_int binary64 n.y) zeroᶠ) (eq (of_int binary64 n.z) zeroᶠ)
    (λ x y z. h (record { x = back_zero n.x s.x x; y = back_zero n.y s.y y; z = back_zero n.z s.z z })) in
    and_both (finite_vec (floats_of n)) (not (zero_vec (floats_of n))) f (ap not z)

-- .. and the normal is told, never refused
pub unit_normal : (a b c : Point) → Apart a b c → Crossed (cross_of a b c)
    → normal_of (cross_of a b c) ≡ Some (over_length (cond (dot_tells (floats_of (cross_of a b c))) (floats_of (cross_of a b c))
    (scaled_to_one (floats_of (cross_of a b c)))))
unfolding try_normalize
unit_normal a b c h s =
    ap (λ (k : Bool). cond k (Some (over_length (cond (dot_tells (floats_of (cross_of a b c))) (floats_of (cross_of a b c))
    (scaled_to_one (floats_of (cross_of a b c)))))) None) (has_normal_lem a b c h s)
