-- What is in a span, multiplied, subtracted or averaged, is in the span's multiple, difference or bounds. Assumes nothing.
use Prim.Native.Nat.{ℕ, suc, ◌+◌, ◌*◌, ◌≤◌, ◌<◌}
use mathlib.Core.Path.{◌≡◌}
use mathlib.Core.Logic.{inl, inr}
use mathlib.Core.Bool.{true}
use native.Mathlib.Nat.{mul-le-mul_right}
use native.Mathlib.Omega.{arith}
use lib.IntN.{ℤ, pos, negsuc, ◌-ℤ◌, ◌*ℤ◌}
use lib.Signed.{le_z}
use Rattle.exact_depth.specs.Meeting.{mix}
use Rattle.wide_integers.proofs.Integers.{pp, np}
use Rattle.wide_integers.proofs.Polynomials.{own, own_pos, own_neg, rep_sub, rep_mul}
use Rattle.wide_integers.proofs.Order.{rep_le, le_rep}
use Rattle.exact_depth.proofs.Weights.{mix_parts}
use Rattle.exact_triangle.proofs.Floors.{le_z_trans, first_most, second_most, first_least, second_least, OneOf, part_below, part_above}
use Rattle.exact_triangle.specs.Box.{lesser, greater}
use Rattle.tree_exact.specs.Room.{multiple, difference}
use Rattle.tree_exact.specs.declared.room.Span.{Span}

pub record InSpan (s : Span) (x : ℤ) : Type 0 where
  pub above : le_z s.low x ≡ true
  pub below : le_z x s.high ≡ true

-- ---- products
times_more : (n : ℕ) (x y : ℤ) → le_z x y ≡ true → le_z (x *ℤ pos n) (y *ℤ pos n) ≡ true
times_more n x y h =
    let e = rep_le (own x) (own y) h in
    let e' : (pp x + np y) * n ≤ (pp y + np x) * n = mul-le-mul_right n e in
    le_rep (rep_mul (own x) (own_pos n)) (rep_mul (own y) (own_pos n)) (omega (arith, e'))

times_less : (n : ℕ) (x y : ℤ) → le_z x y ≡ true → le_z (y *ℤ negsuc n) (x *ℤ negsuc n) ≡ true
times_less n x y h =
    let e = rep_le (own x) (own y) h in
    let e' : (pp x + np y) * suc n ≤ (pp y + np x) * suc n = mul-le-mul_right (suc n) e in
    le_rep (rep_mul (own y) (own_neg n)) (rep_mul (own x) (own_neg n)) (omega (arith, e'))

pub in_multiple : (d : ℤ) (s : Span) (x : ℤ) → InSpan s x → InSpan (multiple d s) (x *ℤ d)
in_multiple (pos n) s x h =
    let low = s.low *ℤ pos n in
    let high = s.high *ℤ pos n in
    record {
      above = le_z_trans (lesser low high) low (x *ℤ pos n) (first_least low high) (times_more n s.low x h.above);
      below = le_z_trans (x *ℤ pos n) high (greater low high) (times_more n x s.high h.below) (second_most low high);
    }
in_multiple (negsuc n) s x h =
    let low = s.low *ℤ negsuc n in
    let high = s.high *ℤ negsuc n in
    record {
      above = le_z_trans (lesser low high) high (x *ℤ negsuc n) (second_least low high) (times_less n x s.high h.below);
      below = le_z_trans (x *ℤ negsuc n) low (greater low high) (times_less n s.low x h.above) (first_most low high);
    }

-- ---- differences
less_both : (x y z w : ℤ) → le_z x y ≡ true → le_z z w ≡ true → le_z (x -ℤ w) (y -ℤ z) ≡ true
less_both x y z w h g =
    let e = rep_le (own x) (own y) h in
    let f = rep_le (own z) (own w) g in
    le_rep (rep_sub (own x) (own w)) (rep_sub (own y) (own z)) (omega (arith, e, f))

pub in_difference : (s r : Span) (x y : ℤ) → InSpan s x → InSpan r y → InSpan (difference s r) (x -ℤ y)
in_difference s r x y h g = record {
  above = less_both s.low x y r.high h.above g.below;
  below = less_both x s.high r.low y h.below g.above;
}

pub less_same : (x y o : ℤ) → le_z x y ≡ true → le_z (x -ℤ o) (y -ℤ o) ≡ true
less_same x y o h = less_both x y o o h (le_rep (own o) (own o) (omega arith))

-- ---- means
module _ (s : Span) (i j k : ℕ) (x y z : ℤ) (some : 0 < i + j + k) (hx : InSpan s x) (hy : InSpan s y) (hz : InSpan s z) where
  pub mean_above : (m : ℤ) → le_z (mix i j k x y z) (pos (i + j + k) *ℤ m) ≡ true → le_z s.low m ≡ true
  mean_above m h = go (part_below i j k x y z m some h)
    where
      go : OneOf (λ (w : ℤ). le_z w m ≡ true) x y z → le_z s.low m ≡ true
      go (inl h) = le_z_trans s.low x m hx.above h
      go (inr (inl h)) = le_z_trans s.low y m hy.above h
      go (inr (inr h)) = le_z_trans s.low z m hz.above h

  pub mean_below : (m : ℤ) → le_z (pos (i + j + k) *ℤ m) (mix i j k x y z) ≡ true → le_z m s.high ≡ true
  mean_below m h = go (part_above i j k x y z m some h)
    where
      go : OneOf (λ (w : ℤ). le_z m w ≡ true) x y z → le_z m s.high ≡ true
      go (inl h) = le_z_trans m x s.high h hx.below
      go (inr (inl h)) = le_z_trans m y s.high h hy.below
      go (inr (inr h)) = le_z_trans m z s.high h hz.below

  -- all of it at least m
  pub mean_past : (m : ℤ) → le_z m s.low ≡ true → le_z (pos (i + j + k) *ℤ m) (mix i j k x y z) ≡ true
  mean_past m h =
      let p = rep_le (own m) (own x) (le_z_trans m s.low x h hx.above) in
      let q = rep_le (own m) (own y) (le_z_trans m s.low y h hy.above) in
      let r = rep_le (own m) (own z) (le_z_trans m s.low z h hz.above) in
      let p' : (pp m + np x) * i ≤ (pp x + np m) * i = mul-le-mul_right i p in
      let q' : (pp m + np y) * j ≤ (pp y + np m) * j = mul-le-mul_right j q in
      let r' : (pp m + np z) * k ≤ (pp z + np m) * k = mul-le-mul_right k r in
      le_rep (rep_mul (own_pos (i + j + k)) (own m)) (mix_parts i j k x y z) (omega (arith, p', q', r'))
