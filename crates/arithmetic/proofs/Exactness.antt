-- What rounding to a float leaves exact: whole numbers up to 2^53, numbers that fit times a power of two, and the size under either sign.
-- Assumes nothing.
use Rattle.std.proofs.Common.{◌≡◌, ℕ, zero, suc, ◌+◌, ◌-◌, ◌*◌, ◌%◌, ◌^◌, ◌<◌, ◌≤◌, Bool, true, false, cond, ◌&&◌, T, eqb, ltb, leb, ℤ, pos}
use Rattle.std.proofs.Common.{negsuc, sym, refl, ap, ◌∙◌, subst, le_of_suc-le-suc, zero-lt-suc, mul_assoc, mul_comm, lt_of_mul-lt-mul_right}
use Rattle.std.proofs.Common.{mul-lt-mul_of_pos_right, mul-pos, one-mul, lt_of_not-le, zero-mul, mul-one, sub-add_cancel, mul_right_comm}
use Rattle.std.proofs.Common.{not-le_of_lt, mul_left_comm, le→leb, eqb→eq, ltb→lt, leb→le, pow_pos, pow-add}
use lib.Pow.{pow-lt}
use lib.Ieee.{Float, inf, fin, Format, binary64, prec, emax, low, up, down, odd, units, round, neg, of_int, in_float, fits}
use lib.Ieee.Fits.{and_l, and_r, down_pos, round_is}
use lib.Ieee.Exact.{HasValue, round_exact}
use lib.Ieee.Back.{round_whole}

-- ---- whole numbers
pub of_int_is : (f : Format) (n : ℕ) → of_int f (pos n) ≡ round f false n 1
unfolding of_int
of_int_is f n = refl

pub of_int_below : (f : Format) (n : ℕ) → of_int f (negsuc n) ≡ round f true (suc n) 1
unfolding of_int
of_int_below f n = refl

pub round_one : round binary64 false 1 1 ≡ fin false 1 (pos 0)
unfolding round
round_one = refl

-- up to 2^53 a whole number is a float as it stands
pub small_in_float : (n : ℕ) → n ≤ 2 ^ 53 → T (in_float binary64 (pos n))
unfolding in_float
small_in_float n h = le→leb n (2 ^ 53) h

pub of_int_value : (n : ℕ) → n ≤ 2 ^ 53 → HasValue (of_int binary64 (pos n)) false n 1
of_int_value n h = subst (λ (x : Float). HasValue x false n 1) (sym (of_int_is binary64 n)) (round_whole binary64 false n h)

-- ---- the sign does not matter to the size
neg_odd : (d q k l : ℕ) → neg (odd d false q k l) ≡ odd d true q k l
unfolding odd neg
neg_odd d zero k l = refl
neg_odd d (suc q) k l = refl

neg_units : (f : Format) (q k : ℕ) → neg (units f false q k) ≡ units f true q k
unfolding units
neg_units f q k = go (ltb (q * 2 ^ k) (2 ^ (low f + suc (emax f))))
  where
    go : (b : Bool) → neg (cond b (odd (suc (prec f)) false q k (low f)) (inf false)) ≡ cond b (odd (suc (prec f)) true q k (low f))
        (inf true)
    go true = neg_odd (suc (prec f)) q k (low f)
    go false = unfold neg in refl

pub neg_round : (f : Format) (a c : ℕ) → neg (round f false a c) ≡ round f true a c
neg_round f a c = ap neg (round_is f false a c) ∙ neg_units f _ _ ∙ sym (round_is f true a c)

-- ---- numbers that fit, times a power of two
pub fits_parts : (f : Format) (s : Bool) (m : ℕ) (e : ℤ) → T (fits f (fin s m e)) → (m < 2 ^ prec f) ×
    ((down e ≤ 2 ^ low f) × (m * up e < 2 ^ suc (emax f) * down e))
unfolding fits
fits_parts f s zero (pos k) t = (
  pow_pos (prec f),
  (
    pow_pos (low f),
    subst (λ (z : ℕ). z < 2 ^ suc (emax f) * 1) (sym (zero-mul (2 ^ k)))
        (mul-pos (pow_pos (suc (emax f))) (zero-lt-suc 0)),
  ),
)
fits_parts f s zero (negsuc k) t =
    let one : 1 * 2 ^ suc k ≡ 1 = eqb→eq (1 * 2 ^ suc k) 1 t in (
      pow_pos (prec f),
      (
        subst (λ (z : ℕ). z ≤ 2 ^ low f) (sym one ∙ one-mul (2 ^ suc k)) (pow_pos (low f)),
        mul-pos (pow_pos (suc (emax f)))
            (pow_pos (suc k)),
      ),
    )
fits_parts f s (suc m) e t =
    let a : Bool = eqb (suc m % 2) 1 in
    let b : Bool = ltb (suc m) (2 ^ prec f) in
    let c : Bool = leb (down e) (2 ^ low f) in
    let d : Bool = ltb (suc m * up e) (2 ^ suc (emax f) * down e) in (
      ltb→lt (suc m) (2 ^ prec f) (and_r a b (and_l (a && b) c (and_l (a && b && c) d t))),
      (
        leb→le (down e) (2 ^ low f) (and_r (a && b) c (and_l (a && b && c) d t)),
        ltb→lt (suc m * up e) (2 ^ suc (emax f) * down e)
            (and_r (a && b && c) d t),
      ),
    )

-- an exponent that is not too low, in units of the smallest value
pub shift : (f : Format) (e : ℤ) → down e ≤ 2 ^ low f → (j : ℕ) × (up e * 2 ^ low f ≡ 2 ^ j * down e)
shift f (pos k) h = (k + low f, sym (pow-add 2 k (low f)) ∙ sym (mul-one (2 ^ (k + low f))))
shift f (negsuc k) h =
    let fit : suc k ≤ low f = le_of_suc-le-suc (lt_of_not-le (λ (g : suc (low f) ≤ suc k). not-le_of_lt (pow-lt g) h)) in
    (low f - suc k, one-mul (2 ^ low f) ∙ ap (λ (z : ℕ). 2 ^ z) (sym (sub-add_cancel fit)) ∙ pow-add 2 (low f - suc k) (suc k))

-- a value that fits, times 2 ^ t, is rounded to itself if it is not too large
pub scaled_exact : (f : Format) (s : Bool) (m : ℕ) (e : ℤ) (t : ℕ) → T (fits f (fin s m e)) → m * up e * 2 ^ t < 2 ^ suc (emax f) * down e →
    HasValue (round f s (m * up e * 2 ^ t) (down e)) s (m * up e * 2 ^ t) (down e)
scaled_exact f s m e t h g =
    let p = fits_parts f s m e h in
    let j = shift f e p.1.0 in
    let unit : m * up e * 2 ^ t * 2 ^ low f ≡ m * 2 ^ (j.0 + t) * down e =
    simp (mul_assoc, mul_comm, mul_left_comm, pow-add)
    (simp (mul_assoc, mul_comm, mul_left_comm) at (ap (λ (z : ℕ). m * 2 ^ t * z) j.1)) in
    let room : m * 2 ^ (j.0 + t) * down e < 2 ^ (low f + suc (emax f)) * down e =
    subst (λ (z : ℕ). z < 2 ^ (low f + suc (emax f)) * down e) unit
    (subst (λ (z : ℕ). m * up e * 2 ^ t * 2 ^ low f < z)
    (mul_right_comm (2 ^ suc (emax f)) (down e) (2 ^ low f) ∙ ap (λ (z : ℕ). z * down e)
    (mul_comm (2 ^ suc (emax f)) (2 ^ low f) ∙ sym (pow-add 2 (low f) (suc (emax f)))))
    (mul-lt-mul_of_pos_right g (pow_pos (low f)))) in
    round_exact f s (m * up e * 2 ^ t) (down e) m (j.0 + t) (down_pos e) p.0 (lt_of_mul-lt-mul_right (down e) room) unit
