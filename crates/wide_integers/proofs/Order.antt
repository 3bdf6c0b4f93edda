-- The order of whole numbers, by the natural numbers that they are differences of. Assumes nothing.
use Rattle.std.proofs.Common.{◌≡◌, ℕ, ◌+◌, ◌<◌, ◌≤◌, true, false, ℤ, pos, negsuc, refl, ap, true≢false, arith, ltb-false, ltb-true, le-ltb}
use Rattle.std.proofs.Common.{lt-ltb, le-leb, leb-true}
use mathlib.Core.Bool.{false≢true}
use lib.Signed.{lt_z, le_z}
use Rattle.wide_integers.proofs.Integers.{pp, np}
use Rattle.wide_integers.proofs.Polynomials.{Rep}

le_parts : (z w : ℤ) → le_z z w ≡ true → pp z + np w ≤ pp w + np z
le_parts (pos a) (pos b) h = let m = leb-true a b h in omega (arith, m)
le_parts (pos a) (negsuc b) h = absurd (false≢true h)
le_parts (negsuc a) (pos b) h = omega arith
le_parts (negsuc a) (negsuc b) h = let m = leb-true b a h in omega (arith, m)

parts_le : (z w : ℤ) → pp z + np w ≤ pp w + np z → le_z z w ≡ true
parts_le (pos a) (pos b) h = le-leb a b (omega (arith, h))
parts_le (pos a) (negsuc b) h = absurd (omega (arith, h))
parts_le (negsuc a) (pos b) h = refl
parts_le (negsuc a) (negsuc b) h = le-leb b a (omega (arith, h))

lt_parts : (z w : ℤ) → lt_z z w ≡ true → pp z + np w < pp w + np z
lt_parts (pos a) (pos b) h = let m = ltb-true a b h in omega (arith, m)
lt_parts (pos a) (negsuc b) h = absurd (false≢true h)
lt_parts (negsuc a) (pos b) h = omega arith
lt_parts (negsuc a) (negsuc b) h = let m = ltb-true b a h in omega (arith, m)

nlt_parts : (z w : ℤ) → lt_z z w ≡ false → pp w + np z ≤ pp z + np w
nlt_parts (pos a) (pos b) h = let m = ltb-false a b h in omega (arith, m)
nlt_parts (pos a) (negsuc b) h = omega arith
nlt_parts (negsuc a) (pos b) h = absurd (true≢false h)
nlt_parts (negsuc a) (negsuc b) h = let m = ltb-false b a h in omega (arith, m)

parts_nlt : (z w : ℤ) → pp w + np z ≤ pp z + np w → lt_z z w ≡ false
parts_nlt (pos a) (pos b) h = le-ltb a b (omega (arith, h))
parts_nlt (pos a) (negsuc b) h = refl
parts_nlt (negsuc a) (pos b) h = absurd (omega (arith, h))
parts_nlt (negsuc a) (negsuc b) h = le-ltb b a (omega (arith, h))

parts_lt : (z w : ℤ) → pp z + np w < pp w + np z → lt_z z w ≡ true
parts_lt (pos a) (pos b) h = lt-ltb a b (omega (arith, h))
parts_lt (pos a) (negsuc b) h = absurd (omega (arith, h))
parts_lt (negsuc a) (pos b) h = refl
parts_lt (negsuc a) (negsuc b) h = lt-ltb b a (omega (arith, h))

-- ---- of any differences
module _ {z w : ℤ} {p n q k : ℕ} (a : Rep z p n) (b : Rep w q k) where
  pub rep_le : le_z z w ≡ true → p + k ≤ q + n
  rep_le h = omega (arith, a.is, b.is, le_parts z w h)

  pub le_rep : p + k ≤ q + n → le_z z w ≡ true
  le_rep h = parts_le z w (omega (arith, a.is, b.is, h))

  pub rep_lt : lt_z z w ≡ true → p + k < q + n
  rep_lt h = omega (arith, a.is, b.is, lt_parts z w h)

  pub lt_rep : p + k < q + n → lt_z z w ≡ true
  lt_rep h = parts_lt z w (omega (arith, a.is, b.is, h))

  pub rep_nlt : lt_z z w ≡ false → q + n ≤ p + k
  rep_nlt h = omega (arith, a.is, b.is, nlt_parts z w h)

  pub nlt_rep : q + n ≤ p + k → lt_z z w ≡ false
  nlt_rep h = parts_nlt z w (omega (arith, a.is, b.is, h))

  pub rep_same : z ≡ w → p + k ≡ q + n
  rep_same e =
      let e⁺ : pp z ≡ pp w = ap pp e in
      let e⁻ : np z ≡ np w = ap np e in
      omega (arith, a.is, b.is, e⁺, e⁻)
