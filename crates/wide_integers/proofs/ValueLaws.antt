-- What three words stand for is told by their highest word up to a multiple of 2^64, since it is no larger than they hold. Assumes nothing.
use Rattle.std.proofs.Common.{◌≡◌, ℕ, ◌+◌, ◌*◌, ◌%◌, ◌<◌, ◌≤◌, ℤ, pos, negsuc, ◌-ℤ◌, nat_abs, refl, le_of_lt, arith}
use Rattle.wide_integers.proofs.Integers.{pp, np}
use Rattle.wide_integers.proofs.Polynomials.{Rep, own_pos, rep_sub, equal}
use Rattle.wide_integers.specs.declared.number.Wide.{Wide}
use Rattle.wide_integers.specs.Value.{base, half, zero_at, raised, value, FitsWide}
use Rattle.wide_integers.proofs.Limbs.{top_least, top_most, whole_words}

-- a number of a size, as a difference
pub rep_least : {z : ℤ} {p n : ℕ} → Rep z p n → (L : ℕ) → nat_abs z < L → n < p + L
rep_least {z = pos a} r L h = omega (arith, r.is, h)
rep_least {z = negsuc a} r L h = omega (arith, r.is, h)

pub rep_most : {z : ℤ} {p n : ℕ} → Rep z p n → (L : ℕ) → nat_abs z < L → p < n + L
rep_most {z = pos a} r L h = omega (arith, r.is, h)
rep_most {z = negsuc a} r L h = omega (arith, r.is, h)

pub difference_rep : (a b : ℕ) → Rep (pos a -ℤ pos b) a b
difference_rep a b = record { is = plain (pp (pos a -ℤ pos b)) (np (pos a -ℤ pos b)) (rep_sub (own_pos a) (own_pos b)).is }
  where
    plain : (x y : ℕ) → x + (0 + b) ≡ a + 0 + y → x + b ≡ a + y
    plain x y h = omega (arith, h)

-- the words themselves
pub value_rep : (w : Wide) → Rep (value w) (raised w) zero_at
unfolding value
value_rep w = difference_rep (raised w) zero_at

-- the highest word
pub top_word : (h p q : ℕ) → h < base → p ≤ q → q < p + base → (h + p) % base ≡ q % base → h + p ≡ q
top_word h p q hh l g e = omega arith

-- a number as a difference P - N, and the words that this difference leaves
module _ {z : ℤ} {P N : ℕ} (r : Rep z P N) (w : Wide) (p q : ℕ)
    (e : P + half * (base * base) + p * (base * base) ≡ N + q * (base * base) + (w.middle * base + w.low)) where
  pub value_is : w.high + p ≡ q → w.middle < base → w.low < base → value w ≡ z
  value_is h hm hl =
      equal (value_rep w) r (shuffle (raised w) N P zero_at (whole_words base half P N p q w.middle w.low hm hl e w.high h))
    where
      shuffle : (a n p l : ℕ) → p + l ≡ n + a → a + n ≡ p + l
      shuffle a n p l g = omega (arith, g)

  -- .. with the highest word up to a multiple of 2^64
  pub value_told : FitsWide z → w.high < base → (w.high + p) % base ≡ q % base → w.middle < base → w.low < base → value w ≡ z
  value_told k hh h hm hl =
      value_is
      (top_word w.high p q hh (top_least base half P N p q w.middle w.low hm hl e (le_of_lt (rep_least r zero_at k.size)))
      (top_most base half P N p q w.middle w.low hm hl e (rep_most r zero_at k.size) refl) h) hm hl
