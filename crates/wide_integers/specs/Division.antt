-- The float nearest to a fraction of two numbers, digit by digit. Definitions only. Assumes nothing.
use Rattle.std.specs.Prelude.{◌≡◌, ℕ, zero, suc, ◌+◌, ◌*◌, ◌^◌, ◌<◌, ◌≤◌, false, ℤ, pos, negsuc, unsigned_abs, Float}
use Prim.Native.Nat.{compare}
use Rattle.std.specs.Float.{nan, binary64}
use Rattle.std.specs.Float.Ieee.{round, nearest}
use Rattle.wide_integers.specs.declared.number.Wide.{Wide}
use Rattle.wide_integers.specs.declared.division.Grown.{Grown}
use Rattle.wide_integers.specs.declared.division.Quotient.{Quotient}
use Rattle.wide_integers.specs.Value.{zero_at, value}

-- a number that is not below 0
abbrev pub magnitude : Wide → ℕ
magnitude w = unsigned_abs (value w)

-- the number n, below 2^191
pub record Counts (w : Wide) (n : ℕ) : Type 0 where
  pub is : value w ≡ pos n
  pub small : n < zero_at

pub record Positive (w : Wide) : Type 0 where
  pub counts : Counts w (magnitude w)
  pub positive : 0 < magnitude w

pub record Below (s l : Wide) : Type 0 where
  pub start : Positive s
  pub limit : Counts l (magnitude l)
  pub most : magnitude s ≤ magnitude l

-- S · 2^power is at most L, and its double is not
pub record Grows (L S : ℕ) (g : Grown) : Type 0 where
  pub whole : Counts g.whole (S * 2 ^ g.power)
  pub most : S * 2 ^ g.power ≤ L
  pub least : L < S * 2 ^ g.power + S * 2 ^ g.power
  pub few : g.power < 191

-- what is left of a division by d
pub record Less (r d : Wide) : Type 0 where
  pub rest : Counts r (magnitude r)
  pub whole : Counts d (magnitude d)
  pub below : magnitude r < magnitude d

pub record Proper (q : Quotient) (d : Wide) : Type 0 where
  pub less : Less q.rest d
  pub few : q.word < 2 ^ 52

-- twice what stood there, with one digit more
pub record Stepped (D : ℕ) (p q : Quotient) : Type 0 where
  pub rest : Counts q.rest (magnitude q.rest)
  pub same : q.word * D + magnitude q.rest ≡ (p.word * D + magnitude p.rest) + (p.word * D + magnitude p.rest)
  pub below : magnitude q.rest < D
  pub least : p.word + p.word ≤ q.word
  pub most : q.word ≤ p.word + p.word + 1

-- 53 digits of N / D, and what is left
pub record Divided (D N : ℕ) (q : Quotient) : Type 0 where
  pub rest : Counts q.rest (magnitude q.rest)
  pub same : q.word * D + magnitude q.rest ≡ N * 2 ^ 52
  pub below : magnitude q.rest < D
  pub least : 2 ^ 52 ≤ q.word
  pub most : q.word < 2 ^ 53

pub record Ready (q : Quotient) (d : Wide) : Type 0 where
  pub less : Less q.rest d
  pub least : 2 ^ 52 ≤ q.word
  pub most : q.word < 2 ^ 53

-- the digits, rounded by what is left
abbrev pub digits_of : ℕ → Quotient → ℕ
digits_of D q = nearest q.word (compare (magnitude q.rest * 2) D)

-- the float nearest to t / w, for a t that is not below 0 and a w above; of other numbers nothing is asked
abbrev pub fraction_of : ℤ → ℤ → Float
fraction_of (pos t) (pos zero) = nan
fraction_of (pos t) (pos (suc w)) = round binary64 false t (suc w)
fraction_of (pos t) (negsuc w) = nan
fraction_of (negsuc t) w = nan
