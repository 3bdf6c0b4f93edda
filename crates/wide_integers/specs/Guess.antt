-- What a guess at a fraction's float leads to, where it was right. Where it was wrong nothing is said. Definitions only. Assumes nothing.
use Rattle.std.specs.Prelude.{◌≡◌, ℕ, ◌+◌, ◌*◌, ◌^◌, ◌<◌, ◌≤◌, false, Float, Option, Some, None}
use Rattle.std.specs.Float.{binary64}
use Rattle.std.specs.Float.Ieee.{units, round}
use Rattle.wide_integers.specs.declared.number.Wide.{Wide}
use Rattle.wide_integers.specs.declared.division.Quotient.{Quotient}
use Rattle.wide_integers.specs.Division.{magnitude, Counts, digits_of}

-- n
abbrev pub Holds : ℕ → Option Wide → Type 0
Holds n (Some v) = Counts v n
Holds n None = Unit {0}

-- v is what is left of n without m
pub record Left (n m : ℕ) (v : Wide) : Type 0 where
  pub counts : Counts v (magnitude v)
  pub same : magnitude v + m ≡ n

abbrev pub Leaves : ℕ → ℕ → Option Wide → Type 0
Leaves n m (Some v) = Left n m v
Leaves n m None = Unit {0}

-- the digits of n / d before the point, and what is left
pub record Divides (n d : ℕ) (q : Quotient) : Type 0 where
  pub rest : Counts q.rest (magnitude q.rest)
  pub same : q.word * d + magnitude q.rest ≡ n
  pub below : magnitude q.rest < d
  pub few : q.word ≤ 9007199254740993

abbrev pub Settles : ℕ → ℕ → Option Quotient → Type 0
Settles n d (Some q) = Divides n d q
Settles n d None = Unit {0}

-- x is the float of 53 digits of t · 2^g / d, rounded, in units of 2^(k-1074)
pub record Found (t d g k : ℕ) (x : Float) : Type 0 where
  pub quotient : Quotient
  pub same : quotient.word * d + magnitude quotient.rest ≡ t * 2 ^ g
  pub below : magnitude quotient.rest < d
  pub least : 2 ^ 52 ≤ quotient.word
  pub most : quotient.word < 2 ^ 53
  pub is : x ≡ units binary64 false (digits_of d quotient) k

abbrev pub Finds : ℕ → ℕ → ℕ → ℕ → Option Float → Type 0
Finds t d g k (Some x) = Found t d g k x
Finds t d g k None = Unit {0}

abbrev pub Answers : ℕ → ℕ → Option Float → Type 0
Answers t w (Some x) = x ≡ round binary64 false t w
Answers t w None = Unit {0}
