-- What the steps on one and on three words do. Three words are read as a number from 0 on. Definitions only. Assumes nothing.
use Rattle.std.specs.Prelude.{◌≡◌, ℕ, ◌+◌, ◌*◌, ◌<◌, ◌≤◌}
use Rattle.wide_integers.specs.declared.number.Wide.{Wide}
use Rattle.wide_integers.specs.declared.words.Double.{Double}
use Rattle.wide_integers.specs.Value.{base, zero_at, raised}
use Rattle.wide_integers.specs.declared.words.Carried.{Carried}
use Rattle.wide_integers.specs.declared.triples.Long.{Long}
use Rattle.wide_integers.specs.declared.triples.Quad.{Quad}

-- 2^192
abbrev pub triple_base : ℕ
triple_base = base * (base * base)

-- each word is one
pub record Words (w : Wide) : Type 0 where
  pub high : w.high < base
  pub middle : w.middle < base
  pub low : w.low < base

pub record TimesAdded (a b c d : ℕ) (r : Double) : Type 0 where
  pub sum : r.high * base + r.low ≡ a * b + c + d
  pub high : r.high < base
  pub low : r.low < base

pub record RowOf (a : Wide) (k : ℕ) (more : Wide) (r : Carried Wide) : Type 0 where
  pub sum : raised r.words + r.over * triple_base ≡ raised a * k + raised more
  pub words : Words r.words
  pub over : r.over < base

pub record Carries (a b : Wide) (carry : ℕ) (r : Carried Wide) : Type 0 where
  pub sum : raised r.words + r.over * triple_base ≡ raised a + raised b + carry
  pub words : Words r.words
  pub over : r.over ≤ 1

pub record Borrows (a b : Wide) (borrow : ℕ) (r : Carried Wide) : Type 0 where
  pub rest : raised r.words + (raised b + borrow) ≡ raised a + r.over * triple_base
  pub words : Words r.words
  pub over : r.over ≤ 1

pub record Doubled (a b : Wide) (r : Long) : Type 0 where
  pub product : raised r.high * triple_base + raised r.low ≡ raised a * raised b
  pub high : Words r.high
  pub low : Words r.low

-- 2^191 less
pub record Signed (a : Wide) (r : Carried Wide) : Type 0 where
  pub same : raised r.words + zero_at ≡ raised a + r.over * triple_base
  pub words : Words r.words
  pub over : r.over ≤ 1

pub record Times (s : ℕ) (a r : Wide) : Type 0 where
  pub product : raised r ≡ s * raised a
  pub words : Words r

pub record PairsMultiplied (a₁ a₀ b₁ b₀ : ℕ) (r : Quad) : Type 0 where
  pub product : (r.w3 * base + r.w2) * (base * base) + (r.w1 * base + r.w0) ≡ (a₁ * base + a₀) * (b₁ * base + b₀)
  pub w3 : r.w3 < base
  pub w2 : r.w2 < base
  pub w1 : r.w1 < base
  pub w0 : r.w0 < base

pub record PairSubtracted (h₁ h₀ x₁ x₀ : ℕ) (r : Carried Double) : Type 0 where
  pub rest : r.words.high * base + r.words.low + (x₁ * base + x₀) ≡ h₁ * base + h₀ + r.over * (base * base)
  pub high : r.words.high < base
  pub low : r.words.low < base
