-- What the steps on single words do. Definitions only. Assumes nothing.
use Rattle.std.specs.Prelude.{◌≡◌, ℕ, ◌+◌, ◌*◌, ◌<◌, ◌≤◌, ℤ, pos, ◌-ℤ◌}
use Rattle.wide_integers.specs.declared.words.Carried.{Carried}
use Rattle.wide_integers.specs.declared.words.Double.{Double}
use Rattle.wide_integers.specs.declared.words.Part.{Part}
use Rattle.wide_integers.specs.Value.{base}

pub record Added (a b carry : ℕ) (r : Carried ℕ) : Type 0 where
  pub sum : r.words + r.over * base ≡ a + b + carry
  pub word : r.words < base
  pub over : r.over ≤ 1

pub record Subtracted (a b borrow : ℕ) (r : Carried ℕ) : Type 0 where
  pub rest : r.words + (b + borrow) ≡ a + r.over * base
  pub word : r.words < base
  pub over : r.over ≤ 1

pub record Multiplied (a b : ℕ) (r : Double) : Type 0 where
  pub product : r.high * base + r.low ≡ a * b
  pub low : r.low < base

pub record SplitSign (x : ℤ) (r : Part) : Type 0 where
  pub whole : pos r.word -ℤ pos (r.below * base) ≡ x
  pub word : r.word < base
  pub below : r.below ≤ 1
