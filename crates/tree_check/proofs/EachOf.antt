-- A test of every number of a range, as `all` of the range tells it. Assumes nothing.
use Rattle.std.proofs.Common.{◌≡◌, refl, ap, ℕ, zero, suc, ◌+◌, Bool, ◌&&◌}
use native.Mathlib.Numerals.{add-one}
use Rattle.std.specs.List.{list_all, range_with_len}
use Rattle.lists.specs.Lists.{range, every}

pub every_listed : (p : ℕ → Bool) (start size : ℕ) → list_all p (range_with_len start size) ≡ every p (range start size)
unfolding every range
every_listed p start zero = refl
every_listed p start (suc size) = rw (← add-one start) (ap (λ (b : Bool). p start && b) (every_listed p (start + 1) size))
