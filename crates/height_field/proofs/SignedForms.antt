-- The highest bit of a small number is 0, so that it is read with the same value in its signed form. Assumes nothing.
use Prim.Native.Nat.{ℕ, suc, ◌-◌, ◌^◌, ◌≤◌}
use mathlib.Core.Path.{◌≡◌, ap}
use mathlib.Core.Bool.{Bool}
use native.Mathlib.Omega.{arith}
use lib.IntN.{pos, negsuc}
use mir.Syntax.{w64}
use mir.Val.{sel, to_z}
use borrow.Author.Tests.{lt-ltb}

pub same-signed : (n : ℕ) → n ≤ 1024 → to_z w64 n ≡ pos n
same-signed n h = ap (λ (low : Bool). sel low (pos n) (negsuc (2 ^ 64 - suc n))) (lt-ltb n (2 ^ 63) (omega arith))
