-- "Square root [..] after IEEE 754: root rounded once to nearest even." Definitions only. Assumes nothing.
use Rattle.std.specs.Prelude.{ℕ, zero, suc, ◌+◌, ◌-◌, ◌*◌, ◌/◌, ◌^◌, ◌<◌, ◌≤◌, true, false, cond, nat_le}
use Prim.Native.Nat.{compare}
use lib.Ieee.{Float, nan, inf, fin, Format, binary64, prec, low, up, down, size, nearest, units}
use Rattle.std.specs.Float.Ieee.Exact.{HasValue}

-- The largest number from r up to r + 2 ^ b - 1 whose square is at most n, if r is one: its b lowest digits, from the highest down.
unfoldable pub root_digits : ℕ → ℕ → ℕ → ℕ
root_digits zero n r = r
root_digits (suc b) n r = let t = r + 2 ^ b in root_digits b n (cond (nat_le (t * t) n) t r)

-- the root of n, cut to a whole number
unfoldable pub whole_root : ℕ → ℕ
whole_root n = root_digits (size n) n 0

-- The value of the format f that is nearest to the root of num / den, for a den above 0, as `lib.Ieee.round` has it for num / den itself.
-- In units of the square of f's smallest value the fraction is n / den. Its root has half as many digits before the point, rounded up,
-- of which the format keeps the `prec` leading ones and drops k: these are q, moved up by one where the root is above q + 1/2.
unfoldable pub root_round : Format → ℕ → ℕ → Float
root_round f num den =
    let n = num * 2 ^ (2 * low f) in
    let k = (size (n / den) + 1) / 2 - prec f in
    let u = den * (2 ^ k * 2 ^ k) in
    let q = whole_root (n / u) in
    units f false (nearest q (compare (n * 4) ((2 * q + 1) * (2 * q + 1) * u))) k

-- IEEE 754's squareRoot at binary64: a zero keeps its sign, and a number below zero has no root
unfoldable pub root_of : Float → Float
root_of nan = nan
root_of (inf true) = nan
root_of (inf false) = inf false
root_of (fin s zero e) = fin s zero e
root_of (fin true (suc m) e) = nan
root_of (fin false (suc m) e) = root_round binary64 (suc m * up e) (down e)

-- r is the whole number nearest to the root of n: (r - 1/2)² < n < (r + 1/2)². Neither square is whole, so there is no tie.
pub record NearestRoot (n r : ℕ) : Type 0 where
  pub above : r * r < n + r
  pub below : n ≤ r * r + r

-- the square of q is not far from m * 2 ^ 52
pub record CloseRoot (m q : ℕ) : Type 0 where
  pub small : q < 2 ^ 53
  pub lower : m * 2 ^ 52 < q * q + 2 ^ 63
  pub upper : q * q < m * 2 ^ 52 + 2 ^ 63

-- the float g is r * 2 ^ -52, for the whole number r nearest to the root of m * 2 ^ 52
pub record RootGuessed (m : ℕ) (g : Float) : Type 0 where
  pub digits : ℕ
  pub value : HasValue g false digits (2 ^ 52)
  pub nearest_root : NearestRoot (m * 2 ^ 52) digits
