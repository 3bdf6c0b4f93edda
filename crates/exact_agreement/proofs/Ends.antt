-- The rounded end of a segment on whole millimetres is exact, on one axis. Assumes nothing.
use Prim.Native.Nat.{ℕ, ◌+◌, ◌*◌, ◌^◌, ◌≤◌}
use native.Mathlib.Omega.{arith}
use lib.Dec.{lit≤}
use lib.Ieee.{Float, binary64, add, mul}
use Rattle.arithmetic.proofs.WholeValues.{Is, same, add_is, mul_is}

room : 32768 ≤ 2 ^ 53
room = lit≤ tt

-- o is p - n and the direction's component d is u - v, at most one of them 1
module _ (o d far : Float) (p n u v F : ℕ) (vo : Is o p n) (vd : Is d u v) (vf : Is far F 0)
    (small : p + n ≤ 4096) (maximum : F ≤ 16384) (least : u * F ≤ 16384) (less : v * F ≤ 16384) where
  pub end_is : Is (add binary64 o (mul binary64 d far)) (p + u * F) (n + v * F)
  end_is =
      let q = u * F + v * 0 in
      let k = u * 0 + v * F in
      let m : Is (mul binary64 d far) q k =
      mul_is d far u v F 0 vd vf (omega (arith, room, least, less)) (omega (arith, room, least, less)) in
      same (add binary64 o (mul binary64 d far)) (p + q) (n + k) (p + u * F) (n + v * F) (omega arith)
      (add_is o (mul binary64 d far) p n q k vo m (omega (arith, room, small, least, less)) (omega (arith, room, small, least, less)))
