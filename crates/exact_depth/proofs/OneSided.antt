-- A triangle that lies on one side of the line, across or up, has no point of it. Assumes nothing.
use Rattle.std.specs.Prelude.{Option, Some, None}
use Rattle.exact_depth.specs.declared.projection.Fraction.{Fraction}
use mathlib.Core.Path.{◌≡◌, refl}
use Prim.Native.Nat.{ℕ, ◌+◌, ◌*◌, ◌≤◌, ◌<◌}
use native.Mathlib.Nat.{mul-le-mul_right}
use native.Mathlib.Omega.{arith}
use lib.IntN.{ℤ, pos}
use Rattle.exact_depth.specs.declared.projection.Projected.{Projected}
use Rattle.exact_depth.specs.FirstPoint.{first_point}
use Rattle.exact_depth.specs.Meeting.{mix, On}
use Rattle.wide_integers.proofs.Integers.{pp, np}
use Rattle.wide_integers.proofs.Polynomials.{own, own_pos}
use Rattle.wide_integers.proofs.Reading.{below_read}
use Rattle.wide_integers.proofs.Order.{rep_lt, rep_same}
use Rattle.exact_depth.proofs.Weights.{mix_parts}
use Rattle.exact_depth.proofs.FirstPoints.{first_point_tells}
use Rattle.exact_depth.specs.Sides.{OneSide, above, below}

-- ---- numbers as the machine reads them back
pub side_read : {X Y Z x y z : ℤ} → X ≡ x → Y ≡ y → Z ≡ z → OneSide X Y Z → OneSide x y z
side_read e d f (above h g k) =
    above (below_read {X = pos 0} refl e h) (below_read {X = pos 0} refl d g) (below_read {X = pos 0} refl f k)
side_read e d f (below h g k) =
    below (below_read {Y = pos 0} e refl h) (below_read {Y = pos 0} d refl g) (below_read {Y = pos 0} f refl k)

-- ---- no mean of such numbers is 0
scaled : (i a b : ℕ) → a < b → (a + 1) * i ≤ b * i
scaled i a b h = mul-le-mul_right i (omega (arith, h))

no_mean : (i j k : ℕ) (x y z : ℤ) → 0 < i + j + k → OneSide x y z → mix i j k x y z ≡ pos 0 → ⊥
no_mean i j k x y z some (above h g f) e =
    let m = rep_same (mix_parts i j k x y z) (own_pos 0) e in
    let p = scaled i (np x) (pp x) (omega (arith, rep_lt (own_pos 0) (own x) h)) in
    let q = scaled j (np y) (pp y) (omega (arith, rep_lt (own_pos 0) (own y) g)) in
    let r = scaled k (np z) (pp z) (omega (arith, rep_lt (own_pos 0) (own z) f)) in
    omega (arith, m, p, q, r, some)
no_mean i j k x y z some (below h g f) e =
    let m = rep_same (mix_parts i j k x y z) (own_pos 0) e in
    let p = scaled i (pp x) (np x) (omega (arith, rep_lt (own x) (own_pos 0) h)) in
    let q = scaled j (pp y) (np y) (omega (arith, rep_lt (own y) (own_pos 0) g)) in
    let r = scaled k (pp z) (np z) (omega (arith, rep_lt (own z) (own_pos 0) f)) in
    omega (arith, m, p, q, r, some)

-- ---- so no point of the line lies in the triangle
module _ (near far : ℤ) (a b c : Projected) where
  pub unmet : ((D : ℕ) (t : ℤ) → On near far a b c D t → ⊥) → None ≡ first_point a b c near far
  unmet h = go (first_point a b c near far) refl
    where
      go : (d : Option Fraction) → first_point a b c near far ≡ d → None ≡ d
      go None e = refl
      go (Some f) e = let m = (first_point_tells near far a b c).reached f e in absurd (h m.D m.t m.on)

  pub across_missed : OneSide a.across b.across c.across → None ≡ first_point a b c near far
  across_missed h = unmet (λ D t o.
      let m = o.meets in
      no_mean m.i m.j m.k a.across b.across c.across (omega (arith, o.positive, m.total)) h m.across)

  pub up_missed : OneSide a.up b.up c.up → None ≡ first_point a b c near far
  up_missed h = unmet (λ D t o.
      let m = o.meets in
      no_mean m.i m.j m.k a.up b.up c.up (omega (arith, o.positive, m.total)) h m.up)
