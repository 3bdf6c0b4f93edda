-- A hit whose depth is at the limit or beyond changes nothing of what was found. Assumes nothing.
use Prim.Native.Nat.{ℕ, suc, ◌*◌, ◌≤◌, ◌<◌}
use mathlib.Core.Path.{◌≡◌, refl, sym, ◌∙◌, subst}
use mathlib.Core.Bool.{Bool, true, false, cond, true≢false}
use native.Mathlib.Nat.{mul-pos, mul-le-mul_right, le_of_mul-le-mul_right}
use native.Mathlib.Omega.{arith}
use lib.Dec.{lit<}
use lib.IntN.{nat_abs}
use lib.Ieee.{Float, binary64, round, lt, le}
use lib.Ieee.Bits.{is_true}
use lib.Ieee.Order.{round_mono}
use borrow.Author.Tests.{leb-true}
use Rattle.arithmetic.proofs.Order.{not_lt_of_le, lt_asymmetric, lt_of_lt_le}
use Rattle.vectors.specs.declared.vec3.Vec3.{Vec3}
use Rattle.nearest_hit.specs.Summary.{Kept, nobody, kept, keep_of, Found, found, nearer}
use Rattle.exact_triangle.specs.Line.{Line}
use Rattle.exact_triangle.specs.Grid.{units, nearest_to, within, longest}
use Rattle.tree_exact.specs.Opening.{limit_of}
use Rattle.tree_exact.specs.Demand.{HitPoint}
use Rattle.tree_exact.proofs.Reading.{read_below}

-- ---- one that is farther does not go before
not_le : (x y : Float) → lt x y ≡ true → le y x ≡ false
not_le x y h = go (le y x) refl
  where
    go : (b : Bool) → le y x ≡ b → b ≡ false
    go true e = absurd (true≢false (sym h ∙ not_lt_of_le y x e))
    go false e = refl

farther_stays : (y : Found Float) (x : ℕ) (d : Float) → lt y.value d ≡ true → keep_of nearer (kept y) (found x d) ≡ kept y
unfolding keep_of nearer
farther_stays y x d h = simp (lt_asymmetric y.value d h, not_le y.value d h)

module _ (l : Line) (a b c : Vec3) (distance : Float) (deep : HitPoint l a b c distance) where
  abbrev D : ℕ
  D = deep.D

  abbrev t : ℕ
  t = deep.t

  some : 0 < D
  some = deep.on.positive

  -- no point of the segment is past its end
  inside : suc l.far * D ≤ t → ⊥
  inside h = omega (arith, h, some, leb-true t (l.far * D) deep.on.most)

  -- p / W is at least n, and so is the distance, in units
  far_off : (n : ℕ) → n * D ≤ t → le (round binary64 false n units) distance ≡ true
  far_off n h =
      let h' : n * D * deep.W ≤ t * deep.W = mul-le-mul_right deep.W h in
      let same = deep.same in
      let more : n * deep.W * D ≤ deep.p * D = omega (arith, h', same) in
      let least : n * deep.W ≤ deep.p = le_of_mul-le-mul_right more some in
      let scaled : n * deep.W * units ≤ deep.p * units = mul-le-mul_right units least in
      subst (λ (d : Float). le (round binary64 false n units) d ≡ true) (sym deep.nearest)
      (is_true _ (round_mono binary64 n units deep.p (deep.W * units) (lit< tt) (mul-pos deep.positive (lit< {m = 0} {n = units} tt))
      (omega (arith, scaled))))

  pub nothing_changes : (best : Kept (Found Float)) → limit_of l best * D ≤ t → (x : ℕ) → keep_of nearer best (found x distance) ≡ best
  nothing_changes nobody h x = absurd (inside h)
  nothing_changes (kept y) h x = go (within longest y.value) refl h
    where
      go : (b : Bool) → within longest y.value ≡ b
          → cond b (suc (nat_abs (nearest_to units y.value))) (suc l.far) * D ≤ t → keep_of nearer (kept y) (found x distance) ≡ kept y
      go false e h = absurd (inside h)
      go true e h =
          let n = suc (nat_abs (nearest_to units y.value)) in
          farther_stays y x distance
          (lt_of_lt_le y.value (round binary64 false n units) distance (read_below y.value e) (far_off n h))
