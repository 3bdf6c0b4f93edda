-- The line lies in the triangle's plane: the answer is the first point there. Assumes nothing.
use Rattle.std.specs.Prelude.{Option, Some, None}
use mathlib.Core.Path.{◌≡◌, refl, sym, ap, ◌∙◌}
use mathlib.Core.Logic.{◌⊎◌, inl, inr}
use mathlib.Core.Bool.{Bool, true, false, not, ◌&&◌, cond, true≢false}
use Prim.Native.Nat.{ℕ, zero, suc, ◌+◌, ◌*◌, ◌≤◌, ◌<◌}
use native.Mathlib.Nat.{mul-pos, mul-le-mul_right, le_of_mul-le-mul_right, zero-lt-suc}
use native.Mathlib.Omega.{arith}
use lib.IntN.{ℤ, pos, negsuc, neg_ℤ, ◌+ℤ◌, ◌-ℤ◌, ◌*ℤ◌, *ℤ-zero, zero-*ℤ, nat_abs}
use lib.Signed.{lt_z, le_z}
use borrow.Author.Tests.{lt-ltb}
use Rattle.exact_depth.specs.declared.projection.Projected.{Projected}
use Rattle.exact_depth.specs.declared.projection.Fraction.{Fraction}
use Rattle.exact_depth.specs.declared.plane.PlanePoint.{PlanePoint}
use Rattle.wide_integers.specs.Determinant.{determinant}
use Rattle.exact_depth.specs.FirstPoint.{seen_determinant, kept, inside, entry, side_of}
use Rattle.exact_depth.specs.FirstPoint.{area, along_plane, in_plane, coplanar, across_point}
use Rattle.exact_depth.specs.FirstPoint.{up_point}
use Rattle.exact_depth.specs.Meeting.{mix, Meets, On, HasArea, Reached, First}
use Rattle.wide_integers.proofs.Integers.{pp, np, mul_size}
use Rattle.wide_integers.proofs.Polynomials.{own, own_pos, rep_mul, equal, equal_of_minus, ring}
use Rattle.wide_integers.proofs.Order.{rep_le, le_rep, rep_lt, rep_nlt, nlt_rep}
use Rattle.exact_depth.proofs.Weights.{mix_parts}
use Rattle.exact_depth.proofs.Firsts.{missed, met, not_less, positive_of}
use Rattle.exact_depth.proofs.Entering.{rise, Passes}
use Rattle.exact_depth.proofs.Planes as Planes

-- ---- tests of the three heights
abbrev tested : Bool → Bool → Bool → Bool
tested p q r = not p && (not q && r)

clash : {b : Bool} → b ≡ true → b ≡ false → ⊥
clash h g = true≢false (sym h ∙ g)

not_negative : (x : ℤ) → le_z (pos 0) x ≡ true → lt_z x (pos 0) ≡ false
not_negative x h = nlt_rep (own x) (own_pos 0) (let m = rep_le (own_pos 0) (own x) h in omega (arith, m))

negative : (x : ℤ) → lt_z x (pos 0) ≡ false → le_z (pos 0) x ≡ true
negative x h = not_less x (pos 0) h

-- ---- the corners turn to the left
module _ (near far : ℤ) (a b c : Projected) (A B C : PlanePoint) (apart : HasArea a b c)
    (drop : (D : ℕ) (t : ℤ) → Meets a b c D t → Planes.PlanePointMeets A B C D t)
    (lift : (D : ℕ) (t : ℤ) → Planes.PlanePointMeets A B C D t → Meets a b c D t)
    (S : ℕ) (turned : area A B C ≡ pos S) (positive : 0 < S) where
  abbrev U : ℕ
  U = Planes.U A B C S turned near

  abbrev f : Fraction
  f = Planes.f₃ A B C S turned near

  abbrev w_is : f.w ≡ pos U
  w_is = Planes.entry_denominator A B C S turned near

  abbrev p₁ : Type 0
  p₁ = Passes (Planes.L₁ A B C S turned) (Planes.F₁ A B C S turned) f.t U

  abbrev p₂ : Type 0
  p₂ = Passes (Planes.L₂ A B C S turned) (Planes.F₂ A B C S turned) f.t U

  abbrev p₃ : Type 0
  p₃ = Passes (Planes.L₃ A B C S turned) (Planes.F₃ A B C S turned) f.t U

  -- a point of the segment in the triangle
  module _ (D : ℕ) (t : ℤ) (o : On near far a b c D t) where
    point : Planes.PlanePointMeets A B C D t
    point = drop D t o.meets

    on_passes₁ : p₁
    on_passes₁ = Planes.entry_passes₁ A B C S turned near D t o.positive o.least point

    on_passes₂ : p₂
    on_passes₂ = Planes.entry_passes₂ A B C S turned near D t o.positive o.least point

    on_passes₃ : p₃
    on_passes₃ = Planes.entry_passes₃ A B C S turned near D t o.positive o.least point

    on_least : le_z (f.t *ℤ pos D) (t *ℤ pos U) ≡ true
    on_least = Planes.entry_least A B C S turned near D t o.positive o.least point

    -- the entry is not past the far end
    on_far : lt_z (far *ℤ pos U) f.t ≡ false
    on_far =
        let l = rep_le (rep_mul (own f.t) (own_pos D)) (rep_mul (own t) (own_pos U)) on_least in
        let m = rep_le (own t) (rep_mul (own far) (own_pos D)) o.most in
        let m' : pp t + np far * D ≤ pp far * D + np t = omega (arith, m) in
        let n : (pp t + np far * D) * U ≤ (pp far * D + np t) * U = mul-le-mul_right U m' in
        let g : pp f.t + np far * U ≤ pp far * U + np f.t = le_of_mul-le-mul_right (omega (arith, l, n)) o.positive in
        nlt_rep (rep_mul (own far) (own_pos U)) (own f.t) (omega (arith, g))

  -- the entry is in the triangle
  module _ (q₁ : p₁) (q₂ : p₂) (q₃ : p₃) (far-kept : lt_z (far *ℤ f.w) f.t ≡ false) where
    scaled_least : le_z (near *ℤ pos (S * U)) (pos S *ℤ f.t) ≡ true
    scaled_least =
        let m = rep_le (rep_mul (own near) (own_pos U)) (own f.t) (Planes.entry_from_near A B C S turned near) in
        let m' : pp near * U + np f.t ≤ pp f.t + np near * U = omega (arith, m) in
        let n : (pp near * U + np f.t) * S ≤ (pp f.t + np near * U) * S = mul-le-mul_right S m' in
        le_rep (rep_mul (own near) (own_pos (S * U))) (rep_mul (own_pos S) (own f.t)) (omega (arith, n))

    scaled_most : le_z (pos S *ℤ f.t) (far *ℤ pos (S * U)) ≡ true
    scaled_most =
        let e : lt_z (far *ℤ pos U) f.t ≡ false = ap (λ (z : ℤ). lt_z (far *ℤ z) f.t) (sym w_is) ∙ far-kept in
        let m = rep_nlt (rep_mul (own far) (own_pos U)) (own f.t) e in
        let m' : pp f.t + np far * U ≤ pp far * U + np f.t = omega (arith, m) in
        let n : (pp f.t + np far * U) * S ≤ (pp far * U + np f.t) * S = mul-le-mul_right S m' in
        le_rep (rep_mul (own_pos S) (own f.t)) (rep_mul (own far) (own_pos (S * U))) (omega (arith, n))

    entered : Reached near far a b c f
    entered = record {
      W = U;
      positive = Planes.entry_positive A B C S turned near;
      denominator = w_is;
      D = S * U;
      t = pos S *ℤ f.t;
      on = record {
        positive = mul-pos positive (Planes.entry_positive A B C S turned near);
        meets = lift (S * U) (pos S *ℤ f.t)
            (Planes.point_meets A B C S turned f.t U (Planes.entry_positive A B C S turned near) q₁ q₂ q₃);
        least = scaled_least;
        most = scaled_most;
      };
      same = equal (rep_mul (rep_mul (own_pos S) (own f.t)) (own_pos U)) (rep_mul (own f.t) (own_pos (S * U))) (omega arith);
      least = λ D' t' o. on_least D' t' o;
    }

  kept_tells : p₁ → p₂ → p₃ → First near far a b c (kept f near far)
  unfolding kept
  kept_tells q₁ q₂ q₃ = go (lt_z f.t (near *ℤ f.w)) (lt_z (far *ℤ f.w) f.t) refl refl
    where
      go : (l m : Bool) → lt_z f.t (near *ℤ f.w) ≡ l → lt_z (far *ℤ f.w) f.t ≡ m
          → First near far a b c (cond l None (cond m None (Some f)))
      go true m l m' =
          let r = rep_lt (own f.t) (rep_mul (own near) (own_pos U)) (ap (λ (z : ℤ). lt_z f.t (near *ℤ z)) (sym w_is) ∙ l) in
          let s = rep_le (rep_mul (own near) (own_pos U)) (own f.t) (Planes.entry_from_near A B C S turned near) in
          absurd (omega (arith, r, s))
      go false true l m' = missed near far a b c (λ h D t o.
          clash m' (ap (λ (z : ℤ). lt_z (far *ℤ z) f.t) w_is ∙ on_far D t o))
      go false false l m' = met near far a b c f apart (entered q₁ q₂ q₃ m')

  -- what the code tests at the entry is what passing says
  height_is : (L F : ℤ) → determinant L F f.t f.w ≡ rise L F f.t U
  height_is L F = ap (λ (z : ℤ). determinant L F f.t z) w_is

  abbrev H₁ : ℤ
  H₁ = determinant (Planes.L₁ A B C S turned) (Planes.F₁ A B C S turned) f.t f.w

  abbrev H₂ : ℤ
  H₂ = determinant (Planes.L₂ A B C S turned) (Planes.F₂ A B C S turned) f.t f.w

  abbrev H₃ : ℤ
  H₃ = determinant (Planes.L₃ A B C S turned) (Planes.F₃ A B C S turned) f.t f.w

  along_f : First near far a b c (cond (tested (lt_z H₁ (pos 0)) (lt_z H₂ (pos 0)) (le_z (pos 0) H₃)) (kept f near far) None)
  along_f = go (lt_z H₁ (pos 0)) (lt_z H₂ (pos 0)) (le_z (pos 0) H₃) refl refl refl
    where
      back₁ : p₁ → lt_z H₁ (pos 0) ≡ false
      back₁ q = ap (λ (z : ℤ). lt_z z (pos 0)) (height_is (Planes.L₁ A B C S turned) (Planes.F₁ A B C S turned)) ∙ q

      back₂ : p₂ → lt_z H₂ (pos 0) ≡ false
      back₂ q = ap (λ (z : ℤ). lt_z z (pos 0)) (height_is (Planes.L₂ A B C S turned) (Planes.F₂ A B C S turned)) ∙ q

      back₃ : p₃ → lt_z H₃ (pos 0) ≡ false
      back₃ q = ap (λ (z : ℤ). lt_z z (pos 0)) (height_is (Planes.L₃ A B C S turned) (Planes.F₃ A B C S turned)) ∙ q

      to₁ : lt_z H₁ (pos 0) ≡ false → p₁
      to₁ q = ap (λ (z : ℤ). lt_z z (pos 0)) (sym (height_is (Planes.L₁ A B C S turned) (Planes.F₁ A B C S turned))) ∙ q

      to₂ : lt_z H₂ (pos 0) ≡ false → p₂
      to₂ q = ap (λ (z : ℤ). lt_z z (pos 0)) (sym (height_is (Planes.L₂ A B C S turned) (Planes.F₂ A B C S turned))) ∙ q

      to₃ : lt_z H₃ (pos 0) ≡ false → p₃
      to₃ q = ap (λ (z : ℤ). lt_z z (pos 0)) (sym (height_is (Planes.L₃ A B C S turned) (Planes.F₃ A B C S turned))) ∙ q

      go : (p q r : Bool) → lt_z H₁ (pos 0) ≡ p → lt_z H₂ (pos 0) ≡ q → le_z (pos 0) H₃ ≡ r
          → First near far a b c (cond (tested p q r) (kept f near far) None)
      go true q r p' q' r' = missed near far a b c (λ h D t o. clash p' (back₁ (on_passes₁ D t o)))
      go false true r p' q' r' = missed near far a b c (λ h D t o. clash q' (back₂ (on_passes₂ D t o)))
      go false false false p' q' r' = missed near far a b c (λ h D t o. clash (negative H₃ (back₃ (on_passes₃ D t o))) r')
      go false false true p' q' r' = kept_tells (to₁ p') (to₂ q') (to₃ (not_negative H₃ r'))

  pub along_tells : First near far a b c (along_plane A B C near far)
  unfolding along_plane inside side_of entry
  along_tells = along_f

-- ---- either way round
turned_round : (p q r s v w : ℤ) → determinant v w r s +ℤ determinant r s p q +ℤ determinant p q v w ≡ neg_ℤ
    (determinant r s v w +ℤ determinant v w p q +ℤ determinant p q r s)
turned_round p q r s v w = simp ring

area_swapped : (A B C : PlanePoint) → area A C B ≡ neg_ℤ (area A B C)
unfolding area
area_swapped A B C = turned_round A.u A.depth B.u B.depth C.u C.depth

zero_of : (x : ℤ) → lt_z (pos 0) x ≡ false → lt_z x (pos 0) ≡ false → x ≡ pos 0
zero_of x h g =
    equal (own x) (own_pos 0) (let m = rep_nlt (own_pos 0) (own x) h in let n = rep_nlt (own x) (own_pos 0) g in omega (arith, m, n))

negative_of : (x : ℤ) → lt_z x (pos 0) ≡ true → lt_z (pos 0) (neg_ℤ x) ≡ true
negative_of (pos n) h = absurd (omega (arith, rep_lt (own_pos n) (own_pos 0) h))
negative_of (negsuc n) h = lt-ltb 0 (suc n) (zero-lt-suc n)

module _ (near far : ℤ) (a b c : Projected) (A B C : PlanePoint)
    (drop : (D : ℕ) (t : ℤ) → Meets a b c D t → Planes.PlanePointMeets A B C D t)
    (lift : (area A B C ≡ pos 0 → ⊥) → (D : ℕ) (t : ℤ) → Planes.PlanePointMeets A B C D t → Meets a b c D t)
    (apart : (area A B C ≡ pos 0 → ⊥) → HasArea a b c)
    (other : Option Fraction) (otherwise : area A B C ≡ pos 0 → First near far a b c other) where
  not_zero : (x : ℤ) (n : ℕ) → x ≡ pos n → 0 < n → x ≡ pos 0 → ⊥
  not_zero x n e p z = let d : n ≡ 0 = ap pp (sym e ∙ z) in omega (arith, p, d)

  left : lt_z (pos 0) (area A B C) ≡ true → First near far a b c (along_plane A B C near far)
  left h =
      let e = positive_of (area A B C) h in
      let some = not_zero (area A B C) (pp (area A B C)) e.0 e.1 in
      along_tells near far a b c A B C (apart some) drop (lift some) (pp (area A B C)) e.0 e.1

  right : lt_z (area A B C) (pos 0) ≡ true → First near far a b c (along_plane A C B near far)
  right h =
      let q : lt_z (pos 0) (area A C B) ≡ true = ap (lt_z (pos 0)) (area_swapped A B C) ∙ negative_of (area A B C) h in
      let e = positive_of (area A C B) q in
      let some : area A B C ≡ pos 0 → ⊥ =
      λ z. true≢false (sym h ∙ ap (λ (x : ℤ). lt_z x (pos 0)) z) in
      along_tells near far a b c A C B (apart some) (λ D t m. Planes.swapped (drop D t m)) (λ D t m. lift some D t (Planes.swapped m))
      (pp (area A C B)) e.0 e.1

  pub plane_tells : First near far a b c (in_plane A B C near far other)
  unfolding in_plane
  plane_tells = go (lt_z (pos 0) (area A B C)) (lt_z (area A B C) (pos 0)) refl refl
    where
      go : (p q : Bool) → lt_z (pos 0) (area A B C) ≡ p → lt_z (area A B C) (pos 0) ≡ q
          → First near far a b c (cond p (along_plane A B C near far) (cond q (along_plane A C B near far) other))
      go true q p' q' = left p'
      go false true p' q' = right q'
      go false false p' q' = otherwise (zero_of (area A B C) p' q')

-- ---- corners on one line through the point where the line is seen: what is so across is so upwards
-- x' times the one mean is x times the other
level_of_lem : (i j k x y z x' y' z' : ℤ) → x *ℤ y' ≡ x' *ℤ y → z *ℤ x' ≡ z' *ℤ x
    → x *ℤ (i *ℤ x' +ℤ j *ℤ y' +ℤ k *ℤ z') ≡ x' *ℤ (i *ℤ x +ℤ j *ℤ y +ℤ k *ℤ z)
level_of_lem i j k x y z x' y' z' h g =
    apart i j k x x' y' z' ∙ (λ s. i *ℤ (x *ℤ x') +ℤ j *ℤ h s +ℤ k *ℤ sym g s) ∙ sym (joined i j k x' x y z)
  where
    apart : (i j k x x' y' z' : ℤ) → x *ℤ (i *ℤ x' +ℤ j *ℤ y' +ℤ k *ℤ z') ≡ i *ℤ (x *ℤ x') +ℤ j *ℤ (x *ℤ y') +ℤ k *ℤ (z' *ℤ x)
    apart i j k x x' y' z' = simp ring

    joined : (i j k x' x y z : ℤ) → x' *ℤ (i *ℤ x +ℤ j *ℤ y +ℤ k *ℤ z) ≡ i *ℤ (x *ℤ x') +ℤ j *ℤ (x' *ℤ y) +ℤ k *ℤ (z *ℤ x')
    joined i j k x' x y z = simp ring

level_with : (i j k : ℕ) (x y z x' y' z' : ℤ) → determinant x x' y y' ≡ pos 0 → determinant z z' x x' ≡ pos 0
    → x *ℤ mix i j k x' y' z' ≡ x' *ℤ mix i j k x y z
level_with i j k x y z x' y' z' h g =
    level_of_lem (pos i) (pos j) (pos k) x y z x' y' z' (equal_of_minus (x *ℤ y') (x' *ℤ y) h) (equal_of_minus (z *ℤ x') (z' *ℤ x) g)

some_product : (n m : ℕ) → suc n * suc m ≡ 0 → ⊥
some_product n m e = let p = mul-pos (zero-lt-suc n) (zero-lt-suc m) in omega (arith, e, p)

factor_zero : (x m : ℤ) → x *ℤ m ≡ pos 0 → (m ≡ pos 0) ⊎ (x ≡ pos 0)
factor_zero (pos zero) m h = inr refl
factor_zero (pos (suc n)) (pos zero) h = inl refl
factor_zero (pos (suc n)) (pos (suc m)) h = absurd (some_product n m (ap nat_abs h))
factor_zero (pos (suc n)) (negsuc m) h = absurd (some_product n m (sym (mul_size (pos (suc n)) (negsuc m)) ∙ ap nat_abs h))
factor_zero (negsuc n) (pos zero) h = inl refl
factor_zero (negsuc n) (pos (suc m)) h = absurd (some_product n m (sym (mul_size (negsuc n) (pos (suc m))) ∙ ap nat_abs h))
factor_zero (negsuc n) (negsuc m) h = absurd (some_product n m (ap nat_abs h))

times_nothing : (x m : ℤ) → m ≡ pos 0 → x *ℤ m ≡ pos 0
times_nothing x m h = ap (λ (z : ℤ). x *ℤ z) h ∙ *ℤ-zero x

-- the same from the other corners
again : (i j k : ℕ) (x y z : ℤ) → mix i j k x y z ≡ mix j k i y z x
again i j k x y z = equal (mix_parts i j k x y z) (mix_parts j k i y z x) (omega arith)

level_with₂ : (i j k : ℕ) (x y z x' y' z' : ℤ) → determinant y y' z z' ≡ pos 0 → determinant x x' y y' ≡ pos 0
    → y *ℤ mix i j k x' y' z' ≡ y' *ℤ mix i j k x y z
level_with₂ i j k x y z x' y' z' α γ =
    ap (λ (n : ℤ). y *ℤ n) (again i j k x' y' z') ∙ level_with j k i y z x y' z' x' α γ
    ∙ ap (λ (n : ℤ). y' *ℤ n) (sym (again i j k x y z))

level_with₃ : (i j k : ℕ) (x y z x' y' z' : ℤ) → determinant z z' x x' ≡ pos 0 → determinant y y' z z' ≡ pos 0
    → z *ℤ mix i j k x' y' z' ≡ z' *ℤ mix i j k x y z
level_with₃ i j k x y z x' y' z' β α =
    ap (λ (n : ℤ). z *ℤ n) (again i j k x' y' z' ∙ again j k i y' z' x') ∙ level_with k i j z x y z' x' y' β α
    ∙ ap (λ (n : ℤ). z' *ℤ n) (sym (again i j k x y z ∙ again j k i y z x))

one_of : (m x y z : ℤ) → (m ≡ pos 0) ⊎ (x ≡ pos 0) → (m ≡ pos 0) ⊎ (y ≡ pos 0) → (m ≡ pos 0) ⊎ (z ≡ pos 0)
    → (x ≡ pos 0 → y ≡ pos 0 → z ≡ pos 0 → ⊥) → m ≡ pos 0
one_of m x y z (inl h) q r some = h
one_of m x y z (inr p) (inl h) r some = h
one_of m x y z (inr p) (inr q) (inl h) some = h
one_of m x y z (inr p) (inr q) (inr r) some = absurd (some p q r)

-- with x, y and z not all 0, as they are not where the corners turn in the plane of x and the depth
level_mix : (i j k : ℕ) (x y z x' y' z' : ℤ) → determinant y y' z z' ≡ pos 0 → determinant z z' x x' ≡ pos 0 → determinant x x' y y' ≡ pos 0
    → mix i j k x y z ≡ pos 0 → (x ≡ pos 0 → y ≡ pos 0 → z ≡ pos 0 → ⊥) → mix i j k x' y' z' ≡ pos 0
level_mix i j k x y z x' y' z' α β γ m some =
    one_of (mix i j k x' y' z') x y z
    (factor_zero x (mix i j k x' y' z') (level_with i j k x y z x' y' z' γ β ∙ times_nothing x' (mix i j k x y z) m))
    (factor_zero y (mix i j k x' y' z') (level_with₂ i j k x y z x' y' z' α γ ∙ times_nothing y' (mix i j k x y z) m))
    (factor_zero z (mix i j k x' y' z') (level_with₃ i j k x y z x' y' z' β α ∙ times_nothing z' (mix i j k x y z) m))
    some

-- corners that are not apart in the plane do not turn there
determinant_level : (u d v e : ℤ) → u ≡ pos 0 → v ≡ pos 0 → determinant u d v e ≡ pos 0
determinant_level u d v e m n =
    (λ s. determinant (m s) d (n s) e) ∙ ap (λ (z : ℤ). z -ℤ d *ℤ pos 0) (zero-*ℤ e) ∙ ap (λ (z : ℤ). pos 0 -ℤ z) (*ℤ-zero d)

area_level : (A B C : PlanePoint) → A.u ≡ pos 0 → B.u ≡ pos 0 → C.u ≡ pos 0 → area A B C ≡ pos 0
unfolding area
area_level A B C p q r =
    λ s. determinant_level B.u B.depth C.u C.depth q r s +ℤ determinant_level C.u C.depth A.u A.depth r p s
    +ℤ determinant_level A.u A.depth B.u B.depth p q s

-- ---- both planes
module _ (near far : ℤ) (a b c : Projected) (α : seen_determinant b c ≡ pos 0) (β : seen_determinant c a ≡ pos 0)
    (γ : seen_determinant a b ≡ pos 0) where
  sum_zero : seen_determinant b c +ℤ seen_determinant c a +ℤ seen_determinant a b ≡ pos 0
  sum_zero = λ s. α s +ℤ β s +ℤ γ s

  turned_about : (p q r s : ℤ) → determinant p q r s ≡ pos 0 → determinant q p s r ≡ pos 0
  turned_about p q r s h = about p q r s ∙ ap neg_ℤ h
    where
      about : (p q r s : ℤ) → determinant q p s r ≡ neg_ℤ (determinant p q r s)
      about p q r s = simp ring

  across_tells : (other : Option Fraction)
      → (area (across_point a) (across_point b) (across_point c) ≡ pos 0 → First near far a b c other)
      → First near far a b c (in_plane (across_point a) (across_point b) (across_point c) near far other)
  across_tells other =
      plane_tells near far a b c (across_point a) (across_point b) (across_point c)
      (λ D t m. record { i = m.i; j = m.j; k = m.k; total = m.total; u = m.across; depth = m.depth })
      (λ some D t m. record {
        i = m.i;
        j = m.j;
        k = m.k;
        total = m.total;
        across = m.u;
        up = level_mix m.i m.j m.k a.across b.across c.across a.up b.up c.up α β γ m.u
            (λ p q r. some (area_level (across_point a) (across_point b) (across_point c) p q r));
        depth = m.depth;
      })
      (λ some w s u. some s) other

  upright_tells : area (across_point a) (across_point b) (across_point c) ≡ pos 0
      → First near far a b c (in_plane (up_point a) (up_point b) (up_point c) near far None)
  upright_tells flat =
      plane_tells near far a b c (up_point a) (up_point b) (up_point c)
      (λ D t m. record { i = m.i; j = m.j; k = m.k; total = m.total; u = m.up; depth = m.depth })
      (λ some D t m. record {
        i = m.i;
        j = m.j;
        k = m.k;
        total = m.total;
        across =
            level_mix m.i m.j m.k a.up b.up c.up a.across b.across c.across
            (turned_about b.across b.up c.across c.up α) (turned_about c.across c.up a.across a.up β)
            (turned_about a.across a.up b.across b.up γ) m.u
            (λ p q r. some (area_level (up_point a) (up_point b) (up_point c) p q r));
        up = m.u;
        depth = m.depth;
      })
      (λ some w s u. some u) None (λ z. missed near far a b c (λ apart D t o. apart sum_zero flat z))

  pub coplanar_tells : First near far a b c (coplanar a b c near far)
  unfolding coplanar
  coplanar_tells = across_tells (in_plane (up_point a) (up_point b) (up_point c) near far None) upright_tells
