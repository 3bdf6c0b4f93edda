-- In a plane that the line lies in: which depths are in the triangle, and which is the first of them. Assumes nothing.
use mathlib.Core.Path.{◌≡◌, refl, sym, ap, ◌∙◌}
use mathlib.Core.Bool.{true, false}
use Prim.Native.Nat.{ℕ, ◌+◌, ◌*◌, ◌<◌}
use native.Mathlib.Nat.{mul_comm, zero-lt-suc, eq_of_mul-eq-mul_right}
use native.Mathlib.Omega.{arith}
use lib.IntN.{ℤ, pos, ◌+ℤ◌, ◌-ℤ◌, ◌*ℤ◌, zero-*ℤ, +ℤ_idr, +ℤ_invr}
use lib.Signed.{lt_z, le_z}
use Rattle.exact_depth.specs.declared.projection.Fraction.{Fraction}
use Rattle.exact_depth.specs.declared.plane.PlanePoint.{PlanePoint}
use Rattle.wide_integers.specs.Determinant.{determinant}
use Rattle.exact_depth.specs.FirstPoint.{entering, area}
use Rattle.exact_depth.specs.Meeting.{mix}
use Rattle.wide_integers.proofs.Integers.{pp, np}
use Rattle.wide_integers.proofs.Polynomials.{own, own_pos, rep_add, rep_mul, rep_sub, equal, equal_of_minus, ring, times_assoc}
use Rattle.wide_integers.proofs.Order.{rep_le, le_rep, rep_same}
use Rattle.exact_depth.proofs.Weights.{Weights, own_weights, mix_parts}
use Rattle.exact_depth.proofs.Firsts.{whole_of, nonneg_of}
use Rattle.exact_depth.proofs.Entering.{rise, Passes, Put, put, for_good, before_trans}

-- the line's point at the depth t / D is a mean of the corners
pub record PlanePointMeets (a b c : PlanePoint) (D : ℕ) (t : ℤ) : Type 0 where
  pub i : ℕ
  pub j : ℕ
  pub k : ℕ
  pub total : i + j + k ≡ D
  pub u : mix i j k a.u b.u c.u ≡ pos 0
  pub depth : mix i j k a.depth b.depth c.depth ≡ t

-- the other way round
pub swapped : {a b c : PlanePoint} {D : ℕ} {t : ℤ} → PlanePointMeets a b c D t → PlanePointMeets a c b D t
swapped {a} {b} {c} {D} {t} m = record {
  i = m.i;
  j = m.k;
  k = m.j;
  total = (let e = m.total in omega (arith, e));
  u = turned m.i m.j m.k a.u b.u c.u ∙ m.u;
  depth = turned m.i m.j m.k a.depth b.depth c.depth ∙ m.depth;
}
  where
    turned : (i j k : ℕ) (x y z : ℤ) → mix i k j x z y ≡ mix i j k x y z
    turned i j k x y z = equal (mix_parts i k j x z y) (mix_parts i j k x y z) (omega arith)

-- ---- heights
-- seen from the depth t / W, times W, a corner lies at W d - t
abbrev from : ℤ → ℕ → ℤ → ℤ
from t W d = pos W *ℤ d -ℤ t

rise_determinant : (t : ℤ) (W : ℕ) (u d v e : ℤ) → determinant u (from t W d) v (from t W e) ≡ rise (determinant u d v e) (u -ℤ v) t W
rise_determinant t W u d v e = over t (pos W) u d v e
  where
    over : (t W u d v e : ℤ) → determinant u (W *ℤ d -ℤ t) v (W *ℤ e -ℤ t) ≡ determinant (determinant u d v e) (u -ℤ v) t W
    over t W u d v e = simp ring

three_rises : (K L M F G H t : ℤ) (W : ℕ) → F +ℤ G +ℤ H ≡ pos 0
    → rise K F t W +ℤ rise L G t W +ℤ rise M H t W ≡ (K +ℤ L +ℤ M) *ℤ pos W
three_rises K L M F G H t W h =
    over K L M F G H t (pos W) ∙ ap (λ (z : ℤ). (K +ℤ L +ℤ M) *ℤ pos W -ℤ z *ℤ t) h
    ∙ ap (λ (z : ℤ). (K +ℤ L +ℤ M) *ℤ pos W -ℤ z) (zero-*ℤ t) ∙ +ℤ_idr ((K +ℤ L +ℤ M) *ℤ pos W)
  where
    over : (K L M F G H t W : ℤ) → determinant K F t W +ℤ determinant L G t W +ℤ determinant M H t W ≡ (K +ℤ L +ℤ M) *ℤ W -ℤ (F +ℤ G +ℤ H)
        *ℤ t
    over K L M F G H t W = simp ring

falls : (x y z : ℤ) → (y -ℤ z) +ℤ (z -ℤ x) +ℤ (x -ℤ y) ≡ pos 0
falls x y z =
    equal (rep_add (rep_add (rep_sub (own y) (own z)) (rep_sub (own z) (own x))) (rep_sub (own x) (own y))) (own_pos 0) (omega arith)

-- the mean of what is seen from a depth
shifted : (i j k D t x y z : ℤ)
    → i *ℤ (D *ℤ x -ℤ t) +ℤ j *ℤ (D *ℤ y -ℤ t) +ℤ k *ℤ (D *ℤ z -ℤ t) ≡ D *ℤ (i *ℤ x +ℤ j *ℤ y +ℤ k *ℤ z) -ℤ (i +ℤ j +ℤ k) *ℤ t
shifted i j k D t x y z = simp ring

times_cancel : (W : ℕ) (x y : ℤ) → 0 < W → pos W *ℤ x ≡ pos W *ℤ y → x ≡ y
times_cancel W x y p h =
    let e = rep_same (rep_mul (own_pos W) (own x)) (rep_mul (own_pos W) (own y)) h in
    let g : (pp x + np y) * W ≡ (pp y + np x) * W = omega (arith, e) in
    equal (own x) (own y) (eq_of_mul-eq-mul_right W p (pp x + np y) (pp y + np x) g)

module _ (a b c : PlanePoint) (S : ℕ) (turned : area a b c ≡ pos S) where
  -- levels and falls of the three sides
  abbrev pub L₁ : ℤ
  L₁ = determinant b.u b.depth c.u c.depth

  abbrev pub L₂ : ℤ
  L₂ = determinant c.u c.depth a.u a.depth

  abbrev pub L₃ : ℤ
  L₃ = determinant a.u a.depth b.u b.depth

  abbrev pub F₁ : ℤ
  F₁ = b.u -ℤ c.u

  abbrev pub F₂ : ℤ
  F₂ = c.u -ℤ a.u

  abbrev pub F₃ : ℤ
  F₃ = a.u -ℤ b.u

  levels : L₁ +ℤ L₂ +ℤ L₃ ≡ pos S
  unfolding area
  levels = turned

  module _ (t : ℤ) (W : ℕ) where
    abbrev h₁ : ℤ
    h₁ = determinant b.u (from t W b.depth) c.u (from t W c.depth)

    abbrev h₂ : ℤ
    h₂ = determinant c.u (from t W c.depth) a.u (from t W a.depth)

    abbrev h₃ : ℤ
    h₃ = determinant a.u (from t W a.depth) b.u (from t W b.depth)

    first_rise : h₁ ≡ rise L₁ F₁ t W
    first_rise = rise_determinant t W b.u b.depth c.u c.depth

    second_rise : h₂ ≡ rise L₂ F₂ t W
    second_rise = rise_determinant t W c.u c.depth a.u a.depth

    third_rise : h₃ ≡ rise L₃ F₃ t W
    third_rise = rise_determinant t W a.u a.depth b.u b.depth

    heights : h₁ +ℤ h₂ +ℤ h₃ ≡ pos (S * W)
    heights =
        (λ s. first_rise s +ℤ second_rise s +ℤ third_rise s)
        ∙ three_rises L₁ L₂ L₃ F₁ F₂ F₃ t W (falls a.u b.u c.u)
        ∙ ap (λ (z : ℤ). z *ℤ pos W) levels

    seen : Weights a.u (from t W a.depth) b.u (from t W b.depth) c.u (from t W c.depth) h₁ h₂ h₃
    seen = own_weights a.u (from t W a.depth) b.u (from t W b.depth) c.u (from t W c.depth)

  -- ---- a depth in the triangle passes every side
  module _ (D : ℕ) (t : ℤ) (p : 0 < D) (m : PlanePointMeets a b c D t) where
    abbrev i : ℕ
    i = m.i

    abbrev j : ℕ
    j = m.j

    abbrev k : ℕ
    k = m.k

    balanced : mix i j k (from t D a.depth) (from t D b.depth) (from t D c.depth) ≡ pos 0
    balanced =
        shifted (pos i) (pos j) (pos k) (pos D) t a.depth b.depth c.depth
        ∙ ap (λ (z : ℤ). pos D *ℤ z -ℤ pos (i + j + k) *ℤ t) m.depth
        ∙ ap (λ (n : ℕ). pos D *ℤ t -ℤ pos n *ℤ t) m.total ∙ +ℤ_invr (pos D *ℤ t)

    passes_by : (h r : ℤ) (n : ℕ) → h ≡ r → pos (i + j + k) *ℤ h ≡ pos n *ℤ (h₁ t D +ℤ h₂ t D +ℤ h₃ t D) → lt_z r (pos 0) ≡ false
    passes_by h r n e q =
        nonneg_of D (n * (S * D)) r p
        (ap (λ (z : ℕ). pos z *ℤ r) (sym m.total) ∙ ap (λ (z : ℤ). pos (i + j + k) *ℤ z) (sym e) ∙ q
        ∙ ap (λ (z : ℤ). pos n *ℤ z) (heights t D))

    pub passes₁ : Passes L₁ F₁ t D
    passes₁ = passes_by (h₁ t D) (rise L₁ F₁ t D) i (first_rise t D) ((seen t D).first i j k m.u balanced)

    pub passes₂ : Passes L₂ F₂ t D
    passes₂ = passes_by (h₂ t D) (rise L₂ F₂ t D) j (second_rise t D) ((seen t D).second i j k m.u balanced)

    pub passes₃ : Passes L₃ F₃ t D
    passes₃ = passes_by (h₃ t D) (rise L₃ F₃ t D) k (third_rise t D) ((seen t D).third i j k m.u balanced)

  -- ---- a depth that passes every side is in the triangle
  module _ (t : ℤ) (W : ℕ) (w : 0 < W) (p : Passes L₁ F₁ t W) (q : Passes L₂ F₂ t W) (r : Passes L₃ F₃ t W) where
    not_below : (h x : ℤ) → h ≡ x → lt_z x (pos 0) ≡ false → h ≡ pos (pp h)
    not_below h x e l = whole_of h (ap (λ (z : ℤ). lt_z z (pos 0)) e ∙ l)

    weighted : (x y z : ℤ) → mix (pp (h₁ t W)) (pp (h₂ t W)) (pp (h₃ t W)) x y z ≡ h₁ t W *ℤ x +ℤ h₂ t W *ℤ y +ℤ h₃ t W *ℤ z
    weighted x y z =
        λ s. sym (not_below (h₁ t W) (rise L₁ F₁ t W) (first_rise t W) p) s *ℤ x
        +ℤ sym (not_below (h₂ t W) (rise L₂ F₂ t W) (second_rise t W) q) s *ℤ y
        +ℤ sym (not_below (h₃ t W) (rise L₃ F₃ t W) (third_rise t W) r) s *ℤ z

    all : pp (h₁ t W) + pp (h₂ t W) + pp (h₃ t W) ≡ S * W
    all = ap pp (
        (λ s. sym (not_below (h₁ t W) (rise L₁ F₁ t W) (first_rise t W) p) s
        +ℤ sym (not_below (h₂ t W) (rise L₂ F₂ t W) (second_rise t W) q) s
        +ℤ sym (not_below (h₃ t W) (rise L₃ F₃ t W) (third_rise t W) r) s)
        ∙ heights t W)

    -- W (h₁ x + h₂ y + h₃ z) = t (h₁ + h₂ + h₃)
    own_depth : (i j k : ℕ) (x y z : ℤ) → mix i j k (from t W x) (from t W y) (from t W z) ≡ pos 0 → i + j + k ≡ S * W
        → mix i j k x y z ≡ pos S *ℤ t
    own_depth i j k x y z h n =
        times_cancel W (mix i j k x y z) (pos S *ℤ t) w
        (equal_of_minus (pos W *ℤ mix i j k x y z) (pos (i + j + k) *ℤ t)
        (sym (shifted (pos i) (pos j) (pos k) (pos W) t x y z) ∙ h)
        ∙ ap (λ (q : ℕ). pos q *ℤ t) (n ∙ mul_comm S W) ∙ times_assoc (pos W) (pos S) t)

    pub point_meets : PlanePointMeets a b c (S * W) (pos S *ℤ t)
    point_meets = record {
      i = pp (h₁ t W);
      j = pp (h₂ t W);
      k = pp (h₃ t W);
      total = all;
      u = weighted a.u b.u c.u ∙ (seen t W).across;
      depth =
          own_depth (pp (h₁ t W)) (pp (h₂ t W)) (pp (h₃ t W)) a.depth b.depth c.depth
          (weighted (from t W a.depth) (from t W b.depth) (from t W c.depth) ∙ (seen t W).up) all;
    }

  -- ---- the entry
  module _ (near : ℤ) where
    abbrev pub f₀ : Fraction
    f₀ = record { t = near; w = pos 1 }

    abbrev pub f₁ : Fraction
    f₁ = entering f₀ (record { level = L₁; fall = F₁ })

    abbrev pub f₂ : Fraction
    f₂ = entering f₁ (record { level = L₂; fall = F₂ })

    abbrev pub f₃ : Fraction
    f₃ = entering f₂ (record { level = L₃; fall = F₃ })

    pub put₁ : Put L₁ F₁ f₀ 1 f₁
    put₁ = put L₁ F₁ f₀ 1 (zero-lt-suc 0) refl

    pub put₂ : Put L₂ F₂ f₁ put₁.U f₂
    put₂ = put L₂ F₂ f₁ put₁.U put₁.positive put₁.denominator

    pub put₃ : Put L₃ F₃ f₂ put₂.U f₃
    put₃ = put L₃ F₃ f₂ put₂.U put₂.positive put₂.denominator

    abbrev pub U : ℕ
    U = put₃.U

    pub entry_positive : 0 < U
    entry_positive = put₃.positive

    pub entry_denominator : f₃.w ≡ pos U
    entry_denominator = put₃.denominator

    from_second : le_z (f₁.t *ℤ pos U) (f₃.t *ℤ pos put₁.U) ≡ true
    from_second = before_trans f₁ f₂ f₃ put₁.U put₂.U U put₂.positive put₂.grows put₃.grows

    -- near is not after it
    pub entry_from_near : le_z (near *ℤ pos U) f₃.t ≡ true
    entry_from_near =
        let l = before_trans f₀ f₁ f₃ 1 put₁.U U put₁.positive put₁.grows from_second in
        let m = rep_le (rep_mul (own near) (own_pos U)) (rep_mul (own f₃.t) (own_pos 1)) l in
        le_rep (rep_mul (own near) (own_pos U)) (own f₃.t) (omega (arith, m))

    -- no depth in the triangle from near on is before it, and where there is one it passes every side
    module _ (D : ℕ) (τ : ℤ) (p : 0 < D) (l : le_z (near *ℤ pos D) τ ≡ true) (m : PlanePointMeets a b c D τ) where
      start : le_z (near *ℤ pos D) (τ *ℤ pos 1) ≡ true
      start =
          let q = rep_le (rep_mul (own near) (own_pos D)) (own τ) l in
          le_rep (rep_mul (own near) (own_pos D)) (rep_mul (own τ) (own_pos 1)) (omega (arith, q))

      pub entry_least : le_z (f₃.t *ℤ pos D) (τ *ℤ pos U) ≡ true
      entry_least =
          put₃.least D τ (put₂.least D τ (put₁.least D τ start (passes₁ D τ p m)) (passes₂ D τ p m)) (passes₃ D τ p m)

      pub entry_passes₁ : Passes L₁ F₁ f₃.t U
      entry_passes₁ =
          for_good L₁ F₁ f₁ f₃ put₁.U U D τ put₁.positive p put₁.passes from_second entry_least (passes₁ D τ p m)

      pub entry_passes₂ : Passes L₂ F₂ f₃.t U
      entry_passes₂ =
          for_good L₂ F₂ f₂ f₃ put₂.U U D τ put₂.positive p put₂.passes put₃.grows entry_least (passes₂ D τ p m)

      pub entry_passes₃ : Passes L₃ F₃ f₃.t U
      entry_passes₃ =
          for_good L₃ F₃ f₃ f₃ U U D τ put₃.positive p put₃.passes (le_self (f₃.t *ℤ pos U)) entry_least (passes₃ D τ p m)
        where
          le_self : (x : ℤ) → le_z x x ≡ true
          le_self x = le_rep (own x) (own x) (omega arith)
