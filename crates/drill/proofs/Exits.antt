-- Cheap tests that tell a triangle clear: all its corners before near, or past far, or on the far side of a plane along the axis that the
-- drill does not reach. Assumes nothing.
use mathlib.Core.Path.{◌≡◌, refl, sym, ap, ◌∙◌}
use mathlib.Core.Logic.{inl, inr}
use mathlib.Core.Bool.{Bool, true, false}
use Prim.Native.Nat.{ℕ, suc, ◌≤◌}
use native.Mathlib.Omega.{arith}
use lib.IntN.{ℤ, pos, neg_ℤ, ◌+ℤ◌, ◌-ℤ◌, ◌*ℤ◌}
use lib.Signed.{lt_z, le_z}
use borrow.Author.Tests.{le-leb}
use Rattle.wide_integers.proofs.Polynomials.{own, own_pos, own_neg, rep_sub, sum_comm}
use Rattle.wide_integers.proofs.Order.{rep_lt, rep_same}
use Rattle.exact_depth.specs.declared.projection.Point.{Point}
use Rattle.exact_triangle.specs.Line.{Line}
use Rattle.exact_triangle.specs.Shear.{from}
use Rattle.drill.specs.Drill.{dot, square}
use Rattle.drill.specs.Decision.{FromAxis, from_axis, cross, touched_by, touched}
use Rattle.wide_integers.proofs.Signs.{Nonneg, Positive, Negative, sign_of, natural, nonneg_as, nonneg_sum, nonneg_times, positive_nonneg}
use Rattle.wide_integers.proofs.Signs.{positive_as, positive_sum, positive_times, positive_or_zero, no_positive_zero}
use Rattle.wide_integers.proofs.Signs.{minus_of_le, negative_of_lt}
use Rattle.drill.proofs.Identities as Identities
use Rattle.drill.proofs.Weighing.{Weights, total, sideways, upward, inward, In}
use Rattle.drill.proofs.Feet.{reach}
use Rattle.drill.proofs.Drilling.{square_of}
use Rattle.drill.proofs.Deciding.{gives}

-- ---- a mean of numbers below 0 is below 0
one_less : {f : ℤ} → Negative f → Nonneg (neg_ℤ f -ℤ pos 1)
one_less n = nonneg_as (λ s. neg_ℤ (sym n.is s) -ℤ pos 1) (small n.less)
  where
    small : (k : ℕ) → Nonneg (pos (suc k) -ℤ pos 1)
    small k = minus_of_le (pos 1) (pos (suc k)) (le-leb 1 (suc k) (omega arith))

mean_below : (i j k f g h : ℤ) → Nonneg i → Nonneg j → Nonneg k → Positive (i +ℤ j +ℤ k) → Negative f → Negative g → Negative h
    → Nonneg (i *ℤ f +ℤ j *ℤ g +ℤ k *ℤ h) → ⊥
mean_below i j k f g h ni nj nk p nf ng nh q =
    let s : Positive (neg_ℤ (i *ℤ f +ℤ j *ℤ g +ℤ k *ℤ h)) =
    positive_as (sym (Identities.all_negative i j k f g h))
    (positive_sum p (nonneg_sum (nonneg_sum (nonneg_times ni (one_less nf)) (nonneg_times nj (one_less ng)))
    (nonneg_times nk (one_less nh)))) in
    no_positive_zero (positive_sum s q) (Identities.cancels (i *ℤ f +ℤ j *ℤ g +ℤ k *ℤ h))

sum_positive : {x y : ℤ} → Nonneg x → Positive y → Positive (x +ℤ y)
sum_positive {x} {y} p q = positive_as (sum_comm y x) (positive_sum q p)

lt_positive : (x y : ℤ) → lt_z x y ≡ true → Positive (y -ℤ x)
lt_positive x y h = elim (sign_of (y -ℤ x)) [
  | inl n ↦
      let e = rep_same (rep_sub (own y) (own x)) (own_neg n.less) n.is in
      let m = rep_lt (own x) (own y) h in
      absurd (omega (arith, e, m))
  | inr q ↦ elim (positive_or_zero q) [
    | inl p ↦ p
    | inr z ↦
        let e = rep_same (rep_sub (own y) (own x)) (own_pos 0) z in
        let m = rep_lt (own x) (own y) h in
        absurd (omega (arith, e, m))
  ]
]

module _ (l : Line) (ρ : ℕ) (a b c : Point) (ends : l.near ≤ l.far) where
  abbrev A : FromAxis
  A = from_axis l (from l.origin a)

  abbrev B : FromAxis
  B = from_axis l (from l.origin b)

  abbrev C : FromAxis
  C = from_axis l (from l.origin c)

  abbrev R : ℤ
  R = reach ρ l.direction

  -- it is clear where no point is in the drill
  clear_of : ((w : Weights) → In R A B C w → ⊥) → touched l ρ a b c ≡ false
  unfolding touched
  clear_of none = go (touched_by l ρ A B C) refl
    where
      go : (t : Bool) → touched_by l ρ A B C ≡ t → t ≡ false
      go false e = refl
      go true e =
          let k = gives l ρ (from l.origin a) (from l.origin b) (from l.origin c) ends e in
          absurd (none k.0 k.1)

  pub before_near : lt_z A.low (pos 0) ≡ true → lt_z B.low (pos 0) ≡ true → lt_z C.low (pos 0) ≡ true → touched l ρ a b c ≡ false
  before_near p q r =
      clear_of (λ w g. mean_below w.i w.j w.k A.low B.low C.low g.first g.second g.third g.size
      (negative_of_lt A.low p) (negative_of_lt B.low q) (negative_of_lt C.low r) g.low)

  pub past_far : lt_z A.high (pos 0) ≡ true → lt_z B.high (pos 0) ≡ true → lt_z C.high (pos 0) ≡ true → touched l ρ a b c ≡ false
  past_far p q r =
      clear_of (λ w g. mean_below w.i w.j w.k A.high B.high C.high g.first g.second g.third g.size
      (negative_of_lt A.high p) (negative_of_lt B.high q) (negative_of_lt C.high r) g.high)

  -- ---- each corner's moment is at least m along u, and m² is above R |u|²: the drill reaches to the root of R |u|²
  module _ (u : Point) (m : ℕ) (p : le_z (pos m) (dot A.moment u) ≡ true) (q : le_z (pos m) (dot B.moment u) ≡ true)
      (r : le_z (pos m) (dot C.moment u) ≡ true) (far : lt_z (R *ℤ square u) (pos m *ℤ pos m) ≡ true) where
    module _ (w : Weights) (g : In R A B C w) where
      abbrev D : ℤ
      D = total w

      abbrev Y : ℤ
      Y = sideways A B C w *ℤ u.x +ℤ upward A B C w *ℤ u.y +ℤ inward A B C w *ℤ u.z

      reach_is : Y ≡ w.i *ℤ dot A.moment u +ℤ w.j *ℤ dot B.moment u +ℤ w.k *ℤ dot C.moment u
      reach_is = Identities.shares w.i w.j w.k A.moment.x A.moment.y A.moment.z B.moment.x B.moment.y
          B.moment.z
          C.moment.x C.moment.y C.moment.z u.x u.y u.z

      more : Nonneg (Y -ℤ pos m *ℤ D)
      more =
          nonneg_as
          (sym (ap (λ (z : ℤ). z -ℤ pos m *ℤ D) reach_is
          ∙ Identities.beyond w.i w.j w.k (dot A.moment u) (dot B.moment u) (dot C.moment u) (pos m)))
          (nonneg_sum (nonneg_sum (nonneg_times g.first (minus_of_le (pos m) (dot A.moment u) p))
          (nonneg_times g.second (minus_of_le (pos m) (dot B.moment u) q)))
          (nonneg_times g.third (minus_of_le (pos m) (dot C.moment u) r)))

      along : Nonneg (Y +ℤ pos m *ℤ D)
      along =
          let d = nonneg_times (natural m) (positive_nonneg g.size) in
          nonneg_as (Identities.twice_more Y (pos m *ℤ D)) (nonneg_sum more (nonneg_sum d d))

      none : ⊥
      none =
          no_positive_zero
          (sum_positive (nonneg_times (square_of u) g.near)
          (positive_sum (positive_times (positive_times g.size g.size) (lt_positive (R *ℤ square u) (pos m *ℤ pos m) far))
          (nonneg_sum (nonneg_times more along)
          (square_of (cross (record { x = sideways A B C w; y = upward A B C w; z = inward A B C w }) u)))))
          (Identities.separate R D (pos m) (sideways A B C w) (upward A B C w) (inward A B C w) u.x u.y u.z)

    pub beside : touched l ρ a b c ≡ false
    beside = clear_of none
