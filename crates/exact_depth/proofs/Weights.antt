-- The weights of a point inside a triangle are as its three determinants. Assumes nothing.
use mathlib.Core.Path.{◌≡◌, sym, ap, ◌∙◌}
use Prim.Native.Nat.{ℕ, ◌+◌, ◌*◌}
use native.Mathlib.Omega.{arith}
use lib.IntN.{ℤ, pos, neg_ℤ, ◌+ℤ◌, ◌*ℤ◌, *ℤ-zero}
use Rattle.wide_integers.specs.Determinant.{determinant}
use Rattle.exact_depth.specs.Meeting.{mix}
use Rattle.wide_integers.proofs.Integers.{pp, np}
use Rattle.wide_integers.proofs.Polynomials.{Rep, own, own_pos, rep_add, rep_mul, ring, times_assoc, times_left_comm, times_plus}
use Rattle.wide_integers.proofs.Polynomials.{plus_times, times_neg, neg_times, sum_comm, sum_assoc, neg_sum}
use Rattle.wide_integers.proofs.Polynomials.{diff_minus, diff_add, diff_left, diff_right, diff_equal, diff_zero, cancel}

-- ---- sums with weights
pub mix_parts : (i j k : ℕ) (x y z : ℤ)
    → Rep (mix i j k x y z) (i * pp x + j * pp y + k * pp z) (i * np x + j * np y + k * np z)
mix_parts i j k x y z =
    let r = rep_add (rep_add (rep_mul (own_pos i) (own x)) (rep_mul (own_pos j) (own y))) (rep_mul (own_pos k) (own z)) in
    record { is = omega (arith, r.is) }

rotate : (x y z : ℤ) → z +ℤ x +ℤ y ≡ x +ℤ y +ℤ z
rotate x y z = sum_assoc z x y ∙ sum_comm z (x +ℤ y)

pub mix_turned : (i j k : ℕ) (x y z v : ℤ) → mix i j k x y z ≡ v → mix k i j z x y ≡ v
mix_turned i j k x y z v h = rotate (pos i *ℤ x) (pos j *ℤ y) (pos k *ℤ z) ∙ h

-- ---- the corners (p, q), (r, s) and (v, w), and the origin their mean with the weights i, j and k
-- i (C × A) = j (B × C)
swap_of : (i j k p q r s v w : ℤ) → i *ℤ p +ℤ j *ℤ r +ℤ k *ℤ v ≡ pos 0 → i *ℤ q +ℤ j *ℤ s +ℤ k *ℤ w ≡ pos 0
    → i *ℤ determinant v w p q ≡ j *ℤ determinant r s v w
swap_of i j k p q r s v w h g =
    diff_equal (diff_left i (diff_minus (v *ℤ q) (w *ℤ p))) (diff_left j (diff_minus (r *ℤ w) (s *ℤ v)))
    (cancel (k *ℤ (v *ℤ w)) (i *ℤ (v *ℤ q) +ℤ j *ℤ (s *ℤ v)) (j *ℤ (r *ℤ w) +ℤ i *ℤ (w *ℤ p))
    (gathered i j k q s v w
    ∙ ap (λ (z : ℤ). v *ℤ z) g ∙ *ℤ-zero v ∙ sym (ap (λ (z : ℤ). w *ℤ z) h ∙ *ℤ-zero w)
    ∙ sym (spread_out i j k p r v w)))
  where
    gathered : (i j k q s v w : ℤ) → i *ℤ (v *ℤ q) +ℤ j *ℤ (s *ℤ v) +ℤ k *ℤ (v *ℤ w) ≡ v *ℤ (i *ℤ q +ℤ j *ℤ s +ℤ k *ℤ w)
    gathered i j k q s v w = simp ring

    spread_out : (i j k p r v w : ℤ) → j *ℤ (r *ℤ w) +ℤ i *ℤ (w *ℤ p) +ℤ k *ℤ (v *ℤ w) ≡ w *ℤ (i *ℤ p +ℤ j *ℤ r +ℤ k *ℤ v)
    spread_out i j k p r v w = simp ring

pub swap : (i j k : ℕ) (p q r s v w : ℤ) → mix i j k p r v ≡ pos 0 → mix i j k q s w ≡ pos 0
    → pos i *ℤ determinant v w p q ≡ pos j *ℤ determinant r s v w
swap i j k p q r s v w h g = swap_of (pos i) (pos j) (pos k) p q r s v w h g

-- the corners' own turns: B × C, C × A and A × B, and their sum
abbrev pub spread : ℤ → ℤ → ℤ → ℤ → ℤ → ℤ → ℤ
spread p q r s v w = determinant r s v w +ℤ determinant v w p q +ℤ determinant p q r s

-- (i + j + k) (B × C) = i (B × C + C × A + A × B)
pub share : (i j k : ℕ) (p q r s v w : ℤ) → mix i j k p r v ≡ pos 0 → mix i j k q s w ≡ pos 0
    → pos (i + j + k) *ℤ determinant r s v w ≡ pos i *ℤ spread p q r s v w
share i j k p q r s v w h g =
    let α = determinant r s v w in
    let β = determinant v w p q in
    let γ = determinant p q r s in
    let second : pos j *ℤ α ≡ pos i *ℤ β = sym (swap i j k p q r s v w h g) in
    let third : pos k *ℤ α ≡ pos i *ℤ γ =
    swap k i j v w p q r s (mix_turned i j k p r v (pos 0) h) (mix_turned i j k q s w (pos 0) g) in
    plus_times (pos (i + j)) (pos k) α
    ∙ ap (λ (z : ℤ). z +ℤ pos k *ℤ α) (plus_times (pos i) (pos j) α)
    ∙ (λ t. pos i *ℤ α +ℤ second t +ℤ third t)
    ∙ sym (ap (λ (z : ℤ). z +ℤ pos i *ℤ γ) (times_plus (pos i) α β))
    ∙ sym (times_plus (pos i) (α +ℤ β) γ)

-- α A + β B + γ C = 0
pub closes : (p q r s v w : ℤ) → determinant r s v w *ℤ p +ℤ determinant v w p q *ℤ r +ℤ determinant p q r s *ℤ v ≡ pos 0
closes p q r s v w =
    diff_zero
    (diff_add
    (diff_add (diff_right (diff_minus (r *ℤ w) (s *ℤ v)) p) (diff_right (diff_minus (v *ℤ q) (w *ℤ p)) r))
    (diff_right (diff_minus (p *ℤ s) (q *ℤ r)) v)) (simp ring)

pub closes_up : (p q r s v w : ℤ) → determinant r s v w *ℤ q +ℤ determinant v w p q *ℤ s +ℤ determinant p q r s *ℤ w ≡ pos 0
closes_up p q r s v w =
    diff_zero
    (diff_add
    (diff_add (diff_right (diff_minus (r *ℤ w) (s *ℤ v)) q) (diff_right (diff_minus (v *ℤ q) (w *ℤ p)) s))
    (diff_right (diff_minus (p *ℤ s) (q *ℤ r)) w)) (simp ring)

-- ---- weights that say the same of the same corners, with the sign of the corners' turn or against it
pub record Weights (p q r s v w : ℤ) (α β γ : ℤ) : Type 0 where
  pub first : (i j k : ℕ) → mix i j k p r v ≡ pos 0 → mix i j k q s w ≡ pos 0 → pos (i + j + k) *ℤ α ≡ pos i *ℤ (α +ℤ β +ℤ γ)
  pub second : (i j k : ℕ) → mix i j k p r v ≡ pos 0 → mix i j k q s w ≡ pos 0 → pos (i + j + k) *ℤ β ≡ pos j *ℤ (α +ℤ β +ℤ γ)
  pub third : (i j k : ℕ) → mix i j k p r v ≡ pos 0 → mix i j k q s w ≡ pos 0 → pos (i + j + k) *ℤ γ ≡ pos k *ℤ (α +ℤ β +ℤ γ)
  pub across : α *ℤ p +ℤ β *ℤ r +ℤ γ *ℤ v ≡ pos 0
  pub up : α *ℤ q +ℤ β *ℤ s +ℤ γ *ℤ w ≡ pos 0

turned_sum : (i j k : ℕ) → k + i + j ≡ i + j + k
turned_sum i j k = omega arith

pub own_weights : (p q r s v w : ℤ) → Weights p q r s v w (determinant r s v w) (determinant v w p q) (determinant p q r s)
own_weights p q r s v w =
    let α = determinant r s v w in
    let β = determinant v w p q in
    let γ = determinant p q r s in
    record {
      first = λ i j k h g. share i j k p q r s v w h g;
      second = λ i j k h g.
          ap (λ (n : ℕ). pos n *ℤ β) (turned_sum j k i)
          ∙ share j k i r s v w p q (back i j k p r v h) (back i j k q s w g)
          ∙ ap (λ (z : ℤ). pos j *ℤ z) (sym (rotate β γ α));
      third = λ i j k h g.
          ap (λ (n : ℕ). pos n *ℤ γ) (sym (turned_sum i j k))
          ∙ share k i j v w p q r s (mix_turned i j k p r v (pos 0) h) (mix_turned i j k q s w (pos 0) g)
          ∙ ap (λ (z : ℤ). pos k *ℤ z) (rotate α β γ);
      across = closes p q r s v w;
      up = closes_up p q r s v w;
    }
  where
    back : (i j k : ℕ) (x y z : ℤ) → mix i j k x y z ≡ pos 0 → mix j k i y z x ≡ pos 0
    back i j k x y z h = sym (rotate (pos j *ℤ y) (pos k *ℤ z) (pos i *ℤ x)) ∙ h

-- against the corners' turn
module _ {p q r s v w α β γ : ℤ} (ws : Weights p q r s v w α β γ) where
  negated_sum : neg_ℤ α +ℤ neg_ℤ β +ℤ neg_ℤ γ ≡ neg_ℤ (α +ℤ β +ℤ γ)
  negated_sum = sym (neg_sum (α +ℤ β) γ ∙ ap (λ (z : ℤ). z +ℤ neg_ℤ γ) (neg_sum α β))

  flip : (D i x : ℤ) → D *ℤ x ≡ i *ℤ (α +ℤ β +ℤ γ) → D *ℤ neg_ℤ x ≡ i *ℤ (neg_ℤ α +ℤ neg_ℤ β +ℤ neg_ℤ γ)
  flip D i x h =
      times_neg D x ∙ ap neg_ℤ h ∙ sym (times_neg i (α +ℤ β +ℤ γ)) ∙ ap (λ (z : ℤ). i *ℤ z) (sym negated_sum)

  flat : (x y z : ℤ) → α *ℤ x +ℤ β *ℤ y +ℤ γ *ℤ z ≡ pos 0 → neg_ℤ α *ℤ x +ℤ neg_ℤ β *ℤ y +ℤ neg_ℤ γ *ℤ z ≡ pos 0
  flat x y z h =
      (λ t. neg_times α x t +ℤ neg_times β y t +ℤ neg_times γ z t)
      ∙ sym (neg_sum (α *ℤ x +ℤ β *ℤ y) (γ *ℤ z) ∙ ap (λ (n : ℤ). n +ℤ neg_ℤ (γ *ℤ z)) (neg_sum (α *ℤ x) (β *ℤ y)))
      ∙ ap neg_ℤ h

  pub negated : Weights p q r s v w (neg_ℤ α) (neg_ℤ β) (neg_ℤ γ)
  negated = record {
    first = λ i j k h g. flip (pos (i + j + k)) (pos i) α (ws.first i j k h g);
    second = λ i j k h g. flip (pos (i + j + k)) (pos j) β (ws.second i j k h g);
    third = λ i j k h g. flip (pos (i + j + k)) (pos k) γ (ws.third i j k h g);
    across = flat p r v ws.across;
    up = flat q s w ws.up;
  }

  -- the weighted sum of any three numbers is as their mean
  pub weighs : (i j k : ℕ) (x y z : ℤ) → mix i j k p r v ≡ pos 0 → mix i j k q s w ≡ pos 0
      → pos (i + j + k) *ℤ (α *ℤ x +ℤ β *ℤ y +ℤ γ *ℤ z) ≡ (α +ℤ β +ℤ γ) *ℤ mix i j k x y z
  weighs i j k x y z h g =
      let D = pos (i + j + k) in
      let W = α +ℤ β +ℤ γ in
      three D (α *ℤ x) (β *ℤ y) (γ *ℤ z)
      ∙ (λ t. each D α (pos i) W x (ws.first i j k h g) t +ℤ each D β (pos j) W y (ws.second i j k h g) t
      +ℤ each D γ (pos k) W z (ws.third i j k h g) t)
      ∙ sym (three W (pos i *ℤ x) (pos j *ℤ y) (pos k *ℤ z))
    where
      three : (D x y z : ℤ) → D *ℤ (x +ℤ y +ℤ z) ≡ D *ℤ x +ℤ D *ℤ y +ℤ D *ℤ z
      three D x y z = times_plus D (x +ℤ y) z ∙ ap (λ (n : ℤ). n +ℤ D *ℤ z) (times_plus D x y)

      each : (D a i W x : ℤ) → D *ℤ a ≡ i *ℤ W → D *ℤ (a *ℤ x) ≡ W *ℤ (i *ℤ x)
      each D a i W x h = sym (times_assoc D a x) ∙ ap (λ (n : ℤ). n *ℤ x) h ∙ times_assoc i W x ∙ times_left_comm i W x
