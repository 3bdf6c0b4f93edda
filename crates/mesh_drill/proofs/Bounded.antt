-- Whole numbers from -B to B. Assumes nothing.
use Rattle.std.proofs.Common.{◌≡◌, ◌⊎◌, ℤ, pos, ◌+ℤ◌, ◌-ℤ◌, ◌*ℤ◌, neg_ℤ, sym, refl, ap, ◌∙◌, inl, inr}
use Rattle.wide_integers.proofs.Signs.{Nonneg, Positive, Negative, natural, nonneg_as, positive_nonneg, sign_of, nonneg_sum, nonneg_times}
use Rattle.wide_integers.proofs.Signs.{positive_as, positive_sum, positive_times, nonneg_cancel, clash_signs, negated_positive}
use Rattle.mesh_drill.proofs.Identities as Identities

pub record Bounded (B e : ℤ) : Type 0 where
  pub low : Nonneg (B +ℤ e)
  pub high : Nonneg (B -ℤ e)

pub two : Positive (pos 2)
two = record { less = 1; is = refl }

pub bounded_as : {A B e f : ℤ} → A ≡ B → e ≡ f → Bounded A e → Bounded B f
bounded_as p q b = record { low = nonneg_as (λ s. p s +ℤ q s) b.low; high = nonneg_as (λ s. p s -ℤ q s) b.high }

pub bounded_sum : {A B u e : ℤ} → Bounded A u → Bounded B e → Bounded (A +ℤ B) (u +ℤ e)
bounded_sum {A} {B} {u} {e} p q = record {
  low = nonneg_as (sym (Identities.sum_low A B u e)) (nonneg_sum p.low q.low);
  high = nonneg_as (sym (Identities.sum_high A B u e)) (nonneg_sum p.high q.high);
}

pub bounded_scaled : {k A u : ℤ} → Nonneg k → Bounded A u → Bounded (k *ℤ A) (k *ℤ u)
bounded_scaled {k} {A} {u} n p = record {
  low = nonneg_as (sym (Identities.scaled_low k A u)) (nonneg_times n p.low);
  high = nonneg_as (sym (Identities.scaled_high k A u)) (nonneg_times n p.high);
}

pub bounded_negated : {A u : ℤ} → Bounded A u → Bounded A (neg_ℤ u)
bounded_negated {A} {u} p = record {
  low = nonneg_as (sym (Identities.negated_low A u)) p.high;
  high = nonneg_as (sym (Identities.negated_high A u)) p.low;
}

pub bounded_times : {A B u e : ℤ} → Bounded A u → Bounded B e → Bounded (A *ℤ B) (u *ℤ e)
bounded_times {A} {B} {u} {e} p q = record {
  low = nonneg_cancel two
      (nonneg_as (sym (Identities.times_low A B u e)) (nonneg_sum (nonneg_times p.high q.high) (nonneg_times p.low q.low)));
  high = nonneg_cancel two
      (nonneg_as (sym (Identities.times_high A B u e)) (nonneg_sum (nonneg_times p.high q.low) (nonneg_times p.low q.high)));
}

pub bounded_wider : {A B e : ℤ} → Nonneg (B -ℤ A) → Bounded A e → Bounded B e
bounded_wider {A} {B} {e} n p = record {
  low = nonneg_as (sym (Identities.wider_low A B e)) (nonneg_sum n p.low);
  high = nonneg_as (sym (Identities.wider_high A B e)) (nonneg_sum n p.high);
}

pub bounded_square : {A u : ℤ} → Bounded A u → Nonneg (A *ℤ A -ℤ u *ℤ u)
bounded_square {A} {u} p = nonneg_as (sym (Identities.apart_squares A u)) (nonneg_times p.high p.low)

-- ---- the root of a square
-- A < u, so A² < u²
root_high : (A u : ℤ) → Nonneg A → Nonneg (A *ℤ A -ℤ u *ℤ u) → Nonneg (A -ℤ u)
root_high A u n s = go (sign_of (A -ℤ u))
  where
    go : Negative (A -ℤ u) ⊎ Nonneg (A -ℤ u) → Nonneg (A -ℤ u)
    go (inr p) = p
    go (inl p) =
        let more : Positive (u -ℤ A) = positive_as (Identities.turned_minus A u) (negated_positive p) in
        let square : Positive (u *ℤ u -ℤ A *ℤ A) = positive_as (sym (Identities.over_square A u))
        (positive_sum (positive_times more more) (nonneg_times (nonneg_times (natural 2) n) (positive_nonneg more))) in
        absurd (clash_signs s (turned square))
      where
        turned : Positive (u *ℤ u -ℤ A *ℤ A) → Negative (A *ℤ A -ℤ u *ℤ u)
        turned q = record { less = q.less; is = sym (Identities.turned_minus (u *ℤ u) (A *ℤ A)) ∙ ap neg_ℤ q.is }

pub bounded_root : {A u : ℤ} → Nonneg A → Nonneg (A *ℤ A -ℤ u *ℤ u) → Bounded A u
bounded_root {A} {u} n s = record {
  low = nonneg_as (Identities.negated_high A u) (root_high A (neg_ℤ u) n (nonneg_as (Identities.negated_square A u) s));
  high = root_high A u n s;
}
