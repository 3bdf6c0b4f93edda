-- The same point by other weights, and by the corners in turn. Assumes nothing.
use mathlib.Core.Path.{◌≡◌, sym, ◌∙◌}
use lib.IntN.{ℤ, ◌+ℤ◌, ◌*ℤ◌}
use Rattle.drill.specs.Decision.{FromAxis}
use Rattle.wide_integers.proofs.Signs.{Nonneg, Positive, nonneg_times, nonneg_as, positive_as, positive_nonneg, positive_times}
use Rattle.wide_integers.proofs.Signs.{nonneg_cancel}
use Rattle.wide_integers.proofs.Signs.{positive_cancel}
use Rattle.drill.proofs.Identities as Identities
use Rattle.drill.proofs.Weighing.{Weights, total, sum_of, disc, sideways, upward, inward, room, In}

-- m y = n z
module _ (R : ℤ) (a b c : FromAxis) (y z : Weights) (m n : ℤ) (pm : Positive m) (pn : Positive n)
    (i : m *ℤ y.i ≡ n *ℤ z.i) (j : m *ℤ y.j ≡ n *ℤ z.j) (k : m *ℤ y.k ≡ n *ℤ z.k) (h : In R a b c z) where
  sums : (p q r : ℤ) → m *ℤ sum_of y p q r ≡ n *ℤ sum_of z p q r
  sums p q r =
      Identities.scaled_sum m y.i y.j y.k p q r ∙ (λ s. i s *ℤ p +ℤ j s *ℤ q +ℤ k s *ℤ r)
      ∙ sym (Identities.scaled_sum n z.i z.j z.k p q r)

  totals : m *ℤ total y ≡ n *ℤ total z
  totals =
      Identities.scaled_total m y.i y.j y.k ∙ (λ s. i s +ℤ j s +ℤ k s) ∙ sym (Identities.scaled_total n z.i z.j z.k)

  rooms : m *ℤ m *ℤ room R a b c y ≡ n *ℤ n *ℤ room R a b c z
  rooms =
      Identities.scaled_disc m R (total y) (sideways a b c y) (upward a b c y) (inward a b c y)
      ∙ (λ s. disc R (totals s) (sums a.moment.x b.moment.x c.moment.x s) (sums a.moment.y b.moment.y c.moment.y s)
      (sums a.moment.z b.moment.z c.moment.z s))
      ∙ sym (Identities.scaled_disc n R (total z) (sideways a b c z) (upward a b c z) (inward a b c z))

  over : {x w : ℤ} → m *ℤ x ≡ n *ℤ w → Nonneg w → Nonneg x
  over e p = nonneg_cancel pm (nonneg_as (sym e) (nonneg_times (positive_nonneg pn) p))

  pub scaled : In R a b c y
  scaled = record {
    first = over i h.first;
    second = over j h.second;
    third = over k h.third;
    low = over (sums a.low b.low c.low) h.low;
    high = over (sums a.high b.high c.high) h.high;
    size = positive_cancel pm (positive_as (sym totals) (positive_times pn h.size));
    near = nonneg_cancel (positive_times pm pm)
        (nonneg_as (sym rooms) (nonneg_times (positive_nonneg (positive_times pn pn)) h.near));
  }

module _ (R : ℤ) (a b c : FromAxis) (w : Weights) (h : In R a b c w) where
  turned_sum : (p q r : ℤ) → sum_of w p q r ≡ w.j *ℤ q +ℤ w.k *ℤ r +ℤ w.i *ℤ p
  turned_sum p q r = sym (Identities.turned w.i w.j w.k p q r)

  -- b, c, a for a, b, c
  pub turned : In R b c a (record { i = w.j; j = w.k; k = w.i })
  turned = record {
    first = h.second;
    second = h.third;
    third = h.first;
    low = nonneg_as (turned_sum a.low b.low c.low) h.low;
    high = nonneg_as (turned_sum a.high b.high c.high) h.high;
    size = positive_as (sym (Identities.turned_total w.i w.j w.k)) h.size;
    near = nonneg_as
        (λ s. disc R (sym (Identities.turned_total w.i w.j w.k) s) (turned_sum a.moment.x b.moment.x c.moment.x s)
        (turned_sum a.moment.y b.moment.y c.moment.y s) (turned_sum a.moment.z b.moment.z c.moment.z s))
        h.near;
  }
