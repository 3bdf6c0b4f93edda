-- A side that crosses a cap within the drill's reach has a point in the drill there. Assumes nothing.
use mathlib.Core.Path.{◌≡◌, refl, sym, ap, ◌∙◌}
use mathlib.Core.Bool.{Bool, true, false, cond}
use lib.IntN.{ℤ, pos, neg_ℤ, ◌+ℤ◌, ◌-ℤ◌, ◌*ℤ◌}
use lib.Signed.{lt_z, le_z}
use Rattle.lists.proofs.JoinedTests.{and_first, and_second}
use Rattle.wide_integers.proofs.Polynomials.{sum_comm}
use Rattle.drill.specs.Drill.{square}
use Rattle.drill.specs.Decision.{FromAxis, minus, scale, apart, crossing_in}
use Rattle.wide_integers.proofs.Signs.{Nonneg, Positive, Negative, natural, nonneg_as, nonneg_times, positive_as, positive_nonneg}
use Rattle.wide_integers.proofs.Signs.{positive_sum}
use Rattle.wide_integers.proofs.Signs.{minus_of_le, nonneg_of_le, negative_of_lt, nonneg_of_not, negated_positive}
use Rattle.drill.proofs.Identities as Identities
use Rattle.drill.proofs.Weighing.{Weights, total, sum_of, room, In}
use Rattle.drill.proofs.Corners.{crossed_down, crossed_up, room_down, room_up}

-- what is on one cap is on the drill's side of the other
pub other_nonneg : (w : Weights) (f₁ f₂ f₃ g₁ g₂ g₃ L : ℤ) → g₁ ≡ L -ℤ f₁ → g₂ ≡ L -ℤ f₂ → g₃ ≡ L -ℤ f₃ → sum_of w f₁ f₂ f₃ ≡ pos 0
    → Nonneg L → Positive (total w) → Nonneg (sum_of w g₁ g₂ g₃)
other_nonneg w f₁ f₂ f₃ g₁ g₂ g₃ L e₁ e₂ e₃ z nL p =
    nonneg_as
    (sym ((λ s. w.i *ℤ e₁ s +ℤ w.j *ℤ e₂ s +ℤ w.k *ℤ e₃ s) ∙ Identities.other_sum w.i w.j w.k f₁ f₂ f₃ L
    ∙ ap (λ (t : ℤ). L *ℤ total w -ℤ t) z ∙ Identities.minus_zero_lem (L *ℤ total w)))
    (nonneg_times nL (positive_nonneg p))

-- the point where the side a, b crosses: f and g are the ends' distances from the cap
pub record Crossing-point (R : ℤ) (a b c : FromAxis) (f g e : ℤ) : Type 0 where
  pub w : Weights
  pub first : Nonneg w.i
  pub second : Nonneg w.j
  pub third : Nonneg w.k
  pub size : Positive (total w)
  pub near : Nonneg (room R a b c w)
  pub zero : sum_of w f g e ≡ pos 0

module _ (R : ℤ) (a b c : FromAxis) (f g e : ℤ) where
  abbrev most : ℤ
  most = R *ℤ ((f -ℤ g) *ℤ (f -ℤ g))

  abbrev least : ℤ
  least = square (minus (scale f b.moment) (scale g a.moment))

  down : Negative f → Nonneg g → Nonneg (most -ℤ least) → Crossing-point R a b c f g e
  down p q h = record {
    w = crossed_down f g;
    first = q;
    second = positive_nonneg (negated_positive p);
    third = natural 0;
    size = positive_sum (positive_as (sum_comm (neg_ℤ f) g) (positive_sum (negated_positive p) q)) (natural 0);
    near = nonneg_as (sym (room_down R a b c f g)) h;
    zero = Identities.crossing_zero_down f g e;
  }

  up : Nonneg f → Negative g → Nonneg (most -ℤ least) → Crossing-point R a b c f g e
  up p q h = record {
    w = crossed_up f g;
    first = positive_nonneg (negated_positive q);
    second = p;
    third = natural 0;
    size = positive_sum (positive_sum (negated_positive q) p) (natural 0);
    near = nonneg_as (sym (room_up R a b c f g)) h;
    zero = Identities.crossing_zero_up f g e;
  }

  crosses : apart f g ≡ true → Nonneg (most -ℤ least) → Crossing-point R a b c f g e
  crosses h p = go (lt_z f (pos 0)) refl h
    where
      go : (t : Bool) → lt_z f (pos 0) ≡ t → cond t (le_z (pos 0) g) (lt_z g (pos 0)) ≡ true → Crossing-point R a b c f g e
      go true k m = down (negative_of_lt f k) (nonneg_of_le g m) p
      go false k m = up (nonneg_of_not f k) (negative_of_lt g m) p

  pub crossing_point : crossing_in R a.moment b.moment f g ≡ true → Crossing-point R a b c f g e
  unfolding crossing_in
  crossing_point h = crosses (and_first (apart f g) (le_z least most) h)
      (minus_of_le least most (and_second (apart f g) (le_z least most) h))

-- ---- in the drill
module _ (R : ℤ) (a b c : FromAxis) (L : ℤ) (nL : Nonneg L) where
  pub near_crossing : a.high ≡ L -ℤ a.low → b.high ≡ L -ℤ b.low → c.high ≡ L -ℤ c.low
      → (p : Crossing-point R a b c a.low b.low c.low) → In R a b c p.w
  near_crossing ea eb ec p = record {
    first = p.first;
    second = p.second;
    third = p.third;
    low = nonneg_as (sym p.zero) (natural 0);
    high = other_nonneg p.w a.low b.low c.low a.high b.high c.high L ea eb ec p.zero nL p.size;
    size = p.size;
    near = p.near;
  }

  pub far_crossing : a.low ≡ L -ℤ a.high → b.low ≡ L -ℤ b.high → c.low ≡ L -ℤ c.high
      → (p : Crossing-point R a b c a.high b.high c.high) → In R a b c p.w
  far_crossing ea eb ec p = record {
    first = p.first;
    second = p.second;
    third = p.third;
    low = other_nonneg p.w a.high b.high c.high a.low b.low c.low L ea eb ec p.zero nL p.size;
    high = nonneg_as (sym p.zero) (natural 0);
    size = p.size;
    near = p.near;
  }
