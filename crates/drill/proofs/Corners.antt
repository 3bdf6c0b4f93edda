-- The tests of a corner, and of a point where a side crosses a cap. Assumes nothing.
use mathlib.Core.Path.{◌≡◌, refl, sym, ap, ◌∙◌, subst}
use mathlib.Core.Logic.{inl, inr}
use mathlib.Core.Bool.{Bool, true, ◌&&◌, cond}
use lib.IntN.{ℤ, pos, neg_ℤ, ◌+ℤ◌, ◌-ℤ◌, ◌*ℤ◌, *ℤ-zero, +ℤ_idl}
use lib.Signed.{lt_z, le_z}
use Rattle.lists.proofs.JoinedTests.{and_both, and_first, and_second, and_three}
use Rattle.wide_integers.proofs.Polynomials.{times_comm, sum_comm}
use Rattle.drill.specs.Drill.{square}
use Rattle.drill.specs.Decision.{FromAxis, minus, scale, corner_in, apart, crossing_in}
use Rattle.wide_integers.proofs.Signs.{Nonneg, Negative, sign_of, natural, nonneg_as, nonneg_times, positive_as}
use Rattle.wide_integers.proofs.Signs.{positive_nonneg, positive_sum, positive_or_zero, zero_sum, second_zero, zero_factor, le_of_nonneg}
use Rattle.wide_integers.proofs.Signs.{minus_of_le, le_of_minus, nonneg_of_le, below_of_negative, not_below, negated_positive}
use Rattle.wide_integers.proofs.Signs.{no_negative_zero, no_positive_zero}
use Rattle.drill.proofs.Identities as Identities
use Rattle.drill.proofs.Weighing.{Weights, sum_of, room, In}
use Rattle.drill.proofs.Multiples.{scaled, turned}

abbrev pub at_first : Weights
at_first = record { i = pos 1; j = pos 0; k = pos 0 }

module _ (R : ℤ) (a b c : FromAxis) where
  room_is : room R a b c at_first ≡ R -ℤ square a.moment
  room_is = Identities.corner_room R a.moment.x a.moment.y a.moment.z b.moment.x b.moment.y b.moment.z
      c.moment.x
      c.moment.y c.moment.z

  sum_is : (p q r : ℤ) → sum_of at_first p q r ≡ p
  sum_is p q r = Identities.corner_sum p q r

  -- the test says that the corner is in the drill
  pub corner_in_lem : corner_in R a ≡ true → In R a b c at_first
  unfolding corner_in
  corner_in_lem h =
      let r = and_second (le_z (pos 0) a.low) (le_z (pos 0) a.high && le_z (square a.moment) R) h in
      record {
        first = natural 1;
        second = natural 0;
        third = natural 0;
        low = nonneg_as (sym (sum_is a.low b.low c.low))
            (nonneg_of_le a.low (and_first (le_z (pos 0) a.low) (le_z (pos 0) a.high && le_z (square a.moment) R) h));
        high = nonneg_as (sym (sum_is a.high b.high c.high))
            (nonneg_of_le a.high (and_first (le_z (pos 0) a.high) (le_z (square a.moment) R) r));
        size = record { less = 0; is = refl };
        near = nonneg_as (sym room_is) (minus_of_le (square a.moment) R
            (and_second (le_z (pos 0) a.high) (le_z (square a.moment) R) r));
      }

  corner_is : In R a b c at_first → corner_in R a ≡ true
  unfolding corner_in
  corner_is h =
      and_three (le_z (pos 0) a.low) (le_z (pos 0) a.high) (le_z (square a.moment) R)
      (le_of_nonneg (nonneg_as (sum_is a.low b.low c.low) h.low))
      (le_of_nonneg (nonneg_as (sum_is a.high b.high c.high) h.high))
      (le_of_minus (square a.moment) R (nonneg_as room_is h.near))

  pub corner_decides : (w : Weights) → w.j ≡ pos 0 → w.k ≡ pos 0 → In R a b c w → corner_in R a ≡ true
  corner_decides w ej ek h =
      let here : Weights = record { i = w.i; j = pos 0; k = pos 0 } in
      let g : In R a b c here = subst (In R a b c) (λ s. record { i = w.i; j = ej s; k = ek s }) h in
      corner_is
      (scaled R a b c at_first here w.i (pos 1) (positive_as (Identities.one_corner w.i) g.size) (record { less = 0; is = refl })
      (times_comm w.i (pos 1)) (*ℤ-zero w.i) (*ℤ-zero w.i) g)

pub second_corner_decides : (R : ℤ) (a b c : FromAxis) (w : Weights) → w.i ≡ pos 0 → w.k ≡ pos 0 → In R a b c w → corner_in R b ≡ true
second_corner_decides R a b c w ei ek h =
    corner_decides R b c a (record { i = w.j; j = w.k; k = w.i }) ek ei (turned R a b c w h)

-- ---- crossings
abbrev pub crossed_down : ℤ → ℤ → Weights
crossed_down f g = record { i = g; j = neg_ℤ f; k = pos 0 }

abbrev pub crossed_up : ℤ → ℤ → Weights
crossed_up f g = record { i = neg_ℤ g; j = f; k = pos 0 }

module _ (R : ℤ) (a b c : FromAxis) (f g : ℤ) where
  abbrev gap : ℤ
  gap = R *ℤ ((f -ℤ g) *ℤ (f -ℤ g)) -ℤ square (minus (scale f b.moment) (scale g a.moment))

  pub room_down : room R a b c (crossed_down f g) ≡ gap
  room_down = Identities.crossing_down R f g a.moment.x a.moment.y a.moment.z b.moment.x b.moment.y b.moment.z
      c.moment.x c.moment.y c.moment.z

  pub room_up : room R a b c (crossed_up f g) ≡ gap
  room_up = Identities.crossing_up R f g a.moment.x a.moment.y a.moment.z b.moment.x b.moment.y b.moment.z
      c.moment.x c.moment.y c.moment.z

  tested : apart f g ≡ true → Nonneg gap → crossing_in R a.moment b.moment f g ≡ true
  unfolding crossing_in
  tested h p =
      and_both (apart f g) (le_z (square (minus (scale f b.moment) (scale g a.moment))) (R *ℤ ((f -ℤ g) *ℤ (f -ℤ g)))) h
      (le_of_minus (square (minus (scale f b.moment) (scale g a.moment))) (R *ℤ ((f -ℤ g) *ℤ (f -ℤ g))) p)

  apart_down : Negative f → Nonneg g → apart f g ≡ true
  apart_down p q = ap (λ (t : Bool). cond t (le_z (pos 0) g) (lt_z g (pos 0))) (below_of_negative p) ∙ le_of_nonneg q

  apart_up : Nonneg f → Negative g → apart f g ≡ true
  apart_up p q = ap (λ (t : Bool). cond t (le_z (pos 0) g) (lt_z g (pos 0))) (not_below p) ∙ below_of_negative q

-- a point of the side a, b that is stopped at a cap
pub data Crossing-found (R : ℤ) (a b : FromAxis) (f g : ℤ) : Type 0 where
  crossing : crossing_in R a.moment b.moment f g ≡ true → Crossing-found R a b f g
  first_corner_lem : corner_in R a ≡ true → Crossing-found R a b f g
  second_corner_lem : corner_in R b ≡ true → Crossing-found R a b f g

drop_right : {L Z M : ℤ} → Z ≡ pos 0 → L ≡ M +ℤ Z → L ≡ M
drop_right {L} {Z} {M} z e = e ∙ ap (λ (x : ℤ). M +ℤ x) z ∙ sum_comm M (pos 0) ∙ +ℤ_idl M

drop_left : {L Z M : ℤ} → Z ≡ pos 0 → L +ℤ Z ≡ M → L ≡ M
drop_left z e = sym (drop_right z (sym e))

module _ (R : ℤ) (a b c : FromAxis) (f g e i j : ℤ) (h : In R a b c (record { i = i; j = j; k = pos 0 }))
    (zero : i *ℤ f +ℤ j *ℤ g +ℤ pos 0 *ℤ e ≡ pos 0) (u v : ℤ) (below : Negative (u *ℤ f +ℤ v *ℤ g +ℤ pos 0 *ℤ e)) where
  abbrev z : Weights
  z = record { i = i; j = j; k = pos 0 }

  down : Negative f → Nonneg g → In R a b c (crossed_down f g)
  down p q =
      scaled R a b c (crossed_down f g) z (i +ℤ j +ℤ pos 0) (g +ℤ neg_ℤ f) h.size
      (positive_as (sum_comm (neg_ℤ f) g) (positive_sum (negated_positive p) q))
      (drop_right zero (Identities.share_first_down i j f g e)) (drop_left zero (Identities.share_second_down i j f g e))
      (Identities.share_third i j g f) h

  up : Nonneg f → Negative g → In R a b c (crossed_up f g)
  up p q =
      scaled R a b c (crossed_up f g) z (i +ℤ j +ℤ pos 0) (f +ℤ neg_ℤ g) h.size
      (positive_as (sum_comm (neg_ℤ g) f) (positive_sum (negated_positive q) p))
      (drop_left zero (Identities.share_first_up i j f g e)) (drop_right zero (Identities.share_second_up i j f g e))
      (Identities.share_third i j f g) h

  -- both below: no point of the side is at the cap
  both_below : Negative f → Negative g → ⊥
  both_below p q =
      let s : i *ℤ neg_ℤ f +ℤ j *ℤ neg_ℤ g ≡ pos 0 = Identities.minus_share i j f g e ∙ ap neg_ℤ zero in
      let x = nonneg_times h.first (positive_nonneg (negated_positive p)) in
      let y = nonneg_times h.second (positive_nonneg (negated_positive q)) in
      let i0 : i ≡ pos 0 = zero_factor (negated_positive p) (zero_sum x y s) in
      let j0 : j ≡ pos 0 = zero_factor (negated_positive q) (second_zero x y s) in
      no_positive_zero h.size (λ t. i0 t +ℤ j0 t +ℤ pos 0)

  none_below : Nonneg f → Nonneg g → Crossing-found R a b f g
  none_below p q =
      let s : i *ℤ f +ℤ j *ℤ g ≡ pos 0 = Identities.plus_share i j f g e ∙ zero in
      let x = nonneg_times h.first p in
      let y = nonneg_times h.second q in
      elim (positive_or_zero p) [
        | inl p' ↦ second_corner_lem (second_corner_decides R a b c z (zero_factor p' (zero_sum x y s)) refl h)
        | inr f0 ↦ elim (positive_or_zero q) [
          | inl q' ↦ first_corner_lem (corner_decides R a b c z (zero_factor q' (second_zero x y s)) refl h)
          | inr g0 ↦ absurd (no_negative_zero below ((λ t. u *ℤ f0 t +ℤ v *ℤ g0 t +ℤ pos 0 *ℤ e) ∙ nothing u v e))
        ]
      ]
    where
      nothing : (u v e : ℤ) → u *ℤ pos 0 +ℤ v *ℤ pos 0 +ℤ pos 0 *ℤ e ≡ pos 0
      nothing u v e = Identities.nothing u v e

  pub crossing_decides : Crossing-found R a b f g
  crossing_decides = elim (sign_of f) [
    | inl p ↦ elim (sign_of g) [
      | inl q ↦ absurd (both_below p q)
      | inr q ↦ crossing (tested R a b c f g (apart_down R a b c f g p q) (nonneg_as (room_down R a b c f g) (down p q).near))
    ]
    | inr p ↦ elim (sign_of g) [
      | inl q ↦ crossing (tested R a b c f g (apart_up R a b c f g p q) (nonneg_as (room_up R a b c f g) (up p q).near))
      | inr q ↦ none_below p q
    ]
  ]
