-- What the tests of corners and sides come to, one law for each place where the code answers. Assumes nothing.
use mathlib.Core.Path.{◌≡◌, refl, sym, ◌∙◌}
use mathlib.Core.Bool.{Bool, true, false, ◌&&◌}
use Prim.Native.Nat.{ℕ, ◌*◌}
use lib.IntN.{ℤ, pos, neg_ℤ, ◌+ℤ◌, ◌-ℤ◌, ◌*ℤ◌}
use lib.Signed.{lt_z, le_z}
use Rattle.exact_depth.specs.declared.projection.Point.{Point}
use Rattle.drill.specs.Drill.{dot, square}
use Rattle.drill.specs.Decision.{cross, scale, minus, FromAxis, corner_in, apart, crossing_in, foot_in}
use Rattle.drill.proofs.Laws.{and_off, and_on}

-- the last of three fails; the last of two passes
last_fails : (p q : Bool) {r : Bool} → r ≡ false → false ≡ (p && (q && r))
last_fails true true h = sym h
last_fails true false h = refl
last_fails false q h = refl

last_passes : (p : Bool) {q r : Bool} → q ≡ true → r ≡ p → r ≡ (p && q)
last_passes true h e = e ∙ sym h
last_passes false h e = e

module _ (R : ℤ) (p : FromAxis) where
  pub corner_below : le_z (pos 0) p.low ≡ false → false ≡ corner_in R p
  unfolding corner_in
  corner_below h = and_off (le_z (pos 0) p.high && le_z (square p.moment) R) h

  pub corner_beyond : le_z (pos 0) p.low ≡ true → le_z (pos 0) p.high ≡ false → false ≡ corner_in R p
  unfolding corner_in
  corner_beyond h g = and_on h (and_off (le_z (square p.moment) R) g)

  pub corner_is : {r : Bool} → le_z (pos 0) p.low ≡ true → le_z (pos 0) p.high ≡ true → r ≡ le_z (square p.moment) R
      → r ≡ corner_in R p
  unfolding corner_in
  corner_is h g e = and_on h (and_on g e)

module _ (R : ℤ) (v w : Point) (f g : ℤ) where
  pub crossing_off : apart f g ≡ false → false ≡ crossing_in R v w f g
  unfolding crossing_in
  crossing_off h = and_off (le_z (square (minus (scale f w) (scale g v))) (R *ℤ ((f -ℤ g) *ℤ (f -ℤ g)))) h

  pub crossing_is : {r : Bool} → apart f g ≡ true → r ≡ le_z (square (minus (scale f w) (scale g v))) (R *ℤ ((f -ℤ g) *ℤ (f -ℤ g)))
      → r ≡ crossing_in R v w f g
  unfolding crossing_in
  crossing_is h e = and_on h e

-- the weights of a side's foot
abbrev pub foot_i : FromAxis → FromAxis → ℤ
foot_i p q = dot q.moment (minus q.moment p.moment)

abbrev pub foot_j : FromAxis → FromAxis → ℤ
foot_j p q = neg_ℤ (dot p.moment (minus q.moment p.moment))

module _ (ρ : ℕ) (d : Point) (p q : FromAxis) where
  abbrev nearby : Bool
  nearby =
      le_z (dot (cross p.at q.at) d *ℤ dot (cross p.at q.at) d) (pos (ρ * ρ) *ℤ (foot_i p q +ℤ foot_j p q))

  abbrev above : Bool
  above = le_z (pos 0) (foot_i p q *ℤ p.low +ℤ foot_j p q *ℤ q.low)

  abbrev under : Bool
  under = le_z (pos 0) (foot_i p q *ℤ p.high +ℤ foot_j p q *ℤ q.high)

  pub foot_first : lt_z (pos 0) (foot_i p q) ≡ false → false ≡ foot_in ρ d p q
  unfolding foot_in
  foot_first h = and_off (lt_z (pos 0) (foot_j p q) && (above && (under && nearby))) h

  pub foot_second : lt_z (pos 0) (foot_i p q) ≡ true → lt_z (pos 0) (foot_j p q) ≡ false → false ≡ foot_in ρ d p q
  unfolding foot_in
  foot_second h g = and_on h (and_off (above && (under && nearby)) g)

  pub foot_far : lt_z (pos 0) (foot_i p q) ≡ true → lt_z (pos 0) (foot_j p q) ≡ true
      → le_z (dot (cross p.at q.at) d *ℤ dot (cross p.at q.at) d) (pos (ρ * ρ) *ℤ (foot_i p q +ℤ foot_j p q)) ≡ false
      → false ≡ foot_in ρ d p q
  unfolding foot_in
  foot_far h g k = and_on h (and_on g (last_fails above under k))

  pub foot_low : lt_z (pos 0) (foot_i p q) ≡ true → lt_z (pos 0) (foot_j p q) ≡ true
      → le_z (pos 0) (foot_i p q *ℤ p.low +ℤ foot_j p q *ℤ q.low) ≡ false → false ≡ foot_in ρ d p q
  unfolding foot_in
  foot_low h g k = and_on h (and_on g (and_off (under && nearby) k))

  pub foot_is : {r : Bool} → lt_z (pos 0) (foot_i p q) ≡ true → lt_z (pos 0) (foot_j p q) ≡ true
      → le_z (dot (cross p.at q.at) d *ℤ dot (cross p.at q.at) d) (pos (ρ * ρ) *ℤ (foot_i p q +ℤ foot_j p q)) ≡ true
      → le_z (pos 0) (foot_i p q *ℤ p.low +ℤ foot_j p q *ℤ q.low) ≡ true
      → r ≡ le_z (pos 0) (foot_i p q *ℤ p.high +ℤ foot_j p q *ℤ q.high)
      → r ≡ foot_in ρ d p q
  unfolding foot_in
  foot_is h g k l e = and_on h (and_on g (and_on l (last_passes under k e)))
