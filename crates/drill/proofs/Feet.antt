-- The test of a side's point nearest to the axis' line. Assumes nothing.
use mathlib.Core.Path.{◌≡◌, refl, sym, ap, ◌∙◌}
use mathlib.Core.Logic.{◌⊎◌, inl, inr}
use mathlib.Core.Bool.{Bool, true, ◌&&◌}
use Prim.Native.Nat.{ℕ, ◌*◌}
use lib.IntN.{ℤ, pos, ◌+ℤ◌, ◌-ℤ◌, ◌*ℤ◌}
use lib.Signed.{lt_z, le_z}
use Rattle.lists.proofs.JoinedTests.{and_both, and_first, and_second}
use Rattle.exact_depth.specs.declared.projection.Point.{Point}
use Rattle.exact_triangle.specs.Line.{Line}
use Rattle.drill.specs.Drill.{dot, square}
use Rattle.drill.specs.Decision.{FromAxis, from_axis, cross, corner_in, foot_in}
use Rattle.wide_integers.proofs.Signs.{Nonneg, Positive, nonneg_as, nonneg_times, nonneg_cancel, positive_nonneg, positive_sum}
use Rattle.wide_integers.proofs.Signs.{positive_or_zero, natural, minus_of_le, le_of_minus, nonneg_of_le, le_of_nonneg, positive_of_lt}
use Rattle.wide_integers.proofs.Signs.{lt_of_positive, nonneg_sum, square_nonneg}
use Rattle.drill.proofs.Identities as Identities
use Rattle.drill.proofs.Weighing.{sum_of, room, In}
use Rattle.drill.proofs.Corners.{corner_decides, second_corner_decides}
use Rattle.drill.proofs.AlongSides.{side_foot}

-- five tests
pub five_pass : (p q r s t : Bool) → p ≡ true → q ≡ true → r ≡ true → s ≡ true → t ≡ true → (p && (q && (r && (s && t)))) ≡ true
five_pass p q r s t a b c d e =
    and_both p (q && (r && (s && t))) a (and_both q (r && (s && t)) b (and_both r (s && t) c (and_both s t d e)))

pub record Five (p q r s t : Bool) : Type 0 where
  pub first : p ≡ true
  pub second : q ≡ true
  pub third : r ≡ true
  pub fourth : s ≡ true
  pub fifth : t ≡ true

pub five_parts : (p q r s t : Bool) → (p && (q && (r && (s && t)))) ≡ true → Five p q r s t
five_parts p q r s t h =
    let k = and_second p (q && (r && (s && t))) h in
    let m = and_second q (r && (s && t)) k in
    let n = and_second r (s && t) m in
    record {
      first = and_first p (q && (r && (s && t))) h;
      second = and_first q (r && (s && t)) k;
      third = and_first r (s && t) m;
      fourth = and_first s t n;
      fifth = and_second s t n;
    }

abbrev pub reach : ℕ → Point → ℤ
reach ρ d = pos (ρ * ρ) *ℤ square d

module _ (ρ : ℕ) (l : Line) (p q : Point) (c : FromAxis) where
  abbrev d : Point
  d = l.direction

  abbrev a : FromAxis
  a = from_axis l p

  abbrev b : FromAxis
  b = from_axis l q

  abbrev R : ℤ
  R = reach ρ l.direction

  abbrev i : ℤ
  i = (side_foot a b).i

  abbrev j : ℤ
  j = (side_foot a b).j

  abbrev t : ℤ
  t = dot (cross a.at b.at) d

  abbrev gap : ℤ
  gap = pos (ρ * ρ) *ℤ (i +ℤ j) -ℤ t *ℤ t

  turn_x : a.moment.y *ℤ b.moment.z -ℤ a.moment.z *ℤ b.moment.y ≡ t *ℤ d.x
  unfolding from_axis
  turn_x = Identities.turn_moment_x p.x p.y p.z q.x q.y q.z d.x d.y d.z

  turn_y : a.moment.z *ℤ b.moment.x -ℤ a.moment.x *ℤ b.moment.z ≡ t *ℤ d.y
  unfolding from_axis
  turn_y = Identities.turn_moment_y p.x p.y p.z q.x q.y q.z d.x d.y d.z

  turn_z : a.moment.x *ℤ b.moment.y -ℤ a.moment.y *ℤ b.moment.x ≡ t *ℤ d.z
  unfolding from_axis
  turn_z = Identities.turn_moment_z p.x p.y p.z q.x q.y q.z d.x d.y d.z

  room_is : room R a b c (side_foot a b) ≡ (i +ℤ j) *ℤ (square d *ℤ gap)
  room_is =
      Identities.side_room R a.moment.x a.moment.y a.moment.z b.moment.x b.moment.y b.moment.z c.moment.x
      c.moment.y c.moment.z
      ∙ (λ s. (i +ℤ j) *ℤ (R *ℤ (i +ℤ j) -ℤ (turn_x s *ℤ turn_x s +ℤ turn_y s *ℤ turn_y s +ℤ turn_z s *ℤ turn_z s)))
      ∙ ap (λ (z : ℤ). (i +ℤ j) *ℤ z) (Identities.turn_room (pos (ρ * ρ)) t (i +ℤ j) d.x d.y d.z)

  low_is : i *ℤ a.low +ℤ j *ℤ b.low ≡ sum_of (side_foot a b) a.low b.low c.low
  low_is = Identities.plus_share i j a.low b.low c.low

  high_is : i *ℤ a.high +ℤ j *ℤ b.high ≡ sum_of (side_foot a b) a.high b.high c.high
  high_is = Identities.plus_share i j a.high b.high c.high

  abbrev tests : Bool
  tests =
      lt_z (pos 0) i && (lt_z (pos 0) j && (le_z (pos 0) (i *ℤ a.low +ℤ j *ℤ b.low)
      && (le_z (pos 0) (i *ℤ a.high +ℤ j *ℤ b.high) && le_z (t *ℤ t) (pos (ρ * ρ) *ℤ (i +ℤ j)))))

  tests_are : foot_in ρ d a b ≡ tests
  unfolding foot_in
  tests_are = refl

  pub foot_in_lem : foot_in ρ d a b ≡ true → In R a b c (side_foot a b)
  foot_in_lem h =
      let k = five_parts (lt_z (pos 0) i) (lt_z (pos 0) j) (le_z (pos 0) (i *ℤ a.low +ℤ j *ℤ b.low))
      (le_z (pos 0) (i *ℤ a.high +ℤ j *ℤ b.high)) (le_z (t *ℤ t) (pos (ρ * ρ) *ℤ (i +ℤ j))) (sym tests_are ∙ h) in
      let pi = positive_of_lt i k.first in
      let pj = positive_of_lt j k.second in
      record {
        first = positive_nonneg pi;
        second = positive_nonneg pj;
        third = natural 0;
        low = nonneg_as low_is (nonneg_of_le (i *ℤ a.low +ℤ j *ℤ b.low) k.third);
        high = nonneg_as high_is (nonneg_of_le (i *ℤ a.high +ℤ j *ℤ b.high) k.fourth);
        size = positive_sum (positive_sum pi (positive_nonneg pj)) (natural 0);
        near = nonneg_as (sym room_is)
            (nonneg_times (positive_nonneg (positive_sum pi (positive_nonneg pj)))
            (nonneg_times (square_of d) (minus_of_le (t *ℤ t) (pos (ρ * ρ) *ℤ (i +ℤ j)) k.fifth)));
      }
    where
      square_of : (v : Point) → Nonneg (square v)
      square_of v = nonneg_sum (nonneg_sum (square_nonneg v.x) (square_nonneg v.y)) (square_nonneg v.z)

  pub foot_decides : Positive (square d) → In R a b c (side_foot a b)
      → (corner_in R a ≡ true) ⊎ ((corner_in R b ≡ true) ⊎ (foot_in ρ d a b ≡ true))
  foot_decides pd h = elim (positive_or_zero h.second) [
    | inr j0 ↦ inl (corner_decides R a b c (side_foot a b) j0 refl h)
    | inl pj ↦ elim (positive_or_zero h.first) [
      | inr i0 ↦ inr (inl (second_corner_decides R a b c (side_foot a b) i0 refl h))
      | inl pi ↦
          let gaps : Nonneg gap =
          nonneg_cancel pd (nonneg_cancel (positive_sum pi (positive_nonneg pj)) (nonneg_as room_is h.near)) in
          inr (inr (tests_are ∙ five_pass (lt_z (pos 0) i) (lt_z (pos 0) j) (le_z (pos 0) (i *ℤ a.low +ℤ j *ℤ b.low))
          (le_z (pos 0) (i *ℤ a.high +ℤ j *ℤ b.high)) (le_z (t *ℤ t) (pos (ρ * ρ) *ℤ (i +ℤ j)))
          (lt_of_positive pi) (lt_of_positive pj) (le_of_nonneg (nonneg_as (sym low_is) h.low))
          (le_of_nonneg (nonneg_as (sym high_is) h.high)) (le_of_minus (t *ℤ t) (pos (ρ * ρ) *ℤ (i +ℤ j)) gaps)))
    ]
  ]
