-- On one axis: where a triangle has a point in the drill, the side of the triangle's own box touches the drill's. Assumes nothing.
use mathlib.Core.Path.{◌≡◌, sym, ◌∙◌}
use mathlib.Core.Logic.{inl, inr}
use mathlib.Core.Bool.{Bool, true, false, cond}
use Prim.Native.Nat.{ℕ, ◌+◌, ◌^◌, ◌≤◌, ◌<◌}
use native.Mathlib.Nat.{lt_of_le_of_lt}
use native.Mathlib.Omega.{arith}
use lib.Dec.{lit<}
use lib.IntN.{ℤ, pos, neg_ℤ, nat_abs, ◌+ℤ◌, ◌-ℤ◌, ◌*ℤ◌}
use lib.Signed.{le_z}
use lib.Ieee.{Float}
use Rattle.lists.proofs.JoinedTests.{and_both}
use Rattle.arithmetic.specs.Basic.{is_finite}
use Rattle.arithmetic.specs.Extremes.{minimum_of, maximum_of}
use Rattle.arithmetic.proofs.Numbers.{finite_number}
use Rattle.geometry.specs.Box.{touch_side}
use Rattle.exact_depth.specs.Meeting.{mix}
use Rattle.wide_integers.proofs.Integers.{add_size, sub_size}
use Rattle.wide_integers.proofs.Polynomials.{own, own_pos, rep_add, rep_sub, sum_comm}
use Rattle.wide_integers.proofs.Order.{rep_le, le_rep}
use Rattle.exact_triangle.specs.Line.{parts}
use Rattle.exact_triangle.specs.Grid.{units, nearest_to}
use Rattle.exact_triangle.specs.Box.{in_millimetres, floor_at, lesser, greater}
use Rattle.exact_triangle.proofs.Millimetres.{at_most, at_least}
use Rattle.exact_triangle.proofs.Floors.{first_most, second_most, first_least, second_least, OneOf, part_below, part_above}
use Rattle.exact_triangle.proofs.Floors.{floor_above, floor_below}
use Rattle.exact_triangle.proofs.Sides.{EndsSized, floor_size_at, least_below, greatest_above, each}
use Rattle.drill.specs.Box.{low_side, high_side}
use Rattle.wide_integers.proofs.Signs.{Nonneg, Positive, sign_of, natural, nonneg_as, nonneg_sum, nonneg_times, nonneg_cancel}
use Rattle.wide_integers.proofs.Signs.{positive_nonneg, positive_as, positive_sum, negated_positive, le_of_minus, minus_of_le}
use Rattle.drill.proofs.Identities as Identities

-- ---- y² ≤ c²
pub root_le : (c y : ℤ) → Nonneg c → Nonneg (c *ℤ c -ℤ y *ℤ y) → Nonneg (c -ℤ y)
root_le c y p h = elim (sign_of (c -ℤ y)) [
  | inr q ↦ q
  | inl n ↦
      let s : Positive (c +ℤ y) =
      positive_as (swap (c +ℤ c) (c -ℤ y) ∙ Identities.root_sum c y) (positive_sum (negated_positive n) (nonneg_sum p p)) in
      nonneg_cancel s (nonneg_as (Identities.root_parts c y) h)
]
  where
    swap : (x y : ℤ) → neg_ℤ y +ℤ x ≡ x -ℤ y
    swap x y = sum_comm (neg_ℤ y) x

-- ---- one coordinate: corners A, B and C, from the origin O, weights i, j and k; e is the direction's, q its square, h = X · d
module _ (A B C O e q h : ℤ) (ρ near far i j k : ℕ) (some : 0 < i + j + k) (pq : Positive q) where
  abbrev D : ℤ
  D = pos (i + j + k)

  abbrev X : ℤ
  X = mix i j k (A -ℤ O) (B -ℤ O) (C -ℤ O)

  abbrev S : ℤ
  S = pos parts

  abbrev P : ℤ
  P = pos ρ

  module _ (least : Nonneg (S *ℤ h -ℤ pos near *ℤ q *ℤ D)) (most : Nonneg (pos far *ℤ q *ℤ D -ℤ S *ℤ h))
      (upper : Nonneg (P *ℤ q *ℤ D -ℤ (q *ℤ X -ℤ h *ℤ e))) (lower : Nonneg (P *ℤ q *ℤ D -ℤ neg_ℤ (q *ℤ X -ℤ h *ℤ e))) where
    abbrev end : ℕ → ℤ
    end s = S *ℤ O +ℤ pos s *ℤ e

    -- a corner is at most ρ above the floor of an end, and one at most ρ below
    up_from : (s : ℕ) → Nonneg (D *ℤ (pos s *ℤ e +ℤ S *ℤ P) -ℤ S *ℤ X) → OneOf (λ (w : ℤ). le_z (w -ℤ P) (floor_at O e s) ≡ true) A B C
    up_from s g =
        each (lift A) (lift B) (lift C)
        (part_below i j k (S *ℤ A) (S *ℤ B) (S *ℤ C) (end s +ℤ S *ℤ P) some
        (le_of_minus (mix i j k (S *ℤ A) (S *ℤ B) (S *ℤ C)) (D *ℤ (end s +ℤ S *ℤ P))
        (nonneg_as (sym (Identities.mean_up (pos i) (pos j) (pos k) S A B C O (pos s) e P)) g)))
      where
        lift : (w : ℤ) → le_z (S *ℤ w) (S *ℤ O +ℤ pos s *ℤ e +ℤ S *ℤ P) ≡ true → le_z (w -ℤ P) (floor_at O e s) ≡ true
        lift w m =
            floor_above parts (lit< tt) (w -ℤ P) (S *ℤ O +ℤ pos s *ℤ e)
            (le_of_minus (S *ℤ (w -ℤ P)) (S *ℤ O +ℤ pos s *ℤ e)
            (nonneg_as (sym (Identities.floor_up S w P (S *ℤ O +ℤ pos s *ℤ e)))
            (minus_of_le (S *ℤ w) (S *ℤ O +ℤ pos s *ℤ e +ℤ S *ℤ P) m)))

    down_from_lem : (s : ℕ) → Nonneg (S *ℤ X -ℤ D *ℤ (pos s *ℤ e -ℤ S *ℤ P))
        → OneOf (λ (w : ℤ). le_z (floor_at O e s) (w +ℤ P) ≡ true) A B C
    down_from_lem s g =
        each (lift A) (lift B) (lift C)
        (part_above i j k (S *ℤ A) (S *ℤ B) (S *ℤ C) (end s -ℤ S *ℤ P) some
        (le_of_minus (D *ℤ (end s -ℤ S *ℤ P)) (mix i j k (S *ℤ A) (S *ℤ B) (S *ℤ C))
        (nonneg_as (sym (Identities.mean_down (pos i) (pos j) (pos k) S A B C O (pos s) e P)) g)))
      where
        lift : (w : ℤ) → le_z (S *ℤ O +ℤ pos s *ℤ e -ℤ S *ℤ P) (S *ℤ w) ≡ true → le_z (floor_at O e s) (w +ℤ P) ≡ true
        lift w m =
            floor_below parts (lit< tt) (w +ℤ P) (S *ℤ O +ℤ pos s *ℤ e)
            (le_of_minus (S *ℤ O +ℤ pos s *ℤ e) (S *ℤ (w +ℤ P))
            (nonneg_as (sym (Identities.floor_down S w P (S *ℤ O +ℤ pos s *ℤ e)))
            (minus_of_le (S *ℤ O +ℤ pos s *ℤ e -ℤ S *ℤ P) (S *ℤ w) m)))

    abbrev highest : ℤ
    highest = greater (floor_at O e near) (floor_at O e far)

    abbrev lowest : ℤ
    lowest = lesser (floor_at O e near) (floor_at O e far)

    to_high : (w f : ℤ) → le_z f highest ≡ true → le_z (w -ℤ P) f ≡ true → le_z (w +ℤ pos 1) (highest +ℤ pos (ρ + 1)) ≡ true
    to_high w f m g =
        let u = rep_le (rep_sub (own w) (own_pos ρ)) (own f) g in
        let v = rep_le (own f) (own highest) m in
        le_rep (rep_add (own w) (own_pos 1)) (rep_add (own highest) (own_pos (ρ + 1))) (omega (arith, u, v))

    to_low : (w f : ℤ) → le_z lowest f ≡ true → le_z f (w +ℤ P) ≡ true → le_z (lowest -ℤ pos (ρ + 1) +ℤ pos 1) w ≡ true
    to_low w f m g =
        let u = rep_le (own f) (rep_add (own w) (own_pos ρ)) g in
        let v = rep_le (own lowest) (own f) m in
        le_rep (rep_add (rep_sub (own lowest) (own_pos (ρ + 1))) (own_pos 1)) (own w) (omega (arith, u, v))

    far_high : (w : ℤ) → le_z (w -ℤ P) (floor_at O e far) ≡ true → le_z (w +ℤ pos 1) (highest +ℤ pos (ρ + 1)) ≡ true
    far_high w = to_high w (floor_at O e far) (second_most (floor_at O e near) (floor_at O e far))

    near_high : (w : ℤ) → le_z (w -ℤ P) (floor_at O e near) ≡ true → le_z (w +ℤ pos 1) (highest +ℤ pos (ρ + 1)) ≡ true
    near_high w = to_high w (floor_at O e near) (first_most (floor_at O e near) (floor_at O e far))

    far_low : (w : ℤ) → le_z (floor_at O e far) (w +ℤ P) ≡ true → le_z (lowest -ℤ pos (ρ + 1) +ℤ pos 1) w ≡ true
    far_low w = to_low w (floor_at O e far) (second_least (floor_at O e near) (floor_at O e far))

    near_low : (w : ℤ) → le_z (floor_at O e near) (w +ℤ P) ≡ true → le_z (lowest -ℤ pos (ρ + 1) +ℤ pos 1) w ≡ true
    near_low w = to_low w (floor_at O e near) (first_least (floor_at O e near) (floor_at O e far))

    pub past_high : OneOf (λ (w : ℤ). le_z (w +ℤ pos 1) (highest +ℤ pos (ρ + 1)) ≡ true) A B C
    past_high = elim (sign_of e) [
      | inr p ↦ each (far_high A) (far_high B) (far_high C)
          (up_from far (nonneg_cancel pq (nonneg_as (sym (Identities.rise_up S P q D (pos far) e X h))
          (nonneg_sum (nonneg_times (natural parts) upper) (nonneg_times p most)))))
      | inl n ↦ each (near_high A) (near_high B) (near_high C)
          (up_from near (nonneg_cancel pq (nonneg_as (sym (Identities.fall_up S P q D (pos near) e X h))
          (nonneg_sum (nonneg_times (natural parts) upper) (nonneg_times (positive_nonneg (negated_positive n)) least)))))
    ]

    pub past_low : OneOf (λ (w : ℤ). le_z (lowest -ℤ pos (ρ + 1) +ℤ pos 1) w ≡ true) A B C
    past_low = elim (sign_of e) [
      | inr p ↦ each (near_low A) (near_low B) (near_low C)
          (down_from_lem near (nonneg_cancel pq (nonneg_as (sym (Identities.rise_down S P q D (pos near) e X h))
          (nonneg_sum (nonneg_times (natural parts) lower) (nonneg_times p least)))))
      | inl n ↦ each (far_low A) (far_low B) (far_low C)
          (down_from_lem far (nonneg_cancel pq (nonneg_as (sym (Identities.fall_down S P q D (pos far) e X h))
          (nonneg_sum (nonneg_times (natural parts) lower) (nonneg_times (positive_nonneg (negated_positive n)) most)))))
    ]

-- ---- of floats
chosen : (n : ℕ) (b : Bool) (x y : ℤ) → nat_abs x ≤ n → nat_abs y ≤ n → nat_abs (cond b x y) ≤ n
chosen n true x y p q = p
chosen n false x y p q = q

module _ (O e : ℤ) (near far : ℕ) (sizes : EndsSized O e near far) (ρ : ℕ) (small : ρ ≤ 4194304) where
  near_size : nat_abs (floor_at O e near) ≤ 4294967297
  near_size = (floor_size_at O e (pos near) sizes.origin sizes.direction sizes.least).size

  far_size : nat_abs (floor_at O e far) ≤ 4294967297
  far_size = (floor_size_at O e (pos far) sizes.origin sizes.direction sizes.most).size

  high_fine : nat_abs (greater (floor_at O e near) (floor_at O e far) +ℤ pos (ρ + 1)) < 2 ^ 53
  high_fine =
      let g = add_size (greater (floor_at O e near) (floor_at O e far)) (pos (ρ + 1)) in
      let c = chosen 4294967297 (le_z (floor_at O e near) (floor_at O e far)) (floor_at O e far) (floor_at O e near) far_size near_size in
      let m : nat_abs (greater (floor_at O e near) (floor_at O e far) +ℤ pos (ρ + 1)) ≤ 4299161602 = omega (arith, g, c, small) in
      lt_of_le_of_lt m (lit< tt)

  low_fine : nat_abs (lesser (floor_at O e near) (floor_at O e far) -ℤ pos (ρ + 1)) < 2 ^ 53
  low_fine =
      let g = sub_size (lesser (floor_at O e near) (floor_at O e far)) (pos (ρ + 1)) in
      let c = chosen 4294967297 (le_z (floor_at O e near) (floor_at O e far)) (floor_at O e near) (floor_at O e far) near_size far_size in
      let m : nat_abs (lesser (floor_at O e near) (floor_at O e far) -ℤ pos (ρ + 1)) ≤ 4299161602 = omega (arith, g, c, small) in
      lt_of_le_of_lt m (lit< tt)

  pub side_touches_lem : (a b c : Float) → is_finite a ≡ true → is_finite b ≡ true → is_finite c ≡ true
      → OneOf (λ (w : ℤ). le_z (w +ℤ pos 1) (greater (floor_at O e near) (floor_at O e far) +ℤ pos (ρ + 1)) ≡ true) (nearest_to units a)
      (nearest_to units b) (nearest_to units c)
      → OneOf (λ (w : ℤ). le_z (lesser (floor_at O e near) (floor_at O e far) -ℤ pos (ρ + 1) +ℤ pos 1) w ≡ true) (nearest_to units a)
      (nearest_to units b) (nearest_to units c)
      → touch_side (minimum_of (minimum_of a b) c) (maximum_of (maximum_of a b) c) (low_side ρ O e near far) (high_side ρ O e near far)
      ≡ true
  unfolding touch_side low_side high_side
  side_touches_lem a b c fa fb fc g l =
      let na = finite_number a fa in
      let nb = finite_number b fb in
      let nc = finite_number c fc in
      let high = greater (floor_at O e near) (floor_at O e far) +ℤ pos (ρ + 1) in
      let low = lesser (floor_at O e near) (floor_at O e far) -ℤ pos (ρ + 1) in
      and_both _ _
      (least_below a b c na nb nc (in_millimetres high)
      (each (at_most a fa high high_fine) (at_most b fb high high_fine) (at_most c fc high high_fine) g))
      (greatest_above a b c na nb nc (in_millimetres low)
      (each (at_least a fa low low_fine) (at_least b fb low low_fine) (at_least c fc low low_fine) l))
