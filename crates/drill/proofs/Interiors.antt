-- A point of the triangle in the drill, moved in the triangle's plane toward the axis or along it: to the axis, to a side, or to a cap; and
-- at a cap toward its centre. Assumes nothing.
use mathlib.Core.Path.{◌≡◌, refl, sym, ap, ◌∙◌}
use mathlib.Core.Logic.{◌⊎◌, inl, inr}
use Prim.Native.Nat.{ℕ, suc}
use lib.IntN.{ℤ, pos, negsuc, neg_ℤ, ◌+ℤ◌, ◌-ℤ◌, ◌*ℤ◌, zero-*ℤ, neg_ℤ-neg_ℤ}
use Rattle.wide_integers.proofs.Polynomials.{equal_of_minus}
use Rattle.drill.specs.Decision.{FromAxis}
use Rattle.wide_integers.proofs.Signs.{Nonneg, Positive, Negative, sign_of, positive_or_zero, no_negative_zero, no_positive_zero}
use Rattle.wide_integers.proofs.Signs.{clash_signs}
use Rattle.wide_integers.proofs.Signs.{nonneg_times, nonneg_as, positive_nonneg, square_nonneg, positive_as, negated_positive, zero_factor}
use Rattle.wide_integers.proofs.Signs.{zero_or_not}
use Rattle.drill.proofs.Identities as Identities
use Rattle.drill.proofs.Weighing.{Weights, total, sum_of, disc, along, sideways, upward, inward, low_of, high_of, In, Target}
use Rattle.drill.proofs.Weighing.{point, direction, Held-by, by_first, by_second, by_third, by_low, by_high, Walked, arrived, held}
use Rattle.drill.proofs.Weighing.{walk}
use Rattle.drill.proofs.Footing.{foot}
use Rattle.drill.proofs.Levels.{Sides-found, without_one, level_decides}

-- (q - r, r - p, p - q)
abbrev pub leveled : ℤ → ℤ → ℤ → Weights
leveled p q r = record { i = q -ℤ r; j = r -ℤ p; k = p -ℤ q }

abbrev pub opposite : Weights → Weights
opposite w = record { i = neg_ℤ w.i; j = neg_ℤ w.j; k = neg_ℤ w.k }

-- The corners are from the axis: low and high go with the height; n is the axis' point in the plane, and where the plane runs along
-- the axis, so that n's weights have the sum 0, the corners' moments lie on one line.
pub record Facts (a b c : FromAxis) (n : Weights) : Type 0 where
  pub S : ℤ
  pub N : ℤ
  pub N' : ℤ
  pub low_a : a.low ≡ S *ℤ a.height -ℤ N
  pub low_b : b.low ≡ S *ℤ b.height -ℤ N
  pub low_c : c.low ≡ S *ℤ c.height -ℤ N
  pub high_a : a.high ≡ S *ℤ neg_ℤ a.height -ℤ N'
  pub high_b : b.high ≡ S *ℤ neg_ℤ b.height -ℤ N'
  pub high_c : c.high ≡ S *ℤ neg_ℤ c.height -ℤ N'
  pub axis_x : sideways a b c n ≡ pos 0
  pub axis_y : upward a b c n ≡ pos 0
  pub axis_z : inward a b c n ≡ pos 0
  pub p : ℤ
  pub q : ℤ
  pub r : ℤ
  pub flat_yz : inward a b c (leveled a.moment.y b.moment.y c.moment.y) ≡ total n *ℤ p
  pub flat_zx : sideways a b c (leveled a.moment.z b.moment.z c.moment.z) ≡ total n *ℤ q
  pub flat_xy : upward a b c (leveled a.moment.x b.moment.x c.moment.x) ≡ total n *ℤ r

abbrev pub level_up : FromAxis → FromAxis → FromAxis → Weights
level_up a b c = leveled a.height b.height c.height

abbrev pub level_down : FromAxis → FromAxis → FromAxis → Weights
level_down a b c = leveled (neg_ℤ a.height) (neg_ℤ b.height) (neg_ℤ c.height)

-- why the near cap decides: the line crosses the plane before near, or nowhere; and why the far cap
pub data Before (a b c : FromAxis) (n : Weights) : Type 0 where
  before : Positive (total n) → Negative (low_of a b c n) → Before a b c n
  before_back : Negative (total n) → Negative (low_of a b c (opposite n)) → Before a b c n
  nowhere : total n ≡ pos 0 → Before a b c n

pub data Past (a b c : FromAxis) (n : Weights) : Type 0 where
  past : Positive (total n) → Negative (high_of a b c n) → Past a b c n
  past_back : Negative (total n) → Negative (high_of a b c (opposite n)) → Past a b c n

-- at which point something fires
pub data Plane-found (R : ℤ) (a b c : FromAxis) (n : Weights) : Type 0 where
  on_axis : In R a b c n → Plane-found R a b c n
  on_axis_back : In R a b c (opposite n) → Plane-found R a b c n
  on_near : Before a b c n → (z : Weights) → Positive (total z) → low_of a b c z ≡ pos 0
      → In R a b c (foot a b c z (level_up a b c)) → Plane-found R a b c n
  on_far : Past a b c n → (z : Weights) → Positive (total z) → high_of a b c z ≡ pos 0
      → In R a b c (foot a b c z (level_down a b c)) → Plane-found R a b c n
  on_sides : Sides-found R a b c → Plane-found R a b c n

-- ---- a cap that holds a point crosses the plane
module _ (S N fa fb fc ta tb tc : ℤ) (ea : fa ≡ S *ℤ ta -ℤ N) (eb : fb ≡ S *ℤ tb -ℤ N) (ec : fc ≡ S *ℤ tc -ℤ N) where
  level_some : (z y : Weights) → Positive (total z) → sum_of z fa fb fc ≡ pos 0 → Negative (sum_of y fa fb fc)
      → tb -ℤ tc ≡ pos 0 → tc -ℤ ta ≡ pos 0 → ta -ℤ tb ≡ pos 0 → ⊥
  level_some z y pz e n u v w =
      let bc : tb ≡ tc = equal_of_minus tb tc u in
      let ca : tc ≡ ta = equal_of_minus tc ta v in
      let fca : fc ≡ fa = ec ∙ ap (λ (t : ℤ). S *ℤ t -ℤ N) ca ∙ sym ea in
      let fba : fb ≡ fa = eb ∙ ap (λ (t : ℤ). S *ℤ t -ℤ N) (bc ∙ ca) ∙ sym ea in
      let even : (x : Weights) → sum_of x fa fb fc ≡ fa *ℤ total x =
      λ x. (λ s. x.i *ℤ fa +ℤ x.j *ℤ fba s +ℤ x.k *ℤ fca s) ∙ Identities.even_sum x.i x.j x.k fa in
      let f0 : fa ≡ pos 0 = zero_factor pz (sym (even z) ∙ e) in
      no_negative_zero n (even y ∙ ap (λ (t : ℤ). t *ℤ total y) f0 ∙ zero-*ℤ (total y))

  own_flat : sum_of (leveled ta tb tc) fa fb fc ≡ pos 0
  own_flat =
      (λ s. (tb -ℤ tc) *ℤ ea s +ℤ (tc -ℤ ta) *ℤ eb s +ℤ (ta -ℤ tb) *ℤ ec s) ∙ Identities.level_affine S N ta tb tc

module _ (S N fa fb fc ta tb tc : ℤ) (ea : fa ≡ S *ℤ neg_ℤ ta -ℤ N) (eb : fb ≡ S *ℤ neg_ℤ tb -ℤ N) (ec : fc ≡ S *ℤ neg_ℤ tc -ℤ N) where
  other_flat : sum_of (leveled ta tb tc) fa fb fc ≡ pos 0
  other_flat =
      (λ s. (tb -ℤ tc) *ℤ ea s +ℤ (tc -ℤ ta) *ℤ eb s +ℤ (ta -ℤ tb) *ℤ ec s) ∙ Identities.level_affine_back S N ta tb tc

module _ (R : ℤ) (a b c : FromAxis) (n : Weights) (F : Facts a b c n) (nR : Nonneg R) where
  -- ---- stopped at a cap
  near_decides : Before a b c n → (z y : Weights) → In R a b c z → low_of a b c z ≡ pos 0 → Negative (low_of a b c y)
      → Plane-found R a b c n
  near_decides why z y h e q =
      elim (level_decides R a b c z (level_up a b c) h (Identities.level_total a.height b.height c.height)
      (own_flat F.S F.N a.low b.low c.low a.height b.height c.height F.low_a F.low_b F.low_c)
      (other_flat F.S F.N' a.high b.high c.high a.height b.height c.height F.high_a F.high_b F.high_c)
      (level_some F.S F.N a.low b.low c.low a.height b.height c.height F.low_a F.low_b F.low_c z y
      h.size e q)) [
        | inl g ↦ on_near why z h.size e g.1
        | inr g ↦ on_sides g
      ]

  twice : (t : ℤ) → F.S *ℤ t -ℤ F.N ≡ F.S *ℤ neg_ℤ (neg_ℤ t) -ℤ F.N
  twice t = ap (λ (s : ℤ). F.S *ℤ s -ℤ F.N) (sym (neg_ℤ-neg_ℤ t))

  far_decides : Past a b c n → (z y : Weights) → In R a b c z → high_of a b c z ≡ pos 0 → Negative (high_of a b c y) → Plane-found R a b c n
  far_decides why z y h e q =
      elim (level_decides R a b c z (level_down a b c) h
      (Identities.level_total (neg_ℤ a.height) (neg_ℤ b.height) (neg_ℤ c.height))
      (other_flat F.S F.N a.low b.low c.low (neg_ℤ a.height) (neg_ℤ b.height) (neg_ℤ c.height)
      (F.low_a ∙ twice a.height) (F.low_b ∙ twice b.height) (F.low_c ∙ twice c.height))
      (own_flat F.S F.N' a.high b.high c.high (neg_ℤ a.height) (neg_ℤ b.height) (neg_ℤ c.height)
      F.high_a F.high_b F.high_c)
      (level_some F.S F.N' a.high b.high c.high (neg_ℤ a.height) (neg_ℤ b.height) (neg_ℤ c.height)
      F.high_a F.high_b F.high_c z y h.size e q)) [
        | inl g ↦ on_far why z h.size e g.1
        | inr g ↦ on_sides g
      ]

  -- ---- whatever holds it
  stopped_decides : (x y : Weights) → (Negative (low_of a b c y) → Before a b c n) → (Negative (high_of a b c y) → Past a b c n) → (m k : ℕ)
      → In R a b c (along (pos (suc m)) x (pos k) y) → Held-by a b c y (along (pos (suc m)) x (pos k) y) → Plane-found R a b c n
  stopped_decides x y lo hi m k g (by_first e q) = on_sides (without_one R a b c y (along (pos (suc m)) x (pos k) y) g (inl e))
  stopped_decides x y lo hi m k g (by_second e q) = on_sides (without_one R a b c y (along (pos (suc m)) x (pos k) y) g (inr (inl e)))
  stopped_decides x y lo hi m k g (by_third e q) = on_sides (without_one R a b c y (along (pos (suc m)) x (pos k) y) g (inr (inr e)))
  stopped_decides x y lo hi m k g (by_low e q) = near_decides (lo q) (along (pos (suc m)) x (pos k) y) y g e q
  stopped_decides x y lo hi m k g (by_high e q) = far_decides (hi q) (along (pos (suc m)) x (pos k) y) y g e q

  -- ---- toward the axis
  axis_target : (y : Weights) → Positive (total y) → sideways a b c y ≡ pos 0 → upward a b c y ≡ pos 0 → inward a b c y ≡ pos 0
      → Target R a b c y
  axis_target y p ex ey ez =
      point p
      (nonneg_as (sym ((λ s. disc R (total y) (ex s) (ey s) (ez s)) ∙ Identities.disc_axis R (total y)))
      (nonneg_times nR (square_nonneg (total y))))

  -- ---- along it, away from the far cap
  module _ (zero : total n ≡ pos 0) where
    walk_along : (x y : Weights) → In R a b c x → total y ≡ pos 0 → sideways a b c y ≡ pos 0 → upward a b c y ≡ pos 0
        → inward a b c y ≡ pos 0 → (y.i ≡ pos 0 → y.j ≡ pos 0 → y.k ≡ pos 0 → ⊥) → Nonneg (high_of a b c y) → Plane-found R a b c n
    walk_along x y h t ex ey ez some p = go (walk R a b c x y h (direction t ex ey ez some))
      where
        go : Walked R a b c x y → Plane-found R a b c n
        go (arrived g) = absurd (no_positive_zero g.size t)
        go (held m k g s) = stopped_decides x y (λ q. nowhere zero) (λ q. absurd (clash_signs p q)) m k g s

    opposed : (y : Weights) (u v w : ℤ) → sum_of y u v w ≡ pos 0 → sum_of (opposite y) u v w ≡ pos 0
    opposed y u v w e = Identities.negated_sum y.i y.j y.k u v w ∙ ap neg_ℤ e

    unopposed : (z : ℤ) → neg_ℤ z ≡ pos 0 → z ≡ pos 0
    unopposed z e = sym (neg_ℤ-neg_ℤ z) ∙ ap neg_ℤ e

    along_decides : (x y : Weights) → In R a b c x → total y ≡ pos 0 → sideways a b c y ≡ pos 0 → upward a b c y ≡ pos 0
        → inward a b c y ≡ pos 0 → (y.i ≡ pos 0 → y.j ≡ pos 0 → y.k ≡ pos 0 → ⊥) → Plane-found R a b c n
    along_decides x y h t ex ey ez some = elim (sign_of (high_of a b c y)) [
      | inr p ↦ walk_along x y h t ex ey ez some p
      | inl q ↦ walk_along x (opposite y) h (Identities.negated_total y.i y.j y.k ∙ ap neg_ℤ t)
          (opposed y a.moment.x b.moment.x c.moment.x ex) (opposed y a.moment.y b.moment.y c.moment.y ey)
          (opposed y a.moment.z b.moment.z c.moment.z ez)
          (λ u v w. some (unopposed y.i u) (unopposed y.j v) (unopposed y.k w))
          (nonneg_as (sym (Identities.negated_sum y.i y.j y.k a.high b.high c.high))
          (positive_nonneg (negated_positive q)))
    ]

    -- a direction that some numbers of the corners give, or the numbers are equal
    by_numbers : (x : Weights) → In R a b c x → (u v w : ℤ) → sideways a b c (leveled u v w) ≡ pos 0 → upward a b c (leveled u v w) ≡ pos 0
        → inward a b c (leveled u v w) ≡ pos 0 → Plane-found R a b c n ⊎ (v -ℤ u ≡ pos 0)
    by_numbers x h u v w ex ey ez = elim (zero_or_not (u -ℤ v)) [
      | inl e ↦ inr (Identities.minus_back u v ∙ ap neg_ℤ e)
      | inr e ↦ inl (along_decides x (leveled u v w) h (Identities.level_total u v w) ex ey ez (λ p q r. e r))
    ]

    none : (z : ℤ) → total n *ℤ z ≡ pos 0
    none z = ap (λ (t : ℤ). t *ℤ z) zero ∙ zero-*ℤ z

    beside_decides : (x : Weights) → In R a b c x → Plane-found R a b c n
    beside_decides x h =
        let ax = a.moment.x in
        let ay = a.moment.y in
        let az = a.moment.z in
        let bx = b.moment.x in
        let by = b.moment.y in
        let bz = b.moment.z in
        let cx = c.moment.x in
        let cy = c.moment.y in
        let cz = c.moment.z in
        elim (by_numbers x h ax bx cx (Identities.own_level ax bx cx) (F.flat_xy ∙ none F.r)
        (Identities.level_back ax bx cx az bz cz ∙ ap neg_ℤ (F.flat_zx ∙ none F.q))) [
          | inl g ↦ g
          | inr ex ↦ elim (by_numbers x h ay by cy (Identities.level_back ay by cy ax bx cx ∙ ap neg_ℤ (F.flat_xy ∙ none F.r))
              (Identities.own_level ay by cy) (F.flat_yz ∙ none F.p)) [
                | inl g ↦ g
                | inr ey ↦ elim (by_numbers x h az bz cz (F.flat_zx ∙ none F.q)
                    (Identities.level_back az bz cz ay by cy ∙ ap neg_ℤ (F.flat_yz ∙ none F.p)) (Identities.own_level az bz cz)) [
                      | inl g ↦ g
                      | inr ez ↦ along_decides x (record { i = negsuc 0; j = pos 1; k = pos 0 }) h refl
                          (Identities.toward_sum ax bx cx ∙ ex) (Identities.toward_sum ay by cy ∙ ey) (Identities.toward_sum az bz cz ∙ ez)
                          (λ p q r. no_negative_zero (record { less = 0; is = refl }) p)
                    ]
              ]
        ]

  opposite_sum : (p q r : ℤ) → sum_of n p q r ≡ pos 0 → sum_of (opposite n) p q r ≡ pos 0
  opposite_sum p q r e = Identities.negated_sum n.i n.j n.k p q r ∙ ap neg_ℤ e

  pub interior_decides : (x : Weights) → In R a b c x → Plane-found R a b c n
  interior_decides x h = elim (sign_of (total n)) [
    | inl q ↦ backward q (walk R a b c x (opposite n) h
        (axis_target (opposite n) (positive_as (sym (Identities.negated_total n.i n.j n.k)) (negated_positive q))
        (opposite_sum a.moment.x b.moment.x c.moment.x F.axis_x)
        (opposite_sum a.moment.y b.moment.y c.moment.y F.axis_y)
        (opposite_sum a.moment.z b.moment.z c.moment.z F.axis_z)))
    | inr p ↦ elim (positive_or_zero p) [
      | inl q ↦ forward q (walk R a b c x n h (axis_target n q F.axis_x F.axis_y F.axis_z))
      | inr e ↦ beside_decides e x h
    ]
  ]
    where
      forward : Positive (total n) → Walked R a b c x n → Plane-found R a b c n
      forward p (arrived g) = on_axis g
      forward p (held m k g s) = stopped_decides x n (λ q. before p q) (λ q. past p q) m k g s

      backward : Negative (total n) → Walked R a b c x (opposite n) → Plane-found R a b c n
      backward p (arrived g) = on_axis_back g
      backward p (held m k g s) = stopped_decides x (opposite n) (λ q. before_back p q) (λ q. past_back p q) m k g s
