-- The test of the point nearest to a cap's centre, on the line in which the triangle's plane crosses the cap's. Assumes nothing.
use mathlib.Core.Path.{◌≡◌, refl, sym, ap, ◌∙◌}
use mathlib.Core.Bool.{Bool, true, ◌&&◌}
use Prim.Native.Nat.{ℕ, ◌*◌}
use lib.IntN.{ℤ, pos, neg_ℤ, ◌+ℤ◌, ◌-ℤ◌, ◌*ℤ◌, zero-*ℤ, +ℤ_idl}
use lib.Signed.{lt_z, le_z}
use Rattle.wide_integers.proofs.Polynomials.{sum_comm}
use Rattle.exact_depth.specs.declared.projection.Point.{Point}
use Rattle.exact_triangle.specs.Line.{parts}
use Rattle.drill.specs.Drill.{dot, square}
use Rattle.drill.specs.Decision.{FromAxis, cap_in}
use Rattle.wide_integers.proofs.Signs.{Nonneg, Positive, nonneg_as, nonneg_times, nonneg_cancel, positive_nonneg, positive_times}
use Rattle.wide_integers.proofs.Signs.{positive_as}
use Rattle.wide_integers.proofs.Signs.{positive_cancel, minus_of_le, le_of_minus, nonneg_of_le, le_of_nonneg, positive_of_lt}
use Rattle.wide_integers.proofs.Signs.{lt_of_positive}
use Rattle.drill.proofs.Identities as Identities
use Rattle.drill.proofs.Weighing.{Weights, total, sum_of, disc, sideways, upward, inward, room, low_of, high_of, In}
use Rattle.drill.proofs.Multiples.{scaled}
use Rattle.drill.proofs.Footing.{length, way, foot}
use Rattle.drill.proofs.Interiors.{leveled}
use Rattle.drill.proofs.Feet.{Five, five_pass, five_parts, reach}

-- the weights of the point where s and f are both 0
abbrev pub cap_weights : ℤ → ℤ → ℤ → ℤ → ℤ → ℤ → Weights
cap_weights sa sb sc fa fb fc = record { i = sb *ℤ fc -ℤ sc *ℤ fb; j = sc *ℤ fa -ℤ sa *ℤ fc; k = sa *ℤ fb -ℤ sb *ℤ fa }

abbrev pub cap_point : FromAxis → FromAxis → FromAxis → Point → ℤ → ℤ → ℤ → Weights
cap_point a b c g fa fb fc = cap_weights (dot a.at g) (dot b.at g) (dot c.at g) fa fb fc

abbrev S : ℤ
S = pos parts

-- f is 2^30 t less N; s goes along g, the direction in which t stays; and its moment is g times something
pub record CapFacts (d : Point) (a b c : FromAxis) (fa fb fc ta tb tc κ : ℤ) (g : Point) : Type 0 where
  pub N : ℤ
  pub f_a : fa ≡ pos parts *ℤ ta -ℤ N
  pub f_b : fb ≡ pos parts *ℤ tb -ℤ N
  pub f_c : fc ≡ pos parts *ℤ tc -ℤ N
  pub s_a : a.moment.x *ℤ sideways a b c (leveled ta tb tc) +ℤ a.moment.y *ℤ upward a b c (leveled ta tb tc)
      +ℤ a.moment.z *ℤ inward a b c (leveled ta tb tc) ≡ dot a.at g *ℤ square d
  pub s_b : b.moment.x *ℤ sideways a b c (leveled ta tb tc) +ℤ b.moment.y *ℤ upward a b c (leveled ta tb tc)
      +ℤ b.moment.z *ℤ inward a b c (leveled ta tb tc) ≡ dot b.at g *ℤ square d
  pub s_c : c.moment.x *ℤ sideways a b c (leveled ta tb tc) +ℤ c.moment.y *ℤ upward a b c (leveled ta tb tc)
      +ℤ c.moment.z *ℤ inward a b c (leveled ta tb tc) ≡ dot c.at g *ℤ square d
  pub own : (tb -ℤ tc) *ℤ dot a.at g +ℤ (tc -ℤ ta) *ℤ dot b.at g +ℤ (ta -ℤ tb) *ℤ dot c.at g ≡ square g
  pub at_x : sideways a b c (cap_point a b c g fa fb fc) ≡ neg_ℤ (square d *ℤ κ) *ℤ g.x
  pub at_y : upward a b c (cap_point a b c g fa fb fc) ≡ neg_ℤ (square d *ℤ κ) *ℤ g.y
  pub at_z : inward a b c (cap_point a b c g fa fb fc) ≡ neg_ℤ (square d *ℤ κ) *ℤ g.z

module _ (ρ : ℕ) (d : Point) (a b c : FromAxis) (fa fb fc ta tb tc κ : ℤ) (g : Point) (F : CapFacts d a b c fa fb fc ta tb tc κ g) where
  abbrev R : ℤ
  R = reach ρ d

  abbrev D : ℤ
  D = square d

  abbrev G : ℤ
  G = square g

  abbrev sa : ℤ
  sa = dot a.at g

  abbrev sb : ℤ
  sb = dot b.at g

  abbrev sc : ℤ
  sc = dot c.at g

  abbrev w : Weights
  w = cap_weights sa sb sc fa fb fc

  abbrev δ : Weights
  δ = leveled ta tb tc

  abbrev gap : ℤ
  gap = pos (ρ * ρ) *ℤ (S *ℤ S) *ℤ G -ℤ κ *ℤ κ *ℤ D

  total_is : total w ≡ S *ℤ G
  total_is =
      (λ s. (sb *ℤ F.f_c s -ℤ sc *ℤ F.f_b s) +ℤ (sc *ℤ F.f_a s -ℤ sa *ℤ F.f_c s) +ℤ (sa *ℤ F.f_b s -ℤ sb *ℤ F.f_a s))
      ∙ Identities.cap_total sa sb sc ta tb tc S F.N ∙ ap (λ (z : ℤ). S *ℤ z) F.own

  room_is : room R a b c w ≡ G *ℤ (D *ℤ gap)
  room_is =
      (λ s. disc R (total_is s) (F.at_x s) (F.at_y s) (F.at_z s))
      ∙ Identities.cap_room (pos (ρ * ρ)) D S (neg_ℤ (D *ℤ κ)) g.x g.y g.z
      ∙ ap (λ (z : ℤ). G *ℤ z) (Identities.cap_kappa (pos (ρ * ρ)) D S G κ)

  -- ---- the foot from any point of that line has these weights
  module _ (x : Weights) (zero : sum_of x fa fb fc ≡ pos 0) where
    shares : (y : Weights)
        → sideways a b c y *ℤ sideways a b c δ +ℤ upward a b c y *ℤ upward a b c δ +ℤ inward a b c y *ℤ inward a b c δ
        ≡ y.i *ℤ (sa *ℤ D) +ℤ y.j *ℤ (sb *ℤ D) +ℤ y.k *ℤ (sc *ℤ D)
    shares y =
        Identities.shares y.i y.j y.k a.moment.x a.moment.y a.moment.z b.moment.x b.moment.y b.moment.z
        c.moment.x c.moment.y c.moment.z (sideways a b c δ) (upward a b c δ) (inward a b c δ)
        ∙ (λ s. y.i *ℤ F.s_a s +ℤ y.j *ℤ F.s_b s +ℤ y.k *ℤ F.s_c s)

    none : x.i *ℤ (S *ℤ ta -ℤ F.N) +ℤ x.j *ℤ (S *ℤ tb -ℤ F.N) +ℤ x.k *ℤ (S *ℤ tc -ℤ F.N) ≡ pos 0
    none = (λ s. x.i *ℤ sym F.f_a s +ℤ x.j *ℤ sym F.f_b s +ℤ x.k *ℤ sym F.f_c s) ∙ zero

    without : (y z : ℤ)
        → y +ℤ (x.i *ℤ (S *ℤ ta -ℤ F.N) +ℤ x.j *ℤ (S *ℤ tb -ℤ F.N) +ℤ x.k *ℤ (S *ℤ tc -ℤ F.N)) *ℤ z ≡ y
    without y z = ap (λ (t : ℤ). y +ℤ t *ℤ z) none ∙ ap (λ (t : ℤ). y +ℤ t) (zero-*ℤ z) ∙ sum_comm y (pos 0) ∙ +ℤ_idl y

    -- one weight, from the identity that it rests on
    back : (v u : ℤ)
        → S *ℤ ((δ.i *ℤ (sa *ℤ D) +ℤ δ.j *ℤ (sb *ℤ D) +ℤ δ.k *ℤ (sc *ℤ D)) *ℤ v
        +ℤ neg_ℤ (x.i *ℤ (sa *ℤ D) +ℤ x.j *ℤ (sb *ℤ D) +ℤ x.k *ℤ (sc *ℤ D)) *ℤ u)
        ≡ S *ℤ (length a b c δ *ℤ v +ℤ neg_ℤ (way a b c x δ) *ℤ u)
    back v u = λ s. S *ℤ (sym (shares δ) s *ℤ v +ℤ neg_ℤ (sym (shares x) s) *ℤ u)

    first_is : total x *ℤ D *ℤ w.i ≡ S *ℤ (foot a b c x δ).i
    first_is =
        (λ s. total x *ℤ D *ℤ (sb *ℤ F.f_c s -ℤ sc *ℤ F.f_b s))
        ∙ Identities.chord_first x.i x.j x.k sa sb sc ta tb tc S F.N D
        ∙ without (S *ℤ ((δ.i *ℤ (sa *ℤ D) +ℤ δ.j *ℤ (sb *ℤ D) +ℤ δ.k *ℤ (sc *ℤ D)) *ℤ x.i
        +ℤ neg_ℤ (x.i *ℤ (sa *ℤ D) +ℤ x.j *ℤ (sb *ℤ D) +ℤ x.k *ℤ (sc *ℤ D)) *ℤ δ.i)) (D *ℤ (sb -ℤ sc))
        ∙ back x.i δ.i

    second_is : total x *ℤ D *ℤ w.j ≡ S *ℤ (foot a b c x δ).j
    second_is =
        (λ s. total x *ℤ D *ℤ (sc *ℤ F.f_a s -ℤ sa *ℤ F.f_c s))
        ∙ Identities.chord_second x.i x.j x.k sa sb sc ta tb tc S F.N D
        ∙ without (S *ℤ ((δ.i *ℤ (sa *ℤ D) +ℤ δ.j *ℤ (sb *ℤ D) +ℤ δ.k *ℤ (sc *ℤ D)) *ℤ x.j
        +ℤ neg_ℤ (x.i *ℤ (sa *ℤ D) +ℤ x.j *ℤ (sb *ℤ D) +ℤ x.k *ℤ (sc *ℤ D)) *ℤ δ.j)) (D *ℤ (sc -ℤ sa))
        ∙ back x.j δ.j

    third_is : total x *ℤ D *ℤ w.k ≡ S *ℤ (foot a b c x δ).k
    third_is =
        (λ s. total x *ℤ D *ℤ (sa *ℤ F.f_b s -ℤ sb *ℤ F.f_a s))
        ∙ Identities.chord_third x.i x.j x.k sa sb sc ta tb tc S F.N D
        ∙ without (S *ℤ ((δ.i *ℤ (sa *ℤ D) +ℤ δ.j *ℤ (sb *ℤ D) +ℤ δ.k *ℤ (sc *ℤ D)) *ℤ x.k
        +ℤ neg_ℤ (x.i *ℤ (sa *ℤ D) +ℤ x.j *ℤ (sb *ℤ D) +ℤ x.k *ℤ (sc *ℤ D)) *ℤ δ.k)) (D *ℤ (sa -ℤ sb))
        ∙ back x.k δ.k

    foot_is : Positive (total x) → Positive D → In R a b c (foot a b c x δ) → In R a b c w
    foot_is p pd h =
        scaled R a b c w (foot a b c x δ) (total x *ℤ D) S (positive_times p pd) (record { less = 1073741823; is = refl })
        first_is second_is third_is h

  -- ---- the test
  abbrev tests : Bool
  tests =
      le_z (pos 0) w.i && (le_z (pos 0) w.j && (le_z (pos 0) w.k && (lt_z (pos 0) G
      && le_z (κ *ℤ κ *ℤ D) (pos (ρ * ρ) *ℤ (S *ℤ S) *ℤ G))))

  tests_are : cap_in ρ d g κ a.at b.at c.at fa fb fc ≡ tests
  unfolding cap_in
  tests_are = refl

  parts_positive : Positive S
  parts_positive = record { less = 1073741823; is = refl }

  known : Positive D → In R a b c w → cap_in ρ d g κ a.at b.at c.at fa fb fc ≡ true
  known pd h =
      let pG : Positive G = positive_cancel parts_positive (positive_as total_is h.size) in
      tests_are
      ∙ five_pass (le_z (pos 0) w.i) (le_z (pos 0) w.j) (le_z (pos 0) w.k) (lt_z (pos 0) G)
      (le_z (κ *ℤ κ *ℤ D) (pos (ρ * ρ) *ℤ (S *ℤ S) *ℤ G)) (le_of_nonneg h.first) (le_of_nonneg h.second) (le_of_nonneg h.third)
      (lt_of_positive pG)
      (le_of_minus (κ *ℤ κ *ℤ D) (pos (ρ * ρ) *ℤ (S *ℤ S) *ℤ G)
      (nonneg_cancel pd (nonneg_cancel pG (nonneg_as room_is h.near))))

  pub cap_decides : (x : Weights) → Positive (total x) → sum_of x fa fb fc ≡ pos 0 → Positive D → In R a b c (foot a b c x δ)
      → cap_in ρ d g κ a.at b.at c.at fa fb fc ≡ true
  cap_decides x p e pd h = known pd (foot_is x e p pd h)

  -- ---- and back
  module _ (nd : Nonneg D) (h : cap_in ρ d g κ a.at b.at c.at fa fb fc ≡ true) where
    passed : Five (le_z (pos 0) w.i) (le_z (pos 0) w.j) (le_z (pos 0) w.k) (lt_z (pos 0) G)
        (le_z (κ *ℤ κ *ℤ D) (pos (ρ * ρ) *ℤ (S *ℤ S) *ℤ G))
    passed = five_parts (le_z (pos 0) w.i) (le_z (pos 0) w.j) (le_z (pos 0) w.k) (lt_z (pos 0) G)
        (le_z (κ *ℤ κ *ℤ D) (pos (ρ * ρ) *ℤ (S *ℤ S) *ℤ G)) (sym tests_are ∙ h)

    pub cap_size : Positive (total w)
    cap_size = positive_as (sym total_is) (positive_times parts_positive (positive_of_lt G passed.fourth))

    pub cap_zero : sum_of w fa fb fc ≡ pos 0
    cap_zero = Identities.cap_zero sa sb sc fa fb fc

    pub cap_in_lem : Nonneg (low_of a b c w) → Nonneg (high_of a b c w) → In R a b c w
    cap_in_lem lo hi = record {
      first = nonneg_of_le w.i passed.first;
      second = nonneg_of_le w.j passed.second;
      third = nonneg_of_le w.k passed.third;
      low = lo;
      high = hi;
      size = cap_size;
      near = nonneg_as (sym room_is)
          (nonneg_times (positive_nonneg (positive_of_lt G passed.fourth))
          (nonneg_times nd (minus_of_le (κ *ℤ κ *ℤ D) (pos (ρ * ρ) *ℤ (S *ℤ S) *ℤ G) passed.fifth)));
    }
