-- A point in the first drill is moved by less than the margin when corners, origin and direction are read on the grid. Assumes nothing.
use Rattle.std.proofs.Common.{ℤ, pos, ◌+ℤ◌, ◌-ℤ◌, ◌*ℤ◌, sym, refl, ap, ◌∙◌}
use Rattle.exact_depth.specs.declared.projection.Point.{Point}
use Rattle.drill.specs.Drill.{dot, square}
use Rattle.wide_integers.proofs.Signs.{Nonneg, Positive, natural, nonneg_as, positive_nonneg, nonneg_sum, nonneg_times}
use Rattle.wide_integers.proofs.Signs.{positive_times, square_nonneg, nonneg_cancel}
use Rattle.mesh_drill.proofs.Bounded.{Bounded, bounded_as, bounded_sum, bounded_scaled, bounded_negated, bounded_times}
use Rattle.mesh_drill.proofs.Bounded.{bounded_wider}
use Rattle.mesh_drill.proofs.Bounded.{bounded_square, bounded_root}
use Rattle.mesh_drill.proofs.Identities as Identities

-- A point X / D from the origin, an axis with the direction v, in parts of K, and the drill of radius R about it from lo to hi; a unit of
-- the
-- grid is W. When the point is moved to q / D, by at most a unit in each coordinate, and the direction to d, by at most half a unit, the
-- point
-- lies in the drill of radius r from n to f, 3 1/2 units longer at both ends, and 3 units wider than S, which is not 0 and not below R.
pub record Facts (K W D R S r lo hi n f : ℤ) (X q v d : Point) : Type 0 where
  pub some_parts : Positive K
  pub some_weights : Positive D
  pub finer : Positive W
  pub radius : Nonneg R
  pub some_radius : Positive S
  pub wider : Nonneg (S -ℤ R)
  pub start : Nonneg lo
  pub not_long : Nonneg (K -ℤ hi)
  pub narrow : Nonneg (K -ℤ pos 4 *ℤ R)
  pub moves : Positive (square v)
  pub long : Nonneg (pos 4 *ℤ square d -ℤ pos 3 *ℤ (K *ℤ K))
  pub point_x : Bounded (pos 2 *ℤ D *ℤ W) (pos 2 *ℤ (X.x -ℤ q.x))
  pub point_y : Bounded (pos 2 *ℤ D *ℤ W) (pos 2 *ℤ (X.y -ℤ q.y))
  pub point_z : Bounded (pos 2 *ℤ D *ℤ W) (pos 2 *ℤ (X.z -ℤ q.z))
  pub direction_x : Bounded W (pos 2 *ℤ (v.x -ℤ d.x))
  pub direction_y : Bounded W (pos 2 *ℤ (v.y -ℤ d.y))
  pub direction_z : Bounded W (pos 2 *ℤ (v.z -ℤ d.z))
  pub near : Nonneg (pos 2 *ℤ (lo -ℤ n) -ℤ pos 7 *ℤ W)
  pub far : Nonneg (pos 2 *ℤ (f -ℤ hi) -ℤ pos 7 *ℤ W)
  pub room : Nonneg (r -ℤ (S +ℤ pos 3 *ℤ W))
  pub least : Nonneg (K *ℤ dot X v -ℤ lo *ℤ square v *ℤ D)
  pub most : Nonneg (hi *ℤ square v *ℤ D -ℤ K *ℤ dot X v)
  pub close : Nonneg (R *ℤ R *ℤ square v *ℤ (D *ℤ D) -ℤ (square X *ℤ square v -ℤ dot X v *ℤ dot X v))

module _ (K W D R S r lo hi n f : ℤ) (X q v d : Point) (k : Facts K W D R S r lo hi n f X q v d) where
  abbrev M : ℤ
  M = square v

  abbrev h : ℤ
  h = dot X v

  abbrev m : ℤ
  m = square d

  abbrev g : ℤ
  g = dot q d

  n_w : Nonneg W
  n_w = positive_nonneg k.finer

  n_d : Nonneg D
  n_d = positive_nonneg k.some_weights

  n_k : Nonneg K
  n_k = positive_nonneg k.some_parts

  n_m : Nonneg M
  n_m = positive_nonneg k.moves

  nm : Nonneg m
  nm = nonneg_sum (nonneg_sum (square_nonneg d.x) (square_nonneg d.y)) (square_nonneg d.z)

  -- ---- the foot
  nh : Nonneg h
  nh =
      nonneg_cancel k.some_parts
      (nonneg_as (sym (Identities.foot_after K M D h lo)) (nonneg_sum k.least (nonneg_times (nonneg_times k.start n_m) n_d)))

  before : Nonneg (D *ℤ M -ℤ h)
  before =
      nonneg_cancel k.some_parts
      (nonneg_as (sym (Identities.foot_before K M D h hi)) (nonneg_sum k.most (nonneg_times k.not_long (nonneg_times n_m n_d))))

  -- ---- the vector from the foot to the point, M D times it, and what it is moved by
  abbrev first : ℤ → ℤ → ℤ
  first a c = M *ℤ a -ℤ h *ℤ c

  abbrev moved : ℤ → ℤ → ℤ → ℤ → ℤ
  moved a b c e = M *ℤ (b -ℤ a) +ℤ h *ℤ (c -ℤ e)

  abbrev B : ℤ
  B = pos 3 *ℤ M *ℤ D *ℤ W

  moves : (a b c e : ℤ) → Bounded (pos 2 *ℤ D *ℤ W) (pos 2 *ℤ (a -ℤ b)) → Bounded W (pos 2 *ℤ (c -ℤ e))
      → Bounded B (pos 2 *ℤ moved a b c e)
  moves a b c e p s =
      bounded_wider (nonneg_as (sym (Identities.vector_bound W M h D)) (nonneg_times n_w before))
      (bounded_as refl (Identities.vector_moved M h a b c e)
      (bounded_sum (bounded_scaled n_m (bounded_negated p)) (bounded_scaled nh s)))

  ex : Bounded B (pos 2 *ℤ moved X.x q.x v.x d.x)
  ex = moves X.x q.x v.x d.x k.point_x k.direction_x

  ey : Bounded B (pos 2 *ℤ moved X.y q.y v.y d.y)
  ey = moves X.y q.y v.y d.y k.point_y k.direction_y

  ez : Bounded B (pos 2 *ℤ moved X.z q.z v.z d.z)
  ez = moves X.z q.z v.z d.z k.point_z k.direction_z

  abbrev squares : ℤ → ℤ → ℤ → ℤ
  squares a b c = a *ℤ a +ℤ b *ℤ b +ℤ c *ℤ c

  -- it is moved by less than 3 units
  moved_little : Nonneg (B *ℤ B -ℤ squares (moved X.x q.x v.x d.x) (moved X.y q.y v.y d.y) (moved X.z q.z
      v.z d.z))
  moved_little =
      nonneg_cancel {k = pos 4} (record { less = 3; is = refl })
      (nonneg_as (sym (Identities.three_squares B (moved X.x q.x v.x d.x) (moved X.y q.y v.y d.y) (moved X.z
      q.z v.z d.z)))
      (nonneg_sum (nonneg_sum (nonneg_sum (bounded_square ex) (bounded_square ey)) (bounded_square ez)) (square_nonneg B)))

  -- before, it is not longer than the radius
  MD : Positive (M *ℤ D)
  MD = positive_times k.moves k.some_weights

  first_close : Nonneg (M *ℤ D *ℤ R *ℤ (M *ℤ D *ℤ R) -ℤ squares (first X.x v.x) (first X.y v.y) (first X.z v.z))
  first_close =
      nonneg_as (sym (Identities.first_close M D R (square X) h)
      ∙ ap (λ (z : ℤ). M *ℤ D *ℤ R *ℤ (M *ℤ D *ℤ R) -ℤ z)
      (sym (Identities.across M h X.x X.y X.z v.x v.y v.z)))
      (nonneg_times n_m k.close)

  abbrev A : ℤ
  A = M *ℤ D *ℤ S

  first_closer : Nonneg (A *ℤ A -ℤ squares (first X.x v.x) (first X.y v.y) (first X.z v.z))
  first_closer =
      nonneg_as (sym (Identities.first_closer M D R S (squares (first X.x v.x) (first X.y v.y) (first X.z v.z))))
      (nonneg_sum first_close
      (nonneg_times (positive_nonneg (positive_times MD MD)) (nonneg_times k.wider
      (nonneg_as (sym (Identities.wider_sum R S)) (nonneg_sum k.wider (nonneg_times (natural 2) k.radius))))))

  p_a : Positive A
  p_a = positive_times MD k.some_radius

  p_b : Positive B
  p_b = positive_times (positive_times (positive_times {x = pos 3} (record { less = 2; is = refl }) k.moves) k.some_weights) k.finer

  -- so with both the radius and 3 units suffice
  abbrev C : ℤ
  C = A +ℤ B

  both : (u₁ u₂ u₃ e₁ e₂ e₃ : ℤ) → Nonneg (A *ℤ A -ℤ squares u₁ u₂ u₃) → Nonneg (B *ℤ B -ℤ squares e₁ e₂ e₃)
      → Nonneg (C *ℤ C -ℤ squares (u₁ +ℤ e₁) (u₂ +ℤ e₂) (u₃ +ℤ e₃))
  both u₁ u₂ u₃ e₁ e₂ e₃ s t =
      let AB = positive_times p_a p_b in
      nonneg_cancel AB
      (nonneg_as (sym (Identities.triangle A B u₁ u₂ u₃ e₁ e₂ e₃))
      (nonneg_sum
      (nonneg_sum
      (nonneg_sum (nonneg_sum (nonneg_times (positive_nonneg AB) s) (nonneg_times (positive_nonneg AB) t))
      (nonneg_sum (nonneg_sum (square_nonneg (B *ℤ u₁ -ℤ A *ℤ e₁)) (square_nonneg (B *ℤ u₂ -ℤ A *ℤ e₂)))
      (square_nonneg (B *ℤ u₃ -ℤ A *ℤ e₃))))
      (nonneg_times (square_nonneg B) s))
      (nonneg_times (square_nonneg A) t)))

  abbrev second : ℤ → ℤ → ℤ
  second b e = M *ℤ b -ℤ h *ℤ e

  second_close : Nonneg (M *ℤ D *ℤ r *ℤ (M *ℤ D *ℤ r) -ℤ squares (second q.x d.x) (second q.y d.y) (second q.z d.z))
  second_close =
      nonneg_as (sym (Identities.then_close W M D S r (squares (second q.x d.x) (second q.y d.y) (second q.z d.z))))
      (nonneg_sum (nonneg_times (nonneg_times (positive_nonneg MD) k.room) (nonneg_times (positive_nonneg MD) wide))
      (nonneg_as
      (λ s. C *ℤ C -ℤ squares (Identities.vector_sum M h X.x q.x v.x d.x s) (Identities.vector_sum M h X.y q.y v.y
      d.y s) (Identities.vector_sum M h X.z q.z v.z d.z s))
      (both (first X.x v.x) (first X.y v.y) (first X.z v.z) (moved X.x q.x v.x d.x)
      (moved X.y q.y v.y d.y) (moved X.z q.z v.z d.z) first_closer moved_little)))
    where
      wide : Nonneg (r +ℤ (S +ℤ pos 3 *ℤ W))
      wide =
          let s = nonneg_sum (positive_nonneg k.some_radius) (nonneg_times (natural 3) n_w) in
          nonneg_as (Identities.wide r (S +ℤ pos 3 *ℤ W)) (nonneg_sum k.room (nonneg_times (natural 2) s))

  pub kept_close : Nonneg (r *ℤ r *ℤ m *ℤ (D *ℤ D) -ℤ (square q *ℤ m -ℤ g *ℤ g))
  kept_close =
      nonneg_cancel (positive_times k.moves k.moves)
      (nonneg_as (sym (Identities.to_axis M D r m (square q) h g))
      (nonneg_sum
      (nonneg_times nm
      (nonneg_as
      (ap (λ (z : ℤ). M *ℤ D *ℤ r *ℤ (M *ℤ D *ℤ r) -ℤ z) (Identities.across M h q.x q.y q.z d.x d.y d.z))
      second_close))
      (square_nonneg (M *ℤ g -ℤ h *ℤ m))))

  -- ---- the foot
  abbrev Q : ℤ
  Q = M *ℤ D *ℤ R

  n_q : Nonneg Q
  n_q = nonneg_times (positive_nonneg MD) k.radius

  u₁ : Bounded Q (first X.x v.x)
  u₁ =
      bounded_root n_q
      (nonneg_as (sym (Identities.one_square Q (first X.x v.x) (first X.y v.y) (first X.z v.z)))
      (nonneg_sum (nonneg_sum first_close (square_nonneg (first X.y v.y))) (square_nonneg (first X.z v.z))))

  u₂ : Bounded Q (first X.y v.y)
  u₂ =
      bounded_root n_q
      (nonneg_as (sym (Identities.other_square Q (first X.x v.x) (first X.y v.y) (first X.z v.z)))
      (nonneg_sum (nonneg_sum first_close (square_nonneg (first X.x v.x))) (square_nonneg (first X.z v.z))))

  u₃ : Bounded Q (first X.z v.z)
  u₃ =
      bounded_root n_q
      (nonneg_as (sym (Identities.third_square Q (first X.x v.x) (first X.y v.y) (first X.z v.z)))
      (nonneg_sum (nonneg_sum first_close (square_nonneg (first X.x v.x))) (square_nonneg (first X.y v.y))))

  half : (e : ℤ) → Bounded (pos 4 *ℤ (e *ℤ e) +ℤ K *ℤ K) (pos 4 *ℤ K *ℤ e)
  half e = record {
    low = nonneg_as (sym (Identities.half_low K e)) (square_nonneg (pos 2 *ℤ e +ℤ K));
    high = nonneg_as (sym (Identities.half_high K e)) (square_nonneg (pos 2 *ℤ e -ℤ K));
  }

  -- how far it is moved along the axis
  abbrev T : ℤ
  T = pos 12 *ℤ K *ℤ (M *ℤ D *ℤ R *ℤ W) +ℤ pos 3 *ℤ M *ℤ D *ℤ W *ℤ (pos 4 *ℤ m +ℤ pos 3 *ℤ (K *ℤ K))

  foot_moved : Bounded T (pos 8 *ℤ K *ℤ (M *ℤ g -ℤ h *ℤ m))
  foot_moved =
      bounded_as (Identities.foot_bound K W M D R d.x d.y d.z)
      (sym (Identities.foot_moved K M h X.x X.y X.z q.x q.y q.z v.x v.y v.z d.x d.y d.z
      ∙ Identities.no_foot K M h _))
      (bounded_sum
      (bounded_scaled (nonneg_times (natural 4) n_k)
      (bounded_negated
      (bounded_sum (bounded_sum (bounded_times u₁ k.direction_x) (bounded_times u₂ k.direction_y))
      (bounded_times u₃ k.direction_z))))
      (bounded_sum (bounded_sum (bounded_times ex (half d.x)) (bounded_times ey (half d.y))) (bounded_times ez (half d.z))))

  rest : Nonneg (M *ℤ D *ℤ W *ℤ (pos 4 *ℤ (pos 4 *ℤ m -ℤ pos 3 *ℤ (K *ℤ K)) +ℤ pos 3 *ℤ K *ℤ (K -ℤ pos 4 *ℤ R)))
  rest =
      nonneg_times (nonneg_times (positive_nonneg MD) n_w)
      (nonneg_sum (nonneg_times (natural 4) k.long) (nonneg_times (nonneg_times (natural 3) n_k) k.narrow))

  eight : Positive (pos 8 *ℤ M)
  eight = positive_times {x = pos 8} (record { less = 7; is = refl }) k.moves

  four_m : Nonneg (pos 4 *ℤ m *ℤ M *ℤ D)
  four_m = nonneg_times (nonneg_times (nonneg_times (natural 4) nm) n_m) n_d

  pub kept_least : Nonneg (K *ℤ g -ℤ n *ℤ m *ℤ D)
  kept_least =
      nonneg_cancel eight
      (nonneg_as (sym (Identities.start_kept K W M D R h g m lo n))
      (nonneg_sum
      (nonneg_sum (nonneg_sum foot_moved.low (nonneg_times (nonneg_times (natural 8) nm) k.least)) (nonneg_times four_m k.near))
      rest))

  pub kept_most : Nonneg (f *ℤ m *ℤ D -ℤ K *ℤ g)
  kept_most =
      nonneg_cancel eight
      (nonneg_as (sym (Identities.end_kept K W M D R h g m hi f))
      (nonneg_sum
      (nonneg_sum (nonneg_sum foot_moved.high (nonneg_times (nonneg_times (natural 8) nm) k.most)) (nonneg_times four_m k.far))
      rest))
