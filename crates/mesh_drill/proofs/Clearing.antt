-- What the drill on the grid says of the triangle as drawn: no corner, no origin, no direction is read further off than half a unit.
-- Assumes nothing.
use Rattle.std.proofs.Common.{◌≡◌, ℕ, zero, suc, ◌+◌, ◌*◌, ◌<◌, ◌≤◌, true, ◌&&◌, ℤ, pos, ◌+ℤ◌, ◌-ℤ◌, ◌*ℤ◌, nat_abs, sym, refl, ◌∙◌}
use Rattle.std.proofs.Common.{mul-le-mul_right, arith, lit<, lit≤}
use lib.Ieee.{Float, le}
use Rattle.lists.proofs.JoinedTests.{and_first, and_second}
use Rattle.vectors.specs.Vector.{finite_vec, dot_of}
use Rattle.vectors.specs.declared.vec3.Vec3.{Vec3}
use Rattle.geometry.specs.Segment.{ray_admitted, range_admitted, close_to_unit_length}
use Rattle.geometry.specs.declared.ray.Ray.{Ray}
use Rattle.geometry.proofs.UnitLength.{least_square, close_by_square, admitted_is}
use Rattle.exact_depth.specs.declared.projection.Point.{Point}
use Rattle.exact_depth.specs.Meeting.{mix}
use Rattle.exact_triangle.specs.Line.{parts, Line}
use Rattle.exact_triangle.specs.Shear.{from}
use Rattle.exact_triangle.specs.Grid.{units, nearest_to, within, all_within, two, furthest, longest, grid_admitted, grid_point, grid_line}
use Rattle.exact_triangle.specs.Grid.{point_to}
use Rattle.drill.specs.Drill.{dot, square, mixed, Within, InDrill}
use Rattle.mesh_drill.specs.MeshDrill.{widest}
use Rattle.mesh_drill.specs.Radius.{widestᶠ, radius_on}
use Rattle.mesh_drill.specs.AsDrawn.{margin, margin_of, Equals, Drawing, WithinAsDrawn, FootAsDrawn, InDrillAsDrawn}
use Rattle.mesh_drill.specs.AsDrawn.{ClearAsDrawn, TouchedAsDrawn}
use Rattle.mesh_drill.proofs.Radii.{radius_small}
use Rattle.wide_integers.proofs.Signs.{Nonneg, Positive, natural, nonneg_as, positive_as, positive_nonneg, nonneg_sum, nonneg_times}
use Rattle.wide_integers.proofs.Signs.{square_nonneg}
use Rattle.wide_integers.proofs.Signs.{positive_sum, positive_times, nonneg_cancel, positive_cancel, minus_of_le, le_of_minus}
use Rattle.mesh_drill.proofs.Bounded.{Bounded, bounded_as, bounded_sum, bounded_scaled, bounded_negated, bounded_square}
use Rattle.mesh_drill.proofs.Reading.{minus_natural, above_zero, reads_near, reads_natural, exact_short, read_short}
use Rattle.mesh_drill.proofs.Reading.{radius_not_below, radius_less}
use Rattle.mesh_drill.proofs.Lengths.{exact_long}
use Rattle.mesh_drill.proofs.Footing.{foot_within}
use Rattle.mesh_drill.proofs.Nearby.{Facts, kept_close, kept_least, kept_most}
use Rattle.mesh_drill.proofs.Identities as Identities

-- ---- a point of the triangle moves with its corners and the origin
spread : (W i j k : ℕ) (A B C O a b c o : ℤ) → Bounded (pos W) (pos 2 *ℤ (A -ℤ pos W *ℤ a)) → Bounded (pos W) (pos 2 *ℤ (B -ℤ pos W *ℤ b))
    → Bounded (pos W) (pos 2 *ℤ (C -ℤ pos W *ℤ c)) → Bounded (pos W) (pos 2 *ℤ (O -ℤ pos W *ℤ o))
    → Bounded (pos 2 *ℤ pos (i + j + k) *ℤ pos W)
    (pos 2 *ℤ (mix i j k (A -ℤ O) (B -ℤ O) (C -ℤ O) -ℤ pos W *ℤ mix i j k (a -ℤ o) (b -ℤ o) (c -ℤ o)))
spread W i j k A B C O a b c o p q r s =
    let t = bounded_negated s in
    bounded_as (Identities.point_bound (pos W) (pos i) (pos j) (pos k))
    (Identities.point_moved (pos W) (pos i) (pos j) (pos k) A B C O a b c o)
    (bounded_sum (bounded_sum (bounded_scaled (natural i) (bounded_sum p t)) (bounded_scaled (natural j) (bounded_sum q t)))
    (bounded_scaled (natural k) (bounded_sum r t)))

point_read : (W i j k : ℕ) (a b c o : Float) (A B C O : ℤ) → Equals units W a A → Equals units W b B → Equals units W c C
    → Equals units W o O
    → Bounded (pos 2 *ℤ pos (i + j + k) *ℤ pos W) (pos 2 *ℤ (mix i j k (A -ℤ O) (B -ℤ O) (C -ℤ O)
    -ℤ pos W *ℤ mix i j k (nearest_to units a -ℤ nearest_to units o) (nearest_to units b -ℤ nearest_to units o)
    (nearest_to units c -ℤ nearest_to units o)))
point_read W i j k a b c o A B C O p q r s =
    spread W i j k A B C O (nearest_to units a) (nearest_to units b) (nearest_to units c) (nearest_to units o) (reads_near units W a A p)
    (reads_near units W b B q) (reads_near units W c C r) (reads_near units W o O s)

turned : {B : ℤ} (x y : ℤ) → Bounded B (pos 2 *ℤ (x -ℤ y)) → Bounded B (pos 2 *ℤ (y -ℤ x))
turned {B} x y b = bounded_as refl (Identities.read_turned x y) (bounded_negated b)

-- a point of the grid on a grid W times finer
abbrev finer : ℕ → Point → Point
finer W p = record { x = pos W *ℤ p.x; y = pos W *ℤ p.y; z = pos W *ℤ p.z }

module _ (r : Ray) (x : Float) (a b c : Vec3) (admitted : ray_admitted r ≡ true) (read : grid_admitted r ≡ true)
    (g : Drawing r x a b c) where
  abbrev W : ℕ
  W = g.W

  abbrev l : Line
  l = g.line

  abbrev v : Point
  v = l.direction

  abbrev K : ℤ
  K = pos parts *ℤ pos W

  abbrev d : Point
  d = point_to parts r.direction

  abbrev n : ℕ
  n = nat_abs (nearest_to units r.near)

  abbrev f : ℕ
  f = nat_abs (nearest_to units r.max_distance)

  p_w : Positive (pos W)
  p_w = above_zero W g.positive

  p_k : Positive K
  p_k = positive_times (above_zero parts (lit< tt)) p_w

  -- ---- what the tests of the ray say
  ends : (within longest r.near && within longest r.max_distance) ≡ true
  ends =
      unfold grid_admitted in and_second (all_within two r.direction) _ (and_second (all_within furthest r.origin) _ read)

  short_direction : all_within two r.direction ≡ true
  short_direction =
      unfold grid_admitted in and_first (all_within two r.direction) _ (and_second (all_within furthest r.origin) _ read)

  close_direction : close_to_unit_length r.direction ≡ true
  close_direction =
      and_first (close_to_unit_length r.direction) (range_admitted r) (and_second (finite_vec r.origin) _ (sym (admitted_is r) ∙ admitted))

  long_direction : le least_square (dot_of r.direction r.direction) ≡ true
  long_direction =
      and_first (le least_square (dot_of r.direction r.direction)) _ (sym (close_by_square r.direction) ∙ close_direction)

  short : l.far ≤ parts * W
  short = exact_short W r.max_distance l.far (and_second (within longest r.near) _ ends) g.far_is

  -- ---- the direction, as drawn and on the grid
  direction_x : Bounded (pos W) (pos 2 *ℤ (v.x -ℤ (finer W d).x))
  direction_x = reads_near parts W r.direction.x v.x g.direction_is.x

  direction_y : Bounded (pos W) (pos 2 *ℤ (v.y -ℤ (finer W d).y))
  direction_y = reads_near parts W r.direction.y v.y g.direction_is.y

  direction_z : Bounded (pos W) (pos 2 *ℤ (v.z -ℤ (finer W d).z))
  direction_z = reads_near parts W r.direction.z v.z g.direction_is.z

  unit : Nonneg (pos 64 *ℤ square v -ℤ pos 61 *ℤ (K *ℤ K))
  unit = exact_long W r.direction v short_direction long_direction g.direction_is

  exact_moves : Positive (square v)
  exact_moves =
      positive_cancel {k = pos 64} (record { less = 63; is = refl })
      (positive_as (sym (Identities.exact_length K (square v)))
      (positive_sum (positive_times {x = pos 61} (record { less = 60; is = refl }) (positive_times p_k p_k)) unit))

  exact_enough : Nonneg (pos 4 *ℤ square v -ℤ pos 3 *ℤ (K *ℤ K))
  exact_enough =
      nonneg_cancel {k = pos 16} (record { less = 15; is = refl })
      (nonneg_as (sym (Identities.exact_enough K (square v))) (nonneg_sum unit (nonneg_times (natural 13) (square_nonneg K))))

  component : (x y : ℤ) → Bounded (pos W) (pos 2 *ℤ (x -ℤ pos W *ℤ y))
      → Nonneg (pos 17 *ℤ (pos W *ℤ pos W) *ℤ (y *ℤ y) +ℤ pos 68 *ℤ (pos W *ℤ pos W) -ℤ pos 16 *ℤ (x *ℤ x))
  component x y e =
      nonneg_as (sym (Identities.component (pos W) x y))
      (nonneg_sum (square_nonneg (pos W *ℤ y -ℤ pos 8 *ℤ (pos 2 *ℤ (x -ℤ pos W *ℤ y)))) (nonneg_times (natural 68) (bounded_square e)))

  grid_enough : Nonneg (pos 4 *ℤ square (finer W d) -ℤ pos 3 *ℤ (K *ℤ K))
  grid_enough =
      nonneg_cancel {k = pos 17} (record { less = 16; is = refl })
      (nonneg_as (sym (Identities.long_enough (pos parts) (pos W) v.x v.y v.z d.x d.y d.z))
      (nonneg_sum
      (nonneg_sum
      (nonneg_times (natural 4)
      (nonneg_sum (nonneg_sum (component v.x d.x direction_x) (component v.y d.y direction_y))
      (component v.z d.z direction_z)))
      unit)
      (nonneg_times (natural (W * W)) (minus_natural 816 (10 * (parts * parts)) (lit≤ tt)))))

  grid_moves : Positive (square (finer W d))
  grid_moves =
      positive_cancel {k = pos 4} (record { less = 3; is = refl })
      (positive_as (sym (Identities.grid_length K (square (finer W d))))
      (positive_sum (positive_times {x = pos 3} (record { less = 2; is = refl }) (positive_times p_k p_k)) grid_enough))

  -- ---- the ends
  near : Bounded (pos W) (pos 2 *ℤ (pos l.near -ℤ pos W *ℤ pos n))
  near = reads_natural W l.near (nearest_to units r.near) g.positive (reads_near units W r.near (pos l.near) g.near_is)

  far : Bounded (pos W) (pos 2 *ℤ (pos l.far -ℤ pos W *ℤ pos f))
  far =
      reads_natural W l.far (nearest_to units r.max_distance) g.positive
      (reads_near units W r.max_distance (pos l.far) g.far_is)

  -- ---- a point of the triangle, as drawn and on the grid
  module _ (i j k : ℕ) where
    abbrev X : Point
    X = mixed i j k (from l.origin g.first) (from l.origin g.second) (from l.origin g.third)

    abbrev q : Point
    q = mixed i j k (from (grid_point r.origin) (grid_point a)) (from (grid_point r.origin) (grid_point b))
        (from (grid_point r.origin) (grid_point c))

    abbrev D : ℕ
    D = i + j + k

    point_x : Bounded (pos 2 *ℤ pos D *ℤ pos W) (pos 2 *ℤ (X.x -ℤ (finer W q).x))
    point_x =
        point_read W i j k a.x b.x c.x r.origin.x g.first.x g.second.x g.third.x l.origin.x g.first_is.x
        g.second_is.x g.third_is.x g.origin_is.x

    point_y : Bounded (pos 2 *ℤ pos D *ℤ pos W) (pos 2 *ℤ (X.y -ℤ (finer W q).y))
    point_y =
        point_read W i j k a.y b.y c.y r.origin.y g.first.y g.second.y g.third.y l.origin.y g.first_is.y
        g.second_is.y g.third_is.y g.origin_is.y

    point_z : Bounded (pos 2 *ℤ pos D *ℤ pos W) (pos 2 *ℤ (X.z -ℤ (finer W q).z))
    point_z =
        point_read W i j k a.z b.z c.z r.origin.z g.first.z g.second.z g.third.z l.origin.z g.first_is.z
        g.second_is.z g.third_is.z g.origin_is.z

    -- ---- from the drawing to the grid
    module _ (ρ R : ℕ) (positive : 0 < i + j + k) (bounded : ρ ≤ widest) (room : R + margin * W ≤ ρ * W)
        (s : WithinAsDrawn W v (pos l.near +ℤ margin_of g) (pos l.far -ℤ margin_of g) R D X) where
      abbrev lo : ℤ
      lo = pos l.near +ℤ pos 4 *ℤ pos W

      abbrev hi : ℤ
      hi = pos l.far -ℤ pos 4 *ℤ pos W

      narrow : 4 * R ≤ parts * W
      narrow = let h : ρ * W ≤ 4194304 * W = mul-le-mul_right W bounded in omega (arith, room, h)

      some_radius : 0 < R + W
      some_radius = let p = g.positive in omega (arith, p)

      facts : Facts K (pos W) (pos D) (pos R) (pos (R + W)) (pos ρ *ℤ pos W) lo hi (pos W *ℤ pos n) (pos W *ℤ pos f) X (finer W q) v
          (finer W d)
      facts = record {
        some_parts = p_k;
        some_weights = above_zero D positive;
        finer = p_w;
        radius = natural R;
        some_radius = above_zero (R + W) some_radius;
        wider = minus_natural R (R + W) (omega arith);
        start = natural (l.near + 4 * W);
        not_long = nonneg_as (Identities.far_less (pos W) K (pos l.far))
            (nonneg_sum (minus_natural l.far (parts * W) short) (natural (4 * W)));
        narrow = minus_natural (4 * R) (parts * W) narrow;
        moves = exact_moves;
        long = grid_enough;
        point_x = point_x;
        point_y = point_y;
        point_z = point_z;
        direction_x = direction_x;
        direction_y = direction_y;
        direction_z = direction_z;
        near = nonneg_as (Identities.near_moved (pos W) (pos l.near) (pos n)) near.low;
        far = nonneg_as (Identities.far_moved (pos W) (pos l.far) (pos f)) far.high;
        room = minus_natural (R + W + 3 * W) (ρ * W) (omega (arith, room));
        least = minus_of_le (lo *ℤ square v *ℤ pos D) (K *ℤ dot X v) s.least;
        most = minus_of_le (K *ℤ dot X v) (hi *ℤ square v *ℤ pos D) s.most;
        close = minus_of_le (square X *ℤ square v -ℤ dot X v *ℤ dot X v) (pos (R * R) *ℤ square v *ℤ (pos D *ℤ pos D)) s.close;
      }

      WWW : Positive (pos W *ℤ pos W *ℤ pos W)
      WWW = positive_times (positive_times p_w p_w) p_w

      on_grid_lem : Within (grid_line r) ρ D q
      unfolding grid_line
      on_grid_lem = record {
        least = le_of_minus (pos n *ℤ square d *ℤ pos D) (pos parts *ℤ dot q d)
            (nonneg_cancel WWW
            (nonneg_as (Identities.finer_least (pos parts) (pos W) (pos D) (pos n) q.x q.y q.z d.x d.y d.z)
            (kept_least K (pos W) (pos D) (pos R) (pos (R + W)) (pos ρ *ℤ pos W) lo hi (pos W *ℤ pos n) (pos W *ℤ pos f) X (finer W q) v
            (finer W d) facts)));
        most = le_of_minus (pos parts *ℤ dot q d) (pos f *ℤ square d *ℤ pos D)
            (nonneg_cancel WWW
            (nonneg_as (Identities.finer_most (pos parts) (pos W) (pos D) (pos f) q.x q.y q.z d.x d.y d.z)
            (kept_most K (pos W) (pos D) (pos R) (pos (R + W)) (pos ρ *ℤ pos W) lo hi (pos W *ℤ pos n) (pos W *ℤ pos f) X (finer W q) v
            (finer W d) facts)));
        close = le_of_minus (square q *ℤ square d -ℤ dot q d *ℤ dot q d) (pos (ρ * ρ) *ℤ square d *ℤ (pos D *ℤ pos D))
            (nonneg_cancel (positive_times (positive_times p_w p_w) (positive_times p_w p_w))
            (nonneg_as (Identities.finer_close (pos W) (pos D) (pos ρ) q.x q.y q.z d.x d.y d.z)
            (kept_close K (pos W) (pos D) (pos R) (pos (R + W)) (pos ρ *ℤ pos W) lo hi (pos W *ℤ pos n) (pos W *ℤ pos f) X (finer W q) v
            (finer W d) facts)));
      }

    -- ---- from the grid to the drawing
    module _ (ρ S : ℕ) (positive : 0 < i + j + k) (bounded : ρ ≤ widest) (some : 0 < S) (wider : ρ * W ≤ S)
        (room : S + 3 * W ≤ g.radius + margin * W) (s : Within (grid_line r) ρ D q) where
      abbrev low : ℤ
      low = pos l.near -ℤ pos 4 *ℤ pos W

      abbrev high : ℤ
      high = pos l.far +ℤ pos 4 *ℤ pos W

      abbrev wide : ℤ
      wide = pos (g.radius + margin * W)

      p_wWW : Positive (pos W *ℤ pos W *ℤ pos W)
      p_wWW = positive_times (positive_times p_w p_w) p_w

      not_wide : 4 * (ρ * W) ≤ parts * W
      not_wide = let h : ρ * W ≤ 4194304 * W = mul-le-mul_right W bounded in omega (arith, h)

      within_parts : f ≤ parts → W * f ≤ parts * W
      within_parts h = let h' : f * W ≤ 1073741824 * W = mul-le-mul_right W h in omega (arith, h')

      back : Facts K (pos W) (pos D) (pos ρ *ℤ pos W) (pos S) wide (pos W *ℤ pos n) (pos W *ℤ pos f) low high (finer W q) X (finer W d) v
      unfolding grid_line
      back = record {
        some_parts = p_k;
        some_weights = above_zero D positive;
        finer = p_w;
        radius = natural (ρ * W);
        some_radius = above_zero S some;
        wider = minus_natural (ρ * W) S wider;
        start = natural (W * n);
        not_long = minus_natural (W * f) (parts * W) (within_parts (read_short W l.far f g.positive short far.low));
        narrow = minus_natural (4 * (ρ * W)) (parts * W) not_wide;
        moves = grid_moves;
        long = exact_enough;
        point_x = turned X.x (finer W q).x point_x;
        point_y = turned X.y (finer W q).y point_y;
        point_z = turned X.z (finer W q).z point_z;
        direction_x = turned v.x (finer W d).x direction_x;
        direction_y = turned v.y (finer W d).y direction_y;
        direction_z = turned v.z (finer W d).z direction_z;
        near = nonneg_as (Identities.near_back (pos W) (pos l.near) (pos n)) near.high;
        far = nonneg_as (Identities.far_back (pos W) (pos l.far) (pos f)) far.low;
        room = minus_natural (S + 3 * W) (g.radius + margin * W) room;
        least = nonneg_as (sym (Identities.finer_least (pos parts) (pos W) (pos D) (pos n) q.x q.y q.z d.x d.y d.z))
            (nonneg_times (positive_nonneg p_wWW) (minus_of_le (pos n *ℤ square d *ℤ pos D) (pos parts *ℤ dot q d) s.least));
        most = nonneg_as (sym (Identities.finer_most (pos parts) (pos W) (pos D) (pos f) q.x q.y q.z d.x d.y d.z))
            (nonneg_times (positive_nonneg p_wWW) (minus_of_le (pos parts *ℤ dot q d) (pos f *ℤ square d *ℤ pos D) s.most));
        close = nonneg_as (sym (Identities.finer_close (pos W) (pos D) (pos ρ) q.x q.y q.z d.x d.y d.z))
            (nonneg_times (nonneg_times (natural (W * W)) (natural (W * W)))
            (minus_of_le (square q *ℤ square d -ℤ dot q d *ℤ dot q d) (pos (ρ * ρ) *ℤ square d *ℤ (pos D *ℤ pos D)) s.close));
      }

      as_drawn : WithinAsDrawn W v low high (g.radius + margin * W) D X
      as_drawn = record {
        least = le_of_minus (low *ℤ square v *ℤ pos D) (K *ℤ dot X v)
            (kept_least K (pos W) (pos D) (pos ρ *ℤ pos W) (pos S) wide (pos W *ℤ pos n) (pos W *ℤ pos f) low high (finer W q) X
            (finer W d) v back);
        most = le_of_minus (K *ℤ dot X v) (high *ℤ square v *ℤ pos D)
            (kept_most K (pos W) (pos D) (pos ρ *ℤ pos W) (pos S) wide (pos W *ℤ pos n) (pos W *ℤ pos f) low high (finer W q) X
            (finer W d) v back);
        close = le_of_minus (square X *ℤ square v -ℤ dot X v *ℤ dot X v) (wide *ℤ wide *ℤ square v *ℤ (pos D *ℤ pos D))
            (kept_close K (pos W) (pos D) (pos ρ *ℤ pos W) (pos S) wide (pos W *ℤ pos n) (pos W *ℤ pos f) low high (finer W q) X
            (finer W d) v back);
      }

-- A point of the triangle as drawn in the drill as drawn, 4 units within its ends and its radius, is on the grid in the drill on the grid.
pub in_drill_on_grid : (r : Ray) (x : Float) (a b c : Vec3) (ρ R : ℕ) → ray_admitted r ≡ true → grid_admitted r ≡ true → ρ ≤ widest
    → (g : Drawing r x a b c) → R + margin * g.W ≤ ρ * g.W
    → InDrillAsDrawn g (pos g.line.near +ℤ margin_of g) (pos g.line.far -ℤ margin_of g) R
    → InDrill (grid_line r) ρ (grid_point a) (grid_point b) (grid_point c)
unfolding grid_line
in_drill_on_grid r x a b c ρ R admitted read bounded g room s = record {
  i = s.i;
  j = s.j;
  k = s.k;
  positive = s.positive;
  within = on_grid_lem r x a b c admitted read g s.i s.j s.k ρ R s.positive bounded room s.within;
}

-- The same of a point whose foot is given, at t / T units.
pub foot_in_drill : (r : Ray) (x : Float) (a b c : Vec3) (ρ R : ℕ) → ray_admitted r ≡ true → grid_admitted r ≡ true → ρ ≤ widest
    → (g : Drawing r x a b c) → R + margin * g.W ≤ ρ * g.W → (i j k : ℕ) → 0 < i + j + k → (t : ℤ) (T : ℕ)
    → FootAsDrawn g.W g.line.direction (pos g.line.near +ℤ margin_of g) (pos g.line.far -ℤ margin_of g) R (i + j + k)
    (mixed i j k (from g.line.origin g.first) (from g.line.origin g.second) (from g.line.origin g.third)) t T
    → InDrill (grid_line r) ρ (grid_point a) (grid_point b) (grid_point c)
foot_in_drill r x a b c ρ R admitted read bounded g room i j k positive t T s =
    in_drill_on_grid r x a b c ρ R admitted read bounded g room
    (record {
      i = i;
      j = j;
      k = k;
      positive = positive;
      within =
          foot_within g.W g.line.direction (pos g.line.near +ℤ margin_of g) (pos g.line.far -ℤ margin_of g) R (i + j + k)
          (mixed i j k (from g.line.origin g.first) (from g.line.origin g.second) (from g.line.origin g.third)) t T s;
    })

-- ---- the radius is read upward, by less than a unit
-- a number that is not 0, not below the radius on the grid, and 3 units below the radius as drawn and 4 units
record Wider (ρ W R : ℕ) : Type 0 where
  size : ℕ
  some : 0 < size
  wider : ρ * W ≤ size
  room : size + 3 * W ≤ R + margin * W

wider_radius : (ρ W R : ℕ) → 0 < W → ρ * W < R + W → Wider ρ W R
wider_radius zero W R p h = record { size = W; some = p; wider = omega arith; room = omega arith }
wider_radius (suc n) W R p h = record { size = suc n * W; some = omega (arith, p); wider = omega arith; room = omega (arith, h) }

-- so a drill that is clear on the grid is clear of the triangle as drawn
pub clear_as_drawn : (r : Ray) (x : Float) (a b c : Vec3) → ray_admitted r ≡ true → grid_admitted r ≡ true → within widestᶠ x ≡ true
    → (InDrill (grid_line r) (radius_on x) (grid_point a) (grid_point b) (grid_point c) → ⊥) → ClearAsDrawn r x a b c
clear_as_drawn r x a b c admitted read narrow clear g R room s =
    let h = radius_not_below g.W x g.radius g.radius_is in
    clear (in_drill_on_grid r x a b c (radius_on x) R admitted read (radius_small x narrow) g (omega (arith, room, h)) s)

-- and one that touches it on the grid touches it as drawn, if it is 4 units larger
pub touched_as_drawn : (r : Ray) (x : Float) (a b c : Vec3) → ray_admitted r ≡ true → grid_admitted r ≡ true → within widestᶠ x ≡ true
    → InDrill (grid_line r) (radius_on x) (grid_point a) (grid_point b) (grid_point c) → TouchedAsDrawn r x a b c
unfolding grid_line
touched_as_drawn r x a b c admitted read narrow s g =
    let w = wider_radius (radius_on x) g.W g.radius g.positive (radius_less g.W x g.radius g.positive g.radius_is) in
    record {
      i = s.i;
      j = s.j;
      k = s.k;
      positive = s.positive;
      within =
          as_drawn r x a b c admitted read g s.i s.j s.k (radius_on x) w.size s.positive
          (radius_small x narrow) w.some w.wider w.room s.within;
    }
