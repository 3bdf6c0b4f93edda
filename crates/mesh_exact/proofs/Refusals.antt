-- Why the exact cast is refused, and that an answer that is no refusal is about a mesh in range. Assumes nothing.
use Prim.Native.Nat.{ℕ, zero, suc, ◌<◌}
use mathlib.Core.Path.{◌≡◌, refl, sym, ap, ◌∙◌}
use mathlib.Core.Bool.{Bool, true, false, not, ◌&&◌, cond, true≢false}
use mathlib.Core.List.{List, Memᴰ}
use native.Mathlib.Omega.{arith}
use lib.Dec.{lit<}
use lib.ListN.{length}
use lib.Ieee.{Float, lt}
use Rattle.lists.specs.Lists.{range}
use Rattle.lists.proofs.JoinedTests.{and_first, and_second}
use Rattle.lists.proofs.EveryLaws.{every_at}
use Rattle.lists.proofs.CountLaws.{count_of_member, range_bounds}
use Rattle.lists.proofs.SortLaws.{range_ascends}
use Rattle.arithmetic.specs.Basic.{is_finite}
use Rattle.vectors.specs.Numbers.{zeroᶠ}
use Rattle.vectors.specs.Vector.{finite_vec}
use Rattle.vectors.specs.declared.vec3.Vec3.{Vec3}
use Rattle.geometry.specs.Box.{valid_box}
use Rattle.geometry.specs.Segment.{unit_length, range_admitted, ray_admitted}
use Rattle.geometry.specs.declared.ray.Ray.{Ray}
use Rattle.casts.specs.Answer.{Answer, hit, none, refused, invalid_input, bad_shape, out_of_bounds, out_of_range}
use Rattle.nearest_hit.specs.Nearest.{stopped, nearest_of}
use Rattle.nearest_hit.proofs.IndexedCases.{same_number}
use Rattle.nearest_hit.proofs.NearestLaws.{stopped_by_lowest_refusal}
use Rattle.tree.specs.Mesh.{Mesh, thirds, lengths_admitted, corners_inside, corner_at, corners_of, triangle_box, triangle_count}
use Rattle.tree.specs.Mesh.{triangle_fits}
use Rattle.tree.specs.Mesh.{triangles_fit}
use Rattle.exact_triangle.specs.Grid.{within, all_within, furthest, longest, grid_admitted}
use Rattle.exact_triangle.specs.Reach.{corners_read}
use Rattle.exact_triangle.specs.Cast.{grid_triangle}
use Rattle.exact_triangle.proofs.Laws.{first_read, second_read, third_read}
use Rattle.exact_triangle.proofs.Hits.{off_hit, never_refused}
use Rattle.mesh_exact.specs.GridCast.{exact_answer, over_triangles, ray_mesh_exact_plain}
use Rattle.mesh_exact.specs.Certain.{OutOfRange, origin, near, maximum, corner as at_corner, Reason, ray, lengths, triangles}
use Rattle.mesh_exact.specs.Certain.{range as byRange}
use Rattle.exact_triangle.proofs.Directions.{grid_by_ends, end_above}
use Rattle.mesh_exact.proofs.Reaching.{inside_answer}

-- ---- the ray
module _ (r : Ray) (m : Mesh) (h : ray_admitted r ≡ true) where
  ranged : range_admitted r ≡ true
  unfolding ray_admitted
  ranged =
      and_second (unit_length r.direction) _ (and_second (finite_vec r.direction) _ (and_second (finite_vec r.origin) _ h))

  abbrev far : Float
  far = r.max_distance

  far_above : within longest far ≡ false → lt longest far ≡ true
  far_above =
      end_above far (and_first (is_finite far) _ ranged)
      (and_first (not (lt far zeroᶠ)) _ (and_second (is_finite far) _ ranged))

  near_above : within longest r.near ≡ false → lt longest r.near ≡ true
  near_above =
      let rest = and_second (not (lt far zeroᶠ)) _ (and_second (is_finite far) _ ranged) in
      end_above r.near (and_first (is_finite r.near) _ rest)
      (and_first (not (lt r.near zeroᶠ)) _ (and_second (is_finite r.near) _ rest))

  pub ray_out : grid_admitted r ≡ false → OutOfRange r m
  ray_out g =
      go (all_within furthest r.origin) (within longest r.near) (within longest far) refl refl refl (sym (grid_by_ends r h) ∙ g)
    where
      go : (p q s : Bool) → all_within furthest r.origin ≡ p → within longest r.near ≡ q → within longest far ≡ s
          → (p && (q && s)) ≡ false → OutOfRange r m
      go false q s a b c e = origin a
      go true false s a b c e = near (near_above b)
      go true true false a b c e = maximum (far_above c)
      go true true true a b c e = absurd (true≢false e)

-- ---- a triangle
module _ (m : Mesh) (i : ℕ) where
  abbrev own : List Vec3
  own = corners_of m.vertices m.triangles i

  abbrev at : ℕ → Bool
  at k = all_within furthest (corner_at m.vertices m.triangles i k)

  -- a corner out of range
  pub corner_out : (r : Ray) → i < triangle_count m → corners_read own ≡ false → OutOfRange r m
  unfolding corners_read corners_of
  corner_out r inner e = go (at 0) (at 1) (at 2) refl refl refl e
    where
      go : (p q s : Bool) → at 0 ≡ p → at 1 ≡ q → at 2 ≡ s → (p && (q && s)) ≡ false → OutOfRange r m
      go false q s a b c e = at_corner i 0 inner (lit< tt) a
      go true false s a b c e = at_corner i 1 inner (lit< tt) b
      go true true false a b c e = at_corner i 2 inner (lit< tt) c
      go true true true a b c e = absurd (true≢false e)

  -- .. and none
  pub corner_in_lem : corners_read own ≡ true → (k : ℕ) → k < 3 → at k ≡ true
  unfolding corners_of
  corner_in_lem e zero l = first_read own e
  corner_in_lem e (suc zero) l = second_read own e
  corner_in_lem e (suc (suc zero)) l = third_read own e
  corner_in_lem e (suc (suc (suc k))) l = absurd (omega (arith, l))

-- ---- every refusal
abbrev number_in : Answer → ℕ
number_in (hit n d) = 0
number_in none = 0
number_in (refused k) = k

module _ (r : Ray) (m : Mesh) where
  abbrev answers : ℕ → Answer
  answers = exact_answer r m.vertices m.triangles

  abbrev all : List ℕ
  all = range 0 (triangle_count m)

  pub below : (i : ℕ) → Memᴰ i all → i < triangle_count m
  below i k = omega (arith, range_bounds i 0 (triangle_count m) (count_of_member i all k))

  fit_inside : triangles_fit m ≡ true → (i : ℕ) → i < triangle_count m
      → corners_inside (thirds (length m.vertices)) m.triangles i ≡ true
  unfolding triangles_fit triangle_fits
  fit_inside h i l =
      and_first (corners_inside (thirds (length m.vertices)) m.triangles i) (valid_box (triangle_box m.vertices m.triangles i))
      (every_at (triangle_fits m) 0 (triangle_count m) i h (omega arith) (omega (arith, l)))

  -- a triangle refuses for its range alone
  range_reason : ray_admitted r ≡ true → grid_admitted r ≡ true → triangles_fit m ≡ true → (number i : ℕ) → i < triangle_count m
      → answers i ≡ refused number → Reason r m number
  range_reason h g fit number i inner e = go (corners_read own') refl
    where
      own' : List Vec3
      own' = corners_of m.vertices m.triangles i

      told : grid_triangle r own' ≡ refused number
      told = sym (inside_answer r m.vertices m.triangles i (fit_inside fit i inner)) ∙ e

      go : (b : Bool) → corners_read own' ≡ b → Reason r m number
      go true k = absurd (never_refused r own' h g k number told)
      go false k = byRange (sym (ap number_in (sym (off_hit r own' k) ∙ told))) (corner_out m i r inner k)

  pub reason : (number : ℕ) → ray_mesh_exact_plain r m ≡ stopped number → Reason r m number
  unfolding ray_mesh_exact_plain over_triangles
  reason number e =
      go (ray_admitted r) (grid_admitted r) (lengths_admitted (length m.vertices) (length m.triangles)) (triangles_fit m) refl refl refl
      refl e
    where
      go : (p q u v : Bool) → ray_admitted r ≡ p → grid_admitted r ≡ q
          → lengths_admitted (length m.vertices) (length m.triangles) ≡ u → triangles_fit m ≡ v
          → cond p (cond q (cond u (cond v (nearest_of answers all) (stopped out_of_bounds)) (stopped bad_shape)) (stopped out_of_range))
          (stopped invalid_input)
          ≡ stopped number → Reason r m number
      go false q u v a b c d e = ray (sym (same_number invalid_input number e)) a
      go true false u v a b c d e = byRange (sym (same_number out_of_range number e)) (ray_out r m a b)
      go true true false v a b c d e = lengths (sym (same_number bad_shape number e)) c
      go true true true false a b c d e = triangles (sym (same_number out_of_bounds number e)) d
      go true true true true a b c d e =
          let s = stopped_by_lowest_refusal answers all (range_ascends 0 (triangle_count m)) number e in
          range_reason a b d number s.index (below s.index s.member) s.refuses
