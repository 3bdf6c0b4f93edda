-- A triangle whose answer is a hit is met first at that distance, and the normal is its own. Assumes nothing.
use Rattle.std.specs.Prelude.{Option, Some, None}
use Rattle.casts.specs.Reach.{Reach, At, Miss, Refused}
use Prim.Native.Nat.{ℕ, ◌*◌, ◌<◌}
use mathlib.Core.Path.{◌≡◌, refl, sym, ap, ◌∙◌, subst}
use mathlib.Core.Bool.{Bool, true, false, cond, false≢true}
use mathlib.Core.List.{List}
use lib.IntN.{ℤ, pos, ◌*ℤ◌}
use lib.Ieee.{Float}
use lib.ListN.{length}
use lib.Signed.{le_z}
use borrow.Author.Tests.{le-leb}
use Rattle.vectors.specs.Vector.{dot_of}
use Rattle.vectors.specs.declared.vec3.Vec3.{Vec3}
use Rattle.geometry.specs.Segment.{ray_admitted}
use Rattle.geometry.specs.declared.ray.Ray.{Ray}
use Rattle.casts.specs.Answer.{Answer, hit, none, refused, with_normal, no_normal, out_of_bounds}
use Rattle.casts.specs.Surface.{facing}
use Rattle.tree.specs.Mesh.{Mesh, thirds, corners_inside, corners_of, triangle_count}
use Rattle.wide_integers.proofs.Integers.{pp}
use Rattle.exact_depth.specs.declared.projection.Point.{Point}
use Rattle.exact_triangle.specs.Grid.{grid_admitted, grid_line}
use Rattle.exact_triangle.specs.Normal.{normal_of}
use Rattle.exact_triangle.specs.Reach.{grid_reach}
use Rattle.exact_triangle.specs.Cast.{grid_normal, reach_hit, cross_at, grid_triangle}
use Rattle.mesh_exact.specs.GridCast.{exact_answer}
use Rattle.mesh_exact.specs.Certain.{corner_on, Met, HitNormal, TrueHit}
use Rattle.mesh_exact.proofs.OneTriangle.{WideDepth, depth_whole, hit_deep}

abbrev is_hit : Answer → Bool
is_hit (hit n d) = true
is_hit none = false
is_hit (refused k) = false

abbrev normal_in : Vec3 → Answer → Vec3
normal_in other (hit n d) = n
normal_in other none = other
normal_in other (refused k) = other

-- ---- the normal
-- that of a cross, where it gives a hit
record Faced (r : Ray) (cross : Point) (normal : Vec3) : Type 0 where
  unit : Vec3
  normalised : normal_of cross ≡ Some unit
  faces : normal ≡ facing unit (dot_of r.direction unit)

module _ (r : Ray) (cross : Point) (normal : Vec3) (distance : Float) where
  faced : (x : Float) → grid_normal r cross x ≡ hit normal distance → Faced r cross normal
  unfolding grid_normal
  faced x = go (normal_of cross) refl
    where
      go : (n : Option Vec3) → normal_of cross ≡ n
          → with_normal n no_normal (λ (v : Vec3). hit (facing v (dot_of r.direction v)) x) ≡ hit normal distance → Faced r cross normal
      go (Some v) e h = record { unit = v; normalised = e; faces = sym (ap (normal_in normal) h) }
      go None e h = absurd (false≢true (ap is_hit h))

  reach_faced : (q : Reach) → reach_hit r cross q ≡ hit normal distance → Faced r cross normal
  reach_faced (At x) h = faced x h
  reach_faced Miss h = absurd (false≢true (ap is_hit h))
  reach_faced (Refused k) h = absurd (false≢true (ap is_hit h))

module _ (r : Ray) (m : Mesh) (i : ℕ) (normal : Vec3) (distance : Float)
    (is : exact_answer r m.vertices m.triangles i ≡ hit normal distance) where
  abbrev own : List Vec3
  own = corners_of m.vertices m.triangles i

  triangle_faced : Faced r (cross_at own) normal
  unfolding exact_answer grid_triangle
  triangle_faced = go (corners_inside (thirds (length m.vertices)) m.triangles i) is
    where
      go : (b : Bool) → cond b (grid_triangle r own) (refused out_of_bounds) ≡ hit normal distance → Faced r (cross_at own) normal
      go true h = reach_faced r (cross_at own) normal distance (grid_reach r own) h
      go false h = absurd (false≢true (ap is_hit h))

  hit_normal : HitNormal r m i normal
  unfolding corners_of
  hit_normal = record {
    unit = triangle_faced.unit;
    normalised = triangle_faced.normalised;
    faces = triangle_faced.faces;
  }

  -- ---- the first point
  pub true_hit : ray_admitted r ≡ true → grid_admitted r ≡ true → i < triangle_count m → TrueHit r m normal distance i
  true_hit h g inside =
      let d : WideDepth (grid_line r) m i distance = hit_deep r m h g i inside normal distance is in
      record {
        D = d.D;
        t = d.n;
        met = d.met;
        first = λ D' t' q.
            let w = depth_whole (grid_line r) (corner_on m i 0) (corner_on m i 1) (corner_on m i 2) D' t' q.point in
            ap (λ (z : ℤ). le_z (pos d.n *ℤ pos D') (z *ℤ pos d.D)) w
            ∙ le-leb (d.n * D') (pp t' * d.D) (d.least D' (pp t') (subst (Met (grid_line r) m i D') w q));
        nearest = d.nearest;
        normal_is = hit_normal;
      }
