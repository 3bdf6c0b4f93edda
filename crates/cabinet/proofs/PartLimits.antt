-- The cast at one part under a limit is its own cast where the limit is at least its need, and else 10 with the limit spent. Assumes
-- nothing.
use Prim.Native.Nat.{ℕ, ◌≤◌, ◌<◌}
use mathlib.Core.Path.{◌≡◌, refl, sym, ap, ◌∙◌}
use mathlib.Core.Bool.{Bool, true, false, ◌&&◌, cond}
use native.Mathlib.Omega.{arith}
use borrow.Author.Tests.{le-leb, lt-leb, leb-true}
use lib.Dec.{leb}
use lib.ListN.{length}
use Rattle.vectors.specs.Vector.{finite_vec, sub_of}
use Rattle.geometry.specs.Box.{valid_box}
use Rattle.geometry.specs.Segment.{unit_length, range_admitted, ray_admitted, segment_end, segment_box}
use Rattle.vectors.specs.declared.vec3.Vec3.{Vec3}
use Rattle.geometry.specs.declared.ray.Ray.{Ray}
use Rattle.geometry.proofs.BoxLaws.{segment_box_valid}
use Rattle.casts.specs.Answer.{overflow, limit_reached}
use Rattle.nearest_hit.specs.Nearest.{Indexed, stopped}
use Rattle.tree.specs.Layout.{Tree}
use Rattle.tree.specs.Mesh.{Mesh, thirds}
use Rattle.lists.proofs.JoinedTests.{and_second}
use Rattle.tree_walk.specs.Walk.{walk_of}
use Rattle.tree_walk.specs.Looking.{looked, used_up, nodes_looked, walk_within}
use Rattle.tree_walk.proofs.Limits.{within_is}
use Rattle.mesh.specs.MeshCast.{over_walk, mesh_cast}
use Rattle.cabinet.specs.PartCast.{Costed, costing, after_look, cast_within, moved_ray, cast_moved, need_of, own_cast}
use Rattle.cabinet.specs.PartCast.{limited}

-- a ray moved to a finite origin is admitted as it was
pub moved_admitted : (r : Ray) (origin : Vec3) → ray_admitted r ≡ true → finite_vec (sub_of r.origin origin) ≡ true
    → ray_admitted (moved_ray r origin) ≡ true
unfolding ray_admitted moved_ray
moved_admitted r origin h f =
    let rest : Bool = finite_vec r.direction && (unit_length r.direction && range_admitted r) in
    simp (f, and_second (finite_vec r.origin) rest h)

pub limited_within : (limit : ℕ) (c : Costed) → c.spent ≤ limit → limited limit c ≡ c
unfolding limited
limited_within limit c h = simp (le-leb c.spent limit h)

pub limited_past : (limit : ℕ) (c : Costed) → limit < c.spent → limited limit c ≡ costing limit (stopped limit_reached)
unfolding limited
limited_past limit c h = simp (lt-leb c.spent limit h)

module _ (limit : ℕ) (r : Ray) (m : Mesh) (t : Tree) where
  abbrev n : ℕ
  n = thirds (length m.triangles)

  look_limited : (need : ℕ) (b : Bool) → leb need limit ≡ b
      → after_look r m (cond b (looked need (walk_of t n (segment_box r))) (used_up limit)) ≡ limited limit
      (costing need (over_walk r m.vertices m.triangles (walk_of t n (segment_box r))))
  unfolding after_look limited
  look_limited need true e = simp e
  look_limited need false e = simp e

  -- the walk's answer
  walked_limited : after_look r m (walk_within t n (segment_box r) limit) ≡ limited limit (costing (nodes_looked t n (segment_box r))
      (over_walk r m.vertices m.triangles (walk_of t n (segment_box r))))
  walked_limited = ap (after_look r m) (within_is t n (segment_box r) limit) ∙ look_limited (nodes_looked t n (segment_box r))
      (leb (nodes_looked t n (segment_box r)) limit) refl

  -- no more is spent than is left
  walked_spent : (need : ℕ) (answer : Indexed) → (limited limit (costing need answer)).spent ≤ limit
  unfolding limited
  walked_spent need answer = go (leb need limit) (leb-true need limit)
    where
      go : (b : Bool) → (b ≡ true → need ≤ limit) → (cond b (costing need answer) (costing limit (stopped limit_reached))).spent ≤ limit
      go true h = h refl
      go false h = omega arith

  pub within_spent : (cast_within limit r m t).spent ≤ limit
  unfolding cast_within
  within_spent = go (finite_vec (segment_end r))
    where
      go : (b : Bool) → (cond b (after_look r m (walk_within t n (segment_box r) limit)) (costing 0 (stopped overflow))).spent ≤ limit
      go true =
          rw walked_limited (walked_spent (nodes_looked t n (segment_box r)) (over_walk r m.vertices m.triangles
          (walk_of t n (segment_box r))))
      go false = omega arith

  within_finite : finite_vec (segment_end r) ≡ true → valid_box (segment_box r) ≡ true
      → cast_within limit r m t ≡ limited limit (costing (need_of r m t) (mesh_cast r m m.vertices t))
  unfolding cast_within need_of mesh_cast
  within_finite f v = simp (f, v) walked_limited

  within_overflow : finite_vec (segment_end r) ≡ false
      → cast_within limit r m t ≡ limited limit (costing (need_of r m t) (mesh_cast r m m.vertices t))
  unfolding cast_within need_of mesh_cast
  within_overflow f = simp f (sym (limited_within limit (costing 0 (stopped overflow)) (omega arith)))

  pub within_limited : ray_admitted r ≡ true → cast_within limit r m t ≡ limited limit
      (costing (need_of r m t) (mesh_cast r m m.vertices t))
  within_limited h = go (finite_vec (segment_end r)) refl
    where
      go : (b : Bool) → finite_vec (segment_end r) ≡ b
          → cast_within limit r m t ≡ limited limit (costing (need_of r m t) (mesh_cast r m m.vertices t))
      go true f = within_finite f (segment_box_valid r h f)
      go false f = within_overflow f

-- the same with the ray moved to the part
module _ (limit : ℕ) (r : Ray) (origin : Vec3) (m : Mesh) (t : Tree) where
  moved_finite : finite_vec (sub_of r.origin origin) ≡ true
      → cast_within limit (moved_ray r origin) m t ≡ limited limit (costing (need_of (moved_ray r origin) m t)
      (mesh_cast (moved_ray r origin) m m.vertices t))
      → cast_moved limit r origin m t ≡ limited limit (own_cast r origin m t)
  unfolding cast_moved own_cast
  moved_finite f e = simp f e

  moved_overflow : finite_vec (sub_of r.origin origin) ≡ false → cast_moved limit r origin m t ≡ limited limit (own_cast r origin m t)
  unfolding cast_moved own_cast
  moved_overflow f = simp f (sym (limited_within limit (costing 0 (stopped overflow)) (omega arith)))

  pub part_limited : ray_admitted r ≡ true → cast_moved limit r origin m t ≡ limited limit (own_cast r origin m t)
  part_limited h = go (finite_vec (sub_of r.origin origin)) refl
    where
      go : (b : Bool) → finite_vec (sub_of r.origin origin) ≡ b → cast_moved limit r origin m t ≡ limited limit (own_cast r origin m t)
      go true f = moved_finite f (within_limited limit (moved_ray r origin) m t (moved_admitted r origin h f))
      go false f = moved_overflow f

  pub moved_spent : (cast_moved limit r origin m t).spent ≤ limit
  unfolding cast_moved
  moved_spent = go (finite_vec (sub_of r.origin origin))
    where
      go : (b : Bool) → (cond b (cast_within limit (moved_ray r origin) m t) (costing 0 (stopped overflow))).spent ≤ limit
      go true = within_spent limit (moved_ray r origin) m t
      go false = omega arith
