-- The cast at one part under what is left of the limit, and without a limit. Definitions only. Assumes nothing.
use Rattle.std.specs.Prelude.{ℕ, cond, leb, length}
use Rattle.vectors.specs.Vector.{finite_vec, sub_of}
use Rattle.geometry.specs.Segment.{segment_end, segment_box}
use Rattle.vectors.specs.declared.vec3.Vec3.{Vec3}
use Rattle.geometry.specs.declared.ray.Ray.{Ray}
use Rattle.casts.specs.Answer.{overflow, limit_reached}
use Rattle.nearest_hit.specs.Nearest.{Indexed, stopped}
use Rattle.tree.specs.Layout.{Tree}
use Rattle.tree.specs.Mesh.{Mesh, thirds}
use Rattle.tree_walk.specs.Looking.{Looked, looked, used_up, nodes_looked, walk_within}
use Rattle.mesh.specs.MeshCast.{over_walk, mesh_cast}

-- an answer with the nodes spent on it
pub record Costed : Type 0 where
  pub spent : ℕ
  pub answer : Indexed

abbrev pub costing : ℕ → Indexed → Costed
costing spent answer = record { spent = spent; answer = answer }

-- "number 10 exactly when the next node in the walk would exceed the limit"; then the walk's 5, then the triangles ascending
unfoldable pub after_look : Ray → Mesh → Looked → Costed
after_look r m (looked spent w) = costing spent (over_walk r m.vertices m.triangles w)
after_look r m (used_up spent) = costing spent (stopped limit_reached)

-- the segment's end is tested before the walk
unfoldable pub cast_within : ℕ → Ray → Mesh → Tree → Costed
cast_within limit r m t =
    cond (finite_vec (segment_end r)) (after_look r m (walk_within t (thirds (length m.triangles)) (segment_box r) limit))
    (costing 0 (stopped overflow))

-- "The ray's origin less the part's origin is rounded once per component"
unfoldable pub moved_ray : Ray → Vec3 → Ray
moved_ray r origin = record {
  origin = sub_of r.origin origin;
  direction = r.direction;
  max_distance = r.max_distance;
  near = r.near;
}

-- "one that is not finite is 6, as that part's refusal"
unfoldable pub cast_moved : ℕ → Ray → Vec3 → Mesh → Tree → Costed
cast_moved limit r origin m t =
    cond (finite_vec (sub_of r.origin origin)) (cast_within limit (moved_ray r origin) m t) (costing 0 (stopped overflow))

-- ---- without a limit

-- the nodes that the definition of the walk counts; where the segment's end is not finite there is no walk
unfoldable pub need_of : Ray → Mesh → Tree → ℕ
need_of r m t = cond (finite_vec (segment_end r)) (nodes_looked t (thirds (length m.triangles)) (segment_box r)) 0

-- the mesh cast at the part alone, with its count
unfoldable pub own_cast : Ray → Vec3 → Mesh → Tree → Costed
own_cast r origin m t =
    cond (finite_vec (sub_of r.origin origin))
    (costing (need_of (moved_ray r origin) m t) (mesh_cast (moved_ray r origin) m m.vertices t))
    (costing 0 (stopped overflow))

-- what a limit makes of it
unfoldable pub limited : ℕ → Costed → Costed
limited limit c = cond (leb c.spent limit) c (costing limit (stopped limit_reached))
