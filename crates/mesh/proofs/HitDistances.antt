-- A hit of the mesh cast has a distance that is a number and in the ray's range. Assumes nothing.
use Prim.Native.Nat.{ℕ}
use mathlib.Core.Bool.{cond}
use mathlib.Core.List.{List}
use lib.Dec.{eqb}
use lib.Ieee.{Float}
use lib.ListN.{length}
use Rattle.geometry.specs.Segment.{ray_admitted}
use Rattle.geometry.specs.declared.aabb.Aabb.{Aabb}
use Rattle.geometry.specs.declared.ray.Ray.{Ray}
use Rattle.casts.specs.Answer.{invalid_input, bad_shape, no_room, wrong_pose, out_of_bounds}
use Rattle.nearest_hit.specs.Nearest.{stopped}
use Rattle.casts.proofs.SegmentBoxLaws.{segment_such}
use Rattle.casts.proofs.HitLaws.{Measured}
use Rattle.nearest_hit.proofs.IndexedHits.{OfIndexedHit, stopped_such, cond_such, nearest_such}
use Rattle.tree.specs.Layout.{Tree}
use Rattle.tree.specs.Mesh.{Mesh, thirds, triangle_answer}
use Rattle.tree.proofs.Corners.{answers_measured}
use Rattle.tree_walk.specs.Walk.{Walking, walking, broken, walk_of}
use Rattle.mesh.specs.MeshCast.{shape_admitted, room_for, over_walk, mesh_cast, ray_mesh}

module _ (r : Ray) where
  over_walk_measured : (pose : List Float) (triangles : List ℕ) (w : Walking) → OfIndexedHit (Measured r) (over_walk r pose triangles w)
  unfolding over_walk
  over_walk_measured pose triangles broken = stopped_such (Measured r) out_of_bounds
  over_walk_measured pose triangles (walking stack list) =
      nearest_such (Measured r) (triangle_answer r pose triangles) list (answers_measured r pose triangles)

  pub mesh_cast_measured : (m : Mesh) (pose : List Float) (t : Tree) → OfIndexedHit (Measured r) (mesh_cast r m pose t)
  unfolding mesh_cast
  mesh_cast_measured m pose t =
      segment_such stopped r (λ (box : Aabb). over_walk r pose m.triangles (walk_of t (thirds (length m.triangles)) box))
      (OfIndexedHit (Measured r)) (stopped_such (Measured r)) (λ (box : Aabb). over_walk_measured pose m.triangles _)

  pub ray_mesh_hit_measured : (m : Mesh) (pose : List Float) (t : Tree) (list stack : ℕ) → OfIndexedHit (Measured r)
      (ray_mesh r m pose t list stack)
  unfolding ray_mesh
  ray_mesh_hit_measured m pose t list stack =
      let posed = cond (eqb (length pose) (length m.vertices)) (mesh_cast r m pose t) (stopped wrong_pose) in
      let fitting = cond (room_for m t list stack) posed (stopped no_room) in
      let shaped = cond (shape_admitted m pose t) fitting (stopped bad_shape) in
      cond_such (Measured r) (ray_admitted r) shaped (stopped invalid_input)
      (cond_such (Measured r) (shape_admitted m pose t) fitting (stopped bad_shape)
      (cond_such (Measured r) (room_for m t list stack) posed (stopped no_room)
      (cond_such (Measured r) (eqb (length pose) (length m.vertices)) (mesh_cast r m pose t) (stopped wrong_pose)
      (mesh_cast_measured m pose t) (stopped_such (Measured r) wrong_pose))
      (stopped_such (Measured r) no_room))
      (stopped_such (Measured r) bad_shape))
      (stopped_such (Measured r) invalid_input)
