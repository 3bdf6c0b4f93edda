-- The listing of all hits of a mesh along a ray. Definitions only. Assumes nothing.
use Rattle.std.specs.Prelude.{ℕ, cond, List, eqb, Float, length}
use Rattle.geometry.specs.Segment.{ray_admitted}
use Rattle.geometry.specs.declared.aabb.Aabb.{Aabb}
use Rattle.geometry.specs.declared.ray.Ray.{Ray}
use Rattle.casts.specs.Answer.{Answer, invalid_input, bad_shape, no_room, wrong_pose, out_of_bounds}
use Rattle.casts.specs.SegmentBox.{with_segment_box}
use Rattle.tree.specs.Layout.{Tree}
use Rattle.tree.specs.Mesh.{Mesh, thirds, triangle_answer}
use Rattle.tree_walk.specs.Walk.{Walking, walking, broken, walk_of}
use Rattle.tree_query.specs.Query.{refused as refused_with}
use Rattle.mesh.specs.MeshCast.{shape_admitted, room_for}
use Rattle.mesh_hits.specs.HitArea.{HitArea, Outcome, refused_at}
use Rattle.mesh_hits.specs.HitListing.{listing_of}

-- a 5 of the walk goes before all triangles
unfoldable pub over_walk : (ℕ → Answer) → HitArea → Walking → Outcome
over_walk answer area broken = refused_at out_of_bounds area
over_walk answer area (walking stack list) = listing_of answer area list

-- the mesh cast's order: the segment's refusals, the query's 5, then the triangles'
unfoldable pub mesh_listing : Ray → List ℕ → List Float → Tree → HitArea → Outcome
mesh_listing r triangles pose t area =
    with_segment_box (λ (number : ℕ). refused_at number area) r
    (λ (box : Aabb). over_walk (triangle_answer r pose triangles) area (walk_of t (thirds (length triangles)) box))

-- refusals 1 to 4 "as in document 01", the hit area unchanged
abbrev pub unchanged : ℕ → HitArea → Outcome
unchanged number area = record { answer = refused_with number; area = area }

unfoldable pub ray_mesh_all : Ray → Mesh → List Float → Tree → ℕ → ℕ → HitArea → Outcome
ray_mesh_all r m pose t list stack area =
    cond (ray_admitted r)
    (cond (shape_admitted m pose t)
    (cond (room_for m t list stack)
    (cond (eqb (length pose) (length m.vertices)) (mesh_listing r m.triangles pose t area)
    (unchanged wrong_pose area))
    (unchanged no_room area))
    (unchanged bad_shape area))
    (unchanged invalid_input area)
