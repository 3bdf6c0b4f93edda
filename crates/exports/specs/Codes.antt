-- 'Codes that no refusal number can be taken for': each number that a call's definition refuses with lies below them. Definitions only.
-- Assumes nothing.
use Rattle.std.specs.Prelude.{ℕ, ◌<◌, ◌≡◌, Bool, List, Float}
use Rattle.vectors.specs.declared.vec3.Vec3.{Vec3}
use Rattle.geometry.specs.declared.aabb.Aabb.{Aabb}
use Rattle.geometry.specs.declared.ray.Ray.{Ray}
use Rattle.float_forms.specs.declared.forms.Form.{Form}
use Rattle.conversion.specs.Convert as Conversion
use Rattle.casts.specs.Answer.{refused}
use Rattle.casts.specs.Plane.{ray_plane}
use Rattle.casts.specs.declared.plane.Plane.{Plane}
use Rattle.triangle_cast.specs.Triangle.{ray_triangle}
use Rattle.nearest_hit.specs.Nearest.{Indexed, stopped}
use Rattle.height_field.specs.declared.field.Field.{Field}
use Rattle.height_field.specs.Cast.{ray_height_field}
use Rattle.height_ranges.specs.Answer as Clearance
use Rattle.height_ranges.specs.RangesCast.{ray_height_ranges}
use Rattle.distance_grid.specs.declared.grid.Grid.{Grid}
use Rattle.level_set.specs.Walk.{ray_level_set}
use Rattle.tree.specs.Layout.{Tree, Areas}
use Rattle.tree.specs.Mesh.{Mesh}
use Rattle.tree_build.specs.Build as Build
use Rattle.tree_query.specs.Query as Query
use Rattle.tree_check.specs.Verdict as Verdict
use Rattle.mesh.specs.MeshCast.{ray_mesh}
use Rattle.mesh_plain.specs.PlainCast.{ray_mesh_plain}
use Rattle.mesh_exact.specs.GridCast.{ray_mesh_exact_plain}
use Rattle.tree_exact.specs.ExactMesh.{ray_mesh_exact}
use Rattle.many_casts.specs.Many.{Places, many_returned}
use Rattle.mesh_drill.specs.MeshDrill.{DrillAnswer, Stopped}
use Rattle.mesh_drill.specs.Drilling.{drill_plain}
use Rattle.mesh_drill.specs.Through.{drill_through}
use Rattle.many_drills.specs.Many as Drills
use Rattle.merge.specs.Merge as Merge
use Rattle.mesh_hits.specs.HitArea.{HitArea}
use Rattle.mesh_hits.specs.Listing.{ray_mesh_all}
use Rattle.exact_hits.specs.ExactListing.{ray_mesh_exact_all}
use Rattle.cabinet.specs.declared.part.Part.{Part}
use Rattle.cabinet.specs.Parts.{Areas as CabinetAreas}
use Rattle.cabinet.specs.Cabinet as Cabinet
use Rattle.slice_casts.specs.Slices.{plane_of_slices, triangle_of_slices}
use Rattle.results.specs.Results.{hit_code, done_code}

-- if an answer is a refusal, its number is below the first code
abbrev pub Below : {A : Type 0} → (ℕ → A) → A → Type 0
Below refuse answer = (number : ℕ) → answer ≡ refuse number → number < hit_code

pub record RefusalsBelowCodes : Type 0 where
  pub plane : (s : Plane) (r : Ray) → Below refused (ray_plane s r)
  pub plane_slices : (ray shape : List Float) → Below refused (plane_of_slices ray shape)
  pub triangle : (r : Ray) (vs : List Vec3) → Below refused (ray_triangle r vs)
  pub triangle_slices : (ray shape : List Float) → Below refused (triangle_of_slices ray shape)
  pub height_field : (r : Ray) (f : Field) (heights : List Float) → Below refused (ray_height_field r f heights)
  pub ranges : (r : Ray) (f : Field) (lows highs : List Float) → Below Clearance.refused (ray_height_ranges r f lows highs)
  pub level_set : (r : Ray) (g : Grid) (values : List Float) → Below refused (ray_level_set r g values)
  pub mesh : (r : Ray) (m : Mesh) (pose : List Float) (t : Tree) (list stack : ℕ) → Below stopped (ray_mesh r m pose t list stack)
  pub plain : (r : Ray) (m : Mesh) → Below stopped (ray_mesh_plain r m)
  pub exact : (r : Ray) (m : Mesh) (pose : List Float) (t : Tree) (stack : ℕ) → Below stopped (ray_mesh_exact r m pose t stack)
  pub exact_plain : (r : Ray) (m : Mesh) → Below stopped (ray_mesh_exact_plain r m)
  -- many rays, by either cast: the call's number, where it is not 'done'; each ray's number is one of the two casts above
  pub many : (answer : Ray → Indexed) (rays : List Float) (m : Mesh) (pose : List Float) (t : Tree) (room : Bool) (p : Places)
      → ((many_returned answer rays m pose t room p).number ≡ done_code → ⊥) → (many_returned answer rays m pose t room p).number < hit_code
  pub drill : (r : Ray) (radius : Float) (m : Mesh) (t : Tree) (list stack : ℕ) → Below Stopped (drill_through r radius m t list stack)
  pub drill_plain : (r : Ray) (radius : Float) (m : Mesh) → Below Stopped (drill_plain r radius m)
  -- many drills, in the same way
  pub drill_many : (answer : Ray → Float → DrillAnswer) (drills : List Float) (m : Mesh) (t : Tree) (room : Bool) (p : Drills.Places)
      → ((Drills.many_returned answer drills m t room p).number ≡ done_code → ⊥)
      → (Drills.many_returned answer drills m t room p).number < hit_code
  pub build : (m : Mesh) (a : Areas) (work : ℕ) → Below Build.refused (Build.build_of m a work).answer
  pub query : (box : Aabb) (n : ℕ) (t : Tree) (list : List ℕ) (stack : ℕ) → Below Query.refused (Query.query_of box n t list stack).answer
  pub check : (m : Mesh) (t : Tree) (marks : ℕ) → Below Verdict.refused (Verdict.check_of m t marks)
  pub merge : (a b : Merge.Board) (old : Merge.Areas) (marks : ℕ) → Below Merge.refused (Merge.merge_of a b old marks).answer
  pub listing : (r : Ray) (m : Mesh) (pose : List Float) (t : Tree) (list stack : ℕ) (area : HitArea)
      → Below Query.refused (ray_mesh_all r m pose t list stack area).answer
  pub exact_listing : (r : Ray) (m : Mesh) (pose : List Float) (t : Tree) (list stack : ℕ) (area : HitArea)
      → Below Query.refused (ray_mesh_exact_all r m pose t list stack area).answer
  pub cabinet : (r : Ray) (a : CabinetAreas) (list stack limit : ℕ) (parts : List Part)
      → Below Cabinet.refused (Cabinet.cast_cabinet r a list stack limit parts)
  pub cabinet_after : (r : Ray) (a : CabinetAreas) (list stack limit : ℕ) (parts : List Part) (spent : ℕ)
      → Below (λ (number : ℕ). Cabinet.refused_after number spent) (Cabinet.cast_cabinet r a list stack limit parts)
  pub conversion : (p q : Form) (bytes area : List ℕ) → Below Conversion.refused (Conversion.converted p q bytes area).answer
