-- What a caller reads back from the number and the slices of a call, and what holds of it: demand 3, the builder's sentence, that a query's
-- list is complete, and that the exact cast's answer is certain and its hits are true. Definitions only. Assumes nothing.
use Rattle.std.specs.Prelude.{ℕ, ◌*◌, ◌≤◌, ◌≡◌, true, cond, List, eqb, Float, length, take}
use Rattle.vectors.specs.declared.vec3.Vec3.{Vec3}
use Rattle.geometry.specs.Box.{valid_box}
use Rattle.geometry.specs.declared.aabb.Aabb.{Aabb}
use Rattle.geometry.specs.declared.ray.Ray.{Ray}
use Rattle.nearest_hit.specs.Nearest.{Indexed, hit_at, no_hit, stopped}
use Rattle.tree.specs.Layout.{Tree, tree_in, word_at, number_at, vector_at}
use Rattle.tree.specs.Mesh.{Mesh, mesh, thirds, triangle_count, candidates}
use Rattle.tree_query.specs.Query.{walk_fits}
use Rattle.tree_check.specs.Verdict.{yes, check_of}
use Rattle.mesh.specs.Demand3.{PassesCheck, Admitted, MeetsDemand}
use Rattle.mesh_exact.specs.Certain.{TrueHit, CertainMesh}
use Rattle.results.specs.Results.{ReturnedIndexed, BuildReturned, QueryReturned, results_fit, hit_code, none_code, yes_code, done_code}

-- a cast's answer: what the number and the slices of the hit and of the index say together
unfoldable pub answer_read : ReturnedIndexed → Indexed
answer_read t =
    cond (eqb t.number hit_code) (hit_at (vector_at t.hit 0) (number_at t.hit 3) (word_at t.index 0))
    (cond (eqb t.number none_code) no_hit (stopped t.number))

-- demand 3, at the mesh's own vertices, for what the demand admits and result slices that are long enough
abbrev pub DemandRead : Ray → Mesh → List Float → Tree → ℕ → ℕ → List Float → List ℕ → ReturnedIndexed → Type 0
DemandRead r m pose t list stack hit index returned =
    pose ≡ m.vertices → Admitted r m t list stack → results_fit hit index ≡ true → MeetsDemand r m (answer_read returned)

-- the exact cast without a tree, or with one that passes the check at the mesh's own vertices: a none is certain, and a hit is the first
abbrev pub CertainRead : Ray → Mesh → List Float → List ℕ → ReturnedIndexed → Type 0
CertainRead r m hit index returned = results_fit hit index ≡ true → CertainMesh r m (answer_read returned)

-- the exact cast through any tree, at any vertices: a hit is a true hit of its triangle there
abbrev pub TrueHitRead : Ray → Mesh → List Float → List Float → List ℕ → ReturnedIndexed → Type 0
TrueHitRead r m pose hit index returned =
    results_fit hit index ≡ true → (normal : Vec3) (distance : Float) (i : ℕ) → answer_read returned ≡ hit_at normal distance i
    → TrueHit r (mesh pose m.triangles) normal distance i

-- where the check's number says yes, the tree passes
abbrev pub YesRead : Mesh → Tree → ℕ → Type 0
YesRead m t number = number ≡ yes_code → PassesCheck m t

-- where the build's number says done, the check says yes to the tree that stands in the areas, with every mark area that is long enough
abbrev pub BuiltRead : Mesh → BuildReturned → Type 0
BuiltRead m returned =
    returned.returned.number ≡ done_code → (marks : ℕ) → 3 * thirds (length m.triangles) ≤ marks
    → check_of m (tree_in (word_at returned.returned.count 0) returned.after) marks ≡ yes

-- The query through a tree that passes the check. Where the number says done, the list begins with each triangle of the mesh whose box
-- touches the query's box, once and ascending, and the count is theirs; for a valid box and areas that are long enough it says so.
pub record QueryRead (box : Aabb) (m : Mesh) (t : Tree) (list stack : ℕ) (found : List ℕ) (returned : QueryReturned) : Type 0 where
  pub lists : returned.returned.number ≡ done_code → take (word_at returned.returned.count 0) returned.list ≡ candidates m box
  pub counts : returned.returned.number ≡ done_code → word_at returned.returned.count 0 ≡ length (candidates m box)
  pub done : valid_box box ≡ true → walk_fits (triangle_count m) t list stack ≡ true → 1 ≤ length found
      → returned.returned.number ≡ done_code
