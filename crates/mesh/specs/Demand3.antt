-- Demand 3 as one statement: what the mesh cast answers at the mesh's own vertices with any tree that passes the check. Definitions only.
-- Assumes nothing.
use Rattle.std.specs.Prelude.{ℕ, ◌<◌, ◌≤◌, ◌≡◌, true, false, List, Float, length}
use Rattle.std.specs.Float.Ieee.{le, lt}
use Rattle.vectors.specs.Vector.{finite_vec}
use Rattle.geometry.specs.Box.{touches}
use Rattle.geometry.specs.Segment.{ray_admitted, segment_end, segment_box}
use Rattle.vectors.specs.declared.vec3.Vec3.{Vec3}
use Rattle.geometry.specs.declared.ray.Ray.{Ray}
use Rattle.casts.specs.Answer.{Answer, hit, none, refused}
use Rattle.triangle_cast.specs.Triangle.{ray_triangle}
use Rattle.nearest_hit.specs.Nearest.{Indexed, hit_at, no_hit, stopped}
use Rattle.tree.specs.Layout.{Tree}
use Rattle.tree.specs.Mesh.{Mesh, thirds, lengths_admitted, corners_of, triangle_box}
use Rattle.tree_check.specs.Verdict.{yes, check_of}
use Rattle.mesh.specs.MeshCast.{room_for, tests_pass, ray_mesh}

-- "A tree passes the check if the check, with a mark area long enough, says yes"
pub record PassesCheck (m : Mesh) (t : Tree) : Type 0 where
  pub marks : ℕ
  pub says_yes : check_of m t marks ≡ yes

-- "Take any admitted mesh and ray with a finite segment end, any tree that passes the tree check for that mesh, .. and areas long enough"
pub record Admitted (r : Ray) (m : Mesh) (t : Tree) (list stack : ℕ) : Type 0 where
  pub mesh : lengths_admitted (length m.vertices) (length m.triangles) ≡ true
  pub ray : ray_admitted r ≡ true
  pub end : finite_vec (segment_end r) ≡ true
  pub tree : PassesCheck m t
  pub areas : room_for m t list stack ≡ true

module _ (r : Ray) (m : Mesh) where
  -- "The candidates are the triangles whose box touches the segment's box"; "a candidate's box is that of its three vertices in the mesh,
  -- whatever the tree says"
  pub record Candidate (i : ℕ) : Type 0 where
    pub triangle : i < thirds (length m.triangles)
    pub near : touches (triangle_box m.vertices m.triangles i) (segment_box r) ≡ true

  -- "Its answer is the triangle cast's for the same ray and its three corners"
  unfoldable pub answer_of : ℕ → Answer
  answer_of i = ray_triangle r (corners_of m.vertices m.triangles i)

  pub record Refuses (i number : ℕ) : Type 0 where
    pub candidate : Candidate i
    pub answers : answer_of i ≡ refused number

  pub record IsHit (i : ℕ) (normal : Vec3) (distance : Float) : Type 0 where
    pub candidate : Candidate i
    pub answers : answer_of i ≡ hit normal distance

  -- "the lowest-indexed one that does"
  pub record LowestRefuses (number : ℕ) : Type 0 where
    pub index : ℕ
    pub refuses : Refuses index number
    pub lowest : (j other : ℕ) → Refuses j other → index ≤ j

  -- "one candidate's distance, normal and index: every other candidate that is hit lies at least as far, and farther if its index is lower"
  pub record NearestHit (i : ℕ) (normal : Vec3) (distance : Float) : Type 0 where
    pub is_hit : IsHit i normal distance
    pub as_far : (j : ℕ) (normal' : Vec3) (distance' : Float) → IsHit j normal' distance' → le distance distance' ≡ true
    pub farther : (j : ℕ) (normal' : Vec3) (distance' : Float) → IsHit j normal' distance' → j < i → lt distance distance' ≡ true

  -- "Then the mesh cast at the mesh's own vertices .."
  pub record MeetsDemand (answer : Indexed) : Type 0 where
    -- ".. refuses exactly when a candidate refuses, with the refusal number of the lowest-indexed one that does."
    pub refuses_if : (i number : ℕ) → Refuses i number → (k : ℕ) × (answer ≡ stopped k)
    pub refuses_only_if : (k : ℕ) → answer ≡ stopped k → LowestRefuses k
    -- "Where it does not refuse, it answers none exactly when every candidate answers none, .."
    pub none_if : ((i : ℕ) → Candidate i → answer_of i ≡ none) → answer ≡ no_hit
    pub none_only_if : answer ≡ no_hit → (i : ℕ) → Candidate i → answer_of i ≡ none
    -- ".. and else a hit with one candidate's distance, normal and index: .."
    pub hit_only_if : (normal : Vec3) (distance : Float) (i : ℕ) → answer ≡ hit_at normal distance i → NearestHit i normal distance

-- the demand, but for its last sentence, on the builder, which is Builder.antt;
-- "The mission's statement on meshes loses its condition about NaN"
abbrev pub Demand3 : Type 0
Demand3 =
    (r : Ray) (m : Mesh) (t : Tree) (list stack : ℕ) → Admitted r m t list stack → MeetsDemand r m (ray_mesh r m m.vertices t list stack)

-- What the call promises: its answer; the list and the stack, which until the tests let the call pass are unchanged; and the demand.
abbrev pub Casts : Ray → Mesh → List Float → Tree → List ℕ → List ℕ → List ℕ → List ℕ → Indexed → Type 0
Casts r m pose t list list' stack stack' answer =
    (answer ≡ ray_mesh r m pose t (length list) (length stack))
    × ((tests_pass r m pose t (length list) (length stack) ≡ false → (list' ≡ list) × (stack' ≡ stack))
    × (pose ≡ m.vertices → Admitted r m t (length list) (length stack) → MeetsDemand r m answer))
