-- Demand 3 as the mesh cast's contract has it: from the equation with its definition. Assumes nothing.
use Prim.Native.Nat.{ℕ}
use mathlib.Core.Path.{◌≡◌, sym, ap, subst, ◌∙◌}
use mathlib.Core.List.{List}
use lib.Ieee.{Float}
use Rattle.geometry.specs.declared.ray.Ray.{Ray}
use Rattle.nearest_hit.specs.Nearest.{Indexed}
use Rattle.tree.specs.Layout.{Tree}
use Rattle.tree.specs.Mesh.{Mesh}
use Rattle.mesh.specs.MeshCast.{ray_mesh}
use Rattle.mesh.specs.Demand3.{Admitted, MeetsDemand}
use Rattle.mesh.proofs.Demand3.{demand3}

pub demand_met : (r : Ray) (m : Mesh) (pose : List Float) (t : Tree) (list stack : ℕ) (answer : Indexed) → answer ≡ ray_mesh r m pose t list
    stack
    → pose ≡ m.vertices → Admitted r m t list stack → MeetsDemand r m answer
demand_met r m pose t list stack answer e own admitted =
    subst (λ (a : Indexed). MeetsDemand r m a) (sym (e ∙ ap (λ (vs : List Float). ray_mesh r m vs t list stack) own))
    (demand3 r m t list stack admitted)

-- the three clauses: the equation, what is kept, and the demand
pub with_demand : (r : Ray) (m : Mesh) (pose : List Float) (t : Tree) (list stack : ℕ) (answer : Indexed) (Kept : Type 0) → answer
    ≡ ray_mesh
    r m pose t list stack → Kept
    → (answer ≡ ray_mesh r m pose t list stack) × (Kept × (pose ≡ m.vertices → Admitted r m t list stack → MeetsDemand r m answer))
with_demand r m pose t list stack answer Kept e k = (e, (k, demand_met r m pose t list stack answer e))
