-- What the call of the mesh cast without a tree tells and writes, and that a tree's cast tells the same. Definitions only. Assumes nothing.
use Rattle.std.specs.Prelude.{ℕ, ◌≡◌, true, cond, List, Float, length}
use Rattle.geometry.specs.Segment.{ray_admitted}
use Rattle.geometry.specs.declared.ray.Ray.{Ray}
use Rattle.casts.specs.Answer.{invalid_input, bad_shape, no_room}
use Rattle.tree.specs.Layout.{Tree}
use Rattle.tree.specs.Mesh.{Mesh, lengths_admitted}
use Rattle.mesh.specs.MeshCast.{room_for, ray_mesh}
use Rattle.mesh.specs.Demand3.{PassesCheck}
use Rattle.mesh_plain.specs.PlainCast.{plain_cast}
use Rattle.results.specs.Results.{ReturnedIndexed, returned_indexed, results_fit}

-- a refusal's number, and nothing written
abbrev pub returned_number : ℕ → List Float → List ℕ → ReturnedIndexed
returned_number number hit index = record { number = number; hit = hit; index = index }

-- "1 is tested before 2, 2 before 3", the result slices' 3 too; then the cast
unfoldable pub plain_returned : Ray → Mesh → List Float → List ℕ → ReturnedIndexed
plain_returned r m hit index =
    cond (ray_admitted r)
    (cond (lengths_admitted (length m.vertices) (length m.triangles))
    (cond (results_fit hit index) (returned_indexed (plain_cast r m) hit index) (returned_number no_room hit index))
    (returned_number bad_shape hit index))
    (returned_number invalid_input hit index)

-- "It is proved to agree with the tree cast at the mesh's own vertices, areas long enough, on every tree that passes the check."
abbrev pub ReturnedByTrees : Ray → Mesh → List Float → List ℕ → ReturnedIndexed → Type 0
ReturnedByTrees r m hit index returned =
    (t : Tree) (list stack : ℕ) → PassesCheck m t → room_for m t list stack ≡ true → results_fit hit index ≡ true
    → returned_indexed (ray_mesh r m m.vertices t list stack) hit index ≡ returned
