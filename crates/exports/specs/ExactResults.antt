-- What the calls of the exact cast tell and write, without a tree and through one. Definitions only. Assumes nothing.
use Rattle.std.specs.Prelude.{ℕ, ◌≡◌, Bool, true, cond, ◌&&◌, List, Float, length}
use Rattle.geometry.specs.Segment.{ray_admitted}
use Rattle.geometry.specs.declared.ray.Ray.{Ray}
use Rattle.casts.specs.Answer.{invalid_input, bad_shape, no_room, out_of_range}
use Rattle.tree.specs.Layout.{Tree}
use Rattle.tree.specs.Mesh.{Mesh, lengths_admitted}
use Rattle.exact_triangle.specs.Grid.{grid_admitted}
use Rattle.mesh.specs.MeshCast.{shape_admitted}
use Rattle.mesh.specs.Demand3.{PassesCheck}
use Rattle.mesh_exact.specs.GridCast.{ray_mesh_exact_plain}
use Rattle.tree_exact.specs.Numbers.{NoNaN, has_numbers}
use Rattle.tree_exact.specs.ExactMesh.{room_for, ray_mesh_exact}
use Rattle.results.specs.Results.{ReturnedIndexed, returned_indexed, results_fit, with_room, yes_code, no_code}
use Rattle.exports.specs.Plain.{returned_number}
use Rattle.exports.specs.Reading.{CertainRead, TrueHitRead}

-- the result slices' 3 comes after 1, 12 of the ray and 2
unfoldable pub exact_returned : Ray → Mesh → List Float → List ℕ → ReturnedIndexed
exact_returned r m hit index =
    with_room (ray_admitted r && (grid_admitted r && lengths_admitted (length m.vertices) (length m.triangles))) (results_fit hit index)
    (returned_indexed (ray_mesh_exact_plain r m) hit index)
    (returned_number no_room hit index)

-- through a tree; the length of the stack stands before the result slices
unfoldable pub tree_returned : Ray → Mesh → List Float → Tree → ℕ → List Float → List ℕ → ReturnedIndexed
tree_returned r m pose t stack hit index =
    with_room (ray_admitted r && (grid_admitted r && shape_admitted m pose t)) (results_fit hit index)
    (returned_indexed (ray_mesh_exact r m pose t stack) hit index)
    (returned_number no_room hit index)

-- the number where a result slice is too short
abbrev pub short_exact : Ray → Bool → ℕ
short_exact r shape = cond (ray_admitted r) (cond (grid_admitted r) (cond shape no_room bad_shape) out_of_range) invalid_input

-- what the call without a tree promises: its answer, and that what is read back is certain
abbrev pub ExactPlainCall : Ray → Mesh → List Float → List ℕ → ReturnedIndexed → Type 0
ExactPlainCall r m hit index returned = (returned ≡ exact_returned r m hit index) × CertainRead r m hit index returned

-- through any tree that passes the check, for a mesh without a NaN, the same holds
abbrev pub ReturnedAsPlain : Ray → Mesh → Tree → ℕ → List Float → List ℕ → ReturnedIndexed → Type 0
ReturnedAsPlain r m t stack hit index returned = PassesCheck m t → NoNaN m → room_for m t stack ≡ true → ExactPlainCall r m hit index
    returned

-- what is read back from the call through a tree: any hit is a true one, and at the mesh's own vertices the same holds as without a tree
abbrev pub ExactRead : Ray → Mesh → List Float → Tree → ℕ → List Float → List ℕ → ReturnedIndexed → Type 0
ExactRead r m pose t stack hit index returned =
    TrueHitRead r m pose hit index returned × (pose ≡ m.vertices → ReturnedAsPlain r m t stack hit index returned)

-- whether a mesh is without a NaN: a yes says so
abbrev pub NumbersCall : Mesh → ℕ → Type 0
NumbersCall m number = (number ≡ cond (has_numbers m) yes_code no_code) × (number ≡ yes_code → NoNaN m)
