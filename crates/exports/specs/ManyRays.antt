-- What the calls of many rays promise: what the casts of many rays do, and of what is read at each ray's places what the single call
-- promises. Definitions only. Assumes nothing.
use Rattle.std.specs.Prelude.{ℕ, ◌<◌, ◌≡◌, List, [], ◌∷◌, Float, length}
use Rattle.geometry.specs.declared.ray.Ray.{Ray}
use Rattle.tree.specs.Layout.{Tree, word_at}
use Rattle.tree.specs.Mesh.{Mesh}
use Rattle.many_casts.specs.Many.{ray_at, ray_count, hit_of, read_at, Places, ReturnedMany, ManyCall, ManyExactCall}
use Rattle.results.specs.Results.{ReturnedIndexed, done_code, answered_mesh}
use Rattle.exports.specs.Reading.{DemandRead}
use Rattle.exports.specs.ExactResults.{tree_returned, ExactRead}

-- where the call is done, this holds of each ray, of the four numbers and the index that stood at its places, and of what is read there
abbrev pub EachRay : List Float → Places → ReturnedMany → (Ray → List Float → List ℕ → ReturnedIndexed → Type 0) → Type 0
EachRay rays p returned Holds =
    returned.number ≡ done_code → (i : ℕ) → i < ray_count rays
    → Holds (ray_at rays i) (hit_of p.hits i) (word_at p.indices i ∷ []) (read_at returned.after i)

-- the mesh cast's number and slices, and demand 3; the lengths of the list and the stack stand before the result slices
abbrev pub MeshAnswered : Mesh → List Float → Tree → ℕ → ℕ → Ray → List Float → List ℕ → ReturnedIndexed → Type 0
MeshAnswered m pose t list stack r hit index returned =
    (returned ≡ answered_mesh r m pose t list stack hit index) × DemandRead r m pose t list stack hit index returned

-- an area with a stroke is the area afterwards
abbrev pub MeshManyCall : List Float → Mesh → List Float → Tree → List ℕ → List ℕ → List ℕ → List ℕ → Places → ReturnedMany → Type 0
MeshManyCall rays m pose t list list' stack stack' p returned =
    ManyCall rays m pose t list list' stack stack' p returned
    × EachRay rays p returned (MeshAnswered m pose t (length list) (length stack))

-- the exact cast's number and slices, and what is read back from them
abbrev pub ExactAnswered : Mesh → List Float → Tree → ℕ → Ray → List Float → List ℕ → ReturnedIndexed → Type 0
ExactAnswered m pose t stack r hit index returned =
    (returned ≡ tree_returned r m pose t stack hit index) × ExactRead r m pose t stack hit index returned

abbrev pub ExactManyCall : List Float → Mesh → List Float → Tree → List ℕ → List ℕ → Places → ReturnedMany → Type 0
ExactManyCall rays m pose t stack stack' p returned =
    ManyExactCall rays m pose t stack stack' p returned × EachRay rays p returned (ExactAnswered m pose t (length stack))
