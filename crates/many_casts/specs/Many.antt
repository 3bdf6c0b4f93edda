-- Many rays in one call: each ray's answer is the single cast's, at the ray's places of the result slices. Definitions only. Assumes
-- nothing.
use Rattle.std.specs.Prelude.{ℕ, zero, suc, ◌+◌, ◌*◌, ◌/◌, ◌%◌, ◌<◌, ◌≤◌, ◌≡◌, Bool, false, ◌&&◌, List, [], ◌∷◌, leb, eqb, Float, length}
use Rattle.std.specs.Prelude.{set}
use Rattle.std.proofs.lemmas.List.Edits.{sets}
use Rattle.lists.specs.Refusals.{Test, refusing, unless_refused, all_pass}
use Rattle.geometry.specs.declared.ray.Ray.{Ray}
use Rattle.casts.specs.Answer.{bad_shape, no_room, wrong_pose}
use Rattle.nearest_hit.specs.Nearest.{Indexed, hit_at, no_hit, stopped}
use Rattle.tree.specs.Layout.{Tree, number_at, word_at, vector_at}
use Rattle.tree.specs.Mesh.{Mesh}
use Rattle.mesh.specs.MeshCast as Cast
use Rattle.tree_exact.specs.ExactMesh as Exact
use Rattle.results.specs.Results.{ReturnedIndexed, hit_code, none_code, done_code, returned_indexed}

-- ---- the rays

-- a ray at an index: origin, direction, maximum, near
unfoldable pub ray_at : List Float → ℕ → Ray
ray_at rays i = record {
  origin = vector_at rays (8 * i);
  direction = vector_at rays (8 * i + 3);
  max_distance = number_at rays (8 * i + 6);
  near = number_at rays (8 * i + 7);
}

abbrev pub ray_count : List Float → ℕ
ray_count rays = length rays / 8

-- ---- the result slices

-- a code and an index a ray, and four numbers
pub record Places : Type 0 where
  pub codes : List ℕ
  pub hits : List Float
  pub indices : List ℕ

abbrev pub places : List ℕ → List Float → List ℕ → Places
places codes hits indices = record { codes = codes; hits = hits; indices = indices }

unfoldable pub places_fit : ℕ → Places → Bool
places_fit count p = leb count (length p.codes) && (leb (4 * count) (length p.hits) && leb count (length p.indices))

-- a ray's answer at its places: no number and no index is written where there is no hit
unfoldable pub answer_at : Indexed → ℕ → Places → Places
answer_at (hit_at n d k) i p =
    places (set p.codes i hit_code) (sets p.hits (4 * i) (n.x ∷ n.y ∷ n.z ∷ d ∷ [])) (set p.indices i k)
answer_at no_hit i p = places (set p.codes i none_code) p.hits p.indices
answer_at (stopped number) i p = places (set p.codes i number) p.hits p.indices

-- the first rays' answers, one after the other; the first argument is the answer of one ray
unfoldable pub answers_of : (Ray → Indexed) → List Float → ℕ → Places → Places
answers_of answer rays zero p = p
answers_of answer rays (suc i) p = answer_at (answer (ray_at rays i)) i (answers_of answer rays i p)

-- ---- the call

-- "2 before 3, 3 before 4", once for all rays; the room is that of the tree's areas and the work areas
abbrev pub many_tests : List Float → Mesh → List Float → Tree → Bool → Places → List Test
many_tests rays m pose t room p =
    refusing bad_shape (eqb (length rays % 8) 0 && Cast.shape_admitted m pose t)
    ∷ (refusing no_room (room && places_fit (ray_count rays) p) ∷ (refusing wrong_pose (eqb (length pose) (length m.vertices)) ∷ []))

-- the call's number, and the result slices
pub record ReturnedMany : Type 0 where
  pub number : ℕ
  pub after : Places

abbrev pub returned_many : ℕ → Places → ReturnedMany
returned_many number after = record { number = number; after = after }

-- nothing is written where the call refuses
unfoldable pub many_returned : (Ray → Indexed) → List Float → Mesh → List Float → Tree → Bool → Places → ReturnedMany
many_returned answer rays m pose t room p =
    unless_refused (λ (number : ℕ). returned_many number p) (many_tests rays m pose t room p)
    (returned_many done_code (answers_of answer rays (ray_count rays) p))

-- ---- what is read at a ray's places

-- a ray's four numbers, as a slice of their own
abbrev pub hit_of : List Float → ℕ → List Float
hit_of hits i = number_at hits (4 * i) ∷ number_at hits (4 * i + 1) ∷ number_at hits (4 * i + 2) ∷ number_at hits (4 * i + 3) ∷ []

-- the code, the four numbers and the index that are read at a ray's places are those of the single call, lent these four numbers and
-- this index
unfoldable pub read_at : Places → ℕ → ReturnedIndexed
read_at p i = record { number = word_at p.codes i; hit = hit_of p.hits i; index = word_at p.indices i ∷ [] }

-- where the call is done, each ray's places hold what the single call leaves there, and past the last ray's nothing has changed
pub record EachAsSingle (answer : Ray → Indexed) (rays : List Float) (before after : Places) : Type 0 where
  pub each : (i : ℕ) → i < ray_count rays → read_at after i
      ≡ returned_indexed (answer (ray_at rays i)) (hit_of before.hits i) (word_at before.indices i ∷ [])
  pub codes_past : (k : ℕ) → ray_count rays ≤ k → word_at after.codes k ≡ word_at before.codes k
  pub hits_past : (k : ℕ) → 4 * ray_count rays ≤ k → number_at after.hits k ≡ number_at before.hits k
  pub indices_past : (k : ℕ) → ray_count rays ≤ k → word_at after.indices k ≡ word_at before.indices k

-- ---- what the two calls promise; an area with a stroke is the area afterwards

-- the mesh cast's answer of one ray, with a list and a stack of these lengths
abbrev pub mesh_answer : Mesh → List Float → Tree → ℕ → ℕ → Ray → Indexed
mesh_answer m pose t list stack r = Cast.ray_mesh r m pose t list stack

-- its number and slices, its work areas until the tests let the call pass, and what is read back
abbrev pub ManyCall : List Float → Mesh → List Float → Tree → List ℕ → List ℕ → List ℕ → List ℕ → Places → ReturnedMany → Type 0
ManyCall rays m pose t list list' stack stack' p returned =
    (returned ≡ many_returned (mesh_answer m pose t (length list) (length stack)) rays m pose t
    (Cast.room_for m t (length list) (length stack)) p)
    × ((all_pass (many_tests rays m pose t (Cast.room_for m t (length list) (length stack)) p) ≡ false → (list' ≡ list) × (stack' ≡ stack))
    × (returned.number ≡ done_code → EachAsSingle (mesh_answer m pose t (length list) (length stack)) rays p returned.after))

-- the exact cast's answer of one ray
abbrev pub exact_answer : Mesh → List Float → Tree → ℕ → Ray → Indexed
exact_answer m pose t stack r = Exact.ray_mesh_exact r m pose t stack

abbrev pub ManyExactCall : List Float → Mesh → List Float → Tree → List ℕ → List ℕ → Places → ReturnedMany → Type 0
ManyExactCall rays m pose t stack stack' p returned =
    (returned ≡ many_returned (exact_answer m pose t (length stack)) rays m pose t (Exact.room_for m t (length stack)) p)
    × ((all_pass (many_tests rays m pose t (Exact.room_for m t (length stack)) p) ≡ false → stack' ≡ stack)
    × (returned.number ≡ done_code → EachAsSingle (exact_answer m pose t (length stack)) rays p returned.after))
