-- Many drills in one call: each drill's answer is the single call's, at the drill's places of the result slices. Definitions only. Assumes
-- nothing.
use Rattle.std.specs.Prelude.{ℕ, zero, suc, ◌+◌, ◌*◌, ◌/◌, ◌%◌, ◌<◌, ◌≤◌, ◌≡◌, Bool, false, ◌&&◌, List, [], ◌∷◌, leb, eqb, Float, length}
use Rattle.std.specs.Prelude.{set}
use Rattle.lists.specs.Refusals.{Test, refusing, unless_refused, all_pass}
use Rattle.geometry.specs.declared.ray.Ray.{Ray}
use Rattle.casts.specs.Answer.{bad_shape, no_room}
use Rattle.tree.specs.Layout.{Tree, number_at, word_at, vector_at}
use Rattle.tree.specs.Mesh.{Mesh, triangle_count}
use Rattle.tree_query.specs.Query.{walk_fits}
use Rattle.mesh.specs.MeshCast.{shape_admitted}
use Rattle.mesh_drill.specs.MeshDrill.{DrillAnswer, Clear, Touches, Stopped}
use Rattle.mesh_drill.specs.Through.{drill_through}
use Rattle.results.specs.Results.{hit_code, none_code, done_code}
use Rattle.many_drills.specs.Returned.{ReturnedDrill, returned_drill}

-- ---- the drills

-- the ray of a drill at an index: origin, direction, maximum, near
unfoldable pub ray_at : List Float → ℕ → Ray
ray_at drills i = record {
  origin = vector_at drills (9 * i);
  direction = vector_at drills (9 * i + 3);
  max_distance = number_at drills (9 * i + 6);
  near = number_at drills (9 * i + 7);
}

-- its radius is the ninth number
unfoldable pub radius_at : List Float → ℕ → Float
radius_at drills i = number_at drills (9 * i + 8)

abbrev pub drill_count : List Float → ℕ
drill_count drills = length drills / 9

-- ---- the result slices

-- a code and an index a drill
pub record Places : Type 0 where
  pub codes : List ℕ
  pub indices : List ℕ

abbrev pub places : List ℕ → List ℕ → Places
places codes indices = record { codes = codes; indices = indices }

unfoldable pub places_fit : ℕ → Places → Bool
places_fit count p = leb count (length p.codes) && leb count (length p.indices)

-- a drill's answer at its places: no index is written where nothing is touched
unfoldable pub answer_at : DrillAnswer → ℕ → Places → Places
answer_at Clear i p = places (set p.codes i none_code) p.indices
answer_at (Touches k) i p = places (set p.codes i hit_code) (set p.indices i k)
answer_at (Stopped number) i p = places (set p.codes i number) p.indices

-- the first drills' answers, one after the other; the first argument is the answer of one drill
unfoldable pub answers_of : (Ray → Float → DrillAnswer) → List Float → ℕ → Places → Places
answers_of answer drills zero p = p
answers_of answer drills (suc i) p = answer_at (answer (ray_at drills i) (radius_at drills i)) i (answers_of answer drills i p)

-- ---- the call

-- "2 before 3", once for all drills; the room is that of the tree's areas and the work areas
abbrev pub many_tests : List Float → Mesh → Tree → Bool → Places → List Test
many_tests drills m t room p =
    refusing bad_shape (eqb (length drills % 9) 0 && shape_admitted m m.vertices t)
    ∷ (refusing no_room (room && places_fit (drill_count drills) p) ∷ [])

-- the call's number, and the result slices
pub record ReturnedMany : Type 0 where
  pub number : ℕ
  pub after : Places

abbrev pub returned_many : ℕ → Places → ReturnedMany
returned_many number after = record { number = number; after = after }

-- nothing is written where the call refuses
unfoldable pub many_returned : (Ray → Float → DrillAnswer) → List Float → Mesh → Tree → Bool → Places → ReturnedMany
many_returned answer drills m t room p =
    unless_refused (λ (number : ℕ). returned_many number p) (many_tests drills m t room p)
    (returned_many done_code (answers_of answer drills (drill_count drills) p))

-- ---- what is read at a drill's places

-- the code and the index that are read at a drill's places are those of the single call, lent this index
unfoldable pub read_at : Places → ℕ → ReturnedDrill
read_at p i = record { number = word_at p.codes i; index = word_at p.indices i ∷ [] }

-- where the call is done, each drill's places hold what the single call leaves there, and past the last drill's nothing has changed
pub record EachAsSingle (answer : Ray → Float → DrillAnswer) (drills : List Float) (before after : Places) : Type 0 where
  pub each : (i : ℕ) → i < drill_count drills → read_at after i
      ≡ returned_drill (answer (ray_at drills i) (radius_at drills i)) (word_at before.indices i ∷ [])
  pub codes_past : (k : ℕ) → drill_count drills ≤ k → word_at after.codes k ≡ word_at before.codes k
  pub indices_past : (k : ℕ) → drill_count drills ≤ k → word_at after.indices k ≡ word_at before.indices k

-- ---- what the call promises; an area with a stroke is the area afterwards

-- the answer of one drill, with a list and a stack of these lengths
abbrev pub tree_answer : Mesh → Tree → ℕ → ℕ → Ray → Float → DrillAnswer
tree_answer m t list stack r radius = drill_through r radius m t list stack

-- its number and slices, its work areas until the tests let the call pass, and what is read back
abbrev pub ManyCall : List Float → Mesh → Tree → List ℕ → List ℕ → List ℕ → List ℕ → Places → ReturnedMany → Type 0
ManyCall drills m t list list' stack stack' p returned =
    (returned ≡ many_returned (tree_answer m t (length list) (length stack)) drills m t
    (walk_fits (triangle_count m) t (length list) (length stack)) p)
    × ((all_pass (many_tests drills m t (walk_fits (triangle_count m) t (length list) (length stack)) p) ≡ false
    → (list' ≡ list) × (stack' ≡ stack))
    × (returned.number ≡ done_code → EachAsSingle (tree_answer m t (length list) (length stack)) drills p returned.after))
