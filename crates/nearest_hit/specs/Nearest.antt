-- The fold of triangle answers over a list of indices: the mesh's and the height grid's. Definitions only. Assumes nothing.
use Rattle.std.specs.Prelude.{ℕ, Bool, true, false, cond, List, [], ◌∷◌, Float, Option, Some, None, Result, Ok, Err}
use Rattle.std.specs.Float.Ieee.{lt}
use Rattle.vectors.specs.declared.vec3.Vec3.{Vec3}
use Rattle.casts.specs.Answer.{Answer, hit, none, refused, number_of}
use Rattle.casts.specs.declared.answer.Refusal.{Refusal}
use Rattle.nearest_hit.specs.declared.nearest.IndexedHit.{IndexedHit}

-- "The mesh cast adds the triangle's index"
pub data Indexed : Type 0 where
  hit_at : Vec3 → Float → ℕ → Indexed
  no_hit : Indexed
  stopped : ℕ → Indexed

-- what the code's answer says: a hit's values, or a refusal's number
abbrev pub says_indexed : Result (Option IndexedHit) Refusal → Indexed
says_indexed (Ok (Some h)) = hit_at h.normal h.distance h.index
says_indexed (Ok None) = no_hit
says_indexed (Err refusal) = stopped (number_of refusal)

-- one more triangle's answer: "first strictly least distance wins", and a triangle's refusal is the cast's, first met first
unfoldable pub next_of : Indexed → ℕ → Answer → Indexed
next_of (stopped number) index answer = stopped number
next_of no_hit index (hit normal distance) = hit_at normal distance index
next_of no_hit index none = no_hit
next_of no_hit index (refused number) = stopped number
next_of (hit_at n d i) index (hit normal distance) = cond (lt distance d) (hit_at normal distance index) (hit_at n d i)
next_of (hit_at n d i) index none = hit_at n d i
next_of (hit_at n d i) index (refused number) = stopped number

-- whether a hit at a distance takes the place of what was found before
unfoldable pub gives_way : Indexed → Float → Bool
gives_way (hit_at n d i) distance = lt distance d
gives_way no_hit distance = true
gives_way (stopped number) distance = false

-- the answers of the triangles of a list, in its order, on top of what was found before
unfoldable pub fold_from : (ℕ → Answer) → Indexed → List ℕ → Indexed
fold_from answer best [] = best
fold_from answer best (index ∷ rest) = fold_from answer (next_of best index (answer index)) rest

-- the nearest hit of a list of triangles
abbrev pub nearest_of : (ℕ → Answer) → List ℕ → Indexed
nearest_of answer = fold_from answer no_hit

-- the same without the index, as the height grid answers it
unfoldable pub without_index : Indexed → Answer
without_index (hit_at normal distance index) = hit normal distance
without_index no_hit = none
without_index (stopped number) = refused number
