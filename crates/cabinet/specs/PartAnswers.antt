-- What the answer of the cast at a cabinet says of the casts at its parts alone. Definitions only. Assumes nothing.
use Rattle.std.specs.Prelude.{ℕ, ◌<◌, ◌≡◌, true, List, Float, length, get_or}
use Rattle.std.specs.Float.Ieee.{lt, le}
use Rattle.vectors.specs.declared.vec3.Vec3.{Vec3}
use Rattle.geometry.specs.declared.ray.Ray.{Ray}
use Rattle.casts.specs.Answer.{limit_reached}
use Rattle.nearest_hit.specs.Nearest.{Indexed, hit_at, no_hit, stopped}
use Rattle.mesh.specs.Demand3.{PassesCheck, NearestHit}
use Rattle.cabinet.specs.declared.part.Part.{Part}
use Rattle.cabinet.specs.Parts.{Areas, mesh_of, tree_of_part}
use Rattle.cabinet.specs.PartCast.{moved_ray}
use Rattle.cabinet.specs.Cabinet.{Answer, hit_in, none_after, refused_after}
use Rattle.cabinet.specs.Promises.{alone}
use Rattle.cabinet.specs.Steps.{no_part}

-- the part of a number, counted from 0
abbrev pub part_at : List Part → ℕ → Part
part_at parts k = get_or parts k no_part

module _ (r : Ray) (a : Areas) (list stack : ℕ) (parts : List Part) where
  -- the mesh cast at a part alone, by the part's number
  abbrev pub alone_at : ℕ → Indexed
  alone_at k = alone r a list stack (part_at parts k)

  -- "the least distance with its part, triangle and normal, lowest part and then lowest triangle on ties"
  pub record NearestOfParts (part triangle : ℕ) (normal : Vec3) (distance : Float) : Type 0 where
    pub listed : part < length parts
    -- the mesh cast at that part answers it
    pub answers : alone_at part ≡ hit_at normal distance triangle
    -- every other part that is hit lies at least as far, and farther if it is lower; no part refuses
    pub as_far : (k : ℕ) → k < length parts → (normal' : Vec3) (distance' : Float) (triangle' : ℕ)
        → alone_at k ≡ hit_at normal' distance' triangle' → le distance distance' ≡ true
    pub farther : (k : ℕ) → k < part → (normal' : Vec3) (distance' : Float) (triangle' : ℕ)
        → alone_at k ≡ hit_at normal' distance' triangle' → lt distance distance' ≡ true
    pub none_refuses : (k number : ℕ) → k < length parts → alone_at k ≡ stopped number → ⊥
    -- within the part, through a tree that passes the check: the nearest of the candidates, the lowest triangle on ties
    pub of_triangles : PassesCheck (mesh_of a (part_at parts part)) (tree_of_part a (part_at parts part))
        → NearestHit (moved_ray r (part_at parts part).origin) (mesh_of a (part_at parts part)) triangle normal distance

  -- "as that part's refusal": no part before it refuses
  pub record FirstRefuses (number : ℕ) : Type 0 where
    pub part : ℕ
    pub listed : part < length parts
    pub refuses : alone_at part ≡ stopped number
    pub first : (k other : ℕ) → k < part → alone_at k ≡ stopped other → ⊥

  pub record AnswersParts (answer : Answer) : Type 0 where
    pub hit_is : (part triangle : ℕ) (normal : Vec3) (distance : Float) (spent : ℕ)
        → answer ≡ hit_in part triangle normal distance spent → NearestOfParts part triangle normal distance
    pub none_is : (spent : ℕ) → answer ≡ none_after spent → (k : ℕ) → k < length parts → alone_at k ≡ no_hit
    -- a refusal met at a part, other than the limit's
    pub refusal_is : (number spent : ℕ) → answer ≡ refused_after number spent → (number ≡ limit_reached → ⊥) → FirstRefuses number
