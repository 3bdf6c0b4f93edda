-- What is promised of the limit, for an admitted ray and any list of parts. Definitions only. Assumes nothing.
use Rattle.std.specs.Prelude.{ℕ, ◌+◌, ◌≤◌, ◌<◌, ◌≡◌, true, cond, List, [], ◌∷◌, Float}
use Rattle.vectors.specs.Vector.{finite_vec, sub_of}
use Rattle.geometry.specs.Segment.{ray_admitted}
use Rattle.vectors.specs.declared.vec3.Vec3.{Vec3}
use Rattle.geometry.specs.declared.ray.Ray.{Ray}
use Rattle.casts.specs.Answer.{overflow, limit_reached}
use Rattle.nearest_hit.specs.Nearest.{Indexed, stopped}
use Rattle.mesh.specs.MeshCast.{ray_mesh}
use Rattle.mesh.specs.Demand3.{PassesCheck}
use Rattle.cabinet.specs.declared.part.Part.{Part}
use Rattle.cabinet.specs.Found.{Found, Nothing}
use Rattle.cabinet.specs.Parts.{Areas, mesh_of, tree_of_part, shape_fits, room_fits}
use Rattle.cabinet.specs.PartCast.{moved_ray}
use Rattle.cabinet.specs.Cabinet.{Answer, hit_in, none_after, refused, refused_after, answer_with, answer_of, found_next, next_part}
use Rattle.cabinet.specs.Cabinet.{beginning, own_parts, all_parts, cast_cabinet}

-- the nodes that an answer carries
abbrev pub spent_of : Answer → ℕ
spent_of (hit_in part triangle normal distance spent) = spent
spent_of (none_after spent) = spent
spent_of (refused number) = 0
spent_of (refused_after number spent) = spent

-- the nearest of the parts' answers: the first refusal, else the least distance, the lowest part on ties
unfoldable pub nearest_part : (Part → Indexed) → Found → ℕ → List Part → Found
nearest_part answer found part [] = found
nearest_part answer found part (p ∷ ps) = nearest_part answer (found_next found part (answer p)) (next_part part) ps

unfoldable pub nodes_of : List Part → ℕ
nodes_of [] = 0
nodes_of (p ∷ ps) = p.nodes + nodes_of ps

-- every part's tree passes the check for its mesh
pub data AllChecked (a : Areas) : List Part → Type 0 where
  none_checked : AllChecked a []
  and_checked : (p : Part) (ps : List Part) → PassesCheck (mesh_of a p) (tree_of_part a p) → AllChecked a ps → AllChecked a (p ∷ ps)

module _ (r : Ray) (a : Areas) (list stack : ℕ) where
  -- the mesh cast at a part alone, at its own vertices with the moved ray; a moved origin that is not finite is 6
  unfoldable pub alone : Part → Indexed
  alone p =
      cond (finite_vec (sub_of r.origin p.origin))
      (ray_mesh (moved_ray r p.origin) (mesh_of a p) (mesh_of a p).vertices (tree_of_part a p) list stack)
      (stopped overflow)

  module _ (parts : List Part) where
    -- refusals 1, 2 and 3 let the call pass
    pub record Passes : Type 0 where
      pub ray : ray_admitted r ≡ true
      pub shapes : all_parts (shape_fits a) parts ≡ true
      pub rooms : all_parts (room_fits a list stack) parts ≡ true

    -- what the parts need without a limit: the definition's count over the parts begun
    abbrev pub needed : ℕ
    needed = (own_parts r a beginning parts).spent

    abbrev pub answer_at : ℕ → Answer
    answer_at limit = cast_cabinet r a list stack limit parts

    pub record LimitPromises : Type 0 where
      -- the answer at a limit is that without one if the limit is at least the need ..
      pub suffices : (limit : ℕ) → needed ≤ limit → answer_at limit ≡ answer_of (own_parts r a beginning parts)
      -- .. and else 10 with the limit spent
      pub used_up : (limit : ℕ) → limit < needed → answer_at limit ≡ refused_after limit_reached limit
      -- "number 10 exactly when the next node in the walk would exceed the limit": nothing else is answered with it
      pub only_used_up : (limit spent : ℕ) → answer_at limit ≡ refused_after limit_reached spent → limit < needed
      -- the nodes spent "never pass the limit"
      pub spent_within : (limit : ℕ) → spent_of (answer_at limit) ≤ limit
      -- "A larger limit never changes a hit or a none", nor its count
      pub hit_stays : (limit more part triangle : ℕ) (normal : Vec3) (distance : Float) (spent : ℕ) → limit ≤ more
          → answer_at limit ≡ hit_in part triangle normal distance spent → answer_at more ≡ hit_in part triangle normal distance spent
      pub none_stays : (limit more spent : ℕ) → limit ≤ more → answer_at limit ≡ none_after spent → answer_at more ≡ none_after spent
      -- "For checked trees and a limit that suffices, the result is that of casting at each part alone": so it is for any trees, and
      -- for checked ones the node counts suffice
      pub each_alone : (limit : ℕ) → needed ≤ limit → answer_at limit ≡ answer_with (nearest_part alone Nothing 0 parts) needed
      pub needs_few : AllChecked a parts → needed ≤ nodes_of parts

-- past refusals 1, 2 and 3
abbrev pub LimitsHold : Type 0
LimitsHold = (r : Ray) (a : Areas) (list stack : ℕ) (parts : List Part) → Passes r a list stack parts → LimitPromises r a list stack parts
