-- What is known before a part, with refusals by their numbers in the table, and what the code's values say of it. Definitions only.
-- Assumes nothing.
use Rattle.std.specs.Prelude.{ℕ, Bool, Float, Option, Some, None, Result, Ok, Err}
use Rattle.vectors.specs.declared.vec3.Vec3.{Vec3}
use Rattle.geometry.specs.declared.ray.Ray.{Ray}
use Rattle.casts.specs.Answer.{number_of}
use Rattle.casts.specs.declared.answer.Refusal.{Refusal}
use Rattle.cabinet.specs.declared.part.PartHit.{PartHit}
use Rattle.cabinet.specs.declared.part.Progress as CodeProgress
use Rattle.cabinet.specs.declared.part.State as CodeState
use Rattle.cabinet.specs.declared.part.Look as CodeLook

-- the nearest hit so far with its part, triangle, normal and distance, or the first refusal
pub data Found : Type 0 where
  Nothing : Found
  Hit : (part index : ℕ) → Vec3 → Float → Found
  Refused : ℕ → Found

-- the number of the next part, the nodes spent and what was found in the parts before it
pub record Progress : Type 0 where
  pub part : ℕ
  pub spent : ℕ
  pub found : Found

-- with what every part is cast at, and what is known before the next
pub record State : Type 0 where
  pub ray : Ray
  pub limit : ℕ
  pub casting : Bool
  pub at : Progress

-- the lengths of the lent areas, and the lowest refusal so far, 0 where there is none
pub record Look : Type 0 where
  pub vertices : ℕ
  pub triangles : ℕ
  pub node_boxes : ℕ
  pub triangle_boxes : ℕ
  pub node_words : ℕ
  pub order : ℕ
  pub list : ℕ
  pub stack : ℕ
  pub number : ℕ

-- ---- what the code's values say
abbrev pub refusal_number : Option Refusal → ℕ
refusal_number None = 0
refusal_number (Some refusal) = number_of refusal

abbrev pub says_found : Result (Option PartHit) Refusal → Found
says_found (Ok None) = Nothing
says_found (Ok (Some h)) = Hit h.part h.hit.index h.hit.normal h.hit.distance
says_found (Err refusal) = Refused (number_of refusal)

abbrev pub says_progress : CodeProgress.Progress → Progress
says_progress s = record { part = s.part; spent = s.spent; found = says_found s.found }

abbrev pub says_state : CodeState.State → State
says_state s = record { ray = s.ray; limit = s.limit; casting = s.casting; at = says_progress s.at }

abbrev pub says_look : CodeLook.Look → Look
says_look s =
    record {
      vertices = s.areas.vertices;
      triangles = s.areas.triangles;
      node_boxes = s.areas.node_boxes;
      triangle_boxes = s.areas.triangle_boxes;
      node_words = s.areas.node_words;
      order = s.areas.order;
      list = s.list;
      stack = s.stack;
      number = refusal_number s.refusal;
    }
