-- The cast at all parts, one after the other, under one limit. Definitions only. Assumes nothing.
use Rattle.std.specs.Prelude.{ℕ, ◌+◌, ◌-◌, Bool, true, false, ◌&&◌, cond, List, [], ◌∷◌, ltb, Float}
use Rattle.std.specs.Float.Ieee.{lt}
use Rattle.geometry.specs.Segment.{ray_admitted}
use Rattle.vectors.specs.declared.vec3.Vec3.{Vec3}
use Rattle.geometry.specs.declared.ray.Ray.{Ray}
use Rattle.casts.specs.Answer.{invalid_input, bad_shape, no_room}
use Rattle.nearest_hit.specs.Nearest.{Indexed, hit_at, no_hit, stopped}
use Rattle.cabinet.specs.declared.part.Part.{Part}
use Rattle.cabinet.specs.Found.{Found, Nothing, Hit, Refused, Progress}
use Rattle.cabinet.specs.Parts.{Areas, mesh_of, tree_of_part, shape_fits, room_fits}
use Rattle.cabinet.specs.PartCast.{Costed, cast_moved, own_cast}

-- "the least distance with its part, triangle and normal, lowest part .. on ties": a later part's hit takes the place where it is
-- strictly nearer; the first refusal stays
unfoldable pub found_next : Found → ℕ → Indexed → Found
found_next (Refused number) part answer = Refused number
found_next Nothing part (hit_at normal distance index) = Hit part index normal distance
found_next Nothing part no_hit = Nothing
found_next Nothing part (stopped number) = Refused number
found_next (Hit q i n d) part (hit_at normal distance index) = cond (lt distance d) (Hit part index normal distance) (Hit q i n d)
found_next (Hit q i n d) part no_hit = Hit q i n d
found_next (Hit q i n d) part (stopped number) = Refused number

abbrev pub is_refused : Found → Bool
is_refused (Refused number) = true
is_refused Nothing = false
is_refused (Hit part index normal distance) = false

-- parts are counted from 0; no list in memory has more than the last number
abbrev pub next_part : ℕ → ℕ
next_part k = cond (ltb k 18446744073709551615) (k + 1) k

-- a part's answer on top of what was found before; after a refusal no part is begun
unfoldable pub after_part : Progress → Costed → Progress
after_part s c =
    cond (is_refused s.found) s
    (record { part = next_part s.part; spent = s.spent + c.spent; found = found_next s.found s.part c.answer })

abbrev pub beginning : Progress
beginning = record { part = 0; spent = 0; found = Nothing }

module _ (r : Ray) (a : Areas) where
  -- "Parts are walked in list order and every tree node looked at costs one from a limit shared by all."
  unfoldable pub cast_part : ℕ → Progress → Part → Progress
  cast_part limit s p = after_part s (cast_moved (limit - s.spent) r p.origin (mesh_of a p) (tree_of_part a p))

  unfoldable pub cast_parts : ℕ → Progress → List Part → Progress
  cast_parts limit s [] = s
  cast_parts limit s (p ∷ ps) = cast_parts limit (cast_part limit s p) ps

  -- ---- without a limit: each part's own cast
  unfoldable pub own_part : Progress → Part → Progress
  own_part s p = after_part s (own_cast r p.origin (mesh_of a p) (tree_of_part a p))

  unfoldable pub own_parts : Progress → List Part → Progress
  own_parts s [] = s
  own_parts s (p ∷ ps) = own_parts (own_part s p) ps

-- ---- the call
pub data Answer : Type 0 where
  hit_in : (part triangle : ℕ) → Vec3 → Float → (spent : ℕ) → Answer
  none_after : (spent : ℕ) → Answer
  refused : ℕ → Answer
  refused_after : ℕ → (spent : ℕ) → Answer

abbrev pub answer_with : Found → ℕ → Answer
answer_with (Hit part index normal distance) spent = hit_in part index normal distance spent
answer_with Nothing spent = none_after spent
answer_with (Refused number) spent = refused_after number spent

-- "and the nodes spent, which a refusal met from the first part on carries too"
abbrev pub answer_of : Progress → Answer
answer_of s = answer_with s.found s.spent

unfoldable pub all_parts : (Part → Bool) → List Part → Bool
all_parts f [] = true
all_parts f (p ∷ ps) = cond (f p) (all_parts f ps) false

-- 1, then 2 of every part, then 3 of every part: "both are found before the first walk"
unfoldable pub cast_cabinet : Ray → Areas → ℕ → ℕ → ℕ → List Part → Answer
cast_cabinet r a list stack limit parts =
    cond (ray_admitted r)
    (cond (all_parts (shape_fits a) parts)
    (cond (all_parts (room_fits a list stack) parts) (answer_of (cast_parts r a limit beginning parts)) (refused no_room))
    (refused bad_shape))
    (refused invalid_input)

-- refusals 1, 2 and 3 let the call pass, the result slices' 3 among them: before that nothing is written, the work areas included
unfoldable pub tests_pass : Ray → Areas → ℕ → ℕ → Bool → List Part → Bool
tests_pass r a list stack fits parts = ray_admitted r && (all_parts (shape_fits a) parts
    && (fits && all_parts (room_fits a list stack) parts))

-- the same number without a count
abbrev pub plainly : Answer → Answer
plainly (refused_after number spent) = refused number
plainly (refused number) = refused number
plainly (none_after spent) = none_after spent
plainly (hit_in part triangle normal distance spent) = hit_in part triangle normal distance spent

-- a call whose result slices do not fit is 3, after 1 and 2
unfoldable pub with_results : Bool → Answer → Answer
with_results true answer = answer
with_results false (refused number) = refused number
with_results false (refused_after number spent) = refused no_room
with_results false (none_after spent) = refused no_room
with_results false (hit_in part triangle normal distance spent) = refused no_room
