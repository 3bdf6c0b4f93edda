-- One part of the second pass, as the loop over the parts takes it: State in, State out; and both passes. Definitions only. Assumes
-- nothing.
use Rattle.std.specs.Prelude.{ℕ, ◌*◌, ◌-◌, ◌≡◌, Bool, true, false, ◌&&◌, cond, List, [], ◌∷◌, leb, ltb, eqb, Float, length}
use Rattle.std.specs.Float.{nan}
use Rattle.geometry.specs.Segment.{ray_admitted}
use Rattle.vectors.specs.declared.vec3.Vec3.{Vec3}
use Rattle.geometry.specs.declared.ray.Ray.{Ray}
use Rattle.casts.specs.Answer.{invalid_input, bad_shape, no_room}
use Rattle.nearest_hit.specs.Nearest.{says_indexed}
use Rattle.tree.specs.Layout.{Tree}
use Rattle.tree.specs.Mesh.{Mesh, thirds, lengths_admitted}
use Rattle.tree_query.specs.Query.{walk_fits}
use Rattle.cabinet.specs.declared.part.Part.{Part}
use Rattle.cabinet.specs.declared.part.CastCost.{CastCost}
use Rattle.cabinet.specs.Found.{Found, Nothing, Hit, Refused, Progress, State}
use Rattle.cabinet.specs.Parts.{Areas, mesh_of, tree_of_part, ranges_inside}
use Rattle.cabinet.specs.Looks.{look_parts, look_from, second_pass}
use Rattle.cabinet.specs.PartCast.{Costed, costing, cast_moved}
use Rattle.cabinet.specs.Cabinet.{Answer, answer_of, plainly, is_refused, after_part}

-- what the code's answer at a part says
abbrev pub says_cost : CastCost → Costed
says_cost c = costing c.spent (says_indexed c.cast)

-- the lent areas
abbrev pub areas : List Float → List ℕ → List Float → List Float → List ℕ → List ℕ → Areas
areas vertices triangles node_boxes triangle_boxes node_words order =
    record {
      vertices = vertices;
      triangles = triangles;
      node_boxes = node_boxes;
      triangle_boxes = triangle_boxes;
      node_words = node_words;
      order = order;
    }

-- the lower of two refusals stands
unfoldable pub lower_refusal : ℕ → Found → Found
lower_refusal number Nothing = Refused number
lower_refusal number (Hit part index normal distance) = Refused number
lower_refusal number (Refused before) = cond (ltb number before) (Refused number) (Refused before)

abbrev pub keeping : State → Progress → State
keeping s at = record { ray = s.ray; limit = s.limit; casting = s.casting; at = at }

unfoldable pub refuse_with : ℕ → State → State
refuse_with number s = keeping s (record { part = s.at.part; spent = s.at.spent; found = lower_refusal number s.at.found })

-- after a refusal no part is begun
unfoldable pub is_over : State → Bool
is_over s = s.casting && is_refused s.at.found

unfoldable pub own_step : Vec3 → Mesh → Tree → ℕ → ℕ → State → State
own_step origin m t list stack s =
    cond (lengths_admitted (length m.vertices) (length m.triangles) && leb t.node_count (2 * thirds (length m.triangles)))
    (cond (walk_fits (thirds (length m.triangles)) t list stack)
    (cond s.casting (keeping s (after_part s.at (cast_moved (s.limit - s.at.spent) s.ray origin m t))) s)
    (refuse_with no_room s))
    (refuse_with bad_shape s)

unfoldable pub step_part : Areas → ℕ → ℕ → State → Part → State
step_part a list stack s p =
    cond (is_over s) s
    (cond (ranges_inside p (length a.vertices) (length a.triangles) (length a.node_boxes) (length a.triangle_boxes)
    (length a.node_words) (length a.order))
    (own_step p.origin (mesh_of a p) (tree_of_part a p) list stack s)
    (refuse_with bad_shape s))

-- what is read past the end of the list
abbrev pub no_part : Part
no_part =
    record {
      origin = record { x = nan; y = nan; z = nan };
      nodes = 0;
      vertices = record { start = 0; length = 0 };
      triangles = record { start = 0; length = 0 };
      node_boxes = record { start = 0; length = 0 };
      triangle_boxes = record { start = 0; length = 0 };
      node_words = record { start = 0; length = 0 };
      order = record { start = 0; length = 0 };
    }

-- a pass over all parts
unfoldable pub step_parts : Areas → ℕ → ℕ → State → List Part → State
step_parts a list stack s [] = s
step_parts a list stack s (p ∷ ps) = step_parts a list stack (step_part a list stack s p) ps

-- after a refusal no part is cast at
unfoldable pub is_idle : State → Bool
is_idle s = cond s.casting (is_refused s.at.found) true

-- and the work areas stay as they were
abbrev pub Kept : State → List ℕ → List ℕ → List ℕ → List ℕ → Type 0
Kept s list list' stack stack' = is_idle s ≡ true → (list' ≡ list) × (stack' ≡ stack)

-- before the first pass: 1 is known, and only 2 and 3 are looked for
abbrev pub looking : Ray → ℕ → Found → State
looking r limit found = record { ray = r; limit = limit; casting = false; at = record { part = 0; spent = 0; found = found } }

-- result slices that are too short are 3, which a part's 2 goes before
unfoldable pub begun : Ray → ℕ → Bool → State
begun r limit fits = looking r limit (cond (ray_admitted r) (cond fits Nothing (Refused no_room)) (Refused invalid_input))

-- the second pass casts
abbrev pub casting_from : State → State
casting_from s = record { ray = s.ray; limit = s.limit; casting = true; at = s.at }

-- what the first pass finds, with which the second begins
unfoldable pub between : Areas → ℕ → ℕ → State → List Part → State
between a list stack start parts =
    second_pass start
    (look_parts (look_from start (length a.vertices) (length a.triangles) (length a.node_boxes) (length a.triangle_boxes)
    (length a.node_words) (length a.order) list stack) parts)

-- both passes
unfoldable pub passes : Areas → ℕ → ℕ → State → List Part → State
passes a list stack start parts = step_parts a list stack (between a list stack start parts) parts

-- the answer as the last state has it: a refusal met before a part was begun carries no count
unfoldable pub last_answer : Progress → Answer
last_answer s = cond (is_refused s.found && eqb s.part 0) (plainly (answer_of s)) (answer_of s)
