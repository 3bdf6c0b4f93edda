-- The first pass, by lengths alone: a part's refusals 2 and 3, and the lowest refusal of all parts. Definitions only. Assumes nothing.
use Rattle.std.specs.Prelude.{ℕ, ◌+◌, ◌*◌, Bool, true, ◌&&◌, cond, List, [], ◌∷◌, leb, ltb, eqb}
use Rattle.casts.specs.Answer.{bad_shape, no_room}
use Rattle.tree.specs.Layout.{all_long, tree_lengths}
use Rattle.tree.specs.Mesh.{thirds, lengths_admitted}
use Rattle.cabinet.specs.declared.part.Part.{Part}
use Rattle.cabinet.specs.Found.{Found, Nothing, Hit, Refused, State, Look}
use Rattle.cabinet.specs.Parts.{ranges_inside}

-- the lower of two refusals stands; 0 is none
unfoldable pub lower_number : ℕ → ℕ → ℕ
lower_number number before = cond (eqb before 0) number (cond (ltb number before) number before)

abbrev pub look_with : ℕ → Look → Look
look_with number s =
    record {
      vertices = s.vertices;
      triangles = s.triangles;
      node_boxes = s.node_boxes;
      triangle_boxes = s.triangle_boxes;
      node_words = s.node_words;
      order = s.order;
      list = s.list;
      stack = s.stack;
      number = number;
    }

unfoldable pub lowered : ℕ → Look → Look
lowered number s = look_with (lower_number number s.number) s

-- 2: the ranges, and then the lengths that they have
unfoldable pub look_shape : Look → Part → Bool
look_shape s p =
    ranges_inside p s.vertices s.triangles s.node_boxes s.triangle_boxes s.node_words s.order
    && (lengths_admitted p.vertices.length p.triangles.length && leb p.nodes (2 * thirds p.triangles.length))

-- 3
unfoldable pub look_room : Look → Part → Bool
look_room s p =
    all_long (tree_lengths (thirds p.triangles.length) p.node_boxes.length p.triangle_boxes.length p.node_words.length
    p.order.length)
    && (leb (thirds p.triangles.length) s.list && leb (p.nodes + 1) s.stack)

unfoldable pub look_part : Look → Part → Look
look_part s p = cond (look_shape s p) (cond (look_room s p) s (lowered no_room s)) (lowered bad_shape s)

unfoldable pub look_parts : Look → List Part → Look
look_parts s [] = s
look_parts s (p ∷ ps) = look_parts (look_part s p) ps

-- ---- before and after it
abbrev pub number_of : Found → ℕ
number_of Nothing = 0
number_of (Hit part index normal distance) = 0
number_of (Refused number) = number

unfoldable pub found_by : ℕ → Found
found_by number = cond (eqb number 0) Nothing (Refused number)

unfoldable pub look_from : State → ℕ → ℕ → ℕ → ℕ → ℕ → ℕ → ℕ → ℕ → Look
look_from start vertices triangles node_boxes triangle_boxes node_words order list stack =
    record {
      vertices = vertices;
      triangles = triangles;
      node_boxes = node_boxes;
      triangle_boxes = triangle_boxes;
      node_words = node_words;
      order = order;
      list = list;
      stack = stack;
      number = number_of start.at.found;
    }

-- the second pass casts, from what the first found
unfoldable pub second_pass : State → Look → State
second_pass start s =
    record {
      ray = start.ray;
      limit = start.limit;
      casting = true;
      at = record { part = 0; spent = 0; found = found_by s.number };
    }
