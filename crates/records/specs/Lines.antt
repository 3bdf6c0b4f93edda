-- The line that answers a record. Definitions only. Assumes nothing.
use Rattle.std.specs.Prelude.{ℕ, List, [], ◌∷◌, ◌++◌}
use Rattle.geometry.specs.declared.ray.Ray.{Ray}
use Rattle.casts.specs.Plane.{ray_plane}
use Rattle.triangle_cast.specs.Triangle.{ray_triangle}
use Rattle.height_field.specs.Cast.{ray_height_field}
use Rattle.level_set.specs.Walk.{ray_level_set}
use Rattle.records.specs.MeshAnswer.{mesh_answer}
use Rattle.records.specs.Shapes.{Shape, plane, triangle, mesh, heights, distances, Parsed, says, malformed, parse}
use Rattle.record_text.specs.Text.{decimal}
use Rattle.record_text.specs.AnswerText.{answer_text, indexed_text}

-- `bad`
abbrev pub bad_word : List ℕ
bad_word = 98 ∷ (97 ∷ (100 ∷ []))

-- the cast at each shape
unfoldable pub shape_text : Ray → Shape → List ℕ
shape_text ray (plane p) = answer_text (ray_plane p ray)
shape_text ray (triangle v w u) = answer_text (ray_triangle ray (v ∷ (w ∷ (u ∷ []))))
shape_text ray (mesh m) = indexed_text (mesh_answer ray m)
shape_text ray (heights field numbers) = answer_text (ray_height_field ray field numbers)
shape_text ray (distances grid numbers) = answer_text (ray_level_set ray grid numbers)

-- malformed comes before every refusal
unfoldable pub parsed_text : Parsed → List ℕ
parsed_text (says ray shape) = shape_text ray shape
parsed_text malformed = bad_word

-- the answer to a whole record, its length bytes included
abbrev pub record_text : List ℕ → List ℕ
record_text bytes = parsed_text (parse bytes)

-- the record number, a space, the answer, the end of the line
unfoldable pub line_with : ℕ → List ℕ → List ℕ
line_with number text = ((decimal number ++ (32 ∷ [])) ++ text) ++ (10 ∷ [])

-- the line of a whole record
abbrev pub line_of : ℕ → List ℕ → List ℕ
line_of number bytes = line_with number (record_text bytes)

-- "it prints the record number and `bad`"
abbrev pub bad_line : ℕ → List ℕ
bad_line number = line_with number bad_word
