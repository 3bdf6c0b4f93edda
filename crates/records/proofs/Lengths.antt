-- How long the texts of a line are. Assumes nothing.
use Prim.Native.Nat.{ℕ, ◌≤◌}
use mathlib.Core.List.{List, [], ◌∷◌, ◌++◌}
use native.Mathlib.Omega.{arith}
use lib.ListN.{length, length-append}
use Rattle.casts.specs.Plane.{ray_plane}
use Rattle.triangle_cast.specs.Triangle.{ray_triangle}
use Rattle.height_field.specs.Cast.{ray_height_field}
use Rattle.level_set.specs.Walk.{ray_level_set}
use Rattle.geometry.specs.declared.ray.Ray.{Ray}
use Rattle.records.specs.Shapes.{Shape, plane, triangle, mesh, heights, distances, Parsed, says, malformed, parse}
use Rattle.records.specs.MeshAnswer.{mesh_answer}
use Rattle.record_text.specs.Text.{decimal}
use Rattle.records.specs.Lines.{shape_text, parsed_text, bad_word, record_text, line_with, line_of, bad_line}
use Rattle.record_text.proofs.Lengths.{length_decimal, length_answer, length_indexed}

length_shape : (r : Ray) (s : Shape) → length (shape_text r s) ≤ 92
unfolding shape_text
length_shape r (plane p) = omega (arith, length_answer (ray_plane p r))
length_shape r (triangle v w u) = omega (arith, length_answer (ray_triangle r (v ∷ (w ∷ (u ∷ [])))))
length_shape r (mesh m) = length_indexed (mesh_answer r m)
length_shape r (heights field numbers) = omega (arith, length_answer (ray_height_field r field numbers))
length_shape r (distances grid numbers) = omega (arith, length_answer (ray_level_set r grid numbers))

pub length_parsed : (p : Parsed) → length (parsed_text p) ≤ 92
unfolding parsed_text
length_parsed (says r s) = length_shape r s
length_parsed malformed = omega arith

pub length_number : (n : ℕ) → length (decimal n ++ (32 ∷ [])) ≤ 21
length_number n = omega (arith, length-append (decimal n) (32 ∷ []), length_decimal n)

-- the longest line
pub longest_line_lem : (number : ℕ) (text : List ℕ) → length text ≤ 92 → length (line_with number text) ≤ 114
unfolding line_with
longest_line_lem number text short =
    omega (
      arith,
      length-append ((decimal number ++ (32 ∷ [])) ++ text) (10 ∷ []),
      length-append (decimal number ++ (32 ∷ [])) text,
      length_number number,
    )

pub length_line : (number : ℕ) (bytes : List ℕ) → length (line_of number bytes) ≤ 114
length_line number bytes = longest_line_lem number (record_text bytes) (length_parsed (parse bytes))

pub length_bad_line : (number : ℕ) → length (bad_line number) ≤ 114
length_bad_line number = longest_line_lem number bad_word (omega arith)
