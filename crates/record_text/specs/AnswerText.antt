-- The text of an answer. Definitions only. Assumes nothing.
use Rattle.std.specs.Prelude.{ℕ, List, [], ◌∷◌, ◌++◌, Float}
use Rattle.vectors.specs.declared.vec3.Vec3.{Vec3}
use Rattle.casts.specs.Answer.{Answer, hit, none, refused}
use Rattle.nearest_hit.specs.Nearest.{Indexed, hit_at, no_hit, stopped}
use Rattle.record_text.specs.Text.{decimal, hexadecimal, printed_bits}

-- `hit`, `none` and `refused `
abbrev pub hit_word : List ℕ
hit_word = 104 ∷ (105 ∷ (116 ∷ []))

abbrev pub none_word : List ℕ
none_word = 110 ∷ (111 ∷ (110 ∷ (101 ∷ [])))

abbrev pub refused_word : List ℕ
refused_word = 114 ∷ (101 ∷ (102 ∷ (117 ∷ (115 ∷ (101 ∷ (100 ∷ (32 ∷ [])))))))

-- a space, then the bits
unfoldable pub float_text : Float → List ℕ
float_text x = (32 ∷ []) ++ hexadecimal (printed_bits x)

-- "`hit` with normal and distance as hexadecimal bits"
unfoldable pub hit_text : Vec3 → Float → List ℕ
hit_text normal distance =
    (((hit_word ++ float_text normal.x) ++ float_text normal.y) ++ float_text normal.z) ++ float_text distance

-- "`none`, or `refused` and the number"
unfoldable pub answer_text : Answer → List ℕ
answer_text (hit normal distance) = hit_text normal distance
answer_text none = none_word
answer_text (refused number) = refused_word ++ decimal number

-- "a mesh adds the index in decimal"
unfoldable pub indexed_text : Indexed → List ℕ
indexed_text (hit_at normal distance index) = (hit_text normal distance ++ (32 ∷ [])) ++ decimal index
indexed_text no_hit = none_word
indexed_text (stopped number) = refused_word ++ decimal number
