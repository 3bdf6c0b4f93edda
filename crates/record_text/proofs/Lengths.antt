-- How long the text of an answer is. Assumes nothing.
use Prim.Native.Nat.{ℕ, ◌≤◌}
use mathlib.Core.Path.{◌≡◌}
use mathlib.Core.List.{[], ◌∷◌, ◌++◌}
use native.Mathlib.Omega.{arith}
use lib.Ieee.{Float}
use lib.ListN.{length, length-append}
use Rattle.vectors.specs.declared.vec3.Vec3.{Vec3}
use Rattle.casts.specs.Answer.{Answer, hit, none, refused}
use Rattle.nearest_hit.specs.Nearest.{Indexed, hit_at, no_hit, stopped}
use Rattle.record_text.specs.Text.{decimal, hexadecimal, printed_bits, places_of}
use Rattle.record_text.specs.AnswerText.{refused_word, float_text, hit_text, answer_text, indexed_text}
use Rattle.record_text.proofs.Places.{length_digits, places_at_most}

pub length_decimal : (n : ℕ) → length (decimal n) ≤ 20
unfolding decimal
length_decimal n = omega (arith, length_digits 10 (places_of 20 n) n, places_at_most 20 n)

pub length_hexadecimal : (n : ℕ) → length (hexadecimal n) ≡ 16
unfolding hexadecimal
length_hexadecimal n = length_digits 16 16 n

pub length_float : (x : Float) → length (float_text x) ≡ 17
unfolding float_text
length_float x = omega (arith, length-append (32 ∷ []) (hexadecimal (printed_bits x)), length_hexadecimal (printed_bits x))

pub length_hit : (normal : Vec3) (distance : Float) → length (hit_text normal distance) ≡ 71
unfolding hit_text
length_hit normal distance = simp (length-append, length_float)

pub length_answer : (a : Answer) → length (answer_text a) ≤ 71
unfolding answer_text
length_answer (hit normal distance) = omega (arith, length_hit normal distance)
length_answer none = omega arith
length_answer (refused number) = omega (arith, length-append refused_word (decimal number), length_decimal number)

pub length_indexed : (a : Indexed) → length (indexed_text a) ≤ 92
unfolding indexed_text
length_indexed (hit_at normal distance index) =
    omega (
      arith,
      length-append (hit_text normal distance ++ (32 ∷ [])) (decimal index),
      length-append (hit_text normal distance) (32 ∷ []),
      length_hit normal distance,
      length_decimal index,
    )
length_indexed no_hit = omega arith
length_indexed (stopped number) = omega (arith, length-append refused_word (decimal number), length_decimal number)
