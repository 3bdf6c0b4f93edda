-- Document 01's worked example, computed from the definitions: the whole output for its three records is its three lines; and an example of
-- both versions. Assumes nothing.
use mathlib.Core.Path.{◌≡◌, refl}
use lib.Ieee.{span, climb, size, odd, units, round, neg, sum, add, sub, mul, div, lt, eq, le, ne, of_int, to_unsigned, is_nan, of_fields}
use lib.Ieee.{of_bits, to_bits}
use Rattle.arithmetic.specs.Basic.{is_finite, absolute, negative}
use Rattle.arithmetic.specs.Root.{root_digits, whole_root, root_round, root_of}
use Rattle.vectors.specs.Vector.{finite_vec, neg_of, dot_of, checked_dot, length_of}
use Rattle.geometry.specs.Segment.{unit_length, ray_admitted}
use Rattle.casts.specs.Surface.{off_segment, facing}
use Rattle.casts.specs.Plane.{plane_admitted, plane_at, plane_cast, ray_plane}
use Rattle.tree.specs.Layout.{vector_at}
use Rattle.float_forms.specs.Forms.{form_of}
use Rattle.float_forms.specs.Bytes.{word_of, word_bytes, pattern_of, pattern_bytes, number_of, number_bytes, numbers_of, numbers_bytes}
use Rattle.float_forms.specs.Bytes.{words_of}
use Rattle.float_forms.specs.Bytes.{words_bytes}
use Rattle.record_bytes.specs.Records.{many_counts, many_numbers, many_indices, body_length, counts_of, said_of, framed, filled}
use Rattle.record_bytes.specs.Records.{well_formed}
use Rattle.record_bytes.specs.Records.{form_at, is_record, fields_bytes, record_bytes}
use Rattle.record_text.specs.Text.{glyph, digits, places_of, decimal, hexadecimal, printed_bits}
use Rattle.record_text.specs.AnswerText.{float_text, hit_text, answer_text}
use Rattle.records.specs.Lines.{shape_text, parsed_text, line_with}
use Rattle.record_bytes.specs.Stream.{next_of}
use Rattle.records.specs.Shapes.{ray_by, plane_by, shape_from, parse, kind_byte, shape_counts, shape_numbers, shape_indices, said_for}
use Rattle.records.specs.Output.{lines_from, output_of}
use Rattle.records.specs.WorkedExample.{example_records, example_output, near_records, near_output}

pub worked_example : output_of example_records ≡ example_output
unfolding example_records example_output record_bytes fields_bytes numbers_bytes number_bytes pattern_bytes words_bytes word_bytes said_for
    kind_byte
    shape_counts shape_numbers shape_indices output_of lines_from next_of is_record form_at form_of well_formed framed filled body_length
    many_counts
    many_numbers many_indices counts_of said_of numbers_of number_of pattern_of words_of word_of parse ray_by shape_from plane_by vector_at
    line_with
    parsed_text shape_text answer_text hit_text float_text printed_bits hexadecimal decimal places_of digits glyph ray_plane plane_cast
    plane_at
    plane_admitted facing off_segment ray_admitted unit_length length_of checked_dot dot_of neg_of finite_vec root_of root_round whole_root
    root_digits
    negative absolute is_finite span climb size odd units round neg sum add sub mul div lt eq le ne of_int to_unsigned is_nan of_fields
    of_bits
    to_bits
worked_example = refl

-- near is the record's own: a hit below it is none, one at it is kept, and version 1 has none
pub near_example : output_of near_records ≡ near_output
unfolding near_records near_output record_bytes fields_bytes numbers_bytes number_bytes pattern_bytes words_bytes word_bytes said_for
    kind_byte
    shape_counts shape_numbers shape_indices output_of lines_from next_of is_record form_at form_of well_formed framed filled body_length
    many_counts
    many_numbers many_indices counts_of said_of numbers_of number_of pattern_of words_of word_of parse ray_by shape_from plane_by vector_at
    line_with
    parsed_text shape_text answer_text hit_text float_text printed_bits hexadecimal decimal places_of digits glyph ray_plane plane_cast
    plane_at
    plane_admitted facing off_segment ray_admitted unit_length length_of checked_dot dot_of neg_of finite_vec root_of root_round whole_root
    root_digits
    negative absolute is_finite span climb size odd units round neg sum add sub mul div lt eq le ne of_int to_unsigned is_nan of_fields
    of_bits
    to_bits
near_example = refl
