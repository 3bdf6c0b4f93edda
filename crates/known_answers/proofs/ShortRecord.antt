-- Document 01's first record in version 3, and one with a NaN, computed from the definitions: what `probe` prints for them, and what the
-- converter makes of them. Assumes nothing.
use mathlib.Core.Path.{◌≡◌, refl}
use mathlib.Core.List.{◌∷◌, ◌++◌}
use lib.ListN.{take, drop}
use lib.Ieee.{span, climb, size, odd, units, round, neg, sum, add, sub, mul, div, lt, eq, le, ne, of_int, to_unsigned, is_nan, fits}
use lib.Ieee.{of_fields}
use lib.Ieee.{of_bits, to_bits}
use Rattle.arithmetic.specs.Basic.{is_finite, absolute, negative}
use Rattle.arithmetic.specs.Root.{root_digits, whole_root, root_round, root_of}
use Rattle.vectors.specs.Vector.{finite_vec, neg_of, dot_of, checked_dot, length_of}
use Rattle.geometry.specs.Segment.{unit_length, ray_admitted}
use Rattle.casts.specs.Surface.{off_segment, facing}
use Rattle.casts.specs.Plane.{plane_admitted, plane_at, plane_cast, ray_plane}
use Rattle.tree.specs.Layout.{vector_at}
use Rattle.float_forms.specs.Forms.{form_of}
use Rattle.float_forms.specs.Bytes.{word_of, word_bytes, pattern_of, pattern_bytes, number_of, number_bytes, numbers_of, numbers_bytes}
use Rattle.float_forms.specs.Bytes.{words_of}
use Rattle.float_forms.specs.Bytes.{words_bytes}
use Rattle.float_forms.specs.Representable.{every, representable}
use Rattle.record_bytes.specs.Records.{many_counts, many_numbers, many_indices, body_length, counts_of, said_of, framed, filled}
use Rattle.record_bytes.specs.Records.{well_formed}
use Rattle.record_bytes.specs.Records.{form_at, is_record, every_said, fields_bytes, record_bytes}
use Rattle.conversion.specs.Convert.{written, refused, converted, to_short, to_long}
use Rattle.record_text.specs.Text.{glyph, digits, places_of, decimal, hexadecimal, printed_bits}
use Rattle.record_text.specs.AnswerText.{float_text, hit_text, answer_text}
use Rattle.records.specs.Lines.{shape_text, parsed_text, line_with}
use Rattle.record_bytes.specs.Stream.{next_of}
use Rattle.records.specs.Shapes.{ray_by, plane_by, shape_from, parse, kind_byte, shape_counts, shape_numbers, shape_indices, said_for}
use Rattle.records.specs.Output.{lines_from, output_of}
use Rattle.records.specs.WorkedExample.{example_output, long_record, short_record, nan_record, area_of}

-- the worked example's first line; and its third one's answer, since a NaN is no maximum
pub short_example : output_of (short_record ++ nan_record) ≡ take 74 example_output ++ (50 ∷ drop 82 example_output)
unfolding short_record nan_record example_output output_of lines_from next_of is_record form_at form_of well_formed framed filled
    body_length
    many_counts many_numbers many_indices counts_of said_of numbers_of number_of pattern_of words_of word_of parse ray_by shape_from
    plane_by vector_at
    line_with parsed_text shape_text answer_text hit_text float_text printed_bits hexadecimal decimal places_of digits glyph ray_plane
    plane_cast
    plane_at plane_admitted facing off_segment ray_admitted unit_length length_of checked_dot dot_of neg_of finite_vec root_of root_round
    whole_root
    root_digits negative absolute is_finite span climb size odd units round neg sum add sub mul div lt eq le ne of_int to_unsigned is_nan
    of_fields of_bits to_bits
short_example = refl

-- to version 3 and back, with six places more, just room, and one place less; and a NaN
pub to_short_example : to_short long_record (area_of 60) ≡ record { answer = written 54; area = short_record ++ area_of 6 }
unfolding short_record long_record said_for kind_byte shape_counts shape_numbers shape_indices converted every every_said representable
    well_formed
    framed filled body_length many_counts many_numbers many_indices counts_of said_of numbers_of number_of pattern_of words_of word_of
    record_bytes
    fields_bytes numbers_bytes number_bytes pattern_bytes words_bytes word_bytes size odd is_nan fits of_fields of_bits to_bits
to_short_example = refl

pub to_long_example : to_long short_record (area_of 102) ≡ record { answer = written 102; area = long_record }
unfolding short_record long_record said_for kind_byte shape_counts shape_numbers shape_indices converted every every_said representable
    well_formed
    framed filled body_length many_counts many_numbers many_indices counts_of said_of numbers_of number_of pattern_of words_of word_of
    record_bytes
    fields_bytes numbers_bytes number_bytes pattern_bytes words_bytes word_bytes size odd is_nan fits of_fields of_bits to_bits
to_long_example = refl

pub no_room_example : to_long nan_record (area_of 101) ≡ record { answer = refused 3; area = area_of 101 }
unfolding nan_record converted every every_said representable well_formed framed filled body_length many_counts many_numbers many_indices
    counts_of
    said_of numbers_of number_of pattern_of words_of word_of record_bytes fields_bytes numbers_bytes number_bytes pattern_bytes words_bytes
    word_bytes
    size odd is_nan fits of_fields of_bits to_bits
no_room_example = refl

pub nan_example : to_long nan_record (area_of 102) ≡ record { answer = refused 11; area = area_of 102 }
unfolding nan_record converted every every_said representable well_formed framed filled body_length many_counts many_numbers many_indices
    counts_of
    said_of numbers_of number_of pattern_of words_of word_of record_bytes fields_bytes numbers_bytes number_bytes pattern_bytes words_bytes
    word_bytes
    size odd is_nan fits of_fields of_bits to_bits
nan_example = refl
