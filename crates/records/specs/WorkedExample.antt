-- Document 01's worked example: three records, and the whole output for them; three of versions 1 and 2; and one in
-- versions 2 and 3. Definitions only. Assumes nothing.
use Rattle.std.specs.Prelude.{ℕ, List, [], ◌∷◌, ◌++◌, Float, drop, replicate}
use Rattle.std.specs.Float.{binary64}
use Rattle.std.specs.Float.Ieee.{of_bits}
use Rattle.vectors.specs.Numbers.{zeroᶠ, oneᶠ}
use Rattle.float_forms.specs.declared.forms.Form.{Form}
use Rattle.float_forms.specs.declared.forms.Form.TheVariants.{First, Long}
use Rattle.record_bytes.specs.Records.{record_bytes}
use Rattle.records.specs.Shapes.{plane, said_for}

abbrev two : Float
two = of_bits binary64 0x4000_0000_0000_0000

abbrev five : Float
five = of_bits binary64 0x4014_0000_0000_0000

abbrev minus_one : Float
minus_one = of_bits binary64 0xbff0_0000_0000_0000

abbrev minus_two : Float
minus_two = of_bits binary64 0xc000_0000_0000_0000

-- "Plane normal (0,0,1), distance 0, origin (0,0,2)": a record of a ray along z
abbrev record_of : Form → Float → Float → Float → List ℕ
record_of form z maximum near =
    record_bytes form
    (said_for form record {
      origin = record { x = zeroᶠ; y = zeroᶠ; z = two };
      direction = record { x = zeroᶠ; y = zeroᶠ; z = z };
      max_distance = maximum;
      near = near;
    } (plane record { normal = record { x = zeroᶠ; y = zeroᶠ; z = oneᶠ }; distance = zeroᶠ }))

abbrev example_record : Float → Float → List ℕ
example_record z maximum = record_of First z maximum zeroᶠ

-- "directions (0,0,-1) with maxima 5 and 1, then (0,0,-2) with 5"
unfoldable pub example_records : List ℕ
example_records = example_record minus_one five ++ (example_record minus_one oneᶠ ++ example_record minus_two five)

-- so many digits 0
abbrev zeros : ℕ → List ℕ
zeros n = replicate n 48

-- "1 hit 0000000000000000 0000000000000000 3ff0000000000000 4000000000000000"
abbrev first_line : List ℕ
first_line =
    (49 ∷ (32 ∷ (104 ∷ (105 ∷ (116 ∷ (32 ∷ []))))))
    ++ (zeros 16 ++ ((32 ∷ []) ++ (zeros 16 ++ ((32 ∷ (51 ∷ (102 ∷ (102 ∷ [])))) ++ (zeros 13 ++ ((32 ∷ (52 ∷ [])) ++ (zeros 15 ++ (10 ∷
    []))))))))

-- "2 none"
abbrev second_line : List ℕ
second_line = 50 ∷ (32 ∷ (110 ∷ (111 ∷ (110 ∷ (101 ∷ (10 ∷ []))))))

-- "3 refused 1"
abbrev third_line : List ℕ
third_line = 51 ∷ (32 ∷ (114 ∷ (101 ∷ (102 ∷ (117 ∷ (115 ∷ (101 ∷ (100 ∷ (32 ∷ (49 ∷ (10 ∷ [])))))))))))

-- "Whole output"
unfoldable pub example_output : List ℕ
example_output = first_line ++ (second_line ++ third_line)

-- the hit at 2 with near 5, with near 2 and, in version 1 behind them, with none
unfoldable pub near_records : List ℕ
near_records = record_of Long minus_one five five ++ (record_of Long minus_one five two ++ example_record minus_one five)

-- the bytes behind the first line's number
abbrev hit_at_two : List ℕ
hit_at_two = drop 1 first_line

unfoldable pub near_output : List ℕ
near_output = (49 ∷ drop 1 second_line) ++ ((50 ∷ hit_at_two) ++ (51 ∷ hit_at_two))

-- ---- the first record in version 2, with floats of 8 bytes, and in version 3, with floats of 4

unfoldable pub long_record : List ℕ
long_record = record_of Long minus_one five zeroᶠ

-- four bytes before others
abbrev four : ℕ → ℕ → List ℕ → List ℕ
four a b rest = a ∷ (b ∷ (0 ∷ (0 ∷ rest)))

abbrev zero_then : List ℕ → List ℕ
zero_then = four 0 0

-- 3f800000 is 1, 40000000 is 2, 40a00000 is 5 and bf800000 is -1; the maximum's first two bytes are given, and its last
abbrev short_with : ℕ → ℕ → ℕ → List ℕ
short_with a b d =
    (0 ∷ (0 ∷ (0 ∷ (50 ∷ (3 ∷ (1 ∷ []))))))
    ++ (zero_then (zero_then (four 64 0 (zero_then (zero_then (four 191 128 [])))))
    ++ (a ∷ (b ∷ (0 ∷ (d ∷ zero_then (zero_then (zero_then (four 63 128 (zero_then [])))))))))

unfoldable pub short_record : List ℕ
short_record = short_with 64 160 0

-- a maximum that is the NaN 7f800001, of which f64's leading digits alone would be an infinity
unfoldable pub nan_record : List ℕ
nan_record = short_with 127 128 1

-- an area of so many places
abbrev pub area_of : ℕ → List ℕ
area_of n = replicate n 7
