-- `wide_integers::long::pair_product` meets its contract. Assumes nothing.
use Rattle.wide_integers.proofs.LongLaws.{medium_fits, medium_is, two_words_rep}
use Rattle.wide_integers.specs.Triples.{Words}
use Rattle.wide_integers.proofs.OperationLaws.{flag_word, middling, middling_most, middling_least}
use Rattle.wide_integers.specs.Value.{base, half, Middling}
use Rattle.wide_integers.specs.Sizes.{Sized}
use Rattle.std.proofs.Common.{ℕ, ◌-◌, ◌/◌, ◌^◌, ◌<◌, ◌≤◌, ℤ, arith, lit<, rules}
use Rattle.wide_integers.proofs.long.pair_product.Statement.{statement}
use Rattle.wide_integers.proofs.long.pair_product.Tie as tie

words-a : (s : tie.Start) → Words s.args.a
words-a s = record { high = omega (arith, s.well_formed); middle = omega (arith, s.well_formed); low = omega (arith, s.well_formed) }

words-b : (s : tie.Start) → Words s.args.b
words-b s = record { high = omega (arith, s.well_formed); middle = omega (arith, s.well_formed); low = omega (arith, s.well_formed) }

-- the highest words are 2^63 or one less
small : {z : ℤ} → Sized (2 ^ 126) z → Middling z
small h = middling h (lit< tt)

most-a : (s : tie.Start) → s.args.a.high ≤ half
most-a s = middling_most s.args.a (words-a s).middle (words-a s).low (small s.requires.0)

most-b : (s : tie.Start) → s.args.b.high ≤ half
most-b s = middling_most s.args.b (words-b s).middle (words-b s).low (small s.requires.1)

sign-a : (s : tie.Start) → half - s.args.a.high ≤ 1
sign-a s = middling_least s.args.a (words-a s).middle (words-a s).low (small s.requires.0)

sign-b : (s : tie.Start) → half - s.args.b.high ≤ 1
sign-b s = middling_least s.args.b (words-b s).middle (words-b s).low (small s.requires.1)

sub-s : tie.Need-overflow_sub-s
sub-s c = let s : tie.Start = search in most-a s

sub-t : tie.Need-overflow_sub-t
sub-t c = let s : tie.Start = search in most-b s

mul-subtract-pair : tie.Need-overflow_mul-t
mul-subtract-pair c = let s : tie.Start = search in record { fits = flag_word (sign-b s) (words-a s).middle }

mul-subtract-pair-2 : tie.Need-overflow_mul-t-2
mul-subtract-pair-2 c = let s : tie.Start = search in record { fits = flag_word (sign-b s) (words-a s).low }

mul-subtract-pair-3 : tie.Need-overflow_mul-s
mul-subtract-pair-3 c = let s : tie.Start = search in record { fits = flag_word (sign-a s) (words-b s).middle }

mul-subtract-pair-4 : tie.Need-overflow_mul-s-2
mul-subtract-pair-4 c = let s : tie.Start = search in record { fits = flag_word (sign-a s) (words-b s).low }

quotient : (n : ℕ) → n < base → n / half ≤ 1
quotient n h = omega (arith, h)

mul-t10 : tie.Need-overflow_mul-result
mul-t10 c =
    let w : tie.After-subtract_pair-twice = search in
    record { fits = flag_word (quotient w.subtract_pair-twice.result.words.high w.subtract_pair-twice.ensures.high) (omega arith) }

returns : tie.Need-returns
returns c =
    let (s, m, o, w) : tie.Start × tie.After-multiply_pairs-whole × tie.After-subtract_pair-once × tie.After-subtract_pair-twice = search in
    medium_is s.args.a s.args.b (half - s.args.a.high) (half - s.args.b.high)
    (two_words_rep s.args.a (words-a s) (small s.requires.0)) (two_words_rep s.args.b (words-b s) (small s.requires.1))
    m.multiply_pairs-whole.result o.subtract_pair-once.result w.subtract_pair-twice.result m.multiply_pairs-whole.ensures
    o.subtract_pair-once.ensures w.subtract_pair-twice.ensures (medium_fits s.requires.0 s.requires.1)

pub pair_product_spec : {M : Type 1} → statement M
pair_product_spec =
    tie.close
    (tie.spec
    sub-s
    sub-t
    (λ c κs. search rules)  -- multiply_pairs-whole-requires
    mul-subtract-pair
    mul-subtract-pair-2
    (λ c κs. search rules)  -- subtract_pair-once-requires
    mul-subtract-pair-3
    mul-subtract-pair-4
    (λ c κs. search rules)  -- subtract_pair-twice-requires
    (λ c. search rules)  -- overflow_sub-result
    mul-t10
    returns)
