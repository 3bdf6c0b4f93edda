-- `wide_integers::number::product` meets its contract. Assumes nothing.
use Rattle.std.proofs.Common.{ℕ, ◌/◌, ◌<◌, ◌≤◌, ℤ, ◌*ℤ◌, sym, ◌∙◌, subst, arith, w64, SFits, rules}
use Rattle.wide_integers.proofs.Reading.{bits, bits_back}
use Rattle.wide_integers.proofs.OperationLaws.{flag_word, product_signed}
use Rattle.wide_integers.proofs.number.product.Statement.{statement}
use Rattle.wide_integers.proofs.number.product.Tie as tie

plain_fits : {x : ℤ} → SFits w64 x → SFits w64 (bits x)
plain_fits f = subst (SFits w64) (sym (bits_back f)) f

mul-subtract : tie.Need-overflow_mul-y
mul-subtract c =
    let (x, y) : tie.After-split_sign-x × tie.After-split_sign-y = search in
    record { fits = flag_word y.split_sign-y.ensures.below x.split_sign-x.ensures.word }

mul-subtract-2 : tie.Need-overflow_mul-x
mul-subtract-2 c =
    let (x, y) : tie.After-split_sign-x × tie.After-split_sign-y = search in
    record { fits = flag_word x.split_sign-x.ensures.below y.split_sign-y.ensures.word }

quotient : (n : ℕ) → n < 18446744073709551616 → n / 9223372036854775808 ≤ 9223372036854775808
quotient n h = omega (arith, h)

returns : tie.Need-returns
returns c =
    let (s, x, y, d, o, t) : tie.Start × tie.After-split_sign-x × tie.After-split_sign-y × tie.After-times-whole × tie.After-subtract-once
    × tie.After-subtract-twice = search in
    product_signed x.split_sign-x.result y.split_sign-y.result d.times-whole.result o.subtract-once.result t.subtract-twice.result
    x.split_sign-x.ensures
    y.split_sign-y.ensures (plain_fits s.ranges.a) (plain_fits s.ranges.b) d.times-whole.ensures o.subtract-once.ensures
    t.subtract-twice.ensures
    ∙ (λ i. bits_back s.ranges.a i *ℤ bits_back s.ranges.b i)

pub product_spec : {M : Type 1} → statement M
product_spec =
    tie.close
    (tie.spec
    (search rules)  -- split_sign-x-requires
    (search rules)  -- split_sign-y-requires
    (search rules)  -- times-whole-requires
    mul-subtract
    (search rules)  -- subtract-once-requires
    mul-subtract-2
    (search rules)  -- subtract-twice-requires
    (λ c. let (o, t) : tie.After-subtract-once × tie.After-subtract-twice = search in quotient t.subtract-twice.result.words
    t.subtract-twice.ensures.word)  -- overflow_sub-result
    returns)
