-- `wide_integers::number::times` meets its contract. Assumes nothing.
use Rattle.std.proofs.Common.{◌<◌, ℤ, ◌*ℤ◌, sym, ap, ◌∙◌, subst, arith, w64, SFits, rules}
use Rattle.wide_integers.proofs.Reading.{bits, bits_back}
use Rattle.wide_integers.specs.Value.{base, value}
use Rattle.wide_integers.proofs.OperationLaws.{flag_word, middling_most, middling_least, times_told}
use Rattle.wide_integers.proofs.number.times.Statement.{statement}
use Rattle.wide_integers.proofs.number.times.Tie as tie

plain_fits : {x : ℤ} → SFits w64 x → SFits w64 (bits x)
plain_fits f = subst (SFits w64) (sym (bits_back f)) f

abbrev begun : tie.After-struct_known-1 → tie.Start
begun k = search

middle-word : (k : tie.After-struct_known-1) → (begun k).args.a.middle < base
middle-word k = omega arith

low_word : (k : tie.After-struct_known-1) → (begun k).args.a.low < base
low_word k = omega arith

sub-below : tie.Need-overflow_sub-below
sub-below c = let s : tie.Start = search in middling_most s.args.a (middle-word c) (low_word c) s.requires

mul-subtract : tie.Need-overflow_mul-y
mul-subtract c =
    let (y, k) : tie.After-split_sign-y × tie.After-struct_known-1 = search in
    record { fits = flag_word y.split_sign-y.ensures.below (low_word k) }

add-wrapping-add-u64 : tie.Need-overflow_add-once
add-wrapping-add-u64 c =
    let o : tie.After-add_carry-once = search in
    omega (arith, o.add_carry-once.ensures.over)

mul-wrapping-sub-u64 : tie.Need-overflow_mul-y-2
mul-wrapping-sub-u64 c =
    let (y, k) : tie.After-split_sign-y × tie.After-struct_known-1 = search in
    record { fits = flag_word y.split_sign-y.ensures.below (middle-word k) }

mul-wrapping-sub-u64-2 : tie.Need-overflow_mul-below
mul-wrapping-sub-u64-2 c =
    let (s, y, k) : tie.Start × tie.After-split_sign-y × tie.After-struct_known-1 = search in
    record {
      fits = flag_word (middling_least s.args.a (middle-word k) (low_word k) s.requires) y.split_sign-y.ensures.word;
    }

returns : tie.Need-returns
returns c =
    let (s, y, k, lo, up, o, t, w, f, g) : tie.Start × tie.After-split_sign-y × tie.After-struct_known-1 × tie.After-times-lower
    × tie.After-times-upper
    × tie.After-add_carry-once × tie.After-subtract-twice × tie.After-wrapping_add_u64-over × tie.After-wrapping_sub_u64-first
    × tie.After-wrapping_sub_u64-second = search in
    times_told s.args.a (middle-word k) (low_word k) s.requires y.split_sign-y.result lo.times-lower.result up.times-upper.result
    o.add_carry-once.result t.subtract-twice.result w.wrapping_add_u64-over.result f.wrapping_sub_u64-first.result
    g.wrapping_sub_u64-second.result
    c.wrapping_sub_u64.result y.split_sign-y.ensures (plain_fits s.ranges.k) (omega arith) lo.times-lower.ensures
    up.times-upper.ensures
    o.add_carry-once.ensures t.subtract-twice.ensures w.wrapping_add_u64-over.ensures f.wrapping_sub_u64-first.ensures
    g.wrapping_sub_u64-second.ensures
    c.wrapping_sub_u64.ensures
    ∙ ap (λ (x : ℤ). value s.args.a *ℤ x) (bits_back s.ranges.k)

pub times_spec : {M : Type 1} → statement M
times_spec =
    tie.close
    (tie.spec
    (search rules)  -- split_sign-y-requires
    sub-below
    (search rules)  -- times-lower-requires
    (search rules)  -- times-upper-requires
    (search rules)  -- add_carry-once-requires
    mul-subtract
    (search rules)  -- subtract-twice-requires
    add-wrapping-add-u64
    (search rules)  -- wrapping_add_u64-over-requires
    (search rules)  -- wrapping_sub_u64-first-requires
    mul-wrapping-sub-u64
    (search rules)  -- wrapping_sub_u64-second-requires
    mul-wrapping-sub-u64-2
    (search rules)  -- wrapping_sub_u64-requires
    returns)
