-- `wide_integers::guess::multiple` meets its contract. Assumes nothing.
use Rattle.std.proofs.Common.{ℕ, ◌<◌, ◌≤◌, ℤ, ◌*ℤ◌, ap, ◌∙◌, arith, w64, rules}
use mir.ValLaws.{to_z_pos}
use Rattle.wide_integers.specs.Value.{base, half, value}
use Rattle.wide_integers.proofs.GuessLaws.{multiple_asks, multiple_holds}
use Rattle.wide_integers.proofs.guess.multiple.Statement.{statement}
use Rattle.wide_integers.proofs.guess.multiple.Tie as tie

middle-word : (k : tie.After-struct_known-1) → k.args.a.middle < base
middle-word k = omega arith

low_word : (k : tie.After-struct_known-1) → k.args.a.low < base
low_word k = omega arith

abbrev begun : tie.Else-m-gt9223372036854775807 → tie.Start
begun e = search

small : (e : tie.Else-m-gt9223372036854775807) → (begun e).args.m < half
small e = let l = e.if-m-gt9223372036854775807.false in plain _ l
  where
    plain : (m : ℕ) → m ≤ 9223372036854775807 → m < 9223372036854775808
    plain m h = omega (arith, h)

cast-times : tie.Need-overflow_cast-m
cast-times c = record { sfits = small c }

times-requires : tie.Need-times-requires
times-requires c κs =
    let (s, k, e) : tie.Start × tie.After-struct_known-1 × tie.Else-a-gt9223372036854775808 = search in
    multiple_asks s.requires e.if-a-gt9223372036854775808.false (middle-word k) (low_word k)

returns-3 : tie.Need-returns
returns-3 c =
    let (s, k, e, f) : tie.Start × tie.After-struct_known-1 × tie.Else-a-gt9223372036854775808
    × tie.Else-m-gt9223372036854775807 = search in
    multiple_holds s.requires e.if-a-gt9223372036854775808.false (middle-word k) (low_word k) s.args.m c.times.result (small f)
    (c.times.ensures ∙ ap (λ (z : ℤ). value s.args.a *ℤ z) (to_z_pos w64 s.args.m (small f)))

pub multiple_spec : {M : Type 1} → statement M
multiple_spec =
    tie.close
    (tie.spec
    (λ c. search rules)  -- returns-then-a-gt9223372036854775808
    (λ c. search rules)  -- returns-then-m-gt9223372036854775807
    cast-times
    times-requires
    returns-3)
