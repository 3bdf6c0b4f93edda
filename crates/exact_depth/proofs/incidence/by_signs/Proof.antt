-- `exact_depth::incidence::by_signs` meets its contract. Assumes nothing.
use mathlib.Core.Path.{◌≡◌, sym, ◌∙◌}
use mathlib.Core.Logic.{inl, inr}
use mathlib.Core.Bool.{Bool}
use Rattle.wide_integers.proofs.Reading.{bits_back}
use Rattle.exact_depth.specs.Incidence.{any_negative, any_positive}
use borrow.Author.Rules.{rules}
use Rattle.exact_depth.proofs.incidence.by_signs.Statement.{statement}
use Rattle.exact_depth.proofs.incidence.by_signs.Tie as tie

below : (k : tie.After-any_negative) (b : Bool) → k.any_negative.result ≡ b → let s : tie.Start = search in
    any_negative s.args.x s.args.y s.args.z ≡ b
below k b h =
    let s : tie.Start = search in
    (λ i. any_negative (sym (bits_back s.ranges.x) i) (sym (bits_back s.ranges.y) i) (sym (bits_back s.ranges.z) i))
    ∙ sym k.any_negative.ensures ∙ h

above : (k : tie.After-any_positive) (b : Bool) → k.any_positive.result ≡ b → let s : tie.Start = search in
    any_positive s.args.x s.args.y s.args.z ≡ b
above k b h =
    let s : tie.Start = search in
    (λ i. any_positive (sym (bits_back s.ranges.x) i) (sym (bits_back s.ranges.y) i) (sym (bits_back s.ranges.z) i))
    ∙ sym k.any_positive.ensures ∙ h

above-2 : (k : tie.After-any_positive-2) (b : Bool) → k.any_positive-2.result ≡ b → let s : tie.Start = search in
    any_positive s.args.x s.args.y s.args.z ≡ b
above-2 k b h =
    let s : tie.Start = search in
    (λ i. any_positive (sym (bits_back s.ranges.x) i) (sym (bits_back s.ranges.y) i) (sym (bits_back s.ranges.z) i))
    ∙ sym k.any_positive-2.ensures ∙ h

returns : tie.Need-returns-then-any_positive
returns c =
    let (k, e, j) : tie.After-any_negative × tie.Then-any_negative × tie.After-any_positive = search in
    (below k _ e.if-any_negative.true, above j _ c.if-any_positive.true)

returns-2 : tie.Need-returns-then-any_negative
returns-2 c =
    let (k, e, j) : tie.After-any_negative × tie.Then-any_negative × tie.After-any_positive = search in
    inl (below k _ e.if-any_negative.true, above j _ c.if-any_positive.false)

returns-3 : tie.Need-returns-then-any_positive-2
returns-3 c =
    let (k, e, j) : tie.After-any_negative × tie.Else-any_negative × tie.After-any_positive-2 = search in
    inr (below k _ e.if-any_negative.false, above-2 j _ c.if-any_positive-2.true)

pub by_signs_spec : {M : Type 1} → statement M
by_signs_spec =
    tie.close
    (tie.spec
    (search rules)  -- any_negative-requires
    (search rules)  -- any_positive-requires
    returns
    returns-2
    (search rules)  -- any_positive-requires-2
    returns-3
    (λ c. tt)  -- returns
    )
