-- `drill::reject::one_side` meets its contract. Assumes nothing.
use Rattle.std.proofs.Common.{◌≡◌, ℤ, pos, neg_ℤ, ◌-ℤ◌, sym, ap, ◌∙◌, ◌^◌}
use Rattle.drill.proofs.Laws.{or_hit, or_miss}
use Rattle.drill.specs.Code.{all_above, all_below, one_side_of}
use Rattle.wide_integers.specs.Sizes.{Sized}
use Rattle.wide_integers.proofs.Reading.{bits, bits_back, plain, widen, negated_size, fits}
use mir.Val.{SFits}
use mir.Syntax.{w64}
use lib.IntN.{+ℤ_idl}
use lib.Dec.{lit≤}
use Rattle.drill.proofs.reject.one_side.Goals as goal

-- minus the limit
opposite : {L : ℤ} → Sized (2 ^ 54) L → pos 0 -ℤ bits L ≡ neg_ℤ L
opposite {L} h = ap (λ (z : ℤ). pos 0 -ℤ z) (plain (widen h (lit≤ tt))) ∙ +ℤ_idl (neg_ℤ L)

opposite-fits : {L : ℤ} → Sized (2 ^ 54) L → SFits w64 (neg_ℤ L)
opposite-fits h = fits (widen (negated_size h) (lit≤ tt))

pub returns-then-all_above : goal.returns-then-all_above
unfolding one_side_of
returns-then-all_above c =
    let v = c.args in
    let r = c.ranges in
    let e = c.all_above.ensures
    ∙ (λ i. all_above (bits_back r.limit i) (bits_back r.x i) (bits_back r.y i) (bits_back r.z i)) in
    c.if-all_above.true ∙ or_hit (all_below (neg_ℤ v.limit) v.x v.y v.z) (sym e ∙ c.if-all_above.true)

pub returns-else-all_above : goal.returns-else-all_above
unfolding one_side_of
returns-else-all_above c =
    let r = c.ranges in
    let e = c.all_above.ensures
    ∙ (λ i. all_above (bits_back r.limit i) (bits_back r.x i) (bits_back r.y i) (bits_back r.z i)) in
    let m = ap (λ (z : ℤ). bits z) (opposite c.requires) ∙ bits_back (opposite-fits c.requires) in
    or_miss (sym e ∙ c.if-all_above.false)
    (c.all_below.ensures ∙ (λ i. all_below (m i) (bits_back r.x i) (bits_back r.y i) (bits_back r.z i)))
