-- `drill::sides::crossing_in` meets its contract. Assumes nothing.
use Rattle.drill.proofs.Rejecting.{crossing_beyond}
use Rattle.drill.proofs.SideTests.{crossing_off, crossing_is}
use Rattle.drill.specs.Code.{outside}
use Rattle.drill.specs.Decision.{scale, minus}
use Rattle.drill.specs.Drill.{square}
use Rattle.exact_depth.specs.declared.projection.Point.{Point}
use Rattle.wide_integers.proofs.Reading.{bits_back}
use Rattle.wide_integers.specs.Value.{value}
use Rattle.lists.proofs.JoinedTests.{test_passed, test_failed}
use lib.Signed.{le_z}
use lib.IntN.{ℤ, ◌-ℤ◌, ◌*ℤ◌}
use mathlib.Core.Bool.{◌||◌}
use mathlib.Core.Path.{sym, ap, ◌∙◌}
use borrow.Author.Rules.{rules}
use Rattle.drill.proofs.sides.crossing_in.Statement.{statement}
use Rattle.drill.proofs.sides.crossing_in.Tie as tie

returns : tie.Need-returns-then-not-apart
returns c =
    let (s, a) : tie.Start × tie.After-apart = search in
    let v = s.args in
    λ h. crossing_off (value v.reach) v.v v.w (value v.f) (value v.g) (test_failed a.apart.ensures c.if-not-apart.true)

-- the point, times f - g
abbrev at : tie.Start → Point
at s = minus (scale (value s.args.f) s.args.w) (scale (value s.args.g) s.args.v)

returns-2 : tie.Need-returns-then-far_across
returns-2 c =
    let (s, a, t, p, b, k) : tie.Start × tie.After-apart × tie.Else-not-apart × tie.After-crossing_at-p × tie.After-crossing_bound
    × tie.After-far_across = search in
    let v = s.args in
    let f = value v.f in
    let g = value v.g in
    let e = p.crossing_at-p.ensures.0 in
    let m = b.crossing_bound.ensures.0 ∙ ap (λ (z : ℤ). (f -ℤ g) *ℤ z) (bits_back s.ranges.side) in
    λ h. crossing_is (value v.reach) v.v v.w f g (test_passed a.apart.ensures t.if-not-apart.false)
    (crossing_beyond (value v.reach) v.side (f -ℤ g) h (at s).x (at s).y (at s).z
    (sym (k.far_across.ensures ∙ (λ i. outside (m i) (e i).x || (outside (m i) (e i).y || outside (m i) (e i).z))) ∙ c.if-far_across.true))

returns-3 : tie.Need-returns
returns-3 c =
    let (s, a, t, p, q, l) : tie.Start × tie.After-apart × tie.Else-not-apart × tie.After-crossing_at-p × tie.After-square_across
    × tie.After-crossing_limit = search in
    let v = s.args in
    λ h. crossing_is (value v.reach) v.v v.w (value v.f) (value v.g) (test_passed a.apart.ensures t.if-not-apart.false)
    (c.at_most.ensures
    ∙ (λ i. le_z ((q.square_across.ensures ∙ ap square p.crossing_at-p.ensures.0) i) (l.crossing_limit.ensures i)))

pub crossing_in_spec : {M : Type 1} → statement M
crossing_in_spec =
    tie.close
    (tie.spec
    (λ c κs. search rules)  -- apart-requires
    returns
    (λ c κs. search rules)  -- crossing_at-p-requires
    (λ c κs. search rules)  -- crossing_bound-requires
    (λ c κs. search rules)  -- far_across-requires
    returns-2
    (λ c κs. search rules)  -- square_across-requires
    (λ c κs. search rules)  -- crossing_limit-requires
    (λ c κs. search rules)  -- at_most-requires
    returns-3)
