-- `drill::inside::cap_in` meets its contract. Assumes nothing.
use Rattle.std.proofs.Common.{◌&&◌, pos, ◌*ℤ◌, sym, ap, ◌∙◌}
use lib.Signed.{lt_z, le_z}
use Rattle.exact_triangle.specs.Line.{parts}
use Rattle.exact_depth.specs.declared.projection.Point.{Point}
use Rattle.wide_integers.proofs.Reading.{bits_back}
use Rattle.wide_integers.specs.Value.{value}
use Rattle.drill.proofs.InsideTests.{cap_off, cap_is}
use Rattle.drill.specs.Code.{steps_of, between}
use Rattle.drill.proofs.inside.cap_in.Goals as goal

pub returns-then-cap_between : goal.returns-then-cap_between
returns-then-cap_between c =
    let f = steps_of c.args.f in
    let k = value c.args.k in
    λ ρ d g p q r area length whole steps.
    let e = bits_back c.ranges.area ∙ area in
    cap_is ρ d g k p q r f.x f.y f.z
    (sym (c.cap_between.ensures ∙ ap (λ (z : Point). between z f) steps) ∙ c.if-cap_between.true)
    (c.cap_near.ensures
    ∙ (λ i. lt_z (pos 0) (whole i) && le_z (k *ℤ k *ℤ length i) (e i *ℤ (pos parts *ℤ pos parts) *ℤ whole i)))

pub returns-else-cap_between : goal.returns-else-cap_between
returns-else-cap_between c =
    let f = steps_of c.args.f in
    λ ρ d g p q r area length whole steps.
    c.if-cap_between.false
    ∙ cap_off ρ d g (value c.args.k) p q r f.x f.y f.z
    (sym (c.cap_between.ensures ∙ ap (λ (z : Point). between z f) steps) ∙ c.if-cap_between.false)
