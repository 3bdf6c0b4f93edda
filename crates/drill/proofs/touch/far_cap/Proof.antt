-- `drill::touch::far_cap` meets its contract. Assumes nothing.
use Rattle.drill.proofs.Touching.{reversed_square, reversed_dot}
use Rattle.drill.specs.Code.{from_axis_of, far_of}
use Rattle.drill.specs.Decision.{FromAxis, level, cap_in}
use Rattle.exact_depth.specs.declared.projection.Point.{Point}
use Rattle.wide_integers.proofs.Reading.{bits, plain, widen}
use lib.IntN.{neg_ℤ}
use lib.Dec.{lit≤}
use mathlib.Core.Path.{◌≡◌, sym, ap, ◌∙◌}
use borrow.Author.Rules.{rules}
use Rattle.drill.proofs.touch.far_cap.Statement.{statement}
use Rattle.drill.proofs.touch.far_cap.Tie as tie

module _ (s : tie.Start) where
  abbrev A : FromAxis
  A = from_axis_of s.args.t.a

  abbrev B : FromAxis
  B = from_axis_of s.args.t.b

  abbrev C : FromAxis
  C = from_axis_of s.args.t.c

area : (s : tie.Start) → bits s.args.t.drill.area ≡ s.args.t.drill.area
area s = plain (widen s.requires.0.0.area (lit≤ tt))

abbrev begun : tie.After-frame_of-frame → tie.Start
begun k = search

returns : tie.Need-returns
unfolding far_of
returns c =
    let (k, r, n) : tie.After-frame_of-frame × tie.After-reversed-back × tie.After-highs = search in
    let s = begun k in
    let f = k.frame_of-frame.ensures in
    let m = n.highs.ensures.0 in
    let a = A s in
    let b = B s in
    let d = C s in
    let g = level (neg_ℤ a.height) (neg_ℤ b.height) (neg_ℤ d.height) a.at b.at d.at in
    let e = f.steps.is in
    λ l ρ o high.
    c.cap_in.ensures ρ l.direction g a.at b.at d.at (area s ∙ o.area) o.length
    (f.whole ∙ sym (reversed_square a.height b.height d.height a.at b.at d.at))
    (r.reversed-back.ensures.is ∙ (λ i. record {
      x = (ap (λ (z : Point). neg_ℤ z.x) e ∙ sym (reversed_dot a.height b.height d.height a.at b.at d.at a.at)) i;
      y = (ap (λ (z : Point). neg_ℤ z.y) e ∙ sym (reversed_dot a.height b.height d.height a.at b.at d.at b.at)) i;
      z = (ap (λ (z : Point). neg_ℤ z.z) e ∙ sym (reversed_dot a.height b.height d.height a.at b.at d.at d.at)) i;
    }))
    ∙ (λ i. cap_in ρ l.direction g (high i) a.at b.at d.at (m i).x (m i).y (m i).z)

pub far_cap_spec : {M : Type 1} → statement M
far_cap_spec =
    tie.close
    (tie.spec
    (λ c κs. search rules)  -- frame_of-frame-requires
    (λ c κs. search rules)  -- reversed-back-requires
    (λ c κs. search rules)  -- highs-requires
    (λ c κs. search rules)  -- cap_in-requires
    returns)
