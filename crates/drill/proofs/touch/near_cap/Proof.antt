-- `drill::touch::near_cap` meets its contract. Assumes nothing.
use Rattle.drill.specs.Code.{from_axis_of, level_of, near_of}
use Rattle.drill.specs.Decision.{FromAxis, cap_in}
use Rattle.wide_integers.proofs.Reading.{bits, plain, widen}
use lib.Dec.{lit≤}
use mathlib.Core.Path.{◌≡◌, ◌∙◌}
use borrow.Author.Rules.{rules}
use Rattle.drill.proofs.touch.near_cap.Statement.{statement}
use Rattle.drill.proofs.touch.near_cap.Tie as tie

module _ (s : tie.Start) where
  abbrev A : FromAxis
  A = from_axis_of s.args.t.a

  abbrev B : FromAxis
  B = from_axis_of s.args.t.b

  abbrev C : FromAxis
  C = from_axis_of s.args.t.c

area : (s : tie.Start) → bits s.args.t.drill.area ≡ s.args.t.drill.area
area s = plain (widen s.requires.0.0.area (lit≤ tt))

abbrev begun : tie.After-frame_of-frame → tie.Start
begun k = search

returns : tie.Need-returns
unfolding near_of
returns c =
    let (k, n) : tie.After-frame_of-frame × tie.After-lows = search in
    let s = begun k in
    let f = k.frame_of-frame.ensures in
    let m = n.lows.ensures.0 in
    let g = level_of (A s) (B s) (C s) in
    λ l ρ o low.
    c.cap_in.ensures ρ l.direction g (A s).at (B s).at (C s).at (area s ∙ o.area) o.length f.whole f.steps.is
    ∙ (λ i. cap_in ρ l.direction g (low i) (A s).at (B s).at (C s).at (m i).x (m i).y (m i).z)

pub near_cap_spec : {M : Type 1} → statement M
near_cap_spec =
    tie.close
    (tie.spec
    (λ c κs. search rules)  -- frame_of-frame-requires
    (λ c κs. search rules)  -- lows-requires
    (λ c κs. search rules)  -- cap_in-requires
    returns)
