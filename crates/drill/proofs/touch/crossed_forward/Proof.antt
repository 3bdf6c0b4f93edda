-- `drill::touch::crossed_forward` meets its contract. Assumes nothing.
use Rattle.drill.proofs.Touching.{nearest_low, nearest_high, nearest_crossing}
use Rattle.drill.specs.Code.{from_axis_of, near_of, far_of}
use Rattle.exact_triangle.specs.Line.{Line}
use Rattle.wide_integers.specs.Value.{value}
use Prim.Native.Nat.{ℕ}
use mathlib.Core.Bool.{Bool}
use mathlib.Core.Path.{sym, ◌∙◌}
use borrow.Author.Rules.{rules}
use Rattle.drill.proofs.touch.crossed_forward.Statement.{statement}
use Rattle.drill.proofs.touch.crossed_forward.Tie as tie

module _ (s : tie.Start) (l : Line) (ρ : ℕ) where
  abbrev near : Bool
  near = near_of l ρ (from_axis_of s.args.t.a) (from_axis_of s.args.t.b) (from_axis_of s.args.t.c)

  abbrev far : Bool
  far = far_of l ρ (from_axis_of s.args.t.a) (from_axis_of s.args.t.b) (from_axis_of s.args.t.c)

returns : tie.Need-returns-then-is_negative
returns c =
    let (s, t, e, n) : tie.Start × tie.After-is_negative × tie.Then-is_negative × tie.After-near_cap = search in
    let p = s.args.p in
    λ l ρ o low high.
    nearest_low (near s l ρ) (far s l ρ) (value p.i) (value p.j) (value p.k) (value p.low) (value p.high)
    (sym t.is_negative.ensures ∙ e.if-is_negative.true) (n.near_cap.ensures l ρ o low)

returns-2 : tie.Need-returns-then-is_negative-2
returns-2 c =
    let (s, t, e, u, x, n) : tie.Start × tie.After-is_negative × tie.Else-is_negative × tie.After-is_negative-2 × tie.Then-is_negative-2
    × tie.After-far_cap = search in
    let p = s.args.p in
    λ l ρ o low high.
    nearest_high (near s l ρ) (far s l ρ) (value p.i) (value p.j) (value p.k) (value p.low) (value p.high)
    (sym t.is_negative.ensures ∙ e.if-is_negative.false) (sym u.is_negative-2.ensures ∙ x.if-is_negative-2.true)
    (n.far_cap.ensures l ρ o high)

returns-3 : tie.Need-returns
returns-3 c =
    let (s, t, e, u, x, w) : tie.Start × tie.After-is_negative × tie.Else-is_negative × tie.After-is_negative-2 × tie.Else-is_negative-2
    × tie.After-weights_in = search in
    let p = s.args.p in
    λ l ρ o low high.
    nearest_crossing (near s l ρ) (far s l ρ) (value p.i) (value p.j) (value p.k) (value p.low) (value p.high)
    (sym t.is_negative.ensures ∙ e.if-is_negative.false) (sym u.is_negative-2.ensures ∙ x.if-is_negative-2.false)
    w.weights_in.ensures

pub crossed_forward_spec : {M : Type 1} → statement M
crossed_forward_spec =
    tie.close
    (tie.spec
    (λ c κs. search rules)  -- is_negative-requires
    (λ c κs. search rules)  -- near_cap-requires
    returns
    (λ c κs. search rules)  -- is_negative-requires-2
    (λ c κs. search rules)  -- far_cap-requires
    returns-2
    (λ c κs. search rules)  -- weights_in-requires
    returns-3)
