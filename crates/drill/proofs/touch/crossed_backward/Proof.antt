-- `drill::touch::crossed_backward` meets its contract. Assumes nothing.
use Rattle.drill.proofs.Touching.{nearest_low, nearest_high, nearest_crossing, negated_below}
use Rattle.drill.specs.Code.{from_axis_of, near_of, far_of}
use Rattle.exact_triangle.specs.Line.{Line}
use Rattle.wide_integers.proofs.OperationLaws.{held}
use Rattle.wide_integers.proofs.Reading.{negated_size}
use Rattle.wide_integers.specs.Value.{value}
use lib.Signed.{le_z}
use lib.IntN.{pos, neg_ℤ}
use lib.Dec.{lit<}
use Prim.Native.Nat.{ℕ}
use mathlib.Core.Bool.{Bool, ◌&&◌}
use mathlib.Core.Path.{sym, ◌∙◌}
use borrow.Author.Rules.{rules}
use Rattle.drill.proofs.touch.crossed_backward.Statement.{statement}
use Rattle.drill.proofs.touch.crossed_backward.Tie as tie

module _ (s : tie.Start) (l : Line) (ρ : ℕ) where
  abbrev near : Bool
  near = near_of l ρ (from_axis_of s.args.t.a) (from_axis_of s.args.t.b) (from_axis_of s.args.t.c)

  abbrev far : Bool
  far = far_of l ρ (from_axis_of s.args.t.a) (from_axis_of s.args.t.b) (from_axis_of s.args.t.c)

returns : tie.Need-returns-then-is_positive
returns c =
    let (s, t, e, n) : tie.Start × tie.After-is_positive × tie.Then-is_positive × tie.After-near_cap = search in
    let p = s.args.p in
    λ l ρ o low high.
    nearest_low (near s l ρ) (far s l ρ) (neg_ℤ (value p.i)) (neg_ℤ (value p.j)) (neg_ℤ (value p.k)) (neg_ℤ (value p.low))
    (neg_ℤ (value p.high))
    (sym (t.is_positive.ensures ∙ sym (negated_below (value p.low))) ∙ e.if-is_positive.true) (n.near_cap.ensures l ρ o low)

returns-2 : tie.Need-returns-then-is_positive-2
returns-2 c =
    let (s, t, e, u, x, n) : tie.Start × tie.After-is_positive × tie.Else-is_positive × tie.After-is_positive-2 × tie.Then-is_positive-2
    × tie.After-far_cap = search in
    let p = s.args.p in
    λ l ρ o low high.
    nearest_high (near s l ρ) (far s l ρ) (neg_ℤ (value p.i)) (neg_ℤ (value p.j)) (neg_ℤ (value p.k)) (neg_ℤ (value p.low))
    (neg_ℤ (value p.high))
    (sym (t.is_positive.ensures ∙ sym (negated_below (value p.low))) ∙ e.if-is_positive.false)
    (sym (u.is_positive-2.ensures ∙ sym (negated_below (value p.high))) ∙ x.if-is_positive-2.true)
    (n.far_cap.ensures l ρ o high)

returns-3 : tie.Need-returns
returns-3 c =
    let (s, t, e, u, x) : tie.Start × tie.After-is_positive × tie.Else-is_positive × tie.After-is_positive-2
    × tie.Else-is_positive-2 = search in
    let (i, j, k, w) : tie.After-negate-i × tie.After-negate-j × tie.After-negate-k × tie.After-weights_in = search in
    let p = s.args.p in
    λ l ρ o low high.
    nearest_crossing (near s l ρ) (far s l ρ) (neg_ℤ (value p.i)) (neg_ℤ (value p.j)) (neg_ℤ (value p.k)) (neg_ℤ (value p.low))
    (neg_ℤ (value p.high))
    (sym (t.is_positive.ensures ∙ sym (negated_below (value p.low))) ∙ e.if-is_positive.false)
    (sym (u.is_positive-2.ensures ∙ sym (negated_below (value p.high))) ∙ x.if-is_positive-2.false)
    (w.weights_in.ensures
    ∙ (λ z. le_z (pos 0) (i.negate-i.ensures z) && (le_z (pos 0) (j.negate-j.ensures z) && le_z (pos 0) (k.negate-k.ensures z))))

negate-requires : tie.Need-negate-i-requires
negate-requires c κs = let s : tie.Start = search in held (negated_size s.requires.1.i) (lit< tt)

negate-requires-2 : tie.Need-negate-j-requires
negate-requires-2 c κs = let s : tie.Start = search in held (negated_size s.requires.1.j) (lit< tt)

negate-requires-3 : tie.Need-negate-k-requires
negate-requires-3 c κs = let s : tie.Start = search in held (negated_size s.requires.1.k) (lit< tt)

pub crossed_backward_spec : {M : Type 1} → statement M
crossed_backward_spec =
    tie.close
    (tie.spec
    (λ c κs. search rules)  -- is_positive-requires
    (λ c κs. search rules)  -- near_cap-requires
    returns
    (λ c κs. search rules)  -- is_positive-requires-2
    (λ c κs. search rules)  -- far_cap-requires
    returns-2
    negate-requires
    negate-requires-2
    negate-requires-3
    (λ c κs. search rules)  -- weights_in-requires
    returns-3)
