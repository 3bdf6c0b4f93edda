-- `drill::forms::outside` meets its contract. Assumes nothing.
use Rattle.drill.specs.Code.{outside}
use Rattle.wide_integers.proofs.OperationLaws.{held}
use Rattle.wide_integers.proofs.Reading.{negated_size}
use Rattle.wide_integers.specs.Value.{value}
use lib.Signed.{lt_z}
use lib.IntN.{ℤ, neg_ℤ}
use lib.Dec.{lit<}
use mathlib.Core.Bool.{Bool, true, false, cond}
use mathlib.Core.Path.{◌≡◌, sym, ap, ◌∙◌}
use borrow.Author.Rules.{rules}
use Rattle.drill.proofs.forms.outside.Statement.{statement}
use Rattle.drill.proofs.forms.outside.Tie as tie

negate-requires : tie.Need-negate-n-requires
negate-requires c κs = let s : tie.Start = search in held (negated_size s.requires) (lit< tt)

-- the three answers
module _ (m x : ℤ) where
  abbrev lower : Bool
  lower = cond (lt_z x m) (lt_z x (neg_ℤ m)) false

  first-arm : {r : Bool} → lt_z m x ≡ true → r ≡ lt_z (neg_ℤ m) x → r ≡ outside m x
  unfolding outside
  first-arm e h = h ∙ sym (ap (λ (b : Bool). cond b (lt_z (neg_ℤ m) x) lower) e)

  second-arm : {r : Bool} → lt_z m x ≡ false → lt_z x m ≡ true → r ≡ lt_z x (neg_ℤ m) → r ≡ outside m x
  unfolding outside
  second-arm e f h =
      h ∙ sym (ap (λ (b : Bool). cond b (lt_z (neg_ℤ m) x) lower) e ∙ ap (λ (b : Bool). cond b (lt_z x (neg_ℤ m)) false) f)

  third-arm : lt_z m x ≡ false → lt_z x m ≡ false → false ≡ outside m x
  unfolding outside
  third-arm e f = sym (ap (λ (b : Bool). cond b (lt_z (neg_ℤ m) x) lower) e ∙ ap (λ (b : Bool). cond b (lt_z x (neg_ℤ m)) false) f)

returns : tie.Need-returns-then-below
returns c =
    let (s, n, b, t, d) : tie.Start × tie.After-negate-n × tie.After-below × tie.Then-below × tie.After-below-then-below = search in
    let m = value s.args.m in
    let x = value s.args.x in
    first-arm m x (sym b.below.ensures ∙ t.if-below.true) (d.below-then-below.ensures ∙ ap (λ (z : ℤ). lt_z z x) n.negate-n.ensures)

returns-2 : tie.Need-returns-then-below-2
returns-2 c =
    let (s, n, b, t, d) : tie.Start × tie.After-negate-n × tie.After-below × tie.Else-below × tie.After-below-2 = search in
    let (u, g) : tie.Then-below-2 × tie.After-below-then-below-2 = search in
    let m = value s.args.m in
    let x = value s.args.x in
    second-arm m x (sym b.below.ensures ∙ t.if-below.false) (sym d.below-2.ensures ∙ u.if-below-2.true)
    (g.below-then-below-2.ensures ∙ ap (λ (z : ℤ). lt_z x z) n.negate-n.ensures)

returns-3 : tie.Need-returns
returns-3 c =
    let (s, b, t, d) : tie.Start × tie.After-below × tie.Else-below × tie.After-below-2 = search in
    third-arm (value s.args.m) (value s.args.x) (sym b.below.ensures ∙ t.if-below.false) (sym d.below-2.ensures ∙ c.if-below-2.false)

pub outside_spec : {M : Type 1} → statement M
outside_spec =
    tie.close
    (tie.spec
    negate-requires
    (λ c κs. search rules)  -- below-requires
    (λ c κs. search rules)  -- below-requires-then-below
    returns
    (λ c κs. search rules)  -- below-requires-2
    (λ c κs. search rules)  -- below-requires-then-below-2
    returns-2
    returns-3)
