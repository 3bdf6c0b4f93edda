-- `exact_depth::coplanar_point::along` meets its contract. Assumes nothing.
use Rattle.std.specs.Prelude.{None}
use mathlib.Core.Path.{◌≡◌, refl, sym, ◌∙◌}
use mathlib.Core.Bool.{Bool, true, false}
use lib.IntN.{ℤ, pos}
use mir.Syntax.{w64}
use mir.Val.{SFits}
use Rattle.exact_depth.specs.declared.projection.Fraction.{Fraction}
use Rattle.exact_depth.specs.declared.plane.PlanePoint.{PlanePoint}
use Rattle.exact_depth.specs.declared.plane.Side.{Side}
use Rattle.exact_depth.specs.FirstPoint.{kept, side_of, entering, inside, entry, along_plane}
use Rattle.wide_integers.proofs.Reading.{taken, left, bits_back}
use Rattle.wide_integers.specs.Value.{value}
use Rattle.exact_depth.specs.Answer.{plane_depth_of}
use Rattle.exact_depth.specs.Sizes.{Bounded, Shallow}
use Rattle.exact_depth.proofs.Laws.{missed, finds_as, side_bounded, entering_shallow, start_shallow, word_told, word_middling}
use borrow.Author.Rules.{rules}
use Rattle.exact_depth.proofs.coplanar_point.along.Statement.{statement}
use Rattle.exact_depth.proofs.coplanar_point.along.Tie as tie

-- the depths of the corners fit
fits-a : (s : tie.Start) → SFits w64 s.args.a.depth
fits-a s = search rules

fits-b : (s : tie.Start) → SFits w64 s.args.b.depth
fits-b s = search rules

fits-c : (s : tie.Start) → SFits w64 s.args.c.depth
fits-c s = search rules

-- the sides, as the code has them
bounded₁ : (c : tie.After-side_of-first) → Bounded c.side_of-first.result
bounded₁ c =
    let s : tie.Start = search in
    side_bounded (fits-b s) (fits-c s) s.requires.1.0 s.requires.1.1 c.side_of-first.ensures

bounded₂ : (c : tie.After-side_of-second) → Bounded c.side_of-second.result
bounded₂ c =
    let s : tie.Start = search in
    side_bounded (fits-c s) (fits-a s) s.requires.1.1 s.requires.0 c.side_of-second.ensures

bounded₃ : (c : tie.After-side_of-third) → Bounded c.side_of-third.result
bounded₃ c =
    let s : tie.Start = search in
    side_bounded (fits-a s) (fits-b s) s.requires.0 s.requires.1.0 c.side_of-third.ensures

-- the depths, as they are put off
shallow₀ : (c : tie.After-of_i64) → Shallow (record { t = c.of_i64.result; w = pos 1 })
shallow₀ c = let s : tie.Start = search in start_shallow s.ranges.near c.of_i64.ensures

shallow₁ : (c : tie.After-entering-once) → Shallow c.entering-once.result
shallow₁ c =
    let (d, o) : tie.After-side_of-first × tie.After-of_i64 = search in
    entering_shallow (shallow₀ o) (bounded₁ d) c.entering-once.ensures

shallow₂ : (c : tie.After-entering-twice) → Shallow c.entering-twice.result
shallow₂ c =
    let (k, d) : tie.After-entering-once × tie.After-side_of-second = search in
    entering_shallow (shallow₁ k) (bounded₂ d) c.entering-twice.ensures

shallow₃ : (c : tie.After-entering-at) → Shallow c.entering-at.result
shallow₃ c =
    let (k, d) : tie.After-entering-twice × tie.After-side_of-third = search in
    entering_shallow (shallow₂ k) (bounded₃ d) c.entering-at.ensures

-- which is the entry
entered : (a b c : PlanePoint) (near : ℤ) (d e g : Side) (f₀ f₁ f₂ f₃ : Fraction)
    → f₀ ≡ record { t = near; w = pos 1 } → d ≡ side_of b c → e ≡ side_of c a → g ≡ side_of a b → f₁ ≡ entering f₀ d → f₂ ≡ entering f₁ e
    → f₃ ≡ entering f₂ g → f₃ ≡ entry a b c near
unfolding entry
entered a b c near d e g f₀ f₁ f₂ f₃ n p q r x y z =
    z ∙ (λ i. entering (y i) (r i)) ∙ (λ i. entering (entering (x i) (q i)) (side_of a b))
    ∙ (λ i. entering (entering (entering (n i) (p i)) (side_of c a)) (side_of a b))

abbrev entry_of : tie.Start → Fraction
entry_of s = entry s.args.a s.args.b s.args.c s.args.near

abbrev begun : tie.After-entering-at → tie.Start
begun m = search

entry-is : (m : tie.After-entering-at) → plane_depth_of m.entering-at.result ≡ entry_of (begun m)
entry-is m =
    let (s, d, e, g, o, k, l) : tie.Start × tie.After-side_of-first × tie.After-side_of-second × tie.After-side_of-third × tie.After-of_i64
    × tie.After-entering-once × tie.After-entering-twice = search in
    let v = s.args in
    entered v.a v.b v.c v.near _ _ _ (record { t = value o.of_i64.result; w = pos 1 }) _ _ _
    (λ i. record { t = (o.of_i64.ensures ∙ bits_back s.ranges.near) i; w = pos 1 }) d.side_of-first.ensures e.side_of-second.ensures
    g.side_of-third.ensures k.entering-once.ensures l.entering-twice.ensures m.entering-at.ensures

entering-requires : tie.Need-entering-once-requires
entering-requires c κs =
    let (d, o) : tie.After-side_of-first × tie.After-of_i64 = search in
    (bounded₁ d, shallow₀ o)

entering-requires-2 : tie.Need-entering-twice-requires
entering-requires-2 c κs =
    let (d, k) : tie.After-side_of-second × tie.After-entering-once = search in
    (bounded₂ d, shallow₁ k)

entering-requires-3 : tie.Need-entering-at-requires
entering-requires-3 c κs =
    let (d, k) : tie.After-side_of-third × tie.After-entering-twice = search in
    (bounded₃ d, shallow₂ k)

inside-requires : tie.Need-inside-requires
inside-requires c κs =
    let (d, e, g, k) : tie.After-side_of-first × tie.After-side_of-second × tie.After-side_of-third × tie.After-entering-at = search in
    ((bounded₁ d, (bounded₂ e, bounded₃ g)), shallow₃ k)

kept-requires : tie.Need-kept-requires
kept-requires c κs =
    let (k, o) : tie.After-entering-at × tie.After-of_i64-2 = search in
    word_middling (shallow₃ k).w o.of_i64-2.ensures

-- the test of the three sides
tested : (a b c : PlanePoint) (near : ℤ) (d e g : Side) (f : Fraction) (r x : Bool) → d ≡ side_of b c → e ≡ side_of c a → g ≡ side_of a b
    → f ≡ entry a b c near → r ≡ inside d e g f → r ≡ x → inside (side_of b c) (side_of c a) (side_of a b) (entry a b c near) ≡ x
tested a b c near d e g f r x p q o z h t = (λ i. inside (sym p i) (sym q i) (sym o i) (sym z i)) ∙ sym h ∙ t

test-told : (i : tie.After-inside) (x : Bool) → i.inside.result ≡ x → let s : tie.Start = search in
    inside (side_of s.args.b s.args.c) (side_of s.args.c s.args.a)
    (side_of s.args.a s.args.b) (entry_of s) ≡ x
test-told i x t =
    let (s, d, e, g, m) : tie.Start × tie.After-side_of-first × tie.After-side_of-second × tie.After-side_of-third
    × tie.After-entering-at = search in
    let v = s.args in
    tested v.a v.b v.c v.near _ _ _ _ _ x d.side_of-first.ensures e.side_of-second.ensures
    g.side_of-third.ensures (entry-is m) i.inside.ensures t

returns : tie.Need-returns-then-not-inside
unfolding along_plane
returns c =
    let (s, i) : tie.Start × tie.After-inside = search in
    missed (left (kept (entry_of s) s.args.near s.args.far) (test-told i false c.if-not-inside.true) refl)

returns-2 : tie.Need-returns
unfolding along_plane
returns-2 c =
    let (s, m, i, e, o) : tie.Start × tie.After-entering-at × tie.After-inside × tie.Else-not-inside × tie.After-of_i64-2 = search in
    finds_as c.kept.ensures
    (taken None (test-told i true e.if-not-inside.false)
    ((λ j. kept (record { t = value m.entering-at.result.t; w = word_told (shallow₃ m).w o.of_i64-2.ensures j })
    (bits_back s.ranges.near j) (bits_back s.ranges.far j))
    ∙ (λ j. kept (entry-is m j) s.args.near s.args.far)))

pub along_spec : {M : Type 1} → statement M
along_spec =
    tie.close
    (tie.spec
    (search rules)  -- side_of-first-requires
    (search rules)  -- side_of-second-requires
    (search rules)  -- side_of-third-requires
    (search rules)  -- of_i64-requires
    entering-requires
    entering-requires-2
    entering-requires-3
    inside-requires
    returns
    (search rules)  -- of_i64-requires-2
    kept-requires
    returns-2)
