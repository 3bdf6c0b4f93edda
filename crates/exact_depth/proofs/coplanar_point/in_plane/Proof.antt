-- `exact_depth::coplanar_point::in_plane` meets its contract. Assumes nothing.
use Rattle.std.specs.Prelude.{Option}
use Rattle.exact_depth.specs.declared.projection.Fraction.{Fraction}
use mathlib.Core.Path.{◌≡◌, refl, sym, ap, ◌∙◌}
use mathlib.Core.Bool.{Bool, true, false, cond}
use lib.IntN.{ℤ, pos}
use lib.Signed.{lt_z}
use Rattle.exact_depth.specs.FirstPoint.{area, along_plane, in_plane}
use Rattle.wide_integers.proofs.Reading.{taken, left, bits_back}
use Rattle.exact_depth.specs.Answer.{answer_of}
use Rattle.exact_depth.proofs.Laws.{finds_as}
use borrow.Author.Rules.{rules}
use Rattle.exact_depth.proofs.coplanar_point.in_plane.Statement.{statement}
use Rattle.exact_depth.proofs.coplanar_point.in_plane.Tie as tie

-- what the tests of the area say
abbrev area-as : tie.Start → ℤ
area-as s = area s.args.a s.args.b s.args.c

above : (p : tie.After-is_positive) (b : Bool) → p.is_positive.result ≡ b → let s : tie.Start = search in lt_z (pos 0) (area-as s) ≡ b
above p b h =
    let k : tie.After-area_of-signed = search in
    ap (λ (z : ℤ). lt_z (pos 0) z) (sym k.area_of-signed.ensures) ∙ sym p.is_positive.ensures ∙ h

below : (n : tie.After-is_negative) (b : Bool) → n.is_negative.result ≡ b → let s : tie.Start = search in lt_z (area-as s) (pos 0) ≡ b
below n b h =
    let k : tie.After-area_of-signed = search in
    ap (λ (z : ℤ). lt_z z (pos 0)) (sym k.area_of-signed.ensures) ∙ sym n.is_negative.ensures ∙ h

-- the two ways round
abbrev one_way : tie.Start → Option Fraction
one_way s = along_plane s.args.a s.args.b s.args.c s.args.near s.args.far

abbrev other_way : tie.Start → Option Fraction
other_way s = along_plane s.args.a s.args.c s.args.b s.args.near s.args.far

returns : tie.Need-returns-then-is_positive
unfolding in_plane
returns c =
    let (s, p, e) : tie.Start × tie.After-is_positive × tie.Then-is_positive = search in
    let v = s.args in
    finds_as c.along.ensures
    (taken (cond (lt_z (area-as s) (pos 0)) (other_way s) (answer_of v.other)) (above p true e.if-is_positive.true)
    (λ i. along_plane v.a v.b v.c (bits_back s.ranges.near i) (bits_back s.ranges.far i)))

returns-2 : tie.Need-returns-then-is_negative
unfolding in_plane
returns-2 c =
    let (s, p, e, n, d) : tie.Start × tie.After-is_positive × tie.Else-is_positive × tie.After-is_negative
    × tie.Then-is_negative = search in
    let v = s.args in
    finds_as c.along-then-is_negative.ensures
    (left (one_way s) (above p false e.if-is_positive.false)
    (taken (answer_of v.other) (below n true d.if-is_negative.true)
    (λ i. along_plane v.a v.c v.b (bits_back s.ranges.near i) (bits_back s.ranges.far i))))

returns-3 : tie.Need-returns
unfolding in_plane
returns-3 c =
    let (s, p, e, n, d) : tie.Start × tie.After-is_positive × tie.Else-is_positive × tie.After-is_negative
    × tie.Else-is_negative = search in
    record {
      is = left (one_way s) (above p false e.if-is_positive.false) (left (other_way s) (below n false d.if-is_negative.false) refl);
      narrow = s.requires.1;
    }

pub in_plane_spec : {M : Type 1} → statement M
in_plane_spec =
    tie.close
    (tie.spec
    (search rules)  -- area_of-signed-requires
    (search rules)  -- is_positive-requires
    (search rules)  -- along-requires
    returns
    (search rules)  -- is_negative-requires
    (search rules)  -- along-requires-then-is_negative
    returns-2
    returns-3)
