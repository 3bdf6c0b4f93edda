-- `exact_depth::coplanar_point::area_of` meets its contract. Assumes nothing.
use mathlib.Core.Path.{◌≡◌, sym, ◌∙◌, subst}
use lib.IntN.{ℤ, ◌+ℤ◌}
use mir.Syntax.{w64}
use mir.Val.{SFits}
use Rattle.wide_integers.specs.Determinant.{determinant}
use Rattle.exact_depth.specs.FirstPoint.{area}
use Rattle.wide_integers.proofs.Reading.{bits, fits, held_fit}
use Rattle.wide_integers.specs.Value.{value, Weight}
use Rattle.exact_depth.specs.declared.plane.PlanePoint.{PlanePoint}
use Rattle.exact_depth.specs.Sizes.{Flat}
use Rattle.exact_depth.proofs.Laws.{determinant_back, determinant_weight}
use borrow.Author.Rules.{rules}
use Rattle.exact_depth.proofs.coplanar_point.area_of.Statement.{statement}
use Rattle.exact_depth.proofs.coplanar_point.area_of.Tie as tie

-- one turn, and its size
module _ {p q : PlanePoint} (h : Flat p) (g : Flat q) (d : SFits w64 p.depth) (f : SFits w64 q.depth) {x : ℤ}
    (e : x ≡ determinant (bits p.u) (bits p.depth) (bits q.u) (bits q.depth)) where
  told : x ≡ determinant p.u p.depth q.u q.depth
  told = determinant_back (fits (held_fit h.u)) d (fits (held_fit g.u)) f e

  small : Weight x
  small = subst Weight (sym told) (determinant_weight (fits (held_fit h.u)) d (fits (held_fit g.u)) f h.u g.u)

-- the depths of the corners fit
fits-a : (s : tie.Start) → SFits w64 s.args.a.depth
fits-a s = search rules

fits-b : (s : tie.Start) → SFits w64 s.args.b.depth
fits-b s = search rules

fits-c : (s : tie.Start) → SFits w64 s.args.c.depth
fits-c s = search rules

-- the three turns
abbrev begun : tie.After-determinant-third → tie.Start
begun z = search

abbrev first_of : tie.After-determinant-third → tie.After-determinant-first
first_of z = search

abbrev second-of : tie.After-determinant-third → tie.After-determinant-second
second-of z = search

abbrev area-as : tie.Start → ℤ
area-as s = area s.args.a s.args.b s.args.c

total-requires : tie.Need-total-requires
total-requires c κs =
    let (s, x, y, z) : tie.Start × tie.After-determinant-first × tie.After-determinant-second × tie.After-determinant-third = search in
    let h = s.requires in (
      small h.1.0 h.1.1 (fits-b s) (fits-c s) x.determinant-first.ensures,
      (
        small h.1.1 h.0 (fits-c s) (fits-a s) y.determinant-second.ensures,
        small h.0 h.1.0 (fits-a s) (fits-b s) z.determinant-third.ensures,
      ),
    )

sum_is : (z : tie.After-determinant-third)
    → value (first_of z).determinant-first.result +ℤ value (second-of z).determinant-second.result +ℤ value z.determinant-third.result
    ≡ area-as
    (begun z)
unfolding area
sum_is z =
    let s = begun z in
    let h = s.requires in
    λ i. told h.1.0 h.1.1 (fits-b s) (fits-c s) (first_of z).determinant-first.ensures i
    +ℤ told h.1.1 h.0 (fits-c s) (fits-a s) (second-of z).determinant-second.ensures i
    +ℤ told h.0 h.1.0 (fits-a s) (fits-b s) z.determinant-third.ensures i

returns : tie.Need-returns
returns c =
    let z : tie.After-determinant-third = search in
    c.total.ensures ∙ sum_is z

pub area_of_spec : {M : Type 1} → statement M
area_of_spec =
    tie.close
    (tie.spec
    (search rules)  -- determinant-first-requires
    (search rules)  -- determinant-second-requires
    (search rules)  -- determinant-third-requires
    total-requires
    returns)
