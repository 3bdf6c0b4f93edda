-- `exact_depth::depth::first_point` meets its contract. Assumes nothing.
use mathlib.Core.Path.{◌≡◌, sym, subst}
use lib.IntN.{ℤ}
use Rattle.exact_depth.specs.declared.projection.Projected.{Projected}
use Rattle.wide_integers.specs.Determinant.{determinant}
use Rattle.exact_depth.specs.FirstPoint.{seen_determinant, by_weights, first_point}
use Rattle.wide_integers.proofs.Reading.{bits, fits, held_fit, bits_back}
use Rattle.wide_integers.specs.Value.{Weight}
use Rattle.exact_depth.specs.Sizes.{Close}
use Rattle.exact_depth.proofs.Laws.{finds_as, determinant_back, seen_weight}
use borrow.Author.Rules.{rules}
use Rattle.exact_depth.proofs.depth.first_point.Statement.{statement}
use Rattle.exact_depth.proofs.depth.first_point.Tie as tie

-- one determinant, and its size
module _ {p q : Projected} (h : Close p) (g : Close q) {x : ℤ}
    (e : x ≡ determinant (bits p.across) (bits p.up) (bits q.across) (bits q.up)) where
  read : x ≡ seen_determinant p q
  read =
      determinant_back (fits (held_fit h.across)) (fits (held_fit h.up)) (fits (held_fit g.across)) (fits (held_fit g.up)) e

  small : Weight x
  small = subst Weight (sym read) (seen_weight h g)

-- the three determinants
abbrev begun : tie.After-determinant-gamma → tie.Start
begun z = search

abbrev first_of : tie.After-determinant-gamma → tie.After-determinant-alpha
first_of z = search

abbrev second-of : tie.After-determinant-gamma → tie.After-determinant-beta
second-of z = search

by-weights-requires : tie.Need-by_weights-requires
by-weights-requires c κs =
    let z : tie.After-determinant-gamma = search in
    let h = (begun z).requires in (
      h,
      (
        small h.1.0 h.1.1 (first_of z).determinant-alpha.ensures,
        (small h.1.1 h.0 (second-of z).determinant-beta.ensures, small h.0 h.1.0 z.determinant-gamma.ensures),
      ),
    )

returns : tie.Need-returns
unfolding first_point
returns c =
    let z : tie.After-determinant-gamma = search in
    let s = begun z in
    let v = s.args in
    let h = s.requires in
    finds_as c.by_weights.ensures
    (λ i. by_weights v.a v.b v.c (read h.1.0 h.1.1 (first_of z).determinant-alpha.ensures i)
    (read h.1.1 h.0 (second-of z).determinant-beta.ensures i) (read h.0 h.1.0 z.determinant-gamma.ensures i)
    (bits_back s.ranges.near i)
    (bits_back s.ranges.far i))

pub first_point_spec : {M : Type 1} → statement M
first_point_spec =
    tie.close
    (tie.spec
    (search rules)  -- determinant-alpha-requires
    (search rules)  -- determinant-beta-requires
    (search rules)  -- determinant-gamma-requires
    by-weights-requires
    returns)
