-- `exact_depth::incidence::by_orientations` meets its contract. Assumes nothing.
use mathlib.Core.Path.{refl, sym, subst}
use lib.Dec.{lit≤}
use lib.IntN.{ℤ}
use Rattle.wide_integers.specs.Sizes.{Sized, Sized61}
use Rattle.wide_integers.specs.Determinant.{determinant}
use Rattle.wide_integers.proofs.Reading.{bits, fits, held_fit, sized_bits}
use Rattle.exact_depth.specs.declared.projection.Projected.{Projected}
use Rattle.exact_depth.specs.Sizes.{Close}
use Rattle.exact_depth.specs.FirstPoint.{seen_determinant}
use Rattle.exact_depth.specs.Orientation.{SignOf}
use Rattle.exact_depth.proofs.Laws.{determinant_back}
use Rattle.exact_depth.proofs.Terms.{term}
use Rattle.exact_depth.proofs.IncidenceLaws.{incident_by}
use borrow.Author.Rules.{rules}
use Rattle.exact_depth.proofs.incidence.by_orientations.Statement.{statement}
use Rattle.exact_depth.proofs.incidence.by_orientations.Tie as tie

-- two corners, as they come
corners : {p q : Projected} → Close p → Close q
    → (Sized61 (bits p.across) × Sized61 (bits p.up)) × (Sized61 (bits q.across) × Sized61 (bits q.up))
corners h g =
    ((sized_bits h.across (lit≤ tt), sized_bits h.up (lit≤ tt)), (sized_bits g.across (lit≤ tt), sized_bits g.up (lit≤ tt)))

-- the sign of one determinant, as it comes
sign_read : {p q : Projected} {r : ℤ} → Close p → Close q
    → SignOf r (determinant (bits p.across) (bits p.up) (bits q.across) (bits q.up)) × Sized 2305843013508661248 r
    → SignOf (bits r) (seen_determinant p q)
sign_read {p} {q} {r} h g k =
    subst (λ (z : ℤ). SignOf (bits r) z)
    (determinant_back (fits (held_fit h.across)) (fits (held_fit h.up)) (fits (held_fit g.across)) (fits (held_fit g.up)) refl)
    (subst (λ (z : ℤ). SignOf z (determinant (bits p.across) (bits p.up) (bits q.across) (bits q.up)))
    (sym (term k.1 (lit≤ tt)).is) k.0)

abbrev begun : tie.After-sign_of_determinant-gamma → tie.Start
begun z = search

abbrev first_of : tie.After-sign_of_determinant-gamma → tie.After-sign_of_determinant-alpha
first_of z = search

abbrev second-of : tie.After-sign_of_determinant-gamma → tie.After-sign_of_determinant-beta
second-of z = search

sign-of-determinant-requires : tie.Need-sign_of_determinant-alpha-requires
sign-of-determinant-requires c κs = let s : tie.Start = search in corners s.requires.1.0 s.requires.1.1

sign-of-determinant-requires-2 : tie.Need-sign_of_determinant-beta-requires
sign-of-determinant-requires-2 c κs = let s : tie.Start = search in corners s.requires.1.1 s.requires.0

sign-of-determinant-requires-3 : tie.Need-sign_of_determinant-gamma-requires
sign-of-determinant-requires-3 c κs = let s : tie.Start = search in corners s.requires.0 s.requires.1.0

returns : tie.Need-returns
returns c =
    let z : tie.After-sign_of_determinant-gamma = search in
    let s = begun z in
    let v = s.args in
    let h = s.requires in
    incident_by v.a v.b v.c (sign_read h.1.0 h.1.1 (first_of z).sign_of_determinant-alpha.ensures)
    (sign_read h.1.1 h.0 (second-of z).sign_of_determinant-beta.ensures)
    (sign_read h.0 h.1.0 z.sign_of_determinant-gamma.ensures) c.by_signs.result
    c.by_signs.ensures

pub by_orientations_spec : {M : Type 1} → statement M
by_orientations_spec =
    tie.close
    (tie.spec
    sign-of-determinant-requires
    sign-of-determinant-requires-2
    sign-of-determinant-requires-3
    (search rules)  -- by_signs-requires
    returns)
