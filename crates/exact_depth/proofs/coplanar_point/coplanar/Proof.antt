-- `exact_depth::coplanar_point::coplanar` meets its contract. Assumes nothing.
use Rattle.std.specs.Prelude.{None}
use mathlib.Core.Path.{◌≡◌, sym, ◌∙◌, subst}
use Rattle.exact_depth.specs.declared.projection.Projected.{Projected}
use Rattle.exact_depth.specs.declared.plane.PlanePoint.{PlanePoint}
use Rattle.wide_integers.specs.Sizes.{Sized61}
use Rattle.exact_depth.specs.FirstPoint.{across_point, up_point, in_plane, coplanar}
use Rattle.wide_integers.proofs.Reading.{bits_back}
use Rattle.exact_depth.specs.declared.plane.PlanePoint.{PlanePoint}
use Rattle.exact_depth.specs.Sizes.{Close, Flat}
use Rattle.exact_depth.proofs.Laws.{finds_as}
use borrow.Author.Rules.{rules}
use Rattle.exact_depth.proofs.coplanar_point.coplanar.Statement.{statement}
use Rattle.exact_depth.proofs.coplanar_point.coplanar.Tie as tie

flat-across : (s : Projected) {p : PlanePoint} → Close s → p ≡ across_point s → Flat p
flat-across s h e = record { u = subst (λ (z : PlanePoint). Sized61 z.u) (sym e) h.across }

flat_up : (s : Projected) {p : PlanePoint} → Close s → p ≡ up_point s → Flat p
flat_up s h e = record { u = subst (λ (z : PlanePoint). Sized61 z.u) (sym e) h.up }

in-plane-requires : tie.Need-in_plane-upright-requires
in-plane-requires c κs =
    let (s, x, y, z) : tie.Start × tie.After-up_point × tie.After-up_point-2 × tie.After-up_point-3 = search in (
      (
        flat_up s.args.a s.requires.0 x.up_point.ensures,
        (flat_up s.args.b s.requires.1.0 y.up_point-2.ensures, flat_up s.args.c s.requires.1.1 z.up_point-3.ensures),
      ),
      tt,
    )

in-plane-requires-2 : tie.Need-in_plane-requires
in-plane-requires-2 c κs =
    let (s, x, y, z, k) : tie.Start × tie.After-across_point × tie.After-across_point-2 × tie.After-across_point-3
    × tie.After-in_plane-upright =
    search
    in (
      (
        flat-across s.args.a s.requires.0 x.across_point.ensures,
        (
          flat-across s.args.b s.requires.1.0 y.across_point-2.ensures,
          flat-across s.args.c s.requires.1.1 z.across_point-3.ensures,
        ),
      ),
      k.in_plane-upright.ensures.narrow,
    )

returns : tie.Need-returns
unfolding coplanar
returns c =
    let (s, x, y, z, u, v, w, k) : tie.Start × tie.After-up_point × tie.After-up_point-2 × tie.After-up_point-3 × tie.After-across_point
    × tie.After-across_point-2 × tie.After-across_point-3 × tie.After-in_plane-upright = search in
    let n = bits_back s.ranges.near in
    let f = bits_back s.ranges.far in
    finds_as c.in_plane.ensures
    ((λ i. in_plane (u.across_point.ensures i) (v.across_point-2.ensures i) (w.across_point-3.ensures i) (n i) (f i)
    (k.in_plane-upright.ensures.is i))
    ∙ (λ i. in_plane (across_point s.args.a) (across_point s.args.b) (across_point s.args.c) s.args.near s.args.far
    (in_plane (x.up_point.ensures i) (y.up_point-2.ensures i) (z.up_point-3.ensures i) (n i) (f i) None)))

pub coplanar_spec : {M : Type 1} → statement M
coplanar_spec =
    tie.close
    (tie.spec
    (search rules)  -- up_point-requires
    (search rules)  -- up_point-requires-2
    (search rules)  -- up_point-requires-3
    in-plane-requires
    (search rules)  -- across_point-requires
    (search rules)  -- across_point-requires-2
    (search rules)  -- across_point-requires-3
    in-plane-requires-2
    returns)
