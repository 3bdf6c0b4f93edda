-- `exact_triangle::cast::points_reach` meets its contract. Assumes nothing.
use Rattle.std.specs.Prelude.{Option}
use Rattle.exact_depth.specs.declared.projection.Fraction.{Fraction}
use Rattle.std.proofs.Common.{◌*◌, pos, ap, subst}
use Rattle.exact_depth.specs.Incidence.{Incident}
use Rattle.exact_triangle.specs.Shear.{gain, in_units, projected_of, depth_of}
use Rattle.exact_triangle.specs.Reach.{reach_at}
use Rattle.exact_triangle.proofs.cast.points_reach.Goals as goal

-- outside of the triangle
pub returns-in-Outside : goal.returns-in-Outside
unfolding depth_of
returns-in-Outside c =
    λ l h.
    ap (λ (d : Option Fraction). reach_at (in_units (gain l) d))
    (subst (Incident (projected_of l c.args.a) (projected_of l c.args.b) (projected_of l c.args.c)) c.in-Outside.is
    (c.incidence_at.ensures l h) (pos (l.near * gain l)) (pos (l.far * gain l)))
