-- Three corners from the axis: the facts that moving a point rests on. Assumes nothing.
use mathlib.Core.Path.{refl}
use lib.IntN.{pos, neg_ℤ, ◌*ℤ◌}
use Rattle.exact_depth.specs.declared.projection.Point.{Point}
use Rattle.exact_triangle.specs.Line.{parts, Line}
use Rattle.drill.specs.Drill.{dot, square}
use Rattle.drill.specs.Decision.{from_axis, cross}
use Rattle.drill.proofs.Identities as Identities
use Rattle.drill.proofs.Weighing.{Weights}
use Rattle.drill.proofs.Interiors.{Facts}

-- the weights of the point in which the axis' line crosses the plane
abbrev pub crossed : Point → Point → Point → Point → Weights
crossed d p q r = record { i = dot (cross q r) d; j = dot (cross r p) d; k = dot (cross p q) d }

module _ (l : Line) (p q r : Point) where
  abbrev d : Point
  d = l.direction

  pub facts : Facts (from_axis l p) (from_axis l q) (from_axis l r) (crossed l.direction p q r)
  unfolding from_axis
  facts = record {
    S = pos parts;
    N = pos l.near *ℤ square d;
    N' = neg_ℤ (pos l.far *ℤ square d);
    low_a = refl;
    low_b = refl;
    low_c = refl;
    high_a = Identities.high_form (pos parts) (pos l.far *ℤ square d) (dot p d);
    high_b = Identities.high_form (pos parts) (pos l.far *ℤ square d) (dot q d);
    high_c = Identities.high_form (pos parts) (pos l.far *ℤ square d) (dot r d);
    axis_x = Identities.axis_x p.x p.y p.z q.x q.y q.z r.x r.y r.z d.x d.y d.z;
    axis_y = Identities.axis_y p.x p.y p.z q.x q.y q.z r.x r.y r.z d.x d.y d.z;
    axis_z = Identities.axis_z p.x p.y p.z q.x q.y q.z r.x r.y r.z d.x d.y d.z;
    p = neg_ℤ d.x;
    q = neg_ℤ d.y;
    r = neg_ℤ d.z;
    flat_yz = Identities.flat_yz p.x p.y p.z q.x q.y q.z r.x r.y r.z d.x d.y d.z;
    flat_zx = Identities.flat_zx p.x p.y p.z q.x q.y q.z r.x r.y r.z d.x d.y d.z;
    flat_xy = Identities.flat_xy p.x p.y p.z q.x q.y q.z r.x r.y r.z d.x d.y d.z;
  }
