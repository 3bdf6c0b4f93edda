-- `drill::corner::corner_at` meets its contract. Assumes nothing.
use Rattle.drill.specs.Decision.{cross, from_axis}
use Rattle.drill.specs.Drill.{dot, square}
use Rattle.exact_triangle.specs.Shear.{from}
use Rattle.exact_triangle.specs.Line.{parts, Line}
use Rattle.exact_depth.specs.declared.projection.Point.{Point}
use Rattle.wide_integers.proofs.Reading.{plain, widen, sized_bits}
use Rattle.wide_integers.specs.Value.{value}
use lib.IntN.{ℤ, pos, ◌-ℤ◌, ◌*ℤ◌}
use lib.Dec.{lit≤}
use mathlib.Core.Path.{◌≡◌, ap, ◌∙◌}
use Rattle.drill.proofs.corner.corner_at.Goals as goal

-- a corner from the axis
from-axis-is : (l : Line) (p : Point) (at moment : Point) (height low high near far : ℤ) → at ≡ p → moment ≡ cross at l.direction
    → height ≡ dot at l.direction → near ≡ pos l.near *ℤ square l.direction → far ≡ pos l.far *ℤ square l.direction
    → low ≡ pos parts *ℤ height -ℤ near → high ≡ far -ℤ pos parts *ℤ height
    → record { at = at; moment = moment; height = height; low = low; high = high } ≡ from_axis l p
unfolding from_axis
from-axis-is l p at moment height low high near far e f g n m u v =
    let h = g ∙ ap (λ (z : Point). dot z l.direction) e in
    λ i. record {
      at = e i;
      moment = (f ∙ ap (λ (z : Point). cross z l.direction) e) i;
      height = h i;
      low = (u ∙ (λ j. pos parts *ℤ h j -ℤ n j)) i;
      high = (v ∙ (λ j. m j -ℤ pos parts *ℤ h j)) i;
    }

pub returns : goal.returns
returns c =
    let k = c.args.drill in
    let hs = c.height-height.ensures.1 in
    let back = plain (widen hs (lit≤ tt)) in (
      record {
        at = c.from-at.ensures.1;
        moment = c.cross.ensures.1;
        height = sized_bits hs (lit≤ tt);
        low = c.above.ensures.1;
        high = c.under.ensures.1;
      },
      (λ l ρ d. from-axis-is l (from l.origin c.args.p) _ _ _ _ _ (value k.near) (value k.far)
          (c.from-at.ensures.0 ∙ ap (λ (z : Point). from z c.args.p) d.origin)
          (c.cross.ensures.0 ∙ ap (λ (z : Point). cross c.from-at.result z) d.direction)
          (back ∙ c.height-height.ensures.0 ∙ ap (λ (z : Point). dot c.from-at.result z) d.direction) d.near d.far
          c.above.ensures.0 c.under.ensures.0),
    )
