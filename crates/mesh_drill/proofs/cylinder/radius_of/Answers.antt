-- `mesh_drill::cylinder::radius_of` meets its contract. Assumes nothing.
use Rattle.std.proofs.Common.{◌≡◌, true, sym, ap, ◌∙◌, subst, lit≤}
use lib.Ieee.{Float}
use Rattle.wide_integers.proofs.Reading.{widen, sized_bits}
use Rattle.exact_triangle.specs.Grid.{units, nearest_to, within, furthest}
use Rattle.mesh_drill.proofs.Radii.{size_near, raised_fits, raised, not_raised}
use Rattle.mesh_drill.proofs.cylinder.radius_of.Goals as goal

pub coordinate-nearest-requires : goal.coordinate-nearest-requires
coordinate-nearest-requires c =
    subst (λ (x : Float). within furthest x ≡ true) (sym c.abs-size.ensures) (size_near c.args.radius c.requires)

pub in_millimetres-requires : goal.in_millimetres-requires
in_millimetres-requires c = widen (sized_bits c.coordinate-nearest.ensures.1 (lit≤ tt)) (lit≤ tt)

-- one more still fits a word
pub overflow_add-result : goal.overflow_add-result
overflow_add-result c =
    raised_fits c.args.radius c.requires (c.coordinate-nearest.ensures.0 ∙ ap (nearest_to units) c.abs-size.ensures)
    c.coordinate-nearest.ensures.1

-- the nearest unit is below the radius
pub returns-then-in_millimetres-size : goal.returns-then-in_millimetres-size
returns-then-in_millimetres-size c =
    raised c.args.radius c.requires (c.coordinate-nearest.ensures.0 ∙ ap (nearest_to units) c.abs-size.ensures)
    c.coordinate-nearest.ensures.1
    c.in_millimetres.ensures c.abs-size.ensures c.if-in_millimetres-size.true

-- it is not
pub returns : goal.returns
returns c =
    not_raised c.args.radius c.requires (c.coordinate-nearest.ensures.0 ∙ ap (nearest_to units) c.abs-size.ensures)
    c.coordinate-nearest.ensures.1
    c.in_millimetres.ensures c.abs-size.ensures c.if-in_millimetres-size.false
