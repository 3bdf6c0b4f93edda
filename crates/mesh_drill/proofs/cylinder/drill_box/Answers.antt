-- `mesh_drill::cylinder::drill_box` meets its contract. Assumes nothing.
use Rattle.std.proofs.Common.{◌∙◌, lit≤}
use Rattle.wide_integers.proofs.Reading.{plain, widen, sized_bits}
use Rattle.drill.specs.Box.{low_side, high_side, drill_box}
use Rattle.mesh_exact.specs.Bounds.{box_by}
use Rattle.mesh_drill.proofs.CylinderSides.{width_fits, width_small, width_is}
use Rattle.mesh_drill.proofs.cylinder.drill_box.Goals as goal

pub overflow_add-radius : goal.overflow_add-radius
overflow_add-radius c = width_fits c.requires.radius

pub widened_box-requires : goal.widened_box-requires
widened_box-requires c = (
  (c.requires.origin, c.requires.direction),
  (sized_bits c.requires.near (lit≤ tt), (sized_bits c.requires.far (lit≤ tt), width_small c.requires.radius)),
)

-- the box of the drill that is read
pub returns : goal.returns
unfolding drill_box low_side high_side
returns c =
    λ l ρ b.
    c.widened_box.ensures l.near l.far (plain (widen c.requires.near (lit≤ tt)) ∙ b.near) (plain (widen c.requires.far (lit≤ tt)) ∙ b.far)
    ∙ (λ i. box_by (width_is c.requires.radius ρ b.radius i) (b.origin i) (b.direction i) l.near l.far)
