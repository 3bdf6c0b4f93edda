-- `mesh_drill::through::over_list` meets its contract. Assumes nothing.
use Rattle.std.proofs.Common.{◌∙◌, lit≤}
use Rattle.wide_integers.proofs.Reading.{plain, widen, sized_bits}
use Rattle.mesh_drill.proofs.through.over_list.Goals as goal

pub drill_of-drill-requires : goal.drill_of-drill-requires
drill_of-drill-requires c =
    let z = c.requires.1 in (
      (z.origin, z.direction),
      (sized_bits z.near (lit≤ tt), (sized_bits z.far (lit≤ tt), sized_bits z.radius (lit≤ tt))),
    )

pub first_listed-requires : goal.first_listed-requires
first_listed-requires c = (c.requires.0, c.drill_of-drill.ensures.0)

pub returns : goal.returns
returns c =
    let z = c.requires.1 in
    λ l ρ h g.
    c.first_listed.ensures l ρ
    (c.drill_of-drill.ensures.1 l ρ (record {
      origin = h.origin;
      direction = h.direction;
      near = plain (widen z.near (lit≤ tt)) ∙ h.near;
      far = plain (widen z.far (lit≤ tt)) ∙ h.far;
      radius = plain (widen z.radius (lit≤ tt)) ∙ h.radius;
    })) g
