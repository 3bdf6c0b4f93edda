-- `mesh_drill::plain::over_triangles` meets its contract. Assumes nothing.
use Rattle.std.proofs.Common.{◌∙◌, lit≤}
use Rattle.wide_integers.proofs.Reading.{plain, widen, sized_bits}
use Rattle.mesh_plain.proofs.Casting.{triangles_few}
use Rattle.mesh_drill.proofs.Answers.{boxed_answers, runs}
use Rattle.mesh_drill.proofs.plain.over_triangles.Goals as goal

pub cylinder_of-body-requires : goal.cylinder_of-body-requires
cylinder_of-body-requires c = (c.requires.0.read, c.requires.0.widest)

pub drill_of-drill-requires : goal.drill_of-drill-requires
drill_of-drill-requires c =
    let z = c.cylinder_of-body.ensures.1 in (
      (z.origin, z.direction),
      (sized_bits z.near (lit≤ tt), (sized_bits z.far (lit≤ tt), sized_bits z.radius (lit≤ tt))),
    )

pub first_touched-requires : goal.first_touched-requires
first_touched-requires c = (triangles_few _ _ c.requires.1.0, (c.drill_of-drill.ensures.0, (c.requires.1.1, c.coded-coded.ensures)))

pub returns : goal.returns
returns c =
    let h = c.cylinder_of-body.ensures.0 in
    let z = c.cylinder_of-body.ensures.1 in
    boxed_answers c.args.ray c.args.radius _ c.requires.0 c.requires.1.1.1 _
    (c.first_touched.ensures _ _
    (c.drill_of-drill.ensures.1 _ _ (record {
      origin = h.origin;
      direction = h.direction;
      near = plain (widen z.near (lit≤ tt)) ∙ h.near;
      far = plain (widen z.far (lit≤ tt)) ∙ h.far;
      radius = plain (widen z.radius (lit≤ tt)) ∙ h.radius;
    })) (runs c.args.ray c.args.radius c.requires.0) (c.drill_box-around.ensures _ _ h))
