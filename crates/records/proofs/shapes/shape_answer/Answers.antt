-- Kind by kind.
use Rattle.std.proofs.Common.{ap, ◌∙◌}
use Rattle.casts.specs.declared.plane.Plane.{Plane}
use Rattle.casts.specs.Plane.{ray_plane}
use Rattle.triangle_cast.specs.Triangle.{ray_triangle}
use Rattle.record_bytes.specs.Kinds.{byte_of}
use Rattle.records.proofs.Answers.{plane_answer, triangle_answer_lem, heights_answer, values_answer}
use Rattle.records.proofs.Answers.{plane_size, triangle_size, heights_size, values_size, only_distances}
use Rattle.records.proofs.shapes.shape_answer.Goals as goal

pub plane_by-requires : goal.plane_by-requires
plane_by-requires c = plane_size c.requires.0 (ap byte_of c.in-Plane.is)

pub returns-in-Plane : goal.returns-in-Plane
returns-in-Plane c =
    plane_answer _ _ c.args.counts.now c.args.numbers.now _ (ap byte_of c.in-Plane.is)
    (c.ray_plane.ensures ∙ ap (λ (l : Plane). ray_plane l c.args.ray) c.plane_by.ensures)

pub corners_by-requires : goal.corners_by-requires
corners_by-requires c = triangle_size c.requires.0 (ap byte_of c.in-Triangle.is)

pub returns-in-Triangle : goal.returns-in-Triangle
returns-in-Triangle c =
    triangle_answer_lem _ _ c.args.counts.now c.args.numbers.now _ (ap byte_of c.in-Triangle.is)
    (c.ray_triangle.ensures ∙ ap (ray_triangle c.args.ray) c.corners_by.ensures)

pub heights_answer-requires : goal.heights_answer-requires
heights_answer-requires c = heights_size c.requires.0 (ap byte_of c.in-HeightGrid.is)

pub returns-in-HeightGrid : goal.returns-in-HeightGrid
returns-in-HeightGrid c =
    heights_answer _ _ c.args.counts.now c.args.numbers.now _ (ap byte_of c.in-HeightGrid.is) c.heights_answer.ensures

pub values_answer-requires : goal.values_answer-requires
values_answer-requires c =
    values_size c.requires.0
    (only_distances c.args.kind c.in_default.not-Plane c.in_default.not-Triangle c.requires.1 c.in_default.not-HeightGrid)

pub returns-in_default : goal.returns-in_default
returns-in_default c =
    values_answer _ _ c.args.counts.now c.args.numbers.now _
    (only_distances c.args.kind c.in_default.not-Plane c.in_default.not-Triangle c.requires.1 c.in_default.not-HeightGrid)
    c.values_answer.ensures
