-- Each kind's law.
use Rattle.std.proofs.Common.{ap, [], ◌∷◌}
use Rattle.record_bytes.specs.Kinds.{byte_of}
use Rattle.record_bytes.proofs.ShapeLaws.{numbers_one, numbers_two, numbers_three, numbers_four, numbers_five}
use Rattle.record_bytes.proofs.shape.many_numbers.Goals as goal

pub returns-in-Plane : goal.returns-in-Plane
returns-in-Plane c = numbers_one _ (c.args.a ∷ (c.args.b ∷ (c.args.c ∷ []))) (ap byte_of c.in-Plane.is)

pub returns-in-Triangle : goal.returns-in-Triangle
returns-in-Triangle c = numbers_two _ (c.args.a ∷ (c.args.b ∷ (c.args.c ∷ []))) (ap byte_of c.in-Triangle.is)

pub returns-in-Mesh : goal.returns-in-Mesh
returns-in-Mesh c = numbers_three _ c.args.a c.args.b c.args.c _ (ap byte_of c.in-Mesh.is) c.capped.ensures

pub returns-in-HeightGrid : goal.returns-in-HeightGrid
returns-in-HeightGrid c =
    numbers_four _ c.args.a c.args.b c.args.c _ _ (ap byte_of c.in-HeightGrid.is) c.product.ensures.0 c.capped-in-HeightGrid.ensures

pub returns-in-DistanceGrid : goal.returns-in-DistanceGrid
returns-in-DistanceGrid c =
    numbers_five _ c.args.a c.args.b c.args.c _ _ (ap byte_of c.in-DistanceGrid.is) c.product-in-DistanceGrid.ensures.0
    c.capped-in-DistanceGrid.ensures
