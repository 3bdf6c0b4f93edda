-- A dot that tells the length tells that there is a direction.
use Rattle.std.proofs.Common.{◌∙◌}
use Rattle.vectors.proofs.NormalLaws.{told_direction, between_tells}
use Rattle.vectors.proofs.vec3.Vec3.has_direction.Goals as goal

pub returns-then-tells_length : goal.returns-then-tells_length
returns-then-tells_length c =
    let told = between_tells _ _ c.tells_length.ensures c.if-tells_length.true in
    c.if-tells_length.true ∙ told_direction c.args.self c.dot.result c.dot.ensures told.0 told.1
