-- `nearest_hit::deferred::unit_of` meets its contract. Assumes nothing.
use mathlib.Core.Path.{◌∙◌}
use Rattle.vectors.specs.Vector.{over_length, length_of}
use Rattle.vectors.proofs.NormalLaws.{between_tells, normalized_where}
use Rattle.nearest_hit.proofs.DeferredLaws.{unit_by_length}
use Rattle.nearest_hit.proofs.deferred.unit_of.Goals as goal

-- the dot tells the length
pub returns-then-tells_length : goal.returns-then-tells_length
unfolding over_length length_of
returns-then-tells_length c =
    let told = between_tells _ _ c.tells_length.ensures c.if-tells_length.true in
    simp (c.root-length.ensures, c.requires.told)
    (unit_by_length c.args.cross c.requires.directs c.args.square c.requires.told told.0 told.1)

-- it does not, and the vector has a direction
pub returns : goal.returns
returns c = c.unwrap_or.ensures ∙ simp (c.try_normalize.ensures, normalized_where c.args.cross c.requires.directs)
