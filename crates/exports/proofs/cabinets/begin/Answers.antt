-- `exports::cabinets::begin` meets its contract. Assumes nothing.
use mathlib.Core.Path.{ap, ◌∙◌}
use Rattle.cabinet.specs.Steps.{begun}
use Rattle.results.specs.Results.{ray_from}
use Rattle.exports.proofs.cabinets.begin.Goals as goal

pub returns : goal.returns
returns c =
    let a = c.args in
    let ray = ray_from a.origin_x a.origin_y a.origin_z a.direction_x a.direction_y a.direction_z a.max_distance
    a.near_distance in
    c.begin.ensures ∙ ap (begun ray a.limit) c.results_fit-fits.ensures
