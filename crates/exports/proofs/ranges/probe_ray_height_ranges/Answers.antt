-- `exports::ranges::probe_ray_height_ranges` meets its contract. Assumes nothing.
use Rattle.exports.proofs.RangeCalls.{tells}
use Rattle.exports.proofs.ranges.probe_ray_height_ranges.Goals as goal

pub returns : goal.returns
returns c =
    let told = (tells _ _ _ _ _ _ _ _ c.ray_from-ray.ensures c.ray_height_ranges.ensures.result_value
    c.ray_height_ranges.ensures.meets_promise
    c.put_cell.ensures) in
    record { cell_after = told.0; keeps_promise = told.1 }
