-- `exports::many::probe_ray_mesh_many` meets its contract. Assumes nothing.
use Rattle.exports.proofs.ManyCalls.{mesh_each}
use Rattle.exports.proofs.many.probe_ray_mesh_many.Goals as goal

-- the answer is the inner call's, and what is read at each ray's places keeps the single call's promises
pub returns : goal.returns
returns c =
    let returned = c.ray_mesh_many.ensures in
    (returned, λ done. mesh_each _ _ _ _ _ _ _ _ (returned.1.1 done))
