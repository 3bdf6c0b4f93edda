-- `exports::exact::probe_ray_mesh_exact_plain` meets its contract. Assumes nothing.
use mathlib.Core.Path.{◌∙◌}
use Rattle.tree.specs.Mesh.{Mesh, mesh}
use Rattle.exports.proofs.Kept.{results_fit_lem, hit_short, index_short}
use Rattle.exports.proofs.ExactCalls.{plain_short, plain_returned_lem, exact_certain}
use Rattle.exports.proofs.exact.probe_ray_mesh_exact_plain.Goals as goal

-- the hit slice is too short
pub returns-then-hit-lt4 : goal.returns-then-hit-lt4
returns-then-hit-lt4 c =
    let own : Mesh =
    mesh c.args.vertices.now c.args.triangles.now in
    let a = c.args in
    exact_certain a.hit.now a.index.now _ own _
    (plain_short a.hit.now a.index.now _ own _ _
    (hit_short a.hit.now a.index.now c.if-hit-lt4.true) c.lengths_admitted.ensures (c.into.ensures ∙ c.short_exact.ensures))

-- the index slice is
pub returns-then-index-lt1 : goal.returns-then-index-lt1
returns-then-index-lt1 c =
    let own : Mesh =
    mesh c.args.vertices.now c.args.triangles.now in
    let a = c.args in
    exact_certain a.hit.now a.index.now _ own _
    (plain_short a.hit.now a.index.now _ own _ _
    (index_short a.hit.now a.index.now c.if-hit-lt4.false c.if-index-lt1.true) c.lengths_admitted-then-index-lt1.ensures
    (c.into-then-index-lt1.ensures ∙ c.short_exact-then-index-lt1.ensures))

-- the cast's answer, told
pub returns : goal.returns
returns c =
    let own : Mesh =
    mesh c.args.vertices.now c.args.triangles.now in
    let a = c.args in
    let fits = results_fit_lem a.hit.now a.index.now c.if-hit-lt4.false c.if-index-lt1.false in
    exact_certain a.hit.now a.index.now _ own _
    (plain_returned_lem a.hit.now a.index.now _ own _ _ fits c.ray_mesh_exact_plain-found.ensures.result_value c.put_indexed.ensures)
