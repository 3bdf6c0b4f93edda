-- `exports::meshes::probe_build` meets its contract. Assumes nothing.
use borrow.Author.Tests.{le-leb}
use mathlib.Core.Path.{refl}
use lib.ListN.{length}
use Rattle.tree.specs.Mesh.{lengths_admitted}
use Rattle.exports.proofs.Counts.{build_returned_lem, build_short}
use Rattle.exports.proofs.Kept.{second_failed}
use Rattle.exports.proofs.Reading.{short_undone, built_read}
use Rattle.exports.proofs.meshes.probe_build.Goals as goal

-- the place of the node count is not there
pub returns-then-nodes-lt1 : goal.returns-then-nodes-lt1
returns-then-nodes-lt1 c =
    let short = c.short_build.ensures in
    let admitted = lengths_admitted (length c.args.vertices.now) (length c.args.triangles.now) in
    (build_short _ _ _ _ _ c.if-nodes-lt1.true short, (λ _. refl, λ done. absurd (short_undone admitted _ short done)))

-- the build's answer
pub returns : goal.returns
returns c =
    let returned = build_returned_lem _ _ _ _ _ _ _ c.if-nodes-lt1.false c.build-built.ensures.0 c.put_count.ensures.nodes in (
      returned,
      (
        λ failed. c.build-built.ensures.1 (second_failed _ _ (le-leb _ _ c.if-nodes-lt1.false) failed),
        built_read _ _ _ _ c.if-nodes-lt1.false _ returned,
      ),
    )
