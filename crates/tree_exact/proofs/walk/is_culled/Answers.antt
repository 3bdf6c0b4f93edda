-- `tree_exact::walk::is_culled` meets its contract. Assumes nothing.
use mathlib.Core.Path.{sym, ap, ◌∙◌, subst}
use mathlib.Core.Bool.{false≢true}
use mathlib.Core.List.{List}
use Rattle.vectors.specs.declared.vec3.Vec3.{Vec3}
use Rattle.geometry.specs.Box.{corners_box, touches}
use Rattle.lists.proofs.JoinedTests.{test_passed}
use Rattle.tree.specs.Mesh.{corners_of}
use Rattle.mesh_exact.proofs.Reaching.{apart_reach}
use Rattle.tree_exact.specs.Culling.{LiesApart}
use Rattle.tree_exact.proofs.walk.is_culled.Goals as goal

pub returns-then-not-corners_inside : goal.returns-then-not-corners_inside
returns-then-not-corners_inside c = λ e. absurd (false≢true e)

pub corners_of-requires : goal.corners_of-requires
corners_of-requires c = (c.requires, test_passed c.corners_inside.ensures c.if-not-corners_inside.false)

pub returns : goal.returns
returns c =
    let v = c.args in
    λ y. record {
      missed = λ ray line on.
          let p = subst (λ (vs : List Vec3). LiesApart vs v.reach) c.corners_of.ensures (c.lies_apart.ensures y) in
          sym (apart_reach ray v.pose.now v.triangles.now v.index on.casts.valid on.casts.shown.admitted
          (test_passed c.corners_inside.ensures c.if-not-corners_inside.false) p.read
          (sym (ap (touches (corners_box (corners_of v.pose.now v.triangles.now v.index))) on.box) ∙ p.apart));
    }
