-- What was found is what the triangles so far give. Assumes nothing.
use Rattle.std.proofs.Common.{◌+◌, refl, sym, ap, ◌∙◌, subst, List}
use Rattle.vectors.specs.declared.vec3.Vec3.{Vec3}
use Rattle.nearest_hit.specs.Nearest.{says_indexed}
use Rattle.height_field.specs.Pass.{NearCorners, half_of, pass_triangle, pass_triangles}
use Rattle.height_field.proofs.CellPass.{half_near, one_more}
use Rattle.height_field.proofs.pass.pass_triangles.Goals as goal

pub loop-triangle-init : goal.loop-triangle-init
unfolding pass_triangles
loop-triangle-init c = refl

pub pass_triangle-found-requires : goal.pass_triangle-found-requires
pass_triangle-found-requires c =
    subst (NearCorners c.args.bounds) (sym c.half-corners.ensures)
    (half_near c.args.bounds c.args.lower c.args.upper c.loop-triangle.triangle c.requires.0 c.requires.1.0)

pub loop-triangle-preserved : goal.loop-triangle-preserved
loop-triangle-preserved c =
    let a = c.args in
    let l = c.loop-triangle in
    c.pass_triangle-found.ensures
    ∙ ap (λ (corners : List Vec3). pass_triangle a.ray a.bounds corners (a.feature + l.triangle) (says_indexed l.found))
    c.half-corners.ensures
    ∙ ap (pass_triangle a.ray a.bounds (half_of a.lower a.upper l.triangle) (a.feature + l.triangle)) l.invariant
    ∙ sym (one_more a.ray a.bounds a.lower a.upper a.feature (says_indexed a.best) l.triangle)
