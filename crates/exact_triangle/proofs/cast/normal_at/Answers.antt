-- `exact_triangle::cast::normal_at` meets its contract. Assumes nothing.
use Rattle.std.proofs.Common.{sym, ap, ◌∙◌}
use Rattle.std.specs.Prelude.{Option}
use Rattle.vectors.specs.Vector.{dot_of}
use Rattle.vectors.specs.declared.vec3.Vec3.{Vec3}
use Rattle.casts.specs.Answer.{hit, with_normal, no_normal}
use Rattle.casts.specs.Surface.{facing}
use Rattle.exact_triangle.specs.Cast.{grid_normal}
use Rattle.exact_triangle.proofs.cast.normal_at.Goals as goal

-- there is no normal
pub returns-in_default : goal.returns-in_default
unfolding grid_normal
returns-in_default c =
    sym (ap (λ (k : Option Vec3). with_normal k no_normal (λ (v : Vec3). hit (facing v (dot_of c.args.ray.direction v)) c.args.distance))
    (sym c.unit_of-unit.ensures ∙ c.in_default.is))

-- it is turned
pub returns : goal.returns
unfolding grid_normal
returns c =
    (λ i. hit ((c.facing.ensures ∙ ap (facing c.in-Some.v) c.dot.ensures) i) c.args.distance)
    ∙ sym (ap (λ (k : Option Vec3). with_normal k no_normal (λ (v : Vec3). hit (facing v (dot_of c.args.ray.direction v))
    c.args.distance)) (sym c.unit_of-unit.ensures ∙ c.in-Some.is))
