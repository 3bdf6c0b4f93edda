-- One power of two for all components.
use Rattle.std.proofs.Common.{sym, ap, ◌∙◌, subst}
use Rattle.vectors.specs.Vector.{max_element}
use Rattle.vectors.proofs.NormalLaws.{Largest, largest_of, scaled_told}
use Rattle.vectors.proofs.vec3.Vec3.scaled_to_one.Goals as goal

pub scaled-requires : goal.scaled-requires
scaled-requires c =
    let most = c.max_element-largest.ensures ∙ ap max_element c.abs.ensures in
    let largest = subst (Largest c.args.self) (sym most) (largest_of c.args.self c.requires) in
    (largest.above, (largest.finite, largest.first))

pub scaled-requires-2 : goal.scaled-requires-2
scaled-requires-2 c =
    let most = c.max_element-largest.ensures ∙ ap max_element c.abs.ensures in
    let largest = subst (Largest c.args.self) (sym most) (largest_of c.args.self c.requires) in
    (largest.above, (largest.finite, largest.second))

pub scaled-requires-3 : goal.scaled-requires-3
scaled-requires-3 c =
    let most = c.max_element-largest.ensures ∙ ap max_element c.abs.ensures in
    let largest = subst (Largest c.args.self) (sym most) (largest_of c.args.self c.requires) in
    (largest.above, (largest.finite, largest.third))

pub returns : goal.returns
returns c =
    let most = c.max_element-largest.ensures ∙ ap max_element c.abs.ensures in
    scaled_told c.args.self c.max_element-largest.result _ _ _ most c.scaled.ensures c.scaled-2.ensures c.scaled-3.ensures
