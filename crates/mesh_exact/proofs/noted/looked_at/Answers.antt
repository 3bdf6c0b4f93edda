-- `mesh_exact::noted::looked_at` meets its contract. Assumes nothing.
use mathlib.Core.Bool.{Bool, ◌||◌, not}
use mathlib.Core.Path.{sym, ap, ◌∙◌}
use Rattle.geometry.specs.Box.{corners_box, touches}
use Rattle.tree.specs.Mesh.{corners_of}
use Rattle.mesh_exact.proofs.noted.looked_at.Goals as goal

-- not all vertices are in range
pub returns-then-not-within : goal.returns-then-not-within
returns-then-not-within c =
    let v = c.args in
    sym (ap (λ (b : Bool). b || touches (corners_box (corners_of v.vertices.now v.triangles.now v.index)) v.bounds)
    (ap not c.if-not-within.true))

-- by the vertices' codes, or by the corners
pub returns : goal.returns
returns c =
    let v = c.args in
    c.triangle_touches.ensures
    ∙ sym (ap (λ (b : Bool). b || touches (corners_box (corners_of v.vertices.now v.triangles.now v.index)) v.bounds)
    (ap not c.if-not-within.false))
