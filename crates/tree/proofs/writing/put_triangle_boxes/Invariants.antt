-- `tree::writing::put_triangle_boxes`: the boxes before are written, and all triangles fit if those that are left do.
use Rattle.std.proofs.Common.{◌≡◌, ◌-◌, ◌/◌, length}
use lib.Seq.{sets}
use Rattle.lists.specs.Lists.{range, every}
use Rattle.tree.specs.Mesh.{triangle_box, mesh, each_box, triangle_fits}
use Rattle.tree.proofs.writing.put_triangle_boxes.Given as goal

abbrev pub invariant-loop-i : goal.invariant-loop-i
invariant-loop-i l =
    let fits = triangle_fits (mesh l.vertices l.triangles) in
    let n = length l.triangles / 3 in
    (every fits (range l.i (n - l.i)) ≡ every fits (range 0 n))
    × (l.area ≡ sets l.initial.area 0 (each_box (triangle_box l.vertices l.triangles) (range 0 l.i)))
