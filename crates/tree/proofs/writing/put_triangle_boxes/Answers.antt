-- `tree::writing::put_triangle_boxes` meets its contract. Assumes nothing.
use Rattle.std.proofs.Common.{◌≡◌, refl, sym, ap, ◌∙◌, arith, ℕ, ◌*◌, ◌/◌, length}
use mathlib.Core.List.{List}
use mathlib.Core.Bool.{false≢true}
use native.Mathlib.Nat.{sub-zero}
use lib.Ieee.{Float}
use lib.Seq.{sets}
use Rattle.lists.proofs.JoinedTests.{test_failed}
use Rattle.lists.proofs.Runs.{sets_front}
use Rattle.lists.proofs.CountLaws.{length_range}
use Rattle.lists.proofs.EveryLaws.{every_fails, every_passes, every_done}
use Rattle.lists.specs.Lists.{range}
use Rattle.tree.specs.Layout.{box_numbers}
use Rattle.tree.specs.Mesh.{triangle_box, mesh, each_box, triangle_fits, triangles_fit, boxes_written}
use Rattle.tree.proofs.Boxes.{length_each_box, box_stored}
use Rattle.tree.proofs.writing.put_triangle_boxes.Goals as goal

pub loop-i-init : goal.loop-i-init
unfolding each_box range
loop-i-init c = (rw sub-zero, refl)

pub returns-then-not-put_triangle_box : goal.returns-then-not-put_triangle_box
unfolding triangles_fit
returns-then-not-put_triangle_box c =
    let a = c.args in
    let l = c.loop-i in
    let fits = triangle_fits (mesh a.vertices.now a.triangles.now) in
    let no = test_failed c.put_triangle_box.ensures.0 c.if-not-put_triangle_box.true in (
      sym (every_fails fits l.i (length a.triangles.now / 3) _ c.loop-i-test.true no l.invariant.0),
      λ e. absurd (false≢true e),
    )

pub loop-i-preserved : goal.loop-i-preserved
loop-i-preserved c =
    let a = c.args in
    let l = c.loop-i in
    let one = c.put_triangle_box in
    let fits = triangle_fits (mesh a.vertices.now a.triangles.now) in
    let box = triangle_box a.vertices.now a.triangles.now in
    let went = c.if-not-put_triangle_box.false in (
      every_passes fits l.i (length a.triangles.now / 3) _ c.loop-i-test.true (sym one.ensures.0 ∙ went) l.invariant.0,
      one.ensures.1 went ∙ ap (λ (z : List Float). sets z (6 * l.i) (box_numbers (box l.i))) l.invariant.1 ∙ box_stored box a.area.now l.i,
    )

pub returns : goal.returns
unfolding triangles_fit boxes_written
returns c =
    let a = c.args in
    let l = c.loop-i in
    let n = length a.triangles.now / 3 in
    let fits = triangle_fits (mesh a.vertices.now a.triangles.now) in
    let box = triangle_box a.vertices.now a.triangles.now in
    let e : l.i ≡ n = omega arith in (
      sym (every_done fits l.i n c.loop-i-test.false) ∙ l.invariant.0,
      λ _. l.invariant.1 ∙ ap (λ (k : ℕ). sets a.area.now 0 (each_box box (range 0 k))) e
          ∙ sets_front a.area.now (each_box box (range 0 n)) (omega (arith, c.requires, length_each_box box (range 0 n), length_range 0 n)),
    )
