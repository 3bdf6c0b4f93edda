-- `tree::writing::put_triangle_box` meets its contract. Assumes nothing.
use mathlib.Core.Path.{sym, ap, ◌∙◌}
use mathlib.Core.Bool.{false≢true}
use Prim.Native.Nat.{◌*◌, ◌/◌}
use lib.ListN.{length}
use lib.Seq.{sets}
use Rattle.lists.proofs.JoinedTests.{and_not_first, and_not_second, and_both}
use Rattle.geometry.specs.Box.{valid_box}
use Rattle.geometry.specs.declared.aabb.Aabb.{Aabb}
use Rattle.tree.specs.Mesh.{corners_inside, triangle_box, triangle_fits}
use Rattle.tree.specs.Layout.{box_numbers}
use borrow.Author.Rules.{rules}
use Rattle.tree.proofs.writing.put_triangle_box.Statement.{statement}
use Rattle.tree.proofs.writing.put_triangle_box.Tie as tie

corners-inside-requires : tie.Need-corners_inside-requires
corners-inside-requires c κs =
    let start : tie.Start = search in
    start.requires.0

returns : tie.Need-returns-then-not-corners_inside
unfolding triangle_fits
returns c =
    let start : tie.Start = search in (
      sym (and_not_first (corners_inside (length start.args.vertices.now / 3) start.args.triangles.now start.args.index)
          (valid_box (triangle_box start.args.vertices.now start.args.triangles.now start.args.index))
          (sym c.corners_inside.ensures ∙ c.if-not-corners_inside.true)),
      λ e. absurd (false≢true
          e),
    )

triangle-box-requires : tie.Need-triangle_box-bounds-requires
triangle-box-requires c κs =
    let start : tie.Start = search in
    (start.requires.0, sym c.corners_inside.ensures ∙ c.if-not-corners_inside.false)

returns-2 : tie.Need-returns-then-not-is_valid
unfolding triangle_fits
returns-2 c =
    let (start, at-triangle-box) : tie.Start × tie.After-triangle_box-bounds = search in
    let a = start.args in (
      sym (and_not_second (corners_inside (length a.vertices.now / 3) a.triangles.now a.index)
          (valid_box (triangle_box a.vertices.now a.triangles.now a.index))
          (ap valid_box (sym at-triangle-box.triangle_box-bounds.ensures) ∙ sym c.is_valid.ensures ∙ c.if-not-is_valid.true)),
      λ e. absurd (false≢true e),
    )

put-box-requires : tie.Need-put_box-requires
put-box-requires c κs =
    let start : tie.Start = search in
    start.requires.1

returns-3 : tie.Need-returns
unfolding triangle_fits
returns-3 c =
    let (start, at-corners-inside, else1, at-triangle-box, at-is-valid, else2, at-put-box) :
    tie.Start × tie.After-corners_inside × tie.Else-not-corners_inside × tie.After-triangle_box-bounds × tie.After-is_valid
    × tie.Else-not-is_valid × tie.After-put_box =
    search in
    let a = start.args in (
      sym (and_both (corners_inside (length a.vertices.now / 3) a.triangles.now a.index)
          (valid_box (triangle_box a.vertices.now a.triangles.now a.index))
          (sym at-corners-inside.corners_inside.ensures ∙ else1.if-not-corners_inside.false)
          (ap valid_box (sym at-triangle-box.triangle_box-bounds.ensures) ∙ sym at-is-valid.is_valid.ensures
          ∙ else2.if-not-is_valid.false)),
      λ _. at-put-box.put_box.ensures ∙ ap (λ (z : Aabb). sets a.area.now (6 * a.index) (box_numbers z))
          at-triangle-box.triangle_box-bounds.ensures,
    )

pub put_triangle_box_spec : {M : Type 1} → statement M
put_triangle_box_spec =
    tie.close
    (tie.spec
    corners-inside-requires
    returns
    triangle-box-requires
    (search rules)  -- is_valid-requires
    returns-2
    (search rules)  -- overflow_mul-index
    put-box-requires
    (search rules)  -- shape_of-area
    returns-3)
