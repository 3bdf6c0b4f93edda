-- `tree_copy::root::put_root_box` meets its contract. Assumes nothing.
use mathlib.Core.Path.{sym, ap, ◌∙◌}
use mathlib.Core.Bool.{Bool, cond}
use mathlib.Core.List.{[]}
use lib.Seq.{sets}
use Rattle.geometry.specs.Box.{union_of}
use Rattle.geometry.specs.declared.aabb.Aabb.{Aabb}
use Rattle.tree.specs.Layout.{box_at, box_numbers}
use borrow.Author.Rules.{rules}
use Rattle.tree_copy.proofs.root.put_root_box.Statement.{statement}
use Rattle.tree_copy.proofs.root.put_root_box.Tie as tie

box-at-requires : tie.Need-box_at-below-requires
box-at-requires c κs =
    let start : tie.Start = search in
    (start.requires c.if-empty.false).0.0

box-at-requires-2 : tie.Need-box_at-requires
box-at-requires-2 c κs =
    let (start, else1) : tie.Start × tie.Else-empty = search in
    (start.requires else1.if-empty.false).0.1

put-box-requires : tie.Need-put_box-requires
put-box-requires c κs =
    let (start, else1) : tie.Start × tie.Else-empty = search in
    (start.requires else1.if-empty.false).1

returns-2 : tie.Need-returns
returns-2 c =
    let (start, else1, at-box-at, at-box-at2, at-union, at-put-box) :
    tie.Start × tie.Else-empty × tie.After-box_at-below × tie.After-box_at × tie.After-union × tie.After-put_box = search in
    let a = start.args in
    let left = else1.if-empty.false in
    let b = box_at a.first.now 0 in
    let d = box_at a.second.now 0 in (
      ap (λ (e : Bool). cond e 0 1) (sym left),
      at-put-box.put_box.ensures
          ∙ ap (λ (x : Aabb). sets a.area.now 0 (box_numbers x))
          (at-union.union.ensures ∙ ap (λ (x : Aabb). union_of x at-box-at2.box_at.result)
          at-box-at.box_at-below.ensures
          ∙ ap (union_of b) at-box-at2.box_at.ensures)
          ∙ ap (λ (e : Bool). sets a.area.now 0 (cond e [] (box_numbers (union_of b d)))) (sym left),
    )

pub put_root_box_spec : {M : Type 1} → statement M
put_root_box_spec =
    tie.close
    (tie.spec
    (λ c. search rules)  -- returns-then-empty
    box-at-requires
    box-at-requires-2
    (search rules)  -- union-requires
    put-box-requires
    (search rules)  -- shape_of-area
    returns-2)
