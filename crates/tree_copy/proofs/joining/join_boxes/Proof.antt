-- `tree_copy::joining::join_boxes` meets its contract. Assumes nothing.
use mathlib.Core.Path.{ap, ◌∙◌}
use mathlib.Core.Bool.{Bool, cond}
use mathlib.Core.List.{List, []}
use Prim.Native.Nat.{ℕ, ◌+◌, ◌*◌}
use native.Mathlib.Omega.{arith}
use lib.Ieee.{Float}
use lib.ListN.{take}
use lib.Seq.{sets, length-take-le}
use Rattle.geometry.specs.Box.{union_of}
use Rattle.tree.specs.Layout.{box_at, box_numbers}
use Rattle.tree_copy.proofs.JoinLaws.{three_runs, root_box_length}
use borrow.Author.Rules.{rules}
use Rattle.tree_copy.proofs.joining.join_boxes.Statement.{statement}
use Rattle.tree_copy.proofs.joining.join_boxes.Tie as tie

put-root-box-requires : tie.Need-put_root_box-roots-requires
put-root-box-requires c κs =
    let start : tie.Start = search in
    λ left.
    let p = start.requires in
    let q = p.1.1 left in
    ((omega (arith, p.0, q), omega (arith, p.0, q)), omega (arith, p.0, ap {B = ℕ} (λ (e : Bool). cond e 0 1) left))

returns : tie.Need-returns
returns c =
    let (start, at-put-root-box, at-copy-numbers, at-copy-numbers2) :
    tie.Start × tie.After-put_root_box-roots × tie.After-copy_numbers × tie.After-copy_numbers-2 = search in
    let a = start.args in
    let p = start.requires in
    let r = at-put-root-box.put_root_box-roots in
    let xs = take (6 * a.m) a.first.now in
    let ys = take (6 * a.n) a.second.now in
    let b = union_of (box_at a.first.now 0) (box_at a.second.now 0) in
    let root = cond a.empty [] (box_numbers b) in
    let lx = length-take-le (6 * a.m) a.first.now p.0.0.0 in
    let ly = length-take-le (6 * a.n) a.second.now p.0.0.1 in
    at-copy-numbers2.copy_numbers-2.ensures
    ∙ ap (λ (z : List Float). sets z (6 * (r.result + a.m)) ys)
    (at-copy-numbers.copy_numbers.ensures ∙ ap (λ (z : List Float). sets z (6 * r.result) xs)
    r.ensures.1)
    ∙ three_runs a.area.now root xs ys (6 * r.result) (6 * (r.result + a.m))
    (omega (arith, root_box_length a.empty b, r.ensures.0))
    (omega (arith, root_box_length a.empty b, r.ensures.0, lx)) (omega (arith, root_box_length a.empty b, lx, ly, p.0.1))

pub join_boxes_spec : {M : Type 1} → statement M
join_boxes_spec =
    tie.close
    (tie.spec
    put-root-box-requires
    (search rules)  -- overflow_mul-m
    (search rules)  -- overflow_mul-roots
    (search rules)  -- copy_numbers-requires
    (search rules)  -- overflow_mul-n
    (search rules)  -- overflow_add-roots
    (search rules)  -- overflow_mul-roots-2
    (search rules)  -- copy_numbers-requires-2
    (search rules)  -- shape_of-area
    returns)
