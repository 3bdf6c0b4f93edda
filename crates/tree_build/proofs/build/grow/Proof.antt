-- `tree_build::build::grow` meets its contract. Assumes nothing.
use mathlib.Core.Path.{◌≡◌, refl, sym, ap, ◌∙◌}
use mathlib.Core.List.{List, ◌++◌}
use Prim.Native.Nat.{ℕ, ◌/◌, ◌≤◌}
use native.Mathlib.Nat.{pos_of_ne-zero}
use native.Mathlib.Omega.{arith}
use lib.ListN.{length, take, drop}
use lib.Seq.{length-take-le, length_front}
use Rattle.lists.proofs.JoinedTests.{test_failed}
use Rattle.tree.specs.Layout.{Areas, areas}
use Rattle.tree.specs.Mesh.{Mesh, mesh}
use Rattle.lists.proofs.CountLaws.{length_range}
use Rattle.tree_build.proofs.Outcomes.{Room, count_admitted, room_left, first_room, numbered, numbered_rest, none_refused}
use Rattle.tree_build.proofs.Outcomes.{unfit_refused, grown_said, grown_written}
use borrow.Author.Rules.{rules}
use Rattle.tree_build.proofs.build.grow.Statement.{statement}
use Rattle.tree_build.proofs.build.grow.Tie as tie

-- the mesh, its triangles, and the areas as the call begins
abbrev given : tie.Start → Mesh
given s = mesh s.args.vertices.now s.args.triangles.now

abbrev count : tie.Start → ℕ
count s = length s.args.triangles.now / 3

abbrev lent : tie.Start → Areas
lent s = areas s.args.node_boxes.now s.args.triangle_boxes.now s.args.node_words.now s.args.order.now

-- the order when its front is numbered
abbrev numbers : tie.After-number → List ℕ
numbers k = k.number.new.area

abbrev ordered : tie.Start → tie.After-number → List ℕ
ordered s k = numbers k ++ drop (count s) s.args.order.now

roomy : (s : tie.Start) → Room (count s) (length s.args.node_boxes.now) (length s.args.triangle_boxes.now)
    (length s.args.node_words.now) (length s.args.order.now) (length s.args.work.now)
roomy s = room_left (count s) (lent s) (length s.args.work.now) s.requires.1

few : (s : tie.Start) → count s ≤ 65536
few s = count_admitted (length s.args.vertices.now) (length s.args.triangles.now) s.requires.0

-- no triangle
returns : tie.Need-returns-then-count-eq0
returns c =
    let s : tie.Start = search in (
      none_refused (given s) (lent s) c.if-count-eq0.true,
      λ k e. let z : ◌≡◌ {A = ℕ} 0 1 = cc in absurd (omega arith),
    )

put-triangle-boxes-requires : tie.Need-put_triangle_boxes-requires
put-triangle-boxes-requires c κs =
    let s : tie.Start = search in
    (roomy s).for_triangle_boxes

same_length : tie.Need-shape_of-triangle_boxes-then-not-put_triangle_boxes
same_length c =
    let b : tie.After-put_triangle_boxes = search in
    b.put_triangle_boxes.auto.area

-- a triangle does not fit
returns-2 : tie.Need-returns-then-not-put_triangle_boxes
returns-2 c =
    let (s, some, b) : tie.Start × tie.Else-count-eq0 × tie.After-put_triangle_boxes = search in (
      unfit_refused (given s) (lent s) some.if-count-eq0.false
          (test_failed b.put_triangle_boxes.ensures.0 c.if-not-put_triangle_boxes.true),
      λ k e. let z : ◌≡◌ {A = ℕ} 0 1 = cc in absurd (omega arith),
    )

slice-relend-prefix-number : tie.Need-slice_bounds-number-end
slice-relend-prefix-number c =
    let s : tie.Start = search in
    (roomy s).for_order

slice-aggregate-number : tie.Need-slice_bounds-number-end-2
slice-aggregate-number c =
    let s : tie.Start = search in
    sym (length-take-le (count s) s.args.order.now (roomy s).for_order)

number-requires : tie.Need-number-requires
number-requires c κs =
    let s : tie.Start = search in
    omega (arith, length-take-le (count s) s.args.order.now (roomy s).for_order, few s)

-- the front of the numbered order, looked at and then lent
within : (order part : List ℕ) (n : ℕ) → length part ≡ length (take n order) → n ≤ length order → n ≤ length (part ++ drop n order)
within order part n e h = omega (arith, length_front order part n e)

slice-reshare-prefix-order-unseen : tie.Need-slice_bounds-order_unseen-end
slice-reshare-prefix-order-unseen c =
    let (s, k) : tie.Start × tie.After-number = search in
    within s.args.order.now (numbers k) (count s) k.number.auto.area (roomy s).for_order

slice-aggregate-order-unseen : tie.Need-slice_bounds-order_unseen-end-2
slice-aggregate-order-unseen c =
    let (s, k) : tie.Start × tie.After-number = search in
    let inside = within s.args.order.now (numbers k) (count s) k.number.auto.area (roomy s).for_order in
    sym (length-take-le (count s) (ordered s k) inside)

slice-relend-prefix-build-node : tie.Need-slice_bounds-build_node-end
slice-relend-prefix-build-node c =
    let (s, k) : tie.Start × tie.After-number = search in
    within s.args.order.now (numbers k) (count s) k.number.auto.area (roomy s).for_order

slice-aggregate-build-node : tie.Need-slice_bounds-build_node-end-2
slice-aggregate-build-node c =
    let (s, k) : tie.Start × tie.After-number = search in
    let inside = within s.args.order.now (numbers k) (count s) k.number.auto.area (roomy s).for_order in
    sym (length-take-le (count s) (ordered s k) inside)

build-node-requires : tie.Need-build_node-requires
build-node-requires c κs =
    let (s, some, k, u) : tie.Start × tie.Else-count-eq0 × tie.After-number × tie.After-order_unseen-unseen = search in
    let a = s.args in
    let room = roomy s in
    let is = numbered (count s) a.order.now (numbers k) room.for_order k.number.ensures in
    let long : length (take (count s) (ordered s k)) ≡ count s = ap length is ∙ length_range 0 (count s) in (
      first_room (count s) (length (take (count s) (ordered s k))) (length a.node_boxes.now) (length a.node_words.now)
          (length a.work.now) long (pos_of_ne-zero some.if-count-eq0.false) (few s) room.for_node_boxes room.for_node_words
          room.for_work,
      u.order_unseen-unseen.ensures,
    )

-- each area is as long as it was
same-length-2 : tie.Need-shape_of-node_boxes
same-length-2 c =
    let w : tie.After-build_node = search in
    w.build_node.auto.node_boxes

same-length-3 : tie.Need-shape_of-triangle_boxes
same-length-3 c =
    let b : tie.After-put_triangle_boxes = search in
    b.put_triangle_boxes.auto.area

same-length-4 : tie.Need-shape_of-node_words
same-length-4 c =
    let w : tie.After-build_node = search in
    w.build_node.auto.node_words

same-length-5 : tie.Need-shape_of-order
same-length-5 c =
    let (s, k, w) : tie.Start × tie.After-number × tie.After-build_node = search in
    length_front (ordered s k) w.build_node.new.order (count s) w.build_node.auto.order
    ∙ length_front s.args.order.now (numbers k) (count s) k.number.auto.area

same-length-6 : tie.Need-shape_of-work
same-length-6 c =
    let w : tie.After-build_node = search in
    w.build_node.auto.work

-- what the recursion answers and leaves
returns-3 : tie.Need-returns
returns-3 c =
    let (s, some, b, fits, k, w) :
    tie.Start × tie.Else-count-eq0 × tie.After-put_triangle_boxes × tie.Else-not-put_triangle_boxes × tie.After-number
    × tie.After-build_node = search in
    let n = count s in
    let boxes = b.put_triangle_boxes in
    let fit = fits.if-not-put_triangle_boxes.false in
    let room = roomy s in
    let part = take n (ordered s k) in
    let is = numbered n s.args.order.now (numbers k) room.for_order k.number.ensures in
    let went = w.build_node in
    let work = length s.args.work.now in
    let order = went.new.order in
    let node_boxes = went.new.node_boxes in
    let node_words = went.new.node_words in
    let written = boxes.ensures.1 fit in
    let positive = pos_of_ne-zero some.if-count-eq0.false in (
      grown_said (given s) (lent s) went.result part order boxes.new.area node_boxes node_words n refl positive work room written
          is
          went.auto.order went.ensures some.if-count-eq0.false (sym boxes.ensures.0 ∙ fit),
      λ j e. ap (λ (z : List ℕ). areas node_boxes boxes.new.area node_words (order ++ z))
          (numbered_rest n s.args.order.now (numbers k) room.for_order k.number.ensures)
          ∙ grown_written (given s) (lent s) went.result part order boxes.new.area node_boxes node_words n refl positive work room
          written is went.auto.order went.ensures j e,
    )

pub grow_spec : {M : Type 1} → statement M
grow_spec =
    tie.close
    (tie.spec
    returns
    put-triangle-boxes-requires
    same_length
    returns-2
    slice-relend-prefix-number
    slice-aggregate-number
    number-requires
    slice-reshare-prefix-order-unseen
    slice-aggregate-order-unseen
    (search rules)  -- order_unseen-unseen-requires
    slice-relend-prefix-build-node
    slice-aggregate-build-node
    build-node-requires
    same-length-2
    same-length-3
    same-length-4
    same-length-5
    same-length-6
    returns-3)
