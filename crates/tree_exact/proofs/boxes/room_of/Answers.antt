-- `tree_exact::boxes::room_of` meets its contract. Assumes nothing.
use mathlib.Core.Path.{◌≡◌, sym, ap, ◌∙◌, subst}
use lib.Dec.{lit≤}
use lib.IntN.{ℤ}
use Rattle.wide_integers.specs.Sizes.{Sized}
use Rattle.wide_integers.proofs.Reading.{bits, plain, widen, sized_bits}
use Rattle.exact_triangle.specs.Grid.{furthest}
use Rattle.exact_triangle.specs.View.{main_as}
use Rattle.exact_triangle.proofs.Laws.{within_x, within_y, within_z}
use Rattle.tree_exact.specs.Room.{side_on, facing_room, RoomSized}
use Rattle.tree_exact.proofs.BoxSteps.{low_read, high_read, faced_sized}
use Rattle.tree_exact.proofs.boxes.room_of.Goals as goal

-- a coordinate of the origin as it is read back
read : {z : ℤ} → Sized 268435456 z → bits z ≡ z
read h = plain (widen h (lit≤ tt))

pub side_of-x-requires : goal.side_of-x-requires
side_of-x-requires c =
    let b = c.args.bounds in (
      (within_x furthest b.min (low_read b c.requires.1), within_x furthest b.max (high_read b c.requires.1)),
      sized_bits c.requires.0.origin.x (lit≤ tt),
    )

pub side_of-y-requires : goal.side_of-y-requires
side_of-y-requires c =
    let b = c.args.bounds in (
      (within_y furthest b.min (low_read b c.requires.1), within_y furthest b.max (high_read b c.requires.1)),
      sized_bits c.requires.0.origin.y (lit≤ tt),
    )

pub side_of-z-requires : goal.side_of-z-requires
side_of-z-requires c =
    let b = c.args.bounds in (
      (within_z furthest b.min (low_read b c.requires.1), within_z furthest b.max (high_read b c.requires.1)),
      sized_bits c.requires.0.origin.z (lit≤ tt),
    )

-- the three sides, faced
pub returns : goal.returns
returns c =
    let v = c.args.line in
    let b = c.args.bounds in
    let near = c.requires.0.origin in
    let main = main_as v.axis in
    let p = c.side_of-x.ensures.0 ∙ ap (λ (o : ℤ). side_on o b.min.x b.max.x) (read near.x) in
    let q = c.side_of-y.ensures.0 ∙ ap (λ (o : ℤ). side_on o b.min.y b.max.y) (read near.y) in
    let r = c.side_of-z.ensures.0 ∙ ap (λ (o : ℤ). side_on o b.min.z b.max.z) (read near.z) in (
      c.facing_room.ensures ∙ (λ i. facing_room main (p i) (q i) (r i)),
      subst RoomSized (sym c.facing_room.ensures)
          (faced_sized main c.side_of-x.ensures.1 c.side_of-y.ensures.1 c.side_of-z.ensures.1),
    )
