-- `tree_exact::room::passes` meets its contract. Assumes nothing.
use mathlib.Core.Path.{◌≡◌}
use mathlib.Core.Bool.{Bool}
use lib.Dec.{lit≤}
use lib.IntN.{ℤ}
use mir.Syntax.{w64}
use mir.ValLaws.{to_z-of_z}
use Rattle.wide_integers.specs.Sizes.{Sized}
use Rattle.wide_integers.proofs.Reading.{bits, plain, widen}
use Rattle.tree_exact.specs.Room.{multiple, difference, holds_zero, reaches, sheared_room_by}
use Rattle.tree_exact.specs.declared.room.Room.{Room}
use Rattle.tree_exact.proofs.RoomSteps.{sized_read, side_plain, depth_plain, first_fails, second_fails, last_decides}
use Rattle.tree_exact.proofs.room.passes.Goals as goal

-- a part of the direction as it is read back
read : {z : ℤ} → Sized 2147483648 z → bits z ≡ z
read h = plain (widen h (lit≤ tt))

pub side_met-requires : goal.side_met-requires
side_met-requires c =
    let (r, t) = c.requires in
    let d = t.heading in
    ((r.across, r.depth), (sized_read (read d.depth) d.depth, sized_read (read d.across) d.across))

pub side_met-requires-2 : goal.side_met-requires-2
side_met-requires-2 c =
    let (r, t) = c.requires in
    let d = t.heading in
    ((r.up, r.depth), (sized_read (read d.depth) d.depth, sized_read (read d.up) d.up))

pub depth_met-requires : goal.depth_met-requires
depth_met-requires c = (c.requires.0.depth, sized_read (to_z-of_z w64 c.args.ahead c.ranges.ahead) (widen c.requires.1.ahead (lit≤ tt)))

pub returns-then-not-side_met : goal.returns-then-not-side_met
returns-then-not-side_met c =
    let seen : Room =
    sheared_room_by c.args.d c.args.ahead c.args.room in
    let across : (b : Bool) → b ≡ holds_zero (difference (multiple (bits c.args.d.depth) c.args.room.across) (multiple (bits
    c.args.d.across) c.args.room.depth)) → b ≡ holds_zero seen.across =
    λ b h. side_plain c.args.room.across c.args.room.depth h (read c.requires.1.heading.depth) (read c.requires.1.heading.across) in
    first_fails (holds_zero seen.up) (reaches c.args.near c.args.past seen.depth)
    (across c.side_met.result c.side_met.ensures) c.if-not-side_met.true

pub returns-then-not-side_met-2 : goal.returns-then-not-side_met-2
returns-then-not-side_met-2 c =
    let seen : Room =
    sheared_room_by c.args.d c.args.ahead c.args.room in
    let across : (b : Bool) → b ≡ holds_zero (difference (multiple (bits c.args.d.depth) c.args.room.across) (multiple (bits
    c.args.d.across) c.args.room.depth)) → b ≡ holds_zero seen.across =
    λ b h. side_plain c.args.room.across c.args.room.depth h (read c.requires.1.heading.depth) (read c.requires.1.heading.across) in
    let up : (b : Bool) → b ≡ holds_zero (difference (multiple (bits c.args.d.depth) c.args.room.up) (multiple (bits c.args.d.up)
    c.args.room.depth)) → b ≡ holds_zero seen.up =
    λ b h. side_plain c.args.room.up c.args.room.depth h (read c.requires.1.heading.depth) (read c.requires.1.heading.up) in
    second_fails (reaches c.args.near c.args.past seen.depth) (across c.side_met.result c.side_met.ensures)
    c.if-not-side_met.false (up c.side_met-2.result c.side_met-2.ensures) c.if-not-side_met-2.true

pub returns : goal.returns
returns c =
    let seen : Room =
    sheared_room_by c.args.d c.args.ahead c.args.room in
    let across : (b : Bool) → b ≡ holds_zero (difference (multiple (bits c.args.d.depth) c.args.room.across) (multiple (bits
    c.args.d.across) c.args.room.depth)) → b ≡ holds_zero seen.across =
    λ b h. side_plain c.args.room.across c.args.room.depth h (read c.requires.1.heading.depth) (read c.requires.1.heading.across) in
    let up : (b : Bool) → b ≡ holds_zero (difference (multiple (bits c.args.d.depth) c.args.room.up) (multiple (bits c.args.d.up)
    c.args.room.depth)) → b ≡ holds_zero seen.up =
    λ b h. side_plain c.args.room.up c.args.room.depth h (read c.requires.1.heading.depth) (read c.requires.1.heading.up) in
    let depth : (b : Bool) → b ≡ reaches (bits c.args.near) (bits c.args.past) (multiple (bits c.args.ahead) c.args.room.depth) → b ≡
    reaches c.args.near c.args.past seen.depth =
    λ b h. depth_plain c.args.room.depth h (to_z-of_z w64 c.args.ahead c.ranges.ahead) (to_z-of_z w64 c.args.near c.ranges.near)
    (to_z-of_z w64 c.args.past c.ranges.past) in
    last_decides (across c.side_met.result c.side_met.ensures) c.if-not-side_met.false
    (up c.side_met-2.result c.side_met-2.ensures) c.if-not-side_met-2.false (depth c.depth_met.result c.depth_met.ensures)
