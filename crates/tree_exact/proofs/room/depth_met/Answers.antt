-- `tree_exact::room::depth_met` meets its contract. Assumes nothing.
use mathlib.Core.Path.{◌≡◌}
use mir.Syntax.{w64}
use mir.ValLaws.{to_z-of_z}
use Rattle.wide_integers.proofs.Reading.{bits}
use Rattle.tree_exact.proofs.RoomSteps.{sized_read, near_reached, near_missed}
use Rattle.tree_exact.proofs.room.depth_met.Goals as goal

pub multiple-deep-requires : goal.multiple-deep-requires
multiple-deep-requires c =
    let factor : bits c.args.ahead ≡ c.args.ahead =
    to_z-of_z w64 c.args.ahead c.ranges.ahead in
    (c.requires.0, sized_read factor c.requires.1)

-- from near on
pub returns-then-near-deep : goal.returns-then-near-deep
returns-then-near-deep c =
    let factor : bits c.args.ahead ≡ c.args.ahead =
    to_z-of_z w64 c.args.ahead c.ranges.ahead in
    let v = c.args in
    near_reached v.depth v.ahead v.near v.past c.multiple-deep.ensures factor c.requires.0 c.requires.1
    (to_z-of_z w64 v.near c.ranges.near) (to_z-of_z w64 v.past c.ranges.past) c.if-near-deep.true

-- before near
pub returns : goal.returns
returns c =
    let factor : bits c.args.ahead ≡ c.args.ahead =
    to_z-of_z w64 c.args.ahead c.ranges.ahead in
    let v = c.args in
    near_missed v.depth v.ahead v.near v.past c.multiple-deep.ensures factor c.requires.0 c.requires.1
    (to_z-of_z w64 v.near c.ranges.near) (to_z-of_z w64 v.past c.ranges.past) c.if-near-deep.false
