-- `tree_exact::room::side_met` meets its contract. Assumes nothing.
use mathlib.Core.Path.{◌≡◌}
use mir.Syntax.{w64}
use mir.ValLaws.{to_z-of_z}
use Rattle.wide_integers.proofs.Reading.{bits}
use Rattle.tree_exact.proofs.RoomSteps.{sized_read, multiple_is, multiple_small, difference_small, side_is}
use Rattle.tree_exact.proofs.room.side_met.Goals as goal

pub multiple-requires : goal.multiple-requires
multiple-requires c =
    let onward : bits c.args.onward ≡ c.args.onward =
    to_z-of_z w64 c.args.onward c.ranges.onward in
    (c.requires.0.0, sized_read onward c.requires.1.0)

pub multiple-requires-2 : goal.multiple-requires-2
multiple-requires-2 c =
    let aside : bits c.args.aside ≡ c.args.aside =
    to_z-of_z w64 c.args.aside c.ranges.aside in
    (c.requires.0.1, sized_read aside c.requires.1.1)

pub difference-requires : goal.difference-requires
difference-requires c =
    let onward : bits c.args.onward ≡ c.args.onward =
    to_z-of_z w64 c.args.onward c.ranges.onward in
    let aside : bits c.args.aside ≡ c.args.aside =
    to_z-of_z w64 c.args.aside c.ranges.aside in
    let h = c.requires in
    let v = c.args in (
      multiple_small v.side v.onward c.multiple.ensures onward h.0.0 h.1.0,
      multiple_small v.depth v.aside c.multiple-2.ensures aside h.0.1 h.1.1,
    )

pub holds_zero-requires : goal.holds_zero-requires
holds_zero-requires c =
    let onward : bits c.args.onward ≡ c.args.onward =
    to_z-of_z w64 c.args.onward c.ranges.onward in
    let aside : bits c.args.aside ≡ c.args.aside =
    to_z-of_z w64 c.args.aside c.ranges.aside in
    let h = c.requires in
    let v = c.args in
    difference_small _ _ c.difference.ensures (multiple_small v.side v.onward c.multiple.ensures onward h.0.0
    h.1.0)
    (multiple_small v.depth v.aside c.multiple-2.ensures aside h.0.1 h.1.1)

pub returns : goal.returns
returns c =
    let onward : bits c.args.onward ≡ c.args.onward =
    to_z-of_z w64 c.args.onward c.ranges.onward in
    let aside : bits c.args.aside ≡ c.args.aside =
    to_z-of_z w64 c.args.aside c.ranges.aside in
    let v = c.args in
    side_is _ _ _ v.side v.depth v.onward v.aside c.holds_zero.ensures c.difference.ensures
    (multiple_is v.side v.onward c.multiple.ensures onward)
    (multiple_is v.depth v.aside c.multiple-2.ensures aside)
