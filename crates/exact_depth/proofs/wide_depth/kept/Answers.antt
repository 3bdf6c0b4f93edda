-- `exact_depth::wide_depth::kept` meets its contract. Assumes nothing.
use Rattle.exact_depth.specs.FirstPoint.{kept}
use Rattle.wide_integers.specs.Value.{value}
use Rattle.exact_depth.proofs.Laws.{missed, low_told, high_told}
use Rattle.exact_depth.proofs.wide_depth.kept.Goals as goal

pub returns-then-below : goal.returns-then-below
unfolding kept
returns-then-below c =
    missed (simp (low_told (value c.args.at.t) (value c.args.at.w) c.args.near c.ranges.near c.times-least.ensures c.below.ensures
    c.if-below.true))

pub returns-then-below-2 : goal.returns-then-below-2
unfolding kept
returns-then-below-2 c =
    missed (simp (
      low_told (value c.args.at.t) (value c.args.at.w) c.args.near c.ranges.near c.times-least.ensures c.below.ensures c.if-below.false,
      high_told (value c.args.at.t) (value c.args.at.w) c.args.far c.ranges.far c.times-most.ensures c.below-2.ensures c.if-below-2.true,
    ))

pub returns : goal.returns
unfolding kept
returns c = record {
  is = simp (
    low_told (value c.args.at.t) (value c.args.at.w) c.args.near c.ranges.near c.times-least.ensures c.below.ensures c.if-below.false,
    high_told (value c.args.at.t) (value c.args.at.w) c.args.far c.ranges.far c.times-most.ensures c.below-2.ensures c.if-below-2.false,
  );
  narrow = c.requires;
}
