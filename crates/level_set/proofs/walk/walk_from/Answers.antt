-- `level_set::walk::walk_from` meets its contract. Assumes nothing.
use Rattle.std.proofs.Common.{◌≡◌, ℕ, ◌+◌, ◌-◌, arith, refl, ap}
use Rattle.level_set.specs.Walk.{cell_limit, walk_from}
use Rattle.level_set.proofs.SampleLaws.{nothing_remembered, kept_remembered}
use Rattle.level_set.proofs.WalkLaws.{walk_on, walk_out}
use Rattle.level_set.proofs.walk.walk_from.Goals as goal

pub loop-taken-init : goal.loop-taken-init
loop-taken-init c =
    let all : cell_limit c.args.field.now.grid - 0 ≡ cell_limit c.args.field.now.grid = omega arith in
    record {
      rest = ap (λ (n : ℕ). walk_from c.args.ray c.args.field.now.grid c.args.field.now.values.now c.args.exit n c.args.entry) all;
      remembered = nothing_remembered _ _ _ _;
    }

pub returns-in-Done : goal.returns-in-Done
returns-in-Done c =
    walk_on c.args.ray c.args.field.now.grid c.args.field.now.values.now c.args.exit _ (cell_limit c.args.field.now.grid -
    (c.loop-taken.taken + 1)) _ _ _
    c.loop-taken.invariant.rest
    (omega (arith, c.loop-taken-test.true, c.cell_limit-taken-end.ensures))
    c.in-Done.ensures.step

pub loop-taken-preserved : goal.loop-taken-preserved
loop-taken-preserved c = record {
  rest = walk_on c.args.ray c.args.field.now.grid c.args.field.now.values.now c.args.exit _ (cell_limit c.args.field.now.grid -
      (c.loop-taken.taken + 1)) _ _ _
      c.loop-taken.invariant.rest
      (omega (arith, c.loop-taken-test.true, c.cell_limit-taken-end.ensures))
      c.in-On.ensures.step;
  remembered = kept_remembered _ _ _ _ _ _ c.in-On.ensures.kept refl;
}

pub returns : goal.returns
returns c =
    walk_out c.args.ray c.args.field.now.grid c.args.field.now.values.now c.args.exit _ _ _ c.loop-taken.invariant.rest
    (omega (arith, c.loop-taken-test.false, c.cell_limit-taken-end.ensures))
