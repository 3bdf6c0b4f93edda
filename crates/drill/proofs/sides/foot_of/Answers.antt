-- `drill::sides::foot_of` meets its contract. Assumes nothing.
use Rattle.drill.proofs.Laws.{fits_wide, sized_as, dot_size}
use Rattle.drill.specs.Drill.{dot}
use Rattle.exact_depth.specs.declared.projection.Point.{Point}
use Rattle.wide_integers.proofs.Reading.{widen, negated_size}
use lib.IntN.{neg_ℤ}
use lib.Dec.{lit<, lit≤}
use mathlib.Core.Path.{ap, ◌∙◌}
use Rattle.drill.proofs.sides.foot_of.Goals as goal

pub negate-second-requires : goal.negate-second-requires
negate-second-requires c = fits_wide (ap neg_ℤ c.dot.ensures) (negated_size (dot_size c.requires.0 c.minus-e.ensures.1)) (lit< tt)

pub returns : goal.returns
returns c =
    let v = c.args.v in
    let w = c.args.w in
    let h = c.minus-e.ensures in
    let k = c.negate-second.ensures ∙ ap neg_ℤ c.dot.ensures in
    record {
      first = c.dot-first.ensures ∙ ap (λ (z : Point). dot w z) h.0;
      second = k ∙ ap (λ (z : Point). neg_ℤ (dot v z)) h.0;
      first_size = widen (sized_as c.dot-first.ensures (dot_size c.requires.1 h.1)) (lit≤ tt);
      second_size = widen (sized_as k (negated_size (dot_size c.requires.0 h.1))) (lit≤ tt);
    }
