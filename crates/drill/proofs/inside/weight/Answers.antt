-- `drill::inside::weight` meets its contract. Assumes nothing.
use Rattle.drill.proofs.Laws.{sized_as, dot_size}
use Rattle.drill.specs.Drill.{dot}
use Rattle.exact_depth.specs.declared.projection.Point.{Point}
use Rattle.wide_integers.proofs.Reading.{widen}
use lib.Dec.{lit≤}
use mathlib.Core.Path.{ap, ◌∙◌}
use Rattle.drill.proofs.inside.weight.Goals as goal

pub returns : goal.returns
returns c = (
  c.dot.ensures ∙ ap (λ (z : Point). dot z c.args.d) c.cross.ensures.0,
  widen (sized_as c.dot.ensures (dot_size c.cross.ensures.1 c.requires.1)) (lit≤ tt),
)
