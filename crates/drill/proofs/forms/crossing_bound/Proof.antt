-- `drill::forms::crossing_bound` meets its contract. Assumes nothing.
use Rattle.drill.proofs.Laws.{word_times, middling_as, sized_as}
use Rattle.wide_integers.proofs.OperationLaws.{held, word_size}
use Rattle.wide_integers.proofs.Reading.{widen, product_size, difference_size}
use Rattle.wide_integers.specs.Value.{value}
use lib.IntN.{ℤ, ◌*ℤ◌}
use lib.Dec.{lit<, lit≤}
use mathlib.Core.Path.{ap, ◌∙◌}
use Rattle.drill.proofs.forms.crossing_bound.Statement.{statement}
use Rattle.drill.proofs.forms.crossing_bound.Tie as tie

difference-requires : tie.Need-difference-requires
difference-requires c κs = let s : tie.Start = search in held (difference_size s.requires.0 s.requires.1) (lit< tt)

times-requires : tie.Need-times-requires
times-requires c κs =
    let (s, d) : tie.Start × tie.After-difference = search in
    middling_as d.difference.ensures (difference_size s.requires.0 s.requires.1) (lit< tt)

returns : tie.Need-returns
returns c =
    let (s, d) : tie.Start × tie.After-difference = search in
    let e = word_times (value d.difference.result) s.ranges.k c.times.ensures
    ∙ ap (λ (z : ℤ). z *ℤ s.args.k) d.difference.ensures in (
      e,
      widen (sized_as e (product_size (difference_size s.requires.0 s.requires.1) (word_size s.ranges.k))) (lit≤ tt),
    )

pub crossing_bound_spec : {M : Type 1} → statement M
crossing_bound_spec =
    tie.close
    (tie.spec difference-requires times-requires returns)
