-- `exact_depth::orientation::low_part` meets its contract. Assumes nothing.
use lib.Dec.{lit≤}
use lib.IntN.{◌*ℤ◌}
use Rattle.wide_integers.proofs.Reading.{bits}
use Rattle.exact_depth.specs.declared.orientation.Limbs.{Limbs}
use Rattle.exact_depth.specs.Orientation.{LimbsSized}
use Rattle.exact_depth.proofs.Terms.{Term, term, times, times_fits, minus, minus_fits, resized, read_sized}
use Rattle.exact_depth.proofs.LimbLaws.{low_part_sized}
use Rattle.exact_depth.proofs.orientation.low_part.Goals as goal

abbrev one : {p q : Limbs} → LimbsSized p → LimbsSized q
    → Term (bits (bits p.low *ℤ bits q.low)) (p.low *ℤ q.low) 4611686014132420609
one h g = times (term h.low (lit≤ tt)) (term g.low (lit≤ tt)) (lit≤ tt)

pub overflow_mul-result : goal.overflow_mul-result
overflow_mul-result c = times_fits (term c.requires.0.0.low (lit≤ tt)) (term c.requires.1.1.low (lit≤ tt)) (lit≤ tt)

pub overflow_mul-result-2 : goal.overflow_mul-result-2
overflow_mul-result-2 c = times_fits (term c.requires.0.1.low (lit≤ tt)) (term c.requires.1.0.low (lit≤ tt)) (lit≤ tt)

pub overflow_sub-result : goal.overflow_sub-result
overflow_sub-result c = minus_fits (one c.requires.0.0 c.requires.1.1) (one c.requires.0.1 c.requires.1.0) (lit≤ tt)

pub returns : goal.returns
returns c =
    let t = minus (one c.requires.0.0 c.requires.1.1) (one c.requires.0.1 c.requires.1.0) (lit≤ tt) in
    (t.is, read_sized (resized t (low_part_sized c.requires.0.0 c.requires.0.1 c.requires.1.0 c.requires.1.1)))
