-- `exact_depth::orientation::middle_part` meets its contract. Assumes nothing.
use lib.Dec.{lit≤}
use lib.IntN.{◌+ℤ◌, ◌*ℤ◌}
use Rattle.wide_integers.proofs.Reading.{bits}
use Rattle.exact_depth.specs.declared.orientation.Limbs.{Limbs}
use Rattle.exact_depth.specs.Orientation.{LimbsSized}
use Rattle.exact_depth.proofs.Terms.{Term, term, times, times_fits, plus, plus_fits, minus, minus_fits, read_sized}
use Rattle.exact_depth.proofs.orientation.middle_part.Goals as goal

-- p's upper half times q's lower one, and the other way round
abbrev first : {p q : Limbs} → LimbsSized p → LimbsSized q
    → Term (bits (bits p.high *ℤ bits q.low)) (p.high *ℤ q.low) 2305843008139952128
first h g = times (term h.high (lit≤ tt)) (term g.low (lit≤ tt)) (lit≤ tt)

abbrev second : {p q : Limbs} → LimbsSized p → LimbsSized q
    → Term (bits (bits p.low *ℤ bits q.high)) (p.low *ℤ q.high) 2305843008139952128
second h g = times (term h.low (lit≤ tt)) (term g.high (lit≤ tt)) (lit≤ tt)

abbrev both : {p q : Limbs} → LimbsSized p → LimbsSized q
    → Term (bits (bits (bits p.high *ℤ bits q.low) +ℤ bits (bits p.low *ℤ bits q.high)))
    (p.high *ℤ q.low +ℤ p.low *ℤ q.high) 4611686016279904256
both h g = plus (first h g) (second h g) (lit≤ tt)

pub overflow_mul-result : goal.overflow_mul-result
overflow_mul-result c = times_fits (term c.requires.0.0.high (lit≤ tt)) (term c.requires.1.1.low (lit≤ tt)) (lit≤ tt)

pub overflow_mul-result-2 : goal.overflow_mul-result-2
overflow_mul-result-2 c = times_fits (term c.requires.0.0.low (lit≤ tt)) (term c.requires.1.1.high (lit≤ tt)) (lit≤ tt)

pub overflow_add-result : goal.overflow_add-result
overflow_add-result c = plus_fits (first c.requires.0.0 c.requires.1.1) (second c.requires.0.0 c.requires.1.1) (lit≤ tt)

pub overflow_mul-result-3 : goal.overflow_mul-result-3
overflow_mul-result-3 c = times_fits (term c.requires.0.1.high (lit≤ tt)) (term c.requires.1.0.low (lit≤ tt)) (lit≤ tt)

pub overflow_mul-result-4 : goal.overflow_mul-result-4
overflow_mul-result-4 c = times_fits (term c.requires.0.1.low (lit≤ tt)) (term c.requires.1.0.high (lit≤ tt)) (lit≤ tt)

pub overflow_add-result-2 : goal.overflow_add-result-2
overflow_add-result-2 c = plus_fits (first c.requires.0.1 c.requires.1.0) (second c.requires.0.1 c.requires.1.0) (lit≤ tt)

pub overflow_sub-result : goal.overflow_sub-result
overflow_sub-result c = minus_fits (both c.requires.0.0 c.requires.1.1) (both c.requires.0.1 c.requires.1.0) (lit≤ tt)

pub returns : goal.returns
returns c =
    let t = minus (both c.requires.0.0 c.requires.1.1) (both c.requires.0.1 c.requires.1.0) (lit≤ tt) in
    (t.is, read_sized t)
