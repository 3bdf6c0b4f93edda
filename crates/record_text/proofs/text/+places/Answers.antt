-- No digit where none may be counted, one where the number is below ten, else one more than its tenth has.
use Rattle.std.proofs.Common.{ℕ, ◌+◌, ◌-◌, ◌/◌, ap, ◌∙◌, arith}
use Rattle.record_text.proofs.Places.{places_none, places_one, places_next, places_at_most}
use Rattle.record_text.proofs.text.+places.Goals as goal

pub returns-then-most-eq0 : goal.returns-then-most-eq0
returns-then-most-eq0 t c = places_none _ _ c.if-most-eq0.true

pub returns-then-n-lt10 : goal.returns-then-n-lt10
returns-then-n-lt10 t c = places_one _ _ c.if-most-eq0.false c.if-n-lt10.true

pub overflow_add-result : goal.overflow_add-result
overflow_add-result t c = omega (arith, c.places.ensures, places_at_most (c.args.most - 1) (c.args.n / 10))

pub returns : goal.returns
returns t c = ap (λ (k : ℕ). k + 1) c.places.ensures ∙ places_next _ _ c.if-most-eq0.false c.if-n-lt10.false
