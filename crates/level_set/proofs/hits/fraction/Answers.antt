-- `level_set::hits::fraction` meets its contract. Assumes nothing.
use Rattle.std.proofs.Common.{sym, ap}
use Rattle.level_set.specs.Hits.{fraction_of}
use Rattle.level_set.proofs.SampleLaws.{fraction_last}
use Rattle.level_set.proofs.hits.fraction.Goals as goal

pub returns-then-index-eq0 : goal.returns-then-index-eq0
unfolding fraction_of
returns-then-index-eq0 c = sym (ap fraction_of c.if-index-eq0.true)

pub returns-then-index-eq1 : goal.returns-then-index-eq1
unfolding fraction_of
returns-then-index-eq1 c = sym (ap fraction_of c.if-index-eq1.true)

pub returns-then-index-eq2 : goal.returns-then-index-eq2
unfolding fraction_of
returns-then-index-eq2 c = sym (ap fraction_of c.if-index-eq2.true)

pub returns : goal.returns
returns c = fraction_last _ c.if-index-eq0.false c.if-index-eq1.false c.if-index-eq2.false
