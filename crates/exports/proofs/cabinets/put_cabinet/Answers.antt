-- `exports::cabinets::put_cabinet` meets its contract. Assumes nothing.
use Rattle.lists.proofs.JoinedTests.{test_passed, test_failed}
use borrow.Author.Tests.{eq-eqb, ne_eqb}
use native.Mathlib.Omega.{arith}
use Rattle.exports.proofs.CabinetAnswers.{places_there}
use Rattle.exports.proofs.CabinetAnswers.{none_short, none_returned, hit_short}
use Rattle.exports.proofs.CabinetAnswers.{hit_told, refused_early, refused_short, refused_returned}
use Rattle.cabinet.specs.Found.{says_found, says_progress}
use mathlib.Core.Path.{ap, ◌∙◌}
use Rattle.std.specs.Prelude.{Ok}
use Rattle.exports.proofs.cabinets.put_cabinet.Goals as goal

-- nothing was met, and the result slices are too short
pub returns-then-not-fits : goal.returns-then-not-fits
returns-then-not-fits c =
    rw c.into.ensures
    (none_short (says_progress c.args.end.at) _ _ _ _ _ (test_failed c.results_fit-fits.ensures c.if-not-fits.true)
    (ap says_found (c.in-Ok.is ∙ ap Ok c.in-None.is)))

pub bounds-spent-0 : goal.bounds-spent-0
bounds-spent-0 c =
    let p = places_there _ _ _ _ (test_passed c.results_fit-fits.ensures c.if-not-fits.false) in
    omega (arith, p.spent)

pub returns-in-None : goal.returns-in-None
returns-in-None c = none_returned (says_progress c.args.end.at) _ _ _ _ _ (test_passed c.results_fit-fits.ensures c.if-not-fits.false)
    (ap says_found (c.in-Ok.is ∙ ap Ok c.in-None.is))

-- a hit
pub returns-then-not-fits-2 : goal.returns-then-not-fits-2
returns-then-not-fits-2 c =
    rw c.into-then-not-fits-2.ensures
    (hit_short (says_progress c.args.end.at) _ _ _ _ _ _ _ _ (ap says_found (c.in-Ok.is ∙ ap Ok c.in-Some.is)) _
    (test_failed c.results_fit-fits.ensures c.if-not-fits-2.true))

pub put_hit-requires : goal.put_hit-requires
put_hit-requires c =
    let p = places_there _ _ _ _ (test_passed c.results_fit-fits.ensures c.if-not-fits-2.false) in
    omega (arith, p.hit)

pub bounds-index-0 : goal.bounds-index-0
bounds-index-0 c =
    let p = places_there _ _ _ _ (test_passed c.results_fit-fits.ensures c.if-not-fits-2.false) in
    omega (arith, p.index)

pub bounds-part-0 : goal.bounds-part-0
bounds-part-0 c =
    let p = places_there _ _ _ _ (test_passed c.results_fit-fits.ensures c.if-not-fits-2.false) in
    omega (arith, p.part)

pub bounds-spent-0-in-Some : goal.bounds-spent-0-in-Some
bounds-spent-0-in-Some c =
    let p = places_there _ _ _ _ (test_passed c.results_fit-fits.ensures c.if-not-fits-2.false) in
    omega (arith, p.spent)

pub returns-in-Some : goal.returns-in-Some
returns-in-Some c =
    simp c.put_hit.ensures
    (hit_told (says_progress c.args.end.at) _ _ _ _ _ _ _ _ (ap says_found (c.in-Ok.is ∙ ap Ok c.in-Some.is)) _
    (test_passed c.results_fit-fits.ensures c.if-not-fits-2.false))

-- a refusal before a part was begun, and one after
pub returns-then-at-eq0 : goal.returns-then-at-eq0
returns-then-at-eq0 c =
    rw c.into-then-at-eq0.ensures
    (refused_early (says_progress c.args.end.at) _ _ _ _ _ (ap says_found c.in-Err.is) _ (eq-eqb _ _ c.if-at-eq0.true))

pub returns-then-not-fits-3 : goal.returns-then-not-fits-3
returns-then-not-fits-3 c =
    rw c.into-then-not-fits-3.ensures
    (refused_short (says_progress c.args.end.at) _ _ _ _ _ (ap says_found c.in-Err.is) _ (test_failed c.results_fit-fits.ensures
    c.if-not-fits-3.true)
    (ne_eqb _ _ c.if-at-eq0.false))

pub bounds-spent-0-in-Err : goal.bounds-spent-0-in-Err
bounds-spent-0-in-Err c =
    let p = places_there _ _ _ _ (test_passed c.results_fit-fits.ensures c.if-not-fits-3.false) in
    omega (arith, p.spent)

pub returns-in-Err : goal.returns-in-Err
returns-in-Err c =
    rw c.into-in-Err.ensures
    (refused_returned (says_progress c.args.end.at) _ _ _ _ _ (ap says_found c.in-Err.is) _ (test_passed c.results_fit-fits.ensures
    c.if-not-fits-3.false)
    (ne_eqb _ _ c.if-at-eq0.false))
