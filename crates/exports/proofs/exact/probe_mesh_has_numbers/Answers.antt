-- `exports::exact::probe_mesh_has_numbers` meets its contract. Assumes nothing.
use Rattle.exports.proofs.ExactCalls.{numbers_yes, numbers_no}
use Rattle.exports.proofs.exact.probe_mesh_has_numbers.Goals as goal

-- every corner is three numbers
pub returns-then-has_numbers : goal.returns-then-has_numbers
returns-then-has_numbers c =
    let returned = c.has_numbers.ensures in
    numbers_yes _ _ returned.value returned.no_nan c.if-has_numbers.true

-- some corner is not
pub returns : goal.returns
returns c =
    let returned = c.has_numbers.ensures in
    numbers_no _ _ returned.value c.if-has_numbers.false
