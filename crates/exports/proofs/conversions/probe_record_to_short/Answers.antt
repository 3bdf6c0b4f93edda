-- `exports::conversions::probe_record_to_short` meets its contract. Assumes nothing.
use Rattle.float_forms.specs.declared.forms.Form.TheVariants.{Long, Short}
use Rattle.exports.proofs.ConversionCalls.{no_place, has_place, converted_count}
use mathlib.Core.Path.{◌∙◌}
use Rattle.exports.proofs.conversions.probe_record_to_short.Goals as goal

-- the length has no place
pub returns-then-written-lt1 : goal.returns-then-written-lt1
returns-then-written-lt1 c =
    let a = c.args in
    no_place Long Short a.bytes.now a.out.now a.written.now _ c.if-written-lt1.true
    (c.into.ensures ∙ c.without_place.ensures)

-- the converter's answer, told
pub returns : goal.returns
returns c =
    let a = c.args in
    has_place Long Short a.bytes.now a.out.now a.written.now _ _ _ c.if-written-lt1.false c.to_short-converted.ensures
    (c.put_count.ensures.nodes ∙ converted_count _ _)
