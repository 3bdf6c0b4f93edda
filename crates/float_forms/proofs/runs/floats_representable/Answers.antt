-- A float that is not representable decides; after the others the rest does.
use Rattle.std.proofs.Common.{◌∙◌, sym, ap, refl, arith}
use Rattle.float_forms.specs.Representable.{representable}
use Rattle.float_forms.proofs.RunSteps.{all_left, one_less, scan_next, scan_unrepresentable, scan_done}
use Rattle.float_forms.proofs.runs.floats_representable.Goals as goal

pub loop-i-init : goal.loop-i-init
loop-i-init c = rw all_left record { enough = c.requires; same = refl }

pub returns-then-not-is_representable : goal.returns-then-not-is_representable
returns-then-not-is_representable c =
    scan_unrepresentable c.args.p c.args.q c.args.source.now _ _ _ (omega arith) c.loop-i.invariant
    (sym (c.is_representable.ensures ∙ ap (representable c.args.q) c.number_at.ensures) ∙ c.if-not-is_representable.true)

pub loop-i-preserved : goal.loop-i-preserved
loop-i-preserved c =
    rw (c.size_of-size.ensures, one_less)
    (scan_next c.args.p c.args.q c.args.source.now _ _ _ (omega arith) c.loop-i.invariant
    (sym (c.is_representable.ensures ∙ ap (representable c.args.q) c.number_at.ensures) ∙ c.if-not-is_representable.false))

pub returns : goal.returns
returns c = scan_done c.args.p c.args.q c.args.source.now _ _ _ (omega arith) c.loop-i.invariant
