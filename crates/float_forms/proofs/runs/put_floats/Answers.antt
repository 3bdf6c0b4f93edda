-- Each turn writes the next float.
use Rattle.std.proofs.Common.{◌∙◌, ap, refl, arith}
use Rattle.std.specs.Float.Ieee.{to_bits}
use Rattle.float_forms.specs.Forms.{format_of}
use Rattle.float_forms.specs.Representable.{fits_in}
use Rattle.float_forms.proofs.RunSteps.{all_left, one_less, next_fits, write_next, write_done}
use Rattle.float_forms.proofs.runs.put_floats.Goals as goal

pub loop-i-init : goal.loop-i-init
loop-i-init c = rw all_left record {
  enough = c.requires.0;
  room = c.requires.1.0;
  kept = refl;
  all_fit = c.requires.1.1;
  same = refl;
}

pub bits_for-bits-requires : goal.bits_for-bits-requires
bits_for-bits-requires c =
    ap (fits_in c.args.q) c.number_at.ensures
    ∙ next_fits c.args.p c.args.q c.args.source.now _ _ _ _ _ _ (omega arith) c.loop-i.invariant

pub loop-i-preserved : goal.loop-i-preserved
loop-i-preserved c =
    let bits = c.bits_for-bits.ensures.0 ∙ ap (to_bits (format_of c.args.q)) c.number_at.ensures in
    rw (c.size_of-size.ensures, c.size_of-step.ensures, one_less)
    (write_next c.args.p c.args.q c.args.source.now _ _ _ _ _ _ _ _ (omega arith) c.loop-i.invariant bits
    c.put_pattern.ensures)

pub returns : goal.returns
returns c = write_done c.args.p c.args.q c.args.source.now _ _ _ _ _ _ (omega arith) c.loop-i.invariant
