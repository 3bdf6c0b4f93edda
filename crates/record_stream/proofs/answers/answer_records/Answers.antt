-- Each step keeps what is written, and what is left gives the whole.
use Rattle.std.proofs.Common.{ℕ, ◌≡◌, false, sym, subst, ◌∙◌, length, arith}
use Rattle.record_stream.specs.Progress.{goes_on}
use Rattle.record_stream.proofs.LoopLaws.{goes, going_start, going_next, going_less, going_done}
use Rattle.record_stream.proofs.answers.answer_records.Goals as goal

pub loop-areas-init : goal.loop-areas-init
loop-areas-init c = going_start c.args.input.now c.args.ended c.args.number c.args.output.now

pub goes_on-requires : goal.goes_on-requires
goes_on-requires c = (c.loop-areas.invariant.fits, c.loop-areas.invariant.within)

pub step-s-requires : goal.step-s-requires
step-s-requires c =
    let l = c.loop-areas in
    let k = goes l.s c.args.ended c.args.input.now (length l.output) l.invariant.within (sym c.goes_on.ensures ∙ c.loop-areas-test.true) in
    ((l.invariant.within, k.roomy), omega (arith, l.invariant.counted k.untold, l.invariant.within, c.requires))

pub loop-areas-smaller : goal.loop-areas-smaller
loop-areas-smaller c =
    let a = c.args in
    let l = c.loop-areas in
    going_less a.input.now a.ended a.number (length a.output.now) l.output c.step-s.new.output l.s c.step-s.result l.invariant
    (sym c.goes_on.ensures ∙ c.loop-areas-test.true) c.step-s.ensures

pub loop-areas-preserved : goal.loop-areas-preserved
loop-areas-preserved c =
    let a = c.args in
    let l = c.loop-areas in
    going_next a.input.now a.ended a.number (length a.output.now) l.output c.step-s.new.output l.s c.step-s.result l.invariant
    (sym c.goes_on.ensures ∙ c.loop-areas-test.true) c.step-s.ensures c.step-s.auto.output

pub returns : goal.returns
returns c =
    let a = c.args in
    let l = c.loop-areas in
    record {
      answered = going_done a.input.now a.ended a.number (length a.output.now) l.output l.s l.invariant;
      output_value =
          subst (λ (n : ℕ). goes_on l.s a.ended (length a.input.now) n ≡ false) l.invariant.kept
          (sym c.goes_on.ensures ∙ c.loop-areas-test.false);
      filled_in_bounds = omega (arith, l.invariant.fits, l.invariant.kept);
    }
