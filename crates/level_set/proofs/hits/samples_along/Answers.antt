-- `level_set::hits::samples_along` meets its contract. Assumes nothing.
use Rattle.std.proofs.Common.{◌<◌, ◌≢◌, ◌∙◌, length, arith, get_or-set_other, get_or-set_same, length-set, below_more}
use Rattle.level_set.proofs.SampleLaws.{sample_at, sample_found, all_taken, first_refused, samples_by}
use Rattle.level_set.proofs.hits.samples_along.Goals as goal

-- a value that is refused is the first that is
pub returns-in_err-samples : goal.returns-in_err-samples
returns-in_err-samples c =
    let found = sample_found c.args.ray c.args.field.now.grid c.args.field.now.values.now c.args.current c.args.end _ _ _ _
    c.fraction.ensures
    c.along-distance.ensures c.in_err-samples.ensures in
    rw c.from_residual.ensures
    (samples_by c.args.ray c.args.field.now.grid c.args.field.now.values.now c.args.current c.args.end _
    (first_refused (sample_at c.args.ray c.args.field.now.grid c.args.field.now.values.now c.args.current c.args.end) c.loop-i.samples _ _
    c.loop-i-test.true c.loop-i.invariant.taken found))

pub loop-i-preserved : goal.loop-i-preserved
loop-i-preserved c =
    let found = sample_found c.args.ray c.args.field.now.grid c.args.field.now.values.now c.args.current c.args.end _ _ _ _
    c.fraction.ensures
    c.along-distance.ensures c.in_ok-samples.ensures in
    record {
      four = length-set _ _ _ ∙ c.loop-i.invariant.four;
      taken = below_more _ _
          (λ k h. let ne : k ≢ c.loop-i.i = omega arith in rw get_or-set_other (c.loop-i.invariant.taken k h))
          (let lt : c.loop-i.i < length c.loop-i.samples = omega (arith, c.loop-i.invariant.four, c.loop-i-test.true) in
          rw get_or-set_same found);
    }

-- all four were taken
pub returns : goal.returns
returns c =
    samples_by c.args.ray c.args.field.now.grid c.args.field.now.values.now c.args.current c.args.end _
    (all_taken (sample_at c.args.ray c.args.field.now.grid c.args.field.now.values.now c.args.current c.args.end) c.loop-i.samples
    (λ k h. c.loop-i.invariant.taken k (omega arith)))
