-- The refusals in their order, then the cast; the numbers of the ray and of both slices are f64. Assumes nothing.
use Rattle.std.proofs.Common.{ℕ, sym}
use Rattle.casts.specs.Answer.{invalid_input, bad_shape}
use Rattle.height_ranges.specs.Answer.{says, refused}
use Rattle.height_ranges.specs.RangesCast.{ray_height_ranges}
use Rattle.height_ranges.proofs.Doubles.{Double, double, Typed}
use Rattle.height_ranges.proofs.Promise.{with_promise}
use Rattle.lists.proofs.JoinedTests.{test_passed, test_failed}
use Rattle.height_ranges.proofs.cast.ray_height_ranges.Goals as goal

-- 1
pub returns-then-not-validate : goal.returns-then-not-validate
unfolding ray_height_ranges
returns-then-not-validate c =
    let a = c.args in
    let origin-double : Double a.ray.origin.z = search in
    let typed : Typed a.ray a.lows.now a.highs.now = record {
      origin = origin-double;
      low_doubles = λ (node : ℕ). double _ (c.type_inv.lows node);
      high_doubles = λ (node : ℕ). double _ (c.type_inv.highs node);
    } in
    let both = with_promise a.ray a.field a.lows.now a.highs.now typed (refused invalid_input)
    (simp (test_failed c.validate.ensures c.if-not-validate.true)) in
    record { result_value = both.0; meets_promise = both.1 }

-- 2
pub returns-then-not-ranges_admitted : goal.returns-then-not-ranges_admitted
unfolding ray_height_ranges
returns-then-not-ranges_admitted c =
    let a = c.args in
    let origin-double : Double a.ray.origin.z = search in
    let typed : Typed a.ray a.lows.now a.highs.now = record {
      origin = origin-double;
      low_doubles = λ (node : ℕ). double _ (c.type_inv.lows node);
      high_doubles = λ (node : ℕ). double _ (c.type_inv.highs node);
    } in
    let both = with_promise a.ray a.field a.lows.now a.highs.now typed (refused bad_shape)
    (simp (
      test_passed c.validate.ensures c.if-not-validate.false,
      test_failed c.ranges_admitted.ensures c.if-not-ranges_admitted.true,
    )) in
    record { result_value = both.0; meets_promise = both.1 }

pub ranges_cast-requires : goal.ranges_cast-requires
ranges_cast-requires c = (
  test_passed c.validate.ensures c.if-not-validate.false,
  test_passed c.ranges_admitted.ensures c.if-not-ranges_admitted.false,
)

-- the cast
pub returns : goal.returns
unfolding ray_height_ranges
returns c =
    let a = c.args in
    let origin-double : Double a.ray.origin.z = search in
    let typed : Typed a.ray a.lows.now a.highs.now = record {
      origin = origin-double;
      low_doubles = λ (node : ℕ). double _ (c.type_inv.lows node);
      high_doubles = λ (node : ℕ). double _ (c.type_inv.highs node);
    } in
    let both = with_promise a.ray a.field a.lows.now a.highs.now typed (says c.ranges_cast.result)
    (simp (
      test_passed c.validate.ensures c.if-not-validate.false,
      test_passed c.ranges_admitted.ensures c.if-not-ranges_admitted.false,
      sym c.ranges_cast.ensures,
    )) in
    record { result_value = both.0; meets_promise = both.1 }
