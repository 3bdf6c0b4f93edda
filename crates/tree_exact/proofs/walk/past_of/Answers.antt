-- `tree_exact::walk::past_of` meets its contract. Assumes nothing.
use mathlib.Core.Path.{◌≡◌, sym, ap, ◌∙◌}
use lib.Dec.{lit≤}
use lib.IntN.{pos}
use Rattle.lists.proofs.JoinedTests.{test_passed, test_failed}
use Rattle.nearest_hit.specs.Summary.{says_chosen_hit}
use Rattle.nearest_hit.specs.declared.summary.IndexedReach.{IndexedReach}
use Rattle.std.specs.Prelude.{Option}
use Prim.Native.Nat.{◌*◌}
use Rattle.exact_triangle.specs.Shear.{gain}
use Rattle.wide_integers.proofs.Reading.{bits, plain, widen, sized_bits}
use Rattle.tree_exact.specs.Opening.{limit_of}
use Rattle.tree_exact.proofs.LimitSteps.{past_fits, past_read, past_sized, past_none, past_long, past_hit}
use Rattle.tree_exact.proofs.walk.past_of.Goals as goal

pub overflow_add-result : goal.overflow_add-result
overflow_add-result c =
    let gain-plain : bits c.args.line.gain ≡ c.args.line.gain =
    plain (widen c.requires.gain (lit≤ tt)) in
    let far-plain : bits c.args.line.far ≡ c.args.line.far =
    plain (widen c.requires.far (lit≤ tt)) in
    past_fits far-plain gain-plain c.requires.far c.requires.gain

-- nothing was hit
pub returns-in_default : goal.returns-in_default
returns-in_default c =
    let gain-plain : bits c.args.line.gain ≡ c.args.line.gain =
    plain (widen c.requires.gain (lit≤ tt)) in
    let far-plain : bits c.args.line.far ≡ c.args.line.far =
    plain (widen c.requires.far (lit≤ tt)) in (
      past_sized far-plain gain-plain c.requires.far c.requires.gain,
      λ l sees.
          past_read far-plain gain-plain c.requires.far c.requires.gain ∙ past_none c.args.line l sees
          ∙ ap (λ (h : Option IndexedReach). pos (limit_of l (says_chosen_hit h) * gain l)) (sym c.in_default.is),
    )

pub overflow_add-result-then-not-within : goal.overflow_add-result-then-not-within
overflow_add-result-then-not-within c =
    let gain-plain : bits c.args.line.gain ≡ c.args.line.gain =
    plain (widen c.requires.gain (lit≤ tt)) in
    let far-plain : bits c.args.line.far ≡ c.args.line.far =
    plain (widen c.requires.far (lit≤ tt)) in
    past_fits far-plain gain-plain c.requires.far c.requires.gain

-- a distance past the longest
pub returns-then-not-within : goal.returns-then-not-within
returns-then-not-within c =
    let gain-plain : bits c.args.line.gain ≡ c.args.line.gain =
    plain (widen c.requires.gain (lit≤ tt)) in
    let far-plain : bits c.args.line.far ≡ c.args.line.far =
    plain (widen c.requires.far (lit≤ tt)) in (
      past_sized far-plain gain-plain c.requires.far c.requires.gain,
      λ l sees.
          past_read far-plain gain-plain c.requires.far c.requires.gain
          ∙ past_long c.args.line l sees _ _ c.in-Some.is (test_failed c.within.ensures c.if-not-within.true),
    )

pub depth_at-requires : goal.depth_at-requires
depth_at-requires c = (test_passed c.within.ensures c.if-not-within.false, sized_bits c.requires.gain (lit≤ tt))

pub overflow_add-result-2 : goal.overflow_add-result-2
overflow_add-result-2 c =
    let gain-plain : bits c.args.line.gain ≡ c.args.line.gain =
    plain (widen c.requires.gain (lit≤ tt)) in
    let h = c.depth_at.ensures in
    past_fits (plain (widen h.1 (lit≤ tt))) gain-plain h.1 c.requires.gain

-- one unit past the nearest hit
pub returns : goal.returns
returns c =
    let gain-plain : bits c.args.line.gain ≡ c.args.line.gain =
    plain (widen c.requires.gain (lit≤ tt)) in
    let h = c.depth_at.ensures in
    let back = plain (widen h.1 (lit≤ tt)) in (
      past_sized back gain-plain h.1 c.requires.gain,
      λ l sees.
          past_read back gain-plain h.1 c.requires.gain
          ∙ past_hit c.args.line l sees _ _ c.in-Some.is (test_passed c.within.ensures c.if-not-within.false) h.0
          gain-plain,
    )
