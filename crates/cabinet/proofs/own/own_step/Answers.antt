-- `cabinet::own::own_step` meets its contract. Assumes nothing.
use mathlib.Core.Path.{◌≡◌, refl, sym, ◌∙◌}
use mathlib.Core.Bool.{true, true≢false}
use native.Mathlib.Omega.{arith}
use borrow.Author.Tests.{not-true, not-false}
use Rattle.lists.proofs.JoinedTests.{test_passed, test_failed}
use Rattle.tree_query.proofs.Queries.{fits_room}
use Rattle.cabinet.specs.Found.{says_state}
use Rattle.cabinet.proofs.PartSteps.{triangles_few, nodes_few, step_bad, step_short, step_looks, step_casts, spent_fits}
use Rattle.cabinet.proofs.own.own_step.Goals as goal

-- lengths that are not admitted: 2
pub returns-then-not-shape_admitted : goal.returns-then-not-shape_admitted
returns-then-not-shape_admitted c = (
  step_bad _ _ _ _ _ _ (test_failed c.shape_admitted.ensures c.if-not-shape_admitted.true) _ c.refuse_with.ensures,
  λ _.
      (refl, refl),
)

pub walk_fits-requires : goal.walk_fits-requires
walk_fits-requires c = triangles_few _ _ _ (test_passed c.shape_admitted.ensures c.if-not-shape_admitted.false)

-- an area that is too short: 3
pub returns-then-not-walk_fits : goal.returns-then-not-walk_fits
returns-then-not-walk_fits c = (
  step_short _ _ _ _ _ _ (test_passed c.shape_admitted.ensures c.if-not-shape_admitted.false)
      (test_failed c.walk_fits.ensures c.if-not-walk_fits.true) _ c.refuse_with-then-not-walk_fits.ensures,
  λ _. (refl, refl),
)

-- the first pass does no more
pub returns-then-not-s : goal.returns-then-not-s
returns-then-not-s c = (
  step_looks _ _ _ _ _ _ (test_passed c.shape_admitted.ensures c.if-not-shape_admitted.false)
      (test_passed c.walk_fits.ensures c.if-not-walk_fits.false) (not-true _ c.if-not-s.true),
  λ _. (refl, refl),
)

pub cast_moved-cost-requires : goal.cast_moved-cost-requires
cast_moved-cost-requires c =
    fits_room _ _ _ _ (nodes_few _ _ _ (test_passed c.shape_admitted.ensures c.if-not-shape_admitted.false))
    (test_passed c.walk_fits.ensures c.if-not-walk_fits.false)

-- the sum of the nodes spent fits a word: it is at most the limit
pub after_part-requires : goal.after_part-requires
after_part-requires c =
    spent_fits (says_state c.args.s) _ _ _ _ _ c.saturating_sub-left.ensures c.cast_moved-cost.result c.cast_moved-cost.ensures
    (omega (arith, c.well_formed)) (omega (arith, c.well_formed))

-- the second pass casts
pub returns : goal.returns
returns c =
    let casts : c.args.s.casting ≡ true = not-false _ c.if-not-s.false in (
      step_casts _ _ _ _ _ (says_state c.args.s) (test_passed c.shape_admitted.ensures c.if-not-shape_admitted.false)
          (test_passed c.walk_fits.ensures c.if-not-walk_fits.false) casts _ _ c.saturating_sub-left.ensures c.cast_moved-cost.result
          c.cast_moved-cost.ensures c.after_part.ensures,
      λ h. absurd (true≢false (sym casts ∙ h)),
    )
