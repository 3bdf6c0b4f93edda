-- The refusals in their order, then the step over the part's own areas. Assumes nothing.
use Rattle.std.proofs.Common.{refl, sym, ◌∙◌}
use Rattle.lists.proofs.JoinedTests.{test_passed, test_failed}
use Rattle.cabinet.proofs.PartSteps.{inside_is, idle_looks, part_over, part_leaves, part_steps}
use Rattle.cabinet_passes.proofs.step.cast_part.Goals as goal

-- after a refusal nothing is done
pub returns-then-is_over : goal.returns-then-is_over
returns-then-is_over c = (part_over _ _ _ _ _ (sym c.is_over.ensures ∙ c.if-is_over.true), λ _. (refl, refl))

-- a range that leaves its area: 2
pub returns-then-not-ranges_inside : goal.returns-then-not-ranges_inside
returns-then-not-ranges_inside c = (
  part_leaves _ _ _ _ _ (sym c.is_over.ensures ∙ c.if-is_over.false)
      (test_failed (rw c.lengths.ensures at c.ranges_inside.ensures) c.if-not-ranges_inside.true) _ c.refuse_with.ensures,
  λ _. (refl, refl),
)

-- every range stays in its area
pub of-requires : goal.of-requires
of-requires c =
    let inside = inside_is _ _ _ _ _ _ _ (test_passed (rw c.lengths.ensures at c.ranges_inside.ensures) c.if-not-ranges_inside.false) in
    inside.vertices

pub of-requires-2 : goal.of-requires-2
of-requires-2 c =
    let inside = inside_is _ _ _ _ _ _ _ (test_passed (rw c.lengths.ensures at c.ranges_inside.ensures) c.if-not-ranges_inside.false) in
    inside.triangles

pub of-requires-3 : goal.of-requires-3
of-requires-3 c =
    let inside = inside_is _ _ _ _ _ _ _ (test_passed (rw c.lengths.ensures at c.ranges_inside.ensures) c.if-not-ranges_inside.false) in
    inside.node_boxes

pub of-requires-4 : goal.of-requires-4
of-requires-4 c =
    let inside = inside_is _ _ _ _ _ _ _ (test_passed (rw c.lengths.ensures at c.ranges_inside.ensures) c.if-not-ranges_inside.false) in
    inside.triangle_boxes

pub of-requires-5 : goal.of-requires-5
of-requires-5 c =
    let inside = inside_is _ _ _ _ _ _ _ (test_passed (rw c.lengths.ensures at c.ranges_inside.ensures) c.if-not-ranges_inside.false) in
    inside.node_words

pub of-requires-6 : goal.of-requires-6
of-requires-6 c =
    let inside = inside_is _ _ _ _ _ _ _ (test_passed (rw c.lengths.ensures at c.ranges_inside.ensures) c.if-not-ranges_inside.false) in
    inside.order

-- the step over the part's own areas, which writes to no work area where the pass looks only
pub returns : goal.returns
returns c =
    let goes = sym c.is_over.ensures ∙ c.if-is_over.false in
    let passed = test_passed (rw c.lengths.ensures at c.ranges_inside.ensures) c.if-not-ranges_inside.false in
    let told = rw (c.of.ensures, c.of-2.ensures, c.of-3.ensures, c.of-4.ensures, c.of-5.ensures, c.of-6.ensures) at c.own_step.ensures in
    (part_steps _ _ _ _ _ goes passed _ told.0, λ idle. told.1 (idle_looks _ idle goes))
