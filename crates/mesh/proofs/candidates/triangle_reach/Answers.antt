-- `mesh::candidates::triangle_reach` meets its contract: an index past the vertices is 5, and else the first test tells which way on.
-- Assumes nothing.
use Rattle.std.proofs.Common.{Ok, ap, ◌∙◌}
use Rattle.std.proofs.lemmas.Result.{err_from_is_err_and}
use Rattle.casts.specs.Reach.{reach_of}
use Rattle.lists.proofs.JoinedTests.{test_passed, test_failed}
use Rattle.mesh.proofs.Reaching.{outside_refused, start_answers}
use Rattle.mesh.proofs.candidates.triangle_reach.Goals as goal

-- an index lies past the vertices
pub returns-then-not-corners_inside : goal.returns-then-not-corners_inside
returns-then-not-corners_inside c = outside_refused _ _ _ _ (test_failed c.corners_inside.ensures c.if-not-corners_inside.true)

-- a refusal
pub returns-in_err-within : goal.returns-in_err-within
unfolding reach_of
returns-in_err-within c =
    let inside = test_passed c.corners_inside.ensures c.if-not-corners_inside.false in
    let p = err_from_is_err_and c.from_residual.result c.from_residual.ensures.1 in
    rw (p.1, p.2) (start_answers _ _ _ _ _ _ _ c.crossing.ensures c.corners_of.ensures inside c.in_err-within.was)

-- a miss
pub returns-in_default : goal.returns-in_default
unfolding reach_of
returns-in_default c =
    start_answers _ _ _ _ _ _ _ c.crossing.ensures c.corners_of.ensures
    (test_passed c.corners_inside.ensures c.if-not-corners_inside.false) (c.in_ok-within.was ∙ ap Ok c.in_default.is)

-- the crossing lies within: what is left of the tests
pub returns : goal.returns
returns c =
    c.reach_within.ensures ∙ start_answers _ _ _ _ _ _ _ c.crossing.ensures c.corners_of.ensures
    (test_passed c.corners_inside.ensures c.if-not-corners_inside.false) (c.in_ok-within.was ∙ ap Ok c.in-Some.is)
