-- `mesh::candidates::nearest_of` meets its contract: nobody, the lowest that refuses, or the nearest that is hit. Assumes nothing.
use Rattle.std.proofs.Common.{Ok, ap, ◌∙◌, arith}
use Rattle.std.proofs.lemmas.Result.{err_from_is_err_and}
use Rattle.nearest_hit.specs.Summary.{says_outcome}
use Rattle.tree.proofs.Corners.{hit_inside, hit_answer, answers_are_numbers}
use Rattle.mesh.proofs.Folding.{nobody_wins, refusal_wins, hit_wins, winner_reached}
use Rattle.mesh.proofs.candidates.nearest_of.Goals as goal

-- a refusal
pub returns-in_err-winner : goal.returns-in_err-winner
returns-in_err-winner c =
    let p = err_from_is_err_and c.from_residual.result c.from_residual.ensures.1 in
    rw (p.1, p.2) (refusal_wins _ (answers_are_numbers _ _ _) _ _ c.note_all-notes.ensures _ c.winner.ensures _
    (ap says_outcome c.in_err-winner.was))

-- nobody
pub returns-in_default : goal.returns-in_default
returns-in_default c =
    nobody_wins _ (answers_are_numbers _ _ _) _ _ c.note_all-notes.ensures _ c.winner.ensures
    (ap says_outcome (c.in_ok-winner.was ∙ ap Ok c.in_default.is))

-- a hit: its triangle is one of the list
pub corners_of-corners-requires : goal.corners_of-corners-requires
corners_of-corners-requires c =
    let reached = winner_reached _ (answers_are_numbers _ _ _) _ _ c.note_all-notes.ensures _ c.winner.ensures _ _
    (ap says_outcome (c.in_ok-winner.was ∙ ap Ok c.in-Some.is)) _ c.requires.1 in
    (omega (arith, reached.0), hit_inside _ _ _ _ _ reached.1)

pub returns : goal.returns
returns c =
    let reached = winner_reached _ (answers_are_numbers _ _ _) _ _ c.note_all-notes.ensures _ c.winner.ensures _ _
    (ap says_outcome (c.in_ok-winner.was ∙ ap Ok c.in-Some.is)) _ c.requires.1 in
    hit_wins _ (answers_are_numbers _ _ _) _ _ c.note_all-notes.ensures _ c.winner.ensures _ _
    (ap says_outcome (c.in_ok-winner.was ∙ ap Ok c.in-Some.is)) _
    (c.hit_at-hit.ensures ∙ hit_answer _ _ _ _ _ reached.1 _ c.corners_of-corners.ensures) _ c.next.ensures
