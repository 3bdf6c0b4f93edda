-- `mesh_exact::cast::over_triangles` meets its contract: a refusal, nobody, or the hit of the winner. Assumes nothing.
use Rattle.std.specs.Prelude.{Option, Ok}
use mathlib.Core.Path.{ap, ◌∙◌}
use Rattle.nearest_hit.specs.Summary.{says_outcome}
use Rattle.nearest_hit.specs.declared.summary.IndexedReach.{IndexedReach}
use Rattle.std.proofs.lemmas.Result.{err_from_is_err_and}
use native.Mathlib.Omega.{arith}
use Rattle.tree.specs.Mesh.{Mesh, mesh}
use Rattle.mesh_exact.proofs.Noting.{unfit_over, nobody_won, refusal_won, hit_won}
use Rattle.mesh_exact.proofs.Reaching.{hit_inside, hit_answer}
use Rattle.mesh_exact.proofs.cast.over_triangles.Goals as goal

pub boxes_hold-requires : goal.boxes_hold-requires
boxes_hold-requires c = (c.requires.0, c.all_within-within.ensures)

-- a triangle without a valid box
pub returns-then-not-boxes_hold : goal.returns-then-not-boxes_hold
returns-then-not-boxes_hold c =
    let own : Mesh =
    mesh c.args.vertices.now c.args.triangles.now in
    unfit_over c.args.ray own (c.boxes_hold.ensures.triangles_value c.if-not-boxes_hold.true)

pub winner_of-requires : goal.winner_of-requires
winner_of-requires c = (
  c.requires.0,
  (
    c.requires.1.casts.shown.view_sized,
    (c.boxes_hold.ensures.boxes_hold c.if-not-boxes_hold.false, (c.all_within-within.ensures, c.coded-coded.ensures)),
  ),
)

-- nobody
pub returns-in_default : goal.returns-in_default
returns-in_default c =
    nobody_won c.args.ray (mesh c.args.vertices.now c.args.triangles.now) _ (c.winner_of.ensures _ c.requires.1)
    (ap says_outcome c.in_ok-winner.was ∙ ap (λ (x : Option IndexedReach). says_outcome (Ok x)) c.in_default.is)

-- a refusal
pub returns-in_err-winner : goal.returns-in_err-winner
returns-in_err-winner c =
    let p = err_from_is_err_and c.from_residual.result c.from_residual.ensures.1 in
    rw (p.1, p.2) (refusal_won c.args.ray (mesh c.args.vertices.now c.args.triangles.now) _ (c.winner_of.ensures _ c.requires.1) _
    (ap says_outcome c.in_err-winner.was))

-- a hit: its triangle is one of the mesh's
pub corners_of-corners-requires : goal.corners_of-corners-requires
corners_of-corners-requires c =
    let h = c.requires.1.casts in
    let e = ap says_outcome c.in_ok-winner.was ∙ ap (λ (x : Option IndexedReach). says_outcome (Ok x)) c.in-Some.is in
    let reached = (c.winner_of.ensures _ c.requires.1).reached _ _ e in
    (omega (arith, reached.0), hit_inside c.args.ray _ _ _ h.valid h.shown.admitted _ reached.1)

pub returns : goal.returns
returns c =
    let g = c.requires.1.casts in
    let won = c.winner_of.ensures _ c.requires.1 in
    let e = ap says_outcome c.in_ok-winner.was ∙ ap (λ (x : Option IndexedReach). says_outcome (Ok x)) c.in-Some.is in
    let reached = won.reached _ _ e in
    hit_won c.args.ray (mesh c.args.vertices.now c.args.triangles.now) _ won _ _ e _
    (c.hit_on-hit.ensures
    ∙ hit_answer c.args.ray _ _ _ g.valid g.shown.admitted _ reached.1 _ c.corners_of-corners.ensures) _
    c.next.ensures
