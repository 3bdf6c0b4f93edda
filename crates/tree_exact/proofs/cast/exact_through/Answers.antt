-- `tree_exact::cast::exact_through` meets its contract. Assumes nothing.
use mathlib.Core.Path.{refl, ap, ◌∙◌}
use Rattle.std.specs.Prelude.{Option, Ok}
use Rattle.nearest_hit.specs.Summary.{says_outcome}
use Rattle.nearest_hit.specs.declared.summary.IndexedReach.{IndexedReach}
use Rattle.std.proofs.lemmas.Result.{err_from_is_err_and}
use native.Mathlib.Omega.{arith}
use Rattle.tree.specs.Layout.{tree_of}
use Rattle.tree_exact.specs.Walking.{WalkedBy}
use Rattle.mesh_exact.proofs.Reaching.{hit_inside, hit_answer}
use Rattle.tree_exact.proofs.Casting.{through_broken, through_nobody, through_refused, through_reached, through_hit}
use Rattle.tree_exact.proofs.cast.exact_through.Goals as goal

pub segment_box-reach-requires : goal.segment_box-reach-requires
segment_box-reach-requires c = c.requires.0.1

pub misses_root-requires : goal.misses_root-requires
misses_root-requires c = c.requires.1.0.boxed

-- far off
pub returns-then-misses_root : goal.returns-then-misses_root
returns-then-misses_root c =
    let v = c.args in
    let tree = tree_of v.nodes v.node_boxes.now v.triangle_boxes.now v.node_words.now v.order.now in
    (c.misses_root.ensures c.if-misses_root.true).missed c.args.ray c.segment_box-reach.ensures _ _ tree refl refl

pub nearest_along-walked-requires : goal.nearest_along-walked-requires
nearest_along-walked-requires c = ((c.requires.0, c.segment_box-reach.ensures), c.requires.1)

-- the walk met a 5
pub returns-in_default : goal.returns-in_default
returns-in_default c =
    let v = c.args in
    let tree = tree_of v.nodes v.node_boxes.now v.triangle_boxes.now v.node_words.now v.order.now in
    let walked : WalkedBy v.ray v.pose.now v.triangles.now tree c.nearest_along-walked.result =
    c.nearest_along-walked.ensures.holds tree (record { counted = refl; boxed = refl; worded = refl; ordered = refl }) in
    through_broken _ _ _ _ _ walked c.in_default.is

-- nobody
pub returns-in_default-2 : goal.returns-in_default-2
returns-in_default-2 c =
    let v = c.args in
    let tree = tree_of v.nodes v.node_boxes.now v.triangle_boxes.now v.node_words.now v.order.now in
    let walked : WalkedBy v.ray v.pose.now v.triangles.now tree c.nearest_along-walked.result =
    c.nearest_along-walked.ensures.holds tree (record { counted = refl; boxed = refl; worded = refl; ordered = refl }) in
    through_nobody _ _ _ _ _ walked _ c.in-Some.is _ c.winner.ensures
    (ap says_outcome c.in_ok-winner.was ∙ ap (λ (x : Option IndexedReach). says_outcome (Ok x)) c.in_default-2.is)

-- a refusal
pub returns-in_err-winner : goal.returns-in_err-winner
returns-in_err-winner c =
    let v = c.args in
    let tree = tree_of v.nodes v.node_boxes.now v.triangle_boxes.now v.node_words.now v.order.now in
    let walked : WalkedBy v.ray v.pose.now v.triangles.now tree c.nearest_along-walked.result =
    c.nearest_along-walked.ensures.holds tree (record { counted = refl; boxed = refl; worded = refl; ordered = refl }) in
    let p = err_from_is_err_and c.from_residual.result c.from_residual.ensures.1 in
    rw (p.1, p.2) (through_refused _ _ _ _ _ walked _ c.in-Some.is _ c.winner.ensures _ (ap says_outcome c.in_err-winner.was))

-- a hit: its triangle is one that was reached
pub corners_of-corners-requires : goal.corners_of-corners-requires
corners_of-corners-requires c =
    let v = c.args in
    let tree = tree_of v.nodes v.node_boxes.now v.triangle_boxes.now v.node_words.now v.order.now in
    let walked : WalkedBy v.ray v.pose.now v.triangles.now tree c.nearest_along-walked.result =
    c.nearest_along-walked.ensures.holds tree (record { counted = refl; boxed = refl; worded = refl; ordered = refl }) in
    let e = ap says_outcome c.in_ok-winner.was ∙ ap (λ (x : Option IndexedReach). says_outcome (Ok x)) c.in-Some-2.is in
    let reached = through_reached _ _ _ _ _ walked _ c.in-Some.is _ c.winner.ensures _ _ e in
    (omega (arith, reached.0), hit_inside v.ray _ _ _ c.requires.0.0 c.requires.0.1 _ reached.1)

pub returns : goal.returns
returns c =
    let v = c.args in
    let tree = tree_of v.nodes v.node_boxes.now v.triangle_boxes.now v.node_words.now v.order.now in
    let walked : WalkedBy v.ray v.pose.now v.triangles.now tree c.nearest_along-walked.result =
    c.nearest_along-walked.ensures.holds tree (record { counted = refl; boxed = refl; worded = refl; ordered = refl }) in
    let e = ap says_outcome c.in_ok-winner.was ∙ ap (λ (x : Option IndexedReach). says_outcome (Ok x)) c.in-Some-2.is in
    let reached = through_reached _ _ _ _ _ walked _ c.in-Some.is _ c.winner.ensures _ _ e in
    through_hit _ _ _ _ _ walked _ c.in-Some.is _ c.winner.ensures _ _ e _
    (c.hit_on-hit.ensures ∙ hit_answer v.ray _ _ _ c.requires.0.0 c.requires.0.1 _ reached.1 _ c.corners_of-corners.ensures) _
    c.next.ensures
