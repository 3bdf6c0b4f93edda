-- `mesh_exact::noted::winner_of` meets its contract. Assumes nothing.
use Prim.Native.Nat.{ℕ, ◌+◌}
use mathlib.Core.Bool.{true}
use mathlib.Core.Path.{sym, ap, subst, ◌∙◌}
use native.Mathlib.Omega.{arith}
use Rattle.geometry.specs.declared.ray.Ray.{Ray}
use Rattle.casts.specs.Answer.{Answer}
use Rattle.nearest_hit.specs.Summary.{says_nearest_so_far}
use Rattle.tree.specs.Mesh.{Mesh, mesh}
use Rattle.lists.proofs.JoinedTests.{test_passed, test_failed}
use Rattle.mesh_plain.proofs.Passing.{fitting_begins, fitting_goes, fitting_fails, fitting_ends, index_unfit, box_tells}
use Rattle.mesh_exact.specs.GridCast.{exact_answer}
use Rattle.mesh_exact.proofs.Looking.{passed_missed}
use Rattle.mesh_exact.proofs.Noting.{Noting, noting_begins, noting_goes, noting_missed, noting_ends, won_past, won_noted}
use Rattle.mesh_exact.proofs.noted.winner_of.Goals as goal
use Rattle.mesh_exact.proofs.noted.winner_of.Goals.{then-looked_at, else-looked_at}

pub loop-i-init : goal.loop-i-init
loop-i-init c =
    let own : Mesh =
    mesh c.args.vertices.now c.args.triangles.now in
    (fitting_begins own, λ r h. noting_begins own _ _ c.empty-notes.ensures)

pub corners_inside-requires : goal.corners_inside-requires
corners_inside-requires c = omega (arith, c.loop-i-test.true)

-- an index past the vertices
pub returns-then-not-corners_inside : goal.returns-then-not-corners_inside
returns-then-not-corners_inside c =
    let own : Mesh =
    mesh c.args.vertices.now c.args.triangles.now in
    let outside = test_failed c.corners_inside.ensures c.if-not-corners_inside.true in
    λ r h. won_past r own
    (sym (fitting_fails own c.loop-i.i c.loop-i.invariant.0 c.loop-i-test.true (index_unfit own c.loop-i.i outside)))

pub looked_at-requires : goal.looked_at-requires
looked_at-requires c =
    ((omega (arith, c.loop-i-test.true), test_passed c.corners_inside.ensures c.if-not-corners_inside.false), c.requires.1.1.1.1)

pub reach_of-reach-requires : goal.reach_of-reach-requires
reach_of-reach-requires c =
    ((omega (arith, c.loop-i-test.true), test_passed c.corners_inside.ensures c.if-not-corners_inside.false), c.requires.1.0)

pub overflow_cast-i : goal.overflow_cast-i
overflow_cast-i c = omega (arith, c.loop-i-test.true, c.requires.0)

-- one more triangle, whose box is valid: noted where it is looked at, and missed where it is not
pub loop-i-preserved : goal.loop-i-preserved
loop-i-preserved c =
    let own : Mesh =
    mesh c.args.vertices.now c.args.triangles.now in
    let answers : Ray → ℕ → Answer =
    λ r. exact_answer r c.args.vertices.now c.args.triangles.now in
    let inside = test_passed c.corners_inside.ensures c.if-not-corners_inside.false in
    let valid = c.requires.1.1.0.each c.loop-i.i c.loop-i-test.true inside in
    let fit = box_tells own c.loop-i.i inside true valid in
    let fitting = fitting_goes own c.loop-i.i c.loop-i.invariant.0 c.loop-i-test.true fit in
    elim c.if-looked_at.branch [
      | then-looked_at w ↦ (
        fitting,
        λ r h. noting_goes own _ _ c.loop-i.i (c.loop-i.invariant.1 r h) c.loop-i-test.true _ (w.reach_of-reach.ensures r h.casts)
            (says_nearest_so_far c.if-looked_at.notes) (ap says_nearest_so_far w.notes-is ∙ w.note_reach.ensures),
      )
      | else-looked_at w ↦ (
        fitting,
        λ r h. subst (λ x. Noting own (answers r) (says_nearest_so_far x) (c.loop-i.i + 1)) (sym w.notes-is)
            (noting_missed own (answers r) _ c.loop-i.i (c.loop-i.invariant.1 r h) c.loop-i-test.true
            (passed_missed r own c.args.line c.args.bounds c.args.within h c.requires.1.1.1.0 c.loop-i.i inside
            (sym c.looked_at.ensures ∙ w.if-looked_at.false))),
      )
    ]

-- all of them
pub returns : goal.returns
returns c =
    let own : Mesh =
    mesh c.args.vertices.now c.args.triangles.now in
    λ r h. won_noted r own (sym (fitting_ends own c.loop-i.i c.loop-i.invariant.0 (omega arith))) _
    (noting_ends own _ _ c.loop-i.i (c.loop-i.invariant.1 r h) (omega arith)) _ c.winner.ensures
