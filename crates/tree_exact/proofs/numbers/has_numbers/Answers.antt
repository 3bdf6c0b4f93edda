-- `tree_exact::numbers::has_numbers` meets its contract. Assumes nothing.
use mathlib.Core.Path.{sym, ◌∙◌}
use native.Mathlib.Omega.{arith}
use Rattle.lists.proofs.JoinedTests.{test_passed, test_failed}
use Rattle.lists.proofs.EveryLaws.{every_whole, every_fails, every_passes, every_done}
use Rattle.tree.specs.Mesh.{Mesh, mesh, triangle_count}
use Rattle.tree_exact.specs.Numbers.{corners_numbered, has_numbers}
use Rattle.tree_exact.proofs.NumberTests.{both_clauses}
use Rattle.tree_exact.proofs.numbers.has_numbers.Goals as goal

pub loop-i-init : goal.loop-i-init
unfolding has_numbers
loop-i-init c =
    let own : Mesh =
    mesh c.args.vertices.now c.args.triangles.now in
    record { rest = every_whole (corners_numbered own) (triangle_count own) }

pub corners_numbered-requires : goal.corners_numbered-requires
corners_numbered-requires c = omega (arith, c.loop-i-test.true)

-- a triangle whose corners are not numbers
pub returns-then-not-corners_numbered : goal.returns-then-not-corners_numbered
returns-then-not-corners_numbered c =
    let own : Mesh =
    mesh c.args.vertices.now c.args.triangles.now in
    let failed = test_failed c.corners_numbered.ensures c.if-not-corners_numbered.true in
    let p = both_clauses own _
    (sym (every_fails (corners_numbered own) _ (triangle_count own) _ c.loop-i-test.true failed c.loop-i.invariant.rest)) in
    record { value = p.0; no_nan = p.1 }

-- one more triangle
pub loop-i-preserved : goal.loop-i-preserved
loop-i-preserved c =
    let own : Mesh =
    mesh c.args.vertices.now c.args.triangles.now in
    let passed = test_passed c.corners_numbered.ensures c.if-not-corners_numbered.false in
    record {
      rest = every_passes (corners_numbered own) _ (triangle_count own) _ c.loop-i-test.true passed c.loop-i.invariant.rest;
    }

-- all of them
pub returns : goal.returns
returns c =
    let own : Mesh =
    mesh c.args.vertices.now c.args.triangles.now in
    let p = both_clauses own _
    (sym (every_done (corners_numbered own) _ (triangle_count own) (omega arith)) ∙ c.loop-i.invariant.rest) in
    record { value = p.0; no_nan = p.1 }
