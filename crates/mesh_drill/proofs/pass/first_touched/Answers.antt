-- `mesh_drill::pass::first_touched` meets its contract. Assumes nothing.
use Rattle.std.proofs.Common.{sym, ◌∙◌, arith}
use Rattle.tree.specs.Mesh.{Mesh, mesh}
use Rattle.mesh_drill.proofs.Wholes.{fits_at, read_at_lem}
use Rattle.mesh_drill.proofs.Passes.{passing_begins, passing_touched, passing_goes, passing_ends}
use Rattle.mesh_drill.proofs.pass.first_touched.Goals as goal

pub loop-i-init : goal.loop-i-init
loop-i-init c = λ l ρ h g e. passing_begins l ρ _

pub is_reached-requires : goal.is_reached-requires
is_reached-requires c =
    let own : Mesh =
    mesh c.args.vertices.now c.args.triangles.now in
    let below = c.loop-i-test.true in
    let all = c.requires.1.1.0 in (
      (omega (arith, below), fits_at own all.0 c.loop-i.i below),
      (c.requires.1.0, (read_at_lem own all.1 c.loop-i.i below, c.requires.1.1.1)),
    )

pub overflow_cast-result : goal.overflow_cast-result
overflow_cast-result c = omega (arith, c.loop-i-test.true, c.requires.0)

pub returns-then-is_reached : goal.returns-then-is_reached
returns-then-is_reached c =
    let own : Mesh =
    mesh c.args.vertices.now c.args.triangles.now in
    λ m ρ h g e.
    passing_touched m ρ own c.loop-i.i (c.loop-i.invariant m ρ h g e) c.loop-i-test.true
    (sym (c.is_reached.ensures m ρ h g e) ∙ c.if-is_reached.true)

pub loop-i-preserved : goal.loop-i-preserved
loop-i-preserved c =
    let own : Mesh =
    mesh c.args.vertices.now c.args.triangles.now in
    λ m ρ h g e.
    passing_goes m ρ own c.loop-i.i (c.loop-i.invariant m ρ h g e) c.loop-i-test.true
    (sym (c.is_reached.ensures m ρ h g e) ∙ c.if-is_reached.false)

pub returns : goal.returns
returns c =
    let own : Mesh =
    mesh c.args.vertices.now c.args.triangles.now in
    λ m ρ h g e. passing_ends m ρ own c.loop-i.i (c.loop-i.invariant m ρ h g e) (omega arith)
