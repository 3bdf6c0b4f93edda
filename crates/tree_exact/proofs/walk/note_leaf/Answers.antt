-- `tree_exact::walk::note_leaf` meets its contract. Assumes nothing.
use Prim.Native.Nat.{◌+◌}
use mathlib.Core.Path.{refl, sym, subst}
use Rattle.nearest_hit.specs.declared.summary.NearestSoFar.{NearestSoFar}
use native.Mathlib.Omega.{arith}
use Rattle.tree_exact.proofs.WalkSteps.{LeafSoFar, leaf_begins, leaf_bad, leaf_goes, leaf_culls, leaf_ends}
use Rattle.tree_exact.proofs.walk.note_leaf.Goals as goal
use Rattle.tree_exact.proofs.walk.note_leaf.Goals.{then-not-is_culled, else-not-is_culled}

pub loop-place-init : goal.loop-place-init
loop-place-init c = leaf_begins _ _ _ _ _ _ _ _

pub overflow_cast-index : goal.overflow_cast-index
overflow_cast-index c = omega (arith, c.type_inv.order c.loop-place.place)

pub overflow_cast-index-in-loop-place : goal.overflow_cast-index-in-loop-place
overflow_cast-index-in-loop-place c = omega (arith, c.type_inv.order c.loop-place.place)

pub overflow_cast-index-then-not-is_culled : goal.overflow_cast-index-then-not-is_culled
overflow_cast-index-then-not-is_culled c = omega (arith, c.type_inv.order c.loop-place.place)

-- a place whose triangle is none
pub returns-then-index-count : goal.returns-then-index-count
returns-then-index-count c = leaf_bad _ _ _ _ _ _ _ _ _ _ c.loop-place.invariant c.loop-place-test.true _ refl (omega arith)

pub reach_at-reached-requires : goal.reach_at-reached-requires
reach_at-reached-requires c = (c.requires.0, omega arith)

pub is_culled-requires : goal.is_culled-requires
is_culled-requires c = omega arith

-- one more triangle, or one that is culled
pub loop-place-preserved : goal.loop-place-preserved
loop-place-preserved c =
    elim c.if-not-is_culled.branch [
      | then-not-is_culled w ↦
          subst (λ (x : NearestSoFar). LeafSoFar c.args.line c.args.reach c.args.pose.now c.args.triangles.now c.args.order.now c.args.start
          c.args.end c.args.notes x (c.loop-place.place + 1)) (sym w.found-is)
          (leaf_goes _ _ _ _ _ _ _ _ _ _ c.loop-place.invariant c.loop-place-test.true _ refl (omega (arith, c.if-index-count.false)) _
          (λ r on. w.reach_at-reached.ensures r on.casts) _ w.note-found.ensures)
      | else-not-is_culled w ↦
          subst (λ (x : NearestSoFar). LeafSoFar c.args.line c.args.reach c.args.pose.now c.args.triangles.now c.args.order.now c.args.start
          c.args.end c.args.notes x (c.loop-place.place + 1)) (sym w.found-is)
          (leaf_culls _ _ _ _ _ _ _ _ _ _ c.loop-place.invariant c.loop-place-test.true _ refl (omega (arith, c.if-index-count.false))
          (c.is_culled.ensures w.if-not-is_culled.false))
    ]

-- all of them
pub returns : goal.returns
returns c = leaf_ends _ _ _ _ _ _ _ _ _ _ c.loop-place.invariant (omega arith)
