-- What is left to cast at from here answers what all parts answer from the start, the work areas are as long as they were, and as they
-- were where the pass does not cast.
use Rattle.std.proofs.Common.{length, ◌≡◌, true}
use lib.ListN.{drop}
use Rattle.cabinet.specs.Found.{says_state}
use Rattle.cabinet.specs.Steps.{step_parts, areas, is_idle}
use Rattle.cabinet_passes.proofs.pass.cast_all.Given as goal

abbrev pub invariant-loop-part : goal.invariant-loop-part
invariant-loop-part l = record {
  left :
      step_parts (areas l.vertices l.triangles l.node_boxes l.triangle_boxes l.node_words l.order) (length l.fn.list) (length l.fn.stack)
      (says_state l.s) (drop l.part-index l.parts)
      ≡ step_parts (areas l.vertices l.triangles l.node_boxes l.triangle_boxes l.node_words l.order) (length l.fn.list) (length l.fn.stack)
      (says_state l.fn.start) l.parts;
  list_long : length l.list ≡ length l.fn.list;
  stack_long : length l.stack ≡ length l.fn.stack;
  kept : is_idle (says_state l.fn.start) ≡ true → (is_idle (says_state l.s) ≡ true) × ((l.list ≡ l.fn.list) × (l.stack ≡ l.fn.stack));
}
