-- `tree_check::marks::all_in_one_leaf`: one leaf holds the place before, if there is one.
use Rattle.std.proofs.Common.{◌≡◌, ◌-◌, ◌≤◌}
use Rattle.lists.specs.Lists.{range, every}
use Rattle.tree_check.specs.Marks.{leaves_at, in_one_leaf}
use Rattle.tree_check.proofs.marks.all_in_one_leaf.Given as goal

abbrev pub invariant-loop-p : goal.invariant-loop-p
invariant-loop-p l = (l.held ≤ 1) × ((l.held ≡ leaves_at l.n l.marks l.p)
    × (every (in_one_leaf l.n l.marks) (range l.p (l.n - l.p)) ≡ every (in_one_leaf l.n l.marks) (range 0 l.n)))
