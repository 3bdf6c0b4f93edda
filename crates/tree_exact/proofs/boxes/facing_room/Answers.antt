-- `tree_exact::boxes::facing_room` meets its contract. Assumes nothing.
use mathlib.Core.Path.{sym, ap}
use Rattle.exact_triangle.specs.declared.view.Axis.{Axis}
use Rattle.exact_triangle.specs.View.{main_as}
use Rattle.tree_exact.specs.Room.{facing_room}
use Rattle.tree_exact.proofs.boxes.facing_room.Goals as goal

-- along x
pub returns-in-X : goal.returns-in-X
returns-in-X c = sym (ap (λ (a : Axis). facing_room (main_as a) c.args.x c.args.y c.args.z) c.in-X.is)

-- along y
pub returns-in-Y : goal.returns-in-Y
returns-in-Y c = sym (ap (λ (a : Axis). facing_room (main_as a) c.args.x c.args.y c.args.z) c.in-Y.is)

-- along z
pub returns-in-Z : goal.returns-in-Z
returns-in-Z c = sym (ap (λ (a : Axis). facing_room (main_as a) c.args.x c.args.y c.args.z) c.in-Z.is)
