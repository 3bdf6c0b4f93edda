-- `mesh_plain::boxes::side_code` meets its contract. Assumes nothing.
use mathlib.Core.Bool.{not}
use mathlib.Core.Path.{refl}
use native.Mathlib.Omega.{arith}
use lib.Ieee.{le}
use Rattle.index_sort.proofs.Splitting.{at_most_one}
use Rattle.mesh_plain.proofs.CodeLaws.{small}
use Rattle.mesh_plain.proofs.boxes.side_code.Goals as goal

pub overflow_mul-result : goal.overflow_mul-result
overflow_mul-result c = omega (arith, at_most_one (not (le c.args.x c.args.to)))

pub overflow_add-result : goal.overflow_add-result
overflow_add-result c = omega (arith, at_most_one (not (le c.args.x c.args.to)), at_most_one (not (le c.args.from c.args.x)))

pub returns : goal.returns
returns c = record { value = refl; upper_bound = small c.args.x c.args.from c.args.to }
