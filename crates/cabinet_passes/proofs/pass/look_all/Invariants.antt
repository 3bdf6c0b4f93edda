-- What is left to look at from here answers what all parts answer from the start.
use Rattle.std.proofs.Common.{◌≡◌}
use lib.ListN.{drop}
use Rattle.cabinet.specs.Found.{says_look}
use Rattle.cabinet.specs.Looks.{look_parts}
use Rattle.cabinet_passes.proofs.pass.look_all.Given as goal

abbrev pub invariant-loop-part : goal.invariant-loop-part
invariant-loop-part l = look_parts (says_look l.s) (drop l.part-index l.parts) ≡ look_parts (says_look l.fn.start) l.parts
