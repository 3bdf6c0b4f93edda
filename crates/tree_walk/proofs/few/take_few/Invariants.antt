-- `tree_walk::few::take_few`: what is left of the places gives what all of them give, and what stood behind the last one listed is known.
use Rattle.tree_walk.proofs.FewPlaces.{Fewing, Behind}
use Rattle.tree_walk.proofs.few.take_few.Given as goal

abbrev pub invariant-loop-place : goal.invariant-loop-place
invariant-loop-place l =
    Fewing l.count l.bounds l.order l.triangle_boxes l.initial.list l.found l.start l.end l.list l.listed l.place
    × Behind l.before l.initial.list l.found
