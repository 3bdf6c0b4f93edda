-- `tree_walk::step::take_places`: what is left of the places gives what all of them give.
use Rattle.tree_walk.proofs.Places.{Placing}
use Rattle.tree_walk.proofs.step.take_places.Given as goal

abbrev pub invariant-loop-place : goal.invariant-loop-place
invariant-loop-place l = Placing l.count l.bounds l.order l.triangle_boxes l.initial.list l.found l.start l.end l.list l.listed l.place
