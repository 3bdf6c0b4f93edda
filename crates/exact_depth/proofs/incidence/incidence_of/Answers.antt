-- `exact_depth::incidence::incidence_of` meets its contract. Assumes nothing.
use Rattle.wide_integers.proofs.Reading.{plain, held_fit}
use Rattle.exact_depth.proofs.OneSided.{side_read, across_missed, up_missed}
use Rattle.exact_depth.proofs.incidence.incidence_of.Goals as goal
use Rattle.exact_depth.proofs.incidence.incidence_of.Goals.{then-one_side-via-then-one_side}
use Rattle.exact_depth.proofs.incidence.incidence_of.Goals.{then-one_side-via-else-one_side+then-one_side-2}

-- on one side across, or up
pub returns-then-one_side : goal.returns-then-one_side
returns-then-one_side c = let h = c.requires in elim c.then-one_side.branch [
  | then-one_side-via-then-one_side w ↦
      λ near far. across_missed near far c.args.a c.args.b c.args.c
      (side_read (plain (held_fit h.0.across)) (plain (held_fit h.1.0.across)) (plain (held_fit h.1.1.across))
      (c.one_side.ensures w.if-one_side.true))
  | then-one_side-via-else-one_side+then-one_side-2 w ↦
      λ near far. up_missed near far c.args.a c.args.b c.args.c
      (side_read (plain (held_fit h.0.up)) (plain (held_fit h.1.0.up)) (plain (held_fit h.1.1.up))
      (w.one_side-else-one_side.ensures w.if-one_side-2.true))
]
