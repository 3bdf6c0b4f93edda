-- `mesh_drill::whole::all_fit` meets its contract. Assumes nothing.
use Rattle.mesh_drill.proofs.whole.all_fit.Goals as goal

pub all_inside-requires : goal.all_inside-requires
all_inside-requires c = (c.requires.0, c.requires.1 c.if-within.true)
