-- `mesh_exact::cast::exact_cast` meets its contract. Assumes nothing.
use Rattle.mesh_plain.proofs.Casting.{triangles_few}
use Rattle.mesh_exact.proofs.cast.exact_cast.Goals as goal

pub segment_box-requires : goal.segment_box-requires
segment_box-requires c = c.requires.0.shown.admitted

pub over_triangles-requires : goal.over_triangles-requires
over_triangles-requires c = (triangles_few _ _ c.requires.1, record { casts = c.requires.0; box = c.segment_box.ensures })
