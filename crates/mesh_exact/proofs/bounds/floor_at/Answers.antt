-- `mesh_exact::bounds::floor_at` meets its contract. Assumes nothing.
use lib.Dec.{lit≤}
use Rattle.exact_triangle.proofs.Laws.{fixed_fits, times_fits}
use Rattle.mesh_exact.proofs.SegmentSides.{end_fits, floor_told}
use Rattle.mesh_exact.proofs.bounds.floor_at.Goals as goal

pub overflow_mul-result : goal.overflow_mul-result
overflow_mul-result c = fixed_fits 1073741824 c.requires.0.0 (lit≤ tt) (lit≤ tt)

pub overflow_mul-result-2 : goal.overflow_mul-result-2
overflow_mul-result-2 c = times_fits c.requires.1 c.requires.0.1 (lit≤ tt) (lit≤ tt) (lit≤ tt)

pub overflow_add-result : goal.overflow_add-result
overflow_add-result c = end_fits c.requires.0.0 c.requires.0.1 c.requires.1

-- the sum fits, and the shift is its floor
pub returns : goal.returns
returns c = floor_told c.requires.0.0 c.requires.0.1 c.requires.1
