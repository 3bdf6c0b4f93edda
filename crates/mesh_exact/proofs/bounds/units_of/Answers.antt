-- `mesh_exact::bounds::units_of` meets its contract. Assumes nothing.
use mathlib.Core.Path.{ap, ◌∙◌}
use lib.Dec.{lit≤}
use lib.IntN.{ℤ, pos, nat_abs}
use Rattle.wide_integers.proofs.Reading.{widen, sized_bits}
use Rattle.exact_triangle.proofs.Laws.{size_told, size_sized, told_read, told_sized}
use Rattle.mesh_exact.proofs.bounds.units_of.Goals as goal

pub distance-requires : goal.distance-requires
distance-requires c = c.requires

pub size-requires : goal.size-requires
size-requires c = widen (sized_bits c.distance.ensures.1 (lit≤ tt)) (lit≤ tt)

-- the size of the distance on the grid
pub returns : goal.returns
returns c =
    let e = size_told c.distance.ensures.1 (lit≤ tt) c.size.ensures ∙ ap (λ (z : ℤ). pos (nat_abs z)) c.distance.ensures.0 in
    let h = size_sized c.distance.ensures.1 (lit≤ tt) c.size.ensures in
    (told_read e h (lit≤ tt), told_sized h (lit≤ tt))
