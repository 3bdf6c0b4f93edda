-- `mesh_hits::sorted::fit` meets its contract. Assumes nothing.
use Prim.Native.Nat.{◌*◌}
use mathlib.Core.Path.{sym}
use native.Mathlib.Omega.{arith}
use lib.Seq.{length-take-le}
use Rattle.mesh_hits.proofs.Arranging.{fit_refused, fit_sorted}
use Rattle.mesh_hits.proofs.sorted.fit.Goals as goal

-- more hits than places: refusal 3
pub returns-then-hits-places : goal.returns-then-hits-places
returns-then-hits-places c = λ answer n ready. fit_refused answer n _ _ 0 _ _ c.if-hits-places.true _ _ _ c.refuse.ensures

-- a place for each
pub overflow_mul-end : goal.overflow_mul-end
overflow_mul-end c = omega (arith, (c.requires c.if-hits-places.false).fits, c.well_formed)

pub slice_bounds-sort-end : goal.slice_bounds-sort-end
slice_bounds-sort-end c = omega (arith, (c.requires c.if-hits-places.false).inside)

pub slice_bounds-sort-end-3 : goal.slice_bounds-sort-end-3
slice_bounds-sort-end-3 c = omega (arith, (c.requires c.if-hits-places.false).fits)

-- the parts that are lent to the sort are as long as said
pub slice_bounds-sort-end-2 : goal.slice_bounds-sort-end-2
slice_bounds-sort-end-2 c = sym (length-take-le c.args.hits c.args.indices.now (c.requires c.if-hits-places.false).inside)

pub slice_bounds-sort-end-4 : goal.slice_bounds-sort-end-4
slice_bounds-sort-end-4 c = sym (length-take-le (4 * c.args.hits) c.args.numbers.now (c.requires c.if-hits-places.false).fits)

pub sort-requires : goal.sort-requires
sort-requires c =
    let room = c.requires c.if-hits-places.false in
    let long = length-take-le c.args.hits c.args.indices.now room.inside in
    let longN = length-take-le (4 * c.args.hits) c.args.numbers.now room.fits in
    (omega (arith, long, longN), omega (arith, long, room.room))

pub returns : goal.returns
returns c =
    λ answer n ready.
    fit_sorted answer n _ _ _ _ _ c.if-hits-places.false (ready c.if-hits-places.false) _ _ c.sort.ensures c.sort.auto.indices
    c.sort.auto.numbers
