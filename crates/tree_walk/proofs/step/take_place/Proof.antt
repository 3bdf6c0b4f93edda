-- `tree_walk::step::take_place` meets its contract. Assumes nothing.
use Rattle.tree_walk.proofs.Places.{place_outside, place_missed, place_full, place_listed}
use Rattle.geometry.specs.Box.{touches}
use Rattle.geometry.specs.declared.aabb.Aabb.{Aabb}
use native.Mathlib.Omega.{arith}
use mathlib.Core.Path.{◌∙◌, sym, ap}
use borrow.Author.Rules.{rules}
use Rattle.tree_walk.proofs.step.take_place.Statement.{statement}
use Rattle.tree_walk.proofs.step.take_place.Tie as tie

cast-index : tie.Need-overflow_cast-index
cast-index c =
    let start : tie.Start = search in
    omega (arith, c.shared_slice_known-3-1.given start.args.place)

returns : tie.Need-returns-then-index-count
returns c = place_outside _ _ _ _ _ _ _ c.if-index-count.true

returns-2 : tie.Need-returns-then-not-touches
returns-2 c =
    let (start, else1, at-box-at) : tie.Start × tie.Else-index-count × tie.After-box_at = search in
    place_missed _ _ _ _ _ _ _ start.requires.1 else1.if-index-count.false
    (sym (c.touches.ensures ∙ ap (λ (b : Aabb). touches b start.args.bounds) at-box-at.box_at.ensures) ∙ c.if-not-touches.true)

returns-3 : tie.Need-returns-then-found-count
returns-3 c =
    let (start, else1, at-box-at, at-touches) : tie.Start × tie.Else-index-count × tie.After-box_at × tie.After-touches = search in
    place_full _ _ _ _ _ _ _ start.requires.1 else1.if-index-count.false
    (sym (at-touches.touches.ensures ∙ ap (λ (b : Aabb). touches b start.args.bounds) at-box-at.box_at.ensures) ∙ c.if-not-touches.false)
    c.if-found-count.true

returns-4 : tie.Need-returns
returns-4 c =
    let (start, else1, at-box-at, at-touches) : tie.Start × tie.Else-index-count × tie.After-box_at × tie.After-touches = search in
    place_listed _ _ _ _ _ _ _ start.requires.1 else1.if-index-count.false
    (sym (at-touches.touches.ensures ∙ ap (λ (b : Aabb). touches b start.args.bounds) at-box-at.box_at.ensures) ∙ c.if-not-touches.false)
    c.if-found-count.false

pub take_place_spec : {M : Type 1} → statement M
take_place_spec =
    tie.close
    (tie.spec
    (search rules)  -- offset_bounds-order-place
    (search rules)  -- bounds-order-place
    cast-index
    returns
    (search rules)  -- box_at-requires
    (search rules)  -- touches-requires
    returns-2
    returns-3
    (search rules)  -- offset_bounds-list-found
    (search rules)  -- bounds-list-found
    (search rules)  -- overflow_add-result
    (search rules)  -- shape_of-list
    returns-4)
