-- `exact_triangle::view::end_at` meets its contract. Assumes nothing.
use Rattle.std.proofs.Common.{◌≡◌, ℤ, pos, nat_abs, ap, ◌∙◌, lit≤}
use lib.Ieee.{binary64, of_int, mul, of_bits}
use Rattle.wide_integers.specs.Sizes.{Sized}
use Rattle.wide_integers.proofs.Reading.{plain, widen, sized_bits}
use Rattle.exact_triangle.specs.Grid.{units, nearest_to}
use Rattle.exact_triangle.specs.Box.{in_millimetres}
use Rattle.exact_triangle.proofs.Laws.{size_told, size_sized}
use Rattle.exact_triangle.proofs.UnitLaws.{in_millimetres_lem, in_float_lem}
use Rattle.exact_triangle.proofs.view.end_at.Goals as goal

pub distance-requires : goal.distance-requires
distance-requires c = c.requires

pub size-requires : goal.size-requires
size-requires c = widen (sized_bits c.distance.ensures.1 (lit≤ tt)) (lit≤ tt)

pub int_to_float-result : goal.int_to_float-result
int_to_float-result c =
    let sized : Sized 1073741824 c.size.result =
    size_sized c.distance.ensures.1 (lit≤ tt) c.size.ensures in
    in_float_lem sized (lit≤ tt)

pub returns : goal.returns
returns c =
    let is-size : c.size.result ≡ pos (nat_abs (nearest_to units c.args.x)) =
    size_told c.distance.ensures.1 (lit≤ tt) c.size.ensures ∙ ap (λ (z : ℤ). pos (nat_abs z)) c.distance.ensures.0 in
    let sized : Sized 1073741824 c.size.result =
    size_sized c.distance.ensures.1 (lit≤ tt) c.size.ensures in
    ap (λ (z : ℤ). mul binary64 (of_int binary64 z) (of_bits binary64 0x3f00_0000_0000_0000)) (plain (widen sized (lit≤ tt)))
    ∙ in_millimetres_lem c.size.result (widen sized (lit≤ tt)).size ∙ ap in_millimetres is-size
