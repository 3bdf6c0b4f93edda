-- `exact_depth::coplanar_point::height` meets its contract. Assumes nothing.
use Rattle.std.proofs.Common.{sym, subst}
use Rattle.wide_integers.specs.Value.{value, FitsWide}
use Rattle.exact_depth.proofs.Laws.{height_told, height_held}
use Rattle.exact_depth.proofs.coplanar_point.height.Goals as goal

pub difference-requires : goal.difference-requires
difference-requires c =
    let h = c.requires.0 in
    let g = c.requires.1 in
    let d = c.args.side in
    let m = c.args.at in
    subst FitsWide
    (sym (height_told (value d.level) d.fall (value m.t) m.w h.fall g.w c.times.ensures c.times-2.ensures))
    (height_held (value d.level) d.fall (value m.t) m.w h.fall g.w h.level g.t)
