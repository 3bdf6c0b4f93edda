-- `cubic::roots::root_of_cubic` meets its contract. Assumes nothing.
use Rattle.std.proofs.Common.{sym, subst}
use Rattle.cubic.specs.Turns.{AllBetween}
use Rattle.cubic.proofs.CubicLaws.{extrema_between}
use Rattle.cubic.proofs.roots.root_of_cubic.Goals as goal

pub search_turns-requires : goal.search_turns-requires
search_turns-requires c = subst AllBetween (sym c.extrema.ensures) (extrema_between c.args.cubic)
