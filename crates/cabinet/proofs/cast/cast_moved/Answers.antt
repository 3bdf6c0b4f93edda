-- `cabinet::cast::cast_moved` meets its contract. Assumes nothing.
use Rattle.cabinet.proofs.PartWalks.{moved_overflows, moved_casts}
use mathlib.Core.Path.{sym, ◌∙◌}
use Rattle.cabinet.proofs.cast.cast_moved.Goals as goal

pub returns-then-not-is_finite : goal.returns-then-not-is_finite
returns-then-not-is_finite c =
    let f = c.before in
    moved_overflows _ _ _ _ _ _ f.sub-at.ensures (sym f.is_finite.ensures ∙ c.if-not-is_finite.true)

pub cast_within-requires : goal.cast_within-requires
cast_within-requires c = (
  sym c.is_finite.ensures ∙ c.if-not-is_finite.false,
  c.requires,
)

pub returns : goal.returns
returns c =
    moved_casts _ _ _ _ _ _ c.sub-at.ensures (sym c.is_finite.ensures ∙ c.if-not-is_finite.false) _
    c.cast_within.ensures
