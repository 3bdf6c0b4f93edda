-- `tree_check::check::check` meets its contract. Assumes nothing.
use Rattle.std.proofs.Common.{refl, sym, ◌∙◌}
use Rattle.tree_check.proofs.Answers.{marks_open}
use Rattle.tree_check.proofs.Passes.{few_triangles, room_is_long}
use Rattle.tree_check.specs.Verdict.{check_of}
use Rattle.tree_check.proofs.check.check.Goals as goal

pub returns-then-not-lengths_admitted : goal.returns-then-not-lengths_admitted
unfolding check_of
returns-then-not-lengths_admitted c = (simp (sym c.lengths_admitted.ensures, c.if-not-lengths_admitted.true), refl)

pub room_for-requires : goal.room_for-requires
room_for-requires c = few_triangles _ _ (sym c.lengths_admitted.ensures ∙ c.if-not-lengths_admitted.false)

pub returns-then-not-room_for : goal.returns-then-not-room_for
unfolding check_of
returns-then-not-room_for c =
    (simp (sym c.lengths_admitted.ensures, c.if-not-lengths_admitted.false, sym c.room_for.ensures, c.if-not-room_for.true), refl)

pub tree_passes-passes-requires : goal.tree_passes-passes-requires
tree_passes-passes-requires c =
    room_is_long _ _ _ _ _ _ (few_triangles _ _ (sym c.lengths_admitted.ensures ∙ c.if-not-lengths_admitted.false))
    (sym c.room_for.ensures ∙ c.if-not-room_for.false)

pub returns : goal.returns
unfolding check_of
returns c = (
  simp (
    sym c.lengths_admitted.ensures,
    c.if-not-lengths_admitted.false,
    sym c.room_for.ensures,
    c.if-not-room_for.false,
    sym c.tree_passes-passes.ensures,
  ),
  marks_open c.tree_passes-passes.result _ _,
)
