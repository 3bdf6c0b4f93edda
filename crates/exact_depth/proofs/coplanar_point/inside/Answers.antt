-- `exact_depth::coplanar_point::inside` meets its contract. Assumes nothing.
use Rattle.std.proofs.Common.{◌≡◌, Bool, true, false, not, ◌&&◌, ℤ, pos, sym, ap, ◌∙◌}
use mathlib.Core.Bool.{false≢true}
use lib.Signed.{lt_z}
use Rattle.exact_depth.specs.FirstPoint.{height_of, inside}
use Rattle.exact_depth.specs.Answer.{side_as, plane_depth_of}
use Rattle.wide_integers.proofs.OperationLaws.{at_most_told}
use Rattle.exact_depth.proofs.coplanar_point.inside.Goals as goal
use Rattle.exact_depth.proofs.coplanar_point.inside.Goals.{then-not-is_negative, else-not-is_negative}

abbrev below : ℤ → Bool
below h = lt_z h (pos 0)

all_in : (p q r l : Bool) → false ≡ p → true ≡ not q → not r ≡ l → not r ≡ (not p && (not q && l))
all_in p q r l e f g = g ∙ (λ i. not (e i) && (f i && l))

first_out : (p r : Bool) → true ≡ p → false ≡ (not p && r)
first_out p r e = λ i. not (e i) && r

second_out : (p q l : Bool) → false ≡ p → false ≡ not q → false ≡ (not p && (not q && l))
second_out p q l e f = λ i. not (e i) && (f i && l)

-- the third side decides
pub returns-then-not-is_negative-2 : goal.returns-then-not-is_negative-2
unfolding inside
returns-then-not-is_negative-2 c = elim c.if-not-is_negative.branch [
  | then-not-is_negative w ↦
      ap not (c.is_negative-then-not-is_negative-2.ensures ∙ ap below c.height-then-not-is_negative-2.ensures)
      ∙ all_in _ (below (height_of (side_as c.args.second) (plane_depth_of c.args.at))) _ _ (w.if-not-is_negative.ensures
      ∙ ap below c.height.ensures)
      (sym c.if-not-is_negative-2.true ∙ w.value-is
      ∙ ap not (w.is_negative-then-not-is_negative.ensures ∙ ap below w.height-then-not-is_negative.ensures))
      (at_most_told (pos 0) (height_of (side_as c.args.third) (plane_depth_of c.args.at)))
  | else-not-is_negative w ↦ absurd (false≢true (ap not (sym w.if-not-is_negative.false) ∙ sym w.value-is ∙ c.if-not-is_negative-2.true))
]

-- the first or the second
pub returns-else-not-is_negative-2 : goal.returns-else-not-is_negative-2
unfolding inside
returns-else-not-is_negative-2 c = elim c.if-not-is_negative.branch [
  | then-not-is_negative w ↦
      c.if-not-is_negative-2.false
      ∙ second_out _ (below (height_of (side_as c.args.second) (plane_depth_of c.args.at))) _ (w.if-not-is_negative.ensures
      ∙ ap below c.height.ensures)
      (sym c.if-not-is_negative-2.false ∙ w.value-is
      ∙ ap not (w.is_negative-then-not-is_negative.ensures ∙ ap below w.height-then-not-is_negative.ensures))
  | else-not-is_negative w ↦ c.if-not-is_negative-2.false ∙ first_out _ _ (w.if-not-is_negative.ensures ∙ ap below c.height.ensures)
]
