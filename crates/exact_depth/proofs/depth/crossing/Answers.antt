-- `exact_depth::depth::crossing` meets its contract. Assumes nothing.
use Rattle.std.proofs.Common.{None, ◌+ℤ◌, ◌*ℤ◌, sym, ◌∙◌}
use Rattle.wide_integers.specs.Value.{value}
use Rattle.wide_integers.proofs.Reading.{left, bits_back}
use Rattle.exact_depth.specs.FirstPoint.{kept, crossing}
use Rattle.exact_depth.proofs.Laws.{missed, finds_as}
use Rattle.exact_depth.proofs.depth.crossing.Goals as goal
use Rattle.exact_depth.proofs.depth.crossing.Goals.{then-is_negative-via-then-is_negative}
use Rattle.exact_depth.proofs.depth.crossing.Goals.{then-is_negative-via-else-is_negative+then-is_negative-2}
use Rattle.exact_depth.proofs.depth.crossing.Goals.{then-is_negative-via-else-is_negative+else-is_negative-2+then-is_negative-3}

pub returns-then-is_negative : goal.returns-then-is_negative
unfolding crossing
returns-then-is_negative c = elim c.then-is_negative.branch [
  | then-is_negative-via-then-is_negative w ↦ missed (simp (sym w.if-is_negative.ensures))
  | then-is_negative-via-else-is_negative+then-is_negative-2 w ↦ missed
      (simp (sym w.if-is_negative.ensures, sym w.if-is_negative-2.ensures))
  | then-is_negative-via-else-is_negative+else-is_negative-2+then-is_negative-3 w ↦
      missed (simp (sym w.if-is_negative.ensures, sym w.if-is_negative-2.ensures, sym w.if-is_negative-3.ensures))
]

pub returns : goal.returns
unfolding crossing
returns c =
    let v = c.args in
    finds_as c.kept.ensures
    (left None (sym c.if-is_negative.ensures) (left None (sym c.if-is_negative-2.ensures) (left None (sym c.if-is_negative-3.ensures)
    ((λ i. kept (record { t = c.weighted.ensures i; w = c.total.ensures i }) (bits_back c.ranges.near i) (bits_back c.ranges.far i))
    ∙ (λ i. kept (record {
      t = value v.a *ℤ bits_back c.ranges.x i +ℤ value v.b *ℤ bits_back c.ranges.y i +ℤ value v.c *ℤ bits_back c.ranges.z i;
      w = value v.a +ℤ value v.b +ℤ value v.c;
    }) v.near v.far)))))
