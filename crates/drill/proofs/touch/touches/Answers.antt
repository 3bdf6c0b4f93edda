-- `drill::touch::touches` meets its contract. Assumes nothing.
use Rattle.std.proofs.Common.{◌*◌, not, pos, ◌*ℤ◌, sym, ap, ◌∙◌, subst}
use mathlib.Core.Bool.{false≢true}
use lib.Dec.{lit≤}
use Rattle.wide_integers.proofs.Reading.{plain, widen, sized_bits}
use Rattle.exact_triangle.specs.Shear.{from}
use Rattle.drill.specs.Drill.{Decides, square}
use Rattle.drill.specs.Decision.{from_axis, touched_by, touched}
use Rattle.drill.specs.Code.{beyond}
use Rattle.drill.proofs.Rejecting.{none_beyond}
use Rattle.drill.proofs.Deciding.{touched_decides}
use Rattle.drill.proofs.Drilling.{weighed_point}
use Rattle.drill.proofs.touch.touches.Goals as goal

pub beyond-requires : goal.beyond-requires
beyond-requires c = (
  sized_bits c.requires.0.side (lit≤ tt),
  (c.corner_at-first.ensures.0, (c.corner_at-second.ensures.0, c.corner_at-third.ensures.0)),
)

pub returns-else-not-beyond : goal.returns-else-not-beyond
returns-else-not-beyond c =
    let v = c.args in
    λ l ρ o m ends. record {
      touched = λ e. absurd (false≢true (ap not (sym c.if-not-beyond.false) ∙ e));
      clear =
          λ e h. none_beyond (pos (ρ * ρ) *ℤ square l.direction) v.drill.side (from_axis l (from l.origin v.a))
          (from_axis l (from l.origin v.b)) (from_axis l (from l.origin v.c)) o.side
          (record { i = pos h.i; j = pos h.j; k = pos h.k }) (weighed_point l ρ v.a v.b v.c h)
          (sym (c.beyond.ensures ∙ (λ i. beyond (plain (widen c.requires.0.side (lit≤ tt)) i) (c.corner_at-first.ensures.1 l ρ o i)
          (c.corner_at-second.ensures.1 l ρ o i) (c.corner_at-third.ensures.1 l ρ o i))) ∙ c.if-not-beyond.false);
    }

pub returns-then-not-beyond : goal.returns-then-not-beyond
unfolding touched
returns-then-not-beyond c =
    let v = c.args in
    λ l ρ o m ends.
    subst (Decides l ρ v.a v.b v.c)
    (sym (c.touched_by.ensures l ρ o
    ∙ (λ i. touched_by l ρ (c.corner_at-first.ensures.1 l ρ o i) (c.corner_at-second.ensures.1 l ρ o i)
    (c.corner_at-third.ensures.1 l ρ o i)))) (touched_decides l ρ v.a v.b v.c m ends)
