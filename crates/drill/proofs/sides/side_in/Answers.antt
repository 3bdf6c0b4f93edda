-- `drill::sides::side_in` meets its contract. Assumes nothing.
use Rattle.std.proofs.Common.{◌≡◌, ◌||◌, ℕ, ℤ, refl, sym, ◌∙◌, subst}
use Rattle.drill.proofs.Laws.{or_taken, or_passed, or_nested}
use Rattle.drill.specs.Code.{from_axis_of, SideOf}
use Rattle.drill.specs.Decision.{FromAxis, crossing_in, foot_in, side_in}
use Rattle.wide_integers.proofs.Reading.{bits, bits_back}
use Rattle.wide_integers.specs.Value.{value}
use Rattle.exact_depth.specs.declared.projection.Point.{Point}
use Rattle.drill.proofs.sides.side_in.Goals as goal
use Rattle.drill.proofs.sides.side_in.Goals.{Joined-crossing_in, then-crossing_in, else-crossing_in}

in_order : (ρ : ℕ) (d : Point) (R : ℤ) (p q : FromAxis) → ((crossing_in R p.moment q.moment p.low q.low
    || crossing_in R p.moment q.moment p.high q.high) || foot_in ρ d p q) ≡ side_in ρ d R p q
in_order ρ d R p q =
    or_nested (crossing_in R p.moment q.moment p.low q.low) (crossing_in R p.moment q.moment p.high q.high) (foot_in ρ d p q)

-- one cap or the other
crossed : (c : Joined-crossing_in) → let v = c.args in let p = from_axis_of v.p in let q = from_axis_of v.q in
    SideOf (value v.reach) v.side → c.if-crossing_in.value ≡ (crossing_in (value v.reach) p.moment q.moment p.low q.low
    || crossing_in (value v.reach) p.moment q.moment p.high q.high)
crossed c h =
    let v = c.args in
    let p = from_axis_of v.p in
    let q = from_axis_of v.q in
    let g : SideOf (value v.reach) (bits v.side) = subst (SideOf (value v.reach)) (sym (bits_back c.ranges.side)) h in
    elim c.if-crossing_in.branch [
      | then-crossing_in w ↦
          or_taken (crossing_in (value v.reach) p.moment q.moment p.high q.high) (c.crossing_in.ensures g) w.value-is w.if-crossing_in.true
      | else-crossing_in w ↦
          or_passed (c.crossing_in.ensures g) w.if-crossing_in.false (w.value-is ∙ w.crossing_in-else-crossing_in.ensures g)
    ]

pub returns-then-crossing_in-2 : goal.returns-then-crossing_in-2
returns-then-crossing_in-2 c =
    let v = c.args in
    λ ρ e h. or_taken (foot_in ρ v.d (from_axis_of v.p) (from_axis_of v.q))
    (crossed (goal.at.returns-then-crossing_in-2 c).Joined-crossing_in h)
    refl c.if-crossing_in-2.true
    ∙ in_order ρ c.args.d (value c.args.reach) (from_axis_of c.args.p) (from_axis_of c.args.q)

pub returns-else-crossing_in-2 : goal.returns-else-crossing_in-2
returns-else-crossing_in-2 c =
    λ ρ e h. or_passed (crossed (goal.at.returns-else-crossing_in-2 c).Joined-crossing_in h) c.if-crossing_in-2.false
    (c.foot_in.ensures ρ (bits_back c.ranges.area ∙ e))
    ∙ in_order ρ c.args.d (value c.args.reach) (from_axis_of c.args.p) (from_axis_of c.args.q)
