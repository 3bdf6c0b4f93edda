-- `exact_triangle::axis_plane::at_plane` meets its contract. Assumes nothing.
use Rattle.std.proofs.Common.{◌≡◌, true, ℤ, pos, ◌-ℤ◌, ◌*ℤ◌, neg_ℤ, sym, refl, ap, ◌∙◌, subst, lit≤}
use lib.Signed.{lt_z}
use Rattle.wide_integers.specs.Sizes.{Sized}
use Rattle.wide_integers.proofs.Reading.{bits, plain, widen, below_read, sized_bits, negated_size}
use Rattle.exact_depth.proofs.Laws.{negate_fits, negate_read}
use Rattle.exact_depth.proofs.Terms.{Term, term, times, times_fits, read_sized}
use Rattle.exact_triangle.specs.CrossingDistance.{Between, ahead, behind, along}
use Rattle.exact_triangle.proofs.Signs.{below_turned}
use Rattle.exact_triangle.proofs.axis_plane.at_plane.Goals as goal

ahead-by : Term (pos 32768) (pos 32768) 32768
ahead-by = record { is = refl; sized = record { size = lit≤ tt } }

back_by : Term (neg_ℤ (pos 32768)) (neg_ℤ (pos 32768)) 32768
back_by = record { is = refl; sized = record { size = lit≤ tt } }

pub overflow_mul-p : goal.overflow_mul-p
overflow_mul-p c = times_fits (term c.requires.0 (lit≤ tt)) ahead-by (lit≤ tt)

pub small_between_ends-requires : goal.small_between_ends-requires
small_between_ends-requires c =
    let over : Term (bits (bits c.args.p *ℤ pos 32768)) (c.args.p *ℤ pos 32768) 17592186044416 =
    times (term c.requires.0 (lit≤ tt)) ahead-by (lit≤ tt) in
    (read_sized over, (sized_bits c.requires.1 (lit≤ tt), c.if-d-gt0.true))

pub returns-then-d-gt0 : goal.returns-then-d-gt0
returns-then-d-gt0 c =
    let over : Term (bits (bits c.args.p *ℤ pos 32768)) (c.args.p *ℤ pos 32768) 17592186044416 =
    times (term c.requires.0 (lit≤ tt)) ahead-by (lit≤ tt) in
    let above : lt_z (pos 0) c.args.d ≡ true =
    below_read {X = pos 0} refl (plain (widen c.requires.1 (lit≤ tt))) c.if-d-gt0.true in
    let v = c.args in
    ahead above
    (subst (λ (z : ℤ). Between z v.d v.start v.finish c.small_between_ends.result) over.is
    (subst (λ (z : ℤ). Between (bits (bits v.p *ℤ pos 32768)) z v.start v.finish c.small_between_ends.result)
    (plain (widen c.requires.1 (lit≤ tt))) c.small_between_ends.ensures))

pub overflow_mul-p-then-d-lt0 : goal.overflow_mul-p-then-d-lt0
overflow_mul-p-then-d-lt0 c = times_fits (term c.requires.0 (lit≤ tt)) back_by (lit≤ tt)

pub overflow_sub-d : goal.overflow_sub-d
overflow_sub-d c = negate_fits (widen c.requires.1 (lit≤ tt))

pub small_between_ends-requires-then-d-lt0 : goal.small_between_ends-requires-then-d-lt0
small_between_ends-requires-then-d-lt0 c =
    let under : Term (bits (bits c.args.p *ℤ neg_ℤ (pos 32768))) (c.args.p *ℤ neg_ℤ (pos 32768)) 17592186044416 =
    times (term c.requires.0 (lit≤ tt)) back_by (lit≤ tt) in
    let below : lt_z c.args.d (pos 0) ≡ true =
    below_read {Y = pos 0} (plain (widen c.requires.1 (lit≤ tt))) refl c.if-d-lt0.true in
    let turned : bits (pos 0 -ℤ bits c.args.d) ≡ neg_ℤ c.args.d =
    negate_read (widen c.requires.1 (lit≤ tt)) in (
      read_sized under,
      (
        subst (Sized 2147483648) (sym turned) (negated_size c.requires.1),
        ap (lt_z (pos 0)) turned ∙ below_turned c.args.d below,
      ),
    )

pub returns-then-d-lt0 : goal.returns-then-d-lt0
returns-then-d-lt0 c =
    let under : Term (bits (bits c.args.p *ℤ neg_ℤ (pos 32768))) (c.args.p *ℤ neg_ℤ (pos 32768)) 17592186044416 =
    times (term c.requires.0 (lit≤ tt)) back_by (lit≤ tt) in
    let below : lt_z c.args.d (pos 0) ≡ true =
    below_read {Y = pos 0} (plain (widen c.requires.1 (lit≤ tt))) refl c.if-d-lt0.true in
    let turned : bits (pos 0 -ℤ bits c.args.d) ≡ neg_ℤ c.args.d =
    negate_read (widen c.requires.1 (lit≤ tt)) in
    let v = c.args in
    behind below
    (subst (λ (z : ℤ). Between z (neg_ℤ v.d) v.start v.finish c.small_between_ends-then-d-lt0.result) under.is
    (subst (λ (z : ℤ). Between (bits (bits v.p *ℤ neg_ℤ (pos 32768))) z v.start v.finish c.small_between_ends-then-d-lt0.result)
    turned c.small_between_ends-then-d-lt0.ensures))

pub returns : goal.returns
returns c = along refl
