-- `exact_triangle::seen::projected_of` meets its contract. Assumes nothing.
use Rattle.std.proofs.Common.{◌≡◌, sym, ◌∙◌, subst, lit≤}
use Rattle.wide_integers.proofs.Reading.{bits, plain, widen, sized_bits}
use Rattle.exact_triangle.specs.Shear.{main_of, facing, from, ahead, heading}
use Rattle.exact_triangle.specs.Sizes.{CornerSized}
use Rattle.exact_triangle.specs.View.{main_as, sheared_by}
use Rattle.exact_triangle.proofs.Laws.{faced_size}
use Rattle.exact_triangle.proofs.seen.projected_of.Goals as goal

pub sheared-requires : goal.sheared-requires
sheared-requires c =
    let t = c.requires.0.heading_sized in (
      record { heading = t.heading; ahead = sized_bits t.ahead (lit≤ tt) },
      subst CornerSized (sym c.facing.ensures) (faced_size (main_as c.args.line.axis) c.from.ensures.1),
    )

pub returns : goal.returns
returns c =
    let plain-ahead : bits c.args.line.ahead ≡ c.args.line.ahead =
    plain (widen c.requires.0.heading_sized.ahead (lit≤ tt)) in
    let v = c.args.line in (
      c.sheared.ensures.1,
      λ l h.
          c.sheared.ensures.0
          ∙ (λ i. sheared_by v.heading (plain-ahead i) (c.facing.ensures i))
          ∙ (λ i. sheared_by (h.heading i) (h.ahead i) (facing (h.axis i) (c.from.ensures.0 i)))
          ∙ (λ i. sheared_by (heading l) (ahead (heading l).depth) (facing (main_of l.direction) (from (h.origin i) c.args.p))),
    )
