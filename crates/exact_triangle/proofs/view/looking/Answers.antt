-- `exact_triangle::view::looking` meets its contract. Assumes nothing.
use Rattle.std.proofs.Common.{◌≡◌, ℤ, pos, ◌*ℤ◌, nat_abs, sym, refl, ap, ◌∙◌, subst, lit≤}
use Rattle.exact_depth.specs.declared.projection.Projected.{Projected}
use Rattle.wide_integers.specs.Sizes.{Sized}
use Rattle.wide_integers.proofs.Reading.{bits, plain, widen, sized_bits}
use Rattle.exact_triangle.specs.Line.{Line}
use Rattle.exact_triangle.specs.Grid.{units, nearest_to}
use Rattle.exact_triangle.specs.Shear.{Main, main_of, facing, ahead, heading, gain}
use Rattle.exact_triangle.specs.Sizes.{SizedProjected}
use Rattle.exact_triangle.specs.View.{line_from}
use Rattle.exact_triangle.proofs.Laws.{size_told, size_sized, faced_size, ahead_size, told_read, told_sized}
use Rattle.exact_triangle.proofs.view.looking.Goals as goal

pub size-gain-requires : goal.size-gain-requires
size-gain-requires c =
    let line_of : Line =
    line_from c.args.origin c.args.direction c.args.near c.args.far in
    let heading-is : c.facing-heading.result ≡ heading line_of =
    c.facing-heading.ensures ∙ ap (λ (a : Main). facing a c.args.direction) c.main_of-axis.ensures in
    let heading-sized : SizedProjected 2147483648 c.facing-heading.result =
    subst (SizedProjected 2147483648) (sym heading-is) (faced_size (main_of c.args.direction) c.requires.0.1) in
    sized_bits heading-sized.depth (lit≤ tt)

pub depth_at-requires : goal.depth_at-requires
depth_at-requires c =
    let line_of : Line =
    line_from c.args.origin c.args.direction c.args.near c.args.far in
    let heading-is : c.facing-heading.result ≡ heading line_of =
    c.facing-heading.ensures ∙ ap (λ (a : Main). facing a c.args.direction) c.main_of-axis.ensures in
    let heading-sized : SizedProjected 2147483648 c.facing-heading.result =
    subst (SizedProjected 2147483648) (sym heading-is) (faced_size (main_of c.args.direction) c.requires.0.1) in
    let gain-sized : Sized 2147483648 c.size-gain.result =
    size_sized heading-sized.depth (lit≤ tt) c.size-gain.ensures in
    (c.requires.1.0, sized_bits gain-sized (lit≤ tt))

pub depth_at-requires-2 : goal.depth_at-requires-2
depth_at-requires-2 c =
    let line_of : Line =
    line_from c.args.origin c.args.direction c.args.near c.args.far in
    let heading-is : c.facing-heading.result ≡ heading line_of =
    c.facing-heading.ensures ∙ ap (λ (a : Main). facing a c.args.direction) c.main_of-axis.ensures in
    let heading-sized : SizedProjected 2147483648 c.facing-heading.result =
    subst (SizedProjected 2147483648) (sym heading-is) (faced_size (main_of c.args.direction) c.requires.0.1) in
    let gain-sized : Sized 2147483648 c.size-gain.result =
    size_sized heading-sized.depth (lit≤ tt) c.size-gain.ensures in
    (c.requires.1.1, sized_bits gain-sized (lit≤ tt))

pub returns : goal.returns
returns c =
    let line_of : Line =
    line_from c.args.origin c.args.direction c.args.near c.args.far in
    let heading-is : c.facing-heading.result ≡ heading line_of =
    c.facing-heading.ensures ∙ ap (λ (a : Main). facing a c.args.direction) c.main_of-axis.ensures in
    let heading-sized : SizedProjected 2147483648 c.facing-heading.result =
    subst (SizedProjected 2147483648) (sym heading-is) (faced_size (main_of c.args.direction) c.requires.0.1) in
    let gain-sized : Sized 2147483648 c.size-gain.result =
    size_sized heading-sized.depth (lit≤ tt) c.size-gain.ensures in
    let gain-is : c.size-gain.result ≡ pos (gain line_of) =
    size_told heading-sized.depth (lit≤ tt) c.size-gain.ensures ∙ ap (λ (h : Projected). pos (nat_abs h.depth)) heading-is in
    let gain-plain : bits c.size-gain.result ≡ pos (gain line_of) =
    plain (widen gain-sized (lit≤ tt)) ∙ gain-is in
    let ahead-is : c.ahead.result ≡ ahead (heading line_of).depth =
    c.ahead.ensures ∙ ap ahead (plain (widen heading-sized.depth (lit≤ tt))) ∙ ap (λ (h : Projected). ahead h.depth)
    heading-is in
    let ahead-sized : Sized 1073741824 c.ahead.result =
    subst (Sized 1073741824) (sym ahead-is) (ahead_size (heading line_of).depth) in (
      record {
        axis = c.main_of-axis.ensures;
        origin = refl;
        direction = refl;
        heading = heading-is;
        ahead = told_read ahead-is ahead-sized (lit≤ tt);
        gain = gain-plain;
        near = told_read (c.depth_at.ensures.0 ∙ ap (λ (z : ℤ). pos (nat_abs (nearest_to units c.args.near)) *ℤ z) gain-plain)
            c.depth_at.ensures.1 (lit≤ tt);
        far = told_read (c.depth_at-2.ensures.0 ∙ ap (λ (z : ℤ). pos (nat_abs (nearest_to units c.args.far)) *ℤ z) gain-plain)
            c.depth_at-2.ensures.1 (lit≤ tt);
        start = c.end_at.ensures;
        finish = c.end_at-2.ensures;
      },
      record {
        origin = c.requires.0.0;
        direction = c.requires.0.1;
        heading_sized = record { heading = heading-sized; ahead = told_sized ahead-sized (lit≤ tt) };
        gain = told_sized gain-sized (lit≤ tt);
        near = told_sized c.depth_at.ensures.1 (lit≤ tt);
        far = told_sized c.depth_at-2.ensures.1 (lit≤ tt);
      },
    )

pub end_at-requires : goal.end_at-requires
end_at-requires c = c.requires.1.0

pub end_at-requires-2 : goal.end_at-requires-2
end_at-requires-2 c = c.requires.1.1
