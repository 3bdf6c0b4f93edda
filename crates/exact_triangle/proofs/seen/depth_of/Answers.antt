-- `exact_triangle::seen::depth_of` meets its contract. Assumes nothing.
use Rattle.std.proofs.Common.{◌∙◌, lit≤}
use Rattle.exact_depth.specs.FirstPoint.{first_point}
use Rattle.wide_integers.proofs.Reading.{plain, widen}
use Rattle.exact_triangle.proofs.seen.depth_of.Goals as goal

pub first_point-requires : goal.first_point-requires
first_point-requires c =
    let a = c.projected_of-first.ensures.0 in
    let b = c.projected_of-second.ensures.0 in
    let d = c.projected_of-third.ensures.0 in (
      record { across = a.across; up = a.up },
      (record { across = b.across; up = b.up }, record { across = d.across; up = d.up }),
    )

pub returns : goal.returns
returns c = (
  c.first_point.ensures.narrow,
  λ l h.
      c.first_point.ensures.is
      ∙ (λ i. first_point (c.projected_of-first.ensures.1 l h i) (c.projected_of-second.ensures.1 l h i)
      (c.projected_of-third.ensures.1 l h i)
      ((plain (widen c.requires.0.near (lit≤ tt)) ∙ h.near) i) ((plain (widen c.requires.0.far (lit≤ tt)) ∙ h.far) i)),
)
