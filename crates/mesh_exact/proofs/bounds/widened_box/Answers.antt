-- `mesh_exact::bounds::widened_box` meets its contract. Assumes nothing.
use Rattle.std.proofs.Common.{◌∙◌, lit≤}
use Rattle.wide_integers.proofs.Reading.{plain, widen, sized_bits}
use Rattle.mesh_exact.specs.Bounds.{corner_by, low_by, high_by}
use Rattle.mesh_exact.proofs.bounds.widened_box.Goals as goal

pub low_corner-requires : goal.low_corner-requires
low_corner-requires c = (
  c.requires.0,
  (sized_bits c.requires.1.0 (lit≤ tt), (sized_bits c.requires.1.1.0 (lit≤ tt), sized_bits c.requires.1.1.1 (lit≤ tt))),
)

pub high_corner-requires : goal.high_corner-requires
high_corner-requires c = (
  c.requires.0,
  (sized_bits c.requires.1.0 (lit≤ tt), (sized_bits c.requires.1.1.0 (lit≤ tt), sized_bits c.requires.1.1.1 (lit≤ tt))),
)

-- the two corners, of numbers as they come
pub returns : goal.returns
returns c =
    let v = c.args in
    let w = plain (widen c.requires.1.1.1 (lit≤ tt)) in
    λ n f e g.
    let p = plain (widen c.requires.1.0 (lit≤ tt)) ∙ e in
    let q = plain (widen c.requires.1.1.0 (lit≤ tt)) ∙ g in
    λ i. record {
      min = (c.low_corner.ensures n f p q ∙ (λ j. corner_by (low_by (w j)) v.o v.d n f)) i;
      max = (c.high_corner.ensures n f p q ∙ (λ j. corner_by (high_by (w j)) v.o v.d n f)) i;
    }
