-- `mesh_exact::bounds::low_side` meets its contract. Assumes nothing.
use Rattle.std.proofs.Common.{◌≡◌, ℤ, pos, ◌+ℤ◌, ◌-ℤ◌, ◌*ℤ◌, ap, ◌∙◌, lit≤}
use lib.Signed.{shr_z}
use Rattle.wide_integers.proofs.Reading.{bits, sized_bits}
use Rattle.exact_triangle.specs.Line.{parts}
use Rattle.exact_triangle.specs.Box.{in_millimetres, lesser}
use Rattle.mesh_exact.proofs.SegmentSides.{lesser_is, floor_back, low_fits, low_read, low_small}
use Rattle.mesh_exact.proofs.bounds.low_side.Goals as goal

pub floor_at-first-requires : goal.floor_at-first-requires
floor_at-first-requires c =
    ((sized_bits c.requires.0.0 (lit≤ tt), sized_bits c.requires.0.1 (lit≤ tt)), sized_bits c.requires.1.0 (lit≤ tt))

pub floor_at-last-requires : goal.floor_at-last-requires
floor_at-last-requires c =
    ((sized_bits c.requires.0.0 (lit≤ tt), sized_bits c.requires.0.1 (lit≤ tt)), sized_bits c.requires.1.1.0 (lit≤ tt))

pub overflow_sub-min : goal.overflow_sub-min
overflow_sub-min c =
    low_fits c.floor_at-first.ensures.1 c.floor_at-last.ensures.1 c.requires.1.1.1 (c.min.ensures.value ∙ lesser_is (bits
    c.floor_at-first.result) (bits c.floor_at-last.result))

pub in_millimetres-requires : goal.in_millimetres-requires
in_millimetres-requires c =
    low_small c.floor_at-first.ensures.1 c.floor_at-last.ensures.1 c.requires.1.1.1 (c.min.ensures.value ∙ lesser_is (bits
    c.floor_at-first.result) (bits c.floor_at-last.result))

-- the lower floor, lower by width
pub returns : goal.returns
returns c =
    let floor : ℤ → ℤ =
    λ n. shr_z (pos parts *ℤ c.args.o +ℤ n *ℤ c.args.d) parts in
    let first-is : c.floor_at-first.result ≡ floor c.args.near =
    floor_back c.requires.0.0 c.requires.0.1 c.requires.1.0 c.floor_at-first.ensures.0 in
    let last-is : c.floor_at-last.result ≡ floor c.args.far =
    floor_back c.requires.0.0 c.requires.0.1 c.requires.1.1.0 c.floor_at-last.ensures.0 in
    λ n f e g.
    c.in_millimetres.ensures
    ∙ ap in_millimetres (low_read c.floor_at-first.ensures.1 c.floor_at-last.ensures.1 c.requires.1.1.1 (c.min.ensures.value ∙ lesser_is
    (bits c.floor_at-first.result) (bits c.floor_at-last.result)))
    ∙ (λ i. in_millimetres (lesser ((first-is ∙ ap floor e) i) ((last-is ∙ ap floor g) i) -ℤ c.args.width))
