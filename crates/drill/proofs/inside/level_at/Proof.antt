-- `drill::inside::level_at` meets its contract. Assumes nothing.
use Rattle.drill.proofs.Laws.{word_fits, apart_fits, apart_read, sized_as}
use Rattle.wide_integers.proofs.Reading.{bits, bits_back, widen, product_size, sum_size, difference_size}
use Rattle.wide_integers.specs.Value.{Weight}
use Rattle.wide_integers.specs.Sizes.{Sized}
use lib.IntN.{ℤ, ◌+ℤ◌, ◌-ℤ◌, ◌*ℤ◌}
use lib.Dec.{lit≤}
use Prim.Native.Nat.{◌+◌, ◌*◌, ◌^◌}
use mathlib.Core.Path.{◌≡◌, ◌∙◌}
use borrow.Author.Rules.{rules}
use Rattle.drill.proofs.inside.level_at.Statement.{statement}
use Rattle.drill.proofs.inside.level_at.Tie as tie

sub-product : tie.Need-overflow_sub-q
sub-product c = let s : tie.Start = search in apart_fits s.requires.0.1.0 s.requires.0.1.1 (lit≤ tt) (lit≤ tt) (lit≤ tt)

sub-product-2 : tie.Need-overflow_sub-r
sub-product-2 c = let s : tie.Start = search in apart_fits s.requires.0.1.1 s.requires.0.0 (lit≤ tt) (lit≤ tt) (lit≤ tt)

sub-product-3 : tie.Need-overflow_sub-p
sub-product-3 c = let s : tie.Start = search in apart_fits s.requires.0.0 s.requires.0.1.0 (lit≤ tt) (lit≤ tt) (lit≤ tt)

-- one product, as the call gives it, and its size
module _ {p q a v : ℤ} (hp : Sized (3 * 2 ^ 60) p) (hq : Sized (3 * 2 ^ 60) q) (ha : Sized (2 ^ 29) a)
    (e : v ≡ bits (bits p -ℤ bits q) *ℤ bits a) where
  one-is : v ≡ (p -ℤ q) *ℤ a
  one-is =
      e ∙ (λ i. apart_read hp hq (lit≤ tt) (lit≤ tt) (lit≤ tt) i *ℤ bits_back (word_fits ha (lit≤ tt)) i)

  one_size : Sized ((3 * 2 ^ 60 + 3 * 2 ^ 60) * 2 ^ 29) ((p -ℤ q) *ℤ a)
  one_size = product_size (difference_size hp hq) ha

  one-weight : Weight v
  one-weight = widen (sized_as one-is one_size) (lit≤ tt)

total-requires : tie.Need-total-requires
total-requires c κs =
    let (s, x, y, z) : tie.Start × tie.After-product × tie.After-product-2 × tie.After-product-3 = search in
    let h = s.requires.0 in
    let g = s.requires.1 in (
      one-weight h.1.0 h.1.1 g.0 x.product.ensures,
      (one-weight h.1.1 h.0 g.1.0 y.product-2.ensures, one-weight h.0 h.1.0 g.1.1 z.product-3.ensures),
    )

returns : tie.Need-returns
returns c =
    let (s, x, y, z) : tie.Start × tie.After-product × tie.After-product-2 × tie.After-product-3 = search in
    let h = s.requires.0 in
    let g = s.requires.1 in
    let ex = one-is h.1.0 h.1.1 g.0 x.product.ensures in
    let ey = one-is h.1.1 h.0 g.1.0 y.product-2.ensures in
    let ez = one-is h.0 h.1.0 g.1.1 z.product-3.ensures in
    let e = c.total.ensures ∙ (λ i. ex i +ℤ ey i +ℤ ez i) in (
      e,
      widen (sized_as e (sum_size (sum_size (one_size h.1.0 h.1.1 g.0 x.product.ensures)
          (one_size h.1.1 h.0 g.1.0 y.product-2.ensures)) (one_size h.0 h.1.0 g.1.1 z.product-3.ensures)))
          (lit≤ tt),
    )

pub level_at_spec : {M : Type 1} → statement M
level_at_spec =
    tie.close
    (tie.spec
    sub-product
    (λ c κs. search rules)  -- product-requires
    sub-product-2
    (λ c κs. search rules)  -- product-requires-2
    sub-product-3
    (λ c κs. search rules)  -- product-requires-3
    total-requires
    returns)
