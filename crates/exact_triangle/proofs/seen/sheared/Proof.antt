-- `exact_triangle::seen::sheared` meets its contract. Assumes nothing.
use Rattle.std.proofs.Common.{◌≡◌, ℤ, ◌-ℤ◌, ◌*ℤ◌, sym, subst, lit≤, w64, SFits}
use Rattle.wide_integers.specs.Sizes.{Sized}
use Rattle.wide_integers.proofs.Reading.{bits, widen, product_size, difference_size, sub-fits, sub_read}
use Rattle.exact_triangle.proofs.Laws.{times_fits, times_read}
use Rattle.exact_triangle.proofs.seen.sheared.Statement.{statement}
use Rattle.exact_triangle.proofs.seen.sheared.Tie as tie

-- the difference of two products, up to 2^29 · 2^31 each
module _ {a b c d : ℤ} (ha : Sized 536870912 a) (hb : Sized 2147483648 b) (hc : Sized 536870912 c) (hd : Sized 2147483648 d) where
  fits-difference : SFits w64 (bits (bits a *ℤ bits b) -ℤ bits (bits c *ℤ bits d))
  fits-difference =
      sub-fits (times_read ha hb (lit≤ tt) (lit≤ tt) (lit≤ tt)) (times_read hc hd (lit≤ tt) (lit≤ tt) (lit≤ tt))
      (widen (product_size ha hb) (lit≤ tt)) (widen (product_size hc hd) (lit≤ tt))

  difference-told : bits (bits (bits a *ℤ bits b) -ℤ bits (bits c *ℤ bits d)) ≡ a *ℤ b -ℤ c *ℤ d
  difference-told =
      sub_read (times_read ha hb (lit≤ tt) (lit≤ tt) (lit≤ tt)) (times_read hc hd (lit≤ tt) (lit≤ tt) (lit≤ tt))
      (widen (product_size ha hb) (lit≤ tt)) (widen (product_size hc hd) (lit≤ tt))

  difference-sized : Sized 2305843009213693952 (bits (bits (bits a *ℤ bits b) -ℤ bits (bits c *ℤ bits d)))
  difference-sized =
      subst (Sized 2305843009213693952) (sym difference-told) (difference_size (product_size ha hb) (product_size hc hd))

mul-t4 : tie.Need-overflow_mul-result
mul-t4 c = let s : tie.Start = search in times_fits s.requires.1.across s.requires.0.heading.depth (lit≤ tt) (lit≤ tt) (lit≤ tt)

mul-t5 : tie.Need-overflow_mul-result-2
mul-t5 c = let s : tie.Start = search in times_fits s.requires.1.depth s.requires.0.heading.across (lit≤ tt) (lit≤ tt) (lit≤ tt)

sub-t6 : tie.Need-overflow_sub-result
sub-t6 c =
    let s : tie.Start = search in
    let d = s.requires.0.heading in
    let p = s.requires.1 in
    fits-difference p.across d.depth p.depth d.across

mul-t7 : tie.Need-overflow_mul-result-3
mul-t7 c = let s : tie.Start = search in times_fits s.requires.1.up s.requires.0.heading.depth (lit≤ tt) (lit≤ tt) (lit≤ tt)

mul-t8 : tie.Need-overflow_mul-result-4
mul-t8 c = let s : tie.Start = search in times_fits s.requires.1.depth s.requires.0.heading.up (lit≤ tt) (lit≤ tt) (lit≤ tt)

sub-t9 : tie.Need-overflow_sub-result-2
sub-t9 c =
    let s : tie.Start = search in
    let d = s.requires.0.heading in
    let p = s.requires.1 in
    fits-difference p.up d.depth p.depth d.up

mul-t10 : tie.Need-overflow_mul-result-5
mul-t10 c = let s : tie.Start = search in times_fits s.requires.0.ahead s.requires.1.depth (lit≤ tt) (lit≤ tt) (lit≤ tt)

returns : tie.Need-returns
returns c =
    let s : tie.Start = search in
    let d = s.requires.0.heading in
    let p = s.requires.1 in (
      (λ i. record {
        across = difference-told p.across d.depth p.depth d.across i;
        up = difference-told p.up d.depth p.depth d.up i;
        depth = times_read s.requires.0.ahead p.depth (lit≤ tt) (lit≤ tt) (lit≤ tt) i;
      }),
      record {
        across = difference-sized p.across d.depth p.depth d.across;
        up = difference-sized p.up d.depth p.depth d.up;
      },
    )

pub sheared_spec : {M : Type 1} → statement M
sheared_spec =
    tie.close
    (tie.spec
    mul-t4
    mul-t5
    sub-t6
    mul-t7
    mul-t8
    sub-t9
    mul-t10
    returns)
