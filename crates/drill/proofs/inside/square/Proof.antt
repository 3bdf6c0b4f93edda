-- `drill::inside::square` meets its contract. Assumes nothing.
use Rattle.drill.proofs.Laws.{fits_wide}
use Rattle.wide_integers.proofs.OperationLaws.{held}
use Rattle.wide_integers.proofs.Reading.{widen, product_size, sum_size}
use Rattle.wide_integers.specs.Sizes.{Sized}
use Rattle.wide_integers.specs.Value.{value, FitsWide}
use lib.IntN.{ℤ, ◌+ℤ◌, ◌*ℤ◌}
use lib.Dec.{lit<, lit≤}
use Prim.Native.Nat.{◌*◌, ◌^◌}
use mathlib.Core.Path.{◌≡◌, ◌∙◌}
use Rattle.drill.proofs.inside.square.Statement.{statement}
use Rattle.drill.proofs.inside.square.Tie as tie

one : {z : ℤ} → Sized (2 ^ 94) z → Sized (2 ^ 94 * 2 ^ 94) (z *ℤ z)
one h = product_size h h

both : {z : ℤ} → Sized (2 ^ 94) z → (Sized (2 ^ 126) z × Sized (2 ^ 126) z) × FitsWide (z *ℤ z)
both h = ((widen h (lit≤ tt), widen h (lit≤ tt)), held (one h) (lit< tt))

short-pair-product-requires : tie.Need-short_pair_product-requires
short-pair-product-requires c κs = let s : tie.Start = search in both s.requires.x

short-pair-product-requires-2 : tie.Need-short_pair_product-requires-2
short-pair-product-requires-2 c κs = let s : tie.Start = search in both s.requires.y

abbrev begun : tie.After-short_pair_product-2 → tie.Start
begun k = search

two_is : (k : tie.After-short_pair_product-2) → let g = (begun k).args.g in
    value k.short_pair_product.result +ℤ value k.short_pair_product-2.result
    ≡ value g.x *ℤ value g.x +ℤ value g.y *ℤ value g.y
two_is k = λ i. k.short_pair_product.ensures i +ℤ k.short_pair_product-2.ensures i

sum-requires : tie.Need-sum-requires
sum-requires c κs =
    let s : tie.Start = search in
    fits_wide (two_is c) (sum_size (one s.requires.x) (one s.requires.y)) (lit< tt)

short-pair-product-requires-3 : tie.Need-short_pair_product-requires-3
short-pair-product-requires-3 c κs = let s : tie.Start = search in both s.requires.z

abbrev start : tie.After-short_pair_product-3 → tie.Start
start k = search

abbrev first : tie.After-short_pair_product-3 → tie.After-sum
first k = search

known : (k : tie.After-short_pair_product-3) → let g = (start k).args.g in
    value (first k).sum.result +ℤ value k.short_pair_product-3.result
    ≡ value g.x *ℤ value g.x +ℤ value g.y *ℤ value g.y +ℤ value g.z *ℤ value g.z
known k =
    let (p, t) : tie.After-sum × tie.After-short_pair_product-2 = search in
    λ i. (p.sum.ensures ∙ two_is t) i +ℤ k.short_pair_product-3.ensures i

sum-requires-2 : tie.Need-sum-requires-2
sum-requires-2 c κs =
    let s : tie.Start = search in
    fits_wide (known c) (sum_size (sum_size (one s.requires.x) (one s.requires.y)) (one s.requires.z)) (lit< tt)

returns : tie.Need-returns
returns c = let k : tie.After-short_pair_product-3 = search in c.sum-2.ensures ∙ known k

pub square_spec : {M : Type 1} → statement M
square_spec =
    tie.close
    (tie.spec
    short-pair-product-requires
    short-pair-product-requires-2
    sum-requires
    short-pair-product-requires-3
    sum-requires-2
    returns)
