-- `drill::forms::squares` meets its contract. Assumes nothing.
use Rattle.drill.proofs.Laws.{fits_long}
use Rattle.wide_integers.specs.LongValue.{long_value}
use Rattle.wide_integers.proofs.Reading.{product_size, sum_size}
use Rattle.wide_integers.specs.Value.{value}
use lib.IntN.{◌+ℤ◌, ◌*ℤ◌}
use lib.Dec.{lit<}
use mathlib.Core.Path.{◌≡◌, ◌∙◌}
use borrow.Author.Rules.{rules}
use Rattle.drill.proofs.forms.squares.Statement.{statement}
use Rattle.drill.proofs.forms.squares.Tie as tie

abbrev begun : tie.After-product-2 → tie.Start
begun k = search

two_is : (k : tie.After-product-2) → let v = (begun k).args in
    long_value k.product.result +ℤ long_value k.product-2.result
    ≡ value v.x *ℤ value v.x +ℤ value v.y *ℤ value v.y
two_is k = λ i. k.product.ensures i +ℤ k.product-2.ensures i

sum-requires : tie.Need-sum-requires
sum-requires c κs =
    let s : tie.Start = search in
    fits_long (two_is c) (sum_size (product_size s.requires.0 s.requires.0) (product_size s.requires.1.0 s.requires.1.0)) (lit< tt)

abbrev start : tie.After-product-3 → tie.Start
start k = search

abbrev first : tie.After-product-3 → tie.After-sum
first k = search

known : (k : tie.After-product-3) → let v = (start k).args in
    long_value (first k).sum.result +ℤ long_value k.product-3.result
    ≡ value v.x *ℤ value v.x +ℤ value v.y *ℤ value v.y +ℤ value v.z *ℤ value v.z
known k =
    let (p, t) : tie.After-sum × tie.After-product-2 = search in
    λ i. (p.sum.ensures ∙ two_is t) i +ℤ k.product-3.ensures i

sum-requires-2 : tie.Need-sum-requires-2
sum-requires-2 c κs =
    let s : tie.Start = search in
    fits_long (known c) (sum_size (sum_size (product_size s.requires.0 s.requires.0) (product_size s.requires.1.0 s.requires.1.0))
    (product_size s.requires.1.1 s.requires.1.1)) (lit< tt)

returns : tie.Need-returns
returns c = let k : tie.After-product-3 = search in c.sum-2.ensures ∙ known k

pub squares_spec : {M : Type 1} → statement M
squares_spec =
    tie.close
    (tie.spec
    (search rules)  -- product-requires
    (search rules)  -- product-requires-2
    sum-requires
    (search rules)  -- product-requires-3
    sum-requires-2
    returns)
