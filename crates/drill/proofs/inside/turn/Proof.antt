-- `drill::inside::turn` meets its contract. Assumes nothing.
use Rattle.drill.proofs.Laws.{fits_long}
use Rattle.wide_integers.specs.LongValue.{long_value}
use Rattle.wide_integers.proofs.Reading.{product_size, difference_size}
use Rattle.wide_integers.specs.Value.{value}
use lib.IntN.{◌-ℤ◌, ◌*ℤ◌}
use lib.Dec.{lit<}
use mathlib.Core.Path.{◌≡◌, ◌∙◌}
use Rattle.drill.proofs.inside.turn.Statement.{statement}
use Rattle.drill.proofs.inside.turn.Tie as tie

abbrev begun : tie.After-pair_product-2 → tie.Start
begun k = search

known : (k : tie.After-pair_product-2) → let v = (begun k).args in
    long_value k.pair_product.result -ℤ long_value k.pair_product-2.result
    ≡ value v.a *ℤ value v.b -ℤ value v.c *ℤ value v.d
known k = λ i. k.pair_product.ensures i -ℤ k.pair_product-2.ensures i

difference-requires : tie.Need-difference-requires
difference-requires c κs =
    let s : tie.Start = search in
    fits_long (known c) (difference_size (product_size s.requires.0.0 s.requires.0.1) (product_size s.requires.1.0 s.requires.1.1))
    (lit< tt)

returns : tie.Need-returns
returns c = let k : tie.After-pair_product-2 = search in c.difference.ensures ∙ known k

pub turn_spec : {M : Type 1} → statement M
turn_spec =
    tie.close
    (tie.spec
    (λ c κs. let s : tie.Start = search in s.requires.0)  -- pair_product-requires
    (λ c κs. let s : tie.Start = search in s.requires.1)  -- pair_product-requires-2
    difference-requires
    returns)
