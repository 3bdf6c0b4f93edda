-- `drill::corner::under` meets its contract. Assumes nothing.
use Rattle.drill.proofs.Laws.{word_times, fits_wide, sized_as}
use Rattle.exact_triangle.specs.Line.{parts}
use Rattle.wide_integers.proofs.Reading.{widen, product_size, difference_size}
use Rattle.wide_integers.specs.Value.{value}
use Rattle.wide_integers.specs.Sizes.{Sized}
use lib.IntN.{pos, ◌-ℤ◌, ◌*ℤ◌}
use lib.Dec.{lit<, lit≤}
use Prim.Native.Nat.{◌^◌}
use mathlib.Core.Path.{◌≡◌, ◌∙◌}
use borrow.Author.Rules.{rules}
use Rattle.drill.proofs.corner.under.Statement.{statement}
use Rattle.drill.proofs.corner.under.Tie as tie

parts-sized : Sized (2 ^ 30) (pos parts)
parts-sized = record { size = lit≤ tt }

abbrev begun : tie.After-product → tie.Start
begun k = search

known : (k : tie.After-product) → let v = (begun k).args in
    value v.far -ℤ value k.product.result ≡ value v.far -ℤ pos parts *ℤ v.height
known k =
    let s : tie.Start = search in
    let e = word_times (pos parts) s.ranges.height k.product.ensures in
    λ i. value s.args.far -ℤ e i

size : (s : tie.Start) → let v = s.args in Sized (2 ^ 94) (value v.far -ℤ pos parts *ℤ v.height)
size s = widen (difference_size s.requires.1 (product_size parts-sized s.requires.0)) (lit≤ tt)

difference-requires : tie.Need-difference-requires
difference-requires c κs = let s : tie.Start = search in fits_wide (known c) (size s) (lit< tt)

returns : tie.Need-returns
returns c =
    let (s, k) : tie.Start × tie.After-product = search in
    let e = c.difference.ensures ∙ known k in (e, sized_as e (size s))

pub under_spec : {M : Type 1} → statement M
under_spec =
    tie.close
    (tie.spec
    (λ c κs. search rules)  -- product-requires
    difference-requires
    returns)
