-- `wide_integers::number::determinant` meets its contract. Assumes nothing.
use Rattle.std.proofs.Common.{◌≡◌, ℤ, ◌-ℤ◌, ◌*ℤ◌, sym, ◌∙◌, subst, lit<, w64, rules}
use mir.ValLaws.{to_z-of_z}
use Rattle.wide_integers.specs.Determinant.{determinant}
use Rattle.wide_integers.proofs.Reading.{bits, product_size, difference_size}
use Rattle.wide_integers.specs.Value.{FitsWide}
use Rattle.wide_integers.proofs.OperationLaws.{held, word_size}
use Rattle.wide_integers.proofs.number.determinant.Statement.{statement}
use Rattle.wide_integers.proofs.number.determinant.Tie as tie

-- the difference of two products of what the machine reads back
told : (s : tie.Start) {x y : ℤ} → x ≡ bits s.args.a *ℤ bits s.args.d → y ≡ bits s.args.b *ℤ bits s.args.c
    → x -ℤ y ≡ determinant s.args.a s.args.b s.args.c s.args.d
told s e f =
    let a = to_z-of_z w64 s.args.a s.ranges.a in
    let b = to_z-of_z w64 s.args.b s.ranges.b in
    let c = to_z-of_z w64 s.args.c s.ranges.c in
    let d = to_z-of_z w64 s.args.d s.ranges.d in
    (λ i. e i -ℤ f i) ∙ (λ i. a i *ℤ d i -ℤ b i *ℤ c i)

small : (s : tie.Start) → FitsWide (determinant s.args.a s.args.b s.args.c s.args.d)
small s =
    held (difference_size (product_size (word_size s.ranges.a) (word_size s.ranges.d))
    (product_size (word_size s.ranges.b) (word_size s.ranges.c))) (lit< tt)

difference-requires : tie.Need-difference-requires
difference-requires c κs =
    let (s, x, y) : tie.Start × tie.After-product × tie.After-product-2 = search in
    subst FitsWide (sym (told s x.product.ensures y.product-2.ensures)) (small s)

returns : tie.Need-returns
returns c =
    let (s, x, y) : tie.Start × tie.After-product × tie.After-product-2 = search in
    c.difference.ensures ∙ told s x.product.ensures y.product-2.ensures

pub determinant_spec : {M : Type 1} → statement M
determinant_spec =
    tie.close
    (tie.spec
    (search rules)  -- product-requires
    (search rules)  -- product-requires-2
    difference-requires
    returns)
