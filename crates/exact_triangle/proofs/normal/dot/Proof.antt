-- `exact_triangle::normal::dot` meets its contract. Assumes nothing.
use Rattle.std.proofs.Common.{◌≡◌, ◌+ℤ◌, ◌*ℤ◌, sym, ◌∙◌, subst, lit<, w64, SFits, rules}
use Rattle.wide_integers.proofs.Reading.{product_size, sum_size, bits_back}
use Rattle.wide_integers.specs.Value.{value, FitsWide}
use Rattle.wide_integers.proofs.OperationLaws.{held, word_size}
use Rattle.exact_triangle.proofs.normal.dot.Statement.{statement}
use Rattle.exact_triangle.proofs.normal.dot.Tie as tie

module _ (s : tie.Start) where
  nx : SFits w64 s.args.n.x
  nx = search rules

  ny : SFits w64 s.args.n.y
  ny = search rules

  nz : SFits w64 s.args.n.z
  nz = search rules

  px : SFits w64 s.args.p.x
  px = search rules

  py : SFits w64 s.args.p.y
  py = search rules

  pz : SFits w64 s.args.p.z
  pz = search rules

pair_is : (k : tie.After-product-2) → let (s, x) : tie.Start × tie.After-product = search in
    value x.product.result +ℤ value k.product-2.result ≡ s.args.n.x *ℤ s.args.p.x +ℤ s.args.n.y *ℤ s.args.p.y
pair_is k =
    let (s, x) : tie.Start × tie.After-product = search in
    (λ i. (x.product.ensures ∙ (λ j. bits_back (nx s) j *ℤ bits_back (px s) j)) i
    +ℤ (k.product-2.ensures ∙ (λ j. bits_back (ny s) j *ℤ bits_back (py s) j)) i)

sum-requires : tie.Need-sum-requires
sum-requires c κs =
    let (s, k) : tie.Start × tie.After-product-2 = search in
    subst FitsWide (sym (pair_is k))
    (held (sum_size (product_size (word_size (nx s)) (word_size (px s))) (product_size (word_size (ny s)) (word_size (py s)))) (lit< tt))

all-is : (k : tie.After-product-3) → let (s, t) : tie.Start × tie.After-sum = search in
    value t.sum.result +ℤ value k.product-3.result
    ≡ s.args.n.x *ℤ s.args.p.x +ℤ s.args.n.y *ℤ s.args.p.y +ℤ s.args.n.z *ℤ s.args.p.z
all-is k =
    let (s, t, y) : tie.Start × tie.After-sum × tie.After-product-2 = search in
    (λ i. (t.sum.ensures ∙ pair_is y) i +ℤ (k.product-3.ensures ∙ (λ j. bits_back (nz s) j *ℤ bits_back (pz s) j)) i)

sum-requires-2 : tie.Need-sum-requires-2
sum-requires-2 c κs =
    let (s, k) : tie.Start × tie.After-product-3 = search in
    subst FitsWide (sym (all-is k))
    (held (sum_size (sum_size (product_size (word_size (nx s)) (word_size (px s))) (product_size (word_size (ny s)) (word_size (py s))))
    (product_size (word_size (nz s)) (word_size (pz s)))) (lit< tt))

returns : tie.Need-returns
returns c = let k : tie.After-product-3 = search in c.sum-2.ensures ∙ all-is k

pub dot_spec : {M : Type 1} → statement M
dot_spec =
    tie.close
    (tie.spec
    (search rules)  -- product-requires
    (search rules)  -- product-requires-2
    sum-requires
    (search rules)  -- product-requires-3
    sum-requires-2
    returns)
