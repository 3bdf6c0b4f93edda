-- `wide_integers::number::weighted` meets its contract. Assumes nothing.
use Rattle.std.proofs.Common.{◌≡◌, ◌*◌, ℤ, ◌+ℤ◌, ◌*ℤ◌, sym, ap, ◌∙◌, subst, lit<, w64, SFits}
use mir.ValLaws.{to_z-of_z}
use Rattle.wide_integers.specs.Sizes.{Sized}
use Rattle.wide_integers.proofs.Reading.{bits, product_size, sum_size}
use Rattle.wide_integers.specs.Value.{value, half, FitsWide, Middling, Weight}
use Rattle.wide_integers.proofs.OperationLaws.{held, middling, word_size}
use Rattle.wide_integers.proofs.number.weighted.Statement.{statement}
use Rattle.wide_integers.proofs.number.weighted.Tie as tie

-- a product, as it is told, and its size
product_is : (a : ℤ) {v x : ℤ} → SFits w64 x → v ≡ a *ℤ bits x → v ≡ a *ℤ x
product_is a {v} {x} f e = e ∙ ap (λ (z : ℤ). a *ℤ z) (to_z-of_z w64 x f)

product-held : {a x : ℤ} → Weight a → SFits w64 x → Sized (42535295865117307932921825928971026432 * half) (a *ℤ x)
product-held h f = product_size h (word_size f)

weight-middling : {a : ℤ} → Weight a → Middling a
weight-middling h = middling h (lit< tt)

times-requires : tie.Need-times-requires
times-requires c κs = let s : tie.Start = search in weight-middling s.requires.0

times-requires-2 : tie.Need-times-requires-2
times-requires-2 c κs = let s : tie.Start = search in weight-middling s.requires.1.0

-- the first two
abbrev begun : tie.After-times-2 → tie.Start
begun k = search

pair_is : (k : tie.After-times-2) → let s = (begun k).args in
    value k.times.result +ℤ value k.times-2.result ≡ value s.a *ℤ s.x +ℤ value s.b *ℤ s.y
pair_is k =
    let s : tie.Start = search in
    let e = product_is (value s.args.a) s.ranges.x k.times.ensures in
    let f = product_is (value s.args.b) s.ranges.y k.times-2.ensures in
    (λ i. e i +ℤ f i)

sum-requires : tie.Need-sum-requires
sum-requires c κs =
    let s : tie.Start = search in
    subst FitsWide (sym (pair_is c))
    (held (sum_size (product-held s.requires.0 s.ranges.x) (product-held s.requires.1.0 s.ranges.y)) (lit< tt))

times-requires-3 : tie.Need-times-requires-3
times-requires-3 c κs = let s : tie.Start = search in weight-middling s.requires.1.1

-- all three
abbrev start_of : tie.After-times-3 → tie.Start
start_of k = search

abbrev pair_of : tie.After-times-3 → tie.After-sum
pair_of k = search

all-is : (k : tie.After-times-3) → let s = (start_of k).args in
    value (pair_of k).sum.result +ℤ value k.times-3.result ≡ value s.a *ℤ s.x +ℤ value s.b *ℤ s.y +ℤ value s.c *ℤ s.z
all-is k =
    let (s, p, t) : tie.Start × tie.After-sum × tie.After-times-2 = search in
    let e = p.sum.ensures ∙ pair_is t in
    let f = product_is (value s.args.c) s.ranges.z k.times-3.ensures in
    (λ i. e i +ℤ f i)

sum-requires-2 : tie.Need-sum-requires-2
sum-requires-2 c κs =
    let s : tie.Start = search in
    subst FitsWide (sym (all-is c))
    (held (sum_size (sum_size (product-held s.requires.0 s.ranges.x) (product-held s.requires.1.0 s.ranges.y))
    (product-held s.requires.1.1 s.ranges.z)) (lit< tt))

returns : tie.Need-returns
returns c = let t : tie.After-times-3 = search in c.sum-2.ensures ∙ all-is t

pub weighted_spec : {M : Type 1} → statement M
weighted_spec = tie.close (tie.spec
    times-requires
    times-requires-2
    sum-requires
    times-requires-3
    sum-requires-2
    returns)
