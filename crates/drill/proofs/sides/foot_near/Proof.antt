-- `drill::sides::foot_near` meets its contract. Assumes nothing.
use Rattle.drill.proofs.Laws.{word_times, fits_wide, middling_as, sized_as, dot_size}
use Rattle.drill.specs.Decision.{cross}
use Rattle.drill.specs.Drill.{dot}
use Rattle.exact_depth.specs.declared.projection.Point.{Point}
use Rattle.wide_integers.proofs.OperationLaws.{held}
use Rattle.wide_integers.proofs.Reading.{widen, product_size, sum_size}
use Rattle.wide_integers.proofs.Polynomials.{times_comm}
use Rattle.wide_integers.specs.Value.{value}
use Rattle.wide_integers.specs.Sizes.{Sized}
use lib.Signed.{le_z}
use lib.IntN.{ℤ, ◌+ℤ◌, ◌*ℤ◌}
use lib.Dec.{lit<, lit≤}
use Prim.Native.Nat.{◌+◌, ◌*◌, ◌^◌}
use mathlib.Core.Path.{◌≡◌, ap, ◌∙◌}
use borrow.Author.Rules.{rules}
use Rattle.drill.proofs.sides.foot_near.Statement.{statement}
use Rattle.drill.proofs.sides.foot_near.Tie as tie

abbrev begun : tie.After-dot-t → tie.Start
begun k = search

known : (k : tie.After-dot-t) → let v = (begun k).args in value k.dot-t.result ≡ dot (cross v.p v.q) v.d
known k =
    let (s, x) : tie.Start × tie.After-cross = search in
    k.dot-t.ensures ∙ ap (λ (z : Point). dot z s.args.d) x.cross.ensures.0

size : (k : tie.After-dot-t) → Sized (2 ^ 61 * 2 ^ 31 + 2 ^ 61 * 2 ^ 31 + 2 ^ 61 * 2 ^ 31) (dot k.cross.result (begun k).args.d)
size k =
    let (s, x) : tie.Start × tie.After-cross = search in
    dot_size x.cross.ensures.1 s.requires.0.0.0

short-pair-product-requires : tie.Need-short_pair_product-requires
short-pair-product-requires c κs =
    let k : tie.After-dot-t = search in
    let e = k.dot-t.ensures in
    let h = widen (sized_as e (size k)) (lit≤ tt) in
    ((h, h), fits_wide (λ i. e i *ℤ e i) (product_size (size k) (size k)) (lit< tt))

sum-requires : tie.Need-sum-requires
sum-requires c κs = let s : tie.Start = search in held (sum_size s.requires.1.0 s.requires.1.1) (lit< tt)

times-requires : tie.Need-times-requires
times-requires c κs =
    let (s, m) : tie.Start × tie.After-sum = search in
    middling_as m.sum.ensures (sum_size s.requires.1.0 s.requires.1.1) (lit< tt)

returns : tie.Need-returns
returns c =
    let (s, k, p, m, t) : tie.Start × tie.After-dot-t × tie.After-short_pair_product × tie.After-sum × tie.After-times = search in
    let v = s.args in
    let i = value v.i in
    let j = value v.j in
    let e = known k in
    c.at_most.ensures
    ∙ (λ n. le_z ((p.short_pair_product.ensures ∙ (λ h. e h *ℤ e h)) n)
    ((word_times (value m.sum.result) s.ranges.area t.times.ensures ∙ ap (λ (z : ℤ). z *ℤ v.area) m.sum.ensures
    ∙ times_comm (i +ℤ j) v.area) n))

pub foot_near_spec : {M : Type 1} → statement M
foot_near_spec =
    tie.close
    (tie.spec
    (λ c κs. search rules)  -- cross-requires
    (λ c κs. search rules)  -- dot-t-requires
    short-pair-product-requires
    sum-requires
    times-requires
    (λ c κs. search rules)  -- at_most-requires
    returns)
