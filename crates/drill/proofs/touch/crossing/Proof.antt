-- `drill::touch::crossing` meets its contract. Assumes nothing.
use Rattle.drill.proofs.Laws.{sized_as}
use Rattle.drill.specs.Decision.{cross}
use Rattle.drill.specs.Drill.{dot}
use Rattle.exact_triangle.specs.Line.{parts}
use Rattle.wide_integers.proofs.OperationLaws.{middling}
use Rattle.wide_integers.proofs.Reading.{bits_back, widen, product_size, sum_size, sized_bits}
use Rattle.wide_integers.proofs.Polynomials.{times_comm}
use Rattle.wide_integers.specs.Value.{value}
use Rattle.wide_integers.specs.Sizes.{Sized}
use lib.IntN.{ℤ, pos, ◌+ℤ◌, ◌-ℤ◌, ◌*ℤ◌}
use lib.Dec.{lit<, lit≤}
use Prim.Native.Nat.{◌*◌, ◌^◌}
use mathlib.Core.Path.{ap, ◌∙◌}
use borrow.Author.Rules.{rules}
use Rattle.drill.proofs.touch.crossing.Statement.{statement}
use Rattle.drill.proofs.touch.crossing.Tie as tie

parts-sized : Sized (2 ^ 30) (pos parts)
parts-sized = record { size = lit≤ tt }

times-requires : tie.Need-times-t-requires
times-requires c κs = let w : tie.After-weight = search in middling w.weight.ensures.1 (lit< tt)

-- 2^30 (a × b) · c, and the sum of the weights
module _ (k : tie.After-total-whole) where
  abbrev from_start : tie.Start
  from_start = search

  abbrev from-times : tie.After-times-t
  from-times = search

  abbrev from_first : tie.After-weight-i
  from_first = search

  abbrev from_second : tie.After-weight-j
  from_second = search

  abbrev from-third : tie.After-weight-k
  from-third = search

  abbrev from-fourth : tie.After-weight
  from-fourth = search

height-sized : (k : tie.After-total-whole) → Sized (3 * 2 ^ 122) (value (from-times k).times-t.result)
height-sized k =
    widen (sized_as (from-times k).times-t.ensures (product_size (from-fourth k).weight.ensures.1 parts-sized)) (lit≤ tt)

whole-sized : (k : tie.After-total-whole) → Sized (9 * 2 ^ 92) (value k.total-whole.result)
whole-sized k =
    widen (sized_as k.total-whole.ensures (sum_size (sum_size (from_first k).weight-i.ensures.1 (from_second k).weight-j.ensures.1)
    (from-third k).weight-k.ensures.1)) (lit≤ tt)

above-near-requires : tie.Need-above_near-low-requires
above-near-requires c κs =
    (height-sized c, (sized_bits (from_start c).requires.1.1.0 (lit≤ tt), whole-sized c))

below-far-requires : tie.Need-below_far-high-requires
below-far-requires c κs =
    let k : tie.After-total-whole = search in
    (height-sized k, (sized_bits (from_start k).requires.1.1.1 (lit≤ tt), whole-sized k))

returns : tie.Need-returns
returns c =
    let (k, n) : tie.After-total-whole × tie.After-above_near-low = search in
    let s = from_start k in
    let v = s.args in
    let i = (from_first k).weight-i.ensures in
    let j = (from_second k).weight-j.ensures in
    let m = (from-third k).weight-k.ensures in
    let o = (from-fourth k).weight.ensures in
    let t = (from-times k).times-t.ensures ∙ ap (λ (z : ℤ). z *ℤ pos parts) o.0 ∙ times_comm (dot (cross v.a v.b) v.c)
    (pos parts) in
    let w = k.total-whole.ensures ∙ (λ x. i.0 x +ℤ j.0 x +ℤ m.0 x) in
    let near = bits_back s.ranges.near in
    let far = bits_back s.ranges.far in (
      record {
        i = i.0;
        j = j.0;
        k = m.0;
        whole = w;
        low = n.above_near-low.ensures.0 ∙ (λ x. t x -ℤ near x *ℤ w x);
        high = c.below_far-high.ensures.0 ∙ (λ x. far x *ℤ w x -ℤ t x);
      },
      record { i = i.1; j = j.1; k = m.1; low = n.above_near-low.ensures.1; high = c.below_far-high.ensures.1 },
    )

pub crossing_spec : {M : Type 1} → statement M
crossing_spec =
    tie.close
    (tie.spec
    (λ c κs. search rules)  -- weight-i-requires
    (λ c κs. search rules)  -- weight-j-requires
    (λ c κs. search rules)  -- weight-k-requires
    (λ c κs. search rules)  -- weight-requires
    times-requires
    (λ c κs. search rules)  -- total-whole-requires
    above-near-requires
    below-far-requires
    returns)
