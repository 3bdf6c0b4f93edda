-- `drill::forms::blend` meets its contract. Assumes nothing.
use Rattle.drill.proofs.Laws.{word_times, fits_wide, sized_as}
use Rattle.wide_integers.proofs.OperationLaws.{middling, word_size}
use Rattle.wide_integers.proofs.Reading.{widen, product_size, difference_size}
use Rattle.wide_integers.specs.Value.{value}
use Rattle.wide_integers.specs.Sizes.{Sized}
use lib.IntN.{◌-ℤ◌, ◌*ℤ◌}
use lib.Dec.{lit<, lit≤}
use Prim.Native.Nat.{◌^◌}
use mathlib.Core.Path.{◌≡◌, ◌∙◌}
use Rattle.drill.proofs.forms.blend.Statement.{statement}
use Rattle.drill.proofs.forms.blend.Tie as tie

times-requires : tie.Need-times-requires
times-requires c κs = let s : tie.Start = search in middling s.requires.0 (lit< tt)

times-requires-2 : tie.Need-times-requires-2
times-requires-2 c κs = let s : tie.Start = search in middling s.requires.1 (lit< tt)

abbrev begun : tie.After-times-2 → tie.Start
begun k = search

known : (k : tie.After-times-2) → let v = (begun k).args in
    value k.times.result -ℤ value k.times-2.result ≡ value v.f *ℤ v.w -ℤ value v.g *ℤ v.v
known k =
    let s : tie.Start = search in
    let e = word_times (value s.args.f) s.ranges.w k.times.ensures in
    let f = word_times (value s.args.g) s.ranges.v k.times-2.ensures in
    (λ i. e i -ℤ f i)

size : (s : tie.Start) → Sized (2 ^ 158) (value s.args.f *ℤ s.args.w -ℤ value s.args.g *ℤ s.args.v)
size s =
    widen (difference_size (product_size s.requires.0 (word_size s.ranges.w)) (product_size s.requires.1 (word_size s.ranges.v)))
    (lit≤ tt)

difference-requires : tie.Need-difference-requires
difference-requires c κs =
    let s : tie.Start = search in
    fits_wide (known c) (size s) (lit< tt)

returns : tie.Need-returns
returns c =
    let (s, k) : tie.Start × tie.After-times-2 = search in
    let e = c.difference.ensures ∙ known k in (e, sized_as e (size s))

pub blend_spec : {M : Type 1} → statement M
blend_spec =
    tie.close
    (tie.spec
    times-requires
    times-requires-2
    difference-requires
    returns)
