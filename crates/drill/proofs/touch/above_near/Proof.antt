-- `drill::touch::above_near` meets its contract. Assumes nothing.
use Rattle.drill.proofs.Laws.{word_times, fits_wide, sized_as}
use Rattle.wide_integers.proofs.OperationLaws.{middling}
use Rattle.wide_integers.proofs.Reading.{widen, product_size, difference_size}
use Rattle.wide_integers.proofs.Polynomials.{times_comm}
use Rattle.wide_integers.specs.Value.{value}
use Rattle.wide_integers.specs.Sizes.{Sized}
use lib.IntN.{◌-ℤ◌, ◌*ℤ◌}
use lib.Dec.{lit<, lit≤}
use Prim.Native.Nat.{◌^◌}
use mathlib.Core.Path.{◌≡◌, ◌∙◌}
use Rattle.drill.proofs.touch.above_near.Statement.{statement}
use Rattle.drill.proofs.touch.above_near.Tie as tie

times-requires : tie.Need-times-requires
times-requires c κs = let s : tie.Start = search in middling s.requires.1.1 (lit< tt)

abbrev begun : tie.After-times → tie.Start
begun k = search

known : (k : tie.After-times) → let v = (begun k).args in value v.t -ℤ value k.times.result ≡ value v.t -ℤ v.near *ℤ value v.w
known k =
    let s : tie.Start = search in
    let w = value s.args.w in
    let e = word_times w s.ranges.near k.times.ensures ∙ times_comm w s.args.near in
    λ i. value s.args.t -ℤ e i

size : (s : tie.Start) → let v = s.args in Sized (2 ^ 126) (value v.t -ℤ v.near *ℤ value v.w)
size s = widen (difference_size s.requires.0 (product_size s.requires.1.0 s.requires.1.1)) (lit≤ tt)

difference-requires : tie.Need-difference-requires
difference-requires c κs = let s : tie.Start = search in fits_wide (known c) (size s) (lit< tt)

returns : tie.Need-returns
returns c =
    let (s, k) : tie.Start × tie.After-times = search in
    let e = c.difference.ensures ∙ known k in (e, sized_as e (size s))

pub above_near_spec : {M : Type 1} → statement M
above_near_spec =
    tie.close
    (tie.spec times-requires difference-requires returns)
