-- `drill::touch::below_far` meets its contract. Assumes nothing.
use Rattle.drill.proofs.Laws.{word_times, fits_wide, sized_as}
use Rattle.wide_integers.proofs.OperationLaws.{middling}
use Rattle.wide_integers.proofs.Reading.{widen, product_size, difference_size}
use Rattle.wide_integers.proofs.Polynomials.{times_comm}
use Rattle.wide_integers.specs.Value.{value}
use Rattle.wide_integers.specs.Sizes.{Sized}
use lib.IntN.{◌-ℤ◌, ◌*ℤ◌}
use lib.Dec.{lit<, lit≤}
use Prim.Native.Nat.{◌^◌}
use mathlib.Core.Path.{◌≡◌, ◌∙◌}
use Rattle.drill.proofs.touch.below_far.Statement.{statement}
use Rattle.drill.proofs.touch.below_far.Tie as tie

times-requires : tie.Need-times-requires
times-requires c κs = let s : tie.Start = search in middling s.requires.1.1 (lit< tt)

abbrev begun : tie.After-times → tie.Start
begun k = search

known : (k : tie.After-times) → let v = (begun k).args in value k.times.result -ℤ value v.t ≡ v.far *ℤ value v.w -ℤ value v.t
known k =
    let s : tie.Start = search in
    let w = value s.args.w in
    let e = word_times w s.ranges.far k.times.ensures ∙ times_comm w s.args.far in
    λ i. e i -ℤ value s.args.t

size : (s : tie.Start) → let v = s.args in Sized (2 ^ 126) (v.far *ℤ value v.w -ℤ value v.t)
size s = widen (difference_size (product_size s.requires.1.0 s.requires.1.1) s.requires.0) (lit≤ tt)

difference-requires : tie.Need-difference-requires
difference-requires c κs = let s : tie.Start = search in fits_wide (known c) (size s) (lit< tt)

returns : tie.Need-returns
returns c =
    let (s, k) : tie.Start × tie.After-times = search in
    let e = c.difference.ensures ∙ known k in (e, sized_as e (size s))

pub below_far_spec : {M : Type 1} → statement M
below_far_spec =
    tie.close
    (tie.spec times-requires difference-requires returns)
