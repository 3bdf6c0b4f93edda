-- `wide_integers::division::doubled` meets its contract. The loop's invariant: the number is start · 2^power, and at most limit. The
-- measure is what
-- it falls short of. Assumes nothing.
use Rattle.std.proofs.Common.{◌-◌, arith, rules}
use Rattle.wide_integers.specs.Division.{magnitude, Counts}
use Rattle.wide_integers.proofs.DivisionLaws.{Growing, growing_first, room_held, grown_last, twice_held, growing_again, growing_less}
use Rattle.wide_integers.proofs.DivisionLaws.{few_powers}
use Rattle.wide_integers.proofs.division.doubled.Statement.{statement}
use Rattle.wide_integers.proofs.division.doubled.Tie as tie

abbrev invariant-loop : tie.invariant-loop-limit
invariant-loop limit whole₀ power₀ whole power =
    Counts limit (magnitude limit) × Growing (magnitude limit) (magnitude whole₀) power whole

abbrev decreases-loop : tie.decreases-loop-limit
decreases-loop limit whole₀ power₀ whole power = magnitude limit - magnitude whole

loop-holds : tie.Need-loop-limit-init invariant-loop decreases-loop
loop-holds c = let s : tie.Start invariant-loop decreases-loop = search in (s.requires.limit, growing_first s.requires)

difference-requires : tie.Need-difference-room-requires invariant-loop decreases-loop
difference-requires c κs =
    let a : tie.At-loop-limit invariant-loop decreases-loop = search in
    room_held a.loop-limit.invariant.0 a.loop-limit.invariant.1

returns : tie.Need-returns-then-below invariant-loop decreases-loop
returns c =
    let (a, d, b) : (tie.At-loop-limit invariant-loop decreases-loop) × (tie.After-difference-room invariant-loop decreases-loop)
    × (tie.After-below invariant-loop decreases-loop) = search in
    grown_last a.loop-limit.invariant.0 a.loop-limit.invariant.1 d.difference-room.result d.difference-room.ensures b.below.ensures
    c.if-below.true

sum-requires : tie.Need-sum-whole-requires invariant-loop decreases-loop
sum-requires c κs =
    let (a, d, b) : (tie.At-loop-limit invariant-loop decreases-loop) × (tie.After-difference-room invariant-loop decreases-loop)
    × (tie.After-below invariant-loop decreases-loop) = search in
    twice_held a.loop-limit.invariant.0 a.loop-limit.invariant.1 d.difference-room.result d.difference-room.ensures b.below.ensures
    c.if-below.false

add-power : tie.Need-overflow_add-power invariant-loop decreases-loop
add-power c =
    let a : tie.At-loop-limit invariant-loop decreases-loop = search in
    let g = a.loop-limit.invariant.1 in
    let f = few_powers _ _ g.start g.whole.small in
    record { fits = omega (arith, f) }

loop-less : tie.Need-loop-limit-smaller invariant-loop decreases-loop
loop-less c =
    let (a, d, b, e) : (tie.At-loop-limit invariant-loop decreases-loop) × (tie.After-difference-room invariant-loop decreases-loop)
    × (tie.After-below invariant-loop decreases-loop)
    × (tie.Else-below invariant-loop decreases-loop) = search in
    growing_less a.loop-limit.invariant.0 a.loop-limit.invariant.1 d.difference-room.result d.difference-room.ensures b.below.ensures
    c.sum-whole.result e.if-below.false c.sum-whole.ensures

loop-again : tie.Need-loop-limit-preserved invariant-loop decreases-loop
loop-again c =
    let (a, d, b, e) : (tie.At-loop-limit invariant-loop decreases-loop) × (tie.After-difference-room invariant-loop decreases-loop)
    × (tie.After-below invariant-loop decreases-loop)
    × (tie.Else-below invariant-loop decreases-loop) = search in (
      a.loop-limit.invariant.0,
      growing_again a.loop-limit.invariant.0 a.loop-limit.invariant.1 d.difference-room.result d.difference-room.ensures b.below.ensures
          c.sum-whole.result
          e.if-below.false c.sum-whole.ensures,
    )

pub doubled_spec : {M : Type 1} → statement M
doubled_spec =
    tie.close
    (tie.spec
    invariant-loop
    decreases-loop
    loop-holds
    difference-requires
    (search rules)  -- below-requires
    returns
    sum-requires
    add-power
    loop-less
    loop-again)
