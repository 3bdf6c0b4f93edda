-- `wide_integers::division::careful` meets its contract. Assumes nothing.
use Rattle.std.proofs.Common.{ℕ, ◌+◌, ◌-◌, ◌<◌, ◌≤◌, sym, ◌∙◌, subst, arith, lit<, rules, leb-false, leb-true}
use Rattle.wide_integers.specs.Division.{magnitude, Counts, Grows}
use Rattle.wide_integers.proofs.NaturalLaws.{magnitude_is, counted, difference_held, difference_counts, at_most_counts}
use Rattle.wide_integers.proofs.QuotientLaws.{ready, over_held, over_less, over_rounds}
use Rattle.wide_integers.proofs.QuotientLaws.{under_held, rest_held, under_less, under_rounds}
use Rattle.wide_integers.proofs.division.careful.Statement.{statement}
use Rattle.wide_integers.proofs.division.careful.Tie as tie

-- ---- t is at least w
abbrev then-start : tie.Then-at_most → tie.Start
then-start t = search

at_least : (t : tie.Then-at_most) → magnitude (then-start t).args.w ≤ magnitude (then-start t).args.t
at_least t =
    let (s, a) : tie.Start × tie.After-at_most = search in
    leb-true (magnitude s.args.w) (magnitude s.args.t)
    (sym (at_most_counts s.requires.1.counts s.requires.0.counts a.at_most.ensures) ∙ t.if-at_most.true)

doubled-requires : tie.Need-doubled-up-requires
doubled-requires c κs =
    let s : tie.Start = search in
    record { start = s.requires.1; limit = s.requires.0.counts; most = at_least c }

difference-requires : tie.Need-difference-rest-requires
difference-requires c κs =
    let s : tie.Start = search in
    over_held c.doubled-up.result s.requires.0.counts c.doubled-up.ensures

digits-requires : tie.Need-digits-requires
digits-requires c κs =
    let (s, u) : tie.Start × tie.After-doubled-up = search in
    over_less u.doubled-up.result s.requires.0.counts u.doubled-up.ensures c.difference-rest.result c.difference-rest.ensures

add-assembled : tie.Need-overflow_add-up
add-assembled c =
    let u : tie.After-doubled-up = search in
    let f = u.doubled-up.ensures.few in
    record { fits = omega (arith, f) }

assembled-requires : tie.Need-assembled-requires
assembled-requires c κs =
    let (u, d) : tie.After-doubled-up × tie.After-digits = search in
    let f = u.doubled-up.ensures.few in
    (ready (counted u.doubled-up.ensures.whole) d.digits.ensures, few u.doubled-up.result.power f)
  where
    few : (n : ℕ) → n < 191 → n + 1022 ≤ 1500
    few n h = omega (arith, h)

returns : tie.Need-returns-then-at_most
returns c =
    let (s, u, r, d) : tie.Start × tie.After-doubled-up × tie.After-difference-rest × tie.After-digits = search in
    c.assembled.ensures
    ∙ sym (over_rounds u.doubled-up.result s.requires.0.counts u.doubled-up.ensures r.difference-rest.result r.difference-rest.ensures
    d.digits.result s.requires.1.positive d.digits.ensures)

-- ---- t is below w
abbrev else-start : tie.Else-at_most → tie.Start
else-start e = search

under : (e : tie.Else-at_most) → magnitude (else-start e).args.t < magnitude (else-start e).args.w
under e =
    let (s, a) : tie.Start × tie.After-at_most = search in
    leb-false (magnitude s.args.w) (magnitude s.args.t)
    (sym (at_most_counts s.requires.1.counts s.requires.0.counts a.at_most.ensures) ∙ e.if-at_most.false)

one : (o : tie.After-of_i64) → Counts o.of_i64.result 1
one o = record { is = o.of_i64.ensures; small = lit< tt }

difference-requires-2 : tie.Need-difference-requires
difference-requires-2 c κs =
    let s : tie.Start = search in
    difference_held s.requires.1.counts (one c) s.requires.1.positive

-- w - 1
abbrev limit-start : tie.After-difference → tie.Start
limit-start d = search

limit : (d : tie.After-difference) → Counts d.difference.result (magnitude (limit-start d).args.w - 1)
limit d =
    let (s, o) : tie.Start × tie.After-of_i64 = search in
    difference_counts s.requires.1.counts (one o) s.requires.1.positive d.difference.ensures

doubled-requires-2 : tie.Need-doubled-up-requires-2
doubled-requires-2 c κs =
    let (s, e) : tie.Start × tie.Else-at_most = search in
    let l = limit c in
    record {
      start = s.requires.0;
      limit = counted l;
      most = subst (λ (n : ℕ). magnitude s.args.t ≤ n) (sym (magnitude_is l))
          (less (magnitude s.args.t) (magnitude s.args.w) (under e));
    }
  where
    less : (t w : ℕ) → t < w → t ≤ w - 1
    less t w h = omega (arith, h)

abbrev grown-start : tie.After-doubled-up-2 → tie.Start
grown-start u = search

grows : (u : tie.After-doubled-up-2)
    → Grows (magnitude (grown-start u).args.w - 1) (magnitude (grown-start u).args.t) u.doubled-up-2.result
grows u =
    let (s, d) : tie.Start × tie.After-difference = search in
    subst (λ (n : ℕ). Grows n (magnitude s.args.t) u.doubled-up-2.result) (magnitude_is (limit d)) u.doubled-up-2.ensures

difference-requires-3 : tie.Need-difference-room-requires
difference-requires-3 c κs =
    let s : tie.Start = search in
    under_held c.doubled-up-2.result s.requires.1.counts s.requires.1.positive (grows (search))

difference-requires-4 : tie.Need-difference-rest-requires-2
difference-requires-4 c κs =
    let (s, u) : tie.Start × tie.After-doubled-up-2 = search in
    rest_held u.doubled-up-2.result s.requires.1.counts s.requires.1.positive (grows u) c.difference-room.result c.difference-room.ensures

digits-requires-2 : tie.Need-digits-requires-2
digits-requires-2 c κs =
    let (s, u, r) : tie.Start × tie.After-doubled-up-2 × tie.After-difference-room = search in
    under_less u.doubled-up-2.result s.requires.1.counts s.requires.1.positive (grows u) r.difference-room.result r.difference-room.ensures
    c.difference-rest-2.result c.difference-rest-2.ensures

sub-assembled : tie.Need-overflow_sub-up
sub-assembled c =
    let u : tie.After-doubled-up-2 = search in
    let f = u.doubled-up-2.ensures.few in
    few u.doubled-up-2.result.power f
  where
    few : (n : ℕ) → n < 191 → n ≤ 1021
    few n h = omega (arith, h)

assembled-requires-2 : tie.Need-assembled-requires-2
assembled-requires-2 c κs =
    let (s, u, d) : tie.Start × tie.After-doubled-up-2 × tie.After-digits-2 = search in
    (ready s.requires.1.counts d.digits-2.ensures, few u.doubled-up-2.result.power)
  where
    few : (n : ℕ) → 1021 - n ≤ 1500
    few n = omega arith

returns-2 : tie.Need-returns
returns-2 c =
    let (s, u, r, t, d) : tie.Start × tie.After-doubled-up-2 × tie.After-difference-room × tie.After-difference-rest-2
    × tie.After-digits-2 = search in
    c.assembled-2.ensures
    ∙ sym (under_rounds u.doubled-up-2.result s.requires.1.counts s.requires.1.positive (grows u) r.difference-room.result
    r.difference-room.ensures t.difference-rest-2.result t.difference-rest-2.ensures d.digits-2.result d.digits-2.ensures)

pub careful_spec : {M : Type 1} → statement M
careful_spec =
    tie.close
    (tie.spec
    (search rules)  -- at_most-requires
    doubled-requires
    difference-requires
    digits-requires
    add-assembled
    assembled-requires
    returns
    (search rules)  -- of_i64-requires
    difference-requires-2
    doubled-requires-2
    difference-requires-3
    difference-requires-4
    digits-requires-2
    sub-assembled
    assembled-requires-2
    returns-2)
