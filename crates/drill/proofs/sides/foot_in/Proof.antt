-- `drill::sides::foot_in` meets its contract. Assumes nothing.
use Rattle.drill.proofs.SideTests.{foot_i, foot_j, foot_first, foot_second, foot_far, foot_low, foot_is}
use Rattle.drill.proofs.Laws.{negative_off, negative_on}
use Rattle.drill.specs.Code.{from_axis_of}
use Rattle.drill.specs.Drill.{dot}
use Rattle.drill.specs.Decision.{FromAxis, cross}
use Rattle.wide_integers.specs.LongValue.{long_value}
use Rattle.wide_integers.proofs.OperationLaws.{at_most_told}
use Rattle.wide_integers.proofs.Reading.{bits_back, widen}
use Rattle.lists.proofs.JoinedTests.{test_passed, test_failed}
use lib.Signed.{lt_z, le_z}
use lib.Dec.{lit≤}
use lib.IntN.{ℤ, pos, ◌+ℤ◌, ◌*ℤ◌}
use Prim.Native.Nat.{ℕ, ◌*◌}
use mathlib.Core.Bool.{true, not}
use mathlib.Core.Path.{◌≡◌, ap, ◌∙◌}
use borrow.Author.Rules.{rules}
use Rattle.drill.proofs.sides.foot_in.Statement.{statement}
use Rattle.drill.proofs.sides.foot_in.Tie as tie

abbrev cornerP : tie.Start → FromAxis
cornerP s = from_axis_of s.args.p

abbrev cornerQ : tie.Start → FromAxis
cornerQ s = from_axis_of s.args.q

-- (p × q) · d
abbrev turn : tie.Start → ℤ
turn s = dot (cross (cornerP s).at (cornerQ s).at) s.args.d

-- the first two tests
first-is : (k : tie.After-is_positive) → let s : tie.Start = search in k.is_positive.result ≡ lt_z (pos 0) (foot_i (cornerP s) (cornerQ s))
first-is k =
    let w : tie.After-foot_of-weights = search in
    k.is_positive.ensures ∙ ap (λ (z : ℤ). lt_z (pos 0) z) w.foot_of-weights.ensures.first

second_is : (k : tie.After-is_positive-2) → let s : tie.Start = search in k.is_positive-2.result ≡ lt_z (pos 0)
    (foot_j (cornerP s) (cornerQ s))
second_is k =
    let w : tie.After-foot_of-weights = search in
    k.is_positive-2.ensures ∙ ap (λ (z : ℤ). lt_z (pos 0) z) w.foot_of-weights.ensures.second

returns : tie.Need-returns-then-not-is_positive
returns c =
    let (s, k) : tie.Start × tie.After-is_positive = search in
    λ ρ e. foot_first ρ s.args.d (cornerP s) (cornerQ s) (test_failed (first-is k) c.if-not-is_positive.true)

first_on : (t : tie.Else-not-is_positive) → let s : tie.Start = search in lt_z (pos 0) (foot_i (cornerP s) (cornerQ s)) ≡ true
first_on t = let k : tie.After-is_positive = search in test_passed (first-is k) t.if-not-is_positive.false

returns-2 : tie.Need-returns-then-not-is_positive-2
returns-2 c =
    let (s, t, k) : tie.Start × tie.Else-not-is_positive × tie.After-is_positive-2 = search in
    λ ρ e. foot_second ρ s.args.d (cornerP s) (cornerQ s) (first_on t) (test_failed (second_is k) c.if-not-is_positive-2.true)

second-on : (t : tie.Else-not-is_positive-2) → let s : tie.Start = search in lt_z (pos 0) (foot_j (cornerP s) (cornerQ s)) ≡ true
second-on t = let k : tie.After-is_positive-2 = search in test_passed (second_is k) t.if-not-is_positive-2.false

-- the distance
foot-near-requires : tie.Need-foot_near-requires
foot-near-requires c κs =
    let (s, w) : tie.Start × tie.After-foot_of-weights = search in
    (((s.requires.0, s.requires.1.0.at), s.requires.1.1.at), (w.foot_of-weights.ensures.first_size, w.foot_of-weights.ensures.second_size))

near-is : (k : tie.After-foot_near) → let s : tie.Start = search in (ρ : ℕ) → s.args.area ≡ pos (ρ * ρ)
    → k.foot_near.result ≡ le_z (turn s *ℤ turn s) (pos (ρ * ρ) *ℤ (foot_i (cornerP s) (cornerQ s) +ℤ foot_j (cornerP s) (cornerQ s)))
near-is k =
    let (s, f) : tie.Start × tie.After-foot_of-weights = search in
    λ ρ e. k.foot_near.ensures
    ∙ (λ i. le_z (turn s *ℤ turn s)
    ((bits_back s.ranges.area ∙ e) i *ℤ (f.foot_of-weights.ensures.first i +ℤ f.foot_of-weights.ensures.second i)))

returns-3 : tie.Need-returns-then-not-foot_near
returns-3 c =
    let (s, t, u, k) : tie.Start × tie.Else-not-is_positive × tie.Else-not-is_positive-2 × tie.After-foot_near = search in
    λ ρ e. foot_far ρ s.args.d (cornerP s) (cornerQ s) (first_on t) (second-on u) (test_failed (near-is k ρ e) c.if-not-foot_near.true)

-- between the caps
pair-requires : tie.Need-pair-low-requires
pair-requires c κs =
    let (s, w) : tie.Start × tie.After-foot_of-weights = search in
    let e = w.foot_of-weights.ensures in (
      (widen e.first_size (lit≤ tt), widen s.requires.1.0.low (lit≤ tt)),
      (widen e.second_size (lit≤ tt), widen s.requires.1.1.low (lit≤ tt)),
    )

low-is : (k : tie.After-pair-low) → let s : tie.Start = search in
    long_value k.pair-low.result ≡ foot_i (cornerP s) (cornerQ s) *ℤ (cornerP s).low +ℤ foot_j (cornerP s) (cornerQ s) *ℤ (cornerQ s).low
low-is k =
    let (s, w) : tie.Start × tie.After-foot_of-weights = search in
    k.pair-low.ensures ∙ (λ i. w.foot_of-weights.ensures.first i *ℤ (cornerP s).low +ℤ w.foot_of-weights.ensures.second i *ℤ
    (cornerQ s).low)

low-test : (k : tie.After-is_negative) → let s : tie.Start = search in
    k.is_negative.result ≡ lt_z (foot_i (cornerP s) (cornerQ s) *ℤ (cornerP s).low +ℤ foot_j (cornerP s) (cornerQ s) *ℤ (cornerQ s).low)
    (pos 0)
low-test k =
    let p : tie.After-pair-low = search in
    k.is_negative.ensures ∙ ap (λ (z : ℤ). lt_z z (pos 0)) (low-is p)

returns-4 : tie.Need-returns-then-is_negative
returns-4 c =
    let (s, t, u, k) : tie.Start × tie.Else-not-is_positive × tie.Else-not-is_positive-2 × tie.After-is_negative = search in
    let p = cornerP s in
    let q = cornerQ s in
    λ ρ e. foot_low ρ s.args.d p q (first_on t) (second-on u)
    (negative_off (foot_i p q *ℤ p.low +ℤ foot_j p q *ℤ q.low) (low-test k) c.if-is_negative.true)

pair-requires-2 : tie.Need-pair-high-requires
pair-requires-2 c κs =
    let (s, w) : tie.Start × tie.After-foot_of-weights = search in
    let e = w.foot_of-weights.ensures in (
      (widen e.first_size (lit≤ tt), widen s.requires.1.0.high (lit≤ tt)),
      (widen e.second_size (lit≤ tt), widen s.requires.1.1.high (lit≤ tt)),
    )

high_is : (k : tie.After-pair-high) → let s : tie.Start = search in
    long_value k.pair-high.result ≡ foot_i (cornerP s) (cornerQ s) *ℤ (cornerP s).high +ℤ foot_j (cornerP s) (cornerQ s) *ℤ (cornerQ s).high
high_is k =
    let (s, w) : tie.Start × tie.After-foot_of-weights = search in
    k.pair-high.ensures ∙ (λ i. w.foot_of-weights.ensures.first i *ℤ (cornerP s).high +ℤ w.foot_of-weights.ensures.second i *ℤ
    (cornerQ s).high)

returns-5 : tie.Need-returns
returns-5 c =
    let (s, t, u, n, v, m, w, h) : tie.Start × tie.Else-not-is_positive × tie.Else-not-is_positive-2 × tie.After-foot_near
    × tie.Else-not-foot_near × tie.After-is_negative × tie.Else-is_negative
    × tie.After-pair-high = search in
    let p = cornerP s in
    let q = cornerQ s in
    λ ρ e. foot_is ρ s.args.d p q (first_on t) (second-on u) (test_passed (near-is n ρ e) v.if-not-foot_near.false)
    (negative_on (foot_i p q *ℤ p.low +ℤ foot_j p q *ℤ q.low) (low-test m) w.if-is_negative.false)
    (ap not (c.is_negative-2.ensures ∙ ap (λ (z : ℤ). lt_z z (pos 0)) (high_is h))
    ∙ at_most_told (pos 0) (foot_i p q *ℤ p.high +ℤ foot_j p q *ℤ q.high))

pub foot_in_spec : {M : Type 1} → statement M
foot_in_spec =
    tie.close
    (tie.spec
    (λ c κs. search rules)  -- foot_of-weights-requires
    (λ c κs. search rules)  -- is_positive-requires
    returns
    (λ c κs. search rules)  -- is_positive-requires-2
    returns-2
    foot-near-requires
    returns-3
    pair-requires
    (λ c κs. search rules)  -- is_negative-requires
    returns-4
    pair-requires-2
    (λ c κs. search rules)  -- is_negative-requires-2
    returns-5)
