-- `drill::touch::plane_in` meets its contract. Assumes nothing.
use Rattle.drill.proofs.Touching.{plane_forward, plane_backward, plane_level}
use Rattle.drill.specs.Code.{Drills, from_axis_of, whole_of, low_of, high_of, near_of, far_of, plane_of}
use Rattle.drill.specs.Decision.{cross, FromAxis, nearest_in}
use Rattle.drill.specs.Drill.{dot}
use Rattle.exact_triangle.specs.Line.{parts, Line}
use Rattle.exact_depth.specs.declared.projection.Point.{Point}
use Rattle.wide_integers.proofs.Reading.{plain, widen, sized_bits}
use Rattle.wide_integers.specs.Value.{value}
use lib.Signed.{lt_z}
use lib.IntN.{ℤ, pos, neg_ℤ, ◌+ℤ◌, ◌-ℤ◌, ◌*ℤ◌}
use lib.Dec.{lit≤}
use Prim.Native.Nat.{ℕ}
use mathlib.Core.Bool.{Bool}
use mathlib.Core.Path.{◌≡◌, sym, ap, ◌∙◌}
use borrow.Author.Rules.{rules}
use Rattle.drill.proofs.touch.plane_in.Statement.{statement}
use Rattle.drill.proofs.touch.plane_in.Tie as tie

module _ (s : tie.Start) where
  abbrev A : FromAxis
  A = from_axis_of s.args.t.a

  abbrev B : FromAxis
  B = from_axis_of s.args.t.b

  abbrev C : FromAxis
  C = from_axis_of s.args.t.c

crossing-requires : tie.Need-crossing-p-requires
crossing-requires c κs =
    let s : tie.Start = search in
    let k = s.requires.0 in (
      (s.requires.1.0.at, (s.requires.1.1.0.at, s.requires.1.1.1.at)),
      (k.direction, (sized_bits k.start (lit≤ tt), sized_bits k.end (lit≤ tt))),
    )

abbrev begun : tie.After-crossing-p → tie.Start
begun k = search

-- what the crossing is, over the line and the radius
module _ (k : tie.After-crossing-p) (l : Line) (ρ : ℕ) (o : Drills (begun k).args.t.drill l ρ) where
  abbrev a : Point
  a = (A (begun k)).at

  abbrev b : Point
  b = (B (begun k)).at

  abbrev c : Point
  c = (C (begun k)).at

  i-as : value k.crossing-p.result.i ≡ dot (cross b c) l.direction
  i-as = k.crossing-p.ensures.0.i ∙ ap (λ (z : Point). dot (cross b c) z) o.direction

  j-as : value k.crossing-p.result.j ≡ dot (cross c a) l.direction
  j-as = k.crossing-p.ensures.0.j ∙ ap (λ (z : Point). dot (cross c a) z) o.direction

  k_as : value k.crossing-p.result.k ≡ dot (cross a b) l.direction
  k_as = k.crossing-p.ensures.0.k ∙ ap (λ (z : Point). dot (cross a b) z) o.direction

  whole-as : value k.crossing-p.result.whole ≡ whole_of l (A (begun k)) (B (begun k)) (C (begun k))
  whole-as =
      let d = o.direction in
      k.crossing-p.ensures.0.whole ∙ (λ x. dot (cross b c) (d x) +ℤ dot (cross c a) (d x) +ℤ dot (cross a b) (d x))

  low-as : value k.crossing-p.result.low ≡ low_of l (A (begun k)) (B (begun k)) (C (begun k))
  low-as =
      let d = o.direction in
      let n = plain (widen (begun k).requires.0.start (lit≤ tt)) ∙ o.start in
      k.crossing-p.ensures.0.low
      ∙ (λ x. pos parts *ℤ dot (cross a b) c -ℤ n x *ℤ (dot (cross b c) (d x) +ℤ dot (cross c a) (d x) +ℤ dot (cross a b) (d x)))

  high-as : value k.crossing-p.result.high ≡ high_of l (A (begun k)) (B (begun k)) (C (begun k))
  high-as =
      let d = o.direction in
      let n = plain (widen (begun k).requires.0.end (lit≤ tt)) ∙ o.end in
      k.crossing-p.ensures.0.high
      ∙ (λ x. n x *ℤ (dot (cross b c) (d x) +ℤ dot (cross c a) (d x) +ℤ dot (cross a b) (d x)) -ℤ pos parts *ℤ dot (cross a b) c)

  abbrev near : Bool
  near = near_of l ρ (A (begun k)) (B (begun k)) (C (begun k))

  abbrev far : Bool
  far = far_of l ρ (A (begun k)) (B (begun k)) (C (begun k))

abbrev pierced : tie.After-is_positive → tie.After-crossing-p
pierced p = search

above_as : (p : tie.After-is_positive) (l : Line) (ρ : ℕ) → let s = begun (pierced p) in Drills s.args.t.drill l ρ
    → lt_z (pos 0) (whole_of l (A s) (B s) (C s)) ≡ p.is_positive.result
above_as p l ρ o = sym (p.is_positive.ensures ∙ ap (λ (z : ℤ). lt_z (pos 0) z) (whole-as (pierced p) l ρ o))

module _ (p : tie.After-is_positive) (l : Line) (ρ : ℕ) where
  abbrev I : ℤ
  I = dot (cross (B (begun (pierced p))).at (C (begun (pierced p))).at) l.direction

  abbrev J : ℤ
  J = dot (cross (C (begun (pierced p))).at (A (begun (pierced p))).at) l.direction

  abbrev K : ℤ
  K = dot (cross (A (begun (pierced p))).at (B (begun (pierced p))).at) l.direction

  abbrev F : ℤ
  F = low_of l (A (begun (pierced p))) (B (begun (pierced p))) (C (begun (pierced p)))

  abbrev H : ℤ
  H = high_of l (A (begun (pierced p))) (B (begun (pierced p))) (C (begun (pierced p)))

returns : tie.Need-returns-then-is_positive
unfolding plane_of
returns c =
    let (p, t, n) : tie.After-is_positive × tie.Then-is_positive × tie.After-crossed_forward = search in
    let k = pierced p in
    λ l ρ o.
    let i = i-as k l ρ o in
    let j = j-as k l ρ o in
    let m = k_as k l ρ o in
    let low = low-as k l ρ o in
    let high = high-as k l ρ o in
    plane_forward (near k l ρ o) (far k l ρ o) (I p l ρ) (J p l ρ) (K p l ρ) (F p l ρ) (H p l ρ) (above_as p l ρ o ∙ t.if-is_positive.true)
    (n.crossed_forward.ensures l ρ o low high ∙ (λ x. nearest_in (near k l ρ o) (far k l ρ o) (i x) (j x) (m x) (low x) (high x)))

below_as : (q : tie.After-is_negative) → let p : tie.After-is_positive = search in let s = begun (pierced p) in
    (l : Line) (ρ : ℕ) → Drills s.args.t.drill l ρ → lt_z (whole_of l (A s) (B s) (C s)) (pos 0) ≡ q.is_negative.result
below_as q =
    let p : tie.After-is_positive = search in
    λ l ρ o. sym (q.is_negative.ensures ∙ ap (λ (z : ℤ). lt_z z (pos 0)) (whole-as (pierced p) l ρ o))

returns-2 : tie.Need-returns-then-is_negative
unfolding plane_of
returns-2 c =
    let (p, t, q, u, n) : tie.After-is_positive × tie.Else-is_positive × tie.After-is_negative × tie.Then-is_negative
    × tie.After-crossed_backward = search in
    let k = pierced p in
    λ l ρ o.
    let i = i-as k l ρ o in
    let j = j-as k l ρ o in
    let m = k_as k l ρ o in
    let low = low-as k l ρ o in
    let high = high-as k l ρ o in
    plane_backward (near k l ρ o) (far k l ρ o) (I p l ρ) (J p l ρ) (K p l ρ) (F p l ρ) (H p l ρ)
    (above_as p l ρ o ∙ t.if-is_positive.false)
    (below_as q l ρ o ∙ u.if-is_negative.true)
    (n.crossed_backward.ensures l ρ o low high
    ∙ (λ x. nearest_in (near k l ρ o) (far k l ρ o) (neg_ℤ (i x)) (neg_ℤ (j x)) (neg_ℤ (m x)) (neg_ℤ (low x)) (neg_ℤ (high x))))

returns-3 : tie.Need-returns
unfolding plane_of
returns-3 c =
    let (p, t, q, u, n) : tie.After-is_positive × tie.Else-is_positive × tie.After-is_negative × tie.Else-is_negative
    × tie.After-near_cap = search in
    let k = pierced p in
    λ l ρ o.
    plane_level (near k l ρ o) (far k l ρ o) (I p l ρ) (J p l ρ) (K p l ρ) (F p l ρ) (H p l ρ) (above_as p l ρ o ∙ t.if-is_positive.false)
    (below_as q l ρ o ∙ u.if-is_negative.false) (n.near_cap.ensures l ρ o (low-as k l ρ o))

pub plane_in_spec : {M : Type 1} → statement M
plane_in_spec =
    tie.close
    (tie.spec
    crossing-requires
    (λ c κs. search rules)  -- is_positive-requires
    (λ c κs. search rules)  -- crossed_forward-requires
    returns
    (λ c κs. search rules)  -- is_negative-requires
    (λ c κs. search rules)  -- crossed_backward-requires
    returns-2
    (λ c κs. search rules)  -- near_cap-requires
    returns-3)
