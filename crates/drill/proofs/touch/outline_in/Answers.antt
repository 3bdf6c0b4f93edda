-- `drill::touch::outline_in` meets its contract. Assumes nothing.
use Rattle.std.proofs.Common.{◌≡◌, ℕ, Bool, ◌||◌, ℤ, refl, sym, ap, ◌∙◌, subst}
use lib.Dec.{lit≤}
use Rattle.drill.proofs.Laws.{or_taken, or_passed, or_nested}
use Rattle.drill.specs.Code.{SideOf, Drills, from_axis_of, limit_of, outline_of}
use Rattle.drill.specs.Decision.{FromAxis, corner_in, side_in}
use Rattle.exact_triangle.specs.Line.{Line}
use Rattle.exact_depth.specs.declared.projection.Point.{Point}
use Rattle.wide_integers.specs.Value.{value}
use Rattle.wide_integers.proofs.Reading.{bits, plain, widen}
use Rattle.drill.proofs.touch.outline_in.Goals as goal
use Rattle.drill.proofs.touch.outline_in.Goals.{Joined-side_in, then-corner_in, else-corner_in, then-corner_in-2, else-corner_in-2}
use Rattle.drill.proofs.touch.outline_in.Goals.{then-corner_in-3, else-corner_in-3, then-side_in, else-side_in}

-- a test's answer, over the line and the radius that the drill stands for
corner-as : (p : FromAxis) {r : Bool} {x : ℤ} (y : ℤ) → x ≡ y → r ≡ corner_in x p → r ≡ corner_in y p
corner-as p y e h = h ∙ ap (λ (z : ℤ). corner_in z p) e

side-as : (ρ : ℕ) (p q : FromAxis) {r : Bool} {d : Point} {x : ℤ} (d' : Point) (y : ℤ) → d ≡ d' → x ≡ y → r ≡ side_in ρ d x p q
    → r ≡ side_in ρ d' y p q
side-as ρ p q d' y e f h = h ∙ (λ i. side_in ρ (e i) (f i) p q)

-- the tests
module _ (l : Line) (ρ : ℕ) where
  abbrev corner : FromAxis → Bool
  corner p = corner_in (limit_of l ρ) p

  abbrev side : FromAxis → FromAxis → Bool
  side p q = side_in ρ l.direction (limit_of l ρ) p q

  abbrev joined : FromAxis → FromAxis → FromAxis → Bool
  joined a b c = ((((corner a || corner b) || corner c) || side a b) || side b c)

  in_order : (a b c : FromAxis) → (joined a b c || side c a) ≡ outline_of l ρ a b c
  unfolding outline_of
  in_order a b c =
      or_nested (((corner a || corner b) || corner c) || side a b) (side b c) (side c a)
      ∙ or_nested ((corner a || corner b) || corner c) (side a b) (side b c || side c a)
      ∙ or_nested (corner a || corner b) (corner c) (side a b || (side b c || side c a))
      ∙ or_nested (corner a) (corner b) (corner c || (side a b || (side b c || side c a)))

-- the limit as it comes
module _ (c : Joined-side_in) (l : Line) (ρ : ℕ) (o : Drills c.args.t.drill l ρ) where
  area : bits c.args.t.drill.area ≡ c.args.t.drill.area
  area = plain (widen c.requires.0.area (lit≤ tt))

  limit : SideOf (value c.args.t.drill.reach) (bits c.args.t.drill.side)
  limit =
      subst (λ (z : ℤ). SideOf z (bits c.args.t.drill.side)) (sym o.reach)
      (subst (SideOf (limit_of l ρ)) (sym (plain (widen c.requires.0.side (lit≤ tt)))) o.side)

  -- the corners, and two sides
  before : c.if-side_in.value ≡ joined l ρ (from_axis_of c.args.t.a) (from_axis_of c.args.t.b) (from_axis_of c.args.t.c)
  before =
      let a = from_axis_of c.args.t.a in
      let b = from_axis_of c.args.t.b in
      let d = from_axis_of c.args.t.c in
      let R = limit_of l ρ in
      let one = corner-as a R o.reach c.corner_in.ensures in
      let two : c.if-corner_in.value ≡ (corner l ρ a || corner l ρ b) =
      elim c.if-corner_in.branch [
        | then-corner_in w ↦ or_taken (corner l ρ b) one w.value-is w.if-corner_in.true
        | else-corner_in w ↦
            or_passed one w.if-corner_in.false (w.value-is ∙ corner-as b R o.reach w.corner_in-else-corner_in.ensures)
      ] in
      let three : c.if-corner_in-2.value ≡ ((corner l ρ a || corner l ρ b) || corner l ρ d) =
      elim c.if-corner_in-2.branch [
        | then-corner_in-2 w ↦ or_taken (corner l ρ d) two w.value-is w.if-corner_in-2.true
        | else-corner_in-2 w ↦
            or_passed two w.if-corner_in-2.false (w.value-is ∙ corner-as d R o.reach w.corner_in-else-corner_in-2.ensures)
      ] in
      let first : c.if-corner_in-3.value ≡ (((corner l ρ a || corner l ρ b) || corner l ρ d) || side l ρ a b) =
      elim c.if-corner_in-3.branch [
        | then-corner_in-3 w ↦ or_taken (side l ρ a b) three w.value-is w.if-corner_in-3.true
        | else-corner_in-3 w ↦
            or_passed three w.if-corner_in-3.false
            (w.value-is ∙ side-as ρ a b l.direction R o.direction o.reach (w.side_in.ensures ρ (area ∙ o.area) limit))
      ] in
      elim c.if-side_in.branch [
        | then-side_in w ↦ or_taken (side l ρ b d) first w.value-is w.if-side_in.true
        | else-side_in w ↦
            or_passed first w.if-side_in.false
            (w.value-is ∙ side-as ρ b d l.direction R o.direction o.reach (w.side_in-else-side_in.ensures ρ (area ∙ o.area) limit))
      ]

pub returns-then-side_in-2 : goal.returns-then-side_in-2
returns-then-side_in-2 c =
    let a = from_axis_of c.args.t.a in
    let b = from_axis_of c.args.t.b in
    let d = from_axis_of c.args.t.c in
    λ l ρ o. or_taken (side l ρ d a) (before (goal.at.returns-then-side_in-2 c).Joined-side_in l ρ o) refl c.if-side_in-2.true
    ∙ in_order l ρ a b d

pub returns-else-side_in-2 : goal.returns-else-side_in-2
returns-else-side_in-2 c =
    let a = from_axis_of c.args.t.a in
    let b = from_axis_of c.args.t.b in
    let d = from_axis_of c.args.t.c in
    let j = (goal.at.returns-else-side_in-2 c).Joined-side_in in
    λ l ρ o. or_passed (before j l ρ o) c.if-side_in-2.false
    (side-as ρ d a l.direction (limit_of l ρ) o.direction o.reach
    (c.side_in-else-side_in-2.ensures ρ (area j l ρ o ∙ o.area) (limit j l ρ o)))
    ∙ in_order l ρ a b d
