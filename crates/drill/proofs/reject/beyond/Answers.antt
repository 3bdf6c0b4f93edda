-- `drill::reject::beyond` meets its contract. Assumes nothing.
use Rattle.std.proofs.Common.{◌≡◌, ◌^◌, Bool, ◌||◌, ℤ, pos, refl, ◌∙◌}
use lib.Dec.{lit≤}
use Rattle.drill.proofs.Laws.{or_taken, or_passed, or_nested}
use Rattle.drill.specs.Code.{from_axis_of, all_below, one_side_of, beyond}
use Rattle.drill.specs.Decision.{FromAxis}
use Rattle.wide_integers.proofs.Reading.{bits, plain, widen}
use Rattle.wide_integers.specs.Sizes.{Sized}
use Rattle.drill.proofs.reject.beyond.Goals as goal
use Rattle.drill.proofs.reject.beyond.Goals.{Joined-one_side, then-all_negative}
use Rattle.drill.proofs.reject.beyond.Goals.{else-all_negative, then-all_negative-2, else-all_negative-2}
use Rattle.drill.proofs.reject.beyond.Goals.{then-one_side, else-one_side}

-- the tests of the caps and of each coordinate
module _ (L : ℤ) (a b c : FromAxis) where
  abbrev low : Bool
  low = all_below (pos 0) a.low b.low c.low

  abbrev high : Bool
  high = all_below (pos 0) a.high b.high c.high

  abbrev on-x : Bool
  on-x = one_side_of L a.moment.x b.moment.x c.moment.x

  abbrev on-y : Bool
  on-y = one_side_of L a.moment.y b.moment.y c.moment.y

  abbrev on-z : Bool
  on-z = one_side_of L a.moment.z b.moment.z c.moment.z

  in_order : ((((low || high) || on-x) || on-y) || on-z) ≡ beyond L a b c
  unfolding beyond
  in_order =
      or_nested ((low || high) || on-x) on-y on-z ∙ or_nested (low || high) on-x (on-y || on-z)
      ∙ or_nested low high (on-x || (on-y || on-z))

-- one coordinate of the numbers as they come
as-come : {L x y z : ℤ} {r : Bool} → Sized (2 ^ 54) L → Sized (2 ^ 61) x → Sized (2 ^ 61) y → Sized (2 ^ 61) z
    → r ≡ one_side_of (bits L) (bits x) (bits y) (bits z) → r ≡ one_side_of L x y z
as-come hl hx hy hz e =
    e ∙ (λ i. one_side_of (plain (widen hl (lit≤ tt)) i) (plain (widen hx (lit≤ tt)) i) (plain (widen hy (lit≤ tt)) i)
    (plain (widen hz (lit≤ tt)) i))

-- all but the last coordinate
before : (c : Joined-one_side) → let v = c.args in let p = from_axis_of v.a in let q = from_axis_of v.b in let r = from_axis_of v.c in
    c.if-one_side.value ≡ (((low v.limit p q r || high v.limit p q r) || on-x v.limit p q r) || on-y v.limit p q r)
before c =
    let v = c.args in
    let p = from_axis_of v.a in
    let q = from_axis_of v.b in
    let r = from_axis_of v.c in
    let h = c.requires.0 in
    let g = c.requires.1 in
    let caps : c.if-all_negative.value ≡ (low v.limit p q r || high v.limit p q r) =
    elim c.if-all_negative.branch [
      | then-all_negative w ↦ or_taken (high v.limit p q r) c.all_negative.ensures w.value-is w.if-all_negative.true
      | else-all_negative w ↦
          or_passed c.all_negative.ensures w.if-all_negative.false (w.value-is ∙ w.all_negative-else-all_negative.ensures)
    ] in
    let first : c.if-all_negative-2.value ≡ ((low v.limit p q r || high v.limit p q r) || on-x v.limit p q r) =
    elim c.if-all_negative-2.branch [
      | then-all_negative-2 w ↦ or_taken (on-x v.limit p q r) caps w.value-is w.if-all_negative-2.true
      | else-all_negative-2 w ↦
          or_passed caps w.if-all_negative-2.false
          (w.value-is ∙ as-come h g.0.moment.x g.1.0.moment.x g.1.1.moment.x w.one_side.ensures)
    ] in
    elim c.if-one_side.branch [
      | then-one_side w ↦ or_taken (on-y v.limit p q r) first w.value-is w.if-one_side.true
      | else-one_side w ↦
          or_passed first w.if-one_side.false
          (w.value-is ∙ as-come h g.0.moment.y g.1.0.moment.y g.1.1.moment.y w.one_side-else-one_side.ensures)
    ]

pub returns-then-one_side-2 : goal.returns-then-one_side-2
returns-then-one_side-2 c =
    let v = c.args in
    let p = from_axis_of v.a in
    let q = from_axis_of v.b in
    let r = from_axis_of v.c in
    or_taken (on-z v.limit p q r) (before (goal.at.returns-then-one_side-2 c).Joined-one_side) refl c.if-one_side-2.true
    ∙ in_order v.limit p q r

pub returns-else-one_side-2 : goal.returns-else-one_side-2
returns-else-one_side-2 c =
    let v = c.args in
    let g = c.requires.1 in
    or_passed (before (goal.at.returns-else-one_side-2 c).Joined-one_side) c.if-one_side-2.false
    (as-come c.requires.0 g.0.moment.z g.1.0.moment.z g.1.1.moment.z c.one_side-else-one_side-2.ensures)
    ∙ in_order v.limit (from_axis_of v.a) (from_axis_of v.b) (from_axis_of v.c)
