-- A segment that meets a triangle in a room passes the room's tests, or meets it at the limit or beyond. Assumes nothing.
use Prim.Native.Nat.{ℕ, ◌+◌, ◌*◌, ◌≤◌, ◌<◌}
use mathlib.Core.Path.{◌≡◌, sym, ap, ◌∙◌, subst}
use mathlib.Core.Bool.{Bool, true, false, ◌&&◌}
use native.Mathlib.Nat.{le_of_mul-le-mul_right}
use native.Mathlib.Omega.{arith}
use lib.IntN.{ℤ, pos, ◌*ℤ◌}
use lib.Signed.{lt_z, le_z}
use borrow.Author.Tests.{leb-true, le-leb}
use Rattle.lists.proofs.JoinedTests.{and_both}
use Rattle.exact_depth.specs.declared.projection.Projected.{Projected}
use Rattle.exact_depth.specs.Meeting.{mix}
use Rattle.wide_integers.proofs.Polynomials.{own, own_pos, times_comm}
use Rattle.wide_integers.proofs.Order.{le_rep, rep_nlt}
use Rattle.exact_depth.specs.declared.projection.Point.{Point}
use Rattle.exact_triangle.specs.Line.{Line, Moves}
use Rattle.exact_triangle.specs.Shear.{Main, alongX, alongY, alongZ, facing, ahead, sheared, projected_of, gain}
use Rattle.exact_triangle.specs.Surface.{Surface}
use Rattle.exact_triangle.proofs.SegmentCertainty.{main_moves, on_of}
use Rattle.tree_exact.specs.Room.{multiple, facing_room, sheared_room, holds_zero, room_met}
use Rattle.tree_exact.specs.declared.room.Span.{Span}
use Rattle.tree_exact.specs.declared.room.Room.{Room}
use Rattle.tree_exact.proofs.Spans.{InSpan, in_multiple, in_difference, mean_above, mean_below, mean_past}

-- ---- what is in a room
pub record InRoom (r : Room) (p : Projected) : Type 0 where
  pub across : InSpan r.across p.across
  pub up : InSpan r.up p.up
  pub depth : InSpan r.depth p.depth

pub in_sheared : (d : Projected) (r : Room) (p : Projected) → InRoom r p → InRoom (sheared_room d r) (sheared d p)
in_sheared d r p h = record {
  across =
      in_difference (multiple d.depth r.across) (multiple d.across r.depth) (p.across *ℤ d.depth) (p.depth *ℤ d.across)
      (in_multiple d.depth r.across p.across h.across) (in_multiple d.across r.depth p.depth h.depth);
  up =
      in_difference (multiple d.depth r.up) (multiple d.up r.depth) (p.up *ℤ d.depth) (p.depth *ℤ d.up)
      (in_multiple d.depth r.up p.up h.up) (in_multiple d.up r.depth p.depth h.depth);
  depth =
      subst (InSpan (multiple (ahead d.depth) r.depth)) (times_comm p.depth (ahead d.depth))
      (in_multiple (ahead d.depth) r.depth p.depth h.depth);
}

pub in_faced : (m : Main) (x y z : Span) (p : Point) → InSpan x p.x → InSpan y p.y → InSpan z p.z
    → InRoom (facing_room m x y z) (facing m p)
in_faced alongX x y z p hx hy hz = record { across = hy; up = hz; depth = hx }
in_faced alongY x y z p hx hy hz = record { across = hz; up = hx; depth = hy }
in_faced alongZ x y z p hx hy hz = record { across = hx; up = hy; depth = hz }

-- ---- a mean that is 0
module _ (s : Span) (i j k : ℕ) (x y z : ℤ) (some : 0 < i + j + k) (hx : InSpan s x) (hy : InSpan s y) (hz : InSpan s z) where
  zero_inside : mix i j k x y z ≡ pos 0 → holds_zero s ≡ true
  zero_inside e =
      and_both (le_z s.low (pos 0)) (le_z (pos 0) s.high)
      (mean_above s i j k x y z some hx hy hz (pos 0)
      (ap (λ (w : ℤ). le_z w (pos (i + j + k) *ℤ pos 0)) e ∙ le-leb 0 ((i + j + k) * 0) (omega arith)))
      (mean_below s i j k x y z some hx hy hz (pos 0)
      (ap (λ (w : ℤ). le_z (pos (i + j + k) *ℤ pos 0) w) e ∙ le-leb ((i + j + k) * 0) 0 (omega arith)))

  -- and one that is n, at least m times the weights
  near_inside : (n m : ℕ) → mix i j k x y z ≡ pos n → (i + j + k) * m ≤ n → le_z (pos m) s.high ≡ true
  near_inside n m e h =
      mean_below s i j k x y z some hx hy hz (pos m)
      (ap (λ (w : ℤ). le_z (pos ((i + j + k) * m)) w) e ∙ le-leb ((i + j + k) * m) n h)

  past_limit : (n m : ℕ) → mix i j k x y z ≡ pos n → lt_z s.low (pos m) ≡ false → (i + j + k) * m ≤ n
  past_limit n m e h =
      let f = rep_nlt (own s.low) (own_pos m) h in
      let g = mean_past s i j k x y z some hx hy hz (pos m) (le_rep (own_pos m) (own s.low) (omega (arith, f))) in
      leb-true ((i + j + k) * m) n (sym (ap (λ (w : ℤ). le_z (pos ((i + j + k) * m)) w) e) ∙ g)

last_fails : (a b c d : Bool) → a ≡ true → b ≡ true → c ≡ true → (a && (b && (c && d))) ≡ false → d ≡ false
last_fails a b c d p q r h = simp (p, q, r) at h

module _ (l : Line) (moves : Moves l.direction) (a b c : Point) (D t : ℕ) (s : Surface l a b c D (pos t)) (r : Room)
    (ha : InRoom r (projected_of l a)) (hb : InRoom r (projected_of l b)) (hc : InRoom r (projected_of l c)) where
  -- the depth's limit is all that can fail
  pub beyond : (limit : ℕ) → room_met l limit r ≡ false → limit * D ≤ t
  unfolding room_met
  beyond limit h =
      let o = on_of l a b c moves D (pos t) s in
      let m = o.meets in
      let some : 0 < m.i + m.j + m.k = subst (λ (n : ℕ). 0 < n) (sym m.total) o.positive in
      let g = gain l in
      let g_some : 0 < g = main_moves l.direction moves in
      let least : l.near * g * D ≤ t * g = leb-true (l.near * g * D) (t * g) o.least in
      let total = m.total in
      let deep : (m.i + m.j + m.k) * (l.near * g) ≤ t * g =
      subst (λ (n : ℕ). n * (l.near * g) ≤ t * g) (sym total) (omega (arith, least)) in
      let across = zero_inside r.across m.i m.j m.k _ _ _ some ha.across hb.across hc.across m.across in
      let up = zero_inside r.up m.i m.j m.k _ _ _ some ha.up hb.up hc.up m.up in
      let depth =
      near_inside r.depth m.i m.j m.k _ _ _ some ha.depth hb.depth hc.depth (t * g) (l.near * g) m.depth deep in
      let last = last_fails _ _ _ _ across up depth h in
      let past =
      past_limit r.depth m.i m.j m.k _ _ _ some ha.depth hb.depth hc.depth (t * g) (limit * g) m.depth last in
      let past' : D * (limit * g) ≤ t * g = subst (λ (n : ℕ). n * (limit * g) ≤ t * g) total past in
      let more : (limit * D) * g ≤ t * g = omega (arith, past') in
      le_of_mul-le-mul_right more g_some
