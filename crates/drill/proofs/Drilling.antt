-- A point in the drill, as its definition has it and by its weights. Assumes nothing.
use mathlib.Core.Path.{◌≡◌, refl, sym, ap, ◌∙◌, subst}
use mathlib.Core.Logic.{inl, inr}
use Prim.Native.Nat.{ℕ, zero, suc, ◌+◌, ◌≤◌, ◌<◌}
use native.Mathlib.Omega.{arith}
use lib.IntN.{ℤ, pos, nat_abs, ◌-ℤ◌, ◌*ℤ◌}
use Rattle.wide_integers.proofs.Polynomials.{own_pos}
use Rattle.wide_integers.proofs.Order.{le_rep, rep_same}
use Rattle.exact_depth.specs.declared.projection.Point.{Point}
use Rattle.exact_triangle.specs.Line.{parts, Line, Moves}
use Rattle.exact_triangle.specs.Shear.{from}
use Rattle.drill.specs.Drill.{dot, square, Within, mixed, InDrill}
use Rattle.drill.specs.Decision.{FromAxis, from_axis}
use Rattle.wide_integers.proofs.Signs.{Nonneg, Positive, nonneg_as, nonneg_times, positive_or_zero, zero_sum, second_zero, square_zero}
use Rattle.wide_integers.proofs.Signs.{nonneg_sum, square_nonneg, natural, minus_of_le, le_of_minus}
use Rattle.drill.proofs.Identities as Identities
use Rattle.drill.proofs.Weighing.{Weights, total, disc, sideways, upward, inward, room, low_of, high_of, In}
use Rattle.drill.proofs.Feet.{reach}

pub square_of : (v : Point) → Nonneg (square v)
square_of v = nonneg_sum (nonneg_sum (square_nonneg v.x) (square_nonneg v.y)) (square_nonneg v.z)

pub square_positive : (d : Point) → Moves d → Positive (square d)
square_positive d m = elim (positive_or_zero (square_of d)) [
  | inl p ↦ p
  | inr e ↦
      let sx = square_nonneg d.x in
      let sy = square_nonneg d.y in
      let sz = square_nonneg d.z in
      let xy = zero_sum (nonneg_sum sx sy) sz e in
      let x0 : nat_abs d.x ≡ 0 = ap nat_abs (square_zero d.x (zero_sum sx sy xy)) in
      let y0 : nat_abs d.y ≡ 0 = ap nat_abs (square_zero d.y (second_zero sx sy xy)) in
      let z0 : nat_abs d.z ≡ 0 = ap nat_abs (square_zero d.z (second_zero (nonneg_sum sx sy) sz e)) in
      absurd (omega (arith, m.some, x0, y0, z0))
]

-- far is not before near
pub ends_nonneg : (n f : ℕ) → n ≤ f → Nonneg (pos f -ℤ pos n)
ends_nonneg n f h = minus_of_le (pos n) (pos f) (le_rep (own_pos n) (own_pos f) (omega (arith, h)))

pub ends_apart : (n f : ℕ) (D : ℤ) → n ≤ f → Nonneg D → Nonneg (pos f *ℤ D -ℤ pos n *ℤ D)
ends_apart n f D h n_d = nonneg_as (sym (Identities.apart_ends (pos f) (pos n) D)) (nonneg_times (ends_nonneg n f h) n_d)

module _ (l : Line) (ρ : ℕ) (p q r : Point) (i j k : ℕ) where
  abbrev d : Point
  d = l.direction

  abbrev a : FromAxis
  a = from_axis l p

  abbrev b : FromAxis
  b = from_axis l q

  abbrev c : FromAxis
  c = from_axis l r

  abbrev w : Weights
  w = record { i = pos i; j = pos j; k = pos k }

  abbrev X : Point
  X = mixed i j k p q r

  low_is : pos parts *ℤ dot X d -ℤ pos l.near *ℤ square d *ℤ pos (i + j + k) ≡ low_of a b c w
  unfolding from_axis
  low_is = Identities.drill_low (pos parts) (pos l.near) (pos i) (pos j) (pos k) p.x p.y p.z q.x q.y q.z r.x r.y
      r.z d.x d.y d.z

  high_is : pos l.far *ℤ square d *ℤ pos (i + j + k) -ℤ pos parts *ℤ dot X d ≡ high_of a b c w
  unfolding from_axis
  high_is = Identities.drill_high (pos parts) (pos l.far) (pos i) (pos j) (pos k) p.x p.y p.z q.x q.y q.z r.x r.y
      r.z d.x d.y d.z

  side_x : sideways a b c w ≡ X.y *ℤ d.z -ℤ X.z *ℤ d.y
  unfolding from_axis
  side_x = Identities.level_moment_x (pos i) (pos j) (pos k) p.x p.y p.z q.x q.y q.z r.x r.y r.z d.x d.y
      d.z

  side_y : upward a b c w ≡ X.z *ℤ d.x -ℤ X.x *ℤ d.z
  unfolding from_axis
  side_y = Identities.level_moment_y (pos i) (pos j) (pos k) p.x p.y p.z q.x q.y q.z r.x r.y r.z d.x d.y
      d.z

  side_z : inward a b c w ≡ X.x *ℤ d.y -ℤ X.y *ℤ d.x
  unfolding from_axis
  side_z = Identities.level_moment_z (pos i) (pos j) (pos k) p.x p.y p.z q.x q.y q.z r.x r.y r.z d.x d.y
      d.z

  room_is : room (reach ρ d) a b c w
      ≡ reach ρ d *ℤ (pos (i + j + k) *ℤ pos (i + j + k)) -ℤ (square X *ℤ square d -ℤ dot X d *ℤ dot X d)
  room_is =
      (λ s. disc (reach ρ d) (total w) (side_x s) (side_y s) (side_z s))
      ∙ Identities.drill_room (reach ρ d) (total w) X.x X.y X.z d.x d.y d.z

  positive_total : 0 < i + j + k → Positive (total w)
  positive_total h = go (i + j + k) h
    where
      go : (n : ℕ) → 0 < n → Positive (pos n)
      go zero h = absurd (omega (arith, h))
      go (suc n) h = record { less = n; is = refl }

  pub weighed : 0 < i + j + k → Within l ρ (i + j + k) X → In (reach ρ d) a b c w
  weighed h g = record {
    first = natural i;
    second = natural j;
    third = natural k;
    low = nonneg_as low_is (minus_of_le (pos l.near *ℤ square d *ℤ pos (i + j + k)) (pos parts *ℤ dot X d) g.least);
    high = nonneg_as high_is (minus_of_le (pos parts *ℤ dot X d) (pos l.far *ℤ square d *ℤ pos (i + j + k)) g.most);
    size = positive_total h;
    near = nonneg_as (sym room_is)
        (minus_of_le (square X *ℤ square d -ℤ dot X d *ℤ dot X d) (reach ρ d *ℤ (pos (i + j + k) *ℤ pos (i + j + k))) g.close);
  }

  within : In (reach ρ d) a b c w → Within l ρ (i + j + k) X
  within h = record {
    least = le_of_minus (pos l.near *ℤ square d *ℤ pos (i + j + k)) (pos parts *ℤ dot X d) (nonneg_as (sym low_is) h.low);
    most = le_of_minus (pos parts *ℤ dot X d) (pos l.far *ℤ square d *ℤ pos (i + j + k)) (nonneg_as (sym high_is) h.high);
    close = le_of_minus (square X *ℤ square d -ℤ dot X d *ℤ dot X d) (reach ρ d *ℤ (pos (i + j + k) *ℤ pos (i + j + k)))
        (nonneg_as room_is h.near);
  }

  some_weight : Positive (total w) → 0 < i + j + k
  some_weight h =
      let e = rep_same (own_pos (i + j + k)) (own_pos (suc h.less)) h.is in
      omega (arith, e)

  found : In (reach ρ d) a b c w → (0 < i + j + k) × Within l ρ (i + j + k) X
  found h = (some_weight h.size, within h)

module _ (l : Line) (ρ : ℕ) (a b c : Point) where
  abbrev o : Point
  o = l.origin

  abbrev A : FromAxis
  A = from_axis l (from o a)

  abbrev B : FromAxis
  B = from_axis l (from o b)

  abbrev C : FromAxis
  C = from_axis l (from o c)

  -- a point of the drill, by its weights
  pub weighed_point : (g : InDrill l ρ a b c) → In (reach ρ l.direction) A B C
      (record { i = pos g.i; j = pos g.j; k = pos g.k })
  weighed_point g = weighed l ρ (from o a) (from o b) (from o c) g.i g.j g.k g.positive g.within

  pub point_of_lem : (w : Weights) → In (reach ρ l.direction) A B C w → InDrill l ρ a b c
  point_of_lem w h =
      let i = h.first.size in
      let j = h.second.size in
      let k = h.third.size in
      let g = found l ρ (from o a) (from o b) (from o c) i j k
      (subst (In (reach ρ l.direction) A B C) (λ s. record { i = h.first.is s; j = h.second.is s; k = h.third.is s }) h) in
      record { i = i; j = j; k = k; positive = g.0; within = g.1 }
