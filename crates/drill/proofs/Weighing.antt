-- The triangle's points by their weights: which lie in the drill, and how far one may be moved in it. Assumes nothing.
use mathlib.Core.Path.{◌≡◌, refl, sym, ◌∙◌}
use mathlib.Core.Logic.{inl, inr}
use mathlib.Core.List.{List, [], ◌∷◌}
use Prim.Native.Nat.{ℕ, suc}
use lib.IntN.{ℤ, pos, ◌+ℤ◌, ◌-ℤ◌, ◌*ℤ◌}
use Rattle.drill.specs.Decision.{FromAxis}
use Rattle.wide_integers.proofs.Signs.{Nonneg, Positive, Negative, nonneg_sum, nonneg_times, natural, nonneg_as}
use Rattle.wide_integers.proofs.Signs.{positive_as, positive_nonneg, positive_times, positive_sum, square_nonneg, nonneg_cancel, zero_sum}
use Rattle.wide_integers.proofs.Signs.{second_zero}
use Rattle.drill.proofs.Identities as Identities
use Rattle.drill.proofs.Moves.{Two, There, Held, Stopped, Moved, arrives, stops, move}

pub record Weights : Type 0 where
  pub i : ℤ
  pub j : ℤ
  pub k : ℤ

abbrev pub total : Weights → ℤ
total w = w.i +ℤ w.j +ℤ w.k

abbrev pub sum_of : Weights → ℤ → ℤ → ℤ → ℤ
sum_of w p q r = w.i *ℤ p +ℤ w.j *ℤ q +ℤ w.k *ℤ r

-- R D² - |(x, y, z)|²
abbrev pub disc : ℤ → ℤ → ℤ → ℤ → ℤ → ℤ
disc R D x y z = R *ℤ (D *ℤ D) -ℤ (x *ℤ x +ℤ y *ℤ y +ℤ z *ℤ z)

abbrev pub along : ℤ → Weights → ℤ → Weights → Weights
along m x n y = record { i = m *ℤ x.i +ℤ n *ℤ y.i; j = m *ℤ x.j +ℤ n *ℤ y.j; k = m *ℤ x.k +ℤ n *ℤ y.k }

module _ (m n : ℤ) (x y : Weights) where
  pub along_sum : (p q r : ℤ) → sum_of (along m x n y) p q r ≡ m *ℤ sum_of x p q r +ℤ n *ℤ sum_of y p q r
  along_sum p q r = Identities.linear m n x.i x.j x.k y.i y.j y.k p q r

  pub along_total : total (along m x n y) ≡ m *ℤ total x +ℤ n *ℤ total y
  along_total = Identities.linear_total m n x.i x.j x.k y.i y.j y.k

abbrev pub sideways : FromAxis → FromAxis → FromAxis → Weights → ℤ
sideways a b c w = sum_of w a.moment.x b.moment.x c.moment.x

abbrev pub upward : FromAxis → FromAxis → FromAxis → Weights → ℤ
upward a b c w = sum_of w a.moment.y b.moment.y c.moment.y

abbrev pub inward : FromAxis → FromAxis → FromAxis → Weights → ℤ
inward a b c w = sum_of w a.moment.z b.moment.z c.moment.z

abbrev pub room : ℤ → FromAxis → FromAxis → FromAxis → Weights → ℤ
room R a b c w = disc R (total w) (sideways a b c w) (upward a b c w) (inward a b c w)

abbrev pub low_of : FromAxis → FromAxis → FromAxis → Weights → ℤ
low_of a b c w = sum_of w a.low b.low c.low

abbrev pub high_of : FromAxis → FromAxis → FromAxis → Weights → ℤ
high_of a b c w = sum_of w a.high b.high c.high

-- the point with these weights lies in the triangle and in the drill
pub record In (R : ℤ) (a b c : FromAxis) (w : Weights) : Type 0 where
  pub first : Nonneg w.i
  pub second : Nonneg w.j
  pub third : Nonneg w.k
  pub low : Nonneg (low_of a b c w)
  pub high : Nonneg (high_of a b c w)
  pub size : Positive (total w)
  pub near : Nonneg (room R a b c w)

-- where a point in the drill can be moved to: a point in the endless cylinder, or a direction along the axis
pub data Target (R : ℤ) (a b c : FromAxis) (y : Weights) : Type 0 where
  point : Positive (total y) → Nonneg (room R a b c y) → Target R a b c y
  direction : total y ≡ pos 0 → sideways a b c y ≡ pos 0 → upward a b c y ≡ pos 0 → inward a b c y ≡ pos 0
      → (y.i ≡ pos 0 → y.j ≡ pos 0 → y.k ≡ pos 0 → ⊥) → Target R a b c y

-- what holds it on the way
pub data Held-by (a b c : FromAxis) (y z : Weights) : Type 0 where
  by_first : z.i ≡ pos 0 → Negative y.i → Held-by a b c y z
  by_second : z.j ≡ pos 0 → Negative y.j → Held-by a b c y z
  by_third : z.k ≡ pos 0 → Negative y.k → Held-by a b c y z
  by_low : low_of a b c z ≡ pos 0 → Negative (low_of a b c y) → Held-by a b c y z
  by_high : high_of a b c z ≡ pos 0 → Negative (high_of a b c y) → Held-by a b c y z

pub data Walked (R : ℤ) (a b c : FromAxis) (x y : Weights) : Type 0 where
  arrived : In R a b c y → Walked R a b c x y
  held : (m n : ℕ) → In R a b c (along (pos (suc m)) x (pos n) y) → Held-by a b c y (along (pos (suc m)) x (pos n) y) → Walked R a b c x y

-- ---- the cylinder is convex
convex : (R D x y z E u v w a b : ℤ) → Positive D → Positive E → Nonneg a → Nonneg b → Nonneg (disc R D x y z) → Nonneg (disc R E u v w)
    → Nonneg (disc R (a *ℤ D +ℤ b *ℤ E) (a *ℤ x +ℤ b *ℤ u) (a *ℤ y +ℤ b *ℤ v) (a *ℤ z +ℤ b *ℤ w))
convex R D x y z E u v w a b pD pE na nb hx hy =
    nonneg_cancel (positive_times pD pE)
    (nonneg_as (sym (Identities.between a b D E R x y z u v w))
    (nonneg_sum
    (nonneg_times (nonneg_sum (nonneg_times na (positive_nonneg pD)) (nonneg_times nb (positive_nonneg pE)))
    (nonneg_sum (nonneg_times (nonneg_times na (positive_nonneg pE)) hx) (nonneg_times (nonneg_times nb (positive_nonneg pD)) hy)))
    (nonneg_times (nonneg_times na nb)
    (nonneg_sum (nonneg_sum (square_nonneg (E *ℤ x -ℤ D *ℤ u)) (square_nonneg (E *ℤ y -ℤ D *ℤ v))) (square_nonneg (E *ℤ z -ℤ D *ℤ w))))))

straightened : (R D x y z a b : ℤ) → Nonneg (disc R D x y z)
    → Nonneg (disc R (a *ℤ D +ℤ b *ℤ pos 0) (a *ℤ x +ℤ b *ℤ pos 0) (a *ℤ y +ℤ b *ℤ pos 0) (a *ℤ z +ℤ b *ℤ pos 0))
straightened R D x y z a b h = nonneg_as (sym (Identities.straight a b R D x y z)) (nonneg_times (square_nonneg a) h)

module _ (R : ℤ) (a b c : FromAxis) (x y : Weights) (h : In R a b c x) where
  abbrev five : List Two
  five =
      record { here = x.i; there = y.i } ∷ record { here = x.j; there = y.j } ∷ record { here = x.k; there = y.k }
      ∷ record { here = low_of a b c x; there = low_of a b c y } ∷ record { here = high_of a b c x; there = high_of a b c y } ∷ []

  module _ (m n : ℕ) where
    abbrev M : ℤ
    M = pos (suc m)

    abbrev N : ℤ
    N = pos n

    room_along : room R a b c (along M x N y)
        ≡ disc R (M *ℤ total x +ℤ N *ℤ total y) (M *ℤ sideways a b c x +ℤ N *ℤ sideways a b c y)
        (M *ℤ upward a b c x +ℤ N *ℤ upward a b c y) (M *ℤ inward a b c x +ℤ N *ℤ inward a b c y)
    room_along = λ s. disc R (along_total M N x y s) (along_sum M N x y a.moment.x b.moment.x c.moment.x s)
        (along_sum M N x y a.moment.y b.moment.y c.moment.y s)
        (along_sum M N x y a.moment.z b.moment.z c.moment.z s)

    room_kept : Target R a b c y → Nonneg (room R a b c (along M x N y))
    room_kept (point p q) =
        nonneg_as (sym room_along)
        (convex R (total x) (sideways a b c x) (upward a b c x) (inward a b c x) (total y) (sideways a b c y) (upward a b c y)
        (inward a b c y) M N h.size p (natural (suc m)) (natural n) h.near q)
    room_kept (direction t p q r z) =
        nonneg_as
        (sym (room_along
        ∙ (λ s. disc R (M *ℤ total x +ℤ N *ℤ t s) (M *ℤ sideways a b c x +ℤ N *ℤ p s) (M *ℤ upward a b c x +ℤ N *ℤ q s)
        (M *ℤ inward a b c x +ℤ N *ℤ r s))))
        (straightened R (total x) (sideways a b c x) (upward a b c x) (inward a b c x) M N h.near)

    total_kept : Target R a b c y → Positive (total (along M x N y))
    total_kept (point p q) =
        positive_as (sym (along_total M N x y))
        (positive_sum (positive_times (record { less = m; is = refl }) h.size) (nonneg_times (natural n) (positive_nonneg p)))
    total_kept (direction t p q r z) =
        positive_as (sym (along_total M N x y))
        (positive_sum (positive_times (record { less = m; is = refl }) h.size)
        (nonneg_times (natural n) (nonneg_as (sym t) (natural 0))))

    kept_in : Target R a b c y → Held M N five → In R a b c (along M x N y)
    kept_in t g = record {
      first = g.0;
      second = g.1.0;
      third = g.1.1.0;
      low = nonneg_as (sym (along_sum M N x y a.low b.low c.low)) g.1.1.1.0;
      high = nonneg_as (sym (along_sum M N x y a.high b.high c.high)) g.1.1.1.1.0;
      size = total_kept t;
      near = room_kept t;
    }

    by : Stopped M N five → Held-by a b c y (along M x N y)
    by (inl s) = by_first s.zero s.below
    by (inr (inl s)) = by_second s.zero s.below
    by (inr (inr (inl s))) = by_third s.zero s.below
    by (inr (inr (inr (inl s)))) = by_low (along_sum M N x y a.low b.low c.low ∙ s.zero) s.below
    by (inr (inr (inr (inr (inl s))))) = by_high (along_sum M N x y a.high b.high c.high ∙ s.zero) s.below
    by (inr (inr (inr (inr (inr s))))) = absurd s

  there_in : Target R a b c y → There five → In R a b c y
  there_in (point p q) g = record {
    first = g.0;
    second = g.1.0;
    third = g.1.1.0;
    low = g.1.1.1.0;
    high = g.1.1.1.1.0;
    size = p;
    near = q;
  }
  there_in (direction t p q r z) g =
      let ij : y.i +ℤ y.j ≡ pos 0 = zero_sum (nonneg_sum g.0 g.1.0) g.1.1.0 t in
      let i0 : y.i ≡ pos 0 = zero_sum g.0 g.1.0 ij in
      let j0 : y.j ≡ pos 0 = second_zero g.0 g.1.0 ij in
      let k0 : y.k ≡ pos 0 = second_zero (nonneg_sum g.0 g.1.0) g.1.1.0 t in
      absurd (z i0 j0 k0)

  pub walk : Target R a b c y → Walked R a b c x y
  walk t = go (move five (h.first, (h.second, (h.third, (h.low, (h.high, tt))))))
    where
      go : Moved five → Walked R a b c x y
      go (arrives g) = arrived (there_in t g)
      go (stops m n g s) = held m n (kept_in m n t g) (by m n s)
