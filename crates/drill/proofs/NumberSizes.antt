-- How large the decision's numbers are. Assumes nothing.
use Prim.Native.Nat.{ℕ, ◌+◌, ◌*◌, ◌^◌, ◌≤◌}
use native.Mathlib.Nat.{le_trans, le_refl}
use lib.Dec.{lit≤}
use lib.IntN.{ℤ, pos, neg_ℤ}
use Rattle.wide_integers.specs.Sizes.{Sized}
use Rattle.wide_integers.proofs.Reading.{widen, product_size, sum_size, difference_size, negated_size, mul_le}
use Rattle.exact_depth.specs.declared.projection.Point.{Point}
use Rattle.exact_triangle.specs.Line.{parts, Line}
use Rattle.exact_triangle.specs.Sizes.{SizedAt}
use Rattle.drill.specs.Drill.{dot, square}
use Rattle.drill.specs.Decision.{FromAxis, from_axis, cross, minus, scale, level}
use Rattle.drill.specs.Sizes.{FromAxisSized, CornerNumbers, CrossingNumbers, FootNumbers, PlaneNumbers, CapNumbers}

natural_size : {n B : ℕ} → n ≤ B → Sized B (pos n)
natural_size h = record { size = h }

dot_size : {A B : ℕ} {p q : Point} → SizedAt A p → SizedAt B q → Sized (A * B + A * B + A * B) (dot p q)
dot_size h g = sum_size (sum_size (product_size h.x g.x) (product_size h.y g.y)) (product_size h.z g.z)

cross_size : {A B : ℕ} {p q : Point} → SizedAt A p → SizedAt B q → SizedAt (A * B + A * B) (cross p q)
cross_size h g = record {
  x = difference_size (product_size h.y g.z) (product_size h.z g.y);
  y = difference_size (product_size h.z g.x) (product_size h.x g.z);
  z = difference_size (product_size h.x g.y) (product_size h.y g.x);
}

minus_size : {A B : ℕ} {p q : Point} → SizedAt A p → SizedAt B q → SizedAt (A + B) (minus p q)
minus_size h g = record { x = difference_size h.x g.x; y = difference_size h.y g.y; z = difference_size h.z g.z }

scale_size : {A B : ℕ} {k : ℤ} {p : Point} → Sized A k → SizedAt B p → SizedAt (A * B) (scale k p)
scale_size h g = record { x = product_size h g.x; y = product_size h g.y; z = product_size h g.z }

widen_at : {A B : ℕ} {p : Point} → SizedAt A p → A ≤ B → SizedAt B p
widen_at h l = record { x = widen h.x l; y = widen h.y l; z = widen h.z l }

-- ---- corners within 2^29 of the origin, a direction up to 2^31, near and far up to 2^30, and ρ up to 2^22
module _ (l : Line) (hd : SizedAt (2 ^ 31) l.direction) (hn : l.near ≤ 2 ^ 30) (hf : l.far ≤ 2 ^ 30) where
  abbrev d : Point
  d = l.direction

  square_size : Sized (3 * 2 ^ 62) (square d)
  square_size = widen (dot_size hd hd) (lit≤ tt)

  height_size : {p : Point} → SizedAt (2 ^ 29) p → Sized (3 * 2 ^ 60) (dot p d)
  height_size h = widen (dot_size h hd) (lit≤ tt)

  pub from_axis_sized : (p : Point) → SizedAt (2 ^ 29) p → FromAxisSized (from_axis l p)
  unfolding from_axis
  from_axis_sized p h = record {
    at = h;
    moment = widen_at (cross_size h hd) (lit≤ tt);
    height = height_size h;
    low = widen (difference_size (product_size (natural_size {n = parts} (le_refl parts)) (height_size h))
        (product_size (natural_size hn) square_size)) (lit≤ tt);
    high = widen (difference_size (product_size (natural_size hf) square_size)
        (product_size (natural_size {n = parts} (le_refl parts)) (height_size h))) (lit≤ tt);
  }

  module _ (ρ : ℕ) (hρ : ρ ≤ 2 ^ 22) where
    radius_size : Sized (2 ^ 44) (pos (ρ * ρ))
    radius_size = natural_size (le_trans (mul_le ρ ρ (2 ^ 22) (2 ^ 22) hρ hρ) (lit≤ tt))

    pub corner_numbers : (s : FromAxis) → FromAxisSized s → CornerNumbers ρ d s
    corner_numbers s h = record {
      moment = widen (dot_size h.moment h.moment) (lit≤ tt);
      reach = widen (product_size radius_size square_size) (lit≤ tt);
    }

    pub foot_numbers : (p q : FromAxis) → FromAxisSized p → FromAxisSized q → FootNumbers ρ d p q
    foot_numbers p q h g =
        let e = minus_size g.moment h.moment in
        let i : Sized (3 * 2 ^ 123) (dot q.moment (minus q.moment p.moment)) = widen (dot_size g.moment e) (lit≤ tt) in
        let j : Sized (3 * 2 ^ 123) (neg_ℤ (dot p.moment (minus q.moment p.moment))) =
        widen (negated_size (dot_size h.moment e)) (lit≤ tt) in
        record {
          first = i;
          second = j;
          turn = widen (dot_size (cross_size h.at g.at) hd) (lit≤ tt);
          reach = widen (product_size radius_size (sum_size i j)) (lit≤ tt);
        }

  -- of two ends' heights above a cap
  pub crossing_numbers : (v w : Point) (f g : ℤ) → SizedAt (2 ^ 61) v → SizedAt (2 ^ 61) w → Sized (15 * 2 ^ 90) f → Sized (15 * 2 ^ 90) g
      → CrossingNumbers v w f g
  crossing_numbers v w f g hv hw hf hg = record {
    at = widen_at (minus_size (scale_size hf hw) (scale_size hg hv)) (lit≤ tt);
    apart = widen (product_size (difference_size hf hg) (difference_size hf hg)) (lit≤ tt);
  }

  turn_size : {p q : Point} → SizedAt (2 ^ 29) p → SizedAt (2 ^ 29) q → Sized (3 * 2 ^ 90) (dot (cross p q) d)
  turn_size h g = widen (dot_size (cross_size h g) hd) (lit≤ tt)

  pub plane_numbers : (a b c : Point) → SizedAt (2 ^ 29) a → SizedAt (2 ^ 29) b → SizedAt (2 ^ 29) c → PlaneNumbers l a b c
  plane_numbers a b c ha hb hc =
      let total = sum_size (sum_size (turn_size hb hc) (turn_size hc ha)) (turn_size ha hb) in
      let t = product_size (natural_size {n = parts} (le_refl parts)) (dot_size (cross_size ha hb) hc) in
      record {
        first = turn_size hb hc;
        second = turn_size hc ha;
        third = turn_size ha hb;
        past_near = widen (difference_size t (product_size (natural_size hn) total)) (lit≤ tt);
        before_far = widen (difference_size (product_size (natural_size hf) total) t) (lit≤ tt);
      }

  pub cap_numbers : (a b c o : Point) (p q r κ : ℤ) → SizedAt (2 ^ 29) a → SizedAt (2 ^ 29) b → SizedAt (2 ^ 29) c → SizedAt (2 ^ 29) o
      → Sized (3 * 2 ^ 60) p → Sized (3 * 2 ^ 60) q → Sized (3 * 2 ^ 60) r → Sized (39 * 2 ^ 118) κ
      → CapNumbers d (level p q r a b c) o κ
  cap_numbers a b c o p q r κ ha hb hc ho hp hq hr hκ =
      let x = scale_size (difference_size hq hr) ha in
      let y = scale_size (difference_size hr hp) hb in
      let z = scale_size (difference_size hp hq) hc in
      let g : SizedAt (9 * 2 ^ 90) (level p q r a b c) =
      widen_at (record {
        x = sum_size (sum_size x.x y.x) z.x;
        y = sum_size (sum_size x.y y.y) z.y;
        z = sum_size (sum_size x.z y.z) z.z;
      }) (lit≤ tt) in
      record {
        along = g;
        s = widen (dot_size ho g) (lit≤ tt);
        square_g = widen (dot_size g g) (lit≤ tt);
        κ_d = widen (product_size hκ square_size) (lit≤ tt);
      }
