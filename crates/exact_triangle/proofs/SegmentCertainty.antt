-- One triangle's answer is certain in any direction: none exactly if no point of the segment lies in it, and else the first. Assumes
-- nothing.
use Rattle.std.specs.Prelude.{Option, Some, None}
use Rattle.std.proofs.Common.{◌≡◌, ℕ, ◌+◌, ◌*◌, ◌<◌, ◌≤◌, Bool, true, false, cond, ◌&&◌, leb, ℤ, pos, negsuc, ◌-ℤ◌, ◌*ℤ◌, nat_abs, sym}
use Rattle.std.proofs.Common.{refl, ap, ◌∙◌, subst, true≢false, mul-le-mul_right, mul-pos, arith, lit<, leb-false, leb-true}
use mathlib.Core.Bool.{false≢true}
use lib.Signed.{le_z}
use Rattle.exact_depth.specs.declared.projection.Projected.{Projected}
use Rattle.exact_depth.specs.declared.projection.Fraction.{Fraction}
use Rattle.exact_depth.specs.FirstPoint.{first_point}
use Rattle.exact_depth.specs.Meeting.{mix, Meets, On, HasArea, Reached, First}
use Rattle.wide_integers.proofs.Integers.{pp, np}
use Rattle.wide_integers.proofs.Polynomials.{own, own_pos, rep_mul, times_assoc, times_comm}
use Rattle.wide_integers.proofs.Order.{rep_le, le_rep}
use Rattle.exact_depth.proofs.Firsts.{is_at, depth_of as depthIn}
use Rattle.exact_depth.proofs.FirstPoints.{first_point_tells}
use Rattle.exact_depth.specs.declared.projection.Point.{Point}
use Rattle.exact_triangle.specs.Line.{parts, Line, Moves}
use Rattle.exact_triangle.specs.Shear.{Main, alongX, alongY, alongZ, main_of, facing, ahead, sheared, from, heading, projected_of, gain}
use Rattle.exact_triangle.specs.Shear.{in_units, depth_of}
use Rattle.exact_triangle.specs.Surface.{Lies, Surface, Apart, FirstSurface, Certain}
use Rattle.exact_triangle.proofs.Shears.{mix_minus, mix_times, mix_more, across_zero, depth_is, across_back, depth_back}
use Rattle.exact_triangle.proofs.Areas.{area_seen, area_there}

-- ---- the direction's greatest part is not 0 where one is not
pub main_moves : (d : Point) → Moves d → 0 < nat_abs (facing (main_of d) d).depth
unfolding main_of
main_moves d h =
    let x = nat_abs d.x in
    let y = nat_abs d.y in
    let z = nat_abs d.z in
    go (leb y x) (leb z x) (leb z y) (leb-true y x) (leb-true z x) (leb-true z y) (leb-false y x) (leb-false z x) (leb-false z y)
  where
    go : (p q r : Bool)
        → (p ≡ true → nat_abs d.y ≤ nat_abs d.x) → (q ≡ true → nat_abs d.z ≤ nat_abs d.x) → (r ≡ true
        → nat_abs d.z ≤ nat_abs d.y)
        → (p ≡ false → nat_abs d.x < nat_abs d.y) → (q ≡ false → nat_abs d.x < nat_abs d.z) → (r ≡ false
        → nat_abs d.y < nat_abs d.z)
        → 0 < nat_abs (facing (cond (p && q) alongX (cond r alongY alongZ)) d).depth
    go true true r p q r' p₀ q₀ r₀ = let m = h.some in let u = p refl in let v = q refl in omega (arith, m, u, v)
    go true false true p q r' p₀ q₀ r₀ = let u = q₀ refl in let v = r' refl in omega (arith, u, v)
    go true false false p q r' p₀ q₀ r₀ = let u = r₀ refl in omega (arith, u)
    go false q' true p q r' p₀ q₀ r₀ = let u = p₀ refl in omega (arith, u)
    go false q' false p q r' p₀ q₀ r₀ = let u = r₀ refl in omega (arith, u)

ahead_is : (m : ℤ) → ahead m *ℤ m ≡ pos parts *ℤ pos (nat_abs m)
ahead_is (pos n) = refl
ahead_is (negsuc n) = refl

-- ---- as faced: the line's point at t / D lies in the triangle
pub record LiesFaced (d p q r : Projected) (D : ℕ) (t : ℤ) : Type 0 where
  pub i : ℕ
  pub j : ℕ
  pub k : ℕ
  pub total : i + j + k ≡ D
  pub across : pos parts *ℤ mix i j k p.across q.across r.across ≡ t *ℤ d.across
  pub up : pos parts *ℤ mix i j k p.up q.up r.up ≡ t *ℤ d.up
  pub depth : pos parts *ℤ mix i j k p.depth q.depth r.depth ≡ t *ℤ d.depth

module _ (l : Line) (a b c : Point) (D : ℕ) (t : ℤ) where
  abbrev at : Main → Point → Projected
  at m p = facing m (from l.origin p)

  faced : (m : Main) → Lies l a b c D t → LiesFaced (facing m l.direction) (at m a) (at m b) (at m c) D t
  faced alongX s = record { i = s.i; j = s.j; k = s.k; total = s.total; across = s.y; up = s.z; depth = s.x }
  faced alongY s = record { i = s.i; j = s.j; k = s.k; total = s.total; across = s.z; up = s.x; depth = s.y }
  faced alongZ s = record { i = s.i; j = s.j; k = s.k; total = s.total; across = s.x; up = s.y; depth = s.z }

  pub unfaced : (m : Main) → LiesFaced (facing m l.direction) (at m a) (at m b) (at m c) D t → Lies l a b c D t
  unfaced alongX s = record { i = s.i; j = s.j; k = s.k; total = s.total; x = s.depth; y = s.across; z = s.up }
  unfaced alongY s = record { i = s.i; j = s.j; k = s.k; total = s.total; x = s.up; y = s.depth; z = s.across }
  unfaced alongZ s = record { i = s.i; j = s.j; k = s.k; total = s.total; x = s.across; y = s.up; z = s.depth }

-- ---- as sheared: the same point, seen by the line, at G times the depth
module _ (d p q r : Projected) where
  abbrev K : ℤ
  K = ahead d.depth

  abbrev G : ℕ
  G = nat_abs d.depth

  -- the corners' weighted sums
  module _ (i j k : ℕ) where
    abbrev A : ℤ
    A = mix i j k p.across q.across r.across

    abbrev U : ℤ
    U = mix i j k p.up q.up r.up

    abbrev M : ℤ
    M = mix i j k p.depth q.depth r.depth

    abbrev p' : Projected
    p' = sheared d p

    abbrev q' : Projected
    q' = sheared d q

    abbrev r' : Projected
    r' = sheared d r

    -- of the sheared corners
    across_is : mix i j k p'.across q'.across r'.across ≡ A *ℤ d.depth -ℤ M *ℤ d.across
    across_is =
        mix_minus (pos i) (pos j) (pos k) p.across q.across r.across p.depth q.depth r.depth d.depth d.across

    up_is : mix i j k p'.up q'.up r'.up ≡ U *ℤ d.depth -ℤ M *ℤ d.up
    up_is = mix_minus (pos i) (pos j) (pos k) p.up q.up r.up p.depth q.depth r.depth d.depth d.up

    deep_is : mix i j k p'.depth q'.depth r'.depth ≡ K *ℤ M
    deep_is = mix_times (pos i) (pos j) (pos k) p.depth q.depth r.depth K

    -- with G times the weights
    weightier : (x y z : ℤ) → pos parts *ℤ mix (i * G) (j * G) (k * G) x y z ≡ pos parts *ℤ (pos G *ℤ mix i j k x y z)
    weightier x y z = ap (λ (z : ℤ). pos parts *ℤ z) (mix_more (pos i) (pos j) (pos k) x y z (pos G))

  seen : (D : ℕ) (t : ℤ) → LiesFaced d p q r D t → Meets (sheared d p) (sheared d q) (sheared d r) D (t *ℤ pos G)
  seen D t s =
      let a = A s.i s.j s.k in
      let u = U s.i s.j s.k in
      let m = M s.i s.j s.k in
      record {
        i = s.i;
        j = s.j;
        k = s.k;
        total = s.total;
        across = across_is s.i s.j s.k ∙ across_zero parts (lit< tt) a m t d.across d.depth s.across s.depth;
        up = up_is s.i s.j s.k ∙ across_zero parts (lit< tt) u m t d.up d.depth s.up s.depth;
        depth =
            deep_is s.i s.j s.k
            ∙ depth_is parts (lit< tt) m m t d.depth d.depth s.depth s.depth K G (ahead_is d.depth);
      }

  pub back : (D : ℕ) (t : ℤ) → Meets (sheared d p) (sheared d q) (sheared d r) D t → LiesFaced d p q r (D * G) t
  back D t s =
      let a = A s.i s.j s.k in
      let u = U s.i s.j s.k in
      let m = M s.i s.j s.k in
      let e = ahead_is d.depth in
      let deep : K *ℤ m ≡ t = sym (deep_is s.i s.j s.k) ∙ s.depth in
      record {
        i = s.i * G;
        j = s.j * G;
        k = s.k * G;
        total = three s.i s.j s.k G ∙ ap (λ (n : ℕ). n * G) s.total;
        across =
            weightier s.i s.j s.k p.across q.across r.across
            ∙ across_back (pos parts) K (pos G) a m t d.across d.depth e deep (sym (across_is s.i s.j s.k) ∙ s.across);
        up =
            weightier s.i s.j s.k p.up q.up r.up
            ∙ across_back (pos parts) K (pos G) u m t d.up d.depth e deep (sym (up_is s.i s.j s.k) ∙ s.up);
        depth =
            weightier s.i s.j s.k p.depth q.depth r.depth
            ∙ depth_back (pos parts) K (pos G) m m t d.depth d.depth e deep;
      }
    where
      three : (i j k g : ℕ) → i * g + j * g + k * g ≡ (i + j + k) * g
      three i j k g = omega arith

-- ---- the answer
module _ (l : Line) (a b c : Point) (moves : Moves l.direction) where
  abbrev m : Main
  m = main_of l.direction

  abbrev g : ℕ
  g = gain l

  some : 0 < g
  some = main_moves l.direction moves

  abbrev Seen : ℕ → ℤ → Type 0
  Seen = On (pos (l.near * g)) (pos (l.far * g)) (projected_of l a) (projected_of l b) (projected_of l c)

  abbrev faces : Point → Projected
  faces p = facing m (from l.origin p)

  -- G times a depth in units
  least_times : (n D : ℕ) (t : ℤ) → le_z (pos n *ℤ pos D) t ≡ true → le_z (pos (n * g) *ℤ pos D) (t *ℤ pos g) ≡ true
  least_times n D t h =
      let e = rep_le (rep_mul (own_pos n) (own_pos D)) (own t) h in
      let e' : (n * D + np t) * g ≤ pp t * g = mul-le-mul_right g (omega (arith, e)) in
      le_rep (rep_mul (own_pos (n * g)) (own_pos D)) (rep_mul (own t) (own_pos g)) (omega (arith, e'))

  most_times : (n D : ℕ) (t : ℤ) → le_z t (pos n *ℤ pos D) ≡ true → le_z (t *ℤ pos g) (pos (n * g) *ℤ pos D) ≡ true
  most_times n D t h =
      let e = rep_le (own t) (rep_mul (own_pos n) (own_pos D)) h in
      let e' : pp t * g ≤ (n * D + np t) * g = mul-le-mul_right g (omega (arith, e)) in
      le_rep (rep_mul (own t) (own_pos g)) (rep_mul (own_pos (n * g)) (own_pos D)) (omega (arith, e'))

  pub on_of : (D : ℕ) (t : ℤ) → Surface l a b c D t → Seen D (t *ℤ pos g)
  on_of D t s = record {
    positive = s.positive;
    meets = seen (heading l) (faces a) (faces b) (faces c) D t (faced l a b c D t m s.lies);
    least = least_times l.near D t s.least;
    most = most_times l.far D t s.most;
  }

  regroup : (n D : ℕ) → n * g * D ≡ n * (D * g)
  regroup n D = omega arith

  of_on : (D : ℕ) (t : ℤ) → Seen D t → Surface l a b c (D * g) t
  of_on D t o = record {
    positive = mul-pos o.positive some;
    lies = unfaced l a b c (D * g) t m (back (heading l) (faces a) (faces b) (faces c) D t o.meets);
    least = ap (λ (n : ℕ). le_z (pos n) t) (sym (regroup l.near D)) ∙ o.least;
    most = ap (λ (n : ℕ). le_z t (pos n)) (sym (regroup l.far D)) ∙ o.most;
  }

  abbrev answer : Option Fraction
  answer = first_point (projected_of l a) (projected_of l b) (projected_of l c) (pos (l.near * g)) (pos (l.far * g))

  tells : First (pos (l.near * g)) (pos (l.far * g)) (projected_of l a) (projected_of l b) (projected_of l c) answer
  tells = first_point_tells (pos (l.near * g)) (pos (l.far * g)) (projected_of l a) (projected_of l b) (projected_of l c)

  -- in units
  pub first_in : (f : Fraction) → Reached (pos (l.near * g)) (pos (l.far * g)) (projected_of l a) (projected_of l b) (projected_of l c) f
      → FirstSurface l a b c (record { t = f.t; w = f.w *ℤ pos g })
  first_in f r = record {
    W = r.W * g;
    positive = mul-pos r.positive some;
    denominator = ap (λ (z : ℤ). z *ℤ pos g) r.denominator;
    D = r.D * g;
    t = r.t;
    on = of_on r.D r.t r.on;
    same = sym (times_assoc r.t (pos r.W) (pos g)) ∙ ap (λ (z : ℤ). z *ℤ pos g) r.same ∙ times_assoc f.t (pos r.D) (pos g);
    least = λ D' t' s.
        ap (le_z (f.t *ℤ pos D')) (sym (regrouped t' r.W)) ∙ r.least D' (t' *ℤ pos g) (on_of D' t' s);
  }
    where
      regrouped : (t : ℤ) (W : ℕ) → t *ℤ pos g *ℤ pos W ≡ t *ℤ pos (W * g)
      regrouped t W = times_assoc t (pos g) (pos W) ∙ ap (λ (z : ℤ). t *ℤ z) (times_comm (pos g) (pos W))

  more : 0 < nat_abs (ahead (heading l).depth *ℤ (heading l).depth)
  more = subst (λ (z : ℤ). 0 < nat_abs z) (sym (ahead_is (heading l).depth)) (mul-pos (lit< {m = 0} {n = parts} tt) some)

  apart : Apart a b c → HasArea (projected_of l a) (projected_of l b) (projected_of l c)
  apart = area_seen m l.direction l.origin a b c some more

  there : HasArea (projected_of l a) (projected_of l b) (projected_of l c) → Apart a b c
  there = area_there m l.direction l.origin a b c

  units_certain : (x : Option Fraction) → First (pos (l.near * g)) (pos (l.far * g)) (projected_of l a) (projected_of l b) (projected_of
      l c) x
      → Certain l a b c (in_units g x)
  units_certain None p = record {
    none = λ e h D t s. p.none refl (apart h) D (t *ℤ pos g) (on_of D t s);
    area = λ f e. absurd (false≢true (ap is_at e));
    first = λ f e. absurd (false≢true (ap is_at e));
  }
  units_certain (Some f) p = record {
    none = λ e. absurd (true≢false (ap is_at e));
    area = λ f' e. there (p.area f refl);
    first = λ f' e. subst (λ (h : Fraction). FirstSurface l a b c h) (ap depthIn e) (first_in f (p.reached f refl));
  }

  pub depth_certain : Certain l a b c (depth_of l a b c)
  unfolding depth_of
  depth_certain = units_certain answer tells
