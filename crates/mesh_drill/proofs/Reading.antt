-- A float as drawn and as read on the grid are half a unit apart at most. Assumes nothing.
use Rattle.std.proofs.Common.{◌≡◌, ℕ, zero, suc, ◌+◌, ◌*◌, ◌^◌, ◌<◌, ◌≤◌, Bool, true, false, ℤ, pos, negsuc, ◌+ℤ◌, ◌-ℤ◌, ◌*ℤ◌, nat_abs, sym}
use Rattle.std.proofs.Common.{refl, ap, ◌∙◌, mul-le-mul_right, lt_of_mul-lt-mul_right, mul-lt-mul_of_pos_right, le_of_mul-le-mul_right}
use Rattle.std.proofs.Common.{arith}
use lib.Ieee.{Float, nan, inf, fin, up, down, le}
use lib.Ieee.Fits.{down_pos}
use Rattle.arithmetic.specs.Basic.{is_finite, absolute}
use Rattle.arithmetic.proofs.SumOrder.{le_parts}
use Rattle.wide_integers.proofs.Integers.{mul_size}
use Rattle.wide_integers.proofs.Polynomials.{own_pos, own_neg, rep_add, rep_sub, rep_mul}
use Rattle.wide_integers.proofs.Order.{le_rep, rep_same}
use Rattle.exact_triangle.specs.Line.{parts}
use Rattle.exact_triangle.specs.Grid.{units, signed, nearest_to, HalfFrom, within, longest}
use Rattle.exact_triangle.proofs.Readings.{reads_half}
use Rattle.exact_triangle.proofs.Touching.{signed_size, longest_is}
use Rattle.mesh_drill.specs.Radius.{radius_on}
use Rattle.mesh_drill.specs.AsDrawn.{Equals}
use Rattle.mesh_drill.proofs.Radii.{radius_up}
use Rattle.wide_integers.proofs.Signs.{Nonneg, Positive, natural, nonneg_as, nonneg_cancel, minus_of_le}
use Rattle.mesh_drill.proofs.Bounded.{Bounded, bounded_as, bounded_scaled}
use Rattle.mesh_drill.proofs.Identities as Identities

pub minus_natural : (a b : ℕ) → a ≤ b → Nonneg (pos b -ℤ pos a)
minus_natural a b h = minus_of_le (pos a) (pos b) (le_rep (own_pos a) (own_pos b) (omega (arith, h)))

pub above_zero : (n : ℕ) → 0 < n → Positive (pos n)
above_zero zero h = absurd (omega (arith, h))
above_zero (suc n) h = record { less = n; is = refl }

bounded_of_size : (B : ℕ) (e : ℤ) → nat_abs e ≤ B → Bounded (pos B) e
bounded_of_size B (pos n) h = record { low = natural (B + n); high = minus_natural n B h }
bounded_of_size B (negsuc n) h = record { low = minus_natural (suc n) B h; high = natural (B + suc n) }

bounded_cancel : {k A u : ℤ} → Positive k → Bounded (k *ℤ A) (k *ℤ u) → Bounded A u
bounded_cancel {k} {A} {u} p b = record {
  low = nonneg_cancel p (nonneg_as (Identities.scaled_low k A u) b.low);
  high = nonneg_cancel p (nonneg_as (Identities.scaled_high k A u) b.high);
}

-- ---- a number as drawn, z / W, and on the grid
pub reads_near : (k W : ℕ) (x : Float) (z : ℤ) → Equals k W x z → Bounded (pos W) (pos 2 *ℤ (z -ℤ pos W *ℤ nearest_to k x))
reads_near k W nan z v = absurd v
reads_near k W (inf s) z v = absurd v
reads_near k W (fin s m e) z v =
    let y = signed s (m * up e * k) in
    let g = nearest_to k (fin s m e) in
    let d = pos (down e) in
    let half : HalfFrom k (fin s m e) g = reads_half k (fin s m e) (unfold is_finite in refl) in
    bounded_cancel (above_zero (down e) (down_pos e))
    (bounded_as (Identities.times_turned (pos W) d)
    (Identities.read_scaled (pos W) y g d ∙ ap (λ (t : ℤ). pos 2 *ℤ (t -ℤ g *ℤ d *ℤ pos W)) v ∙ Identities.read_back (pos W) z g d)
    (bounded_scaled (natural W) (bounded_of_size (down e) (pos 2 *ℤ (y -ℤ g *ℤ d)) half)))

-- one that is not below 0 is not read as one that is
not_read_below : (W N n : ℕ) → 0 < W → Bounded (pos W) (pos 2 *ℤ (pos N -ℤ pos W *ℤ negsuc n)) → ⊥
not_read_below W N n p b =
    let h = b.high in
    let e = rep_same (rep_sub (own_pos W) (rep_mul (own_pos 2) (rep_sub (own_pos N) (rep_mul (own_pos W) (own_neg n))))) (own_pos h.size)
    h.is in
    let w : W * suc n ≡ W + W * n = omega arith in
    absurd (omega (arith, e, p, w))

pub reads_natural : (W N : ℕ) (g : ℤ) → 0 < W → Bounded (pos W) (pos 2 *ℤ (pos N -ℤ pos W *ℤ g))
    → Bounded (pos W) (pos 2 *ℤ (pos N -ℤ pos W *ℤ pos (nat_abs g)))
reads_natural W N (pos n) p b = b
reads_natural W N (negsuc n) p b = absurd (not_read_below W N n p b)

-- ---- the size of an exact number
pub exact_size : (k W : ℕ) (s : Bool) (m : ℕ) (e : ℤ) (z : ℤ) → Equals k W (fin s m e) z → m * up e * k * W ≡ nat_abs z * down e
exact_size k W s m e z v =
    ap (λ (n : ℕ). n * W) (sym (signed_size s (m * up e * k)))
    ∙ sym (mul_size (signed s (m * up e * k)) (pos W)) ∙ ap nat_abs v ∙ mul_size z (pos (down e))

pub within_parts : (s : Bool) (m : ℕ) (e : ℤ) (b : Float) (j : ℕ) → b ≡ fin false 1 (pos j) → within b (fin s m e) ≡ true
    → m * up e ≤ 2 ^ j * down e
unfolding absolute
within_parts s m e b j is h =
    let p = le_parts (fin false m e) (fin false 1 (pos j)) (unfold is_finite in refl) (unfold is_finite in refl)
    (ap (le (fin false m e)) (sym is) ∙ h) in
    omega (arith, p)

-- a distance up to 32,768 mm
pub exact_short : (W : ℕ) (x : Float) (F : ℕ) → within longest x ≡ true → Equals units W x (pos F) → F ≤ parts * W
exact_short W nan F h v = absurd v
exact_short W (inf s) F h v = absurd v
exact_short W (fin s m e) F h v =
    let size = exact_size units W s m e (pos F) v in
    let p = within_parts s m e longest 15 longest_is h in
    let p' : m * up e * (32768 * W) ≤ 2 ^ 15 * down e * (32768 * W) = mul-le-mul_right (32768 * W) p in
    le_of_mul-le-mul_right (short (m * up e) (down e) W F size p') (down_pos e)
  where
    short : (a d W F : ℕ) → a * 32768 * W ≡ F * d → a * (32768 * W) ≤ 2 ^ 15 * d * (32768 * W) → F * d ≤ 1073741824 * W * d
    short a d W F h g = omega (arith, h, g)

-- .. is not read as more
pub read_short : (W F f : ℕ) → 0 < W → F ≤ parts * W → Nonneg (pos W +ℤ pos 2 *ℤ (pos F -ℤ pos W *ℤ pos f)) → f ≤ parts
read_short W F f p h b =
    let e = rep_same (rep_add (own_pos W) (rep_mul (own_pos 2) (rep_sub (own_pos F) (rep_mul (own_pos W) (own_pos f))))) (own_pos b.size)
    b.is in
    let l : (2 * f) * W ≤ (2 * 1073741824 + 1) * W = omega (arith, e, h) in
    let m : 2 * f ≤ 2 * 1073741824 + 1 = le_of_mul-le-mul_right l p in
    omega (arith, m)

-- ---- the radius as drawn, R, is read upward, by less than a unit
not_below : (N d W R ρ : ℕ) → 0 < d → N * W ≡ R * d → N ≤ ρ * d → R ≤ ρ * W
not_below N d W R ρ D e h =
    let h' : N * W ≤ ρ * d * W = mul-le-mul_right W h in
    let s : ρ * d * W ≡ ρ * W * d = omega arith in
    le_of_mul-le-mul_right (omega (arith, e, h', s)) D

pub radius_not_below : (W : ℕ) (x : Float) (R : ℕ) → Equals units W x (pos R) → R ≤ radius_on x * W
radius_not_below W nan R v = absurd v
radius_not_below W (inf s) R v = absurd v
radius_not_below W (fin s m e) R v =
    not_below (m * up e * units) (down e) W R (radius_on (fin s m e)) (down_pos e) (exact_size units W s m e (pos R) v)
    (radius_up (fin s m e) (unfold is_finite in refl)).0

less_than : (N d W R ρ : ℕ) → 0 < d → 0 < W → N * W ≡ R * d → ρ * d < N + d → ρ * W < R + W
less_than N d W R ρ D P e h =
    let h' : ρ * d * W < (N + d) * W = mul-lt-mul_of_pos_right h P in
    let s : ρ * d * W ≡ ρ * W * d = omega arith in
    let t : (N + d) * W ≡ N * W + W * d = omega arith in
    let u : (R + W) * d ≡ R * d + W * d = omega arith in
    lt_of_mul-lt-mul_right d (omega (arith, e, h', s, t, u))

pub radius_less : (W : ℕ) (x : Float) (R : ℕ) → 0 < W → Equals units W x (pos R) → radius_on x * W < R + W
radius_less W nan R p v = absurd v
radius_less W (inf s) R p v = absurd v
radius_less W (fin s m e) R p v =
    less_than (m * up e * units) (down e) W R (radius_on (fin s m e)) (down_pos e) p (exact_size units W s m e (pos R) v)
    (radius_up (fin s m e) (unfold is_finite in refl)).1
