-- A radius up to 128 mm is read upward on the grid, up to 2^22 units: the nearest unit, and one more where that is below it. Assumes
-- nothing.
use Rattle.std.proofs.Common.{◌≡◌, ℕ, ◌+◌, ◌-◌, ◌*◌, ◌/◌, ◌%◌, ◌^◌, ◌<◌, ◌≤◌, Bool, true, false, not, ◌&&◌, ltb, ℤ, pos, ◌+ℤ◌, sym, refl}
use Rattle.std.proofs.Common.{ap, ◌∙◌, subst, lt_of_le_of_lt, mul-le-mul_right, mod-lt, lt_of_mul-lt-mul_right, div-add-mod', arith, lit<}
use Rattle.std.proofs.Common.{lit≤, w64, SFits, ltb-false, ltb-true}
use mathlib.Core.Bool.{false≢true}
use lib.Ieee.{Float, nan, inf, fin, up, down, le, lt, eq, of_bits}
use lib.Ieee.Fits.{down_pos}
use lib.Ieee.Nearest.{closest}
use Rattle.arithmetic.specs.Basic.{is_finite, absolute}
use Rattle.arithmetic.proofs.Order.{le_transitive}
use Rattle.arithmetic.proofs.SumOrder.{le_parts}
use Rattle.arithmetic.proofs.ValueOrder.{lt_values}
use Rattle.arithmetic.proofs.RoundingError.{closest_near}
use Rattle.vectors.specs.Numbers.{zeroᶠ}
use Rattle.wide_integers.specs.Sizes.{Sized}
use Rattle.wide_integers.proofs.Reading.{bits, plain, widen, add-fits, add_read}
use Rattle.exact_triangle.specs.Grid.{units, nearest_to, within, furthest}
use Rattle.exact_triangle.specs.Box.{in_millimetres}
use Rattle.exact_triangle.proofs.Millimetres.{value_of}
use Rattle.exact_triangle.proofs.Touching.{bounded}
use Rattle.mesh_drill.specs.Radius.{widestᶠ, radius_admitted, ceiling, radius_on, ReadUp}

-- ---- the ceiling
ceiling_by : (n d x q r : ℕ) → x + 1 ≡ n + d → q * d + r ≡ x → r < d → (n ≤ q * d) × (q * d < n + d)
ceiling_by n d x q r h e l = (omega (arith, h, e, l), omega (arith, h, e, l))

ceiling_bounds : (n d : ℕ) → 0 < d → (n ≤ ceiling n d * d) × (ceiling n d * d < n + d)
unfolding ceiling
ceiling_bounds n d D =
    let x = n + (d - 1) in
    ceiling_by n d x (x / d) (x % d) (omega (arith, D)) (div-add-mod' x d) (mod-lt x D)

-- no other number is so
only_one : (n d a b : ℕ) → (n ≤ a * d) × (a * d < n + d) → (n ≤ b * d) × (b * d < n + d) → a ≡ b
only_one n d a b p q =
    let p₀ = p.0 in
    let p₁ = p.1 in
    let q₀ = q.0 in
    let q₁ = q.1 in
    let u : a * d < (b + 1) * d = omega (arith, p₁, q₀) in
    let v : b * d < (a + 1) * d = omega (arith, q₁, p₀) in
    let u' = lt_of_mul-lt-mul_right d u in
    let v' = lt_of_mul-lt-mul_right d v in
    omega (arith, u', v')

-- a finite radius is read upward, by less than a unit
pub radius_up : (x : Float) → is_finite x ≡ true → ReadUp x (radius_on x)
unfolding is_finite radius_on
radius_up nan h = absurd (false≢true h)
radius_up (inf s) h = absurd (false≢true h)
radius_up (fin s m e) h = ceiling_bounds (m * up e * units) (down e) (down_pos e)

-- ---- up to 128 mm
widest_is : widestᶠ ≡ fin false 1 (pos 7)
unfolding of_bits
widest_is = refl

widest_near : le widestᶠ furthest ≡ true
unfolding of_bits le lt eq
widest_near = refl

absolute_twice : (x : Float) → absolute (absolute x) ≡ absolute x
unfolding absolute
absolute_twice nan = refl
absolute_twice (inf s) = refl
absolute_twice (fin s m e) = refl

pub size_near : (x : Float) → within widestᶠ x ≡ true → within furthest (absolute x) ≡ true
size_near x h =
    le_transitive (absolute (absolute x)) widestᶠ furthest (ap (λ (y : Float). le y widestᶠ) (absolute_twice x) ∙ h) widest_near

-- the radius m 2^e is at most 2^7
in_parts : (s : Bool) (m : ℕ) (e : ℤ) → within widestᶠ (fin s m e) ≡ true → m * up e ≤ 2 ^ 7 * down e
unfolding absolute
in_parts s m e h =
    let p = le_parts (fin false m e) (fin false 1 (pos 7)) (unfold is_finite in refl) (unfold is_finite in refl)
    (ap (le (fin false m e)) (sym widest_is) ∙ h) in
    omega (arith, p)

small : (a d c : ℕ) → a ≤ 2 ^ 7 * d → c * d < a * 32768 + d → c ≤ 4194304
small a d c h g =
    let h' : a * 32768 ≤ 2 ^ 7 * d * 32768 = mul-le-mul_right 32768 h in
    let u : c * d < 4194305 * d = omega (arith, h', g) in
    let u' = lt_of_mul-lt-mul_right d u in
    omega (arith, u')

pub radius_small : (x : Float) → within widestᶠ x ≡ true → radius_on x ≤ 4194304
unfolding radius_on
radius_small nan h = unfold absolute le lt eq in absurd (false≢true h)
radius_small (inf s) h = unfold absolute of_bits le lt eq in absurd (false≢true h)
radius_small (fin s m e) h =
    small (m * up e) (down e) (ceiling (m * up e * units) (down e)) (in_parts s m e h)
    (ceiling_bounds (m * up e * units) (down e) (down_pos e)).1

-- ---- how code reads it
module _ (s : Bool) (m : ℕ) (e : ℤ) (h : within widestᶠ (fin s m e) ≡ true) where
  abbrev N : ℕ
  N = m * up e * units

  abbrev q : ℕ
  q = closest N (down e)

  near : (2 * (q * down e) ≤ 2 * N + down e) × (2 * N ≤ 2 * (q * down e) + down e)
  near = closest_near N (down e) (down_pos e)

  few : q ≤ 2 ^ 7 * units
  few = bounded (m * up e) (down e) q units (2 ^ 7) (down_pos e) near.0 (let p = in_parts s m e h in omega (arith, p))

  compared : lt (in_millimetres (pos q)) (fin false m e) ≡ ltb (q * down e) N
  compared =
      lt_values (in_millimetres (pos q)) (fin false m e) false false q units (m * up e) (down e) (lit< tt) (down_pos e)
      (value_of false q (lt_of_le_of_lt few (lit< tt))) (refl, refl)

  more : lt (in_millimetres (pos q)) (fin false m e) ≡ true → q + 1 ≡ ceiling N (down e)
  more g =
      let l = ltb-true (q * down e) N (sym compared ∙ g) in
      let n₁ = near.1 in
      let D = down_pos e in
      only_one N (down e) (q + 1) (ceiling N (down e)) (omega (arith, n₁, D), omega (arith, l)) (ceiling_bounds N (down e) D)

  same : lt (in_millimetres (pos q)) (fin false m e) ≡ false → q ≡ ceiling N (down e)
  same g =
      let l = ltb-false (q * down e) N (sym compared ∙ g) in
      let n₀ = near.0 in
      let D = down_pos e in
      only_one N (down e) q (ceiling N (down e)) (l, omega (arith, n₀, D)) (ceiling_bounds N (down e) D)

-- where the nearest unit is below the radius it is one more
radius_more : (x : Float) → within widestᶠ x ≡ true → lt (in_millimetres (nearest_to units (absolute x))) (absolute x) ≡ true
    → nearest_to units (absolute x) +ℤ pos 1 ≡ pos (radius_on x)
unfolding nearest_to absolute radius_on
radius_more nan h g = unfold le lt eq in absurd (false≢true h)
radius_more (inf s) h g = unfold of_bits le lt eq in absurd (false≢true h)
radius_more (fin s m e) h g = ap pos (more s m e h g)

radius_same : (x : Float) → within widestᶠ x ≡ true → lt (in_millimetres (nearest_to units (absolute x))) (absolute x) ≡ false
    → nearest_to units (absolute x) ≡ pos (radius_on x)
unfolding nearest_to absolute radius_on
radius_same nan h g = unfold le lt eq in absurd (false≢true h)
radius_same (inf s) h g = unfold of_bits le lt eq in absurd (false≢true h)
radius_same (fin s m e) h g = ap pos (same s m e h g)

-- .. in the code's numbers: r is the nearest unit
one : Sized 1 (pos 1)
one = record { size = lit≤ {m = 1} {n = 1} tt }

module _ (x : Float) (h : within widestᶠ x ≡ true) {r : ℤ} (e : r ≡ nearest_to units (absolute x)) (small : Sized 268435456 r) where
  read : bits r ≡ nearest_to units (absolute x)
  read = plain (widen small (lit≤ tt)) ∙ e

  as_compared : {p y : Float} → p ≡ in_millimetres (bits r) → y ≡ absolute x
      → lt p y ≡ lt (in_millimetres (nearest_to units (absolute x))) (absolute x)
  as_compared i j = (λ s. lt (i s) (j s)) ∙ ap (λ (z : ℤ). lt (in_millimetres z) (absolute x)) read

  up_to : {z : ℤ} → z ≡ pos (radius_on x) → (z ≡ pos (radius_on x)) × Sized 4194304 z
  up_to g = (g, subst (Sized 4194304) (sym g) (record { size = radius_small x h }))

  pub raised_fits : SFits w64 (bits r +ℤ pos 1)
  raised_fits = add-fits {Y = pos 1} (plain (widen small (lit≤ tt))) refl (widen small (lit≤ tt)) (widen one (lit≤ tt))

  pub raised : {p y : Float} → p ≡ in_millimetres (bits r) → y ≡ absolute x → lt p y ≡ true
      → (bits (bits r +ℤ pos 1) ≡ pos (radius_on x)) × Sized 4194304 (bits (bits r +ℤ pos 1))
  raised i j g =
      up_to (add_read {Y = pos 1} (plain (widen small (lit≤ tt))) refl (widen small (lit≤ tt)) (widen one (lit≤ tt))
      ∙ ap (λ (z : ℤ). z +ℤ pos 1) e ∙ radius_more x h (sym (as_compared i j) ∙ g))

  pub not_raised : {p y : Float} → p ≡ in_millimetres (bits r) → y ≡ absolute x → lt p y ≡ false
      → (bits r ≡ pos (radius_on x)) × Sized 4194304 (bits r)
  not_raised i j g = up_to (read ∙ radius_same x h (sym (as_compared i j) ∙ g))

-- ---- the code's two tests
pub not_finite : (x : Float) → is_finite x ≡ false → false ≡ radius_admitted x
unfolding radius_admitted
not_finite x h = sym (ap (λ (b : Bool). b && not (lt x zeroᶠ)) h)

pub finite_decides : (x : Float) → is_finite x ≡ true → not (lt x zeroᶠ) ≡ radius_admitted x
unfolding radius_admitted
finite_decides x h = sym (ap (λ (b : Bool). b && not (lt x zeroᶠ)) h)
