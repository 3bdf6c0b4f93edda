-- `root_of x` is the float nearest to the exact root of x: of the floats that are not negative, each other one lies farther from it.
-- A float y is farther from the root of x than r is if the root lies on r's side of the middle of r and y, as 4 * x and (r + y)² say, in
-- exact fractions. Assumes nothing.
use Rattle.std.proofs.Common.{◌≡◌, ℕ, zero, suc, ◌+◌, ◌*◌, ◌^◌, ◌<◌, ◌≤◌, false, T, sym, refl, ap, ◌∙◌, subst, inl, inr, zero-le, le_trans}
use Rattle.std.proofs.Common.{le_of_eq, lt_of_lt_of_le, le_of_suc-le-suc, lt_of_le_of_lt, le_of_lt, add-le-add, mul-le-mul_right}
use Rattle.std.proofs.Common.{zero-lt-suc, mul_assoc, suc-mul, mul_comm, add-mul, mul-le-mul, add_comm, lt_of_mul-lt-mul_right}
use Rattle.std.proofs.Common.{eq-or-lt_of_le, mul-le-mul_left, mul-lt-mul_of_pos_right, mul-pos, mul-suc, mul_right_comm, not-le_of_lt}
use Rattle.std.proofs.Common.{arith, pow_pos}
use native.Mathlib.Nat.{mul-mul-mul_comm}
use lib.Ieee.{Float, binary64, fits, lt}
use lib.Ieee.Exact.{HasValue}
use lib.Ieee.Positive.{num, den, den_pos, positive, value→cross}
use Rattle.arithmetic.specs.Root.{root_of, NearestRoot}
use Rattle.arithmetic.proofs.RootWhole.{middle, middle_is}
use Rattle.arithmetic.proofs.RootForm.{RootForm, root_form}
use Rattle.arithmetic.proofs.Neighbours.{unsigned, units_of, lt_units, next_up, next_down}

-- r + y in units of 1 / (den r * den y)
abbrev pub sum_of : Float → Float → ℕ
sum_of r y = num r * den y + num y * den r

-- 4 * x < (r + y)²: the root of x is below the middle of r and y
abbrev pub RootBelowMiddle : Float → Float → Float → Type 0
RootBelowMiddle x r y = 4 * num x * (den r * den y * (den r * den y)) < sum_of r y * sum_of r y * den x

-- (r + y)² < 4 * x: it is above the middle
abbrev pub RootAboveMiddle : Float → Float → Float → Type 0
RootAboveMiddle x r y = sum_of r y * sum_of r y * den x < 4 * num x * (den r * den y * (den r * den y))

-- ---- 4 * n * 4 ^ k against (r * 2 ^ k + y)²
square_scaled : (s p : ℕ) → s * p * (s * p) ≡ s * s * (p * p)
square_scaled s p = mul-mul-mul_comm s p s p

twice : (r : ℕ) (p : ℕ) → (2 * r + 1) * p ≡ r * p + suc r * p
twice r p = ap (λ (z : ℕ). z * p) (split r) ∙ add-mul r (suc r) p
  where
    split : (r : ℕ) → 2 * r + 1 ≡ r + suc r
    split r = omega arith

below_middle : (n r p y : ℕ) → 0 < p → NearestRoot n r → suc r * p ≤ y → 4 * (n * (p * p)) < (r * p + y) * (r * p + y)
below_middle n r p y P h l =
    let a : (2 * r + 1) * p ≤ r * p + y = subst (λ (z : ℕ). z ≤ r * p + y) (sym (twice r p)) (add-le-add (le_of_eq refl) l) in
    let m : 4 * n < middle r = omega (arith, h.below, middle_is r) in
    lt_of_lt_of_le (subst (λ (z : ℕ). z < middle r * (p * p)) (mul_assoc 4 n (p * p)) (mul-lt-mul_of_pos_right m (mul-pos P P)))
    (le_trans (le_of_eq (sym (square_scaled (2 * r + 1) p))) (mul-le-mul a a))

above_middle : (n r p y : ℕ) → 0 < p → NearestRoot n (suc r) → y ≤ r * p → (suc r * p + y) * (suc r * p + y) < 4 * (n * (p * p))
above_middle n r p y P h l =
    let a : suc r * p + y ≤ (2 * r + 1) * p = subst (λ (z : ℕ). suc r * p + y ≤ z) (add_comm (suc r * p) (r * p) ∙ sym (twice r p))
    (add-le-add (le_of_eq refl) l) in
    let s : suc r * suc r ≡ r * r + r + suc r = suc-mul r (suc r) ∙ ap (λ (z : ℕ). z + suc r) (mul-suc r r) in
    let m : middle r < 4 * n = omega (arith, h.above, middle_is r) in
    lt_of_le_of_lt (le_trans (mul-le-mul a a) (le_of_eq (square_scaled (2 * r + 1) p)))
    (subst (λ (z : ℕ). middle r * (p * p) < z) (mul_assoc 4 n (p * p)) (mul-lt-mul_of_pos_right m (mul-pos P P)))

-- where r is a power of two, the exact root is not below it
above_exact : (n r p y : ℕ) → 0 < p → 0 < r → r * r ≤ n → y < r * p → (r * p + y) * (r * p + y) < 4 * (n * (p * p))
above_exact n r p y P R h l =
    let t = r * p + y in
    let a : t < 2 * (r * p) = omega arith in
    let z : 0 < 2 * (r * p) = lt_of_le_of_lt zero-le a in
    let b : t * t ≤ t * (2 * (r * p)) = mul-le-mul_left t (le_of_lt a) in
    let c : t * (2 * (r * p)) < 2 * (r * p) * (2 * (r * p)) = mul-lt-mul_of_pos_right a z in
    let d : 2 * (r * p) * (2 * (r * p)) ≡ 2 * 2 * (r * p * (r * p)) = mul-mul-mul_comm 2 (r * p) 2 (r * p) in
    let e : r * p * (r * p) ≡ r * r * (p * p) = square_scaled r p in
    let f : r * r * (p * p) ≤ n * (p * p) = mul-le-mul_right (p * p) h in
    omega arith

-- ---- from units to the fractions
module _ (nx dx nr dr ny dy X R Y u : ℕ) (ex : nx * (u * u) ≡ X * dx) (er : nr * u ≡ R * dr) (ey : ny * u ≡ Y * dy) where
  left_side : 4 * nx * (dr * dy * (dr * dy)) * (u * u) ≡ 4 * X * (dr * dy * (dr * dy) * dx)
  left_side =
      mul_right_comm (4 * nx) (dr * dy * (dr * dy)) (u * u)
      ∙ ap (λ (z : ℕ). z * (dr * dy * (dr * dy))) (mul_assoc 4 nx (u * u) ∙ ap (λ (z : ℕ). 4 * z) ex ∙ sym (mul_assoc 4 X dx))
      ∙ mul_right_comm (4 * X) dx (dr * dy * (dr * dy))
      ∙ mul_assoc (4 * X) (dr * dy * (dr * dy)) dx

  sum_side : (nr * dy + ny * dr) * u ≡ (R + Y) * (dr * dy)
  sum_side =
      add-mul (nr * dy) (ny * dr) u
      ∙ ap (λ (z : ℕ). z + ny * dr * u) (mul_right_comm nr dy u ∙ ap (λ (z : ℕ). z * dy) er ∙ mul_assoc R dr dy)
      ∙ ap (λ (z : ℕ). R * (dr * dy) + z) (mul_right_comm ny dr u ∙ ap (λ (z : ℕ). z * dr) ey ∙ mul_assoc Y dy dr ∙ ap (λ (z : ℕ). Y * z)
      (mul_comm dy dr))
      ∙ sym (add-mul R Y (dr * dy))

  right_side : (nr * dy + ny * dr) * (nr * dy + ny * dr) * dx * (u * u) ≡ (R + Y) * (R + Y) * (dr * dy * (dr * dy) * dx)
  right_side =
      let s = nr * dy + ny * dr in
      mul_right_comm (s * s) dx (u * u)
      ∙ ap (λ (z : ℕ). z * dx) (mul-mul-mul_comm s s u u ∙ ap (λ (z : ℕ). z * z) sum_side ∙ mul-mul-mul_comm (R + Y) (dr * dy) (R + Y) (dr *
      dy))
      ∙ mul_assoc ((R + Y) * (R + Y)) (dr * dy * (dr * dy)) dx

  module _ (Dx : 0 < dx) (Dr : 0 < dr) (Dy : 0 < dy) where
    scale_pos : 0 < dr * dy * (dr * dy) * dx
    scale_pos = mul-pos (mul-pos (mul-pos Dr Dy) (mul-pos Dr Dy)) Dx

    to_below : 4 * X < (R + Y) * (R + Y) → 4 * nx * (dr * dy * (dr * dy)) < (nr * dy + ny * dr) * (nr * dy + ny * dr) * dx
    to_below h = lt_of_mul-lt-mul_right (u * u) (subst (λ (z : ℕ). z < (nr * dy + ny * dr) * (nr * dy + ny * dr) * dx * (u * u)) (sym
        left_side) (subst (λ (z : ℕ). 4 * X * (dr * dy * (dr * dy) * dx) < z) (sym right_side) (mul-lt-mul_of_pos_right h scale_pos)))

    to_above : (R + Y) * (R + Y) < 4 * X → (nr * dy + ny * dr) * (nr * dy + ny * dr) * dx < 4 * nx * (dr * dy * (dr * dy))
    to_above h = lt_of_mul-lt-mul_right (u * u) (subst (λ (z : ℕ). z < 4 * nx * (dr * dy * (dr * dy)) * (u * u)) (sym right_side) (subst (λ
        (z : ℕ). (R + Y) * (R + Y) * (dr * dy * (dr * dy) * dx) < z) (sym left_side) (mul-lt-mul_of_pos_right h scale_pos)))

-- ---- the law
module _ (x y : Float) (n k r m c : ℕ) (F : RootForm x n k r) (N : m < 2 ^ 53) (w : HasValue y false (m * 2 ^ c) (2 ^ 1074)) where
  argument_cross : num x * (2 ^ 1074 * 2 ^ 1074) ≡ n * (2 ^ k * 2 ^ k) * den x
  argument_cross = value→cross x (n * (2 ^ k * 2 ^ k)) (2 ^ 2148) F.argument

  result_cross : num (root_of x) * 2 ^ 1074 ≡ r * 2 ^ k * den (root_of x)
  result_cross = value→cross (root_of x) (r * 2 ^ k) (2 ^ 1074) F.result

  other_cross : num y * 2 ^ 1074 ≡ m * 2 ^ c * den y
  other_cross = value→cross y (m * 2 ^ c) (2 ^ 1074) w

  farther_above : T (lt (root_of x) y) → RootBelowMiddle x (root_of x) y
  farther_above h =
      to_below (num x) (den x) (num (root_of x)) (den (root_of x)) (num y) (den y) (n * (2 ^ k * 2 ^ k)) (r * 2 ^ k) (m * 2 ^ c) (2 ^ 1074)
      argument_cross result_cross other_cross (den_pos x) (den_pos (root_of x)) (den_pos y)
      (below_middle n r (2 ^ k) (m * 2 ^ c) (pow_pos k) F.nearest
      (next_up r k m c F.digits N (lt_units (root_of x) y (r * 2 ^ k) (m * 2 ^ c) F.result w h)))

  farther_below : T (lt y (root_of x)) → RootAboveMiddle x (root_of x) y
  farther_below h =
      to_above (num x) (den x) (num (root_of x)) (den (root_of x)) (num y) (den y) (n * (2 ^ k * 2 ^ k)) (r * 2 ^ k) (m * 2 ^ c) (2 ^ 1074)
      argument_cross result_cross other_cross (den_pos x) (den_pos (root_of x)) (den_pos y)
      (in_units_lem r F.digits F.nearest (lt_units y (root_of x) (m * 2 ^ c) (r * 2 ^ k) w F.result h))
    where
      in_units_lem : (s : ℕ) → 2 ^ 52 ≤ s → NearestRoot n s → m * 2 ^ c < s * 2 ^ k → (s * 2 ^ k + m * 2 ^ c) * (s * 2 ^ k + m * 2 ^ c) < 4
          *
          (n * (2 ^ k * 2 ^ k))
      in_units_lem zero d p l = absurd (not-le_of_lt (pow_pos 52) d)
      in_units_lem (suc s) d p l = elim (eq-or-lt_of_le d) [
        | inl e ↦ above_exact n (suc s) (2 ^ k) (m * 2 ^ c) (pow_pos k) (zero-lt-suc s) (subst (λ (z : ℕ). z * z ≤ n) e F.low) l
        | inr g ↦ above_middle n s (2 ^ k) (m * 2 ^ c) (pow_pos k) p (next_down s k m c (le_of_suc-le-suc g) N l)
      ]

pub root_is_nearest : (x y : Float) → T (positive x) → T (fits binary64 x) → T (unsigned y) → T (fits binary64 y)
    → (T (lt (root_of x) y) → RootBelowMiddle x (root_of x) y) × (T (lt y (root_of x)) → RootAboveMiddle x (root_of x) y)
root_is_nearest x y p f u g =
    let R = root_form x p f in
    let w = units_of y u g in (
      farther_above x y R.0 R.1 R.2 w.0 w.1 R.3 w.2 w.3,
      farther_below x y R.0 R.1 R.2 w.0 w.1 R.3
          w.2 w.3,
    )
