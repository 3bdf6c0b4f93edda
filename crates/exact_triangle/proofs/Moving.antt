-- The direction of an admitted ray, of length 1, is not read as 0. Assumes nothing.
use Rattle.std.proofs.Common.{◌≡◌, ℕ, suc, ◌+◌, ◌*◌, ◌^◌, ◌<◌, ◌≤◌, Bool, true, false, ◌⊎◌, ℤ, negsuc, nat_abs, sym, refl, ap, ◌∙◌, subst}
use Rattle.std.proofs.Common.{inl, inr, true≢false, le_trans, mul-le-mul_right, eq-zero-or-pos, mul-pos, arith, pow_pos}
use mathlib.Core.Bool.{false≢true}
use native.Mathlib.Nat.{pow-succ'}
use lib.Ieee.{Float, nan, inf, fin, binary64, up, down, round, units, odd, size, climb, span, sum, add, mul, of_bits}
use lib.Ieee.{of_fields, le, lt, eq}
use lib.Ieee.Fits.{down_pos}
use lib.Ieee.Nearest.{closest}
use Rattle.lists.proofs.JoinedTests.{and_first, and_second}
use Rattle.arithmetic.specs.Basic.{is_finite, negative}
use Rattle.arithmetic.proofs.Order.{le_transitive}
use Rattle.arithmetic.proofs.SumOrder.{le_parts}
use Rattle.arithmetic.proofs.RoundedOrder.{plain_mono}
use Rattle.arithmetic.proofs.RoundedSigns.{square_not_negative, sum_not_negative}
use Rattle.arithmetic.proofs.RoundingError.{closest_near}
use Rattle.vectors.specs.Vector.{finite_vec, dot_of}
use Rattle.geometry.specs.Segment.{ray_admitted, range_admitted, close_to_unit_length}
use Rattle.vectors.specs.declared.vec3.Vec3.{Vec3}
use Rattle.geometry.specs.declared.ray.Ray.{Ray}
use Rattle.geometry.proofs.UnitLength.{least_square, close_by_square, admitted_is}
use Rattle.exact_triangle.specs.Line.{parts, Moves}
use Rattle.exact_triangle.specs.Grid.{nearest_to, grid_line}
use Rattle.exact_triangle.proofs.Touching.{signed_size, FiniteAt, finite_at}

-- 2^-62, 2^-61 and 2^-60
abbrev tiny : ℕ → Float
tiny k = fin false 1 (negsuc k)

-- ---- a component that is read as 0 has a square up to 2^-62
few : (a d K : ℕ) → 2 * (a * K) ≤ d → a * a * (4 * K * K) ≤ d * d
few a d K h =
    let h' : 2 * (a * K) * (2 * (a * K)) ≤ d * (2 * (a * K)) = mul-le-mul_right (2 * (a * K)) h in
    let h'' : 2 * (a * K) * d ≤ d * d = mul-le-mul_right d h in
    omega (arith, h', h'')

tiny_is : (k : ℕ) → round binary64 false 1 (2 ^ 62) ≡ tiny 61
unfolding round units odd size climb span
tiny_is k = refl

pub square_is : (s : Bool) (m : ℕ) (e : ℤ) → mul binary64 (fin s m e) (fin s m e) ≡ round binary64 false (m * up e * (m * up e))
    (down e * down e)
unfolding mul
square_is false m e = refl
square_is true m e = refl

square_tiny : (x : Float) → is_finite x ≡ true → nat_abs (nearest_to parts x) ≡ 0 → le (mul binary64 x x) (tiny 61) ≡ true
unfolding is_finite nearest_to
square_tiny nan f h = absurd (false≢true f)
square_tiny (inf s) f h = absurd (false≢true f)
square_tiny (fin s m e) f h =
    let q = closest (m * up e * parts) (down e) in
    let none : q ≡ 0 = sym (signed_size s q) ∙ h in
    let n = (closest_near (m * up e * parts) (down e) (down_pos e)).1 in
    let n' : 2 * (m * up e * parts) ≤ down e = subst (λ (z : ℕ). 2 * (m * up e * parts) ≤ z) (nothing (down e)) (subst (λ (k : ℕ). 2 *
    (m * up e * parts) ≤ 2 * (k * down e) + down e) none n) in
    ap (λ (z : Float). le z (tiny 61)) (square_is s m e)
    ∙ ap (le (round binary64 false (m * up e * (m * up e)) (down e * down e))) (sym (tiny_is 0))
    ∙ plain_mono (m * up e * (m * up e)) (down e * down e) 1 (2 ^ 62) (mul-pos (down_pos e) (down_pos e)) (pow_pos 62)
    (le_trans (few (m * up e) (down e) parts n') (one (down e * down e)))
  where
    nothing : (d : ℕ) → 2 * (0 * d) + d ≡ d
    nothing d = omega arith

    one : (n : ℕ) → n ≤ 1 * n
    one n = omega arith

-- ---- a sum of two such is twice as much
halves : (a b E F K : ℕ) → a * (2 * K) ≤ E → b * (2 * K) ≤ F → (a * F + b * E) * K ≤ E * F
halves a b E F K h g =
    let h' : a * (2 * K) * F ≤ E * F = mul-le-mul_right F h in
    let g' : b * (2 * K) * E ≤ F * E = mul-le-mul_right E g in
    omega (arith, h', g')

pub add_is : (m : ℕ) (e : ℤ) (n : ℕ) (d : ℤ) → add binary64 (fin false m e) (fin false n d)
    ≡ round binary64 false (m * up e * down d + n * up d * down e) (down e * down d)
unfolding add sum
add_is m e n d = refl

-- a float that is not negative and not above a finite one is finite
data Plain : Float → Type 0 where
  plain : (m : ℕ) (e : ℤ) → Plain (fin false m e)

plain_of : (x : Float) (k : ℕ) → negative x ≡ false → le x (tiny k) ≡ true → Plain x
unfolding negative le lt eq
plain_of nan k n h = absurd (false≢true h)
plain_of (inf true) k n h = absurd (true≢false n)
plain_of (inf false) k n h = absurd (false≢true h)
plain_of (fin true m e) k n h = absurd (true≢false n)
plain_of (fin false m e) k n h = plain m e

bound_of : (m : ℕ) (e : ℤ) (k : ℕ) → le (fin false m e) (tiny k) ≡ true → m * up e * 2 ^ suc k ≤ down e
bound_of m e k h =
    let p = le_parts (fin false m e) (tiny k) (unfold is_finite in refl) (unfold is_finite in refl) h in
    let d = down_pos e in
    omega (arith, p)

module _ (k : ℕ) (round_is : round binary64 false 1 (2 ^ suc k) ≡ tiny k) where
  sum_tiny : (x y : Float) → Plain x → Plain y → le x (tiny (suc k)) ≡ true → le y (tiny (suc k)) ≡ true
      → le (add binary64 x y) (tiny k) ≡ true
  sum_tiny x y (plain m e) (plain n d) h g =
      ap (λ (z : Float). le z (tiny k)) (add_is m e n d)
      ∙ ap (le (round binary64 false (m * up e * down d + n * up d * down e) (down e * down d))) (sym round_is)
      ∙ plain_mono (m * up e * down d + n * up d * down e) (down e * down d) 1 (2 ^ suc k) (mul-pos (down_pos e) (down_pos d))
      (pow_pos (suc k))
      (le_trans (halves (m * up e) (n * up d) (down e) (down d) (2 ^ suc k) (twice (m * up e) (down e) (bound_of m e (suc k) h))
      (twice (n * up d) (down d) (bound_of n d (suc k) g))) (one (down e * down d)))
    where
      one : (n : ℕ) → n ≤ 1 * n
      one n = omega arith

      twice : (a d : ℕ) → a * 2 ^ suc (suc k) ≤ d → a * (2 * 2 ^ suc k) ≤ d
      twice a d h = subst (λ (z : ℕ). a * z ≤ d) (pow-succ' 2 (suc k)) h

round_61 : round binary64 false 1 (2 ^ 61) ≡ tiny 60
unfolding round units odd size climb span
round_61 = refl

round_60 : round binary64 false 1 (2 ^ 60) ≡ tiny 59
unfolding round units odd size climb span
round_60 = refl

wider : le (tiny 61) (tiny 60) ≡ true
unfolding le lt eq
wider = refl

-- ---- the square of a length of about 1 is not so small
not_tiny : le least_square (tiny 59) ≡ true → ⊥
unfolding of_bits of_fields le lt eq
not_tiny h = false≢true h

pub dot_tiny : (v : Vec3) → FiniteAt v → nat_abs (nearest_to parts v.x) ≡ 0 → nat_abs (nearest_to parts v.y) ≡ 0
    → nat_abs (nearest_to parts v.z) ≡ 0 → le (dot_of v v) (tiny 59) ≡ true
unfolding dot_of
dot_tiny v f a b c =
    let x = mul binary64 v.x v.x in
    let y = mul binary64 v.y v.y in
    let z = mul binary64 v.z v.z in
    let p = square_tiny v.x f.x a in
    let q = square_tiny v.y f.y b in
    let r = square_tiny v.z f.z c in
    let nx = square_not_negative binary64 v.x in
    let ny = square_not_negative binary64 v.y in
    let nz = square_not_negative binary64 v.z in
    let s = sum_tiny 60 round_61 x y (plain_of x 61 nx p) (plain_of y 61 ny q) p q in
    sum_tiny 59 round_60 (add binary64 x y) z (plain_of (add binary64 x y) 60 (sum_not_negative binary64 x y nx ny) s)
    (plain_of z 61 nz r) s (le_transitive z (tiny 61) (tiny 60) r wider)

pub ray_moves : (r : Ray) → ray_admitted r ≡ true → Moves (grid_line r).direction
unfolding grid_line
ray_moves r h =
    let d = r.direction in
    let x = nat_abs (nearest_to parts d.x) in
    let y = nat_abs (nearest_to parts d.y) in
    let z = nat_abs (nearest_to parts d.z) in
    record { some = go (eq-zero-or-pos (x + y + z)) }
  where
    finite : finite_vec r.direction ≡ true
    finite = unfold ray_admitted in and_first (finite_vec r.direction) _ (and_second (finite_vec r.origin) _ h)

    close : close_to_unit_length r.direction ≡ true
    close =
        and_first (close_to_unit_length r.direction) (range_admitted r) (and_second (finite_vec r.origin) _ (sym (admitted_is r) ∙ h))

    go : (nat_abs (nearest_to parts r.direction.x) + nat_abs (nearest_to parts r.direction.y)
        + nat_abs (nearest_to parts r.direction.z) ≡ 0)
        ⊎ (0 < nat_abs (nearest_to parts r.direction.x) + nat_abs (nearest_to parts r.direction.y)
        + nat_abs (nearest_to parts r.direction.z))
        → 0 < nat_abs (nearest_to parts r.direction.x) + nat_abs (nearest_to parts r.direction.y)
        + nat_abs (nearest_to parts r.direction.z)
    go (inr k) = k
    go (inl k) =
        let d = r.direction in
        let small = dot_tiny d (finite_at d finite) (omega (arith, k)) (omega (arith, k)) (omega (arith, k)) in
        let large = and_first (le least_square (dot_of d d)) _ (sym (close_by_square d) ∙ close) in
        absurd (not_tiny (le_transitive least_square (dot_of d d) (tiny 59) large small))
