-- The direction of an admitted ray, as drawn, has a square of 61/64 and more: each square and each sum, rounded, is at most the whole
-- number
-- of 64ths above it, which a float has exactly. Assumes nothing.
use Rattle.std.proofs.Common.{◌≡◌, ℕ, ◌+◌, ◌*◌, ◌/◌, ◌^◌, ◌<◌, ◌≤◌, true, false, ltb, ℤ, pos, negsuc, ◌+ℤ◌, ◌-ℤ◌, ◌*ℤ◌, nat_abs, sym, refl}
use Rattle.std.proofs.Common.{ap, ◌∙◌, subst, true≢false, le_trans, lt_of_le_of_lt, mul-le-mul_right, mod-lt, mul_assoc, mul-pos}
use Rattle.std.proofs.Common.{div-add-mod', le_of_mul-le-mul_right, arith, lit<, lit≤, ltb-false}
use mathlib.Core.Bool.{false≢true}
use borrow.Author.Tests.{not-true}
use lib.Ieee.{Float, nan, inf, fin, binary64, up, down, round, add, mul, of_bits, le, lt, eq}
use lib.Ieee.Fits.{down_pos}
use lib.Ieee.Exact.{HasValue, round_exact}
use Rattle.lists.proofs.JoinedTests.{and_first, and_second}
use Rattle.arithmetic.specs.Basic.{negative}
use Rattle.arithmetic.proofs.Order.{nan_le_false}
use Rattle.arithmetic.proofs.RoundedOrder.{plain_mono}
use Rattle.arithmetic.proofs.RoundedSigns.{round_not_negative}
use Rattle.arithmetic.proofs.ValueOrder.{le_values}
use Rattle.vectors.specs.Vector.{dot_of}
use Rattle.vectors.specs.declared.vec3.Vec3.{Vec3}
use Rattle.geometry.proofs.UnitLength.{least_square}
use Rattle.exact_depth.specs.declared.projection.Point.{Point}
use Rattle.exact_triangle.specs.Line.{parts}
use Rattle.exact_triangle.specs.Grid.{within, all_within, two}
use Rattle.exact_triangle.proofs.Touching.{two_is}
use Rattle.exact_triangle.proofs.Moving.{square_is, add_is}
use Rattle.drill.specs.Drill.{square}
use Rattle.mesh_drill.specs.AsDrawn.{Equals, EqualsAt}
use Rattle.wide_integers.proofs.Signs.{Nonneg, nonneg_as}
use Rattle.mesh_drill.proofs.Reading.{minus_natural, exact_size, within_parts}

-- ---- a float that is not below 0 and at most n / 64
data Below : ℕ → Float → Type 0 where
  below : (n m : ℕ) (e : ℤ) → m * up e * 64 ≤ n * down e → Below n (fin false m e)

below_of : (x y : Float) (n : ℕ) → negative x ≡ false → HasValue y false n 64 → le x y ≡ true → Below n x
unfolding negative
below_of nan y n p v h = absurd (false≢true (sym (nan_le_false y) ∙ h))
below_of (inf true) y n p v h = absurd (true≢false p)
below_of (inf false) nan n p v h = absurd v
below_of (inf false) (inf t) n p v h = absurd v
below_of (inf false) (fin t m e) n p v h = unfold le lt eq in absurd (false≢true h)
below_of (fin true m e) y n p v h = absurd (true≢false p)
below_of (fin false m e) y n p v h =
    let l = le_values (fin false m e) y false false (m * up e) (down e) n 64 (down_pos e) (lit< tt) (refl, refl) v in
    below n m e (ltb-false (n * down e) (m * up e * 64) (not-true (ltb (n * down e) (m * up e * 64)) (sym l ∙ h)))

-- 64ths are floats
sixty_fourths : (n : ℕ) → n ≤ 1024 → HasValue (round binary64 false n 64) false n 64
sixty_fourths n h =
    let small : n < 2 ^ 53 = lt_of_le_of_lt h (lit< tt) in
    let room : n * 2 ^ 1068 ≤ 1024 * 2 ^ 1068 = mul-le-mul_right (2 ^ 1068) h in
    round_exact binary64 false n 64 n 1068 (lit< tt) small (lt_of_le_of_lt room (lit< tt)) (sym (mul_assoc n (2 ^ 1068) 64))

round_below : (a c n : ℕ) → 0 < c → n ≤ 1024 → a * 64 ≤ n * c → Below n (round binary64 false a c)
round_below a c n C h g =
    below_of (round binary64 false a c) (round binary64 false n 64) n (round_not_negative binary64 a c) (sixty_fourths n h)
    (plain_mono a c n 64 C (lit< tt) g)

sum_below : (n k : ℕ) (x y : Float) → n + k ≤ 1024 → Below n x → Below k y → Below (n + k) (add binary64 x y)
sum_below n k x y h (below _ m e p) (below _ l d q) =
    let p' : m * up e * 64 * down d ≤ n * down e * down d = mul-le-mul_right (down d) p in
    let q' : l * up d * 64 * down e ≤ k * down d * down e = mul-le-mul_right (down e) q in
    subst (Below (n + k)) (sym (add_is m e l d))
    (round_below (m * up e * down d + l * up d * down e) (down e * down d) (n + k) (mul-pos (down_pos e) (down_pos d)) h
    (omega (arith, p', q')))

-- ---- a component: its square, rounded, is at most n / 64, and n is at most 1 above 64 times the square as drawn
record Component (W : ℕ) (x : Float) (z : ℤ) : Type 0 where
  n : ℕ
  small : n ≤ 257
  rounded : Below n (mul binary64 x x)
  exact : n * (parts * W * (parts * W)) ≤ 64 * (nat_abs z * nat_abs z) + parts * W * (parts * W)

over : (a d : ℕ) → 0 < d → (a * 64 ≤ (a * 64 / d + 1) * d) × ((a * 64 / d + 1) * d ≤ a * 64 + d)
over a d D =
    let e = div-add-mod' (a * 64) d in
    let l = mod-lt (a * 64) D in
    (omega (arith, e, l), omega (arith, e, l))

few : (q a d : ℕ) → 0 < d * d → a ≤ 2 * d → (q + 1) * (d * d) ≤ a * a * 64 + d * d → q + 1 ≤ 257
few q a d D h g =
    let h₁ : a * a ≤ 2 * d * a = mul-le-mul_right a h in
    let h₂ : a * d ≤ 2 * d * d = mul-le-mul_right d h in
    le_of_mul-le-mul_right (let k : (q + 1) * (d * d) ≤ 257 * (d * d) = omega (arith, h₁, h₂, g) in k) D

exact_square : (n a d P W z : ℕ) → 0 < d * d → n * (d * d) ≤ a * a * 64 + d * d → a * P * W ≡ z * d
    → n * (P * W * (P * W)) ≤ 64 * (z * z) + P * W * (P * W)
exact_square n a d P W z D h e =
    let h' : n * (d * d) * (P * W * (P * W)) ≤ (a * a * 64 + d * d) * (P * W * (P * W)) = mul-le-mul_right (P * W * (P * W)) h in
    let e₁ : a * P * W * (a * P * W) ≡ z * d * (a * P * W) = ap (λ (t : ℕ). t * (a * P * W)) e in
    let e₂ : z * d * (a * P * W) ≡ z * d * (z * d) = ap (λ (t : ℕ). z * d * t) e in
    le_of_mul-le-mul_right (last n a d P W z h' (e₁ ∙ e₂)) D
  where
    last : (n a d P W z : ℕ) → n * (d * d) * (P * W * (P * W)) ≤ (a * a * 64 + d * d) * (P * W * (P * W))
        → a * P * W * (a * P * W) ≡ z * d * (z * d)
        → n * (P * W * (P * W)) * (d * d) ≤ (64 * (z * z) + P * W * (P * W)) * (d * d)
    last n a d P W z h e = omega (arith, h, e)

component : (W : ℕ) (x : Float) (z : ℤ) → within two x ≡ true → Equals parts W x z → Component W x z
component W nan z h v = absurd v
component W (inf s) z h v = absurd v
component W (fin s m e) z h v =
    let a = m * up e in
    let d = down e in
    let D = mul-pos (down_pos e) (down_pos e) in
    let q = a * a * 64 / (d * d) in
    let o = over (a * a) (d * d) D in
    let p : a ≤ 2 ^ 1 * d = within_parts s m e two 1 two_is h in
    let small = few q a d D p o.1 in
    record {
      n = q + 1;
      small = small;
      rounded = subst (Below (q + 1)) (sym (square_is s m e)) (round_below (a * a) (d * d) (q + 1) D (le_trans small (lit≤ tt)) o.0);
      exact = exact_square (q + 1) a d parts W (nat_abs z) D o.1 (exact_size parts W s m e z v);
    }

-- ---- 1 - 2e-12 is above 63/64
least_value : HasValue least_square false 0x1f_ffff_ffff_b9a2 (2 ^ 53)
unfolding of_bits
least_value = (refl, refl)

from_least : (x : Float) (n : ℕ) → le least_square x ≡ true → Below n x → 64 ≤ n
from_least x n h (below _ m e p) =
    let l = le_values least_square (fin false m e) false false 0x1f_ffff_ffff_b9a2 (2 ^ 53) (m * up e) (down e) (lit< tt)
    (down_pos e) least_value
    (refl, refl) in
    let w = ltb-false (m * up e * 2 ^ 53) (0x1f_ffff_ffff_b9a2 * down e)
    (not-true (ltb (m * up e * 2 ^ 53) (0x1f_ffff_ffff_b9a2 * down e)) (sym l ∙ h)) in
    many (m * up e) (down e) n (down_pos e) p w
  where
    many : (a d n : ℕ) → 0 < d → a * 64 ≤ n * d → 0x1f_ffff_ffff_b9a2 * d ≤ a * 2 ^ 53 → 64 ≤ n
    many a d n D h g =
        let k : 0x1f_ffff_ffff_b9a2 * 64 * d ≤ n * 2 ^ 53 * d = omega (arith, h, g) in
        let k' : 0x1f_ffff_ffff_b9a2 * 64 ≤ n * 2 ^ 53 = le_of_mul-le-mul_right k D in
        omega (arith, k')

-- ---- the direction
square_size : (z : ℤ) → z *ℤ z ≡ pos (nat_abs z * nat_abs z)
square_size (pos n) = refl
square_size (negsuc n) = refl

pub exact_long : (W : ℕ) (v : Vec3) (p : Point) → all_within two v ≡ true → le least_square (dot_of v v) ≡ true → EqualsAt parts W v p
    → Nonneg (pos 64 *ℤ square p -ℤ pos 61 *ℤ (pos parts *ℤ pos W *ℤ (pos parts *ℤ pos W)))
unfolding dot_of
exact_long W v p h l e =
    let rest = and_second (within two v.x) _ h in
    let x = component W v.x p.x (and_first (within two v.x) _ h) e.x in
    let y = component W v.y p.y (and_first (within two v.y) _ rest) e.y in
    let z = component W v.z p.z (and_second (within two v.y) _ rest) e.z in
    let sx = x.small in
    let sy = y.small in
    let sz = z.small in
    let xy = sum_below x.n y.n (mul binary64 v.x v.x) (mul binary64 v.y v.y) (omega (arith, sx, sy)) x.rounded
    y.rounded in
    let xyz = sum_below (x.n + y.n) z.n (add binary64 (mul binary64 v.x v.x) (mul binary64 v.y v.y))
    (mul binary64 v.z v.z)
    (omega (arith, sx, sy, sz)) xy z.rounded in
    let many = from_least (dot_of v v) (x.n + y.n + z.n) l xyz in
    nonneg_as
    (ap (λ (t : ℤ). pos 64 *ℤ t -ℤ pos 61 *ℤ (pos parts *ℤ pos W *ℤ (pos parts *ℤ pos W)))
    (λ s. sym (square_size p.x) s +ℤ sym (square_size p.y) s +ℤ sym (square_size p.z) s))
    (minus_natural (61 * (parts * W * (parts * W)))
    (64 * (nat_abs p.x * nat_abs p.x + nat_abs p.y * nat_abs p.y + nat_abs p.z * nat_abs p.z))
    (together x.n y.n z.n (parts * W * (parts * W)) (nat_abs p.x * nat_abs p.x) (nat_abs p.y * nat_abs p.y)
    (nat_abs p.z * nat_abs p.z) many x.exact y.exact z.exact))
  where
    together : (i j k U a b c : ℕ) → 64 ≤ i + j + k → i * U ≤ 64 * a + U → j * U ≤ 64 * b + U → k * U ≤ 64 * c + U → 61 * U ≤ 64 *
        (a + b + c)
    together i j k U a b c h x y z =
        let h' : 64 * U ≤ (i + j + k) * U = mul-le-mul_right U h in
        omega (arith, h', x, y, z)
