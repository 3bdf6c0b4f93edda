-- A whole number that is at most a coordinate, and whose next one is above it, is the coordinate's cell. Assumes nothing.
use mathlib.Core.Path.{◌≡◌, refl, sym, ap, ◌∙◌}
use mathlib.Core.Bool.{true, false, true≢false, false≢true}
use Prim.Native.Nat.{ℕ, zero, suc, ◌+◌, ◌*◌, ◌/◌, ◌^◌, ◌≤◌, ◌<◌}
use native.Mathlib.Nat.{le_trans, le_of_eq, lt_of_lt_of_le, mul-one, mul_right_comm, mul-pos, mul-le-mul_right, le_of_mul-le-mul_right}
use native.Mathlib.Nat.{lt_of_mul-lt-mul_right, le-div_iff_mul-le, div-lt_iff_lt-mul}
use native.Mathlib.Omega.{arith}
use lib.Dec.{T}
use lib.IntN.{ℤ}
use lib.Ieee.{Float, nan, inf, fin, binary64, fits, up, down, lt, le, to_unsigned}
use lib.Ieee.Fits.{down_pos}
use lib.Ieee.Exact.{HasValue}
use borrow.Author.Tests.{ltb-true, ltb-false}
use Rattle.arithmetic.proofs.Casts.{cast_is}
use Rattle.arithmetic.proofs.Exactness.{of_int_value}
use Rattle.arithmetic.proofs.Order.{not_lt_of_le, le_nan_false}
use Rattle.arithmetic.proofs.WholeNumbers.{cast_of_floor}
use Rattle.distance_grid.specs.Grid.{whole}
use Rattle.distance_grid.specs.Places.{floor_cell}

-- a whole number's float, across the other number's denominator
scaled : (g n : ℕ) (d e : ℤ) → n * up d * 1 ≡ g * down d → n * up d * down e ≡ g * down e * down d
scaled g n d e v = ap (λ (z : ℕ). z * down e) (sym (mul-one (n * up d)) ∙ v) ∙ mul_right_comm g (down d) (down e)

at_least : (m g : ℕ) (e : ℤ) (y : Float) → HasValue y false g 1 → lt (fin false m e) y ≡ false → g * down e ≤ m * up e
unfolding lt
at_least m g e nan v p = absurd v
at_least m g e (inf t) v p = absurd v
at_least m g e (fin true n d) v p = absurd (true≢false v.0)
at_least m g e (fin false n d) v p =
    le_of_mul-le-mul_right (le_trans (le_of_eq (sym (scaled g n d e v.1))) (ltb-false (m * up e * down d) (n * up d * down e) p))
    (down_pos d)

above : (m g : ℕ) (e : ℤ) (y : Float) → HasValue y false g 1 → lt (fin false m e) y ≡ true → m * up e < g * down e
unfolding lt
above m g e nan v p = absurd v
above m g e (inf t) v p = absurd v
above m g e (fin true n d) v p = absurd (true≢false v.0)
above m g e (fin false n d) v p =
    lt_of_mul-lt-mul_right (down d) (lt_of_lt_of_le (ltb-true (m * up e * down d) (n * up d * down e) p) (le_of_eq (scaled g n d e v.1)))

-- below zero only a zero is at least a whole number
not_above : (m g : ℕ) (e : ℤ) (y : Float) → HasValue y false g 1 → lt (fin true m e) y ≡ false → 0 ≡ g
unfolding lt
not_above m g e nan v p = absurd v
not_above m g e (inf t) v p = absurd v
not_above m g e (fin true n d) v p = absurd (true≢false v.0)
not_above m zero e (fin false n d) v p = refl
not_above m (suc g) e (fin false n d) v p =
    let h = ltb-false 0 (m * up e * down d + n * up d * down e) p in
    let s = scaled (suc g) n d e v.1 in
    let a : 0 < suc g * down e * down d = mul-pos (mul-pos (omega arith) (down_pos e)) (down_pos d) in
    absurd (omega arith)

quotient_is : (a c g : ℕ) → 0 < c → g * c ≤ a → a < (g + 1) * c → a / c ≡ g
quotient_is a c g C h k =
    let l : g ≤ a / c = (le-div_iff_mul-le C).1 h in
    let u : a / c < g + 1 = (div-lt_iff_lt-mul C).1 k in
    omega arith

cut_is : (x y z : Float) (g : ℕ) → g ≤ 256 → HasValue y false g 1 → HasValue z false (g + 1) 1 → le y x ≡ true → lt x z ≡ true → to_unsigned
    64 x ≡ g
cut_is nan y z g l v w p q = absurd (true≢false (sym p ∙ le_nan_false y))
cut_is (inf true) nan z g l v w p q = absurd v
cut_is (inf true) (inf t) z g l v w p q = absurd v
cut_is (inf true) (fin t n d) z g l v w p q = absurd (false≢true (unfold le in p))
cut_is (inf false) y nan g l v w p q = absurd w
cut_is (inf false) y (inf t) g l v w p q = absurd w
cut_is (inf false) y (fin t n d) g l v w p q = absurd (false≢true (unfold lt in q))
cut_is (fin true m e) y z g l v w p q = unfold to_unsigned in not_above m g e y v (not_lt_of_le y (fin true m e) p)
cut_is (fin false m e) y z g l v w p q =
    let low : g * down e ≤ m * up e = at_least m g e y v (not_lt_of_le y (fin false m e) p) in
    let high : m * up e < (g + 1) * down e = above m (g + 1) e z w q in
    let small : g + 1 ≤ 2 ^ 64 = omega arith in
    cast_is (fin false m e) (m * up e) (down e) (down_pos e) (refl, refl) (lt_of_lt_of_le high (mul-le-mul_right (down e) small))
    ∙ quotient_is (m * up e) (down e) g (down_pos e) low high

pub near_is_cell : (x : Float) (g : ℕ) → g < 256 → T (fits binary64 x) → le (whole g) x ≡ true → lt x (whole (g + 1)) ≡ true → floor_cell x
    ≡
    g
unfolding floor_cell
near_is_cell x g l f p q =
    let one : g ≤ 2 ^ 53 = omega arith in
    let two : g + 1 ≤ 2 ^ 53 = omega arith in
    cast_of_floor x f ∙ cut_is x (whole g) (whole (g + 1)) g (omega arith) (of_int_value g one) (of_int_value (g + 1) two) p q
