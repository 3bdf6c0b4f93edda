-- Floats by the fractions that they equal: other fractions of the same size, comparisons, and products. Assumes nothing.
use Rattle.std.proofs.Common.{◌≡◌, ℕ, ◌+◌, ◌*◌, ◌<◌, Bool, true, false, not, ltb, sym, refl, ap, ◌∙◌, mul-le-mul_right, mul_assoc, mul_comm}
use Rattle.std.proofs.Common.{add-mul, mul-lt-mul_of_pos_right, mul-pos, zero-mul, mul_right_comm, mul_left_comm, ltb-false, ltb-true}
use Rattle.std.proofs.Common.{le-ltb, lt-ltb}
use native.Mathlib.Nat.{mul-mul-mul_comm, eq_of_mul-eq-mul_right}
use lib.Ieee.{Float, nan, inf, fin, binary64, up, down, below, round, mul, lt, le, is_nan, unlike}
use lib.Ieee.Fits.{down_pos}
use lib.Ieee.Exact.{HasValue}
use lib.Ieee.Scale.{round_same}
use Rattle.arithmetic.specs.Basic.{is_finite, absolute}
use Rattle.arithmetic.proofs.Order.{le_is_not_lt}

-- ---- what has a value
pub value_number : (x : Float) (s : Bool) (a c : ℕ) → HasValue x s a c → is_nan x ≡ false
unfolding is_nan
value_number nan s a c v = absurd v
value_number (inf r) s a c v = absurd v
value_number (fin r m e) s a c v = refl

pub value_finite : (x : Float) (s : Bool) (a c : ℕ) → HasValue x s a c → is_finite x ≡ true
unfolding is_finite
value_finite nan s a c v = absurd v
value_finite (inf r) s a c v = absurd v
value_finite (fin r m e) s a c v = refl

pub absolute_value : (x : Float) (s : Bool) (a c : ℕ) → HasValue x s a c → HasValue (absolute x) false a c
unfolding absolute
absolute_value nan s a c v = v
absolute_value (inf r) s a c v = v
absolute_value (fin r m e) s a c v = (refl, v.1)

-- from one fraction to another of the same size
pub value_by_lem : (x : Float) (s : Bool) (a c b d : ℕ) → 0 < c → b * c ≡ a * d → HasValue x s a c → HasValue x s b d
value_by_lem nan s a c b d C h v = v
value_by_lem (inf t) s a c b d C h v = v
value_by_lem (fin t m e) s a c b d C h v = (
  v.0,
  eq_of_mul-eq-mul_right c C (m * up e * d) (b * down e)
      (mul_right_comm (m * up e) d c
      ∙ ap (λ (x : ℕ). x * d) v.1
      ∙ mul_right_comm a (down e) d
      ∙ ap (λ (x : ℕ). x * down e) (sym h)
      ∙ mul_right_comm b c (down e)),
)

-- ---- the sign of a product or a quotient by a positive number
pub unlike_false : (s : Bool) → unlike s false ≡ s
unlike_false true = refl
unlike_false false = refl

-- ---- comparisons
pub ltb_scale : (a b k : ℕ) → 0 < k → ltb (a * k) (b * k) ≡ ltb a b
ltb_scale a b k K = go (ltb a b) refl
  where
    go : (t : Bool) → ltb a b ≡ t → ltb (a * k) (b * k) ≡ ltb a b
    go true h = lt-ltb (a * k) (b * k) (mul-lt-mul_of_pos_right (ltb-true a b h) K) ∙ sym h
    go false h = le-ltb (a * k) (b * k) (mul-le-mul_right k (ltb-false a b h)) ∙ sym h

below_scale : (s : Bool) (a : ℕ) (t : Bool) (b k : ℕ) → 0 < k → below s (a * k) t (b * k) ≡ below s a t b
below_scale false a false b k K = ltb_scale a b k K
below_scale false a true b k K = refl
below_scale true a false b k K =
    ap (λ (z : ℕ). ltb z (a * k + b * k)) (sym (zero-mul k)) ∙ ap (λ (z : ℕ). ltb (0 * k) z) (sym (add-mul a b k))
    ∙ ltb_scale 0 (a + b) k K
below_scale true a true b k K = ltb_scale b a k K

cross : (x de dd a c c' : ℕ) → x * c ≡ a * de → x * dd * (c * c') ≡ a * c' * (de * dd)
cross x de dd a c c' p =
    simp (mul_assoc, mul_comm, mul_left_comm) (simp (mul_assoc, mul_comm, mul_left_comm) at (ap (λ (z : ℕ). z * (dd * c')) p))

pub lt_values : (x y : Float) (s t : Bool) (a c b c' : ℕ) → 0 < c → 0 < c' → HasValue x s a c → HasValue y t b c'
    → lt x y ≡ below s (a * c') t (b * c)
unfolding lt
lt_values nan y s t a c b c' C C' v w = absurd v
lt_values (inf r) y s t a c b c' C C' v w = absurd v
lt_values (fin r m e) nan s t a c b c' C C' v w = absurd w
lt_values (fin r m e) (inf q) s t a c b c' C C' v w = absurd w
lt_values (fin r m e) (fin q n d) s t a c b c' C C' v w =
    let k = c * c' in
    let j = down e * down d in
    let x : m * up e * down d * k ≡ a * c' * j = cross (m * up e) (down e) (down d) a c c' v.1 in
    let y : n * up d * down e * k ≡ b * c * j =
    ap (λ (z : ℕ). n * up d * down e * z) (mul_comm c c') ∙ cross (n * up d) (down d) (down e) b c' c w.1
    ∙ ap (λ (z : ℕ). b * c * z) (mul_comm (down d) (down e)) in
    ap (λ (z : Bool). below z (m * up e * down d) q (n * up d * down e)) v.0
    ∙ ap (λ (z : Bool). below s (m * up e * down d) z (n * up d * down e)) w.0
    ∙ sym (below_scale s (m * up e * down d) t (n * up d * down e) k (mul-pos C C'))
    ∙ ap (λ (z : ℕ). below s z t (n * up d * down e * k)) x
    ∙ ap (λ (z : ℕ). below s (a * c' * j) t z) y
    ∙ below_scale s (a * c') t (b * c) j (mul-pos (down_pos e) (down_pos d))

pub le_values : (x y : Float) (s t : Bool) (a c b c' : ℕ) → 0 < c → 0 < c' → HasValue x s a c → HasValue y t b c'
    → le x y ≡ not (below t (b * c) s (a * c'))
le_values x y s t a c b c' C C' v w =
    le_is_not_lt x y (value_number x s a c v) (value_number y t b c' w) ∙ ap not (lt_values y x t s b c' a c C' C w v)

-- ---- products
pub mul_values : (x y : Float) (s t : Bool) (a c b d : ℕ) → 0 < c → 0 < d → HasValue x s a c → HasValue y t b d
    → mul binary64 x y ≡ round binary64 (unlike s t) (a * b) (c * d)
unfolding mul
mul_values nan y s t a c b d C D v w = absurd v
mul_values (inf r) y s t a c b d C D v w = absurd v
mul_values (fin r m e) nan s t a c b d C D v w = absurd w
mul_values (fin r m e) (inf q) s t a c b d C D v w = absurd w
mul_values (fin r m e) (fin q n g) s t a c b d C D v w =
    ap (λ (z : Bool). round binary64 (unlike z q) (m * up e * (n * up g)) (down e * down g)) v.0
    ∙ ap (λ (z : Bool). round binary64 (unlike s z) (m * up e * (n * up g)) (down e * down g)) w.0
    ∙ round_same binary64 (unlike s t) (m * up e * (n * up g)) (down e * down g) (a * b) (c * d) (mul-pos (down_pos e) (down_pos g))
    (mul-pos C D)
    (mul-mul-mul_comm (m * up e) (n * up g) c d
    ∙ ap (λ (z : ℕ). z * (n * up g * d)) v.1
    ∙ ap (λ (z : ℕ). a * down e * z) w.1
    ∙ mul-mul-mul_comm a (down e) b (down g))
