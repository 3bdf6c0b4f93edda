-- A quotient by a positive number keeps the order, and a product by a small whole number can be divided again. Assumes nothing.
use Rattle.std.proofs.Common.{◌≡◌, ℕ, zero, suc, ◌+◌, ◌*◌, ◌^◌, ◌<◌, ◌≤◌, Bool, true, false, cond, T, eqb, ltb, ℤ, pos, sym, refl, ap, ◌∙◌}
use Rattle.std.proofs.Common.{subst, true≢false, le_trans, le_of_eq, lt_of_lt_of_le, mul-le-mul_right, mul_assoc, mul_comm, mul-le-mul_left}
use Rattle.std.proofs.Common.{mul-lt-mul_of_pos_right, mul-pos, mul-one, le_of_mul-le-mul_right, mul_left_comm, arith, lit<, lit≤}
use Rattle.std.proofs.Common.{ltb-false, ltb-true, ne_eqb}
use mathlib.Core.Bool.{false≢true}
use lib.Ieee.{Float, nan, inf, fin, binary64, up, down, fits, round, mul, div, unlike, lt, le}
use lib.Ieee.Exact.{HasValue}
use lib.Ieee.Fits.{down_pos, up_pos, round-fits}
use lib.Ieee.Scale.{round_same}
use Rattle.arithmetic.specs.Basic.{is_finite, negative}
use Rattle.arithmetic.proofs.Exactness.{scaled_exact}
use Rattle.arithmetic.proofs.Order.{not_lt_of_le}
use Rattle.arithmetic.proofs.RoundedSigns.{round_not_negative}
use Rattle.arithmetic.proofs.SignedOrder.{plus, less, plus_times, less_times}
use Rattle.arithmetic.proofs.OwnRounding.{own_rounding}
use Rattle.arithmetic.proofs.RoundedOrder.{AtMost, plain_mono, zero_rounds, rounding_mono}
use Rattle.arithmetic.proofs.SumOrder.{le_parts, nothing}
use Rattle.arithmetic.proofs.ValueOrder.{unlike_false}

-- ---- quotients by a positive number keep the order
pub data Positive : Float → Type 0 where
  positive : (n : ℕ) (d : ℤ) → 0 < n → Positive (fin false n d)

pub positive_of : (x : Float) → is_finite x ≡ true → lt nothing x ≡ true → Positive x
unfolding is_finite lt
positive_of nan p h = absurd (false≢true p)
positive_of (inf s) p h = absurd (false≢true p)
positive_of (fin true n d) p h = absurd (false≢true h)
positive_of (fin false zero d) p h = let l = ltb-true (0 * down d) (0 * up d * 1) h in absurd (omega arith)
positive_of (fin false (suc n) d) p h = positive (suc n) d (omega arith)

quotient_is : (s : Bool) (m : ℕ) (e : ℤ) (n : ℕ) (d : ℤ) → 0 < n
    → div binary64 (fin s m e) (fin false n d) ≡ round binary64 s (m * up e * down d) (n * up d * down e)
unfolding div
quotient_is s m e n d l =
    ap (λ (b : Bool). cond b (cond (eqb m 0) nan (inf (unlike s false)))
    (round binary64 (unlike s false) (m * up e * down d) (n * up d * down e)))
    (ne_eqb n 0 (λ z. omega arith))
    ∙ ap (λ (t : Bool). round binary64 t (m * up e * down d) (n * up d * down e)) (unlike_false s)

quotients_ordered : (px lx py ly x y n d : ℕ) → px * y + ly * x ≤ py * x + lx * y
    → px * d * (n * y) + ly * d * (n * x) ≤ py * d * (n * x) + lx * d * (n * y)
quotients_ordered px lx py ly x y n d h =
    let g : (px * y + ly * x) * (d * n) ≤ (py * x + lx * y) * (d * n) = mul-le-mul_right (d * n) h in omega (arith, g)

quotient_order : (s : Bool) (a x : ℕ) (t : Bool) (b y n d : ℕ) → AtMost s a x t b y → AtMost s (a * d) (n * x) t (b * d) (n * y)
quotient_order s a x t b y n d h = simp (plus_times, less_times) (quotients_ordered (plus s a) (less s a) (plus t b) (less t b) x y n d h)

pub quotient_mono : (x y z : Float) → is_finite x ≡ true → is_finite y ≡ true → Positive z → le x y ≡ true
    → le (div binary64 x z) (div binary64 y z) ≡ true
unfolding is_finite
quotient_mono nan y z p q r h = absurd (false≢true p)
quotient_mono (inf s) y z p q r h = absurd (false≢true p)
quotient_mono (fin s m e) nan z p q r h = absurd (false≢true q)
quotient_mono (fin s m e) (inf t) z p q r h = absurd (false≢true q)
quotient_mono (fin s m e) (fin t k g) z p q (positive n d l) h =
    subst (λ (i : Float). le i (div binary64 (fin t k g) (fin false n d)) ≡ true) (sym (quotient_is s m e n d l))
    (subst (λ (i : Float). le (round binary64 s (m * up e * down d) (n * up d * down e)) i ≡ true) (sym (quotient_is t k g n d l))
    (rounding_mono s (m * up e * down d) (n * up d * down e) t (k * up g * down d) (n * up d * down g)
    (mul-pos (mul-pos l (up_pos d)) (down_pos e)) (mul-pos (mul-pos l (up_pos d)) (down_pos g))
    (quotient_order s (m * up e) (down e) t (k * up g) (down g) (n * up d) (down d)
    (le_parts (fin s m e) (fin t k g) (unfold is_finite in refl) (unfold is_finite in refl) h))))

-- ---- what lies between finite numbers is finite
pub between_finite : (x y z : Float) → is_finite x ≡ true → is_finite z ≡ true → le x y ≡ true → le y z ≡ true → is_finite y ≡ true
unfolding is_finite le
between_finite nan y z p q h k = absurd (false≢true p)
between_finite (inf s) y z p q h k = absurd (false≢true p)
between_finite (fin s m e) nan z p q h k = absurd (false≢true h)
between_finite (fin s m e) (inf true) z p q h k = absurd (false≢true h)
between_finite (fin s m e) (inf false) nan p q h k = absurd (false≢true q)
between_finite (fin s m e) (inf false) (inf t) p q h k = absurd (false≢true q)
between_finite (fin s m e) (inf false) (fin t n d) p q h k = absurd (false≢true k)
between_finite (fin s m e) (fin t n d) z p q h k = refl

none_divided : (n : ℕ) (d : ℤ) → 0 < n → div binary64 nothing (fin false n d) ≡ nothing
none_divided n d l =
    quotient_is false 0 (pos 0) n d l
    ∙ round_same binary64 false (0 * up (pos 0) * down d) (n * up d * down (pos 0)) 0 1 (mul-pos (mul-pos l (up_pos d)) (lit< tt))
    (lit< tt) (omega arith)
    ∙ zero_rounds

-- a quotient of a number from 0 to one whose quotient is finite
pub quotient_finite : (x y z : Float) → is_finite y ≡ true → Positive z → le nothing x ≡ true → le x y ≡ true
    → is_finite (div binary64 y z) ≡ true → is_finite (div binary64 x z) ≡ true
quotient_finite x y z q (positive n d l) h k f =
    let p : is_finite x ≡ true = between_finite nothing x y (unfold is_finite in refl) q h k in
    let least : le nothing (div binary64 x (fin false n d)) ≡ true =
    subst (λ (i : Float). le i (div binary64 x (fin false n d)) ≡ true) (none_divided n d l)
    (quotient_mono nothing x (fin false n d) (unfold is_finite in refl) p (positive n d l) h) in
    between_finite nothing (div binary64 x (fin false n d)) (div binary64 y (fin false n d)) (unfold is_finite in refl) f least
    (quotient_mono x y (fin false n d) p q (positive n d l) k)

-- ---- a product by a small whole number, divided again: over a number from 1 on it is no larger, and else at most 256
product_is : (n : ℕ) (d : ℤ) (w : ℕ) (g : ℤ)
    → mul binary64 (fin false n d) (fin false w g) ≡ round binary64 false (n * up d * (w * up g)) (down d * down g)
unfolding mul
product_is n d w g = refl

whole_cross : (a w k d g : ℕ) → w ≡ k * g → a * w * d ≡ a * k * (d * g)
whole_cross a w k d g e = ap (λ (z : ℕ). a * z * d) e ∙ simp (mul_assoc, mul_comm) refl

times_whole : (n : ℕ) (d : ℤ) (y : Float) (k : ℕ) → HasValue y false k 1
    → mul binary64 (fin false n d) y ≡ round binary64 false (n * up d * k) (down d)
times_whole n d nan k v = absurd v
times_whole n d (inf s) k v = absurd v
times_whole n d (fin true w g) k v = absurd (true≢false v.0)
times_whole n d (fin false w g) k v =
    let e : w * up g ≡ k * down g = sym (mul-one (w * up g)) ∙ v.1 in
    product_is n d w g
    ∙ round_same binary64 false (n * up d * (w * up g)) (down d * down g) (n * up d * k) (down d) (mul-pos (down_pos d) (down_pos g))
    (down_pos d)
    (whole_cross (n * up d) (w * up g) k (down d) (down g) e)

-- P / s ≤ P
large_divided : (a : ℕ) (b : ℤ) (n : ℕ) (d : ℤ) → T (fits binary64 (fin false a b)) → 0 < n → down d ≤ n * up d
    → le (div binary64 (fin false a b) (fin false n d)) (fin false a b) ≡ true
large_divided a b n d f l h =
    subst (λ (i : Float). le i (fin false a b) ≡ true) (sym (quotient_is false a b n d l))
    (subst (λ (i : Float). le (round binary64 false (a * up b * down d) (n * up d * down b)) i ≡ true) (own_rounding false a b f)
    (plain_mono (a * up b * down d) (n * up d * down b) (a * up b) (down b) (mul-pos (mul-pos l (up_pos d)) (down_pos b)) (down_pos b)
    (let g : down d * (a * up b * down b) ≤ n * up d * (a * up b * down b) = mul-le-mul_right (a * up b * down b) h in
    le_trans (le_of_eq (simp (mul_assoc, mul_comm, mul_left_comm) refl))
    (le_trans g (le_of_eq (simp (mul_assoc, mul_comm, mul_left_comm) refl))))))

most_rounds : round binary64 false 256 1 ≡ fin false 1 (pos 8)
unfolding round
most_rounds = refl

plain_parts : (a : ℕ) (b : ℤ) (m : ℕ) (g : ℤ) → le (fin false a b) (fin false m g) ≡ true → a * up b * down g ≤ m * up g * down b
unfolding lt
plain_parts a b m g h = ltb-false (m * up g * down b) (a * up b * down g) (not_lt_of_le (fin false a b) (fin false m g) h)

-- P ≤ 256 s
small_times : (n k : ℕ) (d : ℤ) (t : Float) → HasValue t false (n * up d * 2 ^ 8) (down d) → k ≤ 256
    → le (round binary64 false (n * up d * k) (down d)) t ≡ true
    → (a : ℕ) (b : ℤ) → fin false a b ≡ round binary64 false (n * up d * k) (down d) → a * up b * down d ≤ 256 * (n * up d * down b)
small_times n k d nan v l h a b e = absurd v
small_times n k d (inf s) v l h a b e = absurd v
small_times n k d (fin true m g) v l h a b e = absurd (true≢false v.0)
small_times n k d (fin false m g) v l h a b e =
    let q : le (fin false a b) (fin false m g) ≡ true = subst (λ (i : Float). le i (fin false m g) ≡ true) (sym e) h in
    cleared (a * up b) (down b) (m * up g) (down g) (n * up d) (down d) (down_pos g) (plain_parts a b m g q) v.1
  where
    cleared : (p b m g n d : ℕ) → 0 < g → p * g ≤ m * b → m * d ≡ n * 2 ^ 8 * g → p * d ≤ 256 * (n * b)
    cleared p b m g n d G h v =
        let x : p * g * d ≤ m * b * d = mul-le-mul_right d h in
        let y : m * d * b ≡ n * 2 ^ 8 * g * b = ap (λ (z : ℕ). z * b) v in
        le_of_mul-le-mul_right {k = g} (omega (arith, x, y)) G

small_divided : (a : ℕ) (b : ℤ) (n : ℕ) (d : ℤ) → 0 < n → a * up b * down d ≤ 256 * (n * up d * down b)
    → le (div binary64 (fin false a b) (fin false n d)) (fin false 1 (pos 8)) ≡ true
small_divided a b n d l h =
    subst (λ (i : Float). le i (fin false 1 (pos 8)) ≡ true) (sym (quotient_is false a b n d l))
    (subst (λ (i : Float). le (round binary64 false (a * up b * down d) (n * up d * down b)) i ≡ true) most_rounds
    (plain_mono (a * up b * down d) (n * up d * down b) 256 1 (mul-pos (mul-pos l (up_pos d)) (down_pos b)) (lit< tt)
    (le_trans (le_of_eq (mul-one (a * up b * down d))) h)))

quotient_plain : (a : ℕ) (b : ℤ) (n : ℕ) (d : ℤ) → 0 < n → le nothing (div binary64 (fin false a b) (fin false n d)) ≡ true
quotient_plain a b n d l =
    subst (λ (i : Float). le nothing i ≡ true) (sym (quotient_is false a b n d l))
    (subst (λ (i : Float). le i (round binary64 false (a * up b * down d) (n * up d * down b)) ≡ true) zero_rounds
    (plain_mono 0 1 (a * up b * down d) (n * up d * down b) (lit< tt) (mul-pos (mul-pos l (up_pos d)) (down_pos b)) (omega arith)))

module _ (n : ℕ) (d : ℤ) (f : T (fits binary64 (fin false n d))) (l : 0 < n) (k : ℕ) (most : k ≤ 256) where
  product : Float
  product = round binary64 false (n * up d * k) (down d)

  -- 256 times a number below 1 is a float
  small_case : n * up d < down d → (a : ℕ) (b : ℤ) → fin false a b ≡ product → a * up b * down d ≤ 256 * (n * up d * down b)
  unfolding product
  small_case h a b e =
      let wide : n * up d * 2 ^ 8 < 2 ^ 1024 * down d = room (n * up d) (down d) h in
      let v = scaled_exact binary64 false n d 8 f wide in
      small_times n k d (round binary64 false (n * up d * 2 ^ 8) (down d)) v most
      (plain_mono (n * up d * k) (down d) (n * up d * 2 ^ 8) (down d) (down_pos d) (down_pos d)
      (mul-le-mul_right (down d) (mul-le-mul_left (n * up d) most))) a b e
    where
      room : (x y : ℕ) → x < y → x * 2 ^ 8 < 2 ^ 1024 * y
      room x y h =
          lt_of_lt_of_le (mul-lt-mul_of_pos_right h (lit< tt)) (le_trans (le_of_eq (mul_comm y (2 ^ 8))) (mul-le-mul_right y (lit≤ tt)))

  divided_again : (a : ℕ) (b : ℤ) → fin false a b ≡ product → is_finite (div binary64 (fin false a b) (fin false n d)) ≡ true
  unfolding product
  divided_again a b e = go (ltb (n * up d) (down d)) (ltb-true (n * up d) (down d)) (ltb-false (n * up d) (down d))
    where
      go : (c : Bool) → (c ≡ true → n * up d < down d) → (c ≡ false → down d ≤ n * up d)
          → is_finite (div binary64 (fin false a b) (fin false n d)) ≡ true
      go true p q =
          between_finite nothing (div binary64 (fin false a b) (fin false n d)) (fin false 1 (pos 8)) (unfold is_finite in refl)
          (unfold is_finite in refl)
          (quotient_plain a b n d l) (small_divided a b n d l (small_case (p refl) a b e))
      go false p q =
          between_finite nothing (div binary64 (fin false a b) (fin false n d)) (fin false a b) (unfold is_finite in refl)
          (unfold is_finite in refl)
          (quotient_plain a b n d l) (large_divided a b n d
          (subst (λ (i : Float). T (fits binary64 i)) (sym e) (round-fits binary64 false (n * up d * k) (down d))) l (q refl))

finite_plain : (x : Float) → is_finite x ≡ true → negative x ≡ false → (a : ℕ) × (b : ℤ) × (fin false a b ≡ x)
unfolding is_finite negative
finite_plain nan p q = absurd (false≢true p)
finite_plain (inf s) p q = absurd (false≢true p)
finite_plain (fin true a b) p q = absurd (true≢false q)
finite_plain (fin false a b) p q = (a, b, refl)

-- a positive float times a whole number of at most 256, where that is finite, has a finite quotient by the float
pub product_divided : (x y : Float) (k : ℕ) → T (fits binary64 x) → Positive x → HasValue y false k 1 → k ≤ 256
    → is_finite (mul binary64 x y) ≡ true
    → is_finite (div binary64 (mul binary64 x y) x) ≡ true
unfolding product
product_divided x y k f (positive n d l) v most p =
    let e = times_whole n d y k v in
    let q : is_finite (round binary64 false (n * up d * k) (down d)) ≡ true = ap is_finite (sym e) ∙ p in
    let w = finite_plain (round binary64 false (n * up d * k) (down d)) q (round_not_negative binary64 (n * up d * k) (down d)) in
    subst (λ (i : Float). is_finite (div binary64 i (fin false n d)) ≡ true) (w.2 ∙ sym e)
    (divided_again n d f l k most w.0 w.1 w.2)
