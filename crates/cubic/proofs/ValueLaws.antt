-- A cubic with finite coefficients has no NaN value at a finite point, so that no sign of a NaN is ever asked. Assumes nothing.
use mathlib.Core.Path.{◌≡◌, refl, sym, ap, subst, ◌∙◌}
use mathlib.Core.Bool.{Bool, true, false, cond, true≢false, false≢true, beq, ◌&&◌}
use Prim.Native.Nat.{ℕ, zero, suc, ◌+◌, ◌-◌, ◌*◌, ◌^◌, ◌<◌}
use native.Mathlib.Nat.{mul-zero, zero-mul, mul-one, one-mul, mul-pos}
use native.Mathlib.Omega.{arith}
use lib.Dec.{T, ltb, eqb→eq, lit<}
use borrow.Author.Tests.{ne_eqb}
use lib.IntN.{ℤ, pos, negsuc}
use lib.Ieee.{Float, nan, inf, fin, binary64, low, up, down, round, sum, add, mul, fits, is_nan, unlike}
use lib.Ieee.Fits.{down_pos, up_pos, mul-fits}
use lib.Ieee.Exact.{HasValue, round_exact}
use Rattle.arithmetic.specs.Basic.{is_finite}
use Rattle.arithmetic.proofs.Exactness.{fits_parts, scaled_exact}
use Rattle.arithmetic.proofs.Numbers.{finite_number}
use Rattle.arithmetic.proofs.RoundedNumbers.{round_number, sum_number}
use Rattle.vectors.specs.Numbers.{◌+ᶠ◌, ◌*ᶠ◌}
use Rattle.cubic.specs.Polynomial.{evaluate, finite_cubic}
use Rattle.cubic.specs.declared.polynomial.Cubic.{Cubic}
use Rattle.lists.proofs.JoinedTests.{and_first, and_second}

-- ---- at a point that is not zero
product_number : (v : Float) (s : Bool) (m : ℕ) (e : ℤ) → is_nan v ≡ false → is_nan (v *ᶠ fin s (suc m) e) ≡ false
unfolding mul is_nan
product_number nan s m e h = absurd (true≢false h)
product_number (inf t) s m e h = ap (λ (b : Bool). is_nan (cond b nan (inf (unlike t s))))
    (ne_eqb (suc m) 0 (λ (z : suc m ≡ 0). omega arith))
product_number (fin t n d) s m e h = round_number binary64 (unlike t s) (n * up d * (suc m * up e)) (down d * down e)

pub sum_finite_number : (v b : Float) → is_nan v ≡ false → is_finite b ≡ true → is_nan (v +ᶠ b) ≡ false
unfolding add is_nan is_finite
sum_finite_number nan b h k = absurd (true≢false h)
sum_finite_number (inf t) nan h k = absurd (false≢true k)
sum_finite_number (inf t) (inf s) h k = absurd (false≢true k)
sum_finite_number (inf t) (fin s m e) h k = refl
sum_finite_number (fin t n d) nan h k = absurd (false≢true k)
sum_finite_number (fin t n d) (inf s) h k = absurd (false≢true k)
sum_finite_number (fin t n d) (fin s m e) h k = sum_number binary64 t (n * up d * down e) s (m * up e * down d) (down d * down e)

step_number : (v b : Float) (s : Bool) (m : ℕ) (e : ℤ) → is_nan v ≡ false → is_finite b ≡ true → is_nan (v *ᶠ fin s (suc m) e +ᶠ b) ≡ false
step_number v b s m e h k = sum_finite_number (v *ᶠ fin s (suc m) e) b (product_number v s m e h) k

-- ---- at zero: every value is finite
chosen_finite : (b : Bool) (x y : Float) → is_finite x ≡ true → is_finite y ≡ true → is_finite (cond b x y) ≡ true
chosen_finite true x y p q = p
chosen_finite false x y p q = q

pub value_finite : (x : Float) (s : Bool) (n c : ℕ) → HasValue x s n c → is_finite x ≡ true
unfolding is_finite
value_finite nan s n c v = absurd v
value_finite (inf t) s n c v = absurd v
value_finite (fin t m e) s n c v = refl

round_nothing : (s : Bool) (num den : ℕ) → num ≡ 0 → 0 < den → HasValue (round binary64 s num den) s num den
round_nothing s num den z d =
    round_exact binary64 s num den 0 0 d (lit< tt) (lit< tt)
    (ap (λ (k : ℕ). k * 2 ^ low binary64) z ∙ zero-mul (2 ^ low binary64) ∙ sym (zero-mul den))

-- a zero that fits
data Nought : Float → Type 0 where
  nought : (s : Bool) (e : ℤ) → down e ≡ 1 → Nought (fin s 0 e)

nought_down : (e : ℤ) → up e * down e ≡ 1 → down e ≡ 1
nought_down (pos k) h = refl
nought_down (negsuc k) h = sym (one-mul (2 ^ suc k)) ∙ h

nought_of : (x : Float) (s : Bool) (num den : ℕ) → HasValue x s num den → num ≡ 0 → 0 < den → T (fits binary64 x) → Nought x
unfolding fits
nought_of nan s num den v z d f = absurd v
nought_of (inf t) s num den v z d f = absurd v
nought_of (fin t zero e) s num den v z d f = nought t e (nought_down e (eqb→eq (up e * down e) 1 f))
nought_of (fin t (suc m) e) s num den v z d f =
    let above : 0 < suc m * up e * den = mul-pos (mul-pos (omega arith) (up_pos e)) d in
    let none : suc m * up e * den ≡ 0 = v.1 ∙ ap (λ (k : ℕ). k * down e) z ∙ zero-mul (down e) in
    absurd (omega arith)

no_product : (n : ℕ) (d e : ℤ) → n * up d * (0 * up e) ≡ 0
no_product n d e = ap (λ (k : ℕ). n * up d * k) (zero-mul (up e)) ∙ mul-zero (n * up d)

zero_product : (t s : Bool) (n : ℕ) (d e : ℤ) → HasValue (fin t n d *ᶠ fin s zero e) (unlike t s) (n * up d * (0 * up e)) (down d * down e)
unfolding mul
zero_product t s n d e = round_nothing (unlike t s) (n * up d * (0 * up e)) (down d * down e) (no_product n d e)
    (mul-pos (down_pos d) (down_pos e))

times_zero : (v : Float) (s : Bool) (e : ℤ) → is_finite v ≡ true → Nought (v *ᶠ fin s zero e)
unfolding is_finite
times_zero nan s e h = absurd (false≢true h)
times_zero (inf t) s e h = absurd (false≢true h)
times_zero (fin t n d) s e h =
    nought_of (fin t n d *ᶠ fin s zero e) (unlike t s) (n * up d * (0 * up e)) (down d * down e) (zero_product t s n d e) (no_product n d e)
    (mul-pos (down_pos d) (down_pos e))
    (mul-fits binary64 (fin t n d) (fin s zero e))

either_sign : (s t : Bool) (n : ℕ) (d : ℤ) → T (fits binary64 (fin t n d)) → T (fits binary64 (fin s n d))
unfolding fits
either_sign s t zero d f = f
either_sign s t (suc n) d f = f

round_kept : (s t : Bool) (n : ℕ) (d : ℤ) (num den : ℕ) → T (fits binary64 (fin t n d)) → num ≡ n * up d → den ≡ down d → is_finite
    (round binary64 s num den) ≡ true
round_kept s t n d num den f p q =
    let g = either_sign s t n d f in
    let small : n * up d * 1 < 2 ^ 1024 * down d = subst (λ (k : ℕ). k < 2 ^ 1024 * down d) (sym (mul-one (n * up d)))
    (fits_parts binary64 s n d g).1.1 in
    let kept : is_finite (round binary64 s (n * up d * 1) (down d)) ≡ true = value_finite (round binary64 s (n * up d * 1) (down d)) s
    (n * up d * 1) (down d) (scaled_exact binary64 s n d 0 g small) in
    ap (λ (k : ℕ). is_finite (round binary64 s k den)) (p ∙ sym (mul-one (n * up d))) ∙ ap
    (λ (k : ℕ). is_finite (round binary64 s (n * up d * 1) k)) q ∙ kept

sum_kept : (s t : Bool) (n : ℕ) (d : ℤ) (a b c : ℕ) → T (fits binary64 (fin t n d)) → a ≡ 0 → b ≡ n * up d → c ≡ down d → is_finite
    (sum binary64 s a t b c) ≡ true
unfolding sum
sum_kept s t n d a b c f p q r =
    let whole : a + b ≡ n * up d = omega arith in
    let same : b - a ≡ n * up d = omega arith in
    let none : a - b ≡ 0 = omega arith in
    let above : 0 < c = subst (λ (k : ℕ). 0 < k) (sym r) (down_pos d) in
    chosen_finite (beq s t) (round binary64 s (a + b) c)
    (cond (ltb a b) (round binary64 t (b - a) c) (round binary64 (s && ltb b a) (a - b) c))
    (round_kept s t n d (a + b) c f whole r)
    (chosen_finite (ltb a b) (round binary64 t (b - a) c) (round binary64 (s && ltb b a) (a - b) c)
    (round_kept t t n d (b - a) c f same r)
    (value_finite (round binary64 (s && ltb b a) (a - b) c) (s && ltb b a) (a - b) c (round_nothing (s && ltb b a) (a - b) c none above)))

plus_finite : {x : Float} (b : Float) → Nought x → is_finite b ≡ true → T (fits binary64 b) → is_finite (x +ᶠ b) ≡ true
unfolding is_finite add
plus_finite nan z h f = absurd (false≢true h)
plus_finite (inf t) z h f = absurd (false≢true h)
plus_finite (fin t n d) (nought s e one) h f =
    sum_kept s t n d (0 * up e * down d) (n * up d * down e) (down e * down d) f
    (ap (λ (k : ℕ). k * down d) (zero-mul (up e)) ∙ zero-mul (down d))
    (ap (λ (k : ℕ). n * up d * k) one ∙ mul-one (n * up d))
    (ap (λ (k : ℕ). k * down d) one ∙ one-mul (down d))

step_finite : (v b : Float) (s : Bool) (e : ℤ) → is_finite v ≡ true → is_finite b ≡ true → T (fits binary64 b) → is_finite
    (v *ᶠ fin s zero e +ᶠ b) ≡ true
step_finite v b s e h k f = plus_finite b (times_zero v s e h) k f

-- ---- the value
evaluate_by : (a b c d u : Float) → is_finite a ≡ true → is_finite b ≡ true → is_finite c ≡ true → is_finite d ≡ true
    → T (fits binary64 b) → T (fits binary64 c) → T (fits binary64 d) → is_finite u ≡ true
    → is_nan (((a *ᶠ u +ᶠ b) *ᶠ u +ᶠ c) *ᶠ u +ᶠ d) ≡ false
evaluate_by a b c d nan p q r t f g h i = absurd (false≢true (unfold is_finite in i))
evaluate_by a b c d (inf s) p q r t f g h i = absurd (false≢true (unfold is_finite in i))
evaluate_by a b c d (fin s zero e) p q r t f g h i =
    let first = step_finite a b s e p q f in
    let second = step_finite (a *ᶠ fin s zero e +ᶠ b) c s e first r g in
    finite_number _ (step_finite ((a *ᶠ fin s zero e +ᶠ b) *ᶠ fin s zero e +ᶠ c) d s e second t h)
evaluate_by a b c d (fin s (suc m) e) p q r t f g h i =
    let first = step_number a b s m e (finite_number a p) q in
    let second = step_number (a *ᶠ fin s (suc m) e +ᶠ b) c s m e first r in
    step_number ((a *ᶠ fin s (suc m) e +ᶠ b) *ᶠ fin s (suc m) e +ᶠ c) d s m e second t

-- a value whose sign is asked is no NaN: the coefficients are finite by then, and the points lie between 0 and 1
pub evaluate_number : (p : Cubic) (u : Float) → finite_cubic p ≡ true → T (fits binary64 p.b) → T (fits binary64 p.c) → T
    (fits binary64 p.d) → is_finite u ≡ true → is_nan (evaluate p u) ≡ false
unfolding finite_cubic evaluate
evaluate_number p u e f g h i =
    let bcd = and_second (is_finite p.a) (is_finite p.b && (is_finite p.c && is_finite p.d)) e in
    let cd = and_second (is_finite p.b) (is_finite p.c && is_finite p.d) bcd in
    evaluate_by p.a p.b p.c p.d u
    (and_first (is_finite p.a) (is_finite p.b && (is_finite p.c && is_finite p.d)) e)
    (and_first (is_finite p.b) (is_finite p.c && is_finite p.d) bcd)
    (and_first (is_finite p.c) (is_finite p.d) cd)
    (and_second (is_finite p.c) (is_finite p.d) cd)
    f g h i
