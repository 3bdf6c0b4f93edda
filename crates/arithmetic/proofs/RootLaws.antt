-- What else a caller may want of `root_of`: it fits its format, is above zero where its argument is, and grows with its argument. Assumes
-- nothing.
use Rattle.std.proofs.Common.{◌≡◌, ℕ, zero, suc, ◌+◌, ◌*◌, ◌^◌, ◌<◌, ◌≤◌, Bool, true, false, ◌&&◌, ◌||◌, T, eqb, ltb, leb, ℤ, sym, refl, ap}
use Rattle.std.proofs.Common.{◌∙◌, subst, lt_of_lt_of_le, lt_irrefl, mul-le-mul_right, zero-lt-suc, mul_assoc, mul_comm, add_comm}
use Rattle.std.proofs.Common.{mul-lt-mul_of_pos_right, mul-pos, zero-mul, mul_right_comm, le-add_left, arith, eqb→eq, ltb→lt, lt→ltb}
use Rattle.std.proofs.Common.{pow_pos, leb-false, leb-true}
use lib.Ieee.{Float, nan, inf, fin, binary64, up, down, fits, lt, le}
use lib.Ieee.Fits.{nan-fits, inf-fits, up_pos, down_pos, and_l}
use lib.Ieee.Positive.{num, den, den_pos, positive, positive_of_value, le→cross, cross→le, above, above_of_le}
use Rattle.arithmetic.specs.Root.{root_of}
use Rattle.arithmetic.proofs.RootCases.{none, infinite_root}
use Rattle.arithmetic.proofs.RootForm.{root_form}
use Rattle.arithmetic.proofs.Neighbours.{unsigned}
use Rattle.arithmetic.proofs.RootNearest.{sum_of, root_is_nearest}

pub root_fits : (x : Float) → T (fits binary64 x) → T (fits binary64 (root_of x))
unfolding root_of
root_fits nan f = nan-fits binary64
root_fits (inf true) f = nan-fits binary64
root_fits (inf false) f = inf-fits binary64 false
root_fits (fin s zero e) f = f
root_fits (fin true (suc m) e) f = nan-fits binary64
root_fits (fin false (suc m) e) f = (root_form (fin false (suc m) e) (lt→ltb 0 (suc m) (zero-lt-suc m)) f).3.held

pub root_positive : (x : Float) → T (positive x) → T (fits binary64 x) → T (positive (root_of x))
root_positive x p f =
    let R = root_form x p f in
    positive_of_value (root_of x) (R.2 * 2 ^ R.1) (2 ^ 1074) R.3.result
    (mul-pos (lt_of_lt_of_le (pow_pos 52) R.3.digits) (pow_pos R.1))

-- ---- a negative number
below_zero : (m : ℕ) (e : ℤ) → T (le none (fin true (suc m) e)) → ⊥
unfolding le
below_zero m e h =
    let z : 0 * 1 * down e ≡ suc m * up e * 1 = eqb→eq (0 * 1 * down e) (suc m * up e * 1)
    (and_l (eqb (0 * 1 * down e) (suc m * up e * 1)) (false || eqb (0 * 1 * down e) 0) h) in
    lt_irrefl 0 (subst (λ (k : ℕ). 0 < k) (sym z ∙ zero-mul (down e)) (mul-pos (mul-pos (zero-lt-suc m) (up_pos e)) (zero-lt-suc 0)))

-- ---- growing with the argument
pub positive_unsigned : (x : Float) → T (positive x) → T (unsigned x)
positive_unsigned nan p = p
positive_unsigned (inf s) p = p
positive_unsigned (fin true m e) p = p
positive_unsigned (fin false m e) p = tt

cross→lt : (x y : Float) → T (positive x) → T (positive y) → num x * den y < num y * den x → T (lt x y)
unfolding lt
cross→lt nan y p q h = absurd p
cross→lt (inf s) y p q h = absurd p
cross→lt (fin true m e) y p q h = absurd p
cross→lt (fin false m e) nan p q h = absurd q
cross→lt (fin false m e) (inf t) p q h = absurd q
cross→lt (fin false m e) (fin true n d) p q h = absurd q
cross→lt (fin false m e) (fin false n d) p q h = lt→ltb (m * up e * down d) (n * up d * down e) h

-- x cannot lie above the square of the middle while a y that is no less lies below it
both_sides : (s e nx dx ny dy : ℕ) → 0 < dx → 0 < dy → s * s * dx < 4 * nx * (e * e) → 4 * ny * (e * e) < s * s * dy → nx * dy ≤ ny * dx → ⊥
both_sides s e nx dx ny dy X Y a b c =
    let a' : s * s * dx * dy < 4 * nx * (e * e) * dy = mul-lt-mul_of_pos_right a Y in
    let b' : 4 * ny * (e * e) * dx < s * s * dy * dx = mul-lt-mul_of_pos_right b X in
    let c' : nx * dy * (4 * (e * e)) ≤ ny * dx * (4 * (e * e)) = mul-le-mul_right (4 * (e * e)) c in
    let p : 4 * nx * (e * e) * dy ≡ nx * dy * (4 * (e * e)) = regroup nx dy (e * e) in
    let q : 4 * ny * (e * e) * dx ≡ ny * dx * (4 * (e * e)) = regroup ny dx (e * e) in
    let r : s * s * dx * dy ≡ s * s * dy * dx = mul_right_comm (s * s) dx dy in
    omega arith
  where
    regroup : (n d f : ℕ) → 4 * n * f * d ≡ n * d * (4 * f)
    regroup n d f = ap (λ (z : ℕ). z * d) (ap (λ (z : ℕ). z * f) (mul_comm 4 n) ∙ mul_assoc n 4 f) ∙ mul_right_comm n (4 * f) d

module _ (x y : Float) (p : T (positive x)) (q : T (positive y)) (f : T (fits binary64 x)) (g : T (fits binary64 y)) (h : T (le x y)) where
  not_crossed : T (lt (root_of y) (root_of x)) → ⊥
  not_crossed l =
      let a = root_of x in
      let b = root_of y in
      both_sides (sum_of a b) (den a * den b) (num x) (den x) (num y) (den y) (den_pos x) (den_pos y)
      ((root_is_nearest x b p f (positive_unsigned b (root_positive y q g)) (root_fits y g)).1 l)
      (subst (λ (z : ℕ). 4 * num y * (z * z) < sum_of a b * sum_of a b * den y) (mul_comm (den b) (den a))
      (subst (λ (z : ℕ). 4 * num y * (den b * den a * (den b * den a)) < z * z * den y) (add_comm (num b * den a) (num a * den b))
      ((root_is_nearest y a q g (positive_unsigned a (root_positive x p f)) (root_fits x f)).0 l)))
      (le→cross x y p q h)

  positive_grows : T (le (root_of x) (root_of y))
  positive_grows =
      let l = num (root_of x) * den (root_of y) in
      let r = num (root_of y) * den (root_of x) in
      go (leb l r) (leb-true l r) (leb-false l r)
    where
      go : (c : Bool) → (c ≡ true → num (root_of x) * den (root_of y) ≤ num (root_of y) * den (root_of x)) →
          (c ≡ false → num (root_of y) * den (root_of x) < num (root_of x) * den (root_of y)) → T (le (root_of x) (root_of y))
      go true k l = cross→le (root_of x) (root_of y) (root_positive x p f) (root_positive y q g) (k refl)
      go false k l = absurd (not_crossed (cross→lt (root_of y) (root_of x) (root_positive y q g) (root_positive x p f) (l refl)))

-- a zero of either sign
nothing : (e d : ℤ) → zero * up e * down d ≡ 0
nothing e d = ap (λ (k : ℕ). k * down d) (zero-mul (up e)) ∙ zero-mul (down d)

or_first : (a b : Bool) → T a → T (a || b)
or_first true b t = tt
or_first false b t = absurd t

pub zero_below : (s : Bool) (e : ℤ) (z : Float) → T (positive z) → T (le (fin s zero e) z)
unfolding le
zero_below s e nan p = absurd p
zero_below s e (inf t) p = absurd p
zero_below s e (fin true n d) p = absurd p
zero_below false e (fin false n d) p =
    or_first (ltb (zero * up e * down d) (n * up d * down e)) (eqb (zero * up e * down d) (n * up d * down e) && true)
    (lt→ltb (zero * up e * down d) (n * up d * down e)
    (subst (λ (k : ℕ). k < n * up d * down e) (sym (nothing e d)) (mul-pos (mul-pos (ltb→lt 0 n p) (up_pos d)) (down_pos e))))
zero_below true e (fin false n d) p =
    or_first (ltb 0 (zero * up e * down d + n * up d * down e))
    (eqb (zero * up e * down d) (n * up d * down e) && (false || eqb (zero * up e * down d) 0))
    (lt→ltb 0 (zero * up e * down d + n * up d * down e)
    (lt_of_lt_of_le (mul-pos (mul-pos (ltb→lt 0 n p) (up_pos d)) (down_pos e))
    (le-add_left (n * up d * down e) (zero * up e * down d))))

no_less : (a b : ℕ) → a ≡ 0 → 0 < b → (p q : Bool) → (T p → b < a) → (T q → a ≡ b) → (r : Bool) → T (p || (q && r)) → ⊥
no_less a b z B true q h k r t = apart (h tt)
  where
    apart : b < a → ⊥
    apart l = omega arith
no_less a b z B false true h k r t = apart (k tt)
  where
    apart : a ≡ b → ⊥
    apart l = omega arith
no_less a b z B false false h k r t = t

zero_not_below_negative : (s : Bool) (e : ℤ) (n : ℕ) (d : ℤ) → T (le (fin s zero e) (fin true (suc n) d)) → ⊥
unfolding le
zero_not_below_negative false e n d h =
    let a = zero * up e * down d in
    let b = suc n * up d * down e in
    no_less a b (nothing e d) (mul-pos (mul-pos (zero-lt-suc n) (up_pos d)) (down_pos e)) false (eqb a b) (λ t. absurd t) (eqb→eq a b)
    (eqb a 0) h
zero_not_below_negative true e n d h =
    let a = zero * up e * down d in
    let b = suc n * up d * down e in
    no_less a b (nothing e d) (mul-pos (mul-pos (zero-lt-suc n) (up_pos d)) (down_pos e)) (ltb b a) (eqb a b) (ltb→lt b a) (eqb→eq a b) true
    h

zero_grows : (s : Bool) (e : ℤ) (y : Float) → T (fits binary64 y) → T (le (fin s zero e) y) → T (le (fin s zero e) (root_of y))
unfolding root_of
zero_grows s e nan g h = h
zero_grows s e (inf true) g h = absurd (unfold le in h)
zero_grows s e (inf false) g h = h
zero_grows s e (fin t zero d) g h = h
zero_grows s e (fin true (suc n) d) g h = absurd (zero_not_below_negative s e n d h)
zero_grows s e (fin false (suc n) d) g h = zero_below s e (root_of (fin false (suc n) d))
    (root_positive (fin false (suc n) d) (lt→ltb 0 (suc n) (zero-lt-suc n)) g)

zero_root : (s : Bool) (e : ℤ) → fin s zero e ≡ root_of (fin s zero e)
unfolding root_of
zero_root s e = refl

-- up to the infinity
under_infinity : (z : Float) → T (positive z) → T (le z (inf false))
unfolding le
under_infinity nan p = absurd p
under_infinity (inf s) p = absurd p
under_infinity (fin s m e) p = tt

above_grows : (x y : Float) → T (positive x) → T (fits binary64 x) → T (fits binary64 y) → T (le x y) → T (above y) → T
    (le (root_of x) (root_of y))
above_grows x nan p f g h u = absurd u
above_grows x (inf true) p f g h u = absurd u
above_grows x (inf false) p f g h u = subst (λ (z : Float). T (le (root_of x) z)) infinite_root
    (under_infinity (root_of x) (root_positive x p f))
above_grows x (fin true n d) p f g h u = absurd u
above_grows x (fin false n d) p f g h u = positive_grows x (fin false n d) p u f g h

infinity_grows : (y : Float) → T (le (inf false) y) → T (le (root_of (inf false)) (root_of y))
unfolding le root_of
infinity_grows nan h = h
infinity_grows (inf true) h = absurd h
infinity_grows (inf false) h = tt
infinity_grows (fin s m e) h = absurd h

-- for all that is not negative, the zeros and the infinity included
pub root_grows : (x y : Float) → T (fits binary64 x) → T (fits binary64 y) → T (le none x) → T (le x y) → T (le (root_of x) (root_of y))
root_grows nan y f g k h = absurd (unfold le in h)
root_grows (inf true) y f g k h = absurd (unfold le in k)
root_grows (inf false) y f g k h = infinity_grows y h
root_grows (fin s zero e) y f g k h = subst (λ (z : Float). T (le z (root_of y))) (zero_root s e) (zero_grows s e y g h)
root_grows (fin true (suc m) e) y f g k h = absurd (below_zero m e k)
root_grows (fin false (suc m) e) y f g k h =
    let p : T (positive (fin false (suc m) e)) = lt→ltb 0 (suc m) (zero-lt-suc m) in
    above_grows (fin false (suc m) e) y p f g h (above_of_le (fin false (suc m) e) y p h)
