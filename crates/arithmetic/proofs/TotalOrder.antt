-- `total_order` is total and transitive, and antisymmetric among the values that an f64 holds. And where two numbers are equal it
-- goes by their bit patterns. Assumes nothing.
use Rattle.std.proofs.Common.{◌≡◌, ℕ, ◌+◌, ◌-◌, ◌*◌, ◌/◌, ◌^◌, ◌<◌, Bool, true, false, cond, not, ◌||◌, T, leb, ◌⊎◌, ℤ, pos, sym, refl, ap}
use Rattle.std.proofs.Common.{◌∙◌, subst, inl, inr, true≢false, zero-mul, mul-one, mul_right_comm, arith, ltb-false, le-leb, leb-true}
use mathlib.Core.Bool.{false≢true, or-true}
use native.Mathlib.Nat.{eq_of_mul-eq-mul_right}
use lib.Ieee.{Float, nan, inf, fin, Format, binary64, prec, low, hid, top, up, down, size, lt, le, is_nan, fits, to_bits, of_bits}
use lib.Ieee.Fits.{down_pos}
use lib.Ieee.Bits.{of_bits-to_bits}
use lib.Ieee.Nearest.{div_same}
use borrow.Author.Tests.{lt-leb}
use Rattle.arithmetic.specs.Basic.{negative}
use Rattle.arithmetic.specs.Ordering.{total_order}
use Rattle.arithmetic.proofs.Order.{lt_nan_false, nan_lt_false, le_left_number, le_right_number, le_of_lt, le_of_not_lt}
use Rattle.arithmetic.proofs.Order.{not_lt_of_le, le_transitive, lt_asymmetric, lt_of_lt_le, lt_of_le_lt, is_nan_lem}

-- ---- equal numbers of one sign have one bit pattern
to_bits_is : (f : Format) (s : Bool) (m : ℕ) (e : ℤ)
    → to_bits f (fin s m e) ≡ cond s (top f) 0 + (size (m * up e * 2 ^ low f / down e) - prec f) * hid f + m * up e * 2 ^ low f / down e / 2
    ^ (size (m * up e * 2 ^ low f / down e) - prec f)
unfolding to_bits
to_bits_is f s m e = refl

to_bits_same : (f : Format) (s : Bool) (m : ℕ) (e : ℤ) (n : ℕ) (d : ℤ) → m * up e * down d ≡ n * up d * down e → to_bits f (fin s m e) ≡
    to_bits f (fin s n d)
to_bits_same f s m e n d h =
    let l = 2 ^ low f in
    let units : m * up e * l * down d ≡ n * up d * l * down e = mul_right_comm (m * up e) l (down d) ∙ ap (λ (z : ℕ). z * l) h ∙
    mul_right_comm (n * up d) (down e) l in
    to_bits_is f s m e
    ∙ ap (λ (z : ℕ). cond s (top f) 0 + (size z - prec f) * hid f + z / 2 ^ (size z - prec f))
    (div_same (m * up e * l) (down e) (n * up d * l) (down d) (down_pos e) (down_pos d) units)
    ∙ sym (to_bits_is f s n d)

nothing : (a b : ℕ) → 0 < b → a * b ≡ 0 → a ≡ 0
nothing a b B h = eq_of_mul-eq-mul_right b B a 0 (h ∙ sym (zero-mul b))

zero_bits : (s : Bool) (m : ℕ) (e d : ℤ) → m * up e * down d ≡ 0 → to_bits binary64 (fin s m e) ≡ to_bits binary64 (fin s 0 (pos 0))
zero_bits s m e d h = to_bits_same binary64 s m e 0 (pos 0)
    (mul-one (m * up e) ∙ nothing (m * up e) (down d) (down_pos d) h ∙ sym (zero-mul (down e)))

plus_zero_bits : to_bits binary64 (fin false 0 (pos 0)) ≡ 0
unfolding to_bits
plus_zero_bits = refl

minus_zero_bits : to_bits binary64 (fin true 0 (pos 0)) ≡ 2 ^ 63
unfolding to_bits
minus_zero_bits = refl

same_bits : (a b : ℕ) → a ≡ b → leb a b ≡ true
same_bits a b h = le-leb a b (omega arith)

-- neither below the other: by the bit patterns, -0 has the larger one
pub bits_order_is : (x y : Float) → is_nan x ≡ false → is_nan y ≡ false → lt x y ≡ false → lt y x ≡ false
    → leb (to_bits binary64 y) (to_bits binary64 x) ≡ (negative x || not (negative y))
unfolding lt is_nan negative
bits_order_is nan y p q h k = absurd (true≢false p)
bits_order_is (inf s) nan p q h k = absurd (true≢false q)
bits_order_is (inf false) (inf false) p q h k = same_bits (to_bits binary64 (inf false)) (to_bits binary64 (inf false)) refl
bits_order_is (inf false) (inf true) p q h k = absurd (true≢false k)
bits_order_is (inf true) (inf false) p q h k = absurd (true≢false h)
bits_order_is (inf true) (inf true) p q h k = same_bits (to_bits binary64 (inf true)) (to_bits binary64 (inf true)) refl
bits_order_is (inf false) (fin t n d) p q h k = absurd (true≢false k)
bits_order_is (inf true) (fin t n d) p q h k = absurd (true≢false h)
bits_order_is (fin s m e) nan p q h k = absurd (true≢false q)
bits_order_is (fin s m e) (inf false) p q h k = absurd (true≢false h)
bits_order_is (fin s m e) (inf true) p q h k = absurd (true≢false k)
bits_order_is (fin false m e) (fin false n d) p q h k =
    let a = ltb-false (m * up e * down d) (n * up d * down e) h in
    let b = ltb-false (n * up d * down e) (m * up e * down d) k in
    same_bits (to_bits binary64 (fin false n d)) (to_bits binary64 (fin false m e)) (to_bits_same binary64 false n d m e (omega arith))
bits_order_is (fin true m e) (fin true n d) p q h k =
    let a = ltb-false (m * up e * down d) (n * up d * down e) k in
    let b = ltb-false (n * up d * down e) (m * up e * down d) h in
    same_bits (to_bits binary64 (fin true n d)) (to_bits binary64 (fin true m e)) (to_bits_same binary64 true n d m e (omega arith))
bits_order_is (fin false m e) (fin true n d) p q h k =
    let a = ltb-false 0 (n * up d * down e + m * up e * down d) k in
    let x : to_bits binary64 (fin false m e) ≡ 0 = zero_bits false m e d (omega arith) ∙ plus_zero_bits in
    let y : to_bits binary64 (fin true n d) ≡ 2 ^ 63 = zero_bits true n d e (omega arith) ∙ minus_zero_bits in
    lt-leb (to_bits binary64 (fin true n d)) (to_bits binary64 (fin false m e)) (omega arith)
bits_order_is (fin true m e) (fin false n d) p q h k =
    let a = ltb-false 0 (m * up e * down d + n * up d * down e) h in
    let y : to_bits binary64 (fin false n d) ≡ 0 = zero_bits false n d e (omega arith) ∙ plus_zero_bits in
    le-leb (to_bits binary64 (fin false n d)) (to_bits binary64 (fin true m e)) (omega arith)

-- ---- the order's laws
pub before_nan : (x : Float) → total_order x nan ≡ true
unfolding total_order
before_nan x = simp (lt_nan_false x, nan_lt_false x) (unfold is_nan in refl)

pub nan_before_nan : (y : Float) → total_order nan y ≡ true → y ≡ nan
unfolding total_order is_nan
nan_before_nan nan h = refl
nan_before_nan (inf s) h = absurd (false≢true (simp (nan_lt_false (inf s), lt_nan_false (inf s)) at h))
nan_before_nan (fin s m e) h = absurd (false≢true (simp (nan_lt_false (fin s m e), lt_nan_false (fin s m e)) at h))

pub lesser_before : (x y : Float) → lt x y ≡ true → total_order x y ≡ true
unfolding total_order
lesser_before x y h = simp h

pub greater_not_before : (x y : Float) → lt y x ≡ true → total_order x y ≡ false
unfolding total_order
greater_not_before x y h = simp (lt_asymmetric y x h, h)

-- a NaN stands before no number
pub nan_not_before : (x y : Float) → is_nan x ≡ true → is_nan y ≡ false → total_order x y ≡ false
unfolding total_order
nan_not_before x y h k =
    let e = is_nan_lem x h in
    let low : lt x y ≡ false = ap (λ (z : Float). lt z y) e ∙ nan_lt_false y in
    let high : lt y x ≡ false = ap (lt y) e ∙ lt_nan_false y in
    rw (low, high, k, h)

-- at most, and equal only with the signs in order
pub at_most_before : (x y : Float) → le x y ≡ true → (negative x || not (negative y)) ≡ true → total_order x y ≡ true
at_most_before x y h g = go (lt x y) refl
  where
    go : (b : Bool) → lt x y ≡ b → total_order x y ≡ true
    go true e = lesser_before x y e
    go false e = unfold total_order in simp (e, not_lt_of_le x y h, le_left_number x y h, le_right_number x y h, g)

parts : (a b v n g : Bool) → v ≡ false → cond a true (cond b false (cond v true (cond n false g))) ≡ true → (a ≡ true) ⊎
    ((b ≡ false) × ((n ≡ false) × (g ≡ true)))
parts true b v n g q h = inl refl
parts false true v n g q h = absurd (false≢true h)
parts false false true n g q h = absurd (true≢false q)
parts false false false true g q h = absurd (false≢true h)
parts false false false false g q h = inr (refl, (refl, h))

pub before_number_is : (x y : Float) → is_nan y ≡ false → total_order x y ≡ true → (lt x y ≡ true) ⊎
    ((le x y ≡ true) × ((negative x || not (negative y)) ≡ true))
unfolding total_order
before_number_is x y q h = go (parts (lt x y) (lt y x) (is_nan y) (is_nan x) (negative x || not (negative y)) q h)
  where
    go : (lt x y ≡ true) ⊎ ((lt y x ≡ false) × ((is_nan x ≡ false) × ((negative x || not (negative y)) ≡ true))) → (lt x y ≡ true) ⊎
        ((le x y ≡ true) × ((negative x || not (negative y)) ≡ true))
    go (inl a) = inl a
    go (inr w) = inr (le_of_not_lt x y w.1.0 q w.0, w.1.1)

pub le_of_before : (x y : Float) → is_nan y ≡ false → total_order x y ≡ true → le x y ≡ true
le_of_before x y q h = elim (before_number_is x y q h) [ inl a ↦ le_of_lt x y a | inr w ↦ w.0 ]

one_sign : (p q : Bool) → ((p || not q) ≡ true) ⊎ ((q || not p) ≡ true)
one_sign true q = inl refl
one_sign false q = inr (or-true q)

pub total_order_total : (x y : Float) → (total_order x y ≡ true) ⊎ (total_order y x ≡ true)
total_order_total x y = go (is_nan x) (is_nan y) refl refl
  where
    apart : is_nan x ≡ false → is_nan y ≡ false → (a b : Bool) → lt x y ≡ a → lt y x ≡ b → (total_order x y ≡ true)
        ⊎ (total_order y x ≡ true)
    apart p q true b h k = inl (lesser_before x y h)
    apart p q false true h k = inr (lesser_before y x k)
    apart p q false false h k =
        elim (one_sign (negative x) (negative y)) [
          | inl g ↦ inl (at_most_before x y (le_of_not_lt x y p q k) g)
          | inr g ↦ inr
              (at_most_before y x (le_of_not_lt y x q p h) g)
        ]

    go : (a b : Bool) → is_nan x ≡ a → is_nan y ≡ b → (total_order x y ≡ true) ⊎ (total_order y x ≡ true)
    go true b p q = inr (subst (λ (z : Float). total_order y z ≡ true) (sym (is_nan_lem x p)) (before_nan y))
    go false true p q = inl (subst (λ (z : Float). total_order x z ≡ true) (sym (is_nan_lem y q)) (before_nan x))
    go false false p q = apart p q (lt x y) (lt y x) refl refl

sign_through : (p q r : Bool) → (p || not q) ≡ true → (q || not r) ≡ true → (p || not r) ≡ true
sign_through true q r h k = refl
sign_through false true r h k = absurd (false≢true h)
sign_through false false r h k = k

pub total_order_transitive : (x y z : Float) → total_order x y ≡ true → total_order y z ≡ true → total_order x z ≡ true
total_order_transitive x y z h k = go (is_nan z) refl
  where
    numbers : is_nan z ≡ false → is_nan y ≡ false → total_order x z ≡ true
    numbers r q =
        elim (before_number_is x y q h) [
          | inl a ↦ lesser_before x z (lt_of_lt_le x y z a (le_of_before y z r k))
          | inr v ↦
              elim (before_number_is y z r k) [
                | inl b ↦ lesser_before x z (lt_of_le_lt x y z v.0 b)
                | inr w ↦ at_most_before x z (le_transitive x y z v.0 w.0)
                    (sign_through (negative x) (negative y) (negative z) v.1 w.1)
              ]
        ]

    go : (b : Bool) → is_nan z ≡ b → total_order x z ≡ true
    go true r = subst (λ (t : Float). total_order x t ≡ true) (sym (is_nan_lem z r)) (before_nan x)
    go false r = numbers r (le_left_number y z (le_of_before y z r k))

-- two numbers that an f64 holds, each at or before the other: one bit pattern
same_number : (x y : Float) → T (fits binary64 x) → T (fits binary64 y) → is_nan y ≡ false → total_order x y ≡ true → total_order y x ≡ true
    →
    x ≡ y
same_number x y f g q h k =
    let a : le x y ≡ true = le_of_before x y q h in
    let p : is_nan x ≡ false = le_left_number x y a in
    let b : le y x ≡ true = le_of_before y x p k in
    let s : (negative x || not (negative y)) ≡ true = signs x y q h (not_lt_of_le y x b) in
    let t : (negative y || not (negative x)) ≡ true = signs y x p k (not_lt_of_le x y a) in
    let u = leb-true (to_bits binary64 y) (to_bits binary64 x) (bits_order_is x y p q (not_lt_of_le y x b) (not_lt_of_le x y a) ∙ s) in
    let v = leb-true (to_bits binary64 x) (to_bits binary64 y) (bits_order_is y x q p (not_lt_of_le x y a) (not_lt_of_le y x b) ∙ t) in
    let bits : to_bits binary64 x ≡ to_bits binary64 y = omega arith in
    sym (of_bits-to_bits binary64 x f) ∙ ap (of_bits binary64) bits ∙ of_bits-to_bits binary64 y g
  where
    signs : (x y : Float) → is_nan y ≡ false → total_order x y ≡ true → lt x y ≡ false → (negative x || not (negative y)) ≡ true
    signs x y q h e = elim (before_number_is x y q h) [ inl a ↦ absurd (true≢false (sym a ∙ e)) | inr w ↦ w.1 ]

pub total_order_antisymmetric : (x y : Float) → T (fits binary64 x) → T (fits binary64 y) → total_order x y ≡ true → total_order y x ≡ true
    → x
    ≡ y
total_order_antisymmetric x y f g h k = go (is_nan y) refl
  where
    go : (b : Bool) → is_nan y ≡ b → x ≡ y
    go true q =
        let e : y ≡ nan = is_nan_lem y q in
        nan_before_nan x (subst (λ (z : Float). total_order z x ≡ true) e k) ∙ sym e
    go false q = same_number x y f g q h k
