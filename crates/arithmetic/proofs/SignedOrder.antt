-- The order of fractions with a sign as one inequality of natural numbers: ±a is written a⁺ - a⁻. Assumes nothing.
use Rattle.std.proofs.Common.{◌≡◌, ℕ, ◌+◌, ◌*◌, ◌<◌, ◌≤◌, Bool, true, false, not, ◌&&◌, ◌||◌, eqb, ltb, ◌⊎◌, sym, refl, ap, ◌∙◌, inl, inr}
use Rattle.std.proofs.Common.{mul-le-mul_right, add-mul, zero-mul, mul_right_comm, le_of_mul-le-mul_right, arith, ltb-false, ltb-true}
use Rattle.std.proofs.Common.{le-ltb, lt-ltb, eq-eqb, ne_eqb}
use mathlib.Core.Bool.{and-false, or-true}
use lib.Ieee.{below, level}

-- ---- ±a < ±b as one inequality of naturals: write ±a as a⁺ - a⁻
abbrev pub plus : Bool → ℕ → ℕ
plus false a = a
plus true a = 0

abbrev pub less : Bool → ℕ → ℕ
less false a = 0
less true a = a

below_false : (s : Bool) (a : ℕ) (t : Bool) (b : ℕ) → below s a t b ≡ false → plus t b + less s a ≤ plus s a + less t b
below_false false a false b h = omega (arith, ltb-false a b h)
below_false false a true b h = omega arith
below_false true a false b h = omega (arith, ltb-false 0 (a + b) h)
below_false true a true b h = omega (arith, ltb-false b a h)

false_below : (s : Bool) (a : ℕ) (t : Bool) (b : ℕ) → plus t b + less s a ≤ plus s a + less t b → below s a t b ≡ false
false_below false a false b h = le-ltb a b (omega arith)
false_below false a true b h = refl
false_below true a false b h = le-ltb 0 (a + b) (omega arith)
false_below true a true b h = le-ltb b a (omega arith)

-- ---- one of ±a < ±b, ±a = ±b, ±b < ±a
order : (a b : ℕ) → (a < b) ⊎ ((a ≡ b) ⊎ (b < a))
order a b = go (ltb a b) (ltb b a) (ltb-true a b) (ltb-false a b) (ltb-true b a) (ltb-false b a)
  where
    go : (p q : Bool) → (p ≡ true → a < b) → (p ≡ false → b ≤ a) → (q ≡ true → b < a) → (q ≡ false → a ≤ b) → (a < b) ⊎ ((a ≡ b) ⊎ (b < a))
    go true q f g h k = inl (f refl)
    go false true f g h k = inr (inr (h refl))
    go false false f g h k = let x : b ≤ a = g refl in let y : a ≤ b = k refl in inr (inl (omega arith))

same_sign : (a b : ℕ) → (ltb a b || (eqb a b && true)) ≡ not (ltb b a)
same_sign a b = go (order a b)
  where
    go : (a < b) ⊎ ((a ≡ b) ⊎ (b < a)) → (ltb a b || (eqb a b && true)) ≡ not (ltb b a)
    go (inl h) = simp (lt-ltb a b h, le-ltb b a (omega arith))
    go (inr (inl h)) = simp (le-ltb a b (omega arith), le-ltb b a (omega arith), eq-eqb a b h)
    go (inr (inr h)) = simp (le-ltb a b (omega arith), lt-ltb b a h, ne_eqb a b (λ e. omega arith))

zeros : (a b : ℕ) → (eqb a b && eqb a 0) ≡ not (ltb 0 (b + a))
zeros a b = go (order 0 a) (order 0 b)
  where
    go : (0 < a) ⊎ ((0 ≡ a) ⊎ (a < 0)) → (0 < b) ⊎ ((0 ≡ b) ⊎ (b < 0)) → (eqb a b && eqb a 0) ≡ not (ltb 0 (b + a))
    go (inl h) w = simp (lt-ltb 0 (b + a) (omega arith), ne_eqb a 0 (λ e. omega arith), and-false)
    go (inr (inl h)) (inl k) = simp (lt-ltb 0 (b + a) (omega arith), ne_eqb a b (λ e. omega arith))
    go (inr (inl h)) (inr (inl k)) = simp (le-ltb 0 (b + a) (omega arith), eq-eqb a b (omega arith), eq-eqb a 0 (omega arith))
    go (inr (inl h)) (inr (inr k)) = absurd (omega arith)
    go (inr (inr h)) w = absurd (omega arith)

under_zero : (a b : ℕ) → (ltb 0 (a + b) || (eqb a b && eqb a 0)) ≡ true
under_zero a b = go (order 0 (a + b))
  where
    go : (0 < a + b) ⊎ ((0 ≡ a + b) ⊎ (a + b < 0)) → (ltb 0 (a + b) || (eqb a b && eqb a 0)) ≡ true
    go (inl h) = simp (lt-ltb 0 (a + b) h)
    go (inr (inl h)) = simp (eq-eqb a b (omega arith), eq-eqb a 0 (omega arith), or-true)
    go (inr (inr h)) = absurd (omega arith)

pub at_most : (s : Bool) (a : ℕ) (t : Bool) (b : ℕ) → (below s a t b || level s a t b) ≡ not (below t b s a)
at_most false a false b = same_sign a b
at_most false a true b = zeros a b
at_most true a false b = under_zero a b
at_most true a true b = backwards
  where
    turn : (p q : ℕ) → eqb p q ≡ eqb q p
    turn p q = go (order p q)
      where
        go : (p < q) ⊎ ((p ≡ q) ⊎ (q < p)) → eqb p q ≡ eqb q p
        go (inl h) = simp (ne_eqb p q (λ e. omega arith), ne_eqb q p (λ e. omega arith))
        go (inr (inl h)) = simp (eq-eqb p q h, eq-eqb q p (sym h))
        go (inr (inr h)) = simp (ne_eqb p q (λ e. omega arith), ne_eqb q p (λ e. omega arith))

    backwards : (ltb b a || (eqb a b && true)) ≡ not (ltb a b)
    backwards = ap (λ (x : Bool). ltb b a || (x && true)) (turn a b) ∙ same_sign b a

-- ---- ±x / p ≤ ±y / q ≤ ±z / r, each numerator a difference
pub plus_times : (s : Bool) (a k : ℕ) → plus s (a * k) ≡ plus s a * k
plus_times false a k = refl
plus_times true a k = sym (zero-mul k)

pub less_times : (s : Bool) (a k : ℕ) → less s (a * k) ≡ less s a * k
less_times false a k = sym (zero-mul k)
less_times true a k = refl

pub through : (x⁺ x⁻ y⁺ y⁻ z⁺ z⁻ p q r : ℕ) → 0 < q → x⁺ * q + y⁻ * p ≤ y⁺ * p + x⁻ * q → y⁺ * r + z⁻ * q ≤ z⁺ * q + y⁻ * r → x⁺ * r + z⁻ *
    p ≤ z⁺ * p + x⁻ * r
through x⁺ x⁻ y⁺ y⁻ z⁺ z⁻ p q r Q h k =
    let a : x⁺ * q * r + y⁻ * p * r ≤ y⁺ * p * r + x⁻ * q * r = simp (← add-mul) (mul-le-mul_right r h) in
    let b : y⁺ * r * p + z⁻ * q * p ≤ z⁺ * q * p + y⁻ * r * p = simp (← add-mul) (mul-le-mul_right p k) in
    le_of_mul-le-mul_right (simp add-mul
    (omega (
      arith,
      mul_right_comm x⁺ r q,
      mul_right_comm z⁻ p q,
      mul_right_comm z⁺ p q,
      mul_right_comm x⁻ r q,
      mul_right_comm y⁺ p r,
      mul_right_comm y⁻ p r,
    ))) Q

-- ±x / p is not below ±y / q, as an inequality of the parts
pub not_below : (s : Bool) (x p : ℕ) (t : Bool) (y q : ℕ) → below s (x * q) t (y * p) ≡ false → plus t y * p + less s x * q ≤ plus s x * q +
    less t y * p
not_below s x p t y q h = simp (plus_times, less_times) at (below_false s (x * q) t (y * p) h)

pub below_not : (s : Bool) (x p : ℕ) (t : Bool) (y q : ℕ) → plus t y * p + less s x * q ≤ plus s x * q + less t y * p → below s (x * q) t
    (y * p) ≡ false
below_not s x p t y q h = false_below s (x * q) t (y * p) (simp (plus_times, less_times) h)
