-- A square by the halves of its root, of 27 digits each, and how it compares with a multiple of a power of two. Assumes nothing.
use Rattle.std.proofs.Common.{◌≡◌, ℕ, suc, ◌+◌, ◌-◌, ◌*◌, ◌/◌, ◌%◌, ◌^◌, ◌<◌, ◌≤◌, Bool, true, false, leb, refl, ap, ◌∙◌, subst, inl, inr}
use Rattle.std.proofs.Common.{le_of_suc-le-suc, mul_comm, add-mul, eq-zero-or-pos, mul-le-mul, lt_of_not-le, mul-add, mul_right_comm, arith}
use Rattle.std.proofs.Common.{leb-false, leb-true}
use native.Mathlib.Nat.{mul-mul-mul_comm}
use Rattle.arithmetic.specs.Root.{NearestRoot, CloseRoot}

pub product_le : (a b : ℕ) → a ≤ 2 ^ 27 → b ≤ 2 ^ 27 → a * b ≤ 2 ^ 54
product_le a b h k = mul-le-mul h k

-- (p + b)² and (a * c)²
square_sum : (p b : ℕ) → (p + b) * (p + b) ≡ p * p + 2 * (p * b) + b * b
square_sum p b =
    let e : (p + b) * (p + b) ≡ p * (p + b) + b * (p + b) = add-mul p b (p + b) in
    let f : p * (p + b) ≡ p * p + p * b = mul-add p p b in
    let g : b * (p + b) ≡ b * p + b * b = mul-add b p b in
    let h : b * p ≡ p * b = mul_comm b p in
    omega arith

-- by the quotient a and the remainder b of a division by c
square_halves : (c a b : ℕ) → (a * c + b) * (a * c + b) ≡ a * a * (c * c) + 2 * (a * b * c) + b * b
square_halves c a b =
    let e : (a * c + b) * (a * c + b) ≡ a * c * (a * c) + 2 * (a * c * b) + b * b = square_sum (a * c) b in
    let f : a * c * (a * c) ≡ a * a * (c * c) = mul-mul-mul_comm a c a c in
    let g : a * c * b ≡ a * b * c = mul_right_comm a c b in
    omega arith

pub square_of_parts : (t : ℕ) → t * t ≡ t / 2 ^ 27 * (t / 2 ^ 27) * 2 ^ 54 + t / 2 ^ 27 * (t % 2 ^ 27) * 2 ^ 28 + t % 2 ^ 27 * (t % 2 ^ 27)
square_of_parts t =
    let e : t ≡ t / 2 ^ 27 * 2 ^ 27 + t % 2 ^ 27 = omega arith in
    let s : t * t ≡ _ = ap (λ (z : ℕ). z * z) e ∙ square_halves (2 ^ 27) (t / 2 ^ 27) (t % 2 ^ 27) in
    omega (arith, s)

-- a square is at most m * 2 ^ 54 exactly where the number of 2 ^ 54 that cover it is at most m
same_test : (x y : Bool) → (x ≡ true → y ≡ false → ⊥) → (x ≡ false → y ≡ true → ⊥) → x ≡ y
same_test true true p q = refl
same_test true false p q = absurd (p refl refl)
same_test false true p q = absurd (q refl refl)
same_test false false p q = refl

abbrev pub cover : ℕ → ℕ → ℕ → ℕ
cover aa ab bb = aa + ab / 2 ^ 26 + (ab % 2 ^ 26 * 2 ^ 28 + bb + (2 ^ 54 - 1)) / 2 ^ 54

pub cover_at_most : (t m aa ab bb : ℕ) → t ≡ aa * 2 ^ 54 + ab * 2 ^ 28 + bb → leb (cover aa ab bb) m ≡ leb t (m * 2 ^ 54)
cover_at_most t m aa ab bb e =
    same_test (leb (cover aa ab bb) m) (leb t (m * 2 ^ 54))
    (λ p q. let h : cover aa ab bb ≤ m = leb-true (cover aa ab bb) m p in omega (arith, leb-false t (m * 2 ^ 54) q))
    (λ p q. let h : t ≤ m * 2 ^ 54 = leb-true t (m * 2 ^ 54) q in omega (arith, leb-false (cover aa ab bb) m p))

pub record PartsSmall (t : ℕ) : Type 0 where
  pub high : t / 2 ^ 27 * (t / 2 ^ 27) ≤ 2 ^ 54
  pub cross : t / 2 ^ 27 * (t % 2 ^ 27) ≤ 2 ^ 54
  pub low : t % 2 ^ 27 * (t % 2 ^ 27) ≤ 2 ^ 54

pub parts_small : (t : ℕ) → t ≤ 2 ^ 54 → PartsSmall t
parts_small t h =
    let a : t / 2 ^ 27 ≤ 2 ^ 27 = omega arith in
    let b : t % 2 ^ 27 ≤ 2 ^ 27 = omega arith in
    record {
      high = product_le (t / 2 ^ 27) (t / 2 ^ 27) a a;
      cross = product_le (t / 2 ^ 27) (t % 2 ^ 27) a b;
      low = product_le
          (t % 2 ^ 27) (t % 2 ^ 27) b b;
    }

-- ---- half of the whole root of 4 * n, rounded up, is the number nearest to the root of n
pub half_nearest : (n t : ℕ) → 0 < t → t * t ≤ 4 * n → 4 * n < (t + 1) * (t + 1) → NearestRoot n ((t + 1) / 2)
half_nearest n t T lo hi = go (t % 2) refl
  where
    s : (t + 1) * (t + 1) ≡ t * t + 2 * (t * 1) + 1 * 1
    s = square_sum t 1

    even : (r : ℕ) → t ≡ 2 * r → NearestRoot n r
    even r e =
        let q : t * t ≡ 2 * 2 * (r * r) = ap (λ (z : ℕ). z * z) e ∙ mul-mul-mul_comm 2 r 2 r in
        record { above = omega (arith, s); below = omega (arith, s) }

    uneven : (r : ℕ) → t + 1 ≡ 2 * r → NearestRoot n r
    uneven r e =
        let q : (t + 1) * (t + 1) ≡ 2 * 2 * (r * r) = ap (λ (z : ℕ). z * z) e ∙ mul-mul-mul_comm 2 r 2 r in
        record { above = omega (arith, s); below = omega (arith, s) }

    go : (p : ℕ) → t % 2 ≡ p → NearestRoot n ((t + 1) / 2)
    go p e = elim (eq-zero-or-pos p) [ inl z ↦ even ((t + 1) / 2) (omega arith) | inr z ↦ uneven ((t + 1) / 2) (omega arith) ]

-- ---- the interval that `halved_root` halves: it holds the root of m * 2 ^ 54
pub record Between (m low high : ℕ) : Type 0 where
  pub order : low < high
  pub start : 2 ^ 53 ≤ low
  pub stop : high ≤ 2 ^ 54
  pub lower : low * low ≤ m * 2 ^ 54
  pub upper : m * 2 ^ 54 < high * high

pub between_at_first : (m : ℕ) → 2 ^ 52 ≤ m → m < 2 ^ 54 → Between m (2 ^ 53) (2 ^ 54)
between_at_first m h k = record { order = omega arith; start = omega arith; stop = omega arith; lower = omega arith; upper = omega arith }

pub between_raised : (m low high : ℕ) → Between m low high → 1 < high - low → leb ((low + (high - low) / 2) * (low + (high - low) / 2))
    (m * 2 ^ 54) ≡ true → Between m (low + (high - low) / 2) high
between_raised m low high b w t = record {
  order = omega (arith, b);
  start = omega (arith, b);
  stop = b.stop;
  lower = leb-true ((low +
      (high - low) / 2) * (low + (high - low) / 2)) (m * 2 ^ 54) t;
  upper = b.upper;
}

pub between_lowered : (m low high : ℕ) → Between m low high → 1 < high - low → leb ((low + (high - low) / 2) * (low + (high - low) / 2))
    (m * 2 ^ 54) ≡ false → Between m low (low + (high - low) / 2)
between_lowered m low high b w t = record {
  order = omega (arith, b);
  start = b.start;
  stop = omega (arith, b);
  lower = b.lower;
  upper =
      leb-false ((low + (high - low) / 2) * (low + (high - low) / 2)) (m * 2 ^ 54) t;
}

pub between_nearest : (m low high : ℕ) → Between m low high → high - low ≤ 1 → NearestRoot (m * 2 ^ 52) ((low + 1) / 2)
between_nearest m low high b w =
    let e : high ≡ low + 1 = omega (arith, b) in
    half_nearest (m * 2 ^ 52) low (omega (arith, b)) (omega (arith, b))
    (let u : m * 2 ^ 54 < (low + 1) * (low + 1) = subst (λ (z : ℕ). m * 2 ^ 54 < z * z) e b.upper in omega arith)

-- ---- by halves of 32 digits: the rest that `is_nearest` finds of a close q, modulo 2 ^ 64, tells whether q is nearest
square_of_words : (t : ℕ) → t * t ≡ t / 2 ^ 32 * (t / 2 ^ 32) * 2 ^ 64 + t / 2 ^ 32 * (t % 2 ^ 32) * 2 ^ 33 + t % 2 ^ 32 * (t % 2 ^ 32)
square_of_words t =
    let e : t ≡ t / 2 ^ 32 * 2 ^ 32 + t % 2 ^ 32 = omega arith in
    let s : t * t ≡ _ = ap (λ (z : ℕ). z * z) e ∙ square_halves (2 ^ 32) (t / 2 ^ 32) (t % 2 ^ 32) in
    omega (arith, s)

pub record WordsSmall (t : ℕ) : Type 0 where
  pub cross : t / 2 ^ 32 * (t % 2 ^ 32) < 2 ^ 64
  pub low : t % 2 ^ 32 * (t % 2 ^ 32) < 2 ^ 64

pub words_small : (t : ℕ) → t < 2 ^ 53 → WordsSmall t
words_small t h =
    let a : t / 2 ^ 32 ≤ 2 ^ 21 = omega arith in
    let b : t % 2 ^ 32 ≤ 2 ^ 32 - 1 = omega arith in
    let c : t / 2 ^ 32 * (t % 2 ^ 32) ≤ 2 ^ 21 * (2 ^ 32 - 1) = mul-le-mul a b in
    let d : t % 2 ^ 32 * (t % 2 ^ 32) ≤ (2 ^ 32 - 1) * (2 ^ 32 - 1) = mul-le-mul b b in
    record { cross = omega arith; low = omega arith }

-- two numbers that differ by a multiple of 2 ^ 64, and by less than that
same_word : (x y w p : ℕ) → x + w * 2 ^ 64 ≡ y + p * 2 ^ 64 → x < y + 2 ^ 64 → y < x + 2 ^ 64 → x ≡ y
same_word x y w p e h k =
    let a : p ≤ w = le_of_suc-le-suc (lt_of_not-le more) in
    let b : w ≤ p = le_of_suc-le-suc (lt_of_not-le fewer) in
    omega arith
  where
    more : suc w ≤ p → ⊥
    more l = omega arith

    fewer : suc p ≤ w → ⊥
    fewer l = omega arith

put_together : (m q s aa ab bb square rest sum : ℕ) → s ≡ aa * 2 ^ 64 + ab * 2 ^ 33 + bb → m * 2 ^ 52 < s + 2 ^ 63 → s < m * 2 ^ 52 + 2 ^ 63
    → q < 2 ^ 53 → square ≡ (ab % 2 ^ 31 * 2 ^ 33 + bb) % 2 ^ 64 → (rest + square) % 2 ^ 64 ≡ m % 2 ^ 12 * 2 ^ 52
    → sum ≡ (rest + (q - 1)) % 2 ^ 64 → sum < 2 * q → m * 2 ^ 52 + (q - 1) ≡ s + sum
put_together m q s aa ab bb square rest sum e l u small p r t h =
    let a : ab ≡ ab / 2 ^ 31 * 2 ^ 31 + ab % 2 ^ 31 = omega arith in
    let k = (ab % 2 ^ 31 * 2 ^ 33 + bb) / 2 ^ 64 in
    let b : ab % 2 ^ 31 * 2 ^ 33 + bb ≡ k * 2 ^ 64 + square = omega arith in
    let j = (rest + square) / 2 ^ 64 in
    let c : rest + square ≡ j * 2 ^ 64 + m % 2 ^ 12 * 2 ^ 52 = omega arith in
    let d : m ≡ m / 2 ^ 12 * 2 ^ 12 + m % 2 ^ 12 = omega arith in
    let i = (rest + (q - 1)) / 2 ^ 64 in
    let f : rest + (q - 1) ≡ i * 2 ^ 64 + sum = omega arith in
    same_word (m * 2 ^ 52 + (q - 1)) (s + sum) (aa + ab / 2 ^ 31 + k + j) (m / 2 ^ 12 + i) (omega arith) (omega arith) (omega arith)

-- sum is the rest with q - 1 added, modulo 2 ^ 64
pub rest_nearest : (m q square rest sum : ℕ) → 0 < q → CloseRoot m q
    → square ≡ (q / 2 ^ 32 * (q % 2 ^ 32) % 2 ^ 31 * 2 ^ 33 + q % 2 ^ 32 * (q % 2 ^ 32)) % 2 ^ 64
    → (rest + square) % 2 ^ 64 ≡ m % 2 ^ 12 * 2 ^ 52 → sum ≡ (rest + (q - 1)) % 2 ^ 64 → sum < 2 * q → NearestRoot (m * 2 ^ 52) q
rest_nearest m q square rest sum Q c p r t h =
    let e : m * 2 ^ 52 + (q - 1) ≡ q * q + sum =
    put_together m q (q * q) (q / 2 ^ 32 * (q / 2 ^ 32)) (q / 2 ^ 32 * (q % 2 ^ 32)) (q % 2 ^ 32 * (q % 2 ^ 32)) square rest sum
    (square_of_words q) c.lower c.upper c.small p r t h in
    record { above = omega arith; below = omega arith }
