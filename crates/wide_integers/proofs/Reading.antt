-- A whole number of the code is what the machine reads back from its bits, while it stays below 2^63. Assumes nothing.
use Rattle.std.proofs.Common.{◌≡◌, ℕ, ◌+◌, ◌*◌, ◌≤◌, Bool, true, false, cond, ℤ, pos, negsuc, ◌+ℤ◌, ◌-ℤ◌, ◌*ℤ◌, neg_ℤ, nat_abs, sym, ap}
use Rattle.std.proofs.Common.{◌∙◌, subst, le_trans, le_of_eq, mul-le-mul_right, mul_comm, arith, lit≤, w64, SFits, to_z, of_z}
use lib.Signed.{mag, lt_z}
use mir.ValLaws.{to_z-of_z}
use Rattle.wide_integers.specs.Sizes.{Sized, Sized61}
use Rattle.wide_integers.proofs.Integers.{add_size, sub_size, mul_size, neg_size}

abbrev pub bits : ℤ → ℤ
bits z = to_z w64 (of_z w64 z)

-- what the machine reads back is the number
pub bits_back : {z : ℤ} → SFits w64 z → bits z ≡ z
bits_back {z} f = to_z-of_z w64 z f

mag_le : (z : ℤ) → mag z ≤ nat_abs z
mag_le (pos n) = omega arith
mag_le (negsuc n) = omega arith

-- up to 2^62 a number fits
abbrev pub Fit : ℤ → Type 0
Fit = Sized 4611686018427387904

pub fits : {z : ℤ} → Fit z → SFits w64 z
fits {z} h =
    let m = mag_le z in
    let n = h.size in
    record { sfits = omega (arith, m, n) }

pub plain : {z : ℤ} → Fit z → bits z ≡ z
plain h = bits_back (fits h)

-- ---- sizes
pub widen : {A B : ℕ} {z : ℤ} → Sized A z → A ≤ B → Sized B z
widen h l = record { size = le_trans h.size l }

pub held_fit : {z : ℤ} → Sized61 z → Fit z
held_fit h = widen h (lit≤ tt)

pub mul_le : (a b A B : ℕ) → a ≤ A → b ≤ B → a * b ≤ A * B
mul_le a b A B h g =
    le_trans (mul-le-mul_right b h) (le_trans (le_of_eq (mul_comm A b)) (le_trans (mul-le-mul_right A g) (le_of_eq (mul_comm B A))))

module _ {A B : ℕ} {x y : ℤ} (h : Sized A x) (g : Sized B y) where
  pub product_size : Sized (A * B) (x *ℤ y)
  product_size = record { size = le_trans (le_of_eq (mul_size x y)) (mul_le (nat_abs x) (nat_abs y) A B h.size g.size) }

  pub sum_size : Sized (A + B) (x +ℤ y)
  sum_size = let m = h.size in let n = g.size in record { size = omega (arith, add_size x y, m, n) }

  pub difference_size : Sized (A + B) (x -ℤ y)
  difference_size = let m = h.size in let n = g.size in record { size = omega (arith, sub_size x y, m, n) }

pub negated_size : {A : ℕ} {x : ℤ} → Sized A x → Sized A (neg_ℤ x)
negated_size {A} {x} h = let m = h.size in record { size = omega (arith, neg_size x, m) }

-- ---- a step on numbers that are read back: that it fits, and what it gives
module _ {X Y x y : ℤ} (e : X ≡ x) (d : Y ≡ y) (h : Sized61 x) (g : Sized61 y) where
  pub add-fits : SFits w64 (X +ℤ Y)
  add-fits =
      subst (λ (z : ℤ). SFits w64 (z +ℤ Y)) (sym e) (subst (λ (z : ℤ). SFits w64 (x +ℤ z)) (sym d) (fits (sum_size h g)))

  pub add_read : bits (X +ℤ Y) ≡ x +ℤ y
  add_read = (λ i. bits (e i +ℤ d i)) ∙ plain (sum_size h g)

  pub sub-fits : SFits w64 (X -ℤ Y)
  sub-fits =
      subst (λ (z : ℤ). SFits w64 (z -ℤ Y)) (sym e) (subst (λ (z : ℤ). SFits w64 (x -ℤ z)) (sym d) (fits (difference_size h g)))

  pub sub_read : bits (X -ℤ Y) ≡ x -ℤ y
  sub_read = (λ i. bits (e i -ℤ d i)) ∙ plain (difference_size h g)

-- a number as it comes is of the same size
pub sized_bits : {A : ℕ} {z : ℤ} → Sized A z → A ≤ 4611686018427387904 → Sized A (bits z)
sized_bits {A} h l = subst (Sized A) (sym (plain (widen h l))) h

-- ---- tests of numbers as they come
pub below_read : {X Y x y : ℤ} {b : Bool} → X ≡ x → Y ≡ y → lt_z X Y ≡ b → lt_z x y ≡ b
below_read e d h = (λ i. lt_z (sym e i) (sym d i)) ∙ h

-- ---- the arms of a definition
pub taken : {A : Type 0} {b : Bool} {x z : A} (y : A) → b ≡ true → z ≡ x → z ≡ cond b x y
taken {x = x} y h e = e ∙ sym (ap (λ (c : Bool). cond c x y) h)

pub left : {A : Type 0} {b : Bool} {y z : A} (x : A) → b ≡ false → z ≡ y → z ≡ cond b x y
left {y = y} x h e = e ∙ sym (ap (λ (c : Bool). cond c x y) h)
