-- Steps on numbers as the machine reads them back, while they stay below 2^63: that each fits, what it gives, and how large that is.
-- Assumes nothing.
use mathlib.Core.Path.{◌≡◌, sym, ap, ◌∙◌, subst}
use Prim.Native.Nat.{ℕ, ◌+◌, ◌*◌, ◌≤◌}
use native.Mathlib.Omega.{arith}
use lib.IntN.{ℤ, pos, negsuc, nat_abs, ◌+ℤ◌, ◌-ℤ◌, ◌*ℤ◌}
use lib.Signed.{mag}
use mir.Syntax.{w64}
use mir.Val.{SFits}
use Rattle.wide_integers.specs.Sizes.{Sized}
use Rattle.wide_integers.proofs.Reading.{bits, bits_back, widen, product_size, sum_size, difference_size}

mag_le : (z : ℤ) → mag z ≤ nat_abs z
mag_le (pos n) = omega arith
mag_le (negsuc n) = omega arith

-- 2^63 - 1
abbrev pub most : ℕ
most = 9223372036854775807

pub word_fits : {z : ℤ} → Sized most z → SFits w64 z
word_fits {z} h =
    let m = mag_le z in
    let n = h.size in
    record { sfits = omega (arith, m, n) }

-- X is read as x, which is up to B
pub record Term (X x : ℤ) (B : ℕ) : Type 0 where
  pub is : X ≡ x
  pub sized : Sized B x

pub term : {x : ℤ} {B : ℕ} → Sized B x → B ≤ most → Term (bits x) x B
term h l = record { is = bits_back (word_fits (widen h l)); sized = h }

-- a number that is read, read again
pub reread : {X x : ℤ} {B : ℕ} → Term X x B → B ≤ most → Term (bits X) x B
reread {X} {x} {B} t l =
    record { is = ap (λ (z : ℤ). bits z) t.is ∙ bits_back (word_fits (widen t.sized l)); sized = t.sized }

module _ {X Y x y : ℤ} {A B : ℕ} (a : Term X x A) (b : Term Y y B) where
  module _ (l : A * B ≤ most) where
    times_size : Sized most (x *ℤ y)
    times_size = widen (product_size a.sized b.sized) l

    pub times_fits : SFits w64 (X *ℤ Y)
    times_fits = subst (SFits w64) (λ i. sym a.is i *ℤ sym b.is i) (word_fits times_size)

    pub times : Term (bits (X *ℤ Y)) (x *ℤ y) (A * B)
    times = record {
      is = (λ i. bits (a.is i *ℤ b.is i)) ∙ bits_back (word_fits times_size);
      sized = product_size a.sized b.sized;
    }

  module _ (l : A + B ≤ most) where
    pub plus_fits : SFits w64 (X +ℤ Y)
    plus_fits = subst (SFits w64) (λ i. sym a.is i +ℤ sym b.is i) (word_fits (widen (sum_size a.sized b.sized) l))

    pub plus : Term (bits (X +ℤ Y)) (x +ℤ y) (A + B)
    plus = record {
      is = (λ i. bits (a.is i +ℤ b.is i)) ∙ bits_back (word_fits (widen (sum_size a.sized b.sized) l));
      sized = sum_size a.sized b.sized;
    }

    pub minus_fits : SFits w64 (X -ℤ Y)
    minus_fits = subst (SFits w64) (λ i. sym a.is i -ℤ sym b.is i) (word_fits (widen (difference_size a.sized b.sized) l))

    pub minus : Term (bits (X -ℤ Y)) (x -ℤ y) (A + B)
    minus = record {
      is = (λ i. bits (a.is i -ℤ b.is i)) ∙ bits_back (word_fits (widen (difference_size a.sized b.sized) l));
      sized = difference_size a.sized b.sized;
    }

-- a number that is smaller than its steps tell
pub resized : {X x : ℤ} {A B : ℕ} → Term X x A → Sized B x → Term X x B
resized t h = record { is = t.is; sized = h }

pub read_sized : {X x : ℤ} {B : ℕ} → Term X x B → Sized B X
read_sized {X} {x} {B} t = subst (Sized B) (sym t.is) t.sized
