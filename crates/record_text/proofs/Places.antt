-- How many digits a number has, and how long texts are. Assumes nothing.
use Prim.Native.Nat.{ℕ, zero, suc, ◌+◌, ◌-◌, ◌/◌, ◌%◌, ◌<◌, ◌≤◌}
use mathlib.Core.Path.{◌≡◌, refl}
use mathlib.Core.Bool.{Bool, true, false, cond}
use mathlib.Core.List.{[], ◌∷◌, ◌++◌}
use native.Mathlib.Nat.{mod-lt}
use native.Mathlib.Omega.{arith}
use native.Mathlib.Numerals.{add-one}
use borrow.Author.Tests.{lt-ltb, le-ltb}
use lib.Dec.{ltb}
use lib.ListN.{length, length-append}
use Rattle.record_text.specs.Text.{glyph, digits, places_of}

pub length_digits : (base k n : ℕ) → length (digits base k n) ≡ k
unfolding digits
length_digits base zero n = refl
length_digits base (suc k) n = simp (length-append, length_digits base k) (omega arith)

few_or : (b : Bool) (p most : ℕ) → p ≤ most → cond b 1 (suc p) ≤ suc most
few_or true p most h = omega arith
few_or false p most h = omega arith

pub places_at_most : (most n : ℕ) → places_of most n ≤ most
unfolding places_of
places_at_most zero n = omega arith
places_at_most (suc most) n = few_or (ltb n 10) (places_of most (n / 10)) most (places_at_most most (n / 10))

-- what the recursions compute
pub places_none : (n most : ℕ) → most ≡ 0 → 0 ≡ places_of most n
unfolding places_of
places_none n most e = rw e

pub places_one : (n most : ℕ) → (most ≡ 0 → ⊥) → n < 10 → 1 ≡ places_of most n
unfolding places_of
places_one n zero z h = absurd (z refl)
places_one n (suc most) z h = simp (lt-ltb n 10 h)

pub places_next : (n most : ℕ) → (most ≡ 0 → ⊥) → 10 ≤ n → places_of (most - 1) (n / 10) + 1 ≡ places_of most n
unfolding places_of
places_next n zero z h = absurd (z refl)
places_next n (suc most) z h = let e : suc most - 1 ≡ most = omega arith in simp (le-ltb n 10 h, e, add-one)

pub digits_none : (base k n : ℕ) → k ≡ 0 → digits base k n ≡ []
unfolding digits
digits_none base k n e = rw e

pub digits_next : (base k n : ℕ) → (k ≡ 0 → ⊥) → digits base (k - 1) (n / base) ++ (glyph (n % base) ∷ []) ≡ digits base k n
unfolding digits
digits_next base zero n z = absurd (z refl)
digits_next base (suc k) n z = let e : suc k - 1 ≡ k = omega arith in rw e

pub mod_below : (n base : ℕ) → 1 < base → n % base < base
mod_below n base h = mod-lt n (omega arith)
