-- The first record of a stream lies within it, and what follows 8,196 bytes does not change it. Assumes nothing.
use Prim.Native.Nat.{ℕ, ◌+◌, ◌≤◌}
use mathlib.Core.Path.{◌≡◌, refl}
use mathlib.Core.Bool.{Bool, true, false, cond}
use mathlib.Core.List.{List, ◌++◌}
use native.Mathlib.Omega.{arith}
use borrow.Author.Tests.{ltb-false, le-ltb, ne_eqb}
use lib.Dec.{ltb, eqb}
use lib.ListN.{length, length-append, get_or-append}
use Rattle.float_forms.specs.Bytes.{word_of}
use Rattle.record_bytes.specs.Records.{longest}
use Rattle.record_bytes.specs.Stream.{next_of}
use Rattle.record_bytes.specs.declared.stream.Found.TheVariants.{Record, Cut, End}

-- ---- a record that is found lies within the bytes

within : (length' word end : ℕ) (none few long short : Bool) → (ltb length' (4 + word) ≡ short) →
    cond none End (cond few Cut (cond long Cut (cond short Cut (Record (4 + word))))) ≡ Record end → (4 ≤ end) × (end ≤ length')
within length' word end none few long true s e = absurd (never none few long e)
  where
    never : (none few long : Bool) → cond none End (cond few Cut (cond long Cut Cut)) ≡ Record end → ⊥
    never true few long e = let z : ◌≡◌ {A = ℕ} 0 1 = cc in omega arith
    never false true long e = let z : ◌≡◌ {A = ℕ} 0 1 = cc in omega arith
    never false false true e = let z : ◌≡◌ {A = ℕ} 0 1 = cc in omega arith
    never false false false e = let z : ◌≡◌ {A = ℕ} 0 1 = cc in omega arith
within length' word end true few long false s e = let z : ◌≡◌ {A = ℕ} 0 1 = cc in absurd (omega arith)
within length' word end false true long false s e = let z : ◌≡◌ {A = ℕ} 0 1 = cc in absurd (omega arith)
within length' word end false false true false s e = let z : ◌≡◌ {A = ℕ} 0 1 = cc in absurd (omega arith)
within length' word end false false false false s e =
    let k : 4 + word ≡ end = cc in
    let h : 4 + word ≤ length' = ltb-false length' (4 + word) s in
    (omega arith, omega arith)

pub next_within : (bytes : List ℕ) (end : ℕ) → next_of bytes ≡ Record end → (4 ≤ end) × (end ≤ length bytes)
unfolding next_of
next_within bytes end e =
    within (length bytes) (word_of bytes) end (eqb (length bytes) 0) (ltb (length bytes) 4) (ltb longest (word_of bytes))
    (ltb (length bytes) (4 + word_of bytes)) refl e

-- ---- 8,196 bytes are enough

word_stays : (bytes more : List ℕ) → 4 ≤ length bytes → word_of (bytes ++ more) ≡ word_of bytes
unfolding word_of
word_stays bytes more h =
    rw (
      get_or-append bytes more 0 0 (omega arith),
      get_or-append bytes more 0 1 (omega arith),
      get_or-append bytes more 0 2
          (omega arith),
      get_or-append bytes more 0 3 (omega arith),
    )

same : (l m word : ℕ) → 8196 ≤ l → l ≤ m → (long : Bool) → ltb longest word ≡ long →
    cond (eqb m 0) End (cond (ltb m 4) Cut (cond long Cut (cond (ltb m (4 + word)) Cut (Record (4 + word)))))
    ≡ cond (eqb l 0) End (cond (ltb l 4) Cut (cond long Cut (cond (ltb l (4 + word)) Cut (Record (4 + word)))))
same l m word h k true s =
    simp (ne_eqb m 0 (λ e. omega arith), ne_eqb l 0 (λ e. omega arith), le-ltb m 4 (omega arith), le-ltb l 4 (omega arith))
same l m word h k false s =
    let w : word ≤ 8192 = ltb-false longest word s in
    simp (
      ne_eqb m 0 (λ e. omega arith),
      ne_eqb l 0 (λ e. omega arith),
      le-ltb m 4 (omega arith),
      le-ltb l 4 (omega arith),
      le-ltb m
          (4 + word) (omega arith),
      le-ltb l (4 + word) (omega arith),
    )

-- what a program reads later never changes the record at hand
pub next_stays : (bytes more : List ℕ) → 8196 ≤ length bytes → next_of (bytes ++ more) ≡ next_of bytes
unfolding next_of
next_stays bytes more h =
    rw (word_stays bytes more (omega arith), length-append bytes more)
    (same (length bytes) (length bytes + length more) (word_of bytes) h (omega arith) (ltb longest (word_of bytes)) refl)
