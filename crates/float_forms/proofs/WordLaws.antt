-- What `word_at` says where eight bytes are left, and where fewer are. Assumes nothing.
use Prim.Native.Nat.{ℕ, ◌+◌, ◌*◌, ◌<◌, ◌≤◌}
use native.Mathlib.Omega.{arith}
use mathlib.Core.Path.{◌≡◌, refl, sym, ap, ◌∙◌}
use mathlib.Core.Bool.{Bool, cond}
use mathlib.Core.List.{List}
use borrow.Author.Tests.{le-leb, lt-leb}
use lib.ListN.{length}
use Rattle.float_forms.specs.Words.{Read, value, nothing, byte_at, value_at, word_at}

pub nothing_left : (bytes : List ℕ) (place : ℕ) → length bytes < place + 8 → nothing ≡ word_at bytes place
unfolding word_at
nothing_left bytes place h =
    sym (ap (λ (t : Bool). cond t (value (value_at bytes place)) nothing) (lt-leb (place + 8) (length bytes) h))

pub word_there : (bytes : List ℕ) (place b : ℕ) → place + 8 ≤ length bytes → b ≡ value_at bytes place → value b ≡ word_at bytes place
unfolding word_at
word_there bytes place b h e =
    ap value e ∙ sym (ap (λ (t : Bool). cond t (value (value_at bytes place)) nothing) (le-leb (place + 8) (length bytes) h))

-- a word's bits, and of nothing as many as are handed in
abbrev bits_or : ℕ → Read → ℕ
bits_or d (value b) = b
bits_or d nothing = d

-- the bits of a word that is there are the eight bytes' value
pub bits_there : (bytes : List ℕ) (place b : ℕ) → place + 8 ≤ length bytes → value b ≡ word_at bytes place → b ≡ value_at bytes place
bits_there bytes place b h e = ap (bits_or 0) (e ∙ sym (word_there bytes place (value_at bytes place) h refl))

-- whether it is a word
abbrev is_value : Read → ℕ
is_value (value b) = 0
is_value nothing = 1

pub never_nothing : (bytes : List ℕ) (place : ℕ) → place + 8 ≤ length bytes → nothing ≡ word_at bytes place → ◌≡◌ {A = ℕ} 1 0
never_nothing bytes place h e = ap is_value (e ∙ sym (word_there bytes place (value_at bytes place) h refl))

-- the eight bytes in pairs
abbrev pub in_pairs : List ℕ → ℕ → ℕ
in_pairs bytes place =
    (byte_at bytes place * 256 + byte_at bytes (place + 1)) * 0x1_0000_0000_0000
    + ((byte_at bytes (place + 2) * 256 + byte_at bytes (place + 3)) * 0x1_0000_0000
    + ((byte_at bytes (place + 4) * 256 + byte_at bytes (place + 5)) * 0x1_0000
    + (byte_at bytes (place + 6) * 256 + byte_at bytes (place + 7))))

pub from_pairs : (bytes : List ℕ) (place b : ℕ) → place + 8 ≤ length bytes → b ≡ in_pairs bytes place → value b ≡ word_at bytes place
unfolding value_at
from_pairs bytes place b h e = word_there bytes place b h (e ∙ omega arith)
