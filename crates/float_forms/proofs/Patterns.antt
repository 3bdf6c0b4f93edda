-- Which bit patterns are NaN's, by one comparison. Assumes nothing.
use Prim.Native.Nat.{ℕ, ◌*◌, ◌%◌, ◌<◌, ◌≤◌}
use mathlib.Core.Path.{◌≡◌, sym, ap, subst, ◌∙◌}
use mathlib.Core.Bool.{not}
use borrow.Author.Tests.{lt-ltb, le-ltb}
use lib.Dec.{T}
use lib.Ieee.{Format, nan, hid, ones, top, of_bits, nan_bits}
use lib.Ieee.Bits.{nan_bits_is, nan_bits_above}
use Rattle.arithmetic.proofs.Order.{is_nan_lem}

pub nan_pattern : (f : Format) (bits : ℕ) → ones f * hid f < bits % top f → of_bits f bits ≡ nan
nan_pattern f bits h = is_nan_lem (of_bits f bits) (sym (nan_bits_is f bits) ∙ (nan_bits_above f bits ∙ lt-ltb _ _ h))

pub number_pattern : (f : Format) (bits : ℕ) → bits % top f ≤ ones f * hid f → T (not (nan_bits f bits))
number_pattern f bits h = subst T (sym (ap not (nan_bits_above f bits ∙ le-ltb _ _ h))) tt
