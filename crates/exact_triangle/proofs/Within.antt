-- A number is within b if it is from -b to b, which two comparisons tell. Assumes nothing.
use Rattle.std.proofs.Common.{◌≡◌, ℕ, ◌*◌, Bool, true, false, not, ltb, ℤ, sym, refl, ap, ◌∙◌, true≢false, add_comm}
use lib.Ieee.{Float, nan, inf, fin, up, down, below, neg, lt, eq, le, is_nan}
use lib.Ieee.Fits.{down_pos}
use Rattle.arithmetic.specs.Basic.{absolute}
use Rattle.arithmetic.proofs.Order.{le_transitive, le_left_number}
use Rattle.arithmetic.proofs.Sizes.{number_size, at_most_size}
use Rattle.arithmetic.proofs.ValueOrder.{le_values}

-- ---- -b ≤ x where -x ≤ b
turned : (s t : Bool) (a b : ℕ) → below t b (not s) a ≡ below s a (not t) b
turned false false a b = refl
turned false true a b = refl
turned true false a b = refl
turned true true a b = ap (ltb 0) (add_comm b a)

finite_turned : (s t : Bool) (m n : ℕ) (e d : ℤ) → le (fin (not s) m e) (fin t n d) ≡ le (fin (not t) n d) (fin s m e)
finite_turned s t m n e d =
    le_values (fin (not s) m e) (fin t n d) (not s) t (m * up e) (down e) (n * up d) (down d) (down_pos e) (down_pos d) (refl, refl)
    (refl, refl)
    ∙ ap not (turned s t (m * up e * down d) (n * up d * down e))
    ∙ sym
    (le_values (fin (not t) n d) (fin s m e) (not t) s (n * up d) (down d) (m * up e) (down e) (down_pos d) (down_pos e) (refl, refl)
    (refl, refl))

le_turned : (b x : Float) → le (neg b) x ≡ le (neg x) b
unfolding neg
le_turned nan nan = refl
le_turned nan (inf t) = unfold le lt eq in refl
le_turned nan (fin t n d) = unfold le lt eq in refl
le_turned (inf s) nan = unfold le lt eq in refl
le_turned (inf false) (inf false) = unfold le lt eq in refl
le_turned (inf false) (inf true) = unfold le lt eq in refl
le_turned (inf true) (inf false) = unfold le lt eq in refl
le_turned (inf true) (inf true) = unfold le lt eq in refl
le_turned (inf s) (fin t n d) = unfold le lt eq in refl
le_turned (fin s m e) nan = unfold le lt eq in refl
le_turned (fin s m e) (inf t) = unfold le lt eq in refl
le_turned (fin s m e) (fin t n d) = finite_turned s t m n e d

-- ---- the two comparisons
-- above b
pub above_out : (b x : Float) → le x b ≡ false → false ≡ le (absolute x) b
above_out b x h = go (le (absolute x) b) refl
  where
    go : (r : Bool) → le (absolute x) b ≡ r → false ≡ r
    go false e = refl
    go true e =
        let number = sym (number_size x) ∙ le_left_number (absolute x) b e in
        absurd (true≢false (sym (le_transitive x (absolute x) b (at_most_size x number) e) ∙ h))

size_told : (b x : Float) → le x b ≡ true → le (neg x) b ≡ le (absolute x) b
unfolding neg absolute
size_told b nan h = refl
size_told b (inf false) h = le_transitive (inf true) (inf false) b (unfold le lt eq in refl) h ∙ sym h
size_told b (inf true) h = refl
size_told b (fin false m e) h =
    le_transitive (fin true m e) (fin false m e) b (at_most_size (fin true m e) (unfold is_nan in refl)) h ∙ sym h
size_told b (fin true m e) h = refl

-- at most b: at least -b, or not
pub low_tells : (b x : Float) → le x b ≡ true → le (neg b) x ≡ le (absolute x) b
low_tells b x h = le_turned b x ∙ size_told b x h
