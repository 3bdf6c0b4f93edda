-- The sign of a number, of its negative and of a quotient. Assumes nothing.
use Rattle.std.proofs.Common.{◌≡◌, ℕ, zero, suc, ◌+◌, ◌*◌, ◌<◌, true, ℤ, pos, negsuc, ◌+ℤ◌, ◌*ℤ◌, neg_ℤ, nat_abs, sym, refl, ap, ◌∙◌}
use Rattle.std.proofs.Common.{zero-lt-suc, arith, ltb-true, lt-ltb}
use mathlib.Core.Bool.{false≢true}
use lib.IntN.{*ℤ-zero}
use lib.Signed.{lt_z}
use Rattle.wide_integers.proofs.Integers.{size_zero}
use Rattle.wide_integers.proofs.Polynomials.{own, own_pos, rep_mul}
use Rattle.wide_integers.proofs.Order.{rep_lt, rep_same}
use Rattle.exact_depth.specs.declared.projection.Point.{Point}
use Rattle.exact_triangle.specs.Line.{Moves}
use Rattle.exact_triangle.specs.Normal.{dot_of}

-- a direction that is not at right angles to something is not 0
pub moves_of : (n d : Point) → (dot_of n d ≡ pos 0 → ⊥) → Moves d
moves_of n d h = record { some = go (nat_abs d.x + nat_abs d.y + nat_abs d.z) refl }
  where
    nothing : nat_abs d.x + nat_abs d.y + nat_abs d.z ≡ 0 → dot_of n d ≡ pos 0
    nothing e =
        let x = size_zero d.x (omega (arith, e)) in
        let y = size_zero d.y (omega (arith, e)) in
        let z = size_zero d.z (omega (arith, e)) in
        (λ s. n.x *ℤ x s +ℤ n.y *ℤ y s +ℤ n.z *ℤ z s) ∙ (λ s. *ℤ-zero n.x s +ℤ *ℤ-zero n.y s +ℤ *ℤ-zero n.z s)

    go : (m : ℕ) → nat_abs d.x + nat_abs d.y + nat_abs d.z ≡ m → 0 < m
    go zero e = absurd (h (nothing e))
    go (suc m) e = zero-lt-suc m

pub above_apart : (z : ℤ) → lt_z (pos 0) z ≡ true → z ≡ pos 0 → ⊥
above_apart z h e = false≢true (sym (ap (lt_z (pos 0)) e) ∙ h)

pub below_apart : (z : ℤ) → lt_z z (pos 0) ≡ true → z ≡ pos 0 → ⊥
below_apart z h e = false≢true (sym (ap (λ (y : ℤ). lt_z y (pos 0)) e) ∙ h)

pub below_turned : (z : ℤ) → lt_z z (pos 0) ≡ true → lt_z (pos 0) (neg_ℤ z) ≡ true
below_turned (pos n) h = let l = ltb-true n 0 h in absurd (omega (arith, l))
below_turned (negsuc n) h = lt-ltb 0 (suc n) (zero-lt-suc n)

-- T / w and E / F have one sign, where F and w are above 0
pub below_zero : (T F E w : ℤ) → lt_z (pos 0) F ≡ true → lt_z (pos 0) w ≡ true → T *ℤ F ≡ E *ℤ w → lt_z E (pos 0) ≡ true
    → lt_z T (pos 0) ≡ true
below_zero T F (pos e) w f v h g = absurd (let m = rep_lt (own_pos e) (own_pos 0) g in omega (arith, m))
below_zero (negsuc t) F (negsuc e) w f v h g = refl
below_zero (pos t) (negsuc n) (negsuc e) w f v h g = absurd (false≢true f)
below_zero (pos t) (pos n) (negsuc e) (negsuc k) f v h g = absurd (false≢true v)
below_zero (pos t) (pos n) (negsuc e) (pos zero) f v h g = absurd (false≢true v)
below_zero (pos t) (pos n) (negsuc e) (pos (suc k)) f v h g =
    let r = rep_same (rep_mul (own_pos t) (own_pos n)) (rep_mul (own (negsuc e)) (own_pos (suc k))) h in absurd (none t n e k r)
  where
    none : (t n e k : ℕ) → t * n + 0 * 0 + (0 * 0 + suc e * suc k) ≡ 0 * suc k + suc e * 0 + (t * 0 + 0 * n) → ⊥
    none t n e k r = omega (arith, r)
