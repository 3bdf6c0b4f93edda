-- Rounding keeps the sign and does not let it change the size. So a square is not negative, and nor is a sum of two values that are not.
-- Assumes nothing.
use Rattle.std.proofs.Common.{◌≡◌, ℕ, zero, suc, ◌+◌, ◌*◌, ◌^◌, Bool, true, false, cond, ltb, ℤ, sym, refl, ap, ◌∙◌, true≢false}
use lib.Ieee.{Float, nan, inf, fin, Format, prec, emax, low, up, down, unlike, odd, units, round, add, mul}
use lib.Ieee.Fits.{round_is}
use Rattle.arithmetic.specs.Basic.{absolute, negative}

-- ---- the size
absolute_odd : (d : ℕ) (s : Bool) (q k l : ℕ) → absolute (odd d s q k l) ≡ odd d false q k l
unfolding odd absolute
absolute_odd d s zero k l = refl
absolute_odd d s (suc q) k l = refl

absolute_units : (f : Format) (s : Bool) (q k : ℕ) → absolute (units f s q k) ≡ units f false q k
unfolding units
absolute_units f s q k = go (ltb (q * 2 ^ k) (2 ^ (low f + suc (emax f))))
  where
    go : (b : Bool) → absolute (cond b (odd (suc (prec f)) s q k (low f)) (inf s)) ≡ cond b (odd (suc (prec f)) false q k (low f))
        (inf false)
    go true = absolute_odd (suc (prec f)) s q k (low f)
    go false = unfold absolute in refl

pub absolute_round : (f : Format) (s : Bool) (a c : ℕ) → absolute (round f s a c) ≡ round f false a c
absolute_round f s a c = ap absolute (round_is f s a c) ∙ absolute_units f s _ _ ∙ sym (round_is f false a c)

-- ---- the sign
absolute_not_negative : (x : Float) → negative (absolute x) ≡ false
unfolding absolute negative
absolute_not_negative nan = refl
absolute_not_negative (inf s) = refl
absolute_not_negative (fin s m e) = refl

pub round_not_negative : (f : Format) (a c : ℕ) → negative (round f false a c) ≡ false
round_not_negative f a c = ap negative (sym (absolute_round f false a c)) ∙ absolute_not_negative (round f false a c)

mul_finite : (f : Format) (s : Bool) (m : ℕ) (e : ℤ) → mul f (fin s m e) (fin s m e) ≡ round f (unlike s s) (m * up e * (m * up e))
    (down e * down e)
unfolding mul
mul_finite f s m e = refl

add_finite : (f : Format) (m : ℕ) (e : ℤ) (n : ℕ) (d : ℤ) → add f (fin false m e) (fin false n d) ≡ round f false
    (m * up e * down d + n * up d * down e) (down e * down d)
unfolding add
add_finite f m e n d = refl

pub square_not_negative : (f : Format) (x : Float) → negative (mul f x x) ≡ false
square_not_negative f nan = unfold mul negative in refl
square_not_negative f (inf true) = unfold mul negative in refl
square_not_negative f (inf false) = unfold mul negative in refl
square_not_negative f (fin true m e) = ap negative (mul_finite f true m e) ∙ round_not_negative f _ _
square_not_negative f (fin false m e) = ap negative (mul_finite f false m e) ∙ round_not_negative f _ _

pub sum_not_negative : (f : Format) (x y : Float) → negative x ≡ false → negative y ≡ false → negative (add f x y) ≡ false
sum_not_negative f nan y p q = unfold add negative in refl
sum_not_negative f (inf true) y p q = absurd (true≢false (unfold negative in p))
sum_not_negative f (inf false) nan p q = unfold add negative in refl
sum_not_negative f (inf false) (inf true) p q = absurd (true≢false (unfold negative in q))
sum_not_negative f (inf false) (inf false) p q = unfold add negative in refl
sum_not_negative f (inf false) (fin t n d) p q = unfold add negative in refl
sum_not_negative f (fin true m e) y p q = absurd (true≢false (unfold negative in p))
sum_not_negative f (fin false m e) nan p q = unfold add negative in refl
sum_not_negative f (fin false m e) (inf true) p q = absurd (true≢false (unfold negative in q))
sum_not_negative f (fin false m e) (inf false) p q = unfold add negative in refl
sum_not_negative f (fin false m e) (fin true n d) p q = absurd (true≢false (unfold negative in q))
sum_not_negative f (fin false m e) (fin false n d) p q = ap negative (add_finite f m e n d) ∙ round_not_negative f _ _
