-- Rounding gives a number, and so a sum or a product is NaN only by what goes into it. Assumes nothing.
use Rattle.std.proofs.Common.{◌≡◌, ℕ, zero, suc, ◌+◌, ◌-◌, ◌*◌, ◌^◌, Bool, true, false, cond, ◌&&◌, ltb, refl, ap, ◌∙◌, true≢false}
use mathlib.Core.Bool.{false≢true, beq}
use lib.Ieee.{Float, nan, inf, fin, Format, prec, emax, low, up, down, odd, units, round, sum, add, mul, is_nan}
use lib.Ieee.Fits.{round_is}
use Rattle.arithmetic.specs.Basic.{is_finite, negative}

pub chosen_number : (b : Bool) (x y : Float) → is_nan x ≡ false → is_nan y ≡ false → is_nan (cond b x y) ≡ false
chosen_number true x y p q = p
chosen_number false x y p q = q

odd_number : (d : ℕ) (s : Bool) (q k l : ℕ) → is_nan (odd d s q k l) ≡ false
unfolding odd is_nan
odd_number d s zero k l = refl
odd_number d s (suc q) k l = refl

units_number : (f : Format) (s : Bool) (q k : ℕ) → is_nan (units f s q k) ≡ false
unfolding units is_nan
units_number f s q k = chosen_number (ltb (q * 2 ^ k) (2 ^ (low f + suc (emax f)))) (odd (suc (prec f)) s q k (low f)) (inf s)
    (odd_number (suc (prec f)) s q k (low f)) refl

pub round_number : (f : Format) (s : Bool) (num den : ℕ) → is_nan (round f s num den) ≡ false
round_number f s num den = ap is_nan (round_is f s num den) ∙ units_number f s _ _

pub sum_number : (f : Format) (s : Bool) (a : ℕ) (t : Bool) (b c : ℕ) → is_nan (sum f s a t b c) ≡ false
unfolding sum
sum_number f s a t b c =
    chosen_number (beq s t) _ _ (round_number f s (a + b) c)
    (chosen_number (ltb a b) _ _ (round_number f t (b - a) c) (round_number f (s && ltb b a) (a - b) c))

-- ---- squares, and sums of what is not negative
pub square_number : (f : Format) (x : Float) → is_finite x ≡ true → is_nan (mul f x x) ≡ false
unfolding mul is_finite
square_number f nan h = absurd (false≢true h)
square_number f (inf s) h = absurd (false≢true h)
square_number f (fin s m e) h = round_number f _ _ _

pub positive_sum_number : (f : Format) (x y : Float) → negative x ≡ false → negative y ≡ false → is_nan x ≡ false → is_nan y ≡ false
    → is_nan
    (add f x y) ≡ false
unfolding add negative is_nan
positive_sum_number f nan y p q h k = absurd (true≢false h)
positive_sum_number f (inf true) y p q h k = absurd (true≢false p)
positive_sum_number f (inf false) nan p q h k = absurd (true≢false k)
positive_sum_number f (inf false) (inf true) p q h k = absurd (true≢false q)
positive_sum_number f (inf false) (inf false) p q h k = refl
positive_sum_number f (inf false) (fin t n d) p q h k = refl
positive_sum_number f (fin s m e) nan p q h k = absurd (true≢false k)
positive_sum_number f (fin s m e) (inf t) p q h k = refl
positive_sum_number f (fin s m e) (fin t n d) p q h k = sum_number f s (m * up e * down d) t (n * up d * down e) (down e * down d)

-- ---- what is past every number stays so
pub data Unbounded : Float → Type 0 where
  no_number : Unbounded nan
  infinite : Unbounded (inf false)

pub square_unbounded : (f : Format) (x : Float) → is_finite x ≡ false → Unbounded (mul f x x)
unfolding mul is_finite
square_unbounded f nan h = no_number
square_unbounded f (inf true) h = infinite
square_unbounded f (inf false) h = infinite
square_unbounded f (fin s m e) h = absurd (true≢false h)

pub unbounded_sum : (f : Format) (x y : Float) → Unbounded x → negative y ≡ false → Unbounded (add f x y)
unfolding add negative
unbounded_sum f nan y no_number q = no_number
unbounded_sum f (inf false) nan infinite q = no_number
unbounded_sum f (inf false) (inf true) infinite q = absurd (true≢false q)
unbounded_sum f (inf false) (inf false) infinite q = infinite
unbounded_sum f (inf false) (fin t n d) infinite q = infinite
unbounded_sum f (inf true) y x5 q = elim x5 [ ]
unbounded_sum f (fin _ _ _) y x7 q = elim x7 [ ]

pub sum_unbounded : (f : Format) (x y : Float) → negative x ≡ false → Unbounded y → Unbounded (add f x y)
unfolding add negative
sum_unbounded f nan y p u = no_number
sum_unbounded f (inf true) y p u = absurd (true≢false p)
sum_unbounded f (inf false) nan p no_number = no_number
sum_unbounded f (inf false) (inf false) p infinite = infinite
sum_unbounded f (fin s m e) nan p no_number = no_number
sum_unbounded f (fin s m e) (inf false) p infinite = infinite
sum_unbounded f (inf false) (inf true) p u = elim u [ ]
sum_unbounded f (inf false) (fin _ _ _) p u = elim u [ ]
sum_unbounded f (fin s m e) (inf true) p u = elim u [ ]
sum_unbounded f (fin s m e) (fin _ _ _) p u = elim u [ ]
