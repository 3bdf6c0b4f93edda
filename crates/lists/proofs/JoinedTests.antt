-- Joined tests: where two, three or four pass, which of them fails, and what a test of a call's denied answer says. Assumes nothing.
use mathlib.Core.Path.{◌≡◌, refl, sym, ap, ◌∙◌}
use mathlib.Core.Bool.{Bool, true, false, ◌&&◌, ◌||◌, true≢false, false≢true}

pub and_both : (a b : Bool) → a ≡ true → b ≡ true → (a && b) ≡ true
and_both true b p q = q
and_both false b p q = p

pub and_first : (a b : Bool) → (a && b) ≡ true → a ≡ true
and_first true b h = refl
and_first false b h = h

pub and_second : (a b : Bool) → (a && b) ≡ true → b ≡ true
and_second true b h = h
and_second false b h = absurd (false≢true h)

pub and_three : (a b c : Bool) → a ≡ true → b ≡ true → c ≡ true → (a && (b && c)) ≡ true
and_three a b c p q r = and_both a (b && c) p (and_both b c q r)

pub and_parts : (a b : Bool) → (a && b) ≡ true → (a ≡ true) × (b ≡ true)
and_parts a b h = (and_first a b h, and_second a b h)

-- ---- one fails
pub and_not_first : (a b : Bool) → a ≡ false → (a && b) ≡ false
and_not_first a b h = ap (λ (c : Bool). c && b) h

pub and_not_second : (a b : Bool) → b ≡ false → (a && b) ≡ false
and_not_second true b h = h
and_not_second false b h = refl

-- the first of four that fails, and the last that tells
pub first_fails : (p q r s : Bool) → p ≡ false → false ≡ (p && (q && (r && s)))
first_fails p q r s e = ap (λ (b : Bool). b && (q && (r && s))) (sym e)

pub second_fails : (p q r s : Bool) → p ≡ true → q ≡ false → false ≡ (p && (q && (r && s)))
second_fails p q r s e f = ap (λ (b : Bool). b && (r && s)) (sym f) ∙ ap (λ (b : Bool). b && (q && (r && s))) (sym e)

pub third_fails : (p q r s : Bool) → p ≡ true → q ≡ true → r ≡ false → false ≡ (p && (q && (r && s)))
third_fails p q r s e f g =
    ap (λ (b : Bool). b && s) (sym g) ∙ ap (λ (b : Bool). b && (r && s)) (sym f) ∙ ap (λ (b : Bool). b && (q && (r && s))) (sym e)

-- ---- one of two
pub or_first : (a b : Bool) → a ≡ true → (a || b) ≡ true
or_first a b h = ap (λ (c : Bool). c || b) h

pub or_second : (a b : Bool) → b ≡ true → (a || b) ≡ true
or_second true b h = refl
or_second false b h = h

pub neither_first : (a b : Bool) → (a || b) ≡ false → a ≡ false
neither_first true b h = h
neither_first false b h = refl

pub neither_second : (a b : Bool) → (a || b) ≡ false → b ≡ false
neither_second true b h = absurd (true≢false h)
neither_second false b h = h

-- ---- two tests that pass alike are equal
pub alike : (a b : Bool) → (a ≡ true → b ≡ true) → (b ≡ true → a ≡ true) → a ≡ b
alike true b f g = sym (f refl)
alike false true f g = g refl
alike false false f g = refl

-- ---- a test `if !f(..)` that was passed, or taken: what f says
pub test_passed : {r b : Bool} → r ≡ b → r ≡ true → b ≡ true
test_passed told taken = sym told ∙ taken

pub test_failed : {r b : Bool} → r ≡ b → r ≡ false → b ≡ false
test_failed told left = sym told ∙ left
