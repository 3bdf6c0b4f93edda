-- The order of floats, for every value: `le` is transitive, total off NaN and the negation of the reversed `lt`; `lt` is irreflexive and
-- transitive, also mixed with `le`; a NaN is below, equal to and at most nothing. Assumes nothing.
use Rattle.std.proofs.Common.{◌≡◌, ◌*◌, Bool, true, false, not, ◌&&◌, ◌||◌, T, sym, refl, ap, ◌∙◌, subst, true≢false, arith, le-ltb, eq-eqb}
use mathlib.Core.Bool.{false≢true, and-false, or-true}
use lib.Ieee.{Float, nan, inf, fin, up, down, lt, le, eq, ne, is_nan}
use lib.Ieee.Fits.{down_pos}
use borrow.Author.Tests.{not-true, not-false}
use Rattle.arithmetic.proofs.SignedOrder.{plus, less, at_most, through, not_below, below_not}

-- ---- NaN
pub lt_nan_false : (x : Float) → lt x nan ≡ false
unfolding lt
lt_nan_false nan = refl
lt_nan_false (inf s) = refl
lt_nan_false (fin s m e) = refl

pub nan_lt_false : (y : Float) → lt nan y ≡ false
unfolding lt
nan_lt_false y = refl

pub le_nan_false : (x : Float) → le x nan ≡ false
unfolding le
le_nan_false nan = refl
le_nan_false (inf s) = refl
le_nan_false (fin s m e) = refl

pub nan_le_false : (y : Float) → le nan y ≡ false
unfolding le
nan_le_false y = refl

pub is_nan_lem : (x : Float) → is_nan x ≡ true → x ≡ nan
unfolding is_nan
is_nan_lem nan h = refl
is_nan_lem (inf s) h = absurd (false≢true h)
is_nan_lem (fin s m e) h = absurd (false≢true h)

-- what is at most a value, or below it, is no NaN, and nor is that value
pub le_left_number : (x y : Float) → le x y ≡ true → is_nan x ≡ false
unfolding is_nan
le_left_number nan y h = absurd (false≢true (sym (nan_le_false y) ∙ h))
le_left_number (inf s) y h = refl
le_left_number (fin s m e) y h = refl

pub le_right_number : (x y : Float) → le x y ≡ true → is_nan y ≡ false
unfolding is_nan
le_right_number x nan h = absurd (false≢true (sym (le_nan_false x) ∙ h))
le_right_number x (inf s) h = refl
le_right_number x (fin s m e) h = refl

-- ---- `le`, `lt` and `eq`
le_is : (x y : Float) → le x y ≡ (lt x y || eq x y)
unfolding le
le_is x y = refl

pub le_of_lt : (x y : Float) → lt x y ≡ true → le x y ≡ true
le_of_lt x y h = le_is x y ∙ ap (λ (b : Bool). b || eq x y) h

pub le_of_eq : (x y : Float) → eq x y ≡ true → le x y ≡ true
le_of_eq x y h = le_is x y ∙ ap (λ (b : Bool). lt x y || b) h ∙ or-true (lt x y)

-- off NaN "at most" is "not above"
pub le_is_not_lt : (x y : Float) → is_nan x ≡ false → is_nan y ≡ false → le x y ≡ not (lt y x)
unfolding le is_nan
le_is_not_lt nan y p q = absurd (true≢false p)
le_is_not_lt (inf s) nan p q = absurd (true≢false q)
le_is_not_lt (inf false) (inf false) p q = refl
le_is_not_lt (inf false) (inf true) p q = refl
le_is_not_lt (inf true) (inf false) p q = refl
le_is_not_lt (inf true) (inf true) p q = refl
le_is_not_lt (inf false) (fin t n d) p q = refl
le_is_not_lt (inf true) (fin t n d) p q = refl
le_is_not_lt (fin s m e) nan p q = absurd (true≢false q)
le_is_not_lt (fin s m e) (inf false) p q = refl
le_is_not_lt (fin s m e) (inf true) p q = refl
le_is_not_lt (fin s m e) (fin t n d) p q = at_most s (m * up e * down d) t (n * up d * down e)

pub le_of_not_lt : (x y : Float) → is_nan x ≡ false → is_nan y ≡ false → lt y x ≡ false → le x y ≡ true
le_of_not_lt x y p q h = le_is_not_lt x y p q ∙ ap not h

pub lt_of_not_le : (x y : Float) → is_nan x ≡ false → is_nan y ≡ false → le y x ≡ false → lt x y ≡ true
lt_of_not_le x y p q h = not-false (lt x y) (sym (le_is_not_lt y x q p) ∙ h)

pub not_lt_of_le : (x y : Float) → le x y ≡ true → lt y x ≡ false
not_lt_of_le x y h = not-true (lt y x) (sym (le_is_not_lt x y (le_left_number x y h) (le_right_number x y h)) ∙ h)

-- the two values are equal numbers
pub eq_of_le_le : (x y : Float) → le x y ≡ true → le y x ≡ true → eq x y ≡ true
eq_of_le_le x y h k = ap (λ (b : Bool). b || eq x y) (sym (not_lt_of_le y x k)) ∙ sym (le_is x y) ∙ h

-- ---- one value
pub lt_irreflexive : (x : Float) → lt x x ≡ false
unfolding lt
lt_irreflexive nan = refl
lt_irreflexive (inf false) = refl
lt_irreflexive (inf true) = refl
lt_irreflexive (fin false m e) = le-ltb (m * up e * down e) (m * up e * down e) (omega arith)
lt_irreflexive (fin true m e) = le-ltb (m * up e * down e) (m * up e * down e) (omega arith)

pub le_reflexive : (x : Float) → is_nan x ≡ false → le x x ≡ true
le_reflexive x p = le_of_not_lt x x p p (lt_irreflexive x)

-- the test `x != x` in code
pub ne_self_is_nan : (x : Float) → ne x x ≡ is_nan x
unfolding ne is_nan
ne_self_is_nan nan = refl
ne_self_is_nan (inf false) = refl
ne_self_is_nan (inf true) = refl
ne_self_is_nan (fin false m e) = ap (λ (b : Bool). not (b && true)) (eq-eqb (m * up e * down e) (m * up e * down e) refl)
ne_self_is_nan (fin true m e) = ap (λ (b : Bool). not (b && true)) (eq-eqb (m * up e * down e) (m * up e * down e) refl)

pub ne_self_number : (x : Float) → ne x x ≡ false → is_nan x ≡ false
ne_self_number x h = sym (ne_self_is_nan x) ∙ h

pub ne_self_passes : (x : Float) → ne x x ≡ false → T (not (is_nan x))
ne_self_passes x h = subst (λ (b : Bool). T (not b)) (sym (ne_self_number x h)) tt

-- ---- two values
pub lt_asymmetric : (x y : Float) → lt x y ≡ true → lt y x ≡ false
lt_asymmetric x y h = not_lt_of_le x y (le_of_lt x y h)

pub le_total : (x y : Float) → is_nan x ≡ false → is_nan y ≡ false → (le x y || le y x) ≡ true
le_total x y p q = go (lt y x) refl
  where
    go : (b : Bool) → lt y x ≡ b → (le x y || le y x) ≡ true
    go true h = ap (λ (b : Bool). le x y || b) (le_of_lt y x h) ∙ or-true (le x y)
    go false h = ap (λ (b : Bool). b || le y x) (le_of_not_lt x y p q h)

-- ---- three values
-- "not above" is transitive among numbers
not_lt_transitive : (x y z : Float) → is_nan x ≡ false → is_nan y ≡ false → is_nan z ≡ false → lt y x ≡ false → lt z y ≡ false → lt z x
    ≡ false
unfolding lt is_nan
not_lt_transitive nan y z p q r h k = absurd (true≢false p)
not_lt_transitive (inf true) y nan p q r h k = refl
not_lt_transitive (inf true) y (inf u) p q r h k = and-false u
not_lt_transitive (inf true) y (fin u o c) p q r h k = refl
not_lt_transitive (inf false) nan z p q r h k = absurd (true≢false q)
not_lt_transitive (inf false) (inf true) z p q r h k = absurd (true≢false h)
not_lt_transitive (inf false) (inf false) z p q r h k = k
not_lt_transitive (inf false) (fin t n d) z p q r h k = absurd (true≢false h)
not_lt_transitive (fin s m e) nan z p q r h k = absurd (true≢false q)
not_lt_transitive (fin s m e) (inf true) z p q r h k = absurd (true≢false h)
not_lt_transitive (fin s m e) (inf false) nan p q r h k = refl
not_lt_transitive (fin s m e) (inf false) (inf u) p q r h k = sym (both u) ∙ k
  where
    both : (b : Bool) → (b && true) ≡ b
    both true = refl
    both false = refl
not_lt_transitive (fin s m e) (inf false) (fin u o c) p q r h k = absurd (true≢false k)
not_lt_transitive (fin s m e) (fin t n d) nan p q r h k = refl
not_lt_transitive (fin s m e) (fin t n d) (inf u) p q r h k = k
not_lt_transitive (fin s m e) (fin t n d) (fin u o c) p q r h k =
    below_not u (o * up c) (down c) s (m * up e) (down e)
    (through (plus s (m * up e)) (less s (m * up e)) (plus t (n * up d)) (less t (n * up d)) (plus u (o * up c)) (less u (o * up c))
    (down e) (down d) (down c) (down_pos d)
    (not_below t (n * up d) (down d) s (m * up e) (down e) h)
    (not_below u (o * up c) (down c) t (n * up d) (down d) k))

pub le_transitive : (x y z : Float) → le x y ≡ true → le y z ≡ true → le x z ≡ true
le_transitive x y z h k =
    let p = le_left_number x y h in
    let q = le_right_number x y h in
    let r = le_right_number y z k in
    le_of_not_lt x z p r (not_lt_transitive x y z p q r (not_lt_of_le x y h) (not_lt_of_le y z k))

-- if z were not above x, y would be at most x
pub lt_of_lt_le : (x y z : Float) → lt x y ≡ true → le y z ≡ true → lt x z ≡ true
lt_of_lt_le x y z h k = go (lt x z) refl
  where
    go : (b : Bool) → lt x z ≡ b → lt x z ≡ true
    go true e = e
    go false e = absurd (true≢false (sym h ∙ not_lt_of_le y x (le_transitive y z x k (le_of_not_lt z x (le_right_number y z k)
        (le_left_number x y (le_of_lt x y h)) e))))

pub lt_of_le_lt : (x y z : Float) → le x y ≡ true → lt y z ≡ true → lt x z ≡ true
lt_of_le_lt x y z h k = go (lt x z) refl
  where
    go : (b : Bool) → lt x z ≡ b → lt x z ≡ true
    go true e = e
    go false e = absurd (true≢false (sym k ∙ not_lt_of_le z y (le_transitive z x y (le_of_not_lt z x (le_right_number y z (le_of_lt y z k))
        (le_left_number x y h) e) h)))

pub lt_transitive : (x y z : Float) → lt x y ≡ true → lt y z ≡ true → lt x z ≡ true
lt_transitive x y z h k = lt_of_lt_le x y z h (le_of_lt y z k)
