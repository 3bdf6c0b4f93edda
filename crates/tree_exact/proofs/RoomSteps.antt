-- The steps of the code's test of a room, on numbers as the machine reads them back. Assumes nothing.
use Prim.Native.Nat.{ℕ}
use mathlib.Core.Path.{◌≡◌, sym, ap, ◌∙◌, subst}
use mathlib.Core.Bool.{Bool, true, false, ◌&&◌, cond}
use lib.Dec.{lit≤}
use lib.IntN.{ℤ, pos, ◌-ℤ◌, ◌*ℤ◌}
use lib.Signed.{lt_z, le_z}
use mir.Syntax.{w64}
use mir.Val.{SFits}
use Rattle.wide_integers.specs.Sizes.{Sized}
use Rattle.wide_integers.proofs.Reading.{bits, fits, plain, widen, product_size, difference_size}
use Rattle.exact_triangle.specs.Box.{lesser, greater}
use Rattle.lists.proofs.JoinedTests.{test_passed, test_failed}
use Rattle.tree_exact.specs.Room.{multiple, difference, holds_zero, reaches, SideSized, MultipleSized, DifferenceSized}
use Rattle.tree_exact.specs.declared.room.Span.{Span}

-- ---- a product
module _ {x d : ℤ} (h : Sized 536870912 x) (g : Sized 2147483648 d) where
  pub product_sized : Sized 1152921504606846976 (x *ℤ d)
  product_sized = widen (product_size h g) (lit≤ tt)

  both_plain : bits x *ℤ bits d ≡ x *ℤ d
  both_plain = λ i. plain (widen h (lit≤ tt)) i *ℤ plain (widen g (lit≤ tt)) i

  pub product_fits : SFits w64 (bits x *ℤ bits d)
  product_fits = subst (SFits w64) (sym both_plain) (fits (widen product_sized (lit≤ tt)))

  pub product_plain : bits (bits x *ℤ bits d) ≡ x *ℤ d
  product_plain = ap bits both_plain ∙ plain (widen product_sized (lit≤ tt))

-- ---- a difference
module _ {x y : ℤ} (h : Sized 1152921504606846976 x) (g : Sized 1152921504606846976 y) where
  pub difference_sized : Sized 2305843009213693952 (x -ℤ y)
  difference_sized = widen (difference_size h g) (lit≤ tt)

  either_plain : bits x -ℤ bits y ≡ x -ℤ y
  either_plain = λ i. plain (widen h (lit≤ tt)) i -ℤ plain (widen g (lit≤ tt)) i

  pub difference_fits : SFits w64 (bits x -ℤ bits y)
  difference_fits = subst (SFits w64) (sym either_plain) (fits (widen difference_sized (lit≤ tt)))

  pub difference_plain : bits (bits x -ℤ bits y) ≡ x -ℤ y
  difference_plain = ap bits either_plain ∙ plain (widen difference_sized (lit≤ tt))

-- ---- the lesser and the greater
pub at_most_read : {X Y x y : ℤ} {b : Bool} → X ≡ x → Y ≡ y → le_z X Y ≡ b → le_z x y ≡ b
at_most_read e d h = (λ i. le_z (sym e i) (sym d i)) ∙ h

pub in_order : {X Y x y : ℤ} → X ≡ x → Y ≡ y → le_z X Y ≡ true
    → ◌≡◌ {A = Span} (record { low = X; high = Y }) (record { low = lesser x y; high = greater x y })
in_order {x = x} {y = y} e d h =
    (λ i. record { low = e i; high = d i })
    ∙ sym (ap (λ (b : Bool). record { low = cond b x y; high = cond b y x }) (at_most_read e d h))

pub heading_sized : {X Y x y : ℤ} → X ≡ x → Y ≡ y → le_z X Y ≡ false
    → ◌≡◌ {A = Span} (record { low = Y; high = X }) (record { low = lesser x y; high = greater x y })
heading_sized {x = x} {y = y} e d h =
    (λ i. record { low = d i; high = e i })
    ∙ sym (ap (λ (b : Bool). record { low = cond b x y; high = cond b y x }) (at_most_read e d h))

-- ---- sizes
chosen : (P : ℤ → Type 0) (b : Bool) (x y : ℤ) → P x → P y → P (cond b x y)
chosen P true x y p q = p
chosen P false x y p q = q

pub multiple_sized : (d : ℤ) (s : Span) → SideSized s → Sized 2147483648 d → MultipleSized (multiple d s)
multiple_sized d s h g =
    let x = s.low *ℤ d in
    let y = s.high *ℤ d in
    let p : Sized 1152921504606846976 x = product_sized h.low g in
    let q : Sized 1152921504606846976 y = product_sized h.high g in
    record { low = chosen (Sized 1152921504606846976) (le_z x y) x y p q; high = chosen (Sized 1152921504606846976) (le_z x y) y x q p }

pub minus_sized : (s r : Span) → MultipleSized s → MultipleSized r → DifferenceSized (difference s r)
minus_sized s r h g = record { low = difference_sized h.low g.high; high = difference_sized h.high g.low }

-- ---- the tests
pub zero_inside : (s : Span) {X Y : ℤ} → X ≡ s.low → Y ≡ s.high → le_z X (pos 0) ≡ true → le_z (pos 0) Y ≡ holds_zero s
zero_inside s e d h =
    ap (le_z (pos 0)) d ∙ sym (ap (λ (b : Bool). b && le_z (pos 0) s.high) (ap (λ (z : ℤ). le_z z (pos 0)) (sym e) ∙ h))

pub zero_above : (s : Span) {X : ℤ} → X ≡ s.low → le_z X (pos 0) ≡ false → false ≡ holds_zero s
zero_above s e h = sym (ap (λ (b : Bool). b && le_z (pos 0) s.high) (ap (λ (z : ℤ). le_z z (pos 0)) (sym e) ∙ h))

-- ---- what the calls known, with a factor as it is read back
pub sized_read : {A : ℕ} {X x : ℤ} → X ≡ x → Sized A x → Sized A X
sized_read {A} e h = subst (Sized A) (sym e) h

module _ (s : Span) (d : ℤ) {r : Span} {D : ℤ} (e : r ≡ multiple D s) (p : D ≡ d) where
  pub multiple_is : r ≡ multiple d s
  multiple_is = e ∙ ap (λ (z : ℤ). multiple z s) p

  pub multiple_small : SideSized s → Sized 2147483648 d → MultipleSized r
  multiple_small h g = subst MultipleSized (sym multiple_is) (multiple_sized d s h g)

pub difference_small : {q : Span} (s r : Span) → q ≡ difference s r → MultipleSized s → MultipleSized r → DifferenceSized q
difference_small s r e h g = subst DifferenceSized (sym e) (minus_sized s r h g)

pub side_is : {b : Bool} (q p r s t : Span) (d e : ℤ) → b ≡ holds_zero q → q ≡ difference p r → p ≡ multiple d s
    → r ≡ multiple e t → b ≡ holds_zero (difference (multiple d s) (multiple e t))
side_is q p r s t d e h g x y = h ∙ ap holds_zero (g ∙ (λ i. difference (x i) (y i)))

-- ---- a depth
module _ (s : Span) (d near past : ℤ) {m : Span} {D N P : ℤ} (known : m ≡ multiple D s) (p : D ≡ d) (h : SideSized s)
    (g : Sized 2147483648 d) (n : N ≡ near) (q : P ≡ past) where
  small : MultipleSized m
  small = multiple_small s d known p h g

  high_is : bits m.high ≡ (multiple d s).high
  high_is = plain (widen small.high (lit≤ tt)) ∙ ap (λ (z : Span). z.high) (multiple_is s d known p)

  low_is : bits m.low ≡ (multiple d s).low
  low_is = plain (widen small.low (lit≤ tt)) ∙ ap (λ (z : Span). z.low) (multiple_is s d known p)

  pub near_reached : le_z N (bits m.high) ≡ true → lt_z (bits m.low) P ≡ reaches near past (multiple d s)
  near_reached t =
      (λ i. lt_z (low_is i) (q i))
      ∙ sym (ap (λ (b : Bool). b && lt_z (multiple d s).low past) (at_most_read n high_is t))

  pub near_missed : le_z N (bits m.high) ≡ false → false ≡ reaches near past (multiple d s)
  near_missed t = sym (ap (λ (b : Bool). b && lt_z (multiple d s).low past) (at_most_read n high_is t))

-- ---- all tests
pub first_fails : {a b : Bool} (c d : Bool) → a ≡ b → a ≡ false → false ≡ (b && (c && d))
first_fails c d e h = sym (ap (λ (x : Bool). x && (c && d)) (test_failed e h))

pub second_fails : {a b p q : Bool} (d : Bool) → a ≡ b → a ≡ true → p ≡ q → p ≡ false → false ≡ (b && (q && d))
second_fails d e h f k = sym (λ i. test_passed e h i && (test_failed f k i && d))

pub last_decides : {a b p q r s : Bool} → a ≡ b → a ≡ true → p ≡ q → p ≡ true → r ≡ s → r ≡ (b && (q && s))
last_decides {s = s} e h f k g = g ∙ sym (λ i. test_passed e h i && (test_passed f k i && s))

pub side_plain : {b : Bool} (s t : Span) {d e D E : ℤ} → b ≡ holds_zero (difference (multiple D s) (multiple E t)) → D ≡ d → E ≡ e
    → b ≡ holds_zero (difference (multiple d s) (multiple e t))
side_plain s t h p q = h ∙ (λ i. holds_zero (difference (multiple (p i) s) (multiple (q i) t)))

pub depth_plain : {b : Bool} (s : Span) {d near past D N P : ℤ} → b ≡ reaches N P (multiple D s) → D ≡ d → N ≡ near → P ≡ past
    → b ≡ reaches near past (multiple d s)
depth_plain s h p n q = h ∙ (λ i. reaches (n i) (q i) (multiple (p i) s))
