-- Whole numbers as the code's words hold them. Assumes nothing.
use mathlib.Core.Path.{◌≡◌, refl, sym, ap, ◌∙◌, subst}
use mathlib.Core.Bool.{Bool, true, false, not, ◌&&◌, ◌||◌}
use Prim.Native.Nat.{ℕ, ◌+◌, ◌*◌, ◌^◌, ◌≤◌, ◌<◌}
use native.Mathlib.Nat.{lt_of_le_of_lt}
use native.Mathlib.Omega.{arith}
use lib.Dec.{lit≤}
use lib.IntN.{ℤ, pos, negsuc, nat_abs, ◌+ℤ◌, ◌-ℤ◌, ◌*ℤ◌}
use lib.Signed.{mag, lt_z, le_z}
use mir.Syntax.{w64}
use mir.Val.{SFits}
use Rattle.wide_integers.specs.Sizes.{Sized}
use Rattle.wide_integers.specs.Value.{base, zero_at, FitsWide, Middling}
use Rattle.wide_integers.proofs.OperationLaws.{held, middling, at_most_told}
use Rattle.wide_integers.specs.LongValue.{long_zero, FitsLong}
use Rattle.wide_integers.proofs.Reading.{bits, bits_back, widen, product_size, sum_size, difference_size}
use Rattle.wide_integers.proofs.Reading.{sub-fits, sub_read, add-fits, add_read}
use Rattle.exact_triangle.proofs.Laws.{times_read}
use Rattle.exact_depth.specs.declared.projection.Point.{Point}
use Rattle.exact_triangle.specs.Sizes.{SizedAt}
use Rattle.drill.specs.Drill.{dot}

-- a d - b c of numbers as they come
module _ {a b c d : ℤ} (ha : Sized (2 ^ 29) a) (hb : Sized (2 ^ 29) b) (hc : Sized (2 ^ 31) c) (hd : Sized (2 ^ 31) d) where
  pub minor_fits : SFits w64 (bits (bits a *ℤ bits d) -ℤ bits (bits b *ℤ bits c))
  minor_fits =
      sub-fits (times_read ha hd (lit≤ tt) (lit≤ tt) (lit≤ tt)) (times_read hb hc (lit≤ tt) (lit≤ tt) (lit≤ tt))
      (widen (product_size ha hd) (lit≤ tt)) (widen (product_size hb hc) (lit≤ tt))

  pub minor_is : bits (bits (bits a *ℤ bits d) -ℤ bits (bits b *ℤ bits c)) ≡ a *ℤ d -ℤ b *ℤ c
  minor_is =
      sub_read (times_read ha hd (lit≤ tt) (lit≤ tt) (lit≤ tt)) (times_read hb hc (lit≤ tt) (lit≤ tt) (lit≤ tt))
      (widen (product_size ha hd) (lit≤ tt)) (widen (product_size hb hc) (lit≤ tt))

  pub minor_sized : Sized (2 ^ 61) (bits (bits (bits a *ℤ bits d) -ℤ bits (bits b *ℤ bits c)))
  minor_sized = subst (Sized (2 ^ 61)) (sym minor_is) (difference_size (product_size ha hd) (product_size hb hc))

-- a b + c d + e f of numbers as they come
module _ {a b c d e f : ℤ} (ha : Sized (2 ^ 29) a) (hb : Sized (2 ^ 31) b) (hc : Sized (2 ^ 29) c) (hd : Sized (2 ^ 31) d)
    (he : Sized (2 ^ 29) e) (hf : Sized (2 ^ 31) f) where
  pub two_fit : SFits w64 (bits (bits a *ℤ bits b) +ℤ bits (bits c *ℤ bits d))
  two_fit =
      add-fits (times_read ha hb (lit≤ tt) (lit≤ tt) (lit≤ tt)) (times_read hc hd (lit≤ tt) (lit≤ tt) (lit≤ tt))
      (widen (product_size ha hb) (lit≤ tt)) (widen (product_size hc hd) (lit≤ tt))

  two_is : bits (bits (bits a *ℤ bits b) +ℤ bits (bits c *ℤ bits d)) ≡ a *ℤ b +ℤ c *ℤ d
  two_is =
      add_read (times_read ha hb (lit≤ tt) (lit≤ tt) (lit≤ tt)) (times_read hc hd (lit≤ tt) (lit≤ tt) (lit≤ tt))
      (widen (product_size ha hb) (lit≤ tt)) (widen (product_size hc hd) (lit≤ tt))

  pub three_fit : SFits w64 (bits (bits (bits a *ℤ bits b) +ℤ bits (bits c *ℤ bits d)) +ℤ bits (bits e *ℤ bits f))
  three_fit =
      add-fits two_is (times_read he hf (lit≤ tt) (lit≤ tt) (lit≤ tt))
      (widen (sum_size (product_size ha hb) (product_size hc hd)) (lit≤ tt))
      (widen (product_size he hf) (lit≤ tt))

  pub three_is : bits (bits (bits (bits a *ℤ bits b) +ℤ bits (bits c *ℤ bits d)) +ℤ bits (bits e *ℤ bits f))
      ≡ a *ℤ b +ℤ c *ℤ d +ℤ e *ℤ f
  three_is =
      add_read two_is (times_read he hf (lit≤ tt) (lit≤ tt) (lit≤ tt))
      (widen (sum_size (product_size ha hb) (product_size hc hd)) (lit≤ tt))
      (widen (product_size he hf) (lit≤ tt))

  three_size : Sized (3 * 2 ^ 60) (a *ℤ b +ℤ c *ℤ d +ℤ e *ℤ f)
  three_size = widen (sum_size (sum_size (product_size ha hb) (product_size hc hd)) (product_size he hf)) (lit≤ tt)

  pub three_sized : Sized (3 * 2 ^ 60)
      (bits (bits (bits (bits a *ℤ bits b) +ℤ bits (bits c *ℤ bits d)) +ℤ bits (bits e *ℤ bits f)))
  three_sized = subst (Sized (3 * 2 ^ 60)) (sym three_is) three_size

-- ---- numbers of three and of six words
pub sized_as : {B : ℕ} {x z : ℤ} → x ≡ z → Sized B z → Sized B x
sized_as {B} e s = subst (Sized B) (sym e) s

pub fits_wide : {B : ℕ} {x z : ℤ} → x ≡ z → Sized B z → B < zero_at → FitsWide x
fits_wide e s l = subst FitsWide (sym e) (held s l)

pub fits_long : {B : ℕ} {x z : ℤ} → x ≡ z → Sized B z → B < long_zero → FitsLong x
fits_long e s l = subst FitsLong (sym e) (record { size = lt_of_le_of_lt s.size l })

pub middling_as : {B : ℕ} {x z : ℤ} → x ≡ z → Sized B z → B < base * base → Middling x
middling_as e s l = subst Middling (sym e) (middling s l)

-- a product with a word, as the call gives it
pub word_times : (a : ℤ) {v x : ℤ} → SFits w64 x → v ≡ a *ℤ bits x → v ≡ a *ℤ x
word_times a f e = e ∙ ap (λ (z : ℤ). a *ℤ z) (bits_back f)

-- f w - g v, as the calls give it
pub blend_as : (f g : ℤ) {r w v : ℤ} → SFits w64 w → SFits w64 v → r ≡ f *ℤ bits w -ℤ g *ℤ bits v → r ≡ f *ℤ w -ℤ g *ℤ v
blend_as f g a b e = e ∙ (λ i. f *ℤ bits_back a i -ℤ g *ℤ bits_back b i)

-- ---- joined tests
pub and_off : {a : Bool} (b : Bool) → a ≡ false → false ≡ (a && b)
and_off b h = sym (ap (λ (x : Bool). x && b) h)

pub and_on : {a b s : Bool} → a ≡ true → s ≡ b → s ≡ (a && b)
and_on {b = b} h e = e ∙ sym (ap (λ (x : Bool). x && b) h)

pub or_hit : {a : Bool} (b : Bool) → a ≡ true → true ≡ (a || b)
or_hit b h = sym (ap (λ (x : Bool). x || b) h)

pub or_miss : {a b s : Bool} → a ≡ false → s ≡ b → s ≡ (a || b)
or_miss {b = b} h e = e ∙ sym (ap (λ (x : Bool). x || b) h)

-- a joined test, by its first part, which is p, and its second, where it is asked
pub or_taken : {v u p : Bool} (q : Bool) → u ≡ p → v ≡ u → u ≡ true → v ≡ (p || q)
or_taken q e f h = f ∙ h ∙ or_hit q (sym e ∙ h)

pub or_passed : {v u p q : Bool} → u ≡ p → u ≡ false → v ≡ q → v ≡ (p || q)
or_passed e h f = or_miss (sym e ∙ h) f

-- tests joined from the left
pub or_nested : (p q r : Bool) → ((p || q) || r) ≡ (p || (q || r))
or_nested true q r = refl
or_nested false q r = refl

-- a test and what `not` says of it
pub not_true : {r : Bool} → not r ≡ true → r ≡ false
not_true {r = true} h = sym h
not_true {r = false} h = refl

pub not_false : {r : Bool} → not r ≡ false → r ≡ true
not_false {r = true} h = refl
not_false {r = false} h = sym h

pub negative_off : {r : Bool} (z : ℤ) → r ≡ lt_z z (pos 0) → r ≡ true → le_z (pos 0) z ≡ false
negative_off z e h = sym (at_most_told (pos 0) z) ∙ ap not (sym e ∙ h)

pub negative_on : {r : Bool} (z : ℤ) → r ≡ lt_z z (pos 0) → r ≡ false → le_z (pos 0) z ≡ true
negative_on z e h = sym (at_most_told (pos 0) z) ∙ ap not (sym e ∙ h)

pub dot_size : {A B : ℕ} {p q : Point} → SizedAt A p → SizedAt B q → Sized (A * B + A * B + A * B) (dot p q)
dot_size h g = sum_size (sum_size (product_size h.x g.x) (product_size h.y g.y)) (product_size h.z g.z)

-- ---- differences up to 2^63
mag_le : (z : ℤ) → mag z ≤ nat_abs z
mag_le (pos n) = omega arith
mag_le (negsuc n) = omega arith

pub word_fits : {B : ℕ} {z : ℤ} → Sized B z → B ≤ 9223372036854775807 → SFits w64 z
word_fits {B} {z} h l =
    let m = mag_le z in
    let n = h.size in
    record { sfits = omega (arith, m, n, l) }

module _ {A B : ℕ} {a b : ℤ} (h : Sized A a) (g : Sized B b) (k : A ≤ 9223372036854775807) (l : B ≤ 9223372036854775807)
    (m : A + B ≤ 9223372036854775807) where
  as_come : bits a -ℤ bits b ≡ a -ℤ b
  as_come = λ i. bits_back (word_fits h k) i -ℤ bits_back (word_fits g l) i

  pub apart_fits : SFits w64 (bits a -ℤ bits b)
  apart_fits = subst (SFits w64) (sym as_come) (word_fits (difference_size h g) m)

  pub apart_read : bits (bits a -ℤ bits b) ≡ a -ℤ b
  apart_read = ap (λ (z : ℤ). bits z) as_come ∙ bits_back (word_fits (difference_size h g) m)
