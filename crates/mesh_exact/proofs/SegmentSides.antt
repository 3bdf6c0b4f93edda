-- The code's sides of the segment's box are the definition's: the floors of the ends, wider by a width, in millimetres. Assumes nothing.
use mathlib.Core.Path.{◌≡◌, refl, sym, ap, ◌∙◌, subst}
use mathlib.Core.Bool.{Bool, true, false, cond}
use Prim.Native.Nat.{ℕ}
use lib.Dec.{lit≤}
use lib.IntN.{ℤ, pos, ◌+ℤ◌, ◌-ℤ◌, ◌*ℤ◌}
use lib.Signed.{lt_z, le_z, shr_z}
use native.Mathlib.Omega.{arith}
use Rattle.std.specs.Int.{int_min, int_max}
use Rattle.std.proofs.lemmas.Int.{ints}
use lib.Ieee.{Float}
use mir.Syntax.{w64}
use mir.Val.{SFits}
use Rattle.wide_integers.specs.Sizes.{Sized}
use Rattle.wide_integers.proofs.Reading.{bits, plain, widen, product_size, sum_size, difference_size, sub-fits, sub_read, add-fits}
use Rattle.wide_integers.proofs.Reading.{add_read, sized_bits}
use Rattle.wide_integers.proofs.Polynomials.{times_comm}
use Rattle.exact_triangle.specs.Line.{parts}
use Rattle.exact_triangle.specs.Box.{lesser, greater}
use Rattle.exact_triangle.proofs.Sides.{floor_size_at}
use Rattle.exact_triangle.proofs.Laws.{fixed_once, times_read}

-- ---- the floor of an end
module _ {o d s : ℤ} (ho : Sized 268435456 o) (hd : Sized 2147483648 d) (hs : Sized 1073741824 s) where
  abbrev end : ℤ
  end = pos parts *ℤ o +ℤ s *ℤ d

  first_read : bits (bits o *ℤ pos 1073741824) ≡ pos parts *ℤ o
  first_read = fixed_once 1073741824 ho (lit≤ tt) (lit≤ tt) ∙ times_comm o (pos parts)

  second_read : bits (bits s *ℤ bits d) ≡ s *ℤ d
  second_read = times_read hs hd (lit≤ tt) (lit≤ tt) (lit≤ tt)

  first_size : Sized 2305843009213693952 (pos parts *ℤ o)
  first_size = widen (product_size {x = pos parts} (record { size = lit≤ {m = parts} {n = parts} tt }) ho) (lit≤ tt)

  second_size : Sized 2305843009213693952 (s *ℤ d)
  second_size = product_size hs hd

  pub end_fits : SFits w64 (bits (bits o *ℤ pos 1073741824) +ℤ bits (bits s *ℤ bits d))
  end_fits = add-fits first_read second_read first_size second_size

  end_read : bits (bits (bits o *ℤ pos 1073741824) +ℤ bits (bits s *ℤ bits d)) ≡ end
  end_read = add_read first_read second_read first_size second_size

  floor_sized : Sized 4294967297 (shr_z end parts)
  floor_sized = floor_size_at o d s ho.size hd.size hs.size

  abbrev shifted : ℤ
  shifted = bits (shr_z (bits (bits (bits o *ℤ pos 1073741824) +ℤ bits (bits s *ℤ bits d))) parts)

  floor_read : shifted ≡ shr_z end parts
  floor_read = ap (λ (z : ℤ). bits (shr_z z parts)) end_read ∙ plain (widen floor_sized (lit≤ tt))

  pub floor_told : (shifted ≡ shr_z end parts) × Sized 4294967297 shifted
  floor_told = (floor_read, subst (Sized 4294967297) (sym floor_read) floor_sized)

  -- of numbers as they come
  pub floor_back : {r : ℤ} → r ≡ shr_z (pos parts *ℤ bits o +ℤ bits s *ℤ bits d) parts → r ≡ shr_z end parts
  floor_back e =
      e ∙ (λ i. shr_z (pos parts *ℤ plain (widen ho (lit≤ tt)) i +ℤ plain (widen hs (lit≤ tt)) i *ℤ plain (widen hd (lit≤ tt)) i) parts)

-- ---- the lesser and the greater of two numbers
pub lesser_is : (x y : ℤ) → int_min x y ≡ lesser x y
lesser_is x y = by (lt_z y x) refl (le_z x y) refl
  where
    by : (t : Bool) → lt_z y x ≡ t → (s : Bool) → le_z x y ≡ s → cond t y x ≡ cond s x y
    by true e true h = absurd (omega (arith, ints))
    by true e false h = refl
    by false e true h = refl
    by false e false h = absurd (omega (arith, ints))

pub greater_is : (x y : ℤ) → int_max x y ≡ greater x y
greater_is x y = by (lt_z y x) refl (le_z x y) refl
  where
    by : (t : Bool) → lt_z y x ≡ t → (s : Bool) → le_z x y ≡ s → cond t x y ≡ cond s y x
    by true e true h = absurd (omega (arith, ints))
    by true e false h = refl
    by false e true h = refl
    by false e false h = absurd (omega (arith, ints))

-- ---- one of two numbers, further by a third
chosen : {B : ℕ} (b : Bool) (x y : ℤ) → Sized B x → Sized B y → Sized B (cond b x y)
chosen true x y p q = p
chosen false x y p q = q

module _ {x y w : ℤ} (hx : Sized 4294967297 x) (hy : Sized 4294967297 y) (hw : Sized 4194305 w) where
  both : (pick : ℤ → ℤ → ℤ) → pick (bits x) (bits y) ≡ pick x y
  both pick = λ i. pick (plain (widen hx (lit≤ tt)) i) (plain (widen hy (lit≤ tt)) i)

  module _ {r : ℤ} (e : r ≡ lesser (bits x) (bits y)) where
    low_size : Sized 4294967297 (lesser x y)
    low_size = chosen (le_z x y) x y hx hy

    low_is : bits r ≡ lesser x y
    low_is = ap (λ (z : ℤ). bits z) (e ∙ both lesser) ∙ plain (widen low_size (lit≤ tt))

    pub low_fits : SFits w64 (bits r -ℤ bits w)
    low_fits = sub-fits low_is (plain (widen hw (lit≤ tt))) (widen low_size (lit≤ tt)) (widen hw (lit≤ tt))

    pub low_read : bits (bits r -ℤ bits w) ≡ lesser x y -ℤ w
    low_read = sub_read low_is (plain (widen hw (lit≤ tt))) (widen low_size (lit≤ tt)) (widen hw (lit≤ tt))

    pub low_small : Sized 4299161602 (bits (bits r -ℤ bits w))
    low_small = subst (Sized 4299161602) (sym low_read) (difference_size low_size hw)

  module _ {r : ℤ} (e : r ≡ greater (bits x) (bits y)) where
    high_size : Sized 4294967297 (greater x y)
    high_size = chosen (le_z x y) y x hy hx

    high_is : bits r ≡ greater x y
    high_is = ap (λ (z : ℤ). bits z) (e ∙ both greater) ∙ plain (widen high_size (lit≤ tt))

    pub high_fits : SFits w64 (bits r +ℤ bits w)
    high_fits = add-fits high_is (plain (widen hw (lit≤ tt))) (widen high_size (lit≤ tt)) (widen hw (lit≤ tt))

    pub high_read : bits (bits r +ℤ bits w) ≡ greater x y +ℤ w
    high_read = add_read high_is (plain (widen hw (lit≤ tt))) (widen high_size (lit≤ tt)) (widen hw (lit≤ tt))

    pub high_small : Sized 4299161602 (bits (bits r +ℤ bits w))
    high_small = subst (Sized 4299161602) (sym high_read) (sum_size high_size hw)

-- ---- a side of numbers as they come
module _ {o d near far w : ℤ} (ho : Sized 268435456 o) (hd : Sized 2147483648 d) (hn : Sized 1073741824 near) (hf : Sized 1073741824 far)
    (hw : Sized 4194305 w) where
  pub side_asked :
      (Sized 268435456 (bits o) × Sized 2147483648 (bits d))
      × (Sized 1073741824 (bits near) × (Sized 1073741824 (bits far) × Sized 4194305 (bits w)))
  side_asked = (
    (sized_bits ho (lit≤ tt), sized_bits hd (lit≤ tt)),
    (sized_bits hn (lit≤ tt), (sized_bits hf (lit≤ tt), sized_bits hw (lit≤ tt))),
  )

  pub side_told : (side : ℤ → ℤ → ℤ → ℕ → ℕ → Float) {x : Float}
      → ((n f : ℕ) → bits near ≡ pos n → bits far ≡ pos f → x ≡ side (bits w) (bits o) (bits d) n f)
      → (n f : ℕ) → near ≡ pos n → far ≡ pos f → x ≡ side w o d n f
  side_told side told n f e g =
      told n f (plain (widen hn (lit≤ tt)) ∙ e) (plain (widen hf (lit≤ tt)) ∙ g)
      ∙ (λ i. side (plain (widen hw (lit≤ tt)) i) (plain (widen ho (lit≤ tt)) i) (plain (widen hd (lit≤ tt)) i) n f)
