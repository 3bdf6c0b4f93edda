-- The width of the drill's box beyond its axis: the radius and a unit. Assumes nothing.
use Rattle.std.proofs.Common.{◌≡◌, ℕ, ◌+◌, ℤ, pos, ◌+ℤ◌, sym, refl, ap, ◌∙◌, subst, lit≤, w64, SFits}
use Rattle.wide_integers.specs.Sizes.{Sized}
use Rattle.wide_integers.proofs.Reading.{bits, plain, widen, sum_size, add-fits, add_read}

one : Sized 1 (pos 1)
one = record { size = lit≤ {m = 1} {n = 1} tt }

module _ {r : ℤ} (h : Sized 4194304 r) where
  pub width_fits : SFits w64 (bits r +ℤ pos 1)
  width_fits = add-fits {Y = pos 1} (plain (widen h (lit≤ tt))) refl (widen h (lit≤ tt)) (widen one (lit≤ tt))

  pub width_read : bits (bits r +ℤ pos 1) ≡ r +ℤ pos 1
  width_read = add_read {Y = pos 1} (plain (widen h (lit≤ tt))) refl (widen h (lit≤ tt)) (widen one (lit≤ tt))

  pub width_small : Sized 4194305 (bits (bits r +ℤ pos 1))
  width_small = subst (Sized 4194305) (sym width_read) (sum_size h one)

  pub width_is : (ρ : ℕ) → r ≡ pos ρ → bits (bits r +ℤ pos 1) ≡ pos (ρ + 1)
  width_is ρ e = width_read ∙ ap (λ (z : ℤ). z +ℤ pos 1) e
