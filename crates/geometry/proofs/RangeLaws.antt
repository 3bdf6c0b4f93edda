-- The range of a ray by three tests: near from 0 to the maximum, and the maximum finite. Assumes nothing.
use mathlib.Core.Path.{◌≡◌, refl, sym, ap}
use mathlib.Core.Bool.{Bool, true, false, not, ◌&&◌, false≢true, true≢false}
use lib.Ieee.{Float, nan, inf, fin, of_bits, lt, le, is_nan}
use Rattle.arithmetic.specs.Basic.{is_finite}
use Rattle.arithmetic.proofs.Order.{le_transitive, not_lt_of_le, lt_of_not_le}
use Rattle.arithmetic.proofs.Numbers.{finite_number}
use Rattle.vectors.specs.Numbers.{zeroᶠ}
use Rattle.geometry.specs.Segment.{range_admitted}
use Rattle.geometry.specs.declared.ray.Ray.{Ray}

-- from 0 to a finite number
finite_between : (x y : Float) → le zeroᶠ x ≡ true → le x y ≡ true → is_finite y ≡ true → is_finite x ≡ true
unfolding is_finite le of_bits
finite_between nan y p q f = absurd (false≢true q)
finite_between (inf false) nan p q f = absurd (false≢true f)
finite_between (inf false) (inf s) p q f = absurd (false≢true f)
finite_between (inf false) (fin s m e) p q f = absurd (false≢true q)
finite_between (inf true) y p q f = absurd (false≢true p)
finite_between (fin s m e) y p q f = refl

-- five joined tests, the last four of which pass
joined : (a b c d e : Bool) → b ≡ false → (a ≡ true → c ≡ true) → d ≡ false → e ≡ false → a ≡ (a && (not b && (c && (not d && not e))))
joined true false c false false p q r s = sym (ap (λ (z : Bool). z && true) (q refl))
joined false b c d e p q r s = refl
joined true true c d e p q r s = absurd (true≢false p)
joined true false c true e p q r s = absurd (true≢false r)
joined true false c false true p q r s = absurd (true≢false s)

-- of five joined tests the fourth or the fifth fails where the first and the third pass
fourth : (a b c d e : Bool) → (c ≡ true → d ≡ true) → false ≡ (a && (not b && (c && (not d && not e))))
fourth false b c d e p = refl
fourth true true c d e p = refl
fourth true false false d e p = refl
fourth true false true d e p = ap (λ (z : Bool). not z && not e) (sym (p refl))

fifth : (a b c d e : Bool) → (a ≡ true → c ≡ true → e ≡ true) → false ≡ (a && (not b && (c && (not d && not e))))
fifth false b c d e p = refl
fifth true true c d e p = refl
fifth true false false d e p = refl
fifth true false true true e p = refl
fifth true false true false e p = ap not (sym (p refl refl))

module _ (r : Ray) where
  abbrev near : Float
  near = r.near

  abbrev most : Float
  most = r.max_distance

  pub in_range_lem : le zeroᶠ near ≡ true → le near most ≡ true → is_finite most ≡ range_admitted r
  in_range_lem p q =
      joined (is_finite most) (lt most zeroᶠ) (is_finite near) (lt near zeroᶠ) (lt most near)
      (not_lt_of_le zeroᶠ most (le_transitive zeroᶠ near most p q))
      (finite_between near most p q)
      (not_lt_of_le zeroᶠ near p)
      (not_lt_of_le near most q)

  pub below_zero : le zeroᶠ near ≡ false → false ≡ range_admitted r
  unfolding is_nan of_bits
  below_zero p =
      fourth (is_finite most) (lt most zeroᶠ) (is_finite near) (lt near zeroᶠ) (lt most near)
      (λ (f : is_finite near ≡ true). lt_of_not_le near zeroᶠ (finite_number near f) refl p)

  pub past_most : le near most ≡ false → false ≡ range_admitted r
  past_most p =
      fifth (is_finite most) (lt most zeroᶠ) (is_finite near) (lt near zeroᶠ) (lt most near)
      (λ (f : is_finite most ≡ true) (g : is_finite near ≡ true). lt_of_not_le most near (finite_number most f) (finite_number near g) p)
