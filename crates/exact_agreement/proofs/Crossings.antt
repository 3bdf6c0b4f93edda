-- One component of a point of the segment in a closed triangle: on the grid, by the corners' weights, and as M-112's crossing in
-- millimetres. Assumes nothing.
use Prim.Native.Nat.{ℕ, ◌+◌, ◌*◌}
use mathlib.Core.Path.{◌≡◌, sym, ap, ◌∙◌}
use native.Mathlib.Omega.{arith}
use lib.Dec.{lit<}
use lib.IntN.{ℤ, pos, ◌+ℤ◌, ◌-ℤ◌, ◌*ℤ◌}
use Rattle.wide_integers.specs.Determinant.{determinant}
use Rattle.exact_depth.specs.Meeting.{mix}
use Rattle.wide_integers.proofs.Integers.{pp, np}
use Rattle.wide_integers.proofs.Polynomials.{Rep, own, own_pos, rep_add, rep_sub, rep_mul, equal, ring}
use Rattle.wide_integers.proofs.Order.{rep_same}
use Rattle.exact_triangle.specs.Line.{parts}
use Rattle.exact_triangle.specs.Grid.{units}
use Rattle.exact_triangle.proofs.Shears.{cancel_left, mix_more}
use Rattle.exact_triangle.proofs.Areas.{zero_of_product}

-- ---- i (a - o) + j (b - o) + k (c - o) = t d, and (i + j + k) (o - a) + t d = j (b - a) + k (c - a)
module _ (i j k : ℕ) (A B C O : ℤ) where
  pub mean_rep : Rep (mix i j k (A -ℤ O) (B -ℤ O) (C -ℤ O))
      ((i * (pp A + np O) + 0 * (np A + pp O)) + (j * (pp B + np O) + 0 * (np B + pp O)) + (k * (pp C + np O) + 0 * (np C + pp O)))
      ((i * (np A + pp O) + 0 * (pp A + np O)) + (j * (np B + pp O) + 0 * (pp B + np O)) + (k * (np C + pp O) + 0 * (pp C + np O)))
  mean_rep =
      rep_add
      (rep_add (rep_mul (own_pos i) (rep_sub (own A) (own O))) (rep_mul (own_pos j) (rep_sub (own B) (own O))))
      (rep_mul (own_pos k) (rep_sub (own C) (own O)))

module _ (i j k : ℕ) (A B C O e : ℤ) where
  crossed : mix i j k (A -ℤ O) (B -ℤ O) (C -ℤ O) ≡ e
      → pos (i + j + k) *ℤ (O -ℤ A) +ℤ e ≡ pos j *ℤ (B -ℤ A) +ℤ pos k *ℤ (C -ℤ A)
  crossed h =
      let m = rep_same (mean_rep i j k A B C O) (own e) h in
      equal (rep_add (rep_mul (own_pos (i + j + k)) (rep_sub (own O) (own A))) (own e))
      (rep_add (rep_mul (own_pos j) (rep_sub (own B) (own A))) (rep_mul (own_pos k) (rep_sub (own C) (own A))))
      (omega (arith, m))

  met : pos (i + j + k) *ℤ (O -ℤ A) +ℤ e ≡ pos j *ℤ (B -ℤ A) +ℤ pos k *ℤ (C -ℤ A)
      → mix i j k (A -ℤ O) (B -ℤ O) (C -ℤ O) ≡ e
  met h =
      let m =
      rep_same (rep_add (rep_mul (own_pos (i + j + k)) (rep_sub (own O) (own A))) (own e))
      (rep_add (rep_mul (own_pos j) (rep_sub (own B) (own A))) (rep_mul (own_pos k) (rep_sub (own C) (own A)))) h in
      equal (mean_rep i j k A B C O) (own e) (omega (arith, m))

-- ---- the same in units of the grid
mix_enlarged : (i j k S u a b c o : ℤ)
    → S *ℤ (i *ℤ (u *ℤ a -ℤ u *ℤ o) +ℤ j *ℤ (u *ℤ b -ℤ u *ℤ o) +ℤ k *ℤ (u *ℤ c -ℤ u *ℤ o))
    ≡ S *ℤ (u *ℤ (i *ℤ (a -ℤ o) +ℤ j *ℤ (b -ℤ o) +ℤ k *ℤ (c -ℤ o)))
mix_enlarged i j k S u a b c o = simp ring

pub three : (i j k u : ℕ) → i * u + j * u + k * u ≡ (i + j + k) * u
three i j k u = omega arith

module _ (i j k D : ℕ) (total : i + j + k ≡ D) (a b c o t e : ℤ) where
  abbrev seen : ℤ
  seen = mix i j k (a -ℤ o) (b -ℤ o) (c -ℤ o)

  abbrev on_grid : ℤ
  on_grid = mix i j k (pos units *ℤ a -ℤ pos units *ℤ o) (pos units *ℤ b -ℤ pos units *ℤ o) (pos units *ℤ c -ℤ pos units *ℤ o)

  whole : i * units + j * units + k * units ≡ D * units
  whole = three i j k units ∙ ap (λ (n : ℕ). n * units) total

  -- from t / D units to millimetres
  pub mean_millimetres : pos parts *ℤ on_grid ≡ t *ℤ (pos parts *ℤ e)
      → mix (i * units) (j * units) (k * units) (a -ℤ o) (b -ℤ o) (c -ℤ o) ≡ t *ℤ e
  mean_millimetres h =
      mix_more (pos i) (pos j) (pos k) (a -ℤ o) (b -ℤ o) (c -ℤ o) (pos units)
      ∙ cancel_left parts (pos units *ℤ seen) (t *ℤ e) (lit< tt)
      (sym (mix_enlarged (pos i) (pos j) (pos k) (pos parts) (pos units) a b c o) ∙ h ∙ regroup (pos parts) t e)
    where
      regroup : (S t e : ℤ) → t *ℤ (S *ℤ e) ≡ S *ℤ (t *ℤ e)
      regroup S t e = simp ring

  pub to_millimetres : pos parts *ℤ on_grid ≡ t *ℤ (pos parts *ℤ e)
      → pos (D * units) *ℤ (o -ℤ a) +ℤ t *ℤ e ≡ pos (j * units) *ℤ (b -ℤ a) +ℤ pos (k * units) *ℤ (c -ℤ a)
  to_millimetres h =
      (λ s. pos (sym whole s) *ℤ (o -ℤ a) +ℤ t *ℤ e)
      ∙ crossed (i * units) (j * units) (k * units) a b c o (t *ℤ e) (mean_millimetres h)

  -- from t / D millimetres to units
  pub to_units : pos D *ℤ (o -ℤ a) +ℤ t *ℤ e ≡ pos j *ℤ (b -ℤ a) +ℤ pos k *ℤ (c -ℤ a)
      → pos parts *ℤ on_grid ≡ pos units *ℤ t *ℤ (pos parts *ℤ e)
  to_units h =
      mix_enlarged (pos i) (pos j) (pos k) (pos parts) (pos units) a b c o
      ∙ ap (λ (z : ℤ). pos parts *ℤ (pos units *ℤ z))
      (met i j k a b c o (t *ℤ e) ((λ s. pos (total s) *ℤ (o -ℤ a) +ℤ t *ℤ e) ∙ h))
      ∙ regroup (pos parts) (pos units) t e
    where
      regroup : (S u t e : ℤ) → S *ℤ (u *ℤ (t *ℤ e)) ≡ u *ℤ t *ℤ (S *ℤ e)
      regroup S u t e = simp ring

-- ---- a component of the edges' cross that is 0 on the grid is 0
determinant_times : (k a b c a' b' c' : ℤ)
    → determinant (k *ℤ b -ℤ k *ℤ a) (k *ℤ b' -ℤ k *ℤ a') (k *ℤ c -ℤ k *ℤ a) (k *ℤ c' -ℤ k *ℤ a')
    ≡ k *ℤ (k *ℤ determinant (b -ℤ a) (b' -ℤ a') (c -ℤ a) (c' -ℤ a'))
determinant_times k a b c a' b' c' = simp ring

pub determinant_zero : (a b c a' b' c' : ℤ)
    → determinant (pos units *ℤ b -ℤ pos units *ℤ a) (pos units *ℤ b' -ℤ pos units *ℤ a') (pos units *ℤ c -ℤ pos units *ℤ a)
    (pos units *ℤ c' -ℤ pos units *ℤ a') ≡ pos 0
    → determinant (b -ℤ a) (b' -ℤ a') (c -ℤ a) (c' -ℤ a') ≡ pos 0
determinant_zero a b c a' b' c' h =
    let small = determinant (b -ℤ a) (b' -ℤ a') (c -ℤ a) (c' -ℤ a') in
    zero_of_product (pos units) small (lit< tt)
    (zero_of_product (pos units) (pos units *ℤ small) (lit< tt) (sym (determinant_times (pos units) a b c a' b' c') ∙ h))
