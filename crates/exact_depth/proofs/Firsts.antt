-- What an answer says of the points of the line: a miss has none, a depth is the least. Assumes nothing.
use Rattle.std.specs.Prelude.{Option, Some, None}
use mathlib.Core.Path.{◌≡◌, refl, ap, subst}
use mathlib.Core.Bool.{Bool, true, false, true≢false, false≢true}
use Prim.Native.Nat.{ℕ, ◌+◌, ◌*◌, ◌≤◌, ◌<◌}
use native.Mathlib.Nat.{le_of_mul-le-mul_right, mul-le-mul_right}
use native.Mathlib.Omega.{arith}
use lib.IntN.{ℤ, pos, negsuc, ◌*ℤ◌}
use lib.Signed.{lt_z, le_z}
use Rattle.exact_depth.specs.declared.projection.Projected.{Projected}
use Rattle.exact_depth.specs.declared.projection.Fraction.{Fraction}
use Rattle.exact_depth.specs.Meeting.{On, HasArea, Reached, First}
use Rattle.wide_integers.proofs.Integers.{pp, np}
use Rattle.wide_integers.proofs.Polynomials.{own, rep_mul, own_pos}
use Rattle.wide_integers.proofs.Order.{rep_le, le_rep, rep_lt, rep_nlt, nlt_rep, rep_same}

-- ---- the two answers
abbrev pub is_at : Option Fraction → Bool
is_at (Some f) = true
is_at None = false

abbrev pub depth_of : Option Fraction → Fraction
depth_of (Some f) = f
depth_of None = record { t = pos 0; w = pos 0 }

module _ (near far : ℤ) (a b c : Projected) where
  pub missed : (HasArea a b c → (D : ℕ) (t : ℤ) → On near far a b c D t → ⊥) → First near far a b c None
  missed h = record {
    none = λ e. h;
    area = λ f e. absurd (false≢true (ap is_at e));
    reached = λ f e. absurd (false≢true (ap is_at e));
  }

  pub met : (f : Fraction) → HasArea a b c → Reached near far a b c f → First near far a b c (Some f)
  met f apart r = record {
    none = λ e. absurd (true≢false (ap is_at e));
    area = λ g e. apart;
    reached = λ g e. subst (λ (h : Fraction). Reached near far a b c h) (ap depth_of e) r;
  }

-- ---- signs and orders of whole numbers
pub not_less : (x y : ℤ) → lt_z x y ≡ false → le_z y x ≡ true
not_less x y h = le_rep (own y) (own x) (let m = rep_nlt (own x) (own y) h in omega (arith, m))

pub whole_of : (x : ℤ) → lt_z x (pos 0) ≡ false → x ≡ pos (pp x)
whole_of (pos n) h = refl
whole_of (negsuc n) h = absurd (true≢false h)

pub positive_of : (x : ℤ) → lt_z (pos 0) x ≡ true → (x ≡ pos (pp x)) × (0 < pp x)
positive_of (pos n) h = (refl, let m = rep_lt (own_pos 0) (own_pos n) h in omega (arith, m))
positive_of (negsuc n) h = absurd (false≢true h)

pub nonneg_of : (D n : ℕ) (x : ℤ) → 0 < D → pos D *ℤ x ≡ pos n → lt_z x (pos 0) ≡ false
nonneg_of D n x p h =
    let e = rep_same (rep_mul (own_pos D) (own x)) (own_pos n) h in
    let m : np x ≤ pp x = le_of_mul-le-mul_right (omega (arith, e)) p in
    nlt_rep (own x) (own_pos 0) (omega (arith, m))

-- T / W and t / D are the same fraction
module _ (D W : ℕ) (T t : ℤ) (p : 0 < D) (h : pos D *ℤ T ≡ pos W *ℤ t) where
  parts : D * pp T + W * np t ≡ W * pp t + D * np T
  parts = let e = rep_same (rep_mul (own_pos D) (own T)) (rep_mul (own_pos W) (own t)) h in omega (arith, e)

  pub least_same : (n : ℤ) → le_z (n *ℤ pos D) t ≡ true → lt_z T (n *ℤ pos W) ≡ false
  least_same n l =
      let m = rep_le (rep_mul (own n) (own_pos D)) (own t) l in
      let q : pp n * D + np t ≤ pp t + np n * D = omega (arith, m) in
      let r : (pp n * D + np t) * W ≤ (pp t + np n * D) * W = mul-le-mul_right W q in
      let e = parts in
      let g : pp n * W + np T ≤ pp T + np n * W = le_of_mul-le-mul_right (omega (arith, r, e)) p in
      nlt_rep (own T) (rep_mul (own n) (own_pos W)) (omega (arith, g))

  pub most_same : (n : ℤ) → le_z t (n *ℤ pos D) ≡ true → lt_z (n *ℤ pos W) T ≡ false
  most_same n l =
      let m = rep_le (own t) (rep_mul (own n) (own_pos D)) l in
      let q : pp t + np n * D ≤ pp n * D + np t = omega (arith, m) in
      let r : (pp t + np n * D) * W ≤ (pp n * D + np t) * W = mul-le-mul_right W q in
      let e = parts in
      let g : pp T + np n * W ≤ pp n * W + np T = le_of_mul-le-mul_right (omega (arith, r, e)) p in
      nlt_rep (rep_mul (own n) (own_pos W)) (own T) (omega (arith, g))

  pub no_deeper : le_z (T *ℤ pos D) (t *ℤ pos W) ≡ true
  no_deeper = let e = parts in le_rep (rep_mul (own T) (own_pos D)) (rep_mul (own t) (own_pos W)) (omega (arith, e))
