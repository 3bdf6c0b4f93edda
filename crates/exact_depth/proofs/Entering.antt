-- A depth that a side puts off: it is the first from there on that the side lets pass. Assumes nothing.
use mathlib.Core.Path.{◌≡◌, refl, sym, subst}
use mathlib.Core.Bool.{Bool, true, false, cond}
use Prim.Native.Nat.{ℕ, suc, ◌+◌, ◌*◌, ◌≤◌, ◌<◌}
use native.Mathlib.Nat.{le_of_mul-le-mul_right, mul-le-mul_right, zero-lt-suc}
use native.Mathlib.Omega.{arith}
use lib.IntN.{ℤ, pos, negsuc, neg_ℤ, ◌*ℤ◌}
use lib.Signed.{lt_z, le_z}
use borrow.Author.Tests.{ltb-true, le-ltb}
use Rattle.exact_depth.specs.declared.projection.Fraction.{Fraction}
use Rattle.wide_integers.specs.Determinant.{determinant}
use Rattle.exact_depth.specs.FirstPoint.{entering}
use Rattle.wide_integers.proofs.Integers.{pp, np}
use Rattle.wide_integers.proofs.Polynomials.{Rep, own, rep_mul, rep_sub, rep_neg, own_pos, own_neg}
use Rattle.wide_integers.proofs.Order.{rep_le, le_rep, rep_lt, rep_nlt, nlt_rep}

-- the height of a side with its level L and its fall F, at the depth t / W
abbrev pub rise : ℤ → ℤ → ℤ → ℕ → ℤ
rise L F t W = determinant L F t (pos W)

abbrev pub Passes : ℤ → ℤ → ℤ → ℕ → Type 0
Passes L F t W = lt_z (rise L F t W) (pos 0) ≡ false

rise_parts : (L F t : ℤ) (W : ℕ) → Rep (rise L F t W) (pp L * W + (pp F * np t + np F * pp t)) (np L * W + (pp F * pp t + np F * np t))
rise_parts L F t W =
    let r = rep_sub (rep_mul (own L) (own_pos W)) (rep_mul (own F) (own t)) in
    record { is = omega (arith, r.is) }

passes_parts : (L F t : ℤ) (W : ℕ) → Passes L F t W → np L * W + (pp F * pp t + np F * np t) ≤ pp L * W + (pp F * np t + np F * pp t)
passes_parts L F t W h = let m = rep_nlt (rise_parts L F t W) (own_pos 0) h in omega (arith, m)

parts_pass : (L F t : ℤ) (W : ℕ) → np L * W + (pp F * pp t + np F * np t) ≤ pp L * W + (pp F * np t + np F * pp t) → Passes L F t W
parts_pass L F t W h = nlt_rep (rise_parts L F t W) (own_pos 0) (omega (arith, h))

-- ---- up along the line a side that rises stays passed, and down along it one that does not
module _ (L t τ : ℤ) (n W D : ℕ) (before : le_z (t *ℤ pos D) (τ *ℤ pos W) ≡ true) where
  order : pp t * D + np τ * W ≤ pp τ * W + np t * D
  order = let m = rep_le (rep_mul (own t) (own_pos D)) (rep_mul (own τ) (own_pos W)) before in omega (arith, m)

  pub stays_passed : 0 < W → Passes L (negsuc n) t W → Passes L (negsuc n) τ D
  stays_passed w h =
      let a : np L * W + suc n * np t ≤ pp L * W + suc n * pp t = let m = passes_parts L (negsuc n) t W h in omega (arith, m) in
      let b : (np L * W + suc n * np t) * D ≤ (pp L * W + suc n * pp t) * D = mul-le-mul_right D a in
      let c : (pp t * D + np τ * W) * suc n ≤ (pp τ * W + np t * D) * suc n = mul-le-mul_right (suc n) order in
      let d : np L * D + suc n * np τ ≤ pp L * D + suc n * pp τ = le_of_mul-le-mul_right (omega (arith, b, c)) w in
      parts_pass L (negsuc n) τ D (omega (arith, d))

  pub passed_before : 0 < D → Passes L (pos n) τ D → Passes L (pos n) t W
  passed_before w h =
      let a : np L * D + n * pp τ ≤ pp L * D + n * np τ = let m = passes_parts L (pos n) τ D h in omega (arith, m) in
      let b : (np L * D + n * pp τ) * W ≤ (pp L * D + n * np τ) * W = mul-le-mul_right W a in
      let c : (pp t * D + np τ * W) * n ≤ (pp τ * W + np t * D) * n = mul-le-mul_right n order in
      let d : np L * W + n * pp t ≤ pp L * W + n * np t = le_of_mul-le-mul_right (omega (arith, b, c)) w in
      parts_pass L (pos n) t W (omega (arith, d))

-- ---- one side
pub record Put (L F : ℤ) (f : Fraction) (W : ℕ) (g : Fraction) : Type 0 where
  pub U : ℕ
  pub positive : 0 < U
  pub denominator : g.w ≡ pos U
  pub grows : le_z (f.t *ℤ pos U) (g.t *ℤ pos W) ≡ true
  pub passes : lt_z F (pos 0) ≡ true → Passes L F g.t U
  pub least : (D : ℕ) (τ : ℤ) → le_z (f.t *ℤ pos D) (τ *ℤ pos W) ≡ true → Passes L F τ D → le_z (g.t *ℤ pos D) (τ *ℤ pos U) ≡ true

le_self : (x : ℤ) → le_z x x ≡ true
le_self x = le_rep (own x) (own x) (omega arith)

-- where it is not put off
kept_put : (L F : ℤ) (f : Fraction) (W : ℕ) → 0 < W → f.w ≡ pos W → (lt_z F (pos 0) ≡ true → Passes L F f.t W) → Put L F f W f
kept_put L F f W p e h = record {
  U = W;
  positive = p;
  denominator = e;
  grows = le_self (f.t *ℤ pos W);
  passes = h;
  least = λ D τ l q. l;
}

-- where it is
off_put : (L : ℤ) (n : ℕ) (f : Fraction) (W : ℕ) → lt_z (rise L (negsuc n) f.t W) (pos 0) ≡ true
    → Put L (negsuc n) f W (record { t = neg_ℤ L; w = pos (suc n) })
off_put L n f W h = record {
  U = suc n;
  positive = zero-lt-suc n;
  denominator = refl;
  grows =
      let m = rep_lt (rise_parts L (negsuc n) f.t W) (own_pos 0) h in
      le_rep (rep_mul (own f.t) (own_pos (suc n))) (rep_mul (rep_neg (own L)) (own_pos W)) (omega (arith, m));
  passes = λ e.
      nlt_rep (rep_sub (rep_mul (own L) (own_pos (suc n))) (rep_mul (own_neg n) (rep_neg (own L)))) (own_pos 0) (omega arith);
  least = λ D τ l q.
      let m = passes_parts L (negsuc n) τ D q in
      le_rep (rep_mul (rep_neg (own L)) (own_pos D)) (rep_mul (own τ) (own_pos (suc n))) (omega (arith, m));
}

abbrev sided : ℤ → ℤ → ℤ → ℤ → Fraction
sided L F t w = entering (record { t = t; w = w }) (record { level = L; fall = F })

put_at : (L F t : ℤ) (W : ℕ) → 0 < W → Put L F (record { t = t; w = pos W }) W (sided L F t (pos W))
unfolding entering
put_at L (pos n) t W p =
    subst (λ (b : Bool). Put L (pos n) (record { t = t; w = pos W }) W
    (cond b (cond (lt_z (determinant L (pos n) t (pos W)) (pos 0)) (record { t = neg_ℤ L; w = neg_ℤ (pos n) })
    (record { t = t; w = pos W }))
    (record { t = t; w = pos W })))
    (sym (le-ltb n 0 (omega arith)))
    (kept_put L (pos n) (record { t = t; w = pos W }) W p refl (λ h. absurd (omega (arith, ltb-true n 0 h))))
put_at L (negsuc n) t W p = go (lt_z (rise L (negsuc n) t W) (pos 0)) refl
  where
    go : (b : Bool) → lt_z (rise L (negsuc n) t W) (pos 0) ≡ b
        → Put L (negsuc n) (record { t = t; w = pos W }) W (cond b (record { t = neg_ℤ L; w = pos (suc n) }) (record { t = t; w = pos W }))
    go true h = off_put L n (record { t = t; w = pos W }) W h
    go false h = kept_put L (negsuc n) (record { t = t; w = pos W }) W p refl (λ e. h)

pub put : (L F : ℤ) (f : Fraction) (W : ℕ) → 0 < W → f.w ≡ pos W → Put L F f W (entering f (record { level = L; fall = F }))
put L F f W p e =
    subst (λ (w : ℤ). Put L F (record { t = f.t; w = w }) W (sided L F f.t w)) (sym e) (put_at L F f.t W p)

-- ---- passed for good
-- a side that rises is passed from where it was passed on; one that does not rise was passed before any depth that passes
pub for_good : (L F : ℤ) (f g : Fraction) (W U D : ℕ) (τ : ℤ) → 0 < W → 0 < D
    → (lt_z F (pos 0) ≡ true → Passes L F f.t W) → le_z (f.t *ℤ pos U) (g.t *ℤ pos W) ≡ true
    → le_z (g.t *ℤ pos D) (τ *ℤ pos U) ≡ true → Passes L F τ D → Passes L F g.t U
for_good L (pos n) f g W U D τ p q h grown least passes = passed_before L g.t τ n U D least q passes
for_good L (negsuc n) f g W U D τ p q h grown least passes = stays_passed L f.t g.t n W U grown p (h refl)

-- f before g before h
pub before_trans : (f g h : Fraction) (W U X : ℕ) → 0 < U → le_z (f.t *ℤ pos U) (g.t *ℤ pos W) ≡ true
    → le_z (g.t *ℤ pos X) (h.t *ℤ pos U) ≡ true → le_z (f.t *ℤ pos X) (h.t *ℤ pos W) ≡ true
before_trans f g h W U X p l m =
    let a = rep_le (rep_mul (own f.t) (own_pos U)) (rep_mul (own g.t) (own_pos W)) l in
    let b = rep_le (rep_mul (own g.t) (own_pos X)) (rep_mul (own h.t) (own_pos U)) m in
    let a' : pp f.t * U + np g.t * W ≤ pp g.t * W + np f.t * U = omega (arith, a) in
    let b' : pp g.t * X + np h.t * U ≤ pp h.t * U + np g.t * X = omega (arith, b) in
    let c : (pp f.t * U + np g.t * W) * X ≤ (pp g.t * W + np f.t * U) * X = mul-le-mul_right X a' in
    let d : (pp g.t * X + np h.t * U) * W ≤ (pp h.t * U + np g.t * X) * W = mul-le-mul_right W b' in
    let e : pp f.t * X + np h.t * W ≤ pp h.t * W + np f.t * X = le_of_mul-le-mul_right (omega (arith, c, d)) p in
    le_rep (rep_mul (own f.t) (own_pos X)) (rep_mul (own h.t) (own_pos W)) (omega (arith, e))
