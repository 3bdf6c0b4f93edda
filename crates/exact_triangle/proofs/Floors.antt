-- A mean at most m has a part at most m, and a whole number that is at most a fraction is at most its floor. Assumes nothing.
use Rattle.std.proofs.Common.{◌≡◌, ℕ, suc, ◌+◌, ◌*◌, ◌/◌, ◌<◌, ◌≤◌, Bool, true, false, cond, ◌⊎◌, ℤ, pos, negsuc, ◌+ℤ◌, ◌*ℤ◌, nat_abs, sym}
use Rattle.std.proofs.Common.{refl, ◌∙◌, inl, inr, true≢false, mul-le-mul_right, div-lt_iff_lt-mul, le-div_iff_mul-le, arith, le-leb}
use mathlib.Core.Bool.{false≢true}
use lib.Signed.{lt_z, le_z, shr_z}
use Rattle.exact_depth.specs.Meeting.{mix}
use Rattle.wide_integers.proofs.Integers.{pp, np}
use Rattle.wide_integers.proofs.Polynomials.{own, own_pos, rep_add, rep_mul}
use Rattle.wide_integers.proofs.Order.{rep_le, le_rep, rep_lt, rep_nlt}
use Rattle.exact_depth.proofs.Weights.{mix_parts}
use Rattle.exact_triangle.specs.Box.{lesser, greater}

-- ---- the order of whole numbers
pub le_z_trans : (x y z : ℤ) → le_z x y ≡ true → le_z y z ≡ true → le_z x z ≡ true
le_z_trans x y z h g =
    le_rep (own x) (own z) (let h' = rep_le (own x) (own y) h in let g' = rep_le (own y) (own z) g in omega (arith, h', g'))

pub le_z_more : (x y : ℤ) → le_z x y ≡ true → le_z (x +ℤ pos 1) (y +ℤ pos 1) ≡ true
le_z_more x y h =
    le_rep (rep_add (own x) (own_pos 1)) (rep_add (own y) (own_pos 1)) (let h' = rep_le (own x) (own y) h in omega (arith, h'))

pub le_z_not : (x y : ℤ) → le_z x y ≡ false → pp y + np x < pp x + np y
le_z_not x y h = go (lt_z y x) refl
  where
    go : (b : Bool) → lt_z y x ≡ b → pp y + np x < pp x + np y
    go true e = let m = rep_lt (own y) (own x) e in omega (arith, m)
    go false e =
        let m = rep_nlt (own y) (own x) e in absurd (true≢false (sym (le_rep (own x) (own y) (omega (arith, m))) ∙ h))

-- the greater of two, and the lesser
pub first_most : (x y : ℤ) → le_z x (greater x y) ≡ true
first_most x y = go (le_z x y) refl
  where
    go : (b : Bool) → le_z x y ≡ b → le_z x (cond b y x) ≡ true
    go true e = e
    go false e = le_rep (own x) (own x) (omega arith)

pub second_most : (x y : ℤ) → le_z y (greater x y) ≡ true
second_most x y = go (le_z x y) refl
  where
    go : (b : Bool) → le_z x y ≡ b → le_z y (cond b y x) ≡ true
    go true e = le_rep (own y) (own y) (omega arith)
    go false e = le_rep (own y) (own x) (let m = le_z_not x y e in omega (arith, m))

pub first_least : (x y : ℤ) → le_z (lesser x y) x ≡ true
first_least x y = go (le_z x y) refl
  where
    go : (b : Bool) → le_z x y ≡ b → le_z (cond b x y) x ≡ true
    go true e = le_rep (own x) (own x) (omega arith)
    go false e = le_rep (own y) (own x) (let m = le_z_not x y e in omega (arith, m))

pub second_least : (x y : ℤ) → le_z (lesser x y) y ≡ true
second_least x y = go (le_z x y) refl
  where
    go : (b : Bool) → le_z x y ≡ b → le_z (cond b x y) y ≡ true
    go true e = e
    go false e = le_rep (own y) (own y) (omega arith)

-- ---- a part of a mean
abbrev pub OneOf : (ℤ → Type 0) → ℤ → ℤ → ℤ → Type 0
OneOf P x y z = P x ⊎ (P y ⊎ P z)

module _ (i j k : ℕ) (x y z m : ℤ) (some : 0 < i + j + k) where
  pub part_below : le_z (mix i j k x y z) (pos (i + j + k) *ℤ m) ≡ true → OneOf (λ (w : ℤ). le_z w m ≡ true) x y z
  part_below h = go (le_z x m) (le_z y m) (le_z z m) refl refl refl
    where
      none : le_z x m ≡ false → le_z y m ≡ false → le_z z m ≡ false → ⊥
      none p q r =
          let p' : (pp m + np x + 1) * i ≤ (pp x + np m) * i = mul-le-mul_right i (let n = le_z_not x m p in omega (arith, n)) in
          let q' : (pp m + np y + 1) * j ≤ (pp y + np m) * j = mul-le-mul_right j (let n = le_z_not y m q in omega (arith, n)) in
          let r' : (pp m + np z + 1) * k ≤ (pp z + np m) * k = mul-le-mul_right k (let n = le_z_not z m r in omega (arith, n)) in
          let e = rep_le (mix_parts i j k x y z) (rep_mul (own_pos (i + j + k)) (own m)) h in
          omega (arith, e, some, p', q', r')

      go : (p q r : Bool) → le_z x m ≡ p → le_z y m ≡ q → le_z z m ≡ r → OneOf (λ (w : ℤ). le_z w m ≡ true) x y z
      go true q r p' q' r' = inl p'
      go false true r p' q' r' = inr (inl q')
      go false false true p' q' r' = inr (inr r')
      go false false false p' q' r' = absurd (none p' q' r')

  pub part_above : le_z (pos (i + j + k) *ℤ m) (mix i j k x y z) ≡ true → OneOf (λ (w : ℤ). le_z m w ≡ true) x y z
  part_above h = go (le_z m x) (le_z m y) (le_z m z) refl refl refl
    where
      none : le_z m x ≡ false → le_z m y ≡ false → le_z m z ≡ false → ⊥
      none p q r =
          let p' : (pp x + np m + 1) * i ≤ (pp m + np x) * i = mul-le-mul_right i (let n = le_z_not m x p in omega (arith, n)) in
          let q' : (pp y + np m + 1) * j ≤ (pp m + np y) * j = mul-le-mul_right j (let n = le_z_not m y q in omega (arith, n)) in
          let r' : (pp z + np m + 1) * k ≤ (pp m + np z) * k = mul-le-mul_right k (let n = le_z_not m z r in omega (arith, n)) in
          let e = rep_le (rep_mul (own_pos (i + j + k)) (own m)) (mix_parts i j k x y z) h in
          omega (arith, e, some, p', q', r')

      go : (p q r : Bool) → le_z m x ≡ p → le_z m y ≡ q → le_z m z ≡ r → OneOf (λ (w : ℤ). le_z m w ≡ true) x y z
      go true q r p' q' r' = inl p'
      go false true r p' q' r' = inr (inl q')
      go false false true p' q' r' = inr (inr r')
      go false false false p' q' r' = absurd (none p' q' r')

-- ---- S x beside E, and x beside the floor of E / S
module _ (S : ℕ) (some : 0 < S) where
  pub floor_above : (x E : ℤ) → le_z (pos S *ℤ x) E ≡ true → le_z x (shr_z E S) ≡ true
  floor_above (pos n) (pos a) h =
      let e = rep_le (own_pos (S * n)) (own_pos a) h in
      le-leb n (a / S) ((le-div_iff_mul-le some).1 (omega (arith, e)))
  floor_above (negsuc n) (pos a) h = refl
  floor_above (pos n) (negsuc a) h = absurd (false≢true h)
  floor_above (negsuc n) (negsuc a) h =
      let e = rep_le (rep_mul (own_pos S) (own (negsuc n))) (own (negsuc a)) h in
      let l : a / S < suc n = (div-lt_iff_lt-mul some).1 (omega (arith, e)) in
      le-leb (a / S) n (omega (arith, l))

  pub floor_below : (x E : ℤ) → le_z E (pos S *ℤ x) ≡ true → le_z (shr_z E S) x ≡ true
  floor_below (pos n) (pos a) h =
      let e = rep_le (own_pos a) (own_pos (S * n)) h in
      let l : a / S < suc n = (div-lt_iff_lt-mul some).1 (omega (arith, e, some)) in
      le-leb (a / S) n (omega (arith, l))
  floor_below (pos n) (negsuc a) h = refl
  floor_below (negsuc n) (pos a) h =
      let e = rep_le (own_pos a) (rep_mul (own_pos S) (own (negsuc n))) h in absurd (omega (arith, e, some))
  floor_below (negsuc n) (negsuc a) h =
      let e = rep_le (own (negsuc a)) (rep_mul (own_pos S) (own (negsuc n))) h in
      le-leb n (a / S) ((le-div_iff_mul-le some).1 (omega (arith, e, some)))

  pub floor_size : (E : ℤ) (B : ℕ) → nat_abs E ≤ B * S → nat_abs (shr_z E S) ≤ suc B
  floor_size (pos a) B h =
      let l : a / S < suc B = (div-lt_iff_lt-mul some).1 (omega (arith, h, some)) in omega (arith, l)
  floor_size (negsuc a) B h =
      let l : a / S < suc B = (div-lt_iff_lt-mul some).1 (omega (arith, h, some)) in omega (arith, l)
