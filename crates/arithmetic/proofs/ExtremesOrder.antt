-- Minimum and maximum are one of their operands, so finite where both are, and below or above both where these are no NaN; where the first
-- operand is no NaN one comparison tells which. Assumes nothing.
use Rattle.std.proofs.Common.{◌≡◌, Bool, true, false, cond, ◌⊎◌, refl, ap, ◌∙◌, inl, inr, ⊎_elim}
use lib.Ieee.{Float, lt, le, is_nan}
use Rattle.arithmetic.specs.Basic.{is_finite}
use Rattle.arithmetic.specs.Extremes.{minimum_of, maximum_of}
use Rattle.arithmetic.proofs.Order.{le_of_lt, le_of_not_lt, le_reflexive, le_left_number, le_right_number}

-- the rule that both follow: the second operand where `better` or where the first is NaN
abbrev pick : Bool → Bool → Float → Float → Float
pick better missing x y = cond better y (cond missing y x)

pick_one : (better missing : Bool) (x y : Float) → (pick better missing x y ≡ x) ⊎ (pick better missing x y ≡ y)
pick_one true missing x y = inr refl
pick_one false true x y = inr refl
pick_one false false x y = inl refl

-- what holds of either operand by the test holds of the one picked
pick_keeps : (P : Float → Type 0) (better : Bool) (x y : Float) → (better ≡ true → P y) → (better ≡ false → P x) → P (pick better false x y)
pick_keeps P true x y a b = a refl
pick_keeps P false x y a b = b refl

pub minimum_one : (x y : Float) → (minimum_of x y ≡ x) ⊎ (minimum_of x y ≡ y)
unfolding minimum_of
minimum_one x y = pick_one (lt y x) (is_nan x) x y

pub maximum_one : (x y : Float) → (maximum_of x y ≡ x) ⊎ (maximum_of x y ≡ y)
unfolding maximum_of
maximum_one x y = pick_one (lt x y) (is_nan x) x y

pub minimum_finite : (x y : Float) → is_finite x ≡ true → is_finite y ≡ true → is_finite (minimum_of x y) ≡ true
minimum_finite x y p q = ⊎_elim (λ e. ap is_finite e ∙ p) (λ e. ap is_finite e ∙ q) (minimum_one x y)

pub maximum_finite : (x y : Float) → is_finite x ≡ true → is_finite y ≡ true → is_finite (maximum_of x y) ≡ true
maximum_finite x y p q = ⊎_elim (λ e. ap is_finite e ∙ p) (λ e. ap is_finite e ∙ q) (maximum_one x y)

-- ---- the first operand is no NaN: one comparison tells, and the one picked is no NaN either
module _ (x y : Float) where
  pub lesser_second : lt y x ≡ true → (y ≡ minimum_of x y) × (is_nan y ≡ false)
  unfolding minimum_of
  lesser_second h = (rw h, le_left_number y x (le_of_lt y x h))

  pub lesser_first : lt y x ≡ false → is_nan x ≡ false → x ≡ minimum_of x y
  unfolding minimum_of
  lesser_first h n = rw (h, n)

  pub greater_second : lt x y ≡ true → (y ≡ maximum_of x y) × (is_nan y ≡ false)
  unfolding maximum_of
  greater_second h = (rw h, le_right_number x y (le_of_lt x y h))

  pub greater_first : lt x y ≡ false → is_nan x ≡ false → x ≡ maximum_of x y
  unfolding maximum_of
  greater_first h n = rw (h, n)

-- ---- neither operand is a NaN
module _ (x y : Float) (p : is_nan x ≡ false) (q : is_nan y ≡ false) where
  minimum_is : minimum_of x y ≡ pick (lt y x) false x y
  unfolding minimum_of
  minimum_is = ap (λ (b : Bool). pick (lt y x) b x y) p

  maximum_is : maximum_of x y ≡ pick (lt x y) false x y
  unfolding maximum_of
  maximum_is = ap (λ (b : Bool). pick (lt x y) b x y) p

  pub minimum_below_first : le (minimum_of x y) x ≡ true
  minimum_below_first = rw minimum_is (pick_keeps (λ (z : Float). le z x ≡ true) (lt y x) x y (le_of_lt y x) (λ h. le_reflexive x p))

  pub minimum_below_second : le (minimum_of x y) y ≡ true
  minimum_below_second = rw minimum_is (pick_keeps (λ (z : Float). le z y ≡ true) (lt y x) x y (λ h. le_reflexive y q) (le_of_not_lt x y p
      q))

  pub maximum_above_first : le x (maximum_of x y) ≡ true
  maximum_above_first = rw maximum_is (pick_keeps (λ (z : Float). le x z ≡ true) (lt x y) x y (le_of_lt x y) (λ h. le_reflexive x p))

  pub maximum_above_second : le y (maximum_of x y) ≡ true
  maximum_above_second = rw maximum_is (pick_keeps (λ (z : Float). le y z ≡ true) (lt x y) x y (λ h. le_reflexive y q) (le_of_not_lt y x q
      p))
