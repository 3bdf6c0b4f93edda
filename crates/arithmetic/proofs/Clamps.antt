-- A number clamped to a range: it lies in the range, how it compares with the number and the ends, and what is not moved. Assumes nothing.
use Rattle.std.proofs.Common.{◌≡◌, Bool, true, false, cond, sym, refl}
use lib.Ieee.{Float, lt, le, is_nan}
use Rattle.arithmetic.specs.Basic.{is_finite, clamp_to}
use Rattle.arithmetic.proofs.Order.{le_of_lt, le_of_not_lt, le_reflexive, le_transitive, le_left_number, le_right_number}

-- what holds of either by the test holds of the one chosen
chosen : (P : Float → Type 0) (b : Bool) (x y : Float) → (b ≡ true → P x) → (b ≡ false → P y) → P (cond b x y)
chosen P true x y p q = p refl
chosen P false x y p q = q refl

module _ (z low high : Float) where
  -- one of the three numbers
  pub clamp_one : (P : Float → Type 0) → P z → P low → P high → P (clamp_to z low high)
  unfolding clamp_to
  clamp_one P pz pl ph = chosen P (lt high (cond (lt z low) low z)) high (cond (lt z low) low z) (λ e. ph)
      (λ e. chosen P (lt z low) low z (λ d. pl) (λ d. pz))

  pub clamp_finite : is_finite z ≡ true → is_finite low ≡ true → is_finite high ≡ true → is_finite (clamp_to z low high) ≡ true
  clamp_finite = clamp_one (λ (x : Float). is_finite x ≡ true)

  -- at most what z and the low are at most
  pub clamp_below : (top : Float) → le z top ≡ true → le low top ≡ true → le (clamp_to z low high) top ≡ true
  unfolding clamp_to
  clamp_below top p q =
      let y = cond (lt z low) low z in
      let h : le y top ≡ true = chosen (λ (x : Float). le x top ≡ true) (lt z low) low z (λ e. q) (λ e. p) in
      chosen (λ (x : Float). le x top ≡ true) (lt high y) high y (λ e. le_transitive high y top (le_of_lt high y e) h) (λ e. h)

  -- at least z where the high is
  pub clamp_reaches : is_nan low ≡ false → le z high ≡ true → le z (clamp_to z low high) ≡ true
  unfolding clamp_to
  clamp_reaches n p =
      let y = cond (lt z low) low z in
      let h : le z y ≡ true = chosen (λ (x : Float). le z x ≡ true) (lt z low) low z (le_of_lt z low)
      (λ e. le_reflexive z (le_left_number z high p)) in
      chosen (λ (x : Float). le z x ≡ true) (lt high y) high y (λ e. p) (λ e. h)

  -- in the range
  pub clamp_above_low : is_nan z ≡ false → le low high ≡ true → le low (clamp_to z low high) ≡ true
  unfolding clamp_to
  clamp_above_low n p =
      let y = cond (lt z low) low z in
      let m = le_left_number low high p in
      let h : le low y ≡ true = chosen (λ (x : Float). le low x ≡ true) (lt z low) low z (λ e. le_reflexive low m)
      (le_of_not_lt low z m n) in
      chosen (λ (x : Float). le low x ≡ true) (lt high y) high y (λ e. p) (λ e. h)

  pub clamp_below_high : is_nan z ≡ false → le low high ≡ true → le (clamp_to z low high) high ≡ true
  unfolding clamp_to
  clamp_below_high n p =
      let y = cond (lt z low) low z in
      let k = le_right_number low high p in
      let h : is_nan y ≡ false = chosen (λ (x : Float). is_nan x ≡ false) (lt z low) low z (λ e. le_left_number low high p) (λ e. n) in
      chosen (λ (x : Float). le x high ≡ true) (lt high y) high y (λ e. le_reflexive high k) (le_of_not_lt y high h k)

  -- what lies between is not moved
  pub clamp_inside : lt z low ≡ false → lt high z ≡ false → z ≡ clamp_to z low high
  unfolding clamp_to
  clamp_inside p q = sym (simp (p, q))
