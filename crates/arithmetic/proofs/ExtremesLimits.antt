-- Minimum and maximum compared with a limit: what is at most or at least one of the two, or both. Assumes nothing.
use Rattle.std.proofs.Common.{◌≡◌, Bool, true, false, cond, ◌&&◌, ◌||◌, sym, refl, ap, ◌∙◌, subst, ⊎_elim, true≢false}
use lib.Ieee.{Float, lt, le, is_nan}
use Rattle.arithmetic.specs.Extremes.{minimum_of, maximum_of}
use Rattle.arithmetic.proofs.Order.{is_nan_lem, lt_nan_false, le_of_lt, le_of_not_lt, le_reflexive, le_transitive, le_left_number}
use Rattle.arithmetic.proofs.Order.{le_right_number}
use Rattle.arithmetic.proofs.ExtremesOrder.{minimum_one, maximum_one, greater_first, maximum_above_first, maximum_above_second}

-- ---- what holds of both operands holds of the one picked
pub minimum_keeps : (P : Float → Type 0) (x y : Float) → P x → P y → P (minimum_of x y)
minimum_keeps P x y p q = ⊎_elim (λ e. subst P (sym e) p) (λ e. subst P (sym e) q) (minimum_one x y)

pub maximum_keeps : (P : Float → Type 0) (x y : Float) → P x → P y → P (maximum_of x y)
maximum_keeps P x y p q = ⊎_elim (λ e. subst P (sym e) p) (λ e. subst P (sym e) q) (maximum_one x y)

-- ---- a maximum is at least each operand that is a number, whatever the other is
pub maximum_from_first : (x y : Float) → is_nan x ≡ false → le x (maximum_of x y) ≡ true
maximum_from_first x y p = go (is_nan y) refl
  where
    go : (b : Bool) → is_nan y ≡ b → le x (maximum_of x y) ≡ true
    go true q =
        ap (le x) (sym (greater_first x y (ap (lt x) (is_nan_lem y q) ∙ lt_nan_false x) p))
        ∙ le_reflexive x p
    go false q = maximum_above_first x y p q

of_nan : (x y : Float) → is_nan x ≡ true → maximum_of x y ≡ y
unfolding maximum_of
of_nan x y p = ap (λ (b : Bool). cond (lt x y) y (cond b y x)) p ∙ go (lt x y)
  where
    go : (b : Bool) → cond b y y ≡ y
    go true = refl
    go false = refl

pub maximum_from_second : (x y : Float) → is_nan y ≡ false → le y (maximum_of x y) ≡ true
maximum_from_second x y q = go (is_nan x) refl
  where
    go : (b : Bool) → is_nan x ≡ b → le y (maximum_of x y) ≡ true
    go true p = ap (le y) (of_nan x y p) ∙ le_reflexive y q
    go false p = maximum_above_second x y p q

-- ---- of two numbers: the maximum is at most a limit where both are, and the minimum at least
absorbs_left : (x y : Bool) → (y ≡ true → x ≡ true) → y ≡ (x && y)
absorbs_left true y h = refl
absorbs_left false true h = sym (h refl)
absorbs_left false false h = refl

absorbs_right : (x y : Bool) → (x ≡ true → y ≡ true) → x ≡ (x && y)
absorbs_right true y h = sym (h refl)
absorbs_right false y h = refl

pub maximum_at_most : (a b t : Float) → is_nan a ≡ false → is_nan b ≡ false → le (maximum_of a b) t ≡ (le a t && le b t)
unfolding maximum_of
maximum_at_most a b t p q = go (lt a b) refl
  where
    go : (c : Bool) → lt a b ≡ c → le (cond c b (cond (is_nan a) b a)) t ≡ (le a t && le b t)
    go true h = absorbs_left (le a t) (le b t) (λ (e : le b t ≡ true). le_transitive a b t (le_of_lt a b h) e)
    go false h =
        ap (λ (c : Bool). le (cond c b a) t) p
        ∙ absorbs_right (le a t) (le b t) (λ (e : le a t ≡ true). le_transitive b a t (le_of_not_lt b a q p h) e)

pub minimum_at_least : (a b t : Float) → is_nan a ≡ false → is_nan b ≡ false → le t (minimum_of a b) ≡ (le t a && le t b)
unfolding minimum_of
minimum_at_least a b t p q = go (lt b a) refl
  where
    go : (c : Bool) → lt b a ≡ c → le t (cond c b (cond (is_nan a) b a)) ≡ (le t a && le t b)
    go true h = absorbs_left (le t a) (le t b) (λ (e : le t b ≡ true). le_transitive t b a e (le_of_lt b a h))
    go false h =
        ap (λ (c : Bool). le t (cond c b a)) p
        ∙ absorbs_right (le t a) (le t b) (λ (e : le t a ≡ true). le_transitive t a b e (le_of_not_lt a b p q h))

-- ---- of any two: the minimum is at most a limit where one of the two is, and the maximum at least, whatever is NaN
or_first : (a b : Bool) → (b ≡ true → a ≡ true) → a ≡ (a || b)
or_first true b h = refl
or_first false true h = h refl
or_first false false h = refl

or_second : (a b : Bool) → (a ≡ true → b ≡ true) → b ≡ (a || b)
or_second true b h = h refl
or_second false b h = refl

module _ (x y t : Float) where
  minimum_or : (less missing : Bool) → lt y x ≡ less → is_nan x ≡ missing → le (cond less y (cond missing y x)) t ≡ (le x t || le y t)
  minimum_or true missing h p = or_second (le x t) (le y t) (λ k. le_transitive y x t (le_of_lt y x h) k)
  minimum_or false true h p = or_second (le x t) (le y t) (λ k. absurd (true≢false (sym p ∙ le_left_number x t k)))
  minimum_or false false h p =
      or_first (le x t) (le y t) (λ k. le_transitive x y t (le_of_not_lt x y p (le_left_number y t k) h) k)

  pub minimum_at_most_one : le (minimum_of x y) t ≡ (le x t || le y t)
  unfolding minimum_of
  minimum_at_most_one = minimum_or (lt y x) (is_nan x) refl refl

  maximum_or : (more missing : Bool) → lt x y ≡ more → is_nan x ≡ missing → le t (cond more y (cond missing y x)) ≡ (le t x || le t y)
  maximum_or true missing h p = or_second (le t x) (le t y) (λ k. le_transitive t x y k (le_of_lt x y h))
  maximum_or false true h p = or_second (le t x) (le t y) (λ k. absurd (true≢false (sym p ∙ le_right_number t x k)))
  maximum_or false false h p =
      or_first (le t x) (le t y) (λ k. le_transitive t y x k (le_of_not_lt y x (le_right_number t y k) p h))

  pub maximum_at_least_one : le t (maximum_of x y) ≡ (le t x || le t y)
  unfolding maximum_of
  maximum_at_least_one = maximum_or (lt x y) (is_nan x) refl refl
