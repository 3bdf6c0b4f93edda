-- Moving until something holds: from a place where some numbers are not below 0, straight toward another, as far as they stay so. Assumes
-- nothing.
use mathlib.Core.Path.{◌≡◌, sym, ◌∙◌, subst}
use mathlib.Core.Logic.{◌⊎◌, inl, inr}
use mathlib.Core.List.{List, [], ◌∷◌}
use Prim.Native.Nat.{ℕ, zero, suc, ◌-◌, ◌*◌, ◌≤◌, ◌<◌}
use native.Mathlib.Nat.{le_of_mul-le-mul_right, mul-le-mul_right, le_of_lt, zero-lt-suc}
use native.Mathlib.Omega.{arith}
use lib.IntN.{ℤ, pos, negsuc, ◌+ℤ◌, ◌*ℤ◌}
use Rattle.wide_integers.proofs.Polynomials.{own_pos, own_neg, rep_add, rep_mul, equal}
use Rattle.wide_integers.proofs.Order.{rep_same}
use Rattle.wide_integers.proofs.Signs.{Nonneg, Negative, sign_of, nonneg_sum, nonneg_times, natural, nonneg_as, clash_signs}

-- a number here, and there
pub record Two : Type 0 where
  pub here : ℤ
  pub there : ℤ

-- m : n of the way
abbrev pub between : ℤ → ℤ → Two → ℤ
between m n p = m *ℤ p.here +ℤ n *ℤ p.there

abbrev pub Here : List Two → Type 0
Here [] = Unit {0}
Here (p ∷ ps) = Nonneg p.here × Here ps

abbrev pub There : List Two → Type 0
There [] = Unit {0}
There (p ∷ ps) = Nonneg p.there × There ps

abbrev pub Held : ℤ → ℤ → List Two → Type 0
Held m n [] = Unit {0}
Held m n (p ∷ ps) = Nonneg (between m n p) × Held m n ps

-- it is 0, and would be below 0 further on
pub record Stop (m n : ℤ) (p : Two) : Type 0 where
  pub zero : between m n p ≡ pos 0
  pub below : Negative p.there

abbrev pub Stopped : ℤ → ℤ → List Two → Type 0
Stopped m n [] = ⊥
Stopped m n (p ∷ ps) = Stop m n p ⊎ Stopped m n ps

pub data Moved (ps : List Two) : Type 0 where
  arrives : There ps → Moved ps
  stops : (m n : ℕ) → Held (pos (suc m)) (pos n) ps → Stopped (pos (suc m)) (pos n) ps → Moved ps

-- ---- a number that falls below 0 on the way
falls : (a F b G : ℕ) → Nonneg (pos a *ℤ pos F +ℤ pos b *ℤ negsuc G) → b * suc G ≤ a * F
falls a F b G h =
    let e = rep_same (rep_add (rep_mul (own_pos a) (own_pos F)) (rep_mul (own_pos b) (own_neg G))) (own_pos h.size) h.is in
    omega (arith, e)

fallen : (a F b G : ℕ) → Negative (pos a *ℤ pos F +ℤ pos b *ℤ negsuc G) → a * F < b * suc G
fallen a F b G h =
    let e = rep_same (rep_add (rep_mul (own_pos a) (own_pos F)) (rep_mul (own_pos b) (own_neg G))) (own_neg h.less) h.is in
    omega (arith, e)

stays : (a F b G : ℕ) → b * suc G ≤ a * F → Nonneg (pos a *ℤ pos F +ℤ pos b *ℤ negsuc G)
stays a F b G h = record {
  size = a * F - b * suc G;
  is = equal (rep_add (rep_mul (own_pos a) (own_pos F)) (rep_mul (own_pos b) (own_neg G))) (own_pos (a * F - b * suc G)) (omega (arith, h));
}

-- one that holds at m : n holds before
before : (a F b G U T : ℕ) → b * suc G ≤ a * F → a * U < b * suc T → U * suc G ≤ suc T * F
before a F b G U T h g =
    let h' : b * suc G * U ≤ a * F * U = mul-le-mul_right U h in
    let g' : a * U * F ≤ b * suc T * F = mul-le-mul_right F (le_of_lt g) in
    let p : 0 < b = positive b (a * U) (suc T) g in
    let k : U * suc G * b ≤ suc T * F * b = omega (arith, h', g') in
    le_of_mul-le-mul_right k p
  where
    positive : (b n m : ℕ) → n < b * m → 0 < b
    positive zero n m g = absurd (omega (arith, g))
    positive (suc b) n m g = zero-lt-suc b

-- .. for each of a list
hold_one : (m n U T : ℕ) (p : Two) → suc m * U < n * suc T → Nonneg p.here → Nonneg (between (pos (suc m)) (pos n) p)
    → Nonneg (between (pos (suc T)) (pos U) p)
hold_one m n U T p l h g = elim (sign_of p.there) [
  | inl v ↦ nonneg_as (λ s. pos (suc T) *ℤ sym h.is s +ℤ pos U *ℤ sym v.is s)
      (stays (suc T) h.size U v.less
      (before (suc m) h.size n v.less U T
      (falls (suc m) h.size n v.less (nonneg_as (λ s. pos (suc m) *ℤ h.is s +ℤ pos n *ℤ v.is s) g)) l))
  | inr v ↦ nonneg_sum (nonneg_times (natural (suc T)) h) (nonneg_times (natural U) v)
]

hold_all : (m n U T : ℕ) (ps : List Two) → suc m * U < n * suc T → Here ps → Held (pos (suc m)) (pos n) ps → Held (pos (suc T)) (pos U) ps
hold_all m n U T [] l h g = tt
hold_all m n U T (p ∷ ps) l h g = (hold_one m n U T p l h.0 g.0, hold_all m n U T ps l h.1 g.1)

reach_all : (U T : ℕ) (ps : List Two) → Here ps → There ps → Held (pos (suc T)) (pos U) ps
reach_all U T [] h g = tt
reach_all U T (p ∷ ps) h g =
    (nonneg_sum (nonneg_times (natural (suc T)) h.0) (nonneg_times (natural U) g.0), reach_all U T ps h.1 g.1)

-- the new one is 0
module _ (p : Two) (h : Nonneg p.here) (v : Negative p.there) where
  zero_is : between (pos (suc v.less)) (pos h.size) p ≡ pos 0
  zero_is =
      (λ s. pos (suc v.less) *ℤ h.is s +ℤ pos h.size *ℤ v.is s)
      ∙ equal (rep_add (rep_mul (own_pos (suc v.less)) (own_pos h.size)) (rep_mul (own_pos h.size) (own_neg v.less)))
      (own_pos 0) (omega arith)

  held_new : Nonneg (between (pos (suc v.less)) (pos h.size) p)
  held_new = nonneg_as (sym zero_is) (natural 0)

  stop_new : Stop (pos (suc v.less)) (pos h.size) p
  stop_new = record { zero = zero_is; below = v }

pub move : (ps : List Two) → Here ps → Moved ps
move [] h = arrives tt
move (p ∷ ps) h = go (move ps h.1)
  where
    go : Moved ps → Moved (p ∷ ps)
    go (arrives t) = elim (sign_of p.there) [
      | inl v ↦ stops v.less h.0.size (held_new p h.0 v, reach_all h.0.size v.less ps h.1 t) (inl (stop_new p h.0 v))
      | inr v ↦ arrives (v, t)
    ]
    go (stops m n held stopped) = elim (sign_of (between (pos (suc m)) (pos n) p)) [
      | inr v ↦ stops m n (v, held) (inr stopped)
      | inl w ↦ elim (sign_of p.there) [
        | inr v ↦ absurd (clash_signs (nonneg_sum (nonneg_times (natural (suc m)) h.0) (nonneg_times (natural n) v)) w)
        | inl v ↦
            let l : suc m * h.0.size < n * suc v.less =
            fallen (suc m) h.0.size n v.less
            (subst Negative (λ s. pos (suc m) *ℤ h.0.is s +ℤ pos n *ℤ v.is s) w) in
            stops v.less h.0.size (held_new p h.0 v, hold_all m n h.0.size v.less ps l h.1 held)
            (inl (stop_new p h.0 v))
      ]
    ]
