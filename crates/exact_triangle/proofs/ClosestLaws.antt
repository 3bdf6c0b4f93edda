-- The nearest whole number, of two the even one, moves with a number that is moved by an even one, up or down. Assumes nothing.
use Rattle.std.proofs.Common.{◌≡◌, ℕ, zero, suc, ◌+◌, ◌*◌, ◌/◌, ◌%◌, ◌<◌, ◌≤◌, Bool, true, false, ltb, sym, refl, ap, ◌∙◌, mod-lt}
use Rattle.std.proofs.Common.{lt_of_mul-lt-mul_right, div-add-mod', arith, ltb-false, ltb-true}
use Prim.Native.Nat.{compare, Ordering}
use lib.Ieee.{nearest}
use lib.Ieee.Nearest.{closest}
use Rattle.arithmetic.proofs.RoundingError.{closest_near, cmp, Cmp}

-- 2 w d + 2 r = 2 q d + d with r < d
tie_parts : (w r q d : ℕ) → r < d → 2 * (w * d + r) ≡ 2 * (q * d) + d → (w ≡ q) × (r * 2 ≡ d)
tie_parts w r q d l h =
    let u : w * d < (q + 1) * d = omega (arith, l, h) in
    let v : q * d < (w + 1) * d = omega (arith, l, h) in
    let u' = lt_of_mul-lt-mul_right d u in
    let v' = lt_of_mul-lt-mul_right d v in
    let e : w ≡ q = omega (arith, u', v') in
    let e' : w * d ≡ q * d = ap (λ (z : ℕ). z * d) e in
    (e, omega (arith, h, e'))

-- halfway, the even one
even_at_tie : (a d q : ℕ) → 0 < d → 2 * a ≡ 2 * (q * d) + d → closest a d % 2 ≡ 0
even_at_tie a d q D h =
    let t = tie_parts (a / d) (a % d) q d (mod-lt a D) (ap (λ (z : ℕ). 2 * z) (div-add-mod' a d) ∙ h) in
    go (a / d) (compare (a % d * 2) d) (cmp (a % d * 2) d) t.1
  where
    go : (w : ℕ) (o : Ordering) → Cmp o (a % d * 2) d → a % d * 2 ≡ d → nearest w o % 2 ≡ 0
    go w Ordering.lt c e = absurd (omega (arith, c, e))
    go w Ordering.eq c e = omega arith
    go w Ordering.gt c e = absurd (omega (arith, c, e))

-- of two that follow each other one is odd
not_both : (x y : ℕ) → y ≡ x + 1 → x % 2 ≡ 0 → y % 2 ≡ 0 → ⊥
not_both x y e h g = absurd (let k : (x + 1) % 2 ≡ 0 = ap (λ (z : ℕ). z % 2) (sym e) ∙ g in omega (arith, h, k))

-- what is half a unit away at most, and even where it is halfway, is the nearest
closest_is : (a d q : ℕ) → 0 < d → 2 * (q * d) ≤ 2 * a + d → 2 * a ≤ 2 * (q * d) + d
    → (2 * (q * d) ≡ 2 * a + d → q % 2 ≡ 0) → (2 * a ≡ 2 * (q * d) + d → q % 2 ≡ 0) → closest a d ≡ q
closest_is a d q D h g e f =
    let c = closest a d in
    let n = closest_near a d D in
    let n₀ = n.0 in
    let n₁ = n.1 in
    let u : (2 * c) * d < (2 * q + 3) * d = omega (arith, n₀, g, D) in
    let v : (2 * q) * d < (2 * c + 3) * d = omega (arith, n₁, h, D) in
    let u' = lt_of_mul-lt-mul_right d u in
    let v' = lt_of_mul-lt-mul_right d v in
    go (ltb c q) (ltb q c) (ltb-true c q) (ltb-false c q) (ltb-true q c) (ltb-false q c) n₀ n₁ u' v'
  where
    go : (x y : Bool) → (x ≡ true → closest a d < q) → (x ≡ false → q ≤ closest a d) → (y ≡ true → q < closest a d)
        → (y ≡ false → closest a d ≤ q) → 2 * (closest a d * d) ≤ 2 * a + d → 2 * a ≤ 2 * (closest a d * d) + d
        → 2 * closest a d < 2 * q + 3 → 2 * q < 2 * closest a d + 3 → closest a d ≡ q
    go true y p p' r r' n₀ n₁ u v =
        let l = p refl in
        let s : q ≡ closest a d + 1 = omega (arith, l, v) in
        let s' : q * d ≡ (closest a d + 1) * d = ap (λ (z : ℕ). z * d) s in
        let t : 2 * (q * d) ≡ 2 * a + d = omega (arith, n₁, h, s') in
        let t' : 2 * a ≡ 2 * (closest a d * d) + d = omega (arith, t, s') in
        let k = e t in
        let k' = even_at_tie a d (closest a d) D t' in
        absurd (not_both (closest a d) q s k' k)
    go false true p p' r r' n₀ n₁ u v =
        let l = r refl in
        let s : closest a d ≡ q + 1 = omega (arith, l, u) in
        let s' : closest a d * d ≡ (q + 1) * d = ap (λ (z : ℕ). z * d) s in
        let t : 2 * a ≡ 2 * (q * d) + d = omega (arith, n₀, g, s') in
        let k = f t in
        let k' = even_at_tie a d q D t in
        absurd (not_both q (closest a d) s k k')
    go false false p p' r r' n₀ n₁ u v = let l = p' refl in let m = r' refl in omega (arith, l, m)

-- ---- moved by an even number, here 2 h
module _ (N d h : ℕ) (D : 0 < d) where
  abbrev c : ℕ
  c = closest N d

  -- halfway above
  over : 2 * (c * d) ≡ 2 * N + d → c % 2 ≡ 0
  over e = go c e (λ q k. even_at_tie N d q D k)
    where
      go : (c : ℕ) → 2 * (c * d) ≡ 2 * N + d → ((q : ℕ) → 2 * N ≡ 2 * (q * d) + d → closest N d % 2 ≡ 0) → closest N d % 2 ≡ 0
      go zero e f = absurd (omega (arith, e, D))
      go (suc q) e f = f q (omega (arith, e))

  under : 2 * N ≡ 2 * (c * d) + d → c % 2 ≡ 0
  under e = even_at_tie N d c D e

  pub closest_up : closest (N + 2 * h * d) d ≡ 2 * h + c
  closest_up =
      let n = closest_near N d D in
      let n₀ = n.0 in
      let n₁ = n.1 in
      closest_is (N + 2 * h * d) d (2 * h + c) D (omega (arith, n₀)) (omega (arith, n₁))
      (λ e. let k = over (omega (arith, e)) in even h c k) (λ e. let k = under (omega (arith, e)) in even h c k)
    where
      even : (h c : ℕ) → c % 2 ≡ 0 → (2 * h + c) % 2 ≡ 0
      even h c k = omega (arith, k)

  pub closest_down : (A q : ℕ) → A + N ≡ 2 * h * d → q + c ≡ 2 * h → closest A d ≡ q
  closest_down A q e f =
      let n = closest_near N d D in
      let n₀ = n.0 in
      let n₁ = n.1 in
      let f' : (q + c) * d ≡ 2 * h * d = ap (λ (z : ℕ). z * d) f in
      closest_is A d q D (omega (arith, n₁, e, f')) (omega (arith, n₀, e, f'))
      (λ t. let k = under (omega (arith, t, e, f')) in even h c q k f) (λ t. let k = over (omega (arith, t, e, f')) in even h c q k f)
    where
      even : (h c q : ℕ) → c % 2 ≡ 0 → q + c ≡ 2 * h → q % 2 ≡ 0
      even h c q k f = omega (arith, k, f)
