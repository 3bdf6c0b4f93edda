-- Numbers of two digits to any base C, and of one, as sums, differences and products leave them. Assumes nothing.
use Rattle.std.proofs.Common.{◌≡◌, ℕ, suc, ◌+◌, ◌-◌, ◌*◌, ◌<◌, ◌≤◌, Bool, true, false, ltb, sym, refl, ap, ◌∙◌, mul-le-mul_right, arith}
use Rattle.std.proofs.Common.{ltb-false, ltb-true}

-- two numbers below M that differ by a multiple of M are one
one_remainder : (X R M p q : ℕ) → X < M → R < M → X + p * M ≡ R + q * M → X ≡ R
one_remainder X R M p q hx hr e = go (ltb p q) (ltb-true p q) (ltb-false p q) (ltb q p) (ltb-true q p) (ltb-false q p)
  where
    go : (s : Bool) → (s ≡ true → p < q) → (s ≡ false → q ≤ p) → (t : Bool) → (t ≡ true → q < p) → (t ≡ false → p ≤ q) → X ≡ R
    go true f g t f' g' = let k : suc p * M ≤ q * M = mul-le-mul_right M (f refl) in absurd (omega (arith, k, e, hx))
    go false f g true f' g' = let k : suc q * M ≤ p * M = mul-le-mul_right M (f' refl) in absurd (omega (arith, k, e, hr))
    go false f g false f' g' =
        let k : p * M ≤ q * M = mul-le-mul_right M (g' refl) in
        let l : q * M ≤ p * M = mul-le-mul_right M (g refl) in
        omega (arith, k, l, e)

-- P - N + L is R, where both are known to lie from 0 to below M = 2 L and to differ by a multiple of M
pub remainder_is : (P N L R M p q : ℕ) → L + L ≡ M → N < P + L → P < N + L → R < M → P + L + p * M ≡ N + R + q * M → P + L ≡ N + R
remainder_is P N L R M p q w least most small e = shift (one_remainder (P + L - N) R M p q inside small moved)
  where
    inside : P + L - N < M
    inside = omega (arith, w, most)

    moved : P + L - N + p * M ≡ R + q * M
    moved = omega (arith, e, least)

    shift : P + L - N ≡ R → P + L ≡ N + R
    shift h = omega (arith, h, least)

module _ (C Z : ℕ) (w : Z + Z ≡ C) where
  whole : Z * C + Z * C ≡ C * C
  whole = let k : (Z + Z) * C ≡ C * C = ap (λ (n : ℕ). n * C) w in omega (arith, k)

  pub sum_pair : (ha la hb lb h l c d t s : ℕ) → l + c * C ≡ la + lb + 0 → h + d * C ≡ ha + hb + c → t + Z ≡ h + s * C
      → (ha * C + la + (hb * C + lb)) + Z * C + s * (C * C) ≡ (Z * C + Z * C) + (t * C + l) + d * (C * C)
  sum_pair ha la hb lb h l c d t s e f g =
      let f' : (h + d * C) * C ≡ (ha + hb + c) * C = ap (λ (n : ℕ). n * C) f in
      let g' : (t + Z) * C ≡ (h + s * C) * C = ap (λ (n : ℕ). n * C) g in
      omega (arith, e, f', g', whole)

  pub difference_pair : (ha la hb lb h l c d t s : ℕ) → l + (lb + 0) ≡ la + c * C → h + (hb + c) ≡ ha + d * C → t + Z ≡ h + s * C
      → (ha * C + la + Z * C) + Z * C + (d + s) * (C * C) ≡ (Z * C + (hb * C + lb)) + (t * C + l) + 1 * (C * C)
  difference_pair ha la hb lb h l c d t s e f g =
      let f' : (h + (hb + c)) * C ≡ (ha + d * C) * C = ap (λ (n : ℕ). n * C) f in
      let g' : (t + Z) * C ≡ (h + s * C) * C = ap (λ (n : ℕ). n * C) g in
      omega (arith, e, f', g', whole)

  -- (X - s C) (Y - t C), where X Y is h C + l, and h less t X and s Y is v
  product_parts : (XY tX sY st h l u v r c d e : ℕ) → h * C + l ≡ XY → u + (tX + 0) ≡ h + c * C → v + (sY + 0) ≡ u + d * C
      → r + Z ≡ v + e * C
      → (XY + st * (C * C)) + Z * C + (c + d + e) * (C * C) ≡ (tX * C + sY * C) + (r * C + l) + (st + 1) * (C * C)
  product_parts XY tX sY st h l u v r c d e x y z k =
      let y' : (u + (tX + 0)) * C ≡ (h + c * C) * C = ap (λ (n : ℕ). n * C) y in
      let z' : (v + (sY + 0)) * C ≡ (u + d * C) * C = ap (λ (n : ℕ). n * C) z in
      let k' : (r + Z) * C ≡ (v + e * C) * C = ap (λ (n : ℕ). n * C) k in
      omega (arith, x, y', z', k', whole)

  left_parts : (X Y s t : ℕ) → X * Y + s * C * (t * C) ≡ X * Y + s * t * (C * C)
  left_parts X Y s t = omega arith

  right_parts : (X Y s t : ℕ) → X * (t * C) + s * C * Y ≡ t * X * C + s * Y * C
  right_parts X Y s t = omega arith

  pub product_pair : (X Y s t h l u v r c d e : ℕ) → h * C + l ≡ X * Y → u + (t * X + 0) ≡ h + c * C → v + (s * Y + 0) ≡ u + d * C
      → r + Z ≡ v + e * C
      → (X * Y + s * C * (t * C)) + Z * C + (c + d + e) * (C * C) ≡ (X * (t * C) + s * C * Y) + (r * C + l) + (s * t + 1) * (C * C)
  product_pair X Y s t h l u v r c d e x y z k =
      ap (λ (n : ℕ). n + Z * C + (c + d + e) * (C * C)) (left_parts X Y s t)
      ∙ product_parts (X * Y) (t * X) (s * Y) (s * t) h l u v r c d e x y z k
      ∙ ap (λ (n : ℕ). n + (r * C + l) + (s * t + 1) * (C * C)) (sym (right_parts X Y s t))

-- ---- the order
module _ (C : ℕ) where
  pub pair_below : (h l : ℕ) → h < C → l < C → h * C + l < C * C
  pair_below h l hh hl = let g : suc h * C ≤ C * C = mul-le-mul_right C hh in omega (arith, g, hl)

  pub sign_less : (Z h l : ℕ) → l < C → h < Z → h * C + l < Z * C
  sign_less Z h l hl k = let g : suc h * C ≤ Z * C = mul-le-mul_right C k in omega (arith, g, hl)

  pub sign_not_less : (Z h l : ℕ) → Z ≤ h → Z * C ≤ h * C + l
  sign_not_less Z h l k = let g : Z * C ≤ h * C = mul-le-mul_right C k in omega (arith, g)

-- ---- (X - s E) (Y - t E), where X Y is H E + l, and H less t X and s Y is W
module _ (E : ℕ) where
  medium_parts : (XY tX sY st H l U W c d : ℕ) → H * E + l ≡ XY → U + tX ≡ H + c * E → W + sY ≡ U + d * E
      → (XY + st * (E * E)) + (c + d) * (E * E) ≡ (tX * E + sY * E) + (W * E + l) + st * (E * E)
  medium_parts XY tX sY st H l U W c d x y z =
      let y' : (U + tX) * E ≡ (H + c * E) * E = ap (λ (n : ℕ). n * E) y in
      let z' : (W + sY) * E ≡ (U + d * E) * E = ap (λ (n : ℕ). n * E) z in
      omega (arith, x, y', z')

  medium_left : (X Y s t : ℕ) → X * Y + s * E * (t * E) ≡ X * Y + s * t * (E * E)
  medium_left X Y s t = omega arith

  medium_right : (X Y s t : ℕ) → X * (t * E) + s * E * Y ≡ t * X * E + s * Y * E
  medium_right X Y s t = omega arith

  pub medium_pair : (X Y s t H l U W c d : ℕ) → H * E + l ≡ X * Y → U + t * X ≡ H + c * E → W + s * Y ≡ U + d * E
      → (X * Y + s * E * (t * E)) + (c + d) * (E * E) ≡ (X * (t * E) + s * E * Y) + (W * E + l) + s * t * (E * E)
  medium_pair X Y s t H l U W c d x y z =
      ap (λ (n : ℕ). n + (c + d) * (E * E)) (medium_left X Y s t)
      ∙ medium_parts (X * Y) (t * X) (s * Y) (s * t) H l U W c d x y z
      ∙ ap (λ (n : ℕ). n + (W * E + l) + s * t * (E * E)) (sym (medium_right X Y s t))

  -- W = v B + v₀ with its sign σ: v' is v with the highest digit turned
  pub medium_turned : (B h v v₀ v' σ l : ℕ) → v' + σ * B ≡ v + h → E ≡ B * B
      → (v' * B + v₀) * E + l + σ * (E * E) ≡ (v * B + v₀) * E + l + h * B * E
  medium_turned B h v v₀ v' σ l e f =
      let e' : (v' + σ * B) * (B * E) ≡ (v + h) * (B * E) = ap (λ (n : ℕ). n * (B * E)) e in
      let f' : E * (σ * E) ≡ B * B * (σ * E) = ap (λ (n : ℕ). n * (σ * E)) f in
      omega (arith, e', f')

-- the sum of what is known: P - N + L' is R' up to a multiple of M
pub medium_sum : (P N W L R M cd st σ : ℕ) → P + cd * M ≡ N + W + st * M → R + σ * M ≡ W + L → P + L + cd * M ≡ N + R + (st + σ) * M
medium_sum P N W L R M cd st σ e f = omega (arith, e, f)

-- six words by their top: T C + l is the number, with h C more that is H E C more than v' C + l
pub six_words : (T σB hE v v' h C k : ℕ) → T + σB ≡ hE + v → v' + σB ≡ v + h → T * C + k + h * C ≡ v' * C + k + hE * C
six_words T σB hE v v' h C k e f =
    let e' : (T + σB) * C ≡ (hE + v) * C = ap (λ (n : ℕ). n * C) e in
    let f' : (v' + σB) * C ≡ (v + h) * C = ap (λ (n : ℕ). n * C) f in
    omega (arith, e', f')

pub six_joined : (R L r P N Z : ℕ) → P + L ≡ N + R → r + L ≡ R + Z → r + N ≡ P + Z
six_joined R L r P N Z e f = omega (arith, e, f)

-- the lower digit of two, as a number with its sign
pub narrow_pair : (C Z h l t e : ℕ) → Z + Z ≡ C → t + Z ≡ l + e * C → h * C + l + Z + (Z + e) * C ≡ Z * C + t + (h + 1) * C
narrow_pair C Z h l t e w k = omega (arith, w, k)
