-- Numbers of three words and their products, to any base B. Assumes nothing.
use Rattle.std.proofs.Common.{◌≡◌, ℕ, suc, ◌+◌, ◌*◌, ◌/◌, ◌%◌, ◌<◌, ◌≤◌, sym, ap, ◌∙◌, mul-le-mul_right, arith}
use Rattle.wide_integers.specs.Value.{base}
use Rattle.wide_integers.proofs.Limbs.{three}
use Rattle.wide_integers.specs.Triples.{TimesAdded}

-- ---- one word times one, by halves
pub schoolbook : (C x₁ x₀ y₁ y₀ c₁ c₀ d₁ d₀ p₁ p₀ q₁ q₀ r₁ r₀ : ℕ) → x₀ * y₀ + c₀ + d₀ ≡ p₁ * C + p₀
    → x₁ * y₀ + p₁ + c₁ ≡ q₁ * C + q₀ → x₀ * y₁ + q₀ + d₁ ≡ r₁ * C + r₀
    → (x₁ * y₁ + q₁ + r₁) * (C * C) + (r₀ * C + p₀) ≡ (x₁ * C + x₀) * (y₁ * C + y₀) + (c₁ * C + c₀) + (d₁ * C + d₀)
schoolbook C x₁ x₀ y₁ y₀ c₁ c₀ d₁ d₀ p₁ p₀ q₁ q₀ r₁ r₀ e f g =
    let f' : (x₁ * y₀ + p₁ + c₁) * C ≡ (q₁ * C + q₀) * C = ap (λ (z : ℕ). z * C) f in
    let g' : (x₀ * y₁ + q₀ + d₁) * C ≡ (r₁ * C + r₀) * C = ap (λ (z : ℕ). z * C) g in
    omega (arith, e, f', g')

divided : (n : ℕ) → n ≡ n / 4294967296 * 4294967296 + n % 4294967296
divided n = omega arith

digits : (r p : ℕ) → r % 4294967296 * 4294967296 + p % 4294967296 < base
digits r p = omega arith

pub times_added : (a b c d p q r : ℕ) → p ≡ a % 4294967296 * (b % 4294967296) + c % 4294967296 + d % 4294967296
    → q ≡ a / 4294967296 * (b % 4294967296) + p / 4294967296 + c / 4294967296
    → r ≡ a % 4294967296 * (b / 4294967296) + q % 4294967296 + d / 4294967296
    → a / 4294967296 * (b / 4294967296) + q / 4294967296 + r / 4294967296 < base
    → TimesAdded a b c d (record {
      high = a / 4294967296 * (b / 4294967296) + q / 4294967296 + r / 4294967296;
      low = r % 4294967296 * 4294967296 + p % 4294967296;
    })
times_added a b c d p q r hp hq hr small =
    record {
      sum =
          schoolbook 4294967296 (a / 4294967296) (a % 4294967296) (b / 4294967296) (b % 4294967296) (c / 4294967296) (c % 4294967296)
          (d / 4294967296) (d % 4294967296) (p / 4294967296) (p % 4294967296) (q / 4294967296) (q % 4294967296) (r / 4294967296)
          (r % 4294967296) (sym hp ∙ divided p) (sym hq ∙ divided q) (sym hr ∙ divided r)
          ∙ (λ i. sym (divided a) i * sym (divided b) i + sym (divided c) i + sym (divided d) i);
      high = small;
      low = digits r p;
    }

-- ---- three words
module _ (B : ℕ) where
  -- .. times one, more added
  pub row_words : (h m l k hc mc lc h₁ h₀ m₁ m₀ l₁ l₀ : ℕ) → l₁ * B + l₀ ≡ l * k + lc + 0 → m₁ * B + m₀ ≡ m * k + mc + l₁
      → h₁ * B + h₀ ≡ h * k + hc + m₁ → three B h₀ m₀ l₀ + h₁ * (B * (B * B)) ≡ three B h m l * k + three B hc mc lc
  row_words h m l k hc mc lc h₁ h₀ m₁ m₀ l₁ l₀ e f g =
      let f' : (m₁ * B + m₀) * B ≡ (m * k + mc + l₁) * B = ap (λ (z : ℕ). z * B) f in
      let g' : (h₁ * B + h₀) * (B * B) ≡ (h * k + hc + m₁) * (B * B) = ap (λ (z : ℕ). z * (B * B)) g in
      omega (arith, e, f', g')

  -- .. a sum and a difference, with what passes
  pub add_words : (ha ma la hb mb lb h m l c d e k : ℕ) → l + c * B ≡ la + lb + k → m + d * B ≡ ma + mb + c → h + e * B ≡ ha + hb + d
      → three B h m l + e * (B * (B * B)) ≡ three B ha ma la + three B hb mb lb + k
  add_words ha ma la hb mb lb h m l c d e k x y z =
      let y' : (m + d * B) * B ≡ (ma + mb + c) * B = ap (λ (z : ℕ). z * B) y in
      let z' : (h + e * B) * (B * B) ≡ (ha + hb + d) * (B * B) = ap (λ (n : ℕ). n * (B * B)) z in
      omega (arith, x, y', z')

  pub subtract_words : (ha ma la hb mb lb h m l c d e k : ℕ) → l + (lb + k) ≡ la + c * B → m + (mb + c) ≡ ma + d * B
      → h + (hb + d) ≡ ha + e * B
      → three B h m l + (three B hb mb lb + k) ≡ three B ha ma la + e * (B * (B * B))
  subtract_words ha ma la hb mb lb h m l c d e k x y z =
      let y' : (m + (mb + c)) * B ≡ (ma + d * B) * B = ap (λ (z : ℕ). z * B) y in
      let z' : (h + (hb + d)) * (B * B) ≡ (ha + e * B) * (B * B) = ap (λ (n : ℕ). n * (B * B)) z in
      omega (arith, x, y', z')

  -- .. moved by a word: what passes becomes the highest
  moved : (o h m l : ℕ) → three B h m l + o * (B * (B * B)) ≡ three B o h m * B + l
  moved o h m l = omega arith

  rows : (A b₂ b₁ b₀ s₁ l₁ s₂ l₂ s₃ l₃ : ℕ) → s₁ * B + l₁ ≡ A * b₀ + 0 → s₂ * B + l₂ ≡ A * b₁ + s₁ → s₃ * B + l₃ ≡ A * b₂ + s₂
      → s₃ * (B * (B * B)) + three B l₃ l₂ l₁ ≡ A * three B b₂ b₁ b₀
  rows A b₂ b₁ b₀ s₁ l₁ s₂ l₂ s₃ l₃ e f g =
      let f' : (s₂ * B + l₂) * B ≡ (A * b₁ + s₁) * B = ap (λ (z : ℕ). z * B) f in
      let g' : (s₃ * B + l₃) * (B * B) ≡ (A * b₂ + s₂) * (B * B) = ap (λ (z : ℕ). z * (B * B)) g in
      omega (arith, e, f', g')

  -- .. times three: A times each word, and the rows below, moved by a word
  pub multiply_words : (A b₂ b₁ b₀ o₁ h₁ m₁ l₁ o₂ h₂ m₂ l₂ o₃ h₃ m₃ l₃ : ℕ)
      → three B h₁ m₁ l₁ + o₁ * (B * (B * B)) ≡ A * b₀ + 0
      → three B h₂ m₂ l₂ + o₂ * (B * (B * B)) ≡ A * b₁ + three B o₁ h₁ m₁
      → three B h₃ m₃ l₃ + o₃ * (B * (B * B)) ≡ A * b₂ + three B o₂ h₂ m₂
      → three B o₃ h₃ m₃ * (B * (B * B)) + three B l₃ l₂ l₁ ≡ A * three B b₂ b₁ b₀
  multiply_words A b₂ b₁ b₀ o₁ h₁ m₁ l₁ o₂ h₂ m₂ l₂ o₃ h₃ m₃ l₃ e f g =
      rows A b₂ b₁ b₀ (three B o₁ h₁ m₁) l₁ (three B o₂ h₂ m₂) l₂ (three B o₃ h₃ m₃) l₃ (sym (moved o₁ h₁ m₁ l₁) ∙ e)
      (sym (moved o₂ h₂ m₂ l₂) ∙ f) (sym (moved o₃ h₃ m₃ l₃) ∙ g)

  -- .. chosen or not
  pub chosen_words : (s h m l : ℕ) → three B (s * h) (s * m) (s * l) ≡ s * three B h m l
  chosen_words s h m l = omega arith

  -- .. the highest word lowered by H, up to a multiple of B
  pub signed_words : (H h m l t s : ℕ) → t + H ≡ h + s * B → three B t m l + H * (B * B) ≡ three B h m l + s * (B * (B * B))
  signed_words H h m l t s e =
      let e' : (t + H) * (B * B) ≡ (h + s * B) * (B * B) = ap (λ (z : ℕ). z * (B * B)) e in
      omega (arith, e')

  -- .. are below B³
  pub below_cube : (h m l : ℕ) → h < B → m < B → l < B → three B h m l < B * (B * B)
  below_cube h m l hh hm hl =
      let g : suc h * (B * B) ≤ B * (B * B) = mul-le-mul_right (B * B) hh in
      let f : suc m * B ≤ B * B = mul-le-mul_right B hm in
      omega (arith, g, f, hl)

  -- ---- two words by two
  pub pairs_words : (a₁ a₀ b₁ b₀ h₀ l₀ h₁ l₁ g₀ k₀ g₁ k₁ : ℕ) → h₀ * B + l₀ ≡ a₀ * b₀ + 0 + 0 → h₁ * B + l₁ ≡ a₁ * b₀ + h₀ + 0
      → g₀ * B + k₀ ≡ a₀ * b₁ + l₁ + 0 → g₁ * B + k₁ ≡ a₁ * b₁ + h₁ + g₀
      → (g₁ * B + k₁) * (B * B) + (k₀ * B + l₀) ≡ (a₁ * B + a₀) * (b₁ * B + b₀)
  pairs_words a₁ a₀ b₁ b₀ h₀ l₀ h₁ l₁ g₀ k₀ g₁ k₁ e f g k =
      let f' : (h₁ * B + l₁) * B ≡ (a₁ * b₀ + h₀ + 0) * B = ap (λ (z : ℕ). z * B) f in
      let g' : (g₀ * B + k₀) * B ≡ (a₀ * b₁ + l₁ + 0) * B = ap (λ (z : ℕ). z * B) g in
      let k' : (g₁ * B + k₁) * (B * B) ≡ (a₁ * b₁ + h₁ + g₀) * (B * B) = ap (λ (z : ℕ). z * (B * B)) k in
      omega (arith, e, f', g', k')

  pub pair_words : (h₁ h₀ x₁ x₀ w₁ w₀ c d : ℕ) → w₀ + (x₀ + 0) ≡ h₀ + c * B → w₁ + (x₁ + c) ≡ h₁ + d * B
      → w₁ * B + w₀ + (x₁ * B + x₀) ≡ h₁ * B + h₀ + d * (B * B)
  pair_words h₁ h₀ x₁ x₀ w₁ w₀ c d e f =
      let f' : (w₁ + (x₁ + c)) * B ≡ (h₁ + d * B) * B = ap (λ (z : ℕ). z * B) f in
      omega (arith, e, f')

  -- the highest of three words where they carry a sign
  pub signed_top : (H D hh σ v : ℕ) → hh + σ ≡ H → D + 1 ≡ B → three B hh (σ * D) v + σ * B ≡ H * (B * B) + v
  signed_top H D hh σ v e f =
      let e' : (hh + σ) * (B * B) ≡ H * (B * B) = ap (λ (z : ℕ). z * (B * B)) e in
      let f' : (D + 1) * (σ * B) ≡ B * (σ * B) = ap (λ (z : ℕ). z * (σ * B)) f in
      omega (arith, e', f')
