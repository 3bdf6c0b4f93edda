-- The decision from its parts. Assumes nothing.
use mathlib.Core.Path.{◌≡◌, refl, sym, ap, ◌∙◌}
use mathlib.Core.Bool.{Bool, true, false, cond, ◌&&◌, ◌||◌}
use Prim.Native.Nat.{ℕ, zero, suc}
use lib.Signed.{lt_z, le_z}
use lib.IntN.{ℤ, pos, negsuc, neg_ℤ, ◌+ℤ◌, ◌-ℤ◌, ◌*ℤ◌}
use native.Mathlib.Omega.{arith}
use borrow.Author.Tests.{lt-ltb, le-ltb}
use Rattle.wide_integers.proofs.Polynomials.{ring}
use Rattle.exact_depth.specs.declared.projection.Point.{Point}
use Rattle.exact_triangle.specs.Line.{Line}
use Rattle.drill.specs.Drill.{dot, square}
use Rattle.drill.specs.Decision.{FromAxis, corner_in, side_in, level, nearest_in, plane_in, touched_by}
use Rattle.drill.specs.Code.{limit_of, outline_of, near_of, far_of, plane_of}

nested : (p q r s t u v : Bool)
    → (p || (q || (r || (s || (t || (u || v)))))) ≡ ((p || (q || (r || (s || (t || u))))) || v)
nested true q r s t u v = refl
nested false true r s t u v = refl
nested false false true s t u v = refl
nested false false false true t u v = refl
nested false false false false true u v = refl
nested false false false false false u v = refl

module _ (l : Line) (ρ : ℕ) (a b c : FromAxis) where
  abbrev R : ℤ
  R = limit_of l ρ

  pub touched_parts : touched_by l ρ a b c ≡ (outline_of l ρ a b c || plane_of l ρ a b c)
  unfolding touched_by outline_of plane_of near_of far_of
  touched_parts =
      nested (corner_in R a) (corner_in R b) (corner_in R c) (side_in ρ l.direction R a b) (side_in ρ l.direction R b c)
      (side_in ρ l.direction R c a) (plane_of l ρ a b c)

  -- ---- the outline, one law for each place where the code answers
  abbrev ab : Bool
  ab = side_in ρ l.direction R a b

  abbrev bc : Bool
  bc = side_in ρ l.direction R b c

  abbrev ca : Bool
  ca = side_in ρ l.direction R c a

-- ---- the plane's point
module _ (near far : Bool) (i j k f h : ℤ) where
  pub nearest_low : {r : Bool} → lt_z f (pos 0) ≡ true → r ≡ near → r ≡ nearest_in near far i j k f h
  nearest_low e g =
      g ∙ sym (ap (λ (b : Bool). cond b near (cond (lt_z h (pos 0)) far (le_z (pos 0) i && (le_z (pos 0) j && le_z (pos 0) k)))) e)

  pub nearest_high : {r : Bool} → lt_z f (pos 0) ≡ false → lt_z h (pos 0) ≡ true → r ≡ far → r ≡ nearest_in near far i j k f h
  nearest_high e d g =
      g ∙ sym (ap (λ (b : Bool). cond b near (cond (lt_z h (pos 0)) far (le_z (pos 0) i && (le_z (pos 0) j && le_z (pos 0) k)))) e
      ∙ ap (λ (b : Bool). cond b far (le_z (pos 0) i && (le_z (pos 0) j && le_z (pos 0) k))) d)

  pub nearest_crossing : {r : Bool} → lt_z f (pos 0) ≡ false → lt_z h (pos 0) ≡ false
      → r ≡ (le_z (pos 0) i && (le_z (pos 0) j && le_z (pos 0) k)) → r ≡ nearest_in near far i j k f h
  nearest_crossing e d g =
      g ∙ sym (ap (λ (b : Bool). cond b near (cond (lt_z h (pos 0)) far (le_z (pos 0) i && (le_z (pos 0) j && le_z (pos 0) k)))) e
      ∙ ap (λ (b : Bool). cond b far (le_z (pos 0) i && (le_z (pos 0) j && le_z (pos 0) k))) d)

  abbrev backward : Bool
  backward = nearest_in near far (neg_ℤ i) (neg_ℤ j) (neg_ℤ k) (neg_ℤ f) (neg_ℤ h)

  pub plane_forward : {r : Bool} → lt_z (pos 0) (i +ℤ j +ℤ k) ≡ true → r ≡ nearest_in near far i j k f h → r ≡ plane_in near far i j k f h
  unfolding plane_in
  plane_forward e g =
      g ∙ sym (ap (λ (b : Bool). cond b (nearest_in near far i j k f h) (cond (lt_z (i +ℤ j +ℤ k) (pos 0)) backward near)) e)

  pub plane_backward : {r : Bool} → lt_z (pos 0) (i +ℤ j +ℤ k) ≡ false → lt_z (i +ℤ j +ℤ k) (pos 0) ≡ true
      → r ≡ nearest_in near far (neg_ℤ i) (neg_ℤ j) (neg_ℤ k) (neg_ℤ f) (neg_ℤ h) → r ≡ plane_in near far i j k f h
  unfolding plane_in
  plane_backward e d g =
      g ∙ sym (ap (λ (b : Bool). cond b (nearest_in near far i j k f h) (cond (lt_z (i +ℤ j +ℤ k) (pos 0)) backward near)) e
      ∙ ap (λ (b : Bool). cond b backward near) d)

  pub plane_level : {r : Bool} → lt_z (pos 0) (i +ℤ j +ℤ k) ≡ false → lt_z (i +ℤ j +ℤ k) (pos 0) ≡ false → r ≡ near
      → r ≡ plane_in near far i j k f h
  unfolding plane_in
  plane_level e d g =
      g ∙ sym (ap (λ (b : Bool). cond b (nearest_in near far i j k f h) (cond (lt_z (i +ℤ j +ℤ k) (pos 0)) backward near)) e
      ∙ ap (λ (b : Bool). cond b backward near) d)

-- below 0 the other way round
pub negated_below : (z : ℤ) → lt_z (neg_ℤ z) (pos 0) ≡ lt_z (pos 0) z
negated_below (pos zero) = refl
negated_below (pos (suc n)) = sym (lt-ltb 0 (suc n) (omega arith))
negated_below (negsuc n) = le-ltb (suc n) 0 (omega arith)

-- ---- the direction the other way
pub opposite : Point → Point
opposite p = record { x = neg_ℤ p.x; y = neg_ℤ p.y; z = neg_ℤ p.z }

one : (p q r a b c : ℤ)
    → (neg_ℤ q -ℤ neg_ℤ r) *ℤ a +ℤ (neg_ℤ r -ℤ neg_ℤ p) *ℤ b +ℤ (neg_ℤ p -ℤ neg_ℤ q) *ℤ c
    ≡ neg_ℤ ((q -ℤ r) *ℤ a +ℤ (r -ℤ p) *ℤ b +ℤ (p -ℤ q) *ℤ c)
one p q r a b c = simp ring

dot_opposite : (p q : Point) → dot p (opposite q) ≡ neg_ℤ (dot p q)
unfolding opposite
dot_opposite p q = simp ring

square_opposite : (p : Point) → square (opposite p) ≡ square p
unfolding opposite
square_opposite p = simp ring

level_opposite : (p q r : ℤ) (a b c : Point) → level (neg_ℤ p) (neg_ℤ q) (neg_ℤ r) a b c ≡ opposite (level p q r a b c)
unfolding opposite
level_opposite p q r a b c = λ n. record {
  x = one p q r a.x b.x c.x n;
  y = one p q r a.y b.y c.y n;
  z = one p q r a.z b.z c.z n;
}

pub reversed_square : (p q r : ℤ) (a b c : Point) → square (level (neg_ℤ p) (neg_ℤ q) (neg_ℤ r) a b c) ≡ square (level p q r a b c)
reversed_square p q r a b c = ap square (level_opposite p q r a b c) ∙ square_opposite (level p q r a b c)

pub reversed_dot : (p q r : ℤ) (a b c : Point) (x : Point)
    → dot x (level (neg_ℤ p) (neg_ℤ q) (neg_ℤ r) a b c) ≡ neg_ℤ (dot x (level p q r a b c))
reversed_dot p q r a b c x = ap (λ (z : Point). dot x z) (level_opposite p q r a b c) ∙ dot_opposite x (level p q r a b c)
