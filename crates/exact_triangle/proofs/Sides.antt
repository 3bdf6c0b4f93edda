-- On one axis: where the segment meets a triangle on the grid, the side of the triangle's own box touches the segment's. Assumes nothing.
use Rattle.std.proofs.Common.{◌≡◌, ℕ, suc, ◌+◌, ◌*◌, ◌^◌, ◌<◌, ◌≤◌, Bool, true, false, cond, ◌⊎◌, ℤ, pos, negsuc, ◌+ℤ◌, ◌-ℤ◌, ◌*ℤ◌, nat_abs}
use Rattle.std.proofs.Common.{sym, ap, ◌∙◌, inl, inr, le_trans, lt_of_le_of_lt, mul-le-mul_right, arith, lit<, lit≤}
use lib.IntN.{ -ℤ-+ℤ_cancel}
use lib.Signed.{le_z, shr_z}
use lib.Ieee.{Float, le, is_nan}
use Rattle.lists.proofs.JoinedTests.{and_both}
use Rattle.arithmetic.specs.Basic.{is_finite}
use Rattle.arithmetic.specs.Extremes.{minimum_of, maximum_of}
use Rattle.arithmetic.proofs.Order.{le_left_number, le_right_number, le_transitive}
use Rattle.arithmetic.proofs.ExtremesOrder.{minimum_below_first, minimum_below_second, maximum_above_first, maximum_above_second}
use Rattle.arithmetic.proofs.Numbers.{finite_number}
use Rattle.geometry.specs.Box.{touch_side}
use Rattle.wide_integers.specs.Sizes.{Sized}
use Rattle.exact_depth.specs.Meeting.{mix}
use Rattle.wide_integers.proofs.Integers.{pp, np}
use Rattle.wide_integers.proofs.Reading.{product_size, sum_size, difference_size}
use Rattle.wide_integers.proofs.Polynomials.{own, own_pos, own_neg, rep_add, rep_mul, ring}
use Rattle.wide_integers.proofs.Order.{rep_le, le_rep}
use Rattle.exact_triangle.specs.Line.{parts}
use Rattle.exact_triangle.specs.Grid.{units, nearest_to}
use Rattle.exact_triangle.specs.Box.{in_millimetres, floor_at, lesser, greater, low_side, high_side}
use Rattle.exact_triangle.proofs.Millimetres.{at_most, at_least}
use Rattle.exact_triangle.proofs.Floors.{le_z_trans, le_z_more, first_most, second_most, first_least, second_least}
use Rattle.exact_triangle.proofs.Floors.{OneOf, part_below, part_above, floor_above, floor_below, floor_size}

-- ---- the least of three floats, and the greatest
module _ (a b c : Float) (na : is_nan a ≡ false) (nb : is_nan b ≡ false) (nc : is_nan c ≡ false) (g : Float) where
  low_number : is_nan (minimum_of a b) ≡ false
  low_number = le_left_number (minimum_of a b) a (minimum_below_first a b na nb)

  high_number : is_nan (maximum_of a b) ≡ false
  high_number = le_right_number a (maximum_of a b) (maximum_above_first a b na nb)

  pub least_below : (le a g ≡ true) ⊎ ((le b g ≡ true) ⊎ (le c g ≡ true)) → le (minimum_of (minimum_of a b) c) g ≡ true
  least_below (inl h) =
      le_transitive _ (minimum_of a b) g (minimum_below_first (minimum_of a b) c low_number nc)
      (le_transitive _ a g (minimum_below_first a b na nb) h)
  least_below (inr (inl h)) =
      le_transitive _ (minimum_of a b) g (minimum_below_first (minimum_of a b) c low_number nc)
      (le_transitive _ b g (minimum_below_second a b na nb) h)
  least_below (inr (inr h)) = le_transitive _ c g (minimum_below_second (minimum_of a b) c low_number nc) h

  pub greatest_above : (le g a ≡ true) ⊎ ((le g b ≡ true) ⊎ (le g c ≡ true)) → le g (maximum_of (maximum_of a b) c) ≡ true
  greatest_above (inl h) =
      le_transitive g (maximum_of a b) _ (le_transitive g a _ h (maximum_above_first a b na nb))
      (maximum_above_first (maximum_of a b) c high_number nc)
  greatest_above (inr (inl h)) =
      le_transitive g (maximum_of a b) _ (le_transitive g b _ h (maximum_above_second a b na nb))
      (maximum_above_first (maximum_of a b) c high_number nc)
  greatest_above (inr (inr h)) = le_transitive g c _ h (maximum_above_second (maximum_of a b) c high_number nc)

pub each : {A B C A' B' C' : Type 0} → (A → A') → (B → B') → (C → C') → A ⊎ (B ⊎ C) → A' ⊎ (B' ⊎ C')
each f g h (inl x) = inl (f x)
each f g h (inr (inl x)) = inr (inl (g x))
each f g h (inr (inr x)) = inr (inr (h x))

-- ---- sizes
pub record EndsSized (o d : ℤ) (near far : ℕ) : Type 0 where
  pub origin : nat_abs o ≤ 268435456
  pub direction : nat_abs d ≤ 2147483648
  pub least : near ≤ 1073741824
  pub most : far ≤ 1073741824

pub floor_size_at : (o d s : ℤ) → nat_abs o ≤ 268435456 → nat_abs d ≤ 2147483648 → nat_abs s ≤ 1073741824
    → Sized 4294967297 (shr_z (pos parts *ℤ o +ℤ s *ℤ d) parts)
floor_size_at o d s h g l =
    let e =
    sum_size (product_size {x = pos parts} {y = o} (record { size = lit≤ {m = parts} {n = parts} tt }) (record { size = h }))
    (product_size {x = s} {y = d} (record { size = l }) (record { size = g })) in
    record { size = floor_size parts (lit< tt) (pos parts *ℤ o +ℤ s *ℤ d) 4294967296 (le_trans e.size (lit≤ tt)) }

chosen : (P : ℤ → Type 0) (b : Bool) (x y : ℤ) → P x → P y → P (cond b x y)
chosen P true x y p q = p
chosen P false x y p q = q

-- ---- corners A, B and C, weights i, j and k; from the origin O in the direction d
module _ (A B C O d : ℤ) (near far i j k : ℕ) (t : ℤ) (some : 0 < i + j + k)
    (lies : pos parts *ℤ mix i j k (A -ℤ O) (B -ℤ O) (C -ℤ O) ≡ t *ℤ d)
    (least : le_z (pos near *ℤ pos (i + j + k)) t ≡ true) (most : le_z t (pos far *ℤ pos (i + j + k)) ≡ true) where
  abbrev D : ℕ
  D = i + j + k

  abbrev end : ℕ → ℤ
  end s = pos parts *ℤ O +ℤ pos s *ℤ d

  abbrev mean : ℤ
  mean = mix i j k (pos parts *ℤ A) (pos parts *ℤ B) (pos parts *ℤ C)

  mean_is : mean ≡ t *ℤ d +ℤ pos D *ℤ (pos parts *ℤ O)
  mean_is =
      (λ s. mix i j k (pos parts *ℤ sym (-ℤ-+ℤ_cancel A O) s) (pos parts *ℤ sym (-ℤ-+ℤ_cancel B O) s)
      (pos parts *ℤ sym (-ℤ-+ℤ_cancel C O) s))
      ∙ apart (pos i) (pos j) (pos k) (pos parts) (A -ℤ O) (B -ℤ O) (C -ℤ O) O
      ∙ ap (λ (z : ℤ). z +ℤ pos D *ℤ (pos parts *ℤ O)) lies
    where
      apart : (i j k S a b c o : ℤ) → i *ℤ (S *ℤ (a +ℤ o)) +ℤ j *ℤ (S *ℤ (b +ℤ o)) +ℤ k *ℤ (S *ℤ (c +ℤ o))
          ≡ S *ℤ (i *ℤ a +ℤ j *ℤ b +ℤ k *ℤ c) +ℤ (i +ℤ j +ℤ k) *ℤ (S *ℤ o)
      apart i j k S a b c o = simp ring

  mean_below : (s : ℕ) → le_z (t *ℤ d) (pos D *ℤ (pos s *ℤ d)) ≡ true → le_z mean (pos D *ℤ end s) ≡ true
  mean_below s h =
      ap (λ (z : ℤ). le_z z (pos D *ℤ end s)) mean_is ∙ shift (t *ℤ d) (pos s *ℤ d) (pos parts *ℤ O) h
    where
      shift : (x y w : ℤ) → le_z x (pos D *ℤ y) ≡ true → le_z (x +ℤ pos D *ℤ w) (pos D *ℤ (w +ℤ y)) ≡ true
      shift x y w h =
          let e = rep_le (own x) (rep_mul (own_pos D) (own y)) h in
          le_rep (rep_add (own x) (rep_mul (own_pos D) (own w))) (rep_mul (own_pos D) (rep_add (own w) (own y))) (omega (arith, e))

  mean_above : (s : ℕ) → le_z (pos D *ℤ (pos s *ℤ d)) (t *ℤ d) ≡ true → le_z (pos D *ℤ end s) mean ≡ true
  mean_above s h =
      ap (le_z (pos D *ℤ end s)) mean_is ∙ shift (t *ℤ d) (pos s *ℤ d) (pos parts *ℤ O) h
    where
      shift : (x y w : ℤ) → le_z (pos D *ℤ y) x ≡ true → le_z (pos D *ℤ (w +ℤ y)) (x +ℤ pos D *ℤ w) ≡ true
      shift x y w h =
          let e = rep_le (rep_mul (own_pos D) (own y)) (own x) h in
          le_rep (rep_mul (own_pos D) (rep_add (own w) (own y))) (rep_add (own x) (rep_mul (own_pos D) (own w))) (omega (arith, e))

  -- a corner is at most the floor of an end, or at least that
  corner_below : (s : ℕ) → le_z (t *ℤ d) (pos D *ℤ (pos s *ℤ d)) ≡ true → OneOf (λ (w : ℤ). le_z w (floor_at O d s) ≡ true) A B C
  corner_below s h =
      each (floor_above parts (lit< tt) A (end s)) (floor_above parts (lit< tt) B (end s)) (floor_above parts (lit< tt) C (end s))
      (part_below i j k (pos parts *ℤ A) (pos parts *ℤ B) (pos parts *ℤ C) (end s) some (mean_below s h))

  corner_above : (s : ℕ) → le_z (pos D *ℤ (pos s *ℤ d)) (t *ℤ d) ≡ true → OneOf (λ (w : ℤ). le_z (floor_at O d s) w ≡ true) A B C
  corner_above s h =
      each (floor_below parts (lit< tt) A (end s)) (floor_below parts (lit< tt) B (end s)) (floor_below parts (lit< tt) C (end s))
      (part_above i j k (pos parts *ℤ A) (pos parts *ℤ B) (pos parts *ℤ C) (end s) some (mean_above s h))

-- far is the higher end where the direction goes up, and else near
module _ (near far D : ℕ) (t : ℤ) (least : le_z (pos near *ℤ pos D) t ≡ true) (most : le_z t (pos far *ℤ pos D) ≡ true) where
  rising_most : (n : ℕ) → le_z (t *ℤ pos n) (pos D *ℤ (pos far *ℤ pos n)) ≡ true
  rising_most n =
      let e = rep_le (own t) (rep_mul (own_pos far) (own_pos D)) most in
      let e' : pp t * n ≤ (far * D + np t) * n = mul-le-mul_right n (omega (arith, e)) in
      le_rep (rep_mul (own t) (own_pos n)) (rep_mul (own_pos D) (rep_mul (own_pos far) (own_pos n))) (omega (arith, e'))

  rising_least : (n : ℕ) → le_z (pos D *ℤ (pos near *ℤ pos n)) (t *ℤ pos n) ≡ true
  rising_least n =
      let e = rep_le (rep_mul (own_pos near) (own_pos D)) (own t) least in
      let e' : (near * D + np t) * n ≤ pp t * n = mul-le-mul_right n (omega (arith, e)) in
      le_rep (rep_mul (own_pos D) (rep_mul (own_pos near) (own_pos n))) (rep_mul (own t) (own_pos n)) (omega (arith, e'))

  falling_most : (n : ℕ) → le_z (t *ℤ negsuc n) (pos D *ℤ (pos near *ℤ negsuc n)) ≡ true
  falling_most n =
      let e = rep_le (rep_mul (own_pos near) (own_pos D)) (own t) least in
      let e' : (near * D + np t) * suc n ≤ pp t * suc n = mul-le-mul_right (suc n) (omega (arith, e)) in
      le_rep (rep_mul (own t) (own_neg n)) (rep_mul (own_pos D) (rep_mul (own_pos near) (own_neg n))) (omega (arith, e'))

  falling_least : (n : ℕ) → le_z (pos D *ℤ (pos far *ℤ negsuc n)) (t *ℤ negsuc n) ≡ true
  falling_least n =
      let e = rep_le (own t) (rep_mul (own_pos far) (own_pos D)) most in
      let e' : pp t * suc n ≤ (far * D + np t) * suc n = mul-le-mul_right (suc n) (omega (arith, e)) in
      le_rep (rep_mul (own_pos D) (rep_mul (own_pos far) (own_neg n))) (rep_mul (own t) (own_neg n)) (omega (arith, e'))

-- ---- the two sides
module _ (A B C O : ℤ) (near far i j k : ℕ) (t : ℤ) (some : 0 < i + j + k)
    (least : le_z (pos near *ℤ pos (i + j + k)) t ≡ true) (most : le_z t (pos far *ℤ pos (i + j + k)) ≡ true) where
  abbrev highest : ℤ → ℤ
  highest d = greater (floor_at O d near) (floor_at O d far)

  abbrev lowest : ℤ → ℤ
  lowest d = lesser (floor_at O d near) (floor_at O d far)

  above_far : (d w : ℤ) → le_z w (floor_at O d far) ≡ true → le_z (w +ℤ pos 1) (highest d +ℤ pos 1) ≡ true
  above_far d w h = le_z_more w (highest d) (le_z_trans w (floor_at O d far) (highest d) h
      (second_most (floor_at O d near) (floor_at O d far)))

  above_near : (d w : ℤ) → le_z w (floor_at O d near) ≡ true → le_z (w +ℤ pos 1) (highest d +ℤ pos 1) ≡ true
  above_near d w h = le_z_more w (highest d) (le_z_trans w (floor_at O d near) (highest d) h
      (first_most (floor_at O d near) (floor_at O d far)))

  one_less : (x w : ℤ) → le_z x w ≡ true → le_z (x -ℤ pos 1 +ℤ pos 1) w ≡ true
  one_less x w h = ap (λ (z : ℤ). le_z z w) (-ℤ-+ℤ_cancel x (pos 1)) ∙ h

  below_far : (d w : ℤ) → le_z (floor_at O d far) w ≡ true → le_z (lowest d -ℤ pos 1 +ℤ pos 1) w ≡ true
  below_far d w h = one_less (lowest d) w (le_z_trans (lowest d) (floor_at O d far) w (second_least (floor_at O d near) (floor_at O d far))
      h)

  below_near : (d w : ℤ) → le_z (floor_at O d near) w ≡ true → le_z (lowest d -ℤ pos 1 +ℤ pos 1) w ≡ true
  below_near d w h = one_less (lowest d) w (le_z_trans (lowest d) (floor_at O d near) w (first_least (floor_at O d near) (floor_at O d far))
      h)

  -- a corner is below the higher side, and one is above the lower
  past_high : (d : ℤ) → pos parts *ℤ mix i j k (A -ℤ O) (B -ℤ O) (C -ℤ O) ≡ t *ℤ d
      → OneOf (λ (w : ℤ). le_z (w +ℤ pos 1) (highest d +ℤ pos 1) ≡ true) A B C
  past_high (pos n) h =
      each (above_far (pos n) A) (above_far (pos n) B) (above_far (pos n) C)
      (corner_below A B C O (pos n) near far i j k t some h least most far (rising_most near far (i + j + k) t least most n))
  past_high (negsuc n) h =
      each (above_near (negsuc n) A) (above_near (negsuc n) B) (above_near (negsuc n) C)
      (corner_below A B C O (negsuc n) near far i j k t some h least most near (falling_most near far (i + j + k) t least most n))

  past_low : (d : ℤ) → pos parts *ℤ mix i j k (A -ℤ O) (B -ℤ O) (C -ℤ O) ≡ t *ℤ d
      → OneOf (λ (w : ℤ). le_z (lowest d -ℤ pos 1 +ℤ pos 1) w ≡ true) A B C
  past_low (pos n) h =
      each (below_near (pos n) A) (below_near (pos n) B) (below_near (pos n) C)
      (corner_above A B C O (pos n) near far i j k t some h least most near (rising_least near far (i + j + k) t least most n))
  past_low (negsuc n) h =
      each (below_far (negsuc n) A) (below_far (negsuc n) B) (below_far (negsuc n) C)
      (corner_above A B C O (negsuc n) near far i j k t some h least most far (falling_least near far (i + j + k) t least most n))

-- ---- of floats
fine : {z : ℤ} → Sized 4294967298 z → nat_abs z < 2 ^ 53
fine s = lt_of_le_of_lt s.size (lit< tt)

module _ (O d : ℤ) (near far : ℕ) (sizes : EndsSized O d near far) where
  near_size : Sized 4294967297 (floor_at O d near)
  near_size = floor_size_at O d (pos near) sizes.origin sizes.direction sizes.least

  far_size : Sized 4294967297 (floor_at O d far)
  far_size = floor_size_at O d (pos far) sizes.origin sizes.direction sizes.most

  pub high_fine : nat_abs (greater (floor_at O d near) (floor_at O d far) +ℤ pos 1) < 2 ^ 53
  high_fine =
      fine (sum_size {y = pos 1} (chosen (Sized 4294967297) (le_z (floor_at O d near) (floor_at O d far)) (floor_at O d far)
      (floor_at O d near) far_size near_size)
      (record { size = lit≤ {m = 1} {n = 1} tt }))

  pub low_fine : nat_abs (lesser (floor_at O d near) (floor_at O d far) -ℤ pos 1) < 2 ^ 53
  low_fine =
      fine
      (difference_size {y = pos 1} (chosen (Sized 4294967297) (le_z (floor_at O d near) (floor_at O d far)) (floor_at O d near)
      (floor_at O d far) near_size far_size)
      (record { size = lit≤ {m = 1} {n = 1} tt }))

  pub side_touches_lem : (a b c : Float) → is_finite a ≡ true → is_finite b ≡ true → is_finite c ≡ true
      → (i j k : ℕ) (t : ℤ) → 0 < i + j + k
      → le_z (pos near *ℤ pos (i + j + k)) t ≡ true → le_z t (pos far *ℤ pos (i + j + k)) ≡ true
      → pos parts *ℤ mix i j k (nearest_to units a -ℤ O) (nearest_to units b -ℤ O) (nearest_to units c -ℤ O) ≡ t *ℤ d
      → touch_side (minimum_of (minimum_of a b) c) (maximum_of (maximum_of a b) c) (low_side O d near far) (high_side O d near far) ≡ true
  unfolding touch_side low_side high_side
  side_touches_lem a b c fa fb fc i j k t some least most h =
      let na = finite_number a fa in
      let nb = finite_number b fb in
      let nc = finite_number c fc in
      let A = nearest_to units a in
      let B = nearest_to units b in
      let C = nearest_to units c in
      let high = greater (floor_at O d near) (floor_at O d far) +ℤ pos 1 in
      let low = lesser (floor_at O d near) (floor_at O d far) -ℤ pos 1 in
      and_both _ _
      (least_below a b c na nb nc (in_millimetres high)
      (each (at_most a fa high high_fine) (at_most b fb high high_fine) (at_most c fc high high_fine)
      (past_high A B C O near far i j k t some least most d h)))
      (greatest_above a b c na nb nc (in_millimetres low)
      (each (at_least a fa low low_fine) (at_least b fb low low_fine) (at_least c fc low low_fine)
      (past_low A B C O near far i j k t some least most d h)))
