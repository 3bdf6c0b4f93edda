-- A triangle that touches on some grid within the ranges touches at the heights nearest to the box's lower side. Assumes nothing.
use mathlib.Core.Path.{◌≡◌, ◌∙◌, subst}
use mathlib.Core.Logic.{◌⊎◌, inl, inr, ⊎_elim}
use mathlib.Core.Bool.{true, false, ◌&&◌}
use mathlib.Core.List.{[], ◌∷◌}
use lib.Ieee.{Float, le, is_nan}
use Rattle.arithmetic.specs.Basic.{is_finite, clamp_to}
use Rattle.arithmetic.specs.Extremes.{minimum_of, maximum_of}
use Rattle.arithmetic.proofs.Numbers.{finite_number}
use Rattle.arithmetic.proofs.Order.{le_transitive, le_left_number, le_right_number}
use Rattle.arithmetic.proofs.ExtremesOrder.{minimum_one, maximum_one, minimum_below_first, minimum_below_second, maximum_above_first}
use Rattle.arithmetic.proofs.ExtremesOrder.{maximum_above_second}
use Rattle.vectors.specs.Vector.{vector, min_of, max_of}
use Rattle.geometry.specs.Box.{valid_side, touch_side, touches, corners_box}
use Rattle.geometry.specs.declared.aabb.Aabb.{Aabb}
use Rattle.lists.proofs.JoinedTests.{and_both, and_first, and_second, and_three}
use Rattle.arithmetic.proofs.Clamps.{clamp_finite, clamp_below, clamp_reaches}

-- ---- the least and the greatest of three

abbrev least : Float → Float → Float → Float
least a b c = minimum_of (minimum_of a b) c

abbrev greatest : Float → Float → Float → Float
greatest a b c = maximum_of (maximum_of a b) c

-- what holds of the least or the greatest holds of one of the three
one_of_least : (P : Float → Type 0) (a b c : Float) → P (least a b c) → P a ⊎ (P b ⊎ P c)
one_of_least P a b c h =
    ⊎_elim
    (λ e. ⊎_elim (λ d. inl (subst P (e ∙ d) h)) (λ d. inr (inl (subst P (e ∙ d) h))) (minimum_one a b))
    (λ e. inr (inr (subst P e h))) (minimum_one (minimum_of a b) c)

one_of_greatest : (P : Float → Type 0) (a b c : Float) → P (greatest a b c) → P a ⊎ (P b ⊎ P c)
one_of_greatest P a b c h =
    ⊎_elim
    (λ e. ⊎_elim (λ d. inl (subst P (e ∙ d) h)) (λ d. inr (inl (subst P (e ∙ d) h))) (maximum_one a b))
    (λ e. inr (inr (subst P e h))) (maximum_one (maximum_of a b) c)

module _ (a b c : Float) (p : is_nan a ≡ false) (q : is_nan b ≡ false) (r : is_nan c ≡ false) where
  lesser_number : is_nan (minimum_of a b) ≡ false
  lesser_number = le_left_number (minimum_of a b) a (minimum_below_first a b p q)

  greater_number : is_nan (maximum_of a b) ≡ false
  greater_number = le_right_number a (maximum_of a b) (maximum_above_first a b p q)

  -- the least is at most what one of the three is at most, and the greatest reaches what one of them reaches
  least_below : (top : Float) → (le a top ≡ true) ⊎ ((le b top ≡ true) ⊎ (le c top ≡ true)) → le (least a b c) top ≡ true
  least_below top w =
      let first = minimum_below_first (minimum_of a b) c lesser_number r in
      ⊎_elim (λ h. le_transitive _ _ top first (le_transitive _ a top (minimum_below_first a b p q) h))
      (λ v. ⊎_elim (λ h. le_transitive _ _ top first (le_transitive _ b top (minimum_below_second a b p q) h))
      (λ h. le_transitive _ c top (minimum_below_second (minimum_of a b) c lesser_number r) h) v) w

  greatest_reaches : (z : Float) → (le z a ≡ true) ⊎ ((le z b ≡ true) ⊎ (le z c ≡ true)) → le z (greatest a b c) ≡ true
  greatest_reaches z w =
      let first = maximum_above_first (maximum_of a b) c greater_number r in
      ⊎_elim (λ h. le_transitive z _ _ (le_transitive z a _ h (maximum_above_first a b p q)) first)
      (λ v. ⊎_elim (λ h. le_transitive z _ _ (le_transitive z b _ h (maximum_above_second a b p q)) first)
      (λ h. le_transitive z c _ h (maximum_above_second (maximum_of a b) c greater_number r)) v) w

-- ---- one node

-- the height g counts for no more than the height c does against the side from z to top
pub record Nears (z top g c : Float) : Type 0 where
  pub number : is_nan c ≡ false
  pub low : le g top ≡ true → le c top ≡ true
  pub reach : le z g ≡ true → le z c ≡ true

pub record Ordered (low high : Float) : Type 0 where
  pub low_finite : is_finite low ≡ true
  pub high_finite : is_finite high ≡ true
  pub ordered : le low high ≡ true

pub side_ordered : (low high : Float) → valid_side low high ≡ true → Ordered low high
unfolding valid_side
side_ordered low high h =
    let rest = and_second (is_finite low) (is_finite high && le low high) h in
    record {
      low_finite = and_first (is_finite low) (is_finite high && le low high) h;
      high_finite = and_first (is_finite high) (le low high) rest;
      ordered = and_second (is_finite high) (le low high) rest;
    }

pub clamp_nears : (z top low high g : Float) → is_finite z ≡ true → le z top ≡ true → Ordered low high → le low g ≡ true → le g high ≡ true
    → Nears z top g (clamp_to z low high)
clamp_nears z top low high g n t o a b = record {
  number = finite_number (clamp_to z low high) (clamp_finite z low high n o.low_finite o.high_finite);
  low = λ h. clamp_below z low high top t (le_transitive low g top a h);
  reach = λ h. clamp_reaches z low high (finite_number low o.low_finite) (le_transitive z g high h b);
}

-- ---- three nodes

module _ (z top g0 g1 g2 c0 c1 c2 : Float) (n0 : Nears z top g0 c0) (n1 : Nears z top g1 c1) (n2 : Nears z top g2 c2) where
  side_nears : touch_side (least g0 g1 g2) (greatest g0 g1 g2) z top ≡ true → touch_side (least c0 c1 c2) (greatest c0 c1 c2) z top ≡ true
  unfolding touch_side
  side_nears h =
      let p = one_of_least (λ (x : Float). le x top ≡ true) g0 g1 g2 (and_first (le (least g0 g1 g2) top) (le z (greatest g0 g1 g2)) h) in
      let q = one_of_greatest (λ (x : Float). le z x ≡ true) g0 g1 g2
      (and_second (le (least g0 g1 g2) top) (le z (greatest g0 g1 g2)) h) in
      and_both (le (least c0 c1 c2) top) (le z (greatest c0 c1 c2))
      (least_below c0 c1 c2 n0.number n1.number n2.number top
      (⊎_elim (λ k. inl (n0.low k)) (λ w. ⊎_elim (λ k. inr (inl (n1.low k))) (λ k. inr (inr (n2.low k))) w) p))
      (greatest_reaches c0 c1 c2 n0.number n1.number n2.number z
      (⊎_elim (λ k. inl (n0.reach k)) (λ w. ⊎_elim (λ k. inr (inl (n1.reach k))) (λ k. inr (inr (n2.reach k))) w) q))

-- x and y do not depend on the heights
module _ (box : Aabb) (x0 y0 x1 y1 x2 y2 g0 g1 g2 c0 c1 c2 : Float) where
  pub corners_near : Nears box.min.z box.max.z g0 c0 → Nears box.min.z box.max.z g1 c1
      → Nears box.min.z box.max.z g2 c2
      → touches (corners_box (vector x0 y0 g0 ∷ vector x1 y1 g1 ∷ vector x2 y2 g2 ∷ [])) box ≡ true
      → touches (corners_box (vector x0 y0 c0 ∷ vector x1 y1 c1 ∷ vector x2 y2 c2 ∷ [])) box ≡ true
  unfolding touches corners_box min_of max_of
  corners_near n0 n1 n2 h =
      let sx = touch_side (least x0 x1 x2) (greatest x0 x1 x2) box.min.x box.max.x in
      let sy = touch_side (least y0 y1 y2) (greatest y0 y1 y2) box.min.y box.max.y in
      let sz = touch_side (least g0 g1 g2) (greatest g0 g1 g2) box.min.z box.max.z in
      let tz = touch_side (least c0 c1 c2) (greatest c0 c1 c2) box.min.z box.max.z in
      let rest = and_second sx (sy && sz) h in
      and_three sx sy tz (and_first sx (sy && sz) h) (and_first sy sz rest)
      (side_nears box.min.z box.max.z g0 g1 g2 c0 c1 c2 n0 n1 n2 (and_second sy sz rest))
