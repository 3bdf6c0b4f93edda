-- Where the values of a cell are at most 2^500 in size and the spacings lie from 2^-500 to 2^500, no step of a sample there refuses, so
-- that its value needs no gradient. Assumes nothing.
use mathlib.Core.Path.{◌≡◌, refl, sym, ap, subst, ◌∙◌}
use mathlib.Core.Bool.{true, false, false≢true, ◌&&◌}
use Prim.Native.Nat.{ℕ, suc, ◌+◌, ◌*◌, ◌^◌, ◌≤◌}
use native.Mathlib.Omega.{arith}
use lib.Dec.{lit≤}
use lib.IntN.{pos, negsuc}
use lib.Ieee.{Float, nan, inf, fin, of_bits, up, down, neg, lt, le}
use lib.Ieee.Fits.{down_pos}
use borrow.Author.Tests.{ltb-false}
use Rattle.arithmetic.proofs.Order.{not_lt_of_le, le_transitive}
use Rattle.vectors.specs.Numbers.{◌-ᶠ◌, ◌*ᶠ◌, zeroᶠ, oneᶠ}
use Rattle.vectors.specs.Vector.{finite_vec}
use Rattle.vectors.specs.declared.vec3.Vec3.{Vec3}
use Rattle.std.specs.Prelude.{Option, Some}
use Rattle.vectors.proofs.Constants.{one_is}
use Rattle.distance_grid.specs.Faces.{low_x, high_x, low_y, high_y}
use Rattle.distance_grid.specs.Steps.{checked, blend, lerp, checked_difference, over, lerp_face, value_on, slope_on}
use Rattle.distance_grid.specs.Sampling.{gathered, sample_faces}
use Rattle.distance_grid.specs.Valued.{value_of, across, cell_value, most, least, small_value, small_face}
use Rattle.distance_grid.specs.Places.{is_fraction, Fractions}
use Rattle.distance_grid.specs.Valued.{fair_side, fair_spacing}
use Rattle.distance_grid.specs.declared.faces.Face.{Face}
use Rattle.distance_grid.specs.Valued.{ValuedAt}
use Rattle.lists.proofs.JoinedTests.{and_first, and_second}
use Rattle.arithmetic.proofs.Bounds.{Within, within, Beyond, beyond, within_finite, wider, sum_within, difference_within, product_within}
use Rattle.arithmetic.proofs.Bounds.{quotient_within}

-- ---- what the tests say

-- x lies from -2^k to 2^k
between_within : (k : ℕ) (x : Float) → le x (fin false 1 (pos k)) ≡ true → le (fin true 1 (pos k)) x ≡ true → Within k x
between_within k nan p q = absurd (false≢true (unfold le in p))
between_within k (inf true) p q = absurd (false≢true (unfold le in q))
between_within k (inf false) p q = absurd (false≢true (unfold le in p))
between_within k (fin false m e) p q =
    let h = ltb-false (1 * 2 ^ k * down e) (m * up e * 1) (unfold lt in not_lt_of_le (fin false m e) (fin false 1 (pos k)) p) in
    within {k = k} false m e (omega arith)
between_within k (fin true m e) p q =
    let h = ltb-false (1 * 2 ^ k * down e) (m * up e * 1) (unfold lt in not_lt_of_le (fin true 1 (pos k)) (fin true m e) q) in
    within {k = k} true m e (omega arith)

most_is : most ≡ fin false 1 (pos 500)
unfolding of_bits
most_is = refl

minus_most_is : neg most ≡ fin true 1 (pos 500)
unfolding of_bits neg
minus_most_is = refl

least_is : least ≡ fin false 1 (negsuc 499)
unfolding of_bits
least_is = refl

small_within : (x : Float) → small_value x ≡ true → Within 500 x
unfolding small_value
small_within x h =
    between_within 500 x
    (subst (λ (y : Float). le x y ≡ true) most_is (and_first (le x most) (le (neg most) x) h))
    (subst (λ (y : Float). le y x ≡ true) minus_most_is (and_second (le x most) (le (neg most) x) h))

minus_one_below : le (fin true 1 (pos 0)) zeroᶠ ≡ true
unfolding of_bits le
minus_one_below = refl

fraction_within : (t : Float) → is_fraction t ≡ true → Within 0 t
unfolding is_fraction
fraction_within t h =
    between_within 0 t
    (subst (λ (y : Float). le t y ≡ true) one_is (and_second (le zeroᶠ t) (le t oneᶠ) h))
    (le_transitive (fin true 1 (pos 0)) zeroᶠ t minus_one_below (and_first (le zeroᶠ t) (le t oneᶠ) h))

-- x lies from 1 / 2^(k+1) up, and is no infinity
above_beyond : (k j : ℕ) (x : Float) → le (fin false 1 (negsuc k)) x ≡ true → le x (fin false 1 (pos j)) ≡ true → Beyond (suc k) x
above_beyond k j nan p q = absurd (false≢true (unfold le in q))
above_beyond k j (inf true) p q = absurd (false≢true (unfold le in p))
above_beyond k j (inf false) p q = absurd (false≢true (unfold le in q))
above_beyond k j (fin true m e) p q =
    let h = ltb-false 0 (m * up e * 2 ^ suc k + 1 * 1 * down e) (unfold lt in not_lt_of_le (fin false 1 (negsuc k)) (fin true m e) p) in
    let d = down_pos e in
    absurd (omega arith)
above_beyond k j (fin false m e) p q =
    let h = ltb-false (m * up e * 2 ^ suc k) (1 * 1 * down e) (unfold lt in not_lt_of_le (fin false 1 (negsuc k)) (fin false m e) p) in
    beyond {k = suc k} false m e (omega arith)

fair_beyond : (x : Float) → fair_side x ≡ true → Beyond 500 x
unfolding fair_side
fair_beyond x h =
    above_beyond 499 500 x
    (subst (λ (y : Float). le y x ≡ true) least_is (and_first (le least x) (le x most) h))
    (subst (λ (y : Float). le x y ≡ true) most_is (and_second (le least x) (le x most) h))

record FaceWithin (f : Face) : Type 0 where
  w00 : Within 500 f.a00
  w10 : Within 500 f.a10
  w01 : Within 500 f.a01
  w11 : Within 500 f.a11

face_within : (f : Face) → small_face f ≡ true → FaceWithin f
unfolding small_face
face_within f h =
    let rest = and_second (small_value f.a00) (small_value f.a10 && (small_value f.a01 && small_value f.a11)) h in
    let last = and_second (small_value f.a10) (small_value f.a01 && small_value f.a11) rest in
    record {
      w00 = small_within f.a00 (and_first (small_value f.a00) (small_value f.a10 && (small_value f.a01 && small_value f.a11)) h);
      w10 = small_within f.a10 (and_first (small_value f.a10) (small_value f.a01 && small_value f.a11) rest);
      w01 = small_within f.a01 (and_first (small_value f.a01) (small_value f.a11) last);
      w11 = small_within f.a11 (and_second (small_value f.a01) (small_value f.a11) last);
    }

-- ---- the steps

-- a step that did not refuse, and how large its number is at most
data Got : ℕ → Option Float → Type 0 where
  got : {k : ℕ} {x : Float} → Within k x → Got k (Some x)

checked_got : {k : ℕ} {x : Float} → Within k x → checked x ≡ Some x
unfolding checked
checked_got p = simp (within_finite p)

blend_within : {k : ℕ} {a b t : Float} → k + 2 ≤ 1023 → Within k a → Within k b → Within 0 t → Within (k + 2) (blend a b t)
unfolding blend
blend_within {k} {a} {b} {t} l p q r =
    let one : Within 0 oneᶠ = subst (Within 0) (sym one_is) (within {k = 0} false 1 (pos 0) (lit≤ tt)) in
    let left : Within (k + 1) (a *ᶠ (oneᶠ -ᶠ t)) = product_within {k = k} {j = 1} (omega arith) p (difference_within (lit≤ tt) one r) in
    let right : Within (k + 1) (b *ᶠ t) = wider {k = k + 0} {j = k + 1} (omega arith) (product_within {k = k} {j = 0} (omega arith) q r) in
    wider {k = suc (k + 1)} {j = k + 2} (omega arith) (sum_within {k = k + 1} (omega arith) left right)

lerp_is : {k : ℕ} {a b t : Float} → k + 2 ≤ 1023 → Within k a → Within k b → Within 0 t → lerp (Some a) (Some b) t ≡ Some (blend a b t)
unfolding lerp
lerp_is l p q r = checked_got (blend_within l p q r)

lerp_got : {k : ℕ} {c d : Option Float} {t : Float} → k + 2 ≤ 1023 → Got k c → Got k d → Within 0 t → Got (k + 2) (lerp c d t)
lerp_got l (got p) (got q) r = subst (Got _) (sym (lerp_is l p q r)) (got (blend_within l p q r))

difference_got : {k : ℕ} {a b : Float} → suc k ≤ 1023 → Within k a → Within k b → Got (suc k) (checked_difference a b)
unfolding checked_difference
difference_got l p q = subst (Got _) (sym (checked_got (difference_within l p q))) (got (difference_within l p q))

over_got : {k j : ℕ} {c : Option Float} {spacing : Float} → k + j ≤ 1023 → Got k c → Beyond j spacing → Got (k + j) (over c spacing)
unfolding over
over_got l (got p) b = got (quotient_within l p b)

-- ---- the value
across_within : (f : Face) (s t : Float) → FaceWithin f → Within 0 s → Within 0 t → Within 504 (across f s t)
unfolding across
across_within f s t w p q = blend_within {k = 502} (lit≤ tt) (blend_within {k = 500} (lit≤ tt) w.w00 w.w10 p)
    (blend_within {k = 500} (lit≤ tt) w.w01 w.w11 p) q

value_on_is : (f : Face) (s t : Float) → FaceWithin f → Within 0 s → Within 0 t → value_on f s t ≡ Some (across f s t)
unfolding value_on lerp_face across
value_on_is f s t w p q =
    ap (λ (c : Option Float). lerp c (lerp (Some f.a01) (Some f.a11) s) t) (lerp_is {k = 500} (lit≤ tt) w.w00 w.w10 p)
    ∙ ap (λ (c : Option Float). lerp (Some (blend f.a00 f.a10 s)) c t) (lerp_is {k = 500} (lit≤ tt) w.w01 w.w11 p)
    ∙ lerp_is {k = 502} (lit≤ tt) (blend_within {k = 500} (lit≤ tt) w.w00 w.w10 p)
    (blend_within {k = 500} (lit≤ tt) w.w01 w.w11 p) q

value_is : (low high : Face) (at : Vec3) → FaceWithin low → FaceWithin high → Within 0 at.x → Within 0 at.y → Within 0 at.z
    → lerp (value_on low at.x at.y) (value_on high at.x at.y) at.z ≡ Some (cell_value low high at)
unfolding cell_value
value_is low high at v w p q r =
    ap (λ (c : Option Float). lerp c (value_on high at.x at.y) at.z) (value_on_is low at.x at.y v p q)
    ∙ ap (λ (c : Option Float). lerp (Some (across low at.x at.y)) c at.z) (value_on_is high at.x at.y w p q)
    ∙ lerp_is {k = 504} (lit≤ tt) (across_within low at.x at.y v p q) (across_within high at.x at.y w p q) r

-- ---- the gradient
quotient_got : {a b spacing : Float} → Within 500 a → Within 500 b → Beyond 500 spacing → Got 1001 (over (checked_difference a b) spacing)
quotient_got p q b = over_got {k = 501} {j = 500} (lit≤ tt) (difference_got (lit≤ tt) p q) b

slope_got : (low high : Face) (spacing s t : Float) → FaceWithin low → FaceWithin high → Beyond 500 spacing → Within 0 s → Within 0 t → Got
    1005 (slope_on low high spacing s t)
unfolding slope_on lerp_face
slope_got low high spacing s t v w b p q =
    lerp_got {k = 1003} (lit≤ tt)
    (lerp_got {k = 1001} (lit≤ tt) (quotient_got w.w00 v.w00 b) (quotient_got w.w10 v.w10 b) p)
    (lerp_got {k = 1001} (lit≤ tt) (quotient_got w.w01 v.w01 b) (quotient_got w.w11 v.w11 b) p)
    q

gathered_value : (v : Float) {k : ℕ} {on_x on_y on_z : Option Float} → Got k on_x → Got k on_y → Got k on_z
    → value_of (gathered (Some v) on_x on_y on_z)
    ≡ ValuedAt v
unfolding gathered finite_vec
gathered_value v (got p) (got q) (got r) = simp (within_finite p, within_finite q, within_finite r)

-- after the tests the value is all that a sample gives of itself
pub tested_value : (low high : Face) (spacing at : Vec3) → Fractions at → small_face low ≡ true → small_face high ≡ true
    → fair_spacing spacing
    ≡ true
    → value_of (sample_faces low high spacing at) ≡ ValuedAt (cell_value low high at)
unfolding sample_faces fair_spacing
tested_value low high spacing at f l h b =
    let v = face_within low l in
    let w = face_within high h in
    let x = fraction_within at.x f.on_x in
    let y = fraction_within at.y f.on_y in
    let z = fraction_within at.z f.on_z in
    let yz = and_second (fair_side spacing.x) (fair_side spacing.y && fair_side spacing.z) b in
    ap (λ (c : Option Float). value_of (gathered c (slope_on (low_x low high) (high_x low high) spacing.x at.y at.z) (slope_on (low_y low
    high) (high_y low high) spacing.y at.x at.z) (slope_on low high spacing.z at.x at.y)))
    (value_is low high at v w x y z)
    ∙ gathered_value (cell_value low high at)
    (slope_got (low_x low high) (high_x low high) spacing.x at.y at.z
    record { w00 = v.w00; w10 = v.w01; w01 = w.w00; w11 = w.w01 }
    record { w00 = v.w10; w10 = v.w11; w01 = w.w10; w11 = w.w11 }
    (fair_beyond spacing.x (and_first (fair_side spacing.x) (fair_side spacing.y && fair_side spacing.z) b)) y z)
    (slope_got (low_y low high) (high_y low high) spacing.y at.x at.z
    record { w00 = v.w00; w10 = v.w10; w01 = w.w00; w11 = w.w10 }
    record { w00 = v.w01; w10 = v.w11; w01 = w.w01; w11 = w.w11 }
    (fair_beyond spacing.y (and_first (fair_side spacing.y) (fair_side spacing.z) yz)) x z)
    (slope_got low high spacing.z at.x at.y v w
    (fair_beyond spacing.z (and_second (fair_side spacing.y) (fair_side spacing.z) yz)) x y)
