-- Every admitted ray and radius and finite triangle has a drawing: a grid so fine that no number of theirs is rounded. Assumes nothing.
use Rattle.std.proofs.Common.{◌≡◌, ℕ, ◌+◌, ◌*◌, ◌<◌, true, false, not, ℤ, pos, ◌*ℤ◌, neg_ℤ, sym, refl, ap, ◌∙◌, mul_assoc, mul_comm}
use Rattle.std.proofs.Common.{mul-pos, mul_left_comm, arith, lit<, ltb-false}
use mathlib.Core.Bool.{false≢true}
use borrow.Author.Tests.{not-true}
use lib.Ieee.{Float, nan, inf, fin, up, down, lt}
use lib.Ieee.Fits.{down_pos}
use Rattle.lists.proofs.JoinedTests.{and_first, and_second}
use Rattle.arithmetic.specs.Basic.{is_finite}
use Rattle.arithmetic.proofs.ValueOrder.{lt_values}
use Rattle.vectors.specs.Numbers.{zeroᶠ}
use Rattle.vectors.specs.Vector.{finite_vec}
use Rattle.vectors.specs.declared.vec3.Vec3.{Vec3}
use Rattle.vectors.proofs.Constants.{zero_is}
use Rattle.geometry.specs.Segment.{ray_admitted, unit_length}
use Rattle.geometry.specs.declared.ray.Ray.{Ray}
use Rattle.wide_integers.proofs.Polynomials.{times_assoc}
use Rattle.exact_depth.specs.declared.projection.Point.{Point}
use Rattle.exact_triangle.specs.Line.{parts}
use Rattle.exact_triangle.specs.Grid.{units, signed}
use Rattle.exact_triangle.proofs.Touching.{finite_at}
use Rattle.mesh_drill.specs.Radius.{radius_admitted}
use Rattle.mesh_drill.specs.AsDrawn.{Equals, EqualsAt, Drawing}

-- ---- denominators
abbrev den : Float → ℕ
den nan = 1
den (inf s) = 1
den (fin s m e) = down e

den_pos : (x : Float) → 0 < den x
den_pos nan = lit< tt
den_pos (inf s) = lit< tt
den_pos (fin s m e) = down_pos e

abbrev den_at : Vec3 → ℕ
den_at v = den v.x * (den v.y * den v.z)

den_at_pos : (v : Vec3) → 0 < den_at v
den_at_pos v = mul-pos (den_pos v.x) (mul-pos (den_pos v.y) (den_pos v.z))

-- W = d c
record Divides (d W : ℕ) : Type 0 where
  c : ℕ
  is : W ≡ d * c

divides_left : {d A : ℕ} (B : ℕ) → Divides d A → Divides d (A * B)
divides_left {d} {A} B h = record { c = h.c * B; is = ap (λ (z : ℕ). z * B) h.is ∙ mul_assoc d h.c B }

divides_right : {d B : ℕ} (A : ℕ) → Divides d B → Divides d (A * B)
divides_right {d} {B} A h = record { c = A * h.c; is = ap (λ (z : ℕ). A * z) h.is ∙ mul_left_comm A d h.c }

own : (d : ℕ) → Divides d d
own d = record { c = 1; is = omega arith }

divides_through : {d e W : ℕ} → Divides d e → Divides e W → Divides d W
divides_through {d} {e} {W} h g =
    record { c = h.c * g.c; is = g.is ∙ ap (λ (z : ℕ). z * g.c) h.is ∙ mul_assoc d h.c g.c }

-- ---- numbers
record Number (k W : ℕ) (x : Float) : Type 0 where
  z : ℤ
  is : Equals k W x z

scaled : (y : ℤ) (d c W : ℕ) → W ≡ d * c → y *ℤ pos W ≡ y *ℤ pos c *ℤ pos d
scaled y d c W h =
    ap (λ (n : ℕ). y *ℤ pos n) (h ∙ mul_comm d c) ∙ sym (times_assoc y (pos c) (pos d))

number : (k W : ℕ) (x : Float) → is_finite x ≡ true → Divides (den x) W → Number k W x
unfolding is_finite
number k W nan f h = absurd (false≢true f)
number k W (inf s) f h = absurd (false≢true f)
number k W (fin s m e) f h = record {
  z = signed s (m * up e * k) *ℤ pos h.c;
  is = scaled (signed s (m * up e * k)) (down e) h.c W h.is;
}

-- one that is not below 0
record Natural (k W : ℕ) (x : Float) : Type 0 where
  n : ℕ
  is : Equals k W x (pos n)

nothing : (m : ℕ) (e : ℤ) → lt (fin true m e) (fin false 0 (pos 0)) ≡ false → m * up e ≡ 0
nothing m e h =
    let v = lt_values (fin true m e) (fin false 0 (pos 0)) true false (m * up e) (down e) 0 1 (down_pos e) (lit< tt) (refl, refl)
    (refl, refl) in
    let l = ltb-false 0 (m * up e * 1 + 0 * down e) (sym v ∙ h) in
    omega (arith, l)

natural : (k W : ℕ) (x : Float) → is_finite x ≡ true → not (lt x zeroᶠ) ≡ true → Divides (den x) W → Natural k W x
unfolding is_finite
natural k W nan f p h = absurd (false≢true f)
natural k W (inf s) f p h = absurd (false≢true f)
natural k W (fin false m e) f p h = record { n = m * up e * k * h.c; is = scaled (pos (m * up e * k)) (down e) h.c W h.is }
natural k W (fin true m e) f p h =
    let none : m * up e ≡ 0 = nothing m e (ap (lt (fin true m e)) (sym zero_is) ∙ not-true (lt (fin true m e) zeroᶠ) p) in
    let none' : m * up e * k ≡ 0 = ap (λ (n : ℕ). n * k) none ∙ zero_times k in
    record { n = 0; is = ap (λ (n : ℕ). neg_ℤ (pos n) *ℤ pos W) none' ∙ ap pos (zero_times W ∙ sym (zero_times (down e))) }
  where
    zero_times : (n : ℕ) → 0 * n ≡ 0
    zero_times n = omega arith

-- ---- vectors
record Place (k W : ℕ) (v : Vec3) : Type 0 where
  p : Point
  is : EqualsAt k W v p

place : (k W : ℕ) (v : Vec3) → finite_vec v ≡ true → Divides (den_at v) W → Place k W v
place k W v f h =
    let t = finite_at v f in
    let x = number k W v.x t.x (divides_through (divides_left (den v.y * den v.z) (own (den v.x))) h) in
    let y = number k W v.y t.y
    (divides_through (divides_right (den v.x) (divides_left (den v.z) (own (den v.y)))) h) in
    let z = number k W v.z t.z
    (divides_through (divides_right (den v.x) (divides_right (den v.y) (own (den v.z)))) h) in
    record { p = record { x = x.z; y = y.z; z = z.z }; is = record { x = x.is; y = y.is; z = z.is } }

-- ---- a radius
radius_finite : (x : Float) → radius_admitted x ≡ true → is_finite x ≡ true
unfolding radius_admitted
radius_finite x h = and_first (is_finite x) _ h

radius_above : (x : Float) → radius_admitted x ≡ true → not (lt x zeroᶠ) ≡ true
unfolding radius_admitted
radius_above x h = and_second (is_finite x) _ h

-- ---- a ray and a triangle
record Admitted (r : Ray) : Type 0 where
  origin : finite_vec r.origin ≡ true
  direction : finite_vec r.direction ≡ true
  far : is_finite r.max_distance ≡ true
  far_above : not (lt r.max_distance zeroᶠ) ≡ true
  near : is_finite r.near ≡ true
  near_above : not (lt r.near zeroᶠ) ≡ true

admitted_parts : (r : Ray) → ray_admitted r ≡ true → Admitted r
unfolding ray_admitted
admitted_parts r h =
    let h₁ = and_second (finite_vec r.origin) _ h in
    let h₂ = and_second (finite_vec r.direction) _ h₁ in
    let h₃ = and_second (unit_length r.direction) _ h₂ in
    let h₄ = and_second (is_finite r.max_distance) _ h₃ in
    let h₅ = and_second (not (lt r.max_distance zeroᶠ)) _ h₄ in
    let h₆ = and_second (is_finite r.near) _ h₅ in
    record {
      origin = and_first (finite_vec r.origin) _ h;
      direction = and_first (finite_vec r.direction) _ h₁;
      far = and_first (is_finite r.max_distance) _ h₃;
      far_above = and_first (not (lt r.max_distance zeroᶠ)) _ h₄;
      near = and_first (is_finite r.near) _ h₅;
      near_above = and_first (not (lt r.near zeroᶠ)) _ h₆;
    }

pub drawing : (r : Ray) (x : Float) (a b c : Vec3) → ray_admitted r ≡ true → radius_admitted x ≡ true → finite_vec a ≡ true → finite_vec b
    ≡ true
    → finite_vec c ≡ true → Drawing r x a b c
drawing r x a b c admitted fx fa fb fc =
    let t = admitted_parts r admitted in
    let o = den_at r.origin in
    let d = den_at r.direction in
    let n = den r.near in
    let f = den r.max_distance in
    let s = den x in
    let A = den_at a in
    let B = den_at b in
    let C = den_at c in
    let W = o * (d * (n * (f * (s * (A * (B * C)))))) in
    let origin = place units W r.origin t.origin (divides_left (d * (n * (f * (s * (A * (B * C)))))) (own o)) in
    let direction = place parts W r.direction t.direction
    (divides_right o (divides_left (n * (f * (s * (A * (B * C))))) (own d))) in
    let near = natural units W r.near t.near t.near_above
    (divides_right o (divides_right d (divides_left (f * (s * (A * (B * C)))) (own n)))) in
    let far = natural units W r.max_distance t.far t.far_above
    (divides_right o (divides_right d (divides_right n (divides_left (s * (A * (B * C))) (own f))))) in
    let radius = natural units W x (radius_finite x fx) (radius_above x fx)
    (divides_right o (divides_right d (divides_right n (divides_right f (divides_left (A * (B * C)) (own s)))))) in
    let first = place units W a fa
    (divides_right o (divides_right d (divides_right n (divides_right f (divides_right s (divides_left (B * C) (own A))))))) in
    let second = place units W b fb
    (divides_right o (divides_right d (divides_right n (divides_right f (divides_right s (divides_right A (divides_left C (own B)))))))) in
    let third = place units W c fc
    (divides_right o (divides_right d (divides_right n (divides_right f (divides_right s (divides_right A (divides_right B (own C)))))))) in
    record {
      W = W;
      positive = mul-pos (den_at_pos r.origin) (mul-pos (den_at_pos r.direction) (mul-pos (den_pos r.near)
          (mul-pos (den_pos r.max_distance)
          (mul-pos (den_pos x) (mul-pos (den_at_pos a) (mul-pos (den_at_pos b) (den_at_pos c)))))));
      line = record { origin = origin.p; direction = direction.p; near = near.n; far = far.n };
      radius = radius.n;
      first = first.p;
      second = second.p;
      third = third.p;
      origin_is = origin.is;
      direction_is = direction.is;
      near_is = near.is;
      far_is = far.is;
      radius_is = radius.is;
      first_is = first.is;
      second_is = second.is;
      third_is = third.is;
    }
