-- The triangle cast at a board that is drawn on whole numbers, by the determinants of Möller and Trumbore. Assumes nothing.
use Rattle.std.specs.Prelude.{Option, Some, None}
use mathlib.Core.Path.{◌≡◌, refl, sym, ap, ◌∙◌}
use mathlib.Core.Logic.{inl, inr}
use mathlib.Core.Bool.{Bool, true, false, not, ◌&&◌, ◌||◌, cond, and-false}
use mathlib.Core.List.{List}
use Prim.Native.Nat.{ℕ, zero, suc, ◌+◌, ◌*◌, ◌^◌, ◌≤◌, ◌<◌}
use native.Mathlib.Nat.{mul-le-mul_right, le_trans, mul-zero, zero-mul, eq-zero-or-pos}
use native.Mathlib.Omega.{arith}
use lib.Dec.{lit≤}
use lib.IntN.{ℤ, pos, nat_abs, ◌+ℤ◌, ◌*ℤ◌}
use lib.Ieee.{Float, nan, inf, fin, down, lt, le, eq, is_nan}
use lib.Ieee.Fits.{down_pos}
use lib.Ieee.Exact.{HasValue}
use Rattle.lists.proofs.JoinedTests.{or_first, or_second}
use Rattle.arithmetic.specs.Basic.{is_finite}
use Rattle.arithmetic.proofs.Order.{le_is_not_lt}
use Rattle.vectors.specs.Numbers.{◌+ᶠ◌, ◌*ᶠ◌, ◌/ᶠ◌, zeroᶠ, oneᶠ}
use Rattle.vectors.specs.Vector.{sub_of, cross_of, dot_of, checked_dot, finite_vec, zero_vec, normalizable, dot_tells, scaled_to_one}
use Rattle.vectors.specs.Vector.{over_length}
use Rattle.geometry.specs.Box.{corner}
use Rattle.geometry.specs.Segment.{ray_admitted}
use Rattle.vectors.specs.declared.vec3.Vec3.{Vec3}
use Rattle.geometry.specs.declared.ray.Ray.{Ray}
use Rattle.casts.specs.Answer.{Answer, hit, none, with_normal, no_normal}
use Rattle.casts.specs.Surface.{off_segment, facing}
use Rattle.triangle_cast.specs.Triangle.{triangle_normal, triangle_above, triangle_at, triangle_of, ray_triangle}
use Rattle.wide_integers.proofs.Integers.{no_factor, pp, np, add_size, mul_size, neg_size}
use Rattle.exact_depth.proofs.Standing.{Stands}
use Rattle.whole_numbers.proofs.Whole.{Whole, WholeVec}
use Rattle.whole_numbers.specs.Points.{Point, sub_p, cross_p, dot_p}
use Rattle.whole_numbers.specs.WholeTriangle.{Drawing, WholeTriangle, along, first_edge, second_edge}
use Rattle.whole_numbers.proofs.Vectors.{sub_whole, dot_whole, cross_whole}
use Rattle.arithmetic.proofs.ValueOrder.{value_number}
use Rattle.arithmetic.proofs.WholeValues.{zero_is, zero_value as zero-value-of}
use Rattle.arithmetic.proofs.ScalingLaws.{one_value}
use Rattle.whole_numbers.proofs.Decisions.{Ratio, ratio, signed_by, signed_size, zero_value, not_negative, negative, above_whole}
use Rattle.whole_numbers.proofs.Decisions.{not_above_whole, near_is, parted}
use Rattle.whole_numbers.proofs.Sums.{sum_not_above_one, sum_above_one}
use Rattle.whole_numbers.proofs.Drawings.{drawn, drawn_at}
use Rattle.whole_numbers.proofs.Flat.{flat_zero, not_flat}
use Rattle.whole_numbers.proofs.Polynomials.{triple}
use Rattle.whole_numbers.proofs.Admitted.{stands_finite, finite_vec_lem, not_below_zero, admitted}
use Rattle.vectors.proofs.NormalLaws.{normalized_where}

-- ---- the five tests
unfoldable pub chain : Bool → Bool → Bool → Bool → Bool → Answer → Answer
chain a b c d e n = cond a (cond b (cond c none (cond d none (cond e none n))) none) none

first_fails : (a b c d e : Bool) (n : Answer) → a ≡ false → chain a b c d e n ≡ none
unfolding chain
first_fails a b c d e n h = ap (λ (x : Bool). chain x b c d e n) h

third_fails : (a b c d e : Bool) (n : Answer) → c ≡ true → chain a b c d e n ≡ none
unfolding chain
third_fails true true c d e n h = ap (λ (x : Bool). chain true true x d e n) h
third_fails true false c d e n h = refl
third_fails false b c d e n h = refl

fourth_fails : (a b c d e : Bool) (n : Answer) → d ≡ true → chain a b c d e n ≡ none
unfolding chain
fourth_fails true true true d e n h = refl
fourth_fails true true false d e n h = ap (λ (x : Bool). chain true true false x e n) h
fourth_fails true false c d e n h = refl
fourth_fails false b c d e n h = refl

fifth_fails : (a b c d e : Bool) (n : Answer) → e ≡ true → chain a b c d e n ≡ none
unfolding chain
fifth_fails true true true d e n h = refl
fifth_fails true true false true e n h = refl
fifth_fails true true false false e n h = ap (λ (x : Bool). chain true true false false x n) h
fifth_fails true false c d e n h = refl
fifth_fails false b c d e n h = refl

-- ---- a dot with 0
no_product : (d c : ℤ) → nat_abs c ≡ 0 → nat_abs (d *ℤ c) ≡ 0
no_product d c h = mul_size d c ∙ ap (λ (n : ℕ). nat_abs d * n) h ∙ mul-zero (nat_abs d)

pub zero_dot : (d c : Point) → nat_abs c.x + (nat_abs c.y + nat_abs c.z) ≡ 0 → nat_abs (dot_p d c) ≡ 0
zero_dot d c h =
    let x = no_product d.x c.x (omega (arith, h)) in
    let y = no_product d.y c.y (omega (arith, h)) in
    let z = no_product d.z c.z (omega (arith, h)) in
    omega (arith, add_size (d.x *ℤ c.x +ℤ d.y *ℤ c.y) (d.z *ℤ c.z), add_size (d.x *ℤ c.x) (d.y *ℤ c.y), x, y, z)

-- ---- a whole vector that is not 0 can be normalised
same_size : (x : Float) (s t : Bool) (n : ℕ) → HasValue x s n 1 → HasValue x t 0 1 → n ≡ 0
same_size nan s t n v w = absurd v
same_size (inf r) s t n v w = absurd v
same_size (fin r m e) s t n v w = no_factor n (down e) (down_pos e) (sym v.1 ∙ w.1 ∙ zero-mul (down e))

stands_not_zero : (x : Float) (z : ℤ) → Stands x z → 0 < nat_abs z → eq x zeroᶠ ≡ false
stands_not_zero x z v h = go (eq x zeroᶠ) refl
  where
    go : (b : Bool) → eq x zeroᶠ ≡ b → eq x zeroᶠ ≡ false
    go false e = e
    go true e =
        let p = parted x z v in
        let q = zero-value-of x (zero_is x e) in
        absurd (let w = same_size x p.sign q.0 (nat_abs z) p.value q.1 in omega (arith, w, h))

pub whole_normalizable : (B : ℕ) (v : Vec3) (p : Point) → WholeVec B v p → 0 < nat_abs p.x + (nat_abs p.y + nat_abs p.z)
    → normalizable v ≡ true
unfolding normalizable zero_vec
whole_normalizable B v p w h = go (nat_abs p.x) (nat_abs p.y) refl refl
  where
    go : (i j : ℕ) → nat_abs p.x ≡ i → nat_abs p.y ≡ j
        → (finite_vec v && not (eq v.x zeroᶠ && (eq v.y zeroᶠ && eq v.z zeroᶠ))) ≡ true
    go (suc i) j a b = simp (finite_vec_lem B v p w, stands_not_zero v.x p.x w.first.value (omega (arith, a)))
    go zero (suc j) a b = simp (finite_vec_lem B v p w, stands_not_zero v.y p.y w.second.value (omega (arith, b)), and-false)
    go zero zero a b = simp (finite_vec_lem B v p w, stands_not_zero v.z p.z w.third.value (omega (arith, a, b, h)), and-false)

-- ---- the board
module _ (r : Ray) (vs : List Vec3) (g : Drawing) (whole_triangle : WholeTriangle r vs g) where
  -- the edges, the offset, and the two crosses, in floats
  abbrev pub A : Vec3
  A = sub_of (corner vs 1) (corner vs 0)

  abbrev pub B : Vec3
  B = sub_of (corner vs 2) (corner vs 0)

  abbrev pub O : Vec3
  O = sub_of r.origin (corner vs 0)

  abbrev pub P : Vec3
  P = cross_of r.direction B

  abbrev pub Q : Vec3
  Q = cross_of O A

  -- and over the whole numbers: the determinant and the three numerators
  abbrev pub dir : Point
  dir = along g.direction

  abbrev pub off : Point
  off = sub_p g.o g.a

  abbrev pub Δ : ℤ
  Δ = dot_p (first_edge g) (cross_p dir (second_edge g))

  abbrev pub U : ℤ
  U = dot_p off (cross_p dir (second_edge g))

  abbrev pub W : ℤ
  W = dot_p dir (cross_p off (first_edge g))

  abbrev pub D : ℤ
  D = dot_p (second_edge g) (cross_p off (first_edge g))

  whole_dir : WholeVec 1 r.direction dir
  whole_dir = drawn_at 1 r.direction dir (lit≤ tt) whole_triangle.direction

  pub whole_A : WholeVec 8192 A (first_edge g)
  whole_A =
      sub_whole 4096 4096 (corner vs 1) (corner vs 0) g.b g.a (drawn_at 4096 (corner vs 1) g.b (lit≤ tt) whole_triangle.second)
      (drawn_at 4096 (corner vs 0) g.a (lit≤ tt) whole_triangle.first) (lit≤ tt)

  pub whole_B : WholeVec 8192 B (second_edge g)
  whole_B =
      sub_whole 4096 4096 (corner vs 2) (corner vs 0) g.c g.a (drawn_at 4096 (corner vs 2) g.c (lit≤ tt) whole_triangle.third)
      (drawn_at 4096 (corner vs 0) g.a (lit≤ tt) whole_triangle.first) (lit≤ tt)

  whole_O : WholeVec 8192 O off
  whole_O =
      sub_whole 4096 4096 r.origin (corner vs 0) g.o g.a (drawn_at 4096 r.origin g.o (lit≤ tt) whole_triangle.origin)
      (drawn_at 4096 (corner vs 0) g.a (lit≤ tt) whole_triangle.first) (lit≤ tt)

  whole_P : WholeVec 16384 P (cross_p dir (second_edge g))
  whole_P = cross_whole 1 8192 r.direction B dir (second_edge g) whole_dir whole_B (lit≤ tt)

  whole_Q : WholeVec (2 ^ 27) Q (cross_p off (first_edge g))
  whole_Q = cross_whole 8192 8192 O A off (first_edge g) whole_O whole_A (lit≤ tt)

  pub whole_Δ : Whole (3 * 2 ^ 27) (dot_of A P) Δ
  whole_Δ = dot_whole 8192 16384 A P (first_edge g) (cross_p dir (second_edge g)) whole_A whole_P (lit≤ tt)

  whole_U : Whole (3 * 2 ^ 27) (dot_of O P) U
  whole_U = dot_whole 8192 16384 O P off (cross_p dir (second_edge g)) whole_O whole_P (lit≤ tt)

  whole_W : Whole (3 * 2 ^ 27) (dot_of r.direction Q) W
  whole_W = dot_whole 1 (2 ^ 27) r.direction Q dir (cross_p off (first_edge g)) whole_dir whole_Q (lit≤ tt)

  whole_D : Whole (3 * 2 ^ 40) (dot_of B Q) D
  whole_D = dot_whole 8192 (2 ^ 27) B Q (second_edge g) (cross_p off (first_edge g)) whole_B whole_Q (lit≤ tt)

  maximum_whole : Stands r.max_distance (pos g.maximum)
  maximum_whole = (drawn 16384 r.max_distance (pos g.maximum) (lit≤ tt) whole_triangle.maximum).value

  near_whole : Stands r.near (pos 0)
  near_whole = (drawn 0 r.near (pos 0) (lit≤ tt) whole_triangle.near).value

  pub maximum_value : HasValue r.max_distance false g.maximum 1
  maximum_value = (not_below_zero r.max_distance g.maximum whole_triangle.positive maximum_whole).0

  pub ray_admitted_lem : ray_admitted r ≡ true
  ray_admitted_lem =
      admitted r g.o g.direction g.maximum 4096 (drawn_at 4096 r.origin g.o (lit≤ tt) whole_triangle.origin) whole_dir
      whole_triangle.positive maximum_whole near_whole

  -- the three quotients in floats
  abbrev pub u : Float
  u = dot_of O P *ᶠ (oneᶠ /ᶠ dot_of A P)

  abbrev pub v : Float
  v = dot_of r.direction Q *ᶠ (oneᶠ /ᶠ dot_of A P)

  abbrev pub t : Float
  t = dot_of B Q *ᶠ (oneᶠ /ᶠ dot_of A P)

  pub det_finite : is_finite (dot_of A P) ≡ true
  det_finite = stands_finite (dot_of A P) Δ whole_Δ.value

  pub flat_none : nat_abs Δ ≡ 0 → ray_triangle r vs ≡ none
  unfolding ray_triangle triangle_of checked_dot
  flat_none h =
      simp (ray_admitted_lem, det_finite, flat_zero A B (first_edge g) (second_edge g) whole_A whole_B (dot_of A P) Δ whole_Δ.value h)

  pub size_Δ : nat_abs Δ ≡ nat_abs (dot_p dir (cross_p (first_edge g) (second_edge g)))
  size_Δ = ap nat_abs (triple (first_edge g) dir (second_edge g)) ∙ neg_size (dot_p dir (cross_p (first_edge g) (second_edge g)))

  module _ (some : 0 < nat_abs Δ) where
    abbrev pub δ : ℕ
    δ = nat_abs Δ

    δ_small : δ ≤ 2 ^ 29
    δ_small = le_trans whole_Δ.bound (lit≤ tt)

    pub ratio_u : Ratio u (signed_by Δ U) δ
    ratio_u =
        ratio (dot_of O P) (dot_of A P) U Δ whole_U.value whole_Δ.value some (le_trans whole_U.bound (lit≤ tt))
        (le_trans whole_Δ.bound (lit≤ tt))

    pub ratio_v : Ratio v (signed_by Δ W) δ
    ratio_v =
        ratio (dot_of r.direction Q) (dot_of A P) W Δ whole_W.value whole_Δ.value some (le_trans whole_W.bound (lit≤ tt))
        (le_trans whole_Δ.bound (lit≤ tt))

    pub ratio_t : Ratio t (signed_by Δ D) δ
    ratio_t =
        ratio (dot_of B Q) (dot_of A P) D Δ whole_D.value whole_Δ.value some (le_trans whole_D.bound (lit≤ tt))
        (le_trans whole_Δ.bound (lit≤ tt))

    -- near is 0, of either sign, and the depth is a number
    from_near : lt t r.near ≡ lt t zeroᶠ
    from_near = let p = parted r.near (pos 0) near_whole in near_is t (signed_by Δ D) δ some ratio_t r.near p.sign p.value

    depth_number : is_nan t ≡ false
    depth_number = value_number t ratio_t.sign ratio_t.quotient.units _ ratio_t.quotient.value

    pub answer_is : ray_triangle r vs
        ≡ chain (le zeroᶠ u) (le u oneᶠ) (lt v zeroᶠ) (lt oneᶠ (u +ᶠ v)) (lt t zeroᶠ || lt r.max_distance t) (triangle_normal r A B t)
    unfolding ray_triangle triangle_of checked_dot triangle_at triangle_above off_segment chain
    answer_is =
        simp (
          ray_admitted_lem,
          det_finite,
          not_flat A B (first_edge g) (second_edge g) whole_A whole_B (dot_of A P) Δ whole_Δ.value some,
          from_near,
          depth_number,
        )

    u_number : (x : Float) (z : ℤ) → Ratio x z δ → (le zeroᶠ x ≡ not (lt x zeroᶠ)) × (le x oneᶠ ≡ not (lt oneᶠ x))
    u_number x z q =
        let n = value_number x q.sign q.quotient.units _ q.quotient.value in
        (le_is_not_lt zeroᶠ x (value_number zeroᶠ false 0 1 zero_value) n, le_is_not_lt x oneᶠ n (value_number oneᶠ false 1 1 one_value))

    -- the tests that fail
    pub u_negative : 0 < np (signed_by Δ U) → ray_triangle r vs ≡ none
    u_negative h =
        answer_is ∙ first_fails _ _ _ _ _ _ ((u_number u (signed_by Δ U) ratio_u).0 ∙ ap not (negative u (signed_by Δ U) δ some ratio_u h))

    pub v_negative : 0 < np (signed_by Δ W) → ray_triangle r vs ≡ none
    v_negative h = answer_is ∙ third_fails (le zeroᶠ u) (le u oneᶠ) _ _ _ _ (negative v (signed_by Δ W) δ some ratio_v h)

    pub sum_above : np (signed_by Δ U) ≡ 0 → np (signed_by Δ W) ≡ 0 → δ < nat_abs (signed_by Δ U) + nat_abs (signed_by Δ W)
        → ray_triangle r vs ≡ none
    sum_above p q h =
        answer_is ∙ fourth_fails (le zeroᶠ u) (le u oneᶠ) (lt v zeroᶠ) _ _ _
        (sum_above_one u v (signed_by Δ U) (signed_by Δ W) δ some ratio_u ratio_v p q (let l = δ_small in omega (arith, l)) h
        (let a = whole_U.bound in let b = whole_W.bound in omega (arith, a, b, signed_size Δ U, signed_size Δ W)))

    pub t_negative : 0 < np (signed_by Δ D) → ray_triangle r vs ≡ none
    t_negative h =
        answer_is
        ∙ fifth_fails (le zeroᶠ u) (le u oneᶠ) (lt v zeroᶠ) (lt oneᶠ (u +ᶠ v)) _ _
        (or_first _ _ (negative t (signed_by Δ D) δ some ratio_t h))

    reach_small : g.maximum * δ ≤ 2 ^ 43
    reach_small = le_trans (mul-le-mul_right δ whole_triangle.maximum.bound) (let l = δ_small in omega (arith, l))

    pub t_above : g.maximum * δ < pp (signed_by Δ D) → ray_triangle r vs ≡ none
    t_above h =
        answer_is
        ∙ fifth_fails (le zeroᶠ u) (le u oneᶠ) (lt v zeroᶠ) (lt oneᶠ (u +ᶠ v)) _ _
        (or_second (lt t zeroᶠ) _ (above_whole t (signed_by Δ D) δ some ratio_t r.max_distance
        g.maximum maximum_value h reach_small))

    -- the normal can be told
    abbrev normal : Point
    normal = cross_p (first_edge g) (second_edge g)

    pub not_all_zero : 0 < nat_abs normal.x + (nat_abs normal.y + nat_abs normal.z)
    not_all_zero = elim (eq-zero-or-pos (nat_abs normal.x + (nat_abs normal.y + nat_abs normal.z))) [
      | inl z ↦ absurd (let a = zero_dot dir normal z in omega (arith, a, some, size_Δ))
      | inr p ↦ p
    ]

    cross_whole_C : WholeVec (2 ^ 27) (cross_of A B) (cross_p (first_edge g) (second_edge g))
    cross_whole_C = cross_whole 8192 8192 A B (first_edge g) (second_edge g) whole_A whole_B (lit≤ tt)

    pub has_normal_lem : normalizable (cross_of A B) ≡ true
    has_normal_lem = whole_normalizable (2 ^ 27) (cross_of A B) (cross_p (first_edge g) (second_edge g)) cross_whole_C not_all_zero

    -- the hit's normal
    pub faced : Vec3
    faced =
        let unit = over_length (cond (dot_tells (cross_of A B)) (cross_of A B) (scaled_to_one (cross_of A B))) in
        facing unit (dot_of r.direction unit)

    pub normal_is : (x : Float) → triangle_normal r A B x ≡ hit faced x
    unfolding triangle_normal faced
    normal_is x =
        ap (λ (n : Option Vec3). with_normal n no_normal (λ (normal : Vec3). hit (facing normal (dot_of r.direction normal)) x))
        (normalized_where (cross_of A B) has_normal_lem)

    -- all tests passed
    pub passes : np (signed_by Δ U) ≡ 0 → np (signed_by Δ W) ≡ 0 → nat_abs (signed_by Δ U) + nat_abs (signed_by Δ W) < δ
        → np (signed_by Δ D) ≡ 0
        → nat_abs (signed_by Δ D) < g.maximum * δ
        → ray_triangle r vs ≡ triangle_normal r A B t
    unfolding chain
    passes p q s n m =
        answer_is
        ∙ simp (
          (u_number u (signed_by Δ U) ratio_u).0,
          (u_number u (signed_by Δ U) ratio_u).1,
          not_negative u (signed_by Δ U) δ some ratio_u p,
          not_above_whole u (signed_by Δ U) δ some ratio_u oneᶠ 1 one_value (omega (arith, s)) (let l = δ_small in omega (arith, l)),
          not_negative v (signed_by Δ W) δ some ratio_v q,
          sum_not_above_one u v (signed_by Δ U) (signed_by Δ W) δ some ratio_u ratio_v p q (let l = δ_small in omega (arith, l)) s,
          not_negative t (signed_by Δ D) δ some ratio_t n,
          not_above_whole t (signed_by Δ D) δ some ratio_t r.max_distance g.maximum maximum_value m reach_small,
        )
