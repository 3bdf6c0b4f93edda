-- The triangle cast is exact on boards that are drawn on whole numbers. Assumes nothing.
use mathlib.Core.Path.{◌≡◌, refl, sym, ap, ◌∙◌, subst}
use mathlib.Core.Logic.{inl, inr}
use mathlib.Core.Bool.{Bool, true, false, not, false≢true}
use mathlib.Core.List.{List}
use Prim.Native.Nat.{ℕ, zero, suc, ◌+◌, ◌*◌, ◌^◌, ◌≤◌, ◌<◌}
use native.Mathlib.Nat.{mul_comm, mul-pos, zero-lt-suc, mul-zero, mul-le-mul_right, mul-lt-mul_of_pos_right, lt_of_mul-lt-mul_right}
use native.Mathlib.Nat.{le_of_mul-le-mul_right, eq-zero-or-pos}
use native.Mathlib.Omega.{arith}
use lib.Dec.{T, ltb→lt}
use lib.IntN.{ℤ, pos, negsuc, nat_abs, ◌+ℤ◌}
use lib.Signed.{◌≤ℤ◌, ◌<ℤ◌}
use lib.Ieee.{Float, nan, inf, fin, up, down, lt, le}
use Rattle.lists.proofs.JoinedTests.{neither_first}
use Rattle.vectors.specs.Numbers.{zeroᶠ}
use Rattle.vectors.specs.declared.vec3.Vec3.{Vec3}
use Rattle.geometry.specs.declared.ray.Ray.{Ray}
use Rattle.casts.specs.Answer.{Answer, hit, none, refused}
use Rattle.triangle_cast.specs.Triangle.{ray_triangle}
use Rattle.arithmetic.specs.Scaling.{unit}
use Rattle.arithmetic.proofs.SignedOrder.{less}
use Rattle.wide_integers.proofs.Integers.{no_factor, pp, np, size_is, add_parts, size_zero}
use Rattle.whole_numbers.specs.Points.{Point, cross_p, dot_p}
use Rattle.whole_numbers.specs.WholeTriangle.{Drawing, WholeTriangle, Parallel, Degenerate, Crossing, Inside, Outside, first, second}
use Rattle.whole_numbers.specs.WholeTriangle.{sum, Within}
use Rattle.whole_numbers.specs.WholeTriangle.{ExactOnWholeNumbers, first_edge, second_edge}
use Rattle.arithmetic.proofs.ScalingLaws.{unit_pos}
use Rattle.whole_numbers.proofs.Decisions.{Ratio, signed_by, negative}
use Rattle.whole_numbers.proofs.Cramer.{cramer_u, cramer_v, cramer_t, parts, meet}
use Rattle.whole_numbers.proofs.Casting as C

-- ---- the order of whole numbers
not_minus : (z : ℤ) → pos 0 ≤ℤ z → np z ≡ 0
not_minus (pos n) h = refl
not_minus (negsuc n) h = absurd h.le

minus : (z : ℤ) → z <ℤ pos 0 → 0 < np z
minus (pos n) h = absurd (let a = ltb→lt n 0 h.lt in omega (arith, a))
minus (negsuc n) h = zero-lt-suc n

under : (z : ℤ) (k : ℕ) → z <ℤ pos k → 0 < k → pp z < k
under (pos n) k h p = ltb→lt n k h.lt
under (negsuc n) k h p = p

over : (z : ℤ) (k : ℕ) → pos k <ℤ z → (k < pp z) × (np z ≡ 0)
over (pos n) k h = (ltb→lt k n h.lt, refl)
over (negsuc n) k h = absurd h.lt

-- ---- K * n' = δ * n
nil : (k n : ℕ) → 0 < k → k * n ≡ 0 → n ≡ 0
nil k n p h = no_factor n k p (mul_comm n k ∙ h)

kept_zero : (K δ n' n : ℕ) → 0 < K → K * n' ≡ δ * n → n ≡ 0 → n' ≡ 0
kept_zero K δ n' n p h z = nil K n' p (h ∙ ap (λ (m : ℕ). δ * m) z ∙ mul-zero δ)

kept_some : (K δ n' n : ℕ) → 0 < δ → K * n' ≡ δ * n → 0 < n → 0 < n'
kept_some K δ zero n p h k = absurd (omega (arith, h, mul-pos p k))
kept_some K δ (suc n') n p h k = zero-lt-suc n'

kept_below : (K δ n' n c : ℕ) → 0 < δ → K * n' ≡ δ * n → n < c * K → n' < c * δ
kept_below K δ n' n c p h k = let a : n * δ < c * K * δ = mul-lt-mul_of_pos_right k p in lt_of_mul-lt-mul_right K (omega (arith, a, h))

kept_above : (K δ n' n c : ℕ) → 0 < δ → K * n' ≡ δ * n → c * K < n → c * δ < n'
kept_above K δ n' n c p h k = let a : c * K * δ < n * δ = mul-lt-mul_of_pos_right k p in lt_of_mul-lt-mul_right K (omega (arith, a, h))

-- ---- what an answer's hit says
distance_of_lem : Float → Answer → Float
distance_of_lem d (hit n x) = x
distance_of_lem d none = d
distance_of_lem d (refused k) = d

is_hit_lem : Answer → Bool
is_hit_lem (hit n x) = true
is_hit_lem none = false
is_hit_lem (refused k) = false

is_none : Answer → Bool
is_none (hit n x) = false
is_none none = true
is_none (refused k) = false

pub none_no_hit : (n : Vec3) (x : Float) → none ≡ hit n x → ⊥
unfolding is_hit_lem
none_no_hit n x h = subst (λ (a : Answer). T (not (is_hit_lem a))) h tt

same_distance : (n m : Vec3) (x y : Float) → hit n x ≡ hit m y → x ≡ y
unfolding distance_of_lem
same_distance n m x y h = ap (distance_of_lem x) h

chain_hit : (a b c d e : Bool) (t : Answer) (n : Vec3) (x : Float) → C.chain a b c d e t ≡ hit n x → (t ≡ hit n x) × (e ≡ false)
unfolding C.chain
chain_hit false b c d e t n x h = absurd (none_no_hit n x h)
chain_hit true false c d e t n x h = absurd (none_no_hit n x h)
chain_hit true true true d e t n x h = absurd (none_no_hit n x h)
chain_hit true true false true e t n x h = absurd (none_no_hit n x h)
chain_hit true true false false true t n x h = absurd (none_no_hit n x h)
chain_hit true true false false false t n x h = (h, refl)

none_no_refusal : (number : ℕ) → none ≡ refused number → ⊥
unfolding is_none
none_no_refusal number h = false≢true (sym (ap is_none h))

hit_no_refusal : (n : Vec3) (x : Float) (number : ℕ) → hit n x ≡ refused number → ⊥
unfolding is_hit_lem
hit_no_refusal n x number h = false≢true (sym (ap is_hit_lem h))

chain_answers : (a b c d e : Bool) (t : Answer) (number : ℕ) → (t ≡ refused number → ⊥) → C.chain a b c d e t ≡ refused number → ⊥
unfolding C.chain
chain_answers false b c d e t number f h = none_no_refusal number h
chain_answers true false c d e t number f h = none_no_refusal number h
chain_answers true true true d e t number f h = none_no_refusal number h
chain_answers true true false true e t number f h = none_no_refusal number h
chain_answers true true false false true t number f h = none_no_refusal number h
chain_answers true true false false false t number f h = f h

-- ---- the distance
nearer : (X d u g N δ K t : ℕ) → 0 < u → 0 < δ → X * u ≡ g * d → K * N ≡ δ * t → 2 ^ 51 * (g * δ) ≤ 2 ^ 51 * (N * u) + N * u
    → 2 ^ 51 * (X * K) ≤ 2 ^ 51 * (t * d) + t * d
nearer X d u g N δ K t p q e f h =
    let a : X * u * (K * δ) ≡ g * d * (K * δ) = ap (λ (z : ℕ). z * (K * δ)) e in
    let b : K * N * (d * u) ≡ δ * t * (d * u) = ap (λ (z : ℕ). z * (d * u)) f in
    let c : 2 ^ 51 * (g * δ) * (d * K) ≤ (2 ^ 51 * (N * u) + N * u) * (d * K) = mul-le-mul_right (d * K) h in
    le_of_mul-le-mul_right (omega (arith, a, b, c)) (mul-pos p q)

farther : (X d u g N δ K t : ℕ) → 0 < u → 0 < δ → X * u ≡ g * d → K * N ≡ δ * t → 2 ^ 51 * (N * u) ≤ 2 ^ 51 * (g * δ) + N * u
    → 2 ^ 51 * (t * d) ≤ 2 ^ 51 * (X * K) + t * d
farther X d u g N δ K t p q e f h =
    let a : X * u * (K * δ) ≡ g * d * (K * δ) = ap (λ (z : ℕ). z * (K * δ)) e in
    let b : K * N * (d * u) ≡ δ * t * (d * u) = ap (λ (z : ℕ). z * (d * u)) f in
    let c : 2 ^ 51 * (N * u) * (d * K) ≤ (2 ^ 51 * (g * δ) + N * u) * (d * K) = mul-le-mul_right (d * K) h in
    le_of_mul-le-mul_right (omega (arith, a, b, c)) (mul-pos p q)

within : (x : Float) (z : ℤ) (δ K t : ℕ) → 0 < δ → Ratio x z δ → np z ≡ 0 → K * nat_abs z ≡ δ * t → Within x t K
within nan z δ K t p r n h = r.quotient.value
within (inf s) z δ K t p r n h = r.quotient.value
within (fin s m e) z δ K t p r n h =
    let q = r.quotient in
    let v = q.value in (
      λ (a : s ≡ true). zero_depth (sym v.0 ∙ a),
      (
        nearer (m * up e) (down e) unit q.units (nat_abs z) δ K t unit_pos p v.1 h q.upper,
        farther (m * up e) (down e) unit q.units (nat_abs z) δ K t unit_pos p v.1 h q.lower,
      ),
    )
  where
    zero_depth : r.sign ≡ true → t ≡ 0
    zero_depth a =
        let b : 0 ≡ nat_abs z = sym n ∙ r.below_zero ∙ ap (λ (w : Bool). less w (nat_abs z)) a in
        nil δ t p (sym h ∙ ap (λ (w : ℕ). K * w) (sym b) ∙ mul-zero K)

-- ---- the promise
module _ (r : Ray) (vs : List Vec3) (g : Drawing) (whole_triangle : WholeTriangle r vs g) where
  abbrev Δ : ℤ
  Δ = C.Δ r vs g whole_triangle

  flat_by : nat_abs (dot_p (C.dir r vs g whole_triangle) (cross_p (first_edge g) (second_edge g))) ≡ 0 → ray_triangle r vs ≡ none
  flat_by h = C.flat_none r vs g whole_triangle (C.size_Δ r vs g whole_triangle ∙ h)

  parallel : Parallel g → ray_triangle r vs ≡ none
  parallel h = flat_by (ap nat_abs h)

  degenerate : Degenerate g → ray_triangle r vs ≡ none
  degenerate h =
      flat_by (C.zero_dot (C.dir r vs g whole_triangle) (cross_p (first_edge g) (second_edge g))
      (ap (λ (p : Point). nat_abs p.x + (nat_abs p.y + nat_abs p.z)) h))

  some_size : (Parallel g → ⊥) → 0 < nat_abs Δ
  some_size f = elim (eq-zero-or-pos (nat_abs Δ)) [
    | inl z ↦ absurd (f (size_zero _ (sym (C.size_Δ r vs g whole_triangle) ∙ z)))
    | inr p ↦ p
  ]

  -- a crossing, in parts
  module _ (K : ℕ) (u v t : ℤ) (c : Crossing g K u v t) where
    u' : ℤ
    u' = signed_by Δ (C.U r vs g whole_triangle)

    v' : ℤ
    v' = signed_by Δ (C.W r vs g whole_triangle)

    t' : ℤ
    t' = signed_by Δ (C.D r vs g whole_triangle)

    δ : ℕ
    δ = nat_abs Δ

    parts_u : (K * pp u' ≡ δ * pp u) × (K * np u' ≡ δ * np u)
    unfolding u' δ
    parts_u =
        parts K (nat_abs Δ) u (C.U r vs g whole_triangle) Δ refl
        (cramer_u (pos K) t u v (C.off r vs g whole_triangle) (C.dir r vs g whole_triangle) (first_edge g) (second_edge g) c.meets)

    parts_v : (K * pp v' ≡ δ * pp v) × (K * np v' ≡ δ * np v)
    unfolding v' δ
    parts_v =
        parts K (nat_abs Δ) v (C.W r vs g whole_triangle) Δ refl
        (cramer_v (pos K) t u v (C.off r vs g whole_triangle) (C.dir r vs g whole_triangle) (first_edge g) (second_edge g) c.meets)

    parts_t : (K * pp t' ≡ δ * pp t) × (K * np t' ≡ δ * np t)
    unfolding t' δ
    parts_t =
        parts K (nat_abs Δ) t (C.D r vs g whole_triangle) Δ refl
        (cramer_t (pos K) t u v (C.off r vs g whole_triangle) (C.dir r vs g whole_triangle) (first_edge g) (second_edge g) c.meets)

    both_parts : K * (pp u' + pp v') ≡ δ * (pp u + pp v)
    both_parts = omega (arith, parts_u.0, parts_v.0)

    -- none where the determinant is 0
    by_size : (0 < δ → ray_triangle r vs ≡ none) → ray_triangle r vs ≡ none
    unfolding δ
    by_size f = elim (eq-zero-or-pos (nat_abs Δ)) [ inl z ↦ C.flat_none r vs g whole_triangle z | inr p ↦ f p ]

    behind : t <ℤ pos 0 → ray_triangle r vs ≡ none
    unfolding t' δ
    behind h =
        by_size (λ (p : 0 < nat_abs Δ). C.t_negative r vs g whole_triangle p (kept_some K (nat_abs Δ) (np t') (np t) p parts_t.1
        (minus t h)))

    beyond : pos (g.maximum * K) <ℤ t → ray_triangle r vs ≡ none
    unfolding t' δ
    beyond h =
        by_size (λ (p : 0 < nat_abs Δ). C.t_above r vs g whole_triangle p
        (kept_above K (nat_abs Δ) (pp t') (pp t) g.maximum p parts_t.0 (over t (g.maximum * K) h).0))

    left_side : u <ℤ pos 0 → ray_triangle r vs ≡ none
    unfolding u' δ
    left_side h =
        by_size (λ (p : 0 < nat_abs Δ). C.u_negative r vs g whole_triangle p (kept_some K (nat_abs Δ) (np u') (np u) p parts_u.1
        (minus u h)))

    right_side : v <ℤ pos 0 → ray_triangle r vs ≡ none
    unfolding v' δ
    right_side h =
        by_size (λ (p : 0 < nat_abs Δ). C.v_negative r vs g whole_triangle p (kept_some K (nat_abs Δ) (np v') (np v) p parts_v.1
        (minus v h)))

    far_side : pos K <ℤ (u +ℤ v) → ray_triangle r vs ≡ none
    unfolding u' v' δ
    far_side h = by_size (λ (p : 0 < nat_abs Δ). elim (eq-zero-or-pos (np u')) [
      | inr a ↦ C.u_negative r vs g whole_triangle p a
      | inl a ↦ elim (eq-zero-or-pos (np v')) [
        | inr b ↦ C.v_negative r vs g whole_triangle p b
        | inl b ↦
            let o = over (u +ℤ v) K h in
            let s : 1 * K < pp u + pp v = omega (arith, o.0, o.1, add_parts u v) in
            let w = kept_above K (nat_abs Δ) (pp u' + pp v') (pp u + pp v) 1 p both_parts s in
            C.sum_above r vs g whole_triangle p a b (omega (arith, w, size_is u', size_is v', a, b))
      ]
    ])

    outside : Outside K u v → ray_triangle r vs ≡ none
    outside (first h) = left_side h
    outside (second h) = right_side h
    outside (sum h) = far_side h

    hits : (Parallel g → ⊥) → Inside K u v → pos 0 ≤ℤ t → t <ℤ pos (g.maximum * K)
        → (normal : Vec3) × (distance : Float) × (ray_triangle r vs ≡ hit normal distance)
    unfolding u' v' t' δ
    hits f h l m =
        let p : 0 < nat_abs Δ = some_size f in
        let nu = not_minus u h.first in
        let nv = not_minus v h.second in
        let nt = not_minus t l in
        let a = kept_zero K (nat_abs Δ) (np u') (np u) c.divisor parts_u.1 nu in
        let b = kept_zero K (nat_abs Δ) (np v') (np v) c.divisor parts_v.1 nv in
        let d = kept_zero K (nat_abs Δ) (np t') (np t) c.divisor parts_t.1 nt in
        let s : pp u + pp v < 1 * K = (let w = under (u +ℤ v) K h.sum c.divisor in omega (arith, w, add_parts u v, nu, nv)) in
        let e = kept_below K (nat_abs Δ) (pp u' + pp v') (pp u + pp v) 1 p both_parts s in
        let k =
        kept_below K (nat_abs Δ) (pp t') (pp t) g.maximum p parts_t.0
        (under t (g.maximum * K) m (mul-pos whole_triangle.positive c.divisor)) in (
          _,
          _,
          C.passes r vs g whole_triangle p a b (omega (arith, e, size_is u', size_is v', a, b)) d (omega (arith, k, size_is t', d))
              ∙ C.normal_is r vs g whole_triangle p (C.t r vs g whole_triangle),
        )

    forward : (p : 0 < nat_abs Δ) → lt (C.t r vs g whole_triangle) zeroᶠ ≡ false → np t' ≡ 0
    unfolding t'
    forward p e = elim (eq-zero-or-pos (np t')) [
      | inl z ↦ z
      | inr k ↦ absurd (subst (λ (b : Bool). T b) (sym (negative (C.t r vs g whole_triangle) t' (nat_abs Δ) p
          (C.ratio_t r vs g whole_triangle p) k) ∙ e) tt)
    ]

    near : (normal : Vec3) (distance : Float) → ray_triangle r vs ≡ hit normal distance → Within distance (nat_abs t) K
    unfolding t' δ
    near n x h = elim (eq-zero-or-pos (nat_abs Δ)) [
      | inl z ↦ absurd (none_no_hit n x (sym (C.flat_none r vs g whole_triangle z) ∙ h))
      | inr p ↦
          let w = chain_hit _ _ _ _ _ _ n x (sym (C.answer_is r vs g whole_triangle p) ∙ h) in
          let s : C.t r vs g whole_triangle ≡ x =
          same_distance _ n (C.t r vs g whole_triangle) x (sym (C.normal_is r vs g whole_triangle p (C.t r vs g whole_triangle)) ∙ w.0) in
          let q = C.ratio_t r vs g whole_triangle p in
          let z : np t' ≡ 0 = forward p (neither_first _ _ w.1) in
          subst (λ (y : Float). Within y (nat_abs t) K) s
          (within (C.t r vs g whole_triangle) t' (nat_abs Δ) K (nat_abs t) p q z
          (omega (arith, parts_t.0, parts_t.1, ap (λ (m : ℕ). K * m) (size_is t'), ap (λ (m : ℕ). nat_abs Δ * m) (size_is t))))
    ]

  answers : (number : ℕ) → ray_triangle r vs ≡ refused number → ⊥
  answers number h = elim (eq-zero-or-pos (nat_abs Δ)) [
    | inl z ↦ none_no_refusal number (sym (C.flat_none r vs g whole_triangle z) ∙ h)
    | inr p ↦
        chain_answers _ _ _ _ _ _ number (λ e. hit_no_refusal _ _ number (sym (C.normal_is r vs g whole_triangle p
        (C.t r vs g whole_triangle)) ∙ e))
        (sym (C.answer_is r vs g whole_triangle p) ∙ h)
  ]

  crosses : (Parallel g → ⊥) → (D : ℕ) × (u : ℤ) × (v : ℤ) × (t : ℤ) × Crossing g D u v t
  crosses f = (
    nat_abs Δ,
    signed_by Δ (C.U r vs g whole_triangle),
    signed_by Δ (C.W r vs g whole_triangle),
    signed_by Δ
        (C.D r vs g whole_triangle),
    record {
      divisor = some_size f;
      meets = meet (C.off r vs g whole_triangle) (C.dir r vs g whole_triangle) (first_edge g)
          (second_edge g);
    },
  )

pub exact_on_whole_numbers : (r : Ray) (vs : List Vec3) (g : Drawing) → WholeTriangle r vs g → ExactOnWholeNumbers r vs g
exact_on_whole_numbers r vs g whole_triangle = record {
  crosses = crosses r vs g whole_triangle;
  hits = λ f D u v t c. hits r vs g whole_triangle D u v t c f;
  parallel = parallel r vs g whole_triangle;
  degenerate = degenerate r vs g whole_triangle;
  outside = λ D u v t c. outside r vs g whole_triangle D u v t c;
  behind = λ D u v t c. behind r vs g whole_triangle D u v t c;
  beyond = λ D u v t c. beyond r vs g whole_triangle D u v t c;
  answers = answers r vs g whole_triangle;
  near = λ n x h D u v t c. near r vs g whole_triangle D u v t c n x h;
}
