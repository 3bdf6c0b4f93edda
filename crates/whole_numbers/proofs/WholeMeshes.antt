-- The mesh cast is exact on meshes whose corners are drawn on whole numbers: demand 3 over the triangle cast's promise. Assumes nothing.
use mathlib.Core.Path.{◌≡◌, refl, sym, ap, ◌∙◌}
use mathlib.Core.Bool.{true, false}
use Prim.Native.Nat.{ℕ, zero, suc, ◌+◌, ◌*◌, ◌^◌, ◌≤◌, ◌<◌}
use native.Mathlib.Nat.{mul-le-mul_right, le_of_mul-le-mul_right, zero-lt-suc, zero-mul, mul-pos}
use native.Mathlib.Omega.{arith}
use lib.Dec.{lit≤}
use lib.IntN.{ℤ, nat_abs}
use lib.Ieee.{Float, nan, inf, fin, up, down, le}
use lib.Ieee.Fits.{down_pos}
use Rattle.arithmetic.specs.Basic.{is_finite}
use Rattle.arithmetic.proofs.SumOrder.{le_parts}
use Rattle.vectors.specs.Vector.{finite_vec, add_of, scale_of}
use Rattle.geometry.specs.Segment.{ray_admitted, segment_end}
use Rattle.vectors.specs.declared.vec3.Vec3.{Vec3}
use Rattle.geometry.specs.declared.ray.Ray.{Ray}
use Rattle.casts.specs.Answer.{hit, none, refused}
use Rattle.nearest_hit.specs.Nearest.{Indexed, hit_at, no_hit, stopped}
use Rattle.tree.specs.Mesh.{Mesh, corners_of}
use Rattle.mesh.specs.MeshCast.{ray_mesh}
use Rattle.mesh.specs.Demand3.{Candidate, answer_of, IsHit, MeetsDemand}
use Rattle.mesh.proofs.Demand3.{demand3}
use Rattle.whole_numbers.specs.WholeTriangle.{WholeTriangle, Parallel, Crossing, Within, ExactOnWholeNumbers}
use Rattle.whole_numbers.specs.WholeMesh.{Plan, drawing_of, WholeMesh, Met, Missed, parallel, outside, behind, beyond, AtMost}
use Rattle.whole_numbers.specs.WholeMesh.{MeshExact}
use Rattle.whole_numbers.specs.WholeMesh.{MeshesExact}
use Rattle.whole_numbers.proofs.Drawings.{drawn, drawn_at}
use Rattle.whole_numbers.proofs.Vectors.{whole_add, whole_mul}
use Rattle.whole_numbers.proofs.Admitted.{finite_vec_lem, admitted}
use Rattle.whole_numbers.proofs.WholeTriangles.{exact_on_whole_numbers, none_no_hit}

-- ---- the least depth: x is at most y, which is within 2^-51 of t / D
nearer_still : (X d Y d' t D : ℕ) → 0 < d' → X * d' ≤ Y * d → 2 ^ 51 * (Y * D) ≤ 2 ^ 51 * (t * d') + t * d'
    → 2 ^ 51 * (X * D) ≤ 2 ^ 51 * (t * d) + t * d
nearer_still X d Y d' t D p h g =
    let a : X * d' * (2 ^ 51 * D) ≤ Y * d * (2 ^ 51 * D) = mul-le-mul_right (2 ^ 51 * D) h in
    let b : 2 ^ 51 * (Y * D) * d ≤ (2 ^ 51 * (t * d') + t * d') * d = mul-le-mul_right d g in
    le_of_mul-le-mul_right (omega (arith, a, b)) p

-- a zero of either sign lies above nothing
zero_at_most : (X d t D : ℕ) → X ≡ 0 → 2 ^ 51 * (X * D) ≤ 2 ^ 51 * (t * d) + t * d
zero_at_most X d t D h = let a : X * D ≡ 0 = ap (λ (n : ℕ). n * D) h ∙ zero-mul D in omega (arith, a)

zero_size : (X D t d : ℕ) → 0 < D → t ≡ 0 → 2 ^ 51 * (X * D) ≤ 2 ^ 51 * (t * d) + t * d → X ≡ 0
zero_size zero D t d p h g = refl
zero_size (suc X) D t d p h g =
    let a : t * d ≡ 0 = ap (λ (n : ℕ). n * d) h ∙ zero-mul d in
    let b = mul-pos (zero-lt-suc X) p in
    absurd (omega (arith, a, b, g))

at_most : (x y : Float) (t' D' t D : ℕ) → 0 < D' → Within x t' D' → Within y t D → le x y ≡ true → AtMost x t D
unfolding is_finite
at_most nan y t' D' t D p v w h = v
at_most (inf s) y t' D' t D p v w h = v
at_most (fin s m e) nan t' D' t D p v w h = absurd w
at_most (fin s m e) (inf r) t' D' t D p v w h = absurd w
at_most (fin true m e) (fin r n d) t' D' t D p v w h =
    zero_at_most (m * up e) (down e) t D (zero_size (m * up e) D' t' (down e) p (v.0 refl) v.1.0)
at_most (fin false m e) (fin false n d) t' D' t D p v w h =
    let a = le_parts (fin false m e) (fin false n d) refl refl h in
    nearer_still (m * up e) (down e) (n * up d) (down d) t D (down_pos d) (omega (arith, a)) w.1.0
at_most (fin false m e) (fin true n d) t' D' t D p v w h =
    let a = le_parts (fin false m e) (fin true n d) refl refl h in
    nearer_still (m * up e) (down e) (n * up d) (down d) t D (down_pos d) (omega (arith, a)) w.1.0

-- what is neither none nor a refusal is a hit
is_hit_lem : (a : Indexed) → (a ≡ no_hit → ⊥) → ((number : ℕ) → a ≡ stopped number → ⊥)
    → (normal : Vec3) × (distance : Float) × (index : ℕ) × (a ≡ hit_at normal distance index)
is_hit_lem (hit_at n d i) f g = (n, d, i, refl)
is_hit_lem no_hit f g = absurd (f refl)
is_hit_lem (stopped number) f g = absurd (g number refl)

module _ (r : Ray) (m : Mesh) (p : Plan) (b : WholeMesh r m p) where
  -- ---- the ray is admitted and its segment's end is finite
  pub ray_admitted_lem : ray_admitted r ≡ true
  ray_admitted_lem =
      admitted r p.o p.direction p.maximum 4096 (drawn_at 4096 _ _ (lit≤ tt) b.origin)
      (drawn_at 1 _ _ (lit≤ tt) b.direction) b.positive (drawn 16384 _ _ (lit≤ tt) b.maximum).value
      (drawn 0 _ _ (lit≤ tt) b.near).value

  end_finite : finite_vec (segment_end r) ≡ true
  unfolding segment_end add_of scale_of
  end_finite =
      let o = drawn_at 4096 _ _ (lit≤ tt) b.origin in
      let d = drawn_at 1 _ _ (lit≤ tt) b.direction in
      let k = drawn 16384 _ _ (lit≤ tt) b.maximum in
      finite_vec_lem 20480 _ (record { x = _; y = _; z = _ }) (record {
        first = whole_add 4096 16384 _ _ _ _ (lit≤ tt) o.first (whole_mul 1 16384 _ _ _ _ (lit≤ tt) d.first k);
        second = whole_add 4096 16384 _ _ _ _ (lit≤ tt) o.second (whole_mul 1 16384 _ _ _ _ (lit≤ tt) d.second k);
        third = whole_add 4096 16384 _ _ _ _ (lit≤ tt) o.third (whole_mul 1 16384 _ _ _ _ (lit≤ tt) d.third k);
      })

  -- ---- each candidate is a board
  whole_triangle : (i : ℕ) → Candidate r m i → WholeTriangle r (corners_of m.vertices m.triangles i) (drawing_of p i)
  unfolding corners_of
  whole_triangle i c = record {
    origin = b.origin;
    direction = b.direction;
    near = b.near;
    maximum = b.maximum;
    positive = b.positive;
    first = b.corners i c 0 (lit≤ tt);
    second = b.corners i c 1 (lit≤ tt);
    third = b.corners i c 2 (lit≤ tt);
  }

  exact : (i : ℕ) → Candidate r m i → ExactOnWholeNumbers r (corners_of m.vertices m.triangles i) (drawing_of p i)
  exact i c = exact_on_whole_numbers r (corners_of m.vertices m.triangles i) (drawing_of p i) (whole_triangle i c)

  never_refused : (i number : ℕ) → Candidate r m i → answer_of r m i ≡ refused number → ⊥
  unfolding answer_of
  never_refused i number c h = (exact i c).answers number h

  met_hit : (i : ℕ) → Candidate r m i → (D : ℕ) (u v t : ℤ) → Met (drawing_of p i) D u v t
      → (normal : Vec3) × (distance : Float) × (answer_of r m i ≡ hit normal distance)
  unfolding answer_of
  met_hit i c D u v t k = (exact i c).hits k.apart D u v t k.crossing k.inside k.from_zero k.below_maximum

  missed_none : (i : ℕ) → Candidate r m i → Missed (drawing_of p i) → answer_of r m i ≡ none
  unfolding answer_of
  missed_none i c (parallel h) = (exact i c).parallel h
  missed_none i c (outside D u v t k h) = (exact i c).outside D u v t k h
  missed_none i c (behind D u v t k h) = (exact i c).behind D u v t k h
  missed_none i c (beyond D u v t k h) = (exact i c).beyond D u v t k h

  hit_within : (i : ℕ) → Candidate r m i → (normal : Vec3) (distance : Float) → answer_of r m i ≡ hit normal distance
      → (D : ℕ) (u v t : ℤ) → Crossing (drawing_of p i) D u v t → Within distance (nat_abs t) D
  unfolding answer_of
  hit_within i c n x h D u v t k = (exact i c).near n x h D u v t k

  not_missed : (i : ℕ) → Candidate r m i → (normal : Vec3) (distance : Float) → answer_of r m i ≡ hit normal distance
      → Missed (drawing_of p i) → ⊥
  not_missed i c n x h k = none_no_hit n x (sym (missed_none i c k) ∙ h)

  crossing : (i : ℕ) → Candidate r m i → (normal : Vec3) (distance : Float) → answer_of r m i ≡ hit normal distance
      → (D : ℕ) × (u : ℤ) × (v : ℤ) × (t : ℤ) × Crossing (drawing_of p i) D u v t
  crossing i c n x h = (exact i c).crosses (λ (k : Parallel (drawing_of p i)). not_missed i c n x h (parallel k))

  -- ---- the promise, of every answer that meets demand 3
  module _ (answer : Indexed) (d : MeetsDemand r m answer) where
    answers : (number : ℕ) → answer ≡ stopped number → ⊥
    answers number h =
        let l = d.refuses_only_if number h in never_refused l.index number l.refuses.candidate l.refuses.answers

    hits : (i : ℕ) → Candidate r m i → (D : ℕ) (u v t : ℤ) → Met (drawing_of p i) D u v t
        → (normal : Vec3) × (distance : Float) × (index : ℕ) × (answer ≡ hit_at normal distance index)
    hits i c D u v t k =
        let w = met_hit i c D u v t k in
        is_hit_lem answer (λ (h : answer ≡ no_hit). none_no_hit w.0 w.1 (sym (d.none_only_if h i c) ∙ w.2)) answers

    module _ (normal : Vec3) (distance : Float) (index : ℕ) (h : answer ≡ hit_at normal distance index) where
      own : IsHit r m index normal distance
      own = (d.hit_only_if normal distance index h).is_hit

      least_depth : (i : ℕ) → Candidate r m i → (D : ℕ) (u v t : ℤ) → Met (drawing_of p i) D u v t → AtMost distance (nat_abs t) D
      least_depth i c D u v t k =
          let w = met_hit i c D u v t k in
          let o = crossing index own.candidate normal distance own.answers in
          at_most distance w.1 (nat_abs o.3) o.0 (nat_abs t) D o.4.divisor
          (hit_within index own.candidate normal distance own.answers o.0 o.1 o.2 o.3 o.4)
          (hit_within i c w.0 w.1 w.2 D u v t k.crossing)
          ((d.hit_only_if normal distance index h).as_far i w.0 w.1 (record { candidate = c; answers = w.2 }))

    exact_where_met : MeshExact r m p answer
    exact_where_met = record {
      answers = answers;
      hits = hits;
      misses = λ f. d.none_if (λ (i : ℕ) (c : Candidate r m i). missed_none i c (f i c));
      candidate = λ n x i h. (own n x i h).candidate;
      crosses = λ n x i h. crossing i (own n x i h).candidate n x (own n x i h).answers;
      not_missed = λ n x i h. not_missed i (own n x i h).candidate n x (own n x i h).answers;
      near = λ n x i h. hit_within i (own n x i h).candidate n x (own n x i h).answers;
      least = λ n x i h. (d.hit_only_if n x i h).as_far;
      least_depth = least_depth;
    }

pub meshes_exact : MeshesExact
meshes_exact r m t list stack p lengths passes room b =
    exact_where_met r m p b (ray_mesh r m m.vertices t list stack) (demand3 r m t list stack (record {
      mesh = lengths;
      ray = ray_admitted_lem r m p b;
      end = end_finite r m p b;
      tree = passes;
      areas = room;
    }))
