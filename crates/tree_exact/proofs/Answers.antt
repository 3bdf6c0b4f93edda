-- A triangle's answer in the exact cast is as the walk asks: a hit is at the depth of a point, and a triangle whose box is in the grid's
-- range does not refuse. Assumes nothing.
use Prim.Native.Nat.{ℕ, ◌*◌, ◌<◌}
use mathlib.Core.Path.{◌≡◌, refl, sym, ap, ◌∙◌, subst}
use mathlib.Core.Bool.{Bool, true, false, cond, false≢true}
use mathlib.Core.List.{List}
use native.Mathlib.Nat.{mul-pos}
use native.Mathlib.Omega.{arith}
use lib.Dec.{lit<}
use lib.IntN.{ℤ, pos, negsuc, nat_abs, ◌*ℤ◌}
use lib.ListN.{length}
use lib.Signed.{le_z}
use lib.Ieee.{Float, nan, inf, fin, binary64, round, le, lt, eq, neg, is_nan}
use lib.Ieee.Bits.{is_true}
use lib.Ieee.Order.{round_mono}
use Rattle.lists.proofs.JoinedTests.{and_three}
use Rattle.arithmetic.specs.Basic.{is_finite, absolute}
use Rattle.arithmetic.proofs.Order.{le_left_number}
use Rattle.arithmetic.proofs.SumOrder.{le_parts}
use Rattle.geometry.specs.Box.{encloses}
use Rattle.geometry.specs.Segment.{ray_admitted}
use Rattle.vectors.specs.declared.vec3.Vec3.{Vec3}
use Rattle.geometry.specs.declared.ray.Ray.{Ray}
use Rattle.casts.specs.Answer.{Answer, hit, refused, out_of_bounds, out_of_range}
use Rattle.casts.specs.Reach.{reach_of, Refused}
use Rattle.casts.proofs.AnswerLists.{HitsAreNumbers, hit_not_refused}
use Rattle.tree.specs.Mesh.{Mesh, thirds, corner_at, corners_of, corners_inside, triangle_box, triangle_count}
use Rattle.exact_triangle.specs.Line.{Line}
use Rattle.exact_triangle.specs.Grid.{units, within, all_within, furthest, grid_admitted, grid_point, grid_line}
use Rattle.exact_triangle.specs.Surface.{Surface}
use Rattle.exact_triangle.proofs.Touching.{furthest_is}
use Rattle.exact_triangle.specs.Reach.{corners_read}
use Rattle.exact_triangle.specs.Cast.{grid_triangle}
use Rattle.exact_triangle.specs.Certain.{Nearest}
use Rattle.exact_triangle.proofs.Laws.{first_read, second_read, third_read}
use Rattle.exact_triangle.proofs.Certainty.{reach_certain}
use Rattle.exact_triangle.proofs.Hits.{off_hit, reached_as, never_refused}
use Rattle.mesh_exact.proofs.Reaching.{inside_answer}
use Rattle.tree_exact.specs.Demand.{grid_box, HitPoint, GridAnswers}
use Rattle.mesh_exact.specs.GridCast.{exact_answer}
use Rattle.tree_exact.specs.Numbers.{NoNaN}
use Rattle.tree_exact.proofs.Corners.{Among, among_box, Numbers}
use Rattle.tree_exact.proofs.Safely.{top, bottom, negated, parts_le, corners_enclosed}

-- ---- within a bound, from both sides
both_sides : (k : ℕ) (x : Float) → le (bottom k) x ≡ true → le x (top k) ≡ true → le (absolute x) (top k) ≡ true
unfolding absolute
both_sides k nan h g = g
both_sides k (inf false) h g = g
both_sides k (inf true) h g = unfold le lt eq in absurd (false≢true h)
both_sides k (fin false m e) h g = g
both_sides k (fin true m e) h g =
    let p = le_parts (bottom k) (fin true m e) (unfold is_finite in refl) (unfold is_finite in refl) h in
    parts_le false m e false 1 (pos k) (omega (arith, p))

among_within : (x : Float) → Among (neg furthest) furthest x → within furthest x ≡ true
among_within x a =
    ap (le (absolute x)) furthest_is
    ∙ both_sides 13 x (sym (ap (λ (b : Float). le b x) negated) ∙ a.above) (sym (ap (le x) furthest_is) ∙ a.below)

-- ---- a point that is found
depth_is : (n D : ℕ) (z : ℤ) → le_z (pos n *ℤ pos D) z ≡ true → z ≡ pos (nat_abs z)
depth_is n D (pos t) h = refl
depth_is n D (negsuc t) h = absurd (false≢true h)

nearest_deep : (l : Line) (a b c : Vec3) → all_within furthest a ≡ true → all_within furthest b ≡ true → all_within furthest c ≡ true
    → (x : Float) → Nearest l (grid_point a) (grid_point b) (grid_point c) x → HitPoint l a b c x
nearest_deep l a b c pa pb pc x s =
    let f = s.first in
    let z = depth_is l.near f.D f.t f.on.least in
    let same : pos (nat_abs f.t) *ℤ pos f.W ≡ pos s.T *ℤ pos f.D =
    subst (λ (w : ℤ). w *ℤ pos f.W ≡ pos s.T *ℤ pos f.D) z f.same in
    record {
      first = pa;
      second = pb;
      third = pc;
      D = f.D;
      t = nat_abs f.t;
      on = subst (λ (w : ℤ). Surface l (grid_point a) (grid_point b) (grid_point c) f.D w) z f.on;
      W = s.W;
      p = s.T;
      positive = s.positive;
      same = ap (λ (k : ℕ). nat_abs f.t * k) (ap nat_abs f.denominator) ∙ ap nat_abs same;
      nearest = s.rounded;
    }

-- ---- a triangle's answer
module _ (r : Ray) (pose : List Float) (triangles : List ℕ) where
  abbrev answer : ℕ → Answer
  answer = exact_answer r pose triangles

  abbrev inside : ℕ → Bool
  inside i = corners_inside (thirds (length pose)) triangles i

  module _ (i : ℕ) where
    pub outside_refused : inside i ≡ false → Refused out_of_bounds ≡ reach_of (answer i)
    unfolding exact_answer reach_of
    outside_refused h = simp h

    hit_own : (normal : Vec3) (distance : Float) → answer i ≡ hit normal distance → inside i ≡ true
    unfolding exact_answer
    hit_own normal distance h = go (inside i) _ h
      where
        go : (b : Bool) (a : Answer) → cond b a (refused out_of_bounds) ≡ hit normal distance → b ≡ true
        go true a e = refl
        go false a e = absurd (hit_not_refused _ normal distance out_of_bounds e refl)

  module _ (admitted : ray_admitted r ≡ true) (read : grid_admitted r ≡ true) where
    module _ (i : ℕ) where
      hit_deep : (normal : Vec3) (distance : Float) → answer i ≡ hit normal distance
          → HitPoint (grid_line r) (corner_at pose triangles i 0) (corner_at pose triangles i 1) (corner_at pose triangles i 2) distance
      unfolding corners_of reach_of
      hit_deep normal distance h =
          let vs = corners_of pose triangles i in
          let same : grid_triangle r vs ≡ hit normal distance = sym (inside_answer r pose triangles i (hit_own i normal distance h)) ∙ h in
          let within = corners_read_lem vs normal distance same in
          nearest_deep (grid_line r) (corner_at pose triangles i 0) (corner_at pose triangles i 1) (corner_at pose triangles i 2)
          (first_read vs within) (second_read vs within) (third_read vs within) distance
          ((reach_certain r vs admitted read within).nearest distance (reached_as r vs admitted read ∙ ap reach_of same))
        where
          corners_read_lem : (vs : List Vec3) (normal : Vec3) (distance : Float) → grid_triangle r vs ≡ hit normal distance
              → corners_read vs ≡ true
          corners_read_lem vs normal distance e = go (corners_read vs) refl
            where
              go : (b : Bool) → corners_read vs ≡ b → b ≡ true
              go true q = refl
              go false q = absurd (hit_not_refused _ normal distance out_of_range e (off_hit r vs q))

    -- no triangle is hit at a distance that is not a number
    pub hits_are_numbers : HitsAreNumbers answer
    hits_are_numbers i n d h =
        let deep = hit_deep i n d h in
        let some : 0 < deep.W * units = mul-pos deep.positive (lit< {m = 0} {n = units} tt) in
        let x = round binary64 false deep.p (deep.W * units) in
        subst (λ (d : Float). is_nan d ≡ false) (sym deep.nearest)
        (le_left_number x x (is_true _ (round_mono binary64 deep.p (deep.W * units) deep.p (deep.W * units) some some
        (omega arith))))

-- ---- at a mesh without a NaN
module _ (m : Mesh) (numbered : NoNaN m) where
  abbrev at : ℕ → ℕ → Vec3
  at x k = corner_at m.vertices m.triangles x k

  number : (x k : ℕ) → x < triangle_count m → k < 3 → Numbers (at x k)
  number x k h g = let n = numbered x k h g in record { x = n.x; y = n.y; z = n.z }

  pub enclosed_read : (x : ℕ) → x < triangle_count m → encloses grid_box (triangle_box m.vertices m.triangles x) ≡ true
      → corners_read (corners_of m.vertices m.triangles x) ≡ true
  unfolding corners_read corners_of
  enclosed_read x below h =
      let e =
      among_box grid_box (at x 0) (at x 1) (at x 2) (number x 0 below (lit< tt)) (number x 1 below (lit< tt)) (number x 2 below (lit< tt))
      (corners_enclosed grid_box m.vertices m.triangles x h) in
      and_three (all_within furthest (at x 0)) (all_within furthest (at x 1)) (all_within furthest (at x 2))
      (and_three _ _ _ (among_within _ e.x.first) (among_within _ e.y.first) (among_within _ e.z.first))
      (and_three _ _ _ (among_within _ e.x.second) (among_within _ e.y.second) (among_within _ e.z.second))
      (and_three _ _ _ (among_within _ e.x.third) (among_within _ e.y.third) (among_within _ e.z.third))

-- ---- .. whose indices are those of vertices
module _ (r : Ray) (admitted : ray_admitted r ≡ true) (read : grid_admitted r ≡ true) (m : Mesh) (numbered : NoNaN m)
    (fit : (x : ℕ) → x < triangle_count m → corners_inside (thirds (length m.vertices)) m.triangles x ≡ true) where
  pub grid_answers : GridAnswers (grid_line r) m (exact_answer r m.vertices m.triangles)
  grid_answers = record {
    answered = λ x k below h e.
        never_refused r (corners_of m.vertices m.triangles x) admitted read (enclosed_read m numbered x below h) k
        (sym (inside_answer r m.vertices m.triangles x (fit x below)) ∙ e);
    deep = λ x below n d h. hit_deep r m.vertices m.triangles admitted read x n d h;
  }
