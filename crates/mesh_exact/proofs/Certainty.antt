-- The exact cast's answer is certain of the whole mesh: a none leaves no point of the segment in any triangle, and a hit is at the least
-- depth. Assumes nothing.
use Prim.Native.Nat.{ℕ, ◌*◌, ◌≤◌, ◌<◌}
use mathlib.Core.Path.{◌≡◌, refl, sym, ap, ◌∙◌, subst}
use mathlib.Core.Logic.{inl, inr}
use mathlib.Core.Bool.{Bool, true, false, not, ◌||◌, cond, true≢false}
use mathlib.Core.List.{List, Memᴰ}
use native.Mathlib.Nat.{mul-pos, mul-le-mul_right}
use native.Mathlib.Omega.{arith}
use lib.Dec.{lit<}
use lib.ListN.{length}
use borrow.Author.Tests.{le-leb}
use lib.IntN.{ℤ, pos, ◌*ℤ◌}
use lib.Signed.{le_z}
use lib.Ieee.{Float, binary64, round, le, is_nan}
use lib.Ieee.Bits.{is_true}
use lib.Ieee.Fits.{round-fits}
use lib.Ieee.Order.{round_mono}
use Rattle.lists.specs.Lists.{range}
use Rattle.lists.proofs.Members.{Each, Ascending}
use Rattle.lists.proofs.CountLaws.{member_of_count, count_range_inside}
use Rattle.lists.proofs.SortLaws.{range_ascends}
use Rattle.arithmetic.specs.Basic.{negative}
use Rattle.arithmetic.proofs.Order.{le_transitive, lt_of_lt_le, le_left_number}
use Rattle.arithmetic.proofs.RoundedSigns.{round_not_negative}
use Rattle.arithmetic.proofs.TotalOrder.{at_most_before, total_order_antisymmetric}
use Rattle.vectors.specs.declared.vec3.Vec3.{Vec3}
use Rattle.geometry.specs.Segment.{ray_admitted}
use Rattle.geometry.specs.declared.ray.Ray.{Ray}
use Rattle.casts.specs.Answer.{Answer, hit, none, refused, invalid_input, bad_shape, out_of_bounds, out_of_range}
use Rattle.casts.proofs.AnswerLists.{HitSuch, IsNumber, NotRefused}
use Rattle.nearest_hit.specs.Nearest.{Indexed, hit_at, no_hit, stopped, nearest_of}
use Rattle.nearest_hit.proofs.NearestRefusals.{refusal_stops, nones_of_none}
use Rattle.nearest_hit.proofs.NearestLaws.{LowestNearest, hit_of_lowest_nearest}
use Rattle.tree.specs.Mesh.{Mesh, triangle_count, lengths_admitted, triangles_fit}
use Rattle.wide_integers.proofs.Integers.{pp}
use Rattle.exact_triangle.specs.Line.{Line}
use Rattle.exact_triangle.specs.Grid.{units, grid_admitted, grid_line}
use Rattle.mesh_exact.specs.GridCast.{exact_answer, over_triangles, ray_mesh_exact_plain}
use Rattle.mesh_exact.specs.Certain.{corner_on, Met, InRange, LeastDepth, TrueHit, LowestIndex, OutOfRange, Reason, CertainMesh}
use Rattle.mesh_exact.specs.Certain.{ray, lengths, triangles, range as byRange}
use Rattle.mesh_exact.proofs.OneTriangle.{WideDepth, depth_whole, is_read, none_unmet, hit_deep}
use Rattle.mesh_exact.proofs.TrueHits.{true_hit}
use Rattle.mesh_exact.proofs.Leasts.{Least, least_of}
use Rattle.mesh_exact.proofs.Refusals.{below, corner_in_lem, reason}

-- ---- rounded depths, in units
abbrev rounded : ℕ → ℕ → Float
rounded n D = round binary64 false n (D * units)

some : (D : ℕ) → 0 < D → 0 < D * units
some D p = mul-pos p (lit< tt)

rounded_le : (n D n' D' : ℕ) → 0 < D → 0 < D' → n * D' ≤ n' * D → le (rounded n D) (rounded n' D') ≡ true
rounded_le n D n' D' p q h =
    let h' : n * D' * units ≤ n' * D * units = mul-le-mul_right units h in
    is_true _ (round_mono binary64 n (D * units) n' (D' * units) (some D p) (some D' q) (omega (arith, h')))

rounded_number : (n D : ℕ) → 0 < D → is_nan (rounded n D) ≡ false
rounded_number n D p = le_left_number (rounded n D) (rounded n D) (rounded_le n D n D p p (omega arith))

signs : (a b : Bool) → b ≡ false → (a || not b) ≡ true
signs true b h = refl
signs false b h = ap not h

rounded_same : (n D n' D' : ℕ) → le (rounded n D) (rounded n' D') ≡ true → le (rounded n' D') (rounded n D) ≡ true
    → rounded n D ≡ rounded n' D'
rounded_same n D n' D' h g =
    let x = rounded n D in
    let y = rounded n' D' in
    total_order_antisymmetric x y (round-fits binary64 false n (D * units)) (round-fits binary64 false n' (D' * units))
    (at_most_before x y h (signs (negative x) (negative y) (round_not_negative binary64 n' (D' * units))))
    (at_most_before y x g (signs (negative y) (negative x) (round_not_negative binary64 n (D * units))))

-- ---- an answer that is no refusal is that of the fold over all triangles
abbrev is_stopped : Indexed → Bool
is_stopped (hit_at n d i) = false
is_stopped no_hit = false
is_stopped (stopped k) = true

going : (answer : Indexed) → ((number : ℕ) → answer ≡ stopped number → ⊥) → is_stopped answer ≡ false
going (hit_at n d i) h = refl
going no_hit h = refl
going (stopped k) h = absurd (h k refl)

record Folded (r : Ray) (m : Mesh) (answer : Indexed) : Type 0 where
  admitted : ray_admitted r ≡ true
  ranged : grid_admitted r ≡ true
  fold : nearest_of (exact_answer r m.vertices m.triangles) (range 0 (triangle_count m)) ≡ answer

folded : (r : Ray) (m : Mesh) (answer : Indexed) → is_stopped answer ≡ false → ray_mesh_exact_plain r m ≡ answer → Folded r m answer
unfolding ray_mesh_exact_plain over_triangles
folded r m answer goes is =
    go (ray_admitted r) (grid_admitted r) (lengths_admitted (length m.vertices) (length m.triangles)) (triangles_fit m) refl refl is
  where
    not_stopped : (k : ℕ) → stopped k ≡ answer → ⊥
    not_stopped k h = true≢false (ap is_stopped h ∙ goes)

    go : (p q u v : Bool) → ray_admitted r ≡ p → grid_admitted r ≡ q
        → cond p (cond q (cond u (cond v (nearest_of (exact_answer r m.vertices m.triangles) (range 0 (triangle_count m)))
        (stopped out_of_bounds)) (stopped bad_shape)) (stopped out_of_range)) (stopped invalid_input)
        ≡ answer → Folded r m answer
    go false q u v a b h = absurd (not_stopped invalid_input h)
    go true false u v a b h = absurd (not_stopped out_of_range h)
    go true true false v a b h = absurd (not_stopped bad_shape h)
    go true true true false a b h = absurd (not_stopped out_of_bounds h)
    go true true true true a b h = record { admitted = a; ranged = b; fold = h }

module _ (r : Ray) (m : Mesh) (admitted : ray_admitted r ≡ true) (ranged : grid_admitted r ≡ true) where
  abbrev l : Line
  l = grid_line r

  abbrev listed : List ℕ
  listed = range 0 (triangle_count m)

  abbrev answers : ℕ → Answer
  answers = exact_answer r m.vertices m.triangles

  ascends : Ascending listed
  ascends = range_ascends 0 (triangle_count m)

  inner : (i : ℕ) → Memᴰ i listed → i < triangle_count m
  inner i k = below r m i k

  listed_of : (i : ℕ) → i < triangle_count m → Memᴰ i listed
  listed_of i h =
      let c = count_range_inside i 0 (triangle_count m) (omega arith) (omega (arith, h)) in
      member_of_count i listed (omega (arith, c))

  -- ---- an answer that is no refusal
  module _ (answer : Indexed) (goes : is_stopped answer ≡ false) (is : nearest_of answers listed ≡ answer) where
    not_refused : Each (NotRefused answers) listed
    not_refused j k number e =
        let s = refusal_stops answers no_hit listed j number k e in
        true≢false (sym (ap is_stopped s.1) ∙ ap is_stopped is ∙ goes)

    all_in_range : InRange r m
    all_in_range = record {
      ray = ranged;
      corners = λ i k h. corner_in_lem m i (is_read r m admitted ranged i (not_refused i (listed_of i h))) k;
    }

  none_certain : nearest_of answers listed ≡ no_hit → (i D : ℕ) (t : ℤ) → Met l m i D t → ⊥
  none_certain h i D t q = none_unmet r m admitted ranged i (nones_of_none answers listed h i (listed_of i q.triangle)) D t q

  -- ---- a hit
  module _ (normal : Vec3) (distance : Float) (index : ℕ) (is : nearest_of answers listed ≡ hit_at normal distance index) where
    fine : Each (NotRefused answers) listed
    fine = not_refused (hit_at normal distance index) refl is

    deep : (j : ℕ) → Memᴰ j listed → (n : Vec3) (d : Float) → answers j ≡ hit n d → WideDepth l m j d
    deep j k n d e = hit_deep r m admitted ranged j (inner j k) n d e

    numbers : Each (HitSuch IsNumber answers) listed
    numbers j k n d e =
        let p = deep j k n d e in
        subst IsNumber (sym p.nearest) (rounded_number p.n p.D p.met.point.positive)

    lowest : LowestNearest answers listed normal distance index
    lowest = hit_of_lowest_nearest answers listed ascends normal distance index numbers is

    own : WideDepth l m index distance
    own = deep index lowest.member normal distance lowest.answers

    -- a point of a triangle is a hit of that triangle, not behind it
    record Behind (j D n : ℕ) : Type 0 where
      normal' : Vec3
      distance' : Float
      hits : answers j ≡ hit normal' distance'
      at_most : le distance' (rounded n D) ≡ true

    behind : (j D n : ℕ) → Met l m j D (pos n) → Behind j D n
    behind j D n q = go (answers j) refl
      where
        k : Memᴰ j listed
        k = listed_of j q.triangle

        go : (a : Answer) → answers j ≡ a → Behind j D n
        go (hit n' d') e =
            let p = deep j k n' d' e in
            record {
              normal' = n';
              distance' = d';
              hits = e;
              at_most =
                  subst (λ (x : Float). le x (rounded n D) ≡ true) (sym p.nearest)
                  (rounded_le p.n p.D n D p.met.point.positive q.point.positive (p.least D n q));
            }
        go none e = absurd (none_unmet r m admitted ranged j e D (pos n) q)
        go (refused number) e = absurd (fine j k number e)

    at_least : (j D n : ℕ) → Met l m j D (pos n) → le distance (rounded n D) ≡ true
    at_least j D n q =
        let b = behind j D n q in
        le_transitive distance b.distance' (rounded n D)
        (lowest.nearest j (listed_of j q.triangle) b.normal' b.distance' b.hits) b.at_most

    hit_triangle_lem : TrueHit r m normal distance index
    hit_triangle_lem = true_hit r m index normal distance lowest.answers admitted ranged (inner index lowest.member)

    lowest_index : LowestIndex l m distance index
    lowest_index j D n q before =
        let b = behind j D n q in
        lt_of_lt_le distance b.distance' (rounded n D)
        (lowest.farther_below j (listed_of j q.triangle) before b.normal' b.distance' b.hits) b.at_most

    least_listed : Least r m admitted ranged listed
    least_listed = elim (least_of r m admitted ranged listed fine inner) [
      | inl free ↦ absurd (free index lowest.member own.D own.n own.met)
      | inr b ↦ b
    ]

    -- the least depth and the hit's own are rounded to the same float
    hit_least : LeastDepth l m distance
    hit_least =
        let b = least_listed in
        let q = b.met in
        let lower : le (rounded b.n b.D) (rounded own.n own.D) ≡ true =
        rounded_le b.n b.D own.n own.D q.point.positive own.met.point.positive
        (b.least index own.D own.n lowest.member own.met) in
        let upper : le (rounded own.n own.D) (rounded b.n b.D) ≡ true =
        subst (λ (x : Float). le x (rounded b.n b.D) ≡ true) own.nearest (at_least b.index b.D b.n q) in
        record {
          index = b.index;
          D = b.D;
          t = b.n;
          met = q;
          least = λ j D' t' p.
              let w = depth_whole l (corner_on m j 0) (corner_on m j 1) (corner_on m j 2) D' t' p.point in
              let p' : Met l m j D' (pos (pp t')) = subst (Met l m j D') w p in
              ap (λ (z : ℤ). le_z (pos b.n *ℤ pos D') (z *ℤ pos b.D)) w
              ∙ le-leb (b.n * D') (pp t' * b.D) (b.least j D' (pp t') (listed_of j p'.triangle) p');
          nearest = own.nearest ∙ rounded_same own.n own.D b.n b.D upper lower;
        }

pub certain : (r : Ray) (m : Mesh) → CertainMesh r m (ray_mesh_exact_plain r m)
certain r m = record {
  within = λ runs.
      let goes = going (ray_mesh_exact_plain r m) runs in
      let f = folded r m (ray_mesh_exact_plain r m) goes refl in
      all_in_range r m f.admitted f.ranged (ray_mesh_exact_plain r m) goes f.fold;
  none = λ is.
      let f = folded r m no_hit refl is in
      none_certain r m f.admitted f.ranged f.fold;
  hit_triangle = λ n d i is.
      let f = folded r m (hit_at n d i) refl is in
      hit_triangle_lem r m f.admitted f.ranged n d i f.fold;
  lowest = λ n d i is.
      let f = folded r m (hit_at n d i) refl is in
      lowest_index r m f.admitted f.ranged n d i f.fold;
  least = λ n d i is.
      let f = folded r m (hit_at n d i) refl is in
      hit_least r m f.admitted f.ranged n d i f.fold;
  refused = reason r m;
}

-- the same of an answer that is known to be the definition's, as the contract has it
pub answer_certain : (r : Ray) (m : Mesh) (answer : Indexed) → answer ≡ ray_mesh_exact_plain r m
    → (answer ≡ ray_mesh_exact_plain r m) × CertainMesh r m answer
answer_certain r m answer e = (e, subst (CertainMesh r m) (sym e) (certain r m))

-- 12 only where the origin or a corner of a triangle is not a number from -8,192 to 8,192, or near or the maximum is above 32,768
pub twelve_only : (r : Ray) (m : Mesh) (answer : Indexed) → CertainMesh r m answer → answer ≡ stopped out_of_range → OutOfRange r m
twelve_only r m answer certain is = go (certain.refused out_of_range is)
  where
    go : Reason r m out_of_range → OutOfRange r m
    go (ray e h) = absurd (omega (arith, e))
    go (lengths e h) = absurd (omega (arith, e))
    go (triangles e h) = absurd (omega (arith, e))
    go (byRange e h) = h
