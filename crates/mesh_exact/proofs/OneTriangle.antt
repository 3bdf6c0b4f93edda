-- One triangle's answer: refused where it is out of range, none where the segment does not meet it, and a hit at the first point. Assumes
-- nothing.
use Prim.Native.Nat.{ℕ, ◌*◌, ◌≤◌, ◌<◌}
use mathlib.Core.Path.{◌≡◌, refl, sym, ap, ◌∙◌, subst}
use mathlib.Core.Bool.{Bool, true, false, cond, false≢true}
use mathlib.Core.List.{List}
use native.Mathlib.Nat.{le_of_eq, mul-pos}
use native.Mathlib.Omega.{arith}
use lib.Dec.{lit<}
use lib.IntN.{ℤ, pos, negsuc, nat_abs, ◌*ℤ◌}
use lib.ListN.{length}
use borrow.Author.Tests.{leb-true}
use lib.Ieee.{Float, binary64, round}
use lib.Ieee.Positive.{through}
use lib.Ieee.Scale.{round_same}
use Rattle.vectors.specs.declared.vec3.Vec3.{Vec3}
use Rattle.geometry.specs.Segment.{ray_admitted}
use Rattle.geometry.specs.declared.ray.Ray.{Ray}
use Rattle.casts.specs.Answer.{Answer, hit, none, refused, out_of_bounds, out_of_range}
use Rattle.casts.specs.Reach.{reach_of, At}
use Rattle.tree.specs.Mesh.{Mesh, thirds, corners_inside, corners_of, triangle_count}
use Rattle.wide_integers.proofs.Integers.{pp}
use Rattle.exact_depth.specs.declared.projection.Point.{Point}
use Rattle.exact_triangle.specs.Line.{Line}
use Rattle.exact_triangle.specs.Grid.{units, grid_admitted, grid_line}
use Rattle.exact_triangle.specs.Surface.{Surface}
use Rattle.exact_triangle.specs.Reach.{corners_read, grid_reach}
use Rattle.exact_triangle.specs.Cast.{grid_triangle}
use Rattle.exact_triangle.specs.Certain.{Nearest, CertainReach}
use Rattle.exact_triangle.proofs.Certainty.{reach_certain}
use Rattle.exact_triangle.proofs.Hits.{off_hit, reached_as}
use Rattle.mesh_exact.specs.GridCast.{exact_answer}
use Rattle.mesh_exact.specs.Certain.{corner_on, Met}
use Rattle.mesh_exact.proofs.Reaching.{inside_answer}

abbrev is_none : Answer → Bool
is_none (hit n d) = false
is_none none = true
is_none (refused k) = false

abbrev is_hit : Answer → Bool
is_hit (hit n d) = true
is_hit none = false
is_hit (refused k) = false

-- a depth on the segment is not below 0
pub depth_whole : (l : Line) (a b c : Point) (D : ℕ) (t : ℤ) → Surface l a b c D t → t ≡ pos (pp t)
depth_whole l a b c D (pos n) s = refl
depth_whole l a b c D (negsuc n) s = absurd (false≢true s.least)

-- the first point of a triangle is at n / D units, to which the distance is nearest
pub record WideDepth (l : Line) (m : Mesh) (i : ℕ) (distance : Float) : Type 0 where
  pub D : ℕ
  pub n : ℕ
  pub met : Met l m i D (pos n)
  pub nearest : distance ≡ round binary64 false n (D * units)
  pub least : (D' n' : ℕ) → Met l m i D' (pos n') → n * D' ≤ n' * D

module _ (r : Ray) (m : Mesh) (h : ray_admitted r ≡ true) (g : grid_admitted r ≡ true) (i : ℕ) where
  abbrev own : List Vec3
  own = corners_of m.vertices m.triangles i

  abbrev inside : Bool
  inside = corners_inside (thirds (length m.vertices)) m.triangles i

  abbrev answer : Answer
  answer = exact_answer r m.vertices m.triangles i

  abbrev a : Point
  a = corner_on m i 0

  abbrev b : Point
  b = corner_on m i 1

  abbrev c : Point
  c = corner_on m i 2

  -- ---- a triangle that is not refused is inside the vertices and in range
  module _ (fine : (k : ℕ) → answer ≡ refused k → ⊥) where
    is_inside : inside ≡ true
    unfolding exact_answer
    is_inside = go inside refl
      where
        go : (p : Bool) → inside ≡ p → p ≡ true
        go true e = refl
        go false e = absurd (fine out_of_bounds (ap (λ (q : Bool). cond q (grid_triangle r own) (refused out_of_bounds)) e))

    pub is_read : corners_read own ≡ true
    is_read = go (corners_read own) refl
      where
        go : (p : Bool) → corners_read own ≡ p → p ≡ true
        go true e = refl
        go false e = absurd (fine out_of_range (inside_answer r m.vertices m.triangles i is_inside ∙ off_hit r own e))

    certain : CertainReach (grid_line r) a b c (grid_reach r own)
    unfolding corners_of
    certain = reach_certain r own h g is_read

    reached : grid_reach r own ≡ reach_of answer
    reached = reached_as r own h g ∙ sym (ap reach_of (inside_answer r m.vertices m.triangles i is_inside))

  pub none_unmet : answer ≡ none → (D : ℕ) (t : ℤ) → Met (grid_line r) m i D t → ⊥
  unfolding reach_of
  none_unmet e D t q =
      let fine : (k : ℕ) → answer ≡ refused k → ⊥ = λ k f. false≢true (ap is_none (sym f ∙ e)) in
      (certain fine).none (reached fine ∙ ap reach_of e) q.area D t q.point

  -- ---- the first point of a triangle that is hit
  module _ (inner : i < triangle_count m) (distance : Float) (near : Nearest (grid_line r) a b c distance)
      (cert : CertainReach (grid_line r) a b c (grid_reach r own)) (at : grid_reach r own ≡ At distance) where
    abbrev W : ℕ
    W = near.first.W

    abbrev n : ℕ
    n = pp near.first.t

    whole : near.first.t ≡ pos n
    whole = depth_whole (grid_line r) a b c near.first.D near.first.t near.first.on

    same_depth : n * W ≡ near.T * near.first.D
    same_depth =
        let e : pos n *ℤ pos W ≡ pos near.T *ℤ pos near.first.D =
        ap (λ (z : ℤ). z *ℤ pos W) (sym whole) ∙ near.first.same in
        ap pp e

    one_denominator : near.W ≡ W
    one_denominator = ap nat_abs near.first.denominator

    deep : WideDepth (grid_line r) m i distance
    deep = record {
      D = near.first.D;
      n = n;
      met = record {
        triangle = inner;
        area = cert.area distance at;
        point = subst (Surface (grid_line r) a b c near.first.D) whole near.first.on;
      };
      nearest =
          near.rounded ∙ ap (λ (k : ℕ). round binary64 false near.T (k * units)) one_denominator
          ∙ round_same binary64 false near.T (W * units) n (near.first.D * units) (mul-pos near.first.positive (lit< tt))
          (mul-pos near.first.on.positive (lit< tt)) (scaled near.T near.first.D n W units same_depth);
      least = λ D' n' q.
          through n near.T n' near.first.D W D' near.first.positive (le_of_eq same_depth)
          (leb-true _ _ (near.first.least D' (pos n') q.point));
    }
      where
        scaled : (T D n W u : ℕ) → n * W ≡ T * D → T * (D * u) ≡ n * (W * u)
        scaled T D n W u e = let e' : n * W * u ≡ T * D * u = ap (λ (z : ℕ). z * u) e in omega (arith, e')

  pub hit_deep : i < triangle_count m → (normal : Vec3) (distance : Float) → answer ≡ hit normal distance
      → WideDepth (grid_line r) m i distance
  unfolding reach_of
  hit_deep inner normal distance e =
      let fine : (k : ℕ) → answer ≡ refused k → ⊥ = λ k f. false≢true (ap is_hit (sym f ∙ e)) in
      let at : grid_reach r own ≡ At distance = reached fine ∙ ap reach_of e in
      deep inner distance ((certain fine).nearest distance at) (certain fine) at
