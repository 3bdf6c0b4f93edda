-- What a triangle of the mesh is reached at, without its normal: one whose box is apart from the segment's is missed, and a hit's answer
-- goes by its distance. Assumes nothing.
use Prim.Native.Nat.{ℕ}
use mathlib.Core.Path.{◌≡◌, refl, sym, ap, ◌∙◌}
use mathlib.Core.Bool.{Bool, true, false, cond, true≢false}
use mathlib.Core.List.{List}
use native.Mathlib.Omega.{arith}
use lib.Ieee.{Float}
use lib.ListN.{length}
use Rattle.vectors.specs.declared.vec3.Vec3.{Vec3}
use Rattle.geometry.specs.Box.{corner, corners_box, touches}
use Rattle.geometry.specs.Segment.{ray_admitted}
use Rattle.geometry.specs.declared.ray.Ray.{Ray}
use Rattle.casts.specs.Answer.{Answer, refused, out_of_bounds, out_of_range}
use Rattle.casts.specs.Reach.{reach_of, Reach, At, Miss, Refused}
use Rattle.tree.specs.Mesh.{thirds, corners_inside, corners_of}
use Rattle.exact_triangle.specs.Grid.{grid_admitted, grid_line}
use Rattle.exact_triangle.specs.Box.{certain_box}
use Rattle.exact_triangle.proofs.Touching.{met_touches}
use Rattle.exact_triangle.specs.Reach.{corners_read, corners_reach, grid_reach}
use Rattle.exact_triangle.specs.Cast.{grid_hit, grid_triangle}
use Rattle.exact_triangle.proofs.Laws.{first_read, second_read, third_read}
use Rattle.exact_triangle.proofs.Certainty.{reach_certain}
use Rattle.exact_triangle.proofs.Hits.{hit_by_distance, reached_as}
use Rattle.mesh_exact.specs.GridCast.{exact_answer}
use Rattle.mesh_exact.proofs.Ranges.{vector_finite}

abbrev kind : Reach → ℕ
kind (At x) = 0
kind Miss = 1
kind (Refused k) = 2

-- ---- three corners
-- a triangle in range whose box does not touch the segment's is missed
pub apart_missed : (r : Ray) (vs : List Vec3) → ray_admitted r ≡ true → grid_admitted r ≡ true → corners_read vs ≡ true
    → touches (corners_box vs) (certain_box (grid_line r)) ≡ false → grid_reach r vs ≡ Miss
apart_missed r vs h g read apart = go (grid_reach r vs) refl
  where
    go : (q : Reach) → grid_reach r vs ≡ q → q ≡ Miss
    go Miss e = refl
    go (Refused k) e = absurd ((reach_certain r vs h g read).told k e)
    go (At x) e =
        let p = ((reach_certain r vs h g read).nearest x e).first in
        let t =
        met_touches r g vs (vector_finite (corner vs 0) (first_read vs read)) (vector_finite (corner vs 1) (second_read vs read))
        (vector_finite (corner vs 2) (third_read vs read)) p.D p.t p.on in
        absurd (true≢false (sym t ∙ apart))

-- the line's reach is the ray's
pub reach_seen : (r : Ray) (vs : List Vec3) → grid_admitted r ≡ true → corners_reach (grid_line r) vs ≡ grid_reach r vs
unfolding grid_reach
reach_seen r vs g = sym (ap (λ (b : Bool). cond b (corners_reach (grid_line r) vs) (Refused out_of_range)) g)

-- ---- a triangle of the mesh
module _ (r : Ray) (vertices : List Float) (triangles : List ℕ) (i : ℕ) where
  abbrev answer : Answer
  answer = exact_answer r vertices triangles i

  abbrev inside : Bool
  inside = corners_inside (thirds (length vertices)) triangles i

  abbrev own : List Vec3
  own = corners_of vertices triangles i

  pub inside_answer : inside ≡ true → answer ≡ grid_triangle r own
  unfolding exact_answer
  inside_answer h = ap (λ (b : Bool). cond b (grid_triangle r own) (refused out_of_bounds)) h

  module _ (h : ray_admitted r ≡ true) (g : grid_admitted r ≡ true) where
    -- the code's reach of the corners is the answer's
    pub reach_is : inside ≡ true → (corners : List Vec3) → corners ≡ own → (reach : Reach) → reach ≡ corners_reach (grid_line r) corners
        → reach ≡ reach_of answer
    reach_is k corners c reach e =
        e ∙ ap (corners_reach (grid_line r)) c ∙ reach_seen r own g ∙ reached_as r own h g ∙ sym (ap reach_of (inside_answer k))

    -- one in range whose box is apart
    pub apart_reach : inside ≡ true → corners_read own ≡ true → touches (corners_box own) (certain_box (grid_line r)) ≡ false
        → reach_of answer ≡ Miss
    apart_reach k read apart = ap reach_of (inside_answer k) ∙ sym (reached_as r own h g) ∙ apart_missed r own h g read apart

    -- a triangle that is hit
    module _ (distance : Float) (e : reach_of answer ≡ At distance) where
      pub hit_inside : inside ≡ true
      unfolding exact_answer reach_of
      hit_inside = go inside (grid_triangle r own) e
        where
          go : (b : Bool) (a : Answer) → reach_of (cond b a (refused out_of_bounds)) ≡ At distance → b ≡ true
          go true a e = refl
          go false a e = let w = ap kind e in absurd (omega (arith, w))

      -- the hit at its distance is its answer
      pub hit_answer : (corners : List Vec3) → corners ≡ own → grid_hit r corners distance ≡ answer
      hit_answer corners c =
          ap (λ (vs : List Vec3). grid_hit r vs distance) c
          ∙ hit_by_distance r own distance (reached_as r own h g ∙ sym (ap reach_of (inside_answer hit_inside)) ∙ e)
          ∙ sym (inside_answer hit_inside)
