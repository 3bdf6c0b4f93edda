-- A triangle whose indices are below the vertex count has its three corners within the vertices; its box and its answer from the list of
-- its corners, and the answer of one that is hit from its distance. Assumes nothing.
use Prim.Native.Nat.{ℕ, ◌+◌, ◌*◌, ◌/◌, ◌<◌, ◌≤◌}
use mathlib.Core.Path.{◌≡◌, refl, ap, ◌∙◌}
use mathlib.Core.Bool.{Bool, true, false, ◌&&◌, cond}
use mathlib.Core.List.{List}
use native.Mathlib.Omega.{arith}
use borrow.Author.Tests.{ltb-true}
use lib.Dec.{ltb}
use lib.Ieee.{Float}
use lib.ListN.{length}
use Rattle.geometry.specs.Box.{corners_box, corner}
use Rattle.vectors.specs.Vector.{sub_of}
use Rattle.vectors.specs.declared.vec3.Vec3.{Vec3}
use Rattle.geometry.specs.declared.ray.Ray.{Ray}
use Rattle.lists.proofs.JoinedTests.{and_first, and_second}
use Rattle.casts.specs.Answer.{Answer, refused, out_of_bounds}
use Rattle.casts.specs.Reach.{reach_of, At, Refused}
use Rattle.triangle_cast.specs.Triangle.{triangle_normal, triangle_of, triangle_cast}
use Rattle.casts.proofs.AnswerLists.{OfHit, HitsAreNumbers}
use Rattle.triangle_cast.proofs.ReachLaws.{told_by_distance}
use Rattle.casts.proofs.HitLaws.{Measured, of_cond, of_refused}
use Rattle.triangle_cast.proofs.TriangleHits.{triangle_hit_measured}
use Rattle.tree.specs.Mesh.{corner_index, corners_inside, corner_at, corners_of, triangle_box, triangle_answer, thirds}

fits : (c l : ℕ) → ltb c (l / 3) ≡ true → 3 * c + 3 ≤ l
fits c l h = let k : c < l / 3 = ltb-true c (l / 3) h in omega arith

module _ (triangles : List ℕ) (index l : ℕ) (inside : corners_inside (thirds l) triangles index ≡ true) where
  abbrev below : ℕ → Bool
  below corner = ltb (corner_index triangles index corner) (thirds l)

  later : (below 1 && below 2) ≡ true
  unfolding corners_inside
  later = and_second (below 0) (below 1 && below 2) inside

  pub first_fits : 3 * corner_index triangles index 0 + 3 ≤ l
  unfolding corners_inside
  first_fits = fits (corner_index triangles index 0) l (and_first (below 0) (below 1 && below 2) inside)

  pub second_fits : 3 * corner_index triangles index 1 + 3 ≤ l
  second_fits = fits (corner_index triangles index 1) l (and_first (below 1) (below 2) later)

  pub third_fits_lem : 3 * corner_index triangles index 2 + 3 ≤ l
  third_fits_lem = fits (corner_index triangles index 2) l (and_second (below 1) (below 2) later)

-- the box and the answer of a triangle, from the list of its corners
pub corners_box_lem : (vertices : List Float) (triangles : List ℕ) (index : ℕ) → corners_box (corners_of vertices triangles index)
    ≡ triangle_box
    vertices triangles index
unfolding corners_box corners_of triangle_box
corners_box_lem vertices triangles index = refl

pub corners_answer : (r : Ray) (vertices : List Float) (triangles : List ℕ) (index : ℕ)
    → corners_inside (thirds (length vertices)) triangles
    index ≡ true
    → triangle_cast r (corners_of vertices triangles index) ≡ triangle_answer r vertices triangles index
unfolding corners_of triangle_answer
corners_answer r vertices triangles index inside = simp inside

-- ---- a triangle that is hit
refusal_is_no_hit : (number : ℕ) (distance : Float) → Refused number ≡ At distance → ⊥
refusal_is_no_hit number distance h = let z : ◌≡◌ {A = ℕ} 0 1 = cc in omega arith

-- an index past the vertices is refused, so its corners are within them
pub hit_inside : (r : Ray) (vertices : List Float) (triangles : List ℕ) (index : ℕ) (distance : Float) → reach_of
    (triangle_answer r vertices triangles index) ≡ At distance
    → corners_inside (thirds (length vertices)) triangles index ≡ true
unfolding triangle_answer reach_of
hit_inside r vertices triangles index distance = go (corners_inside (thirds (length vertices)) triangles index) _
  where
    go : (inside : Bool) (a : Answer) → reach_of (cond inside a (refused out_of_bounds)) ≡ At distance → inside ≡ true
    go true a h = refl
    go false a h = absurd (refusal_is_no_hit out_of_bounds distance h)

-- the hit at its distance is its answer
pub hit_answer : (r : Ray) (vertices : List Float) (triangles : List ℕ) (index : ℕ) (distance : Float) → reach_of
    (triangle_answer r vertices triangles index) ≡ At distance
    → (corners : List Vec3) → corners ≡ corners_of vertices triangles index
    → triangle_normal r (sub_of (corner corners 1) (corner corners 0)) (sub_of (corner corners 2) (corner corners 0)) distance
    ≡ triangle_answer
    r vertices triangles index
hit_answer r vertices triangles index distance h corners e =
    let same : triangle_cast r corners ≡ triangle_answer r vertices triangles index =
    ap (triangle_cast r) e ∙ corners_answer r vertices triangles index (hit_inside r vertices triangles index distance h) in
    told_by_distance r (corner corners 0) (corner corners 1) (corner corners 2) distance (ap reach_of same ∙ h) ∙ same

-- its distance is a number and in the ray's range
module _ (r : Ray) (vertices : List Float) (triangles : List ℕ) where
  pub answers_measured : (index : ℕ) → OfHit (Measured r) (triangle_answer r vertices triangles index)
  unfolding triangle_answer
  answers_measured index =
      let at = corner_at vertices triangles index in
      of_cond (Measured r) (corners_inside (thirds (length vertices)) triangles index) (triangle_of r (at 0) (at 1) (at 2))
      (refused out_of_bounds)
      (λ _. triangle_hit_measured r (at 0) (at 1) (at 2)) (λ _. of_refused (Measured r) out_of_bounds)

  pub answers_are_numbers : HitsAreNumbers (triangle_answer r vertices triangles)
  answers_are_numbers index normal distance h = (answers_measured index normal distance h).number
