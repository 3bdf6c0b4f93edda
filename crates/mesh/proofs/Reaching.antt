-- What the first test of a triangle's corners tells of its answer. Assumes nothing.
use Prim.Native.Nat.{ℕ}
use mathlib.Core.Path.{◌≡◌, sym, ap, ◌∙◌}
use mathlib.Core.Bool.{true, false}
use mathlib.Core.List.{List}
use lib.Ieee.{Float}
use lib.ListN.{length}
use Rattle.vectors.specs.declared.vec3.Vec3.{Vec3}
use Rattle.geometry.specs.declared.ray.Ray.{Ray}
use Rattle.casts.specs.Answer.{out_of_bounds}
use Rattle.casts.specs.Reach.{Reach, Refused, reach_of}
use Rattle.casts.specs.declared.answer.Refusal.{Refusal}
use Rattle.std.specs.Prelude.{Option, Result}
use Rattle.triangle_cast.specs.Crossing.{crossing_answer}
use Rattle.triangle_cast.specs.Triangle.{triangle_cast}
use Rattle.triangle_cast.specs.declared.parts.Within.{Within}
use Rattle.tree.specs.Mesh.{thirds, corners_inside, corners_of, triangle_answer}
use Rattle.tree.proofs.Corners.{corners_answer}

module _ (r : Ray) (vertices : List Float) (triangles : List ℕ) (index : ℕ) where
  abbrev reached : Reach
  reached = reach_of (triangle_answer r vertices triangles index)

  -- an index past the vertices
  pub outside_refused : corners_inside (thirds (length vertices)) triangles index ≡ false → Refused out_of_bounds ≡ reached
  unfolding triangle_answer reach_of
  outside_refused outside = simp outside

  -- what is known after the first test
  module _ (corners : List Vec3) (begun start : Result (Option Within) Refusal) (e : crossing_answer r begun ≡ triangle_cast r corners)
      (f : corners ≡ corners_of vertices triangles index) (inside : corners_inside (thirds (length vertices)) triangles index ≡ true)
      (is : begun ≡ start) where
    pub start_answers : reach_of (crossing_answer r start) ≡ reached
    start_answers =
        ap (λ (c : Result (Option Within) Refusal). reach_of (crossing_answer r c)) (sym is)
        ∙ ap reach_of (e ∙ ap (triangle_cast r) f ∙ corners_answer r vertices triangles index inside)
