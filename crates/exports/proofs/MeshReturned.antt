-- The mesh cast's answer where the result slices are long enough, and where one is not. Assumes nothing.
use Prim.Native.Nat.{ℕ, ◌*◌}
use mathlib.Core.Path.{◌≡◌, sym, ap, ◌∙◌}
use mathlib.Core.Bool.{Bool, true, false, ◌&&◌, cond}
use mathlib.Core.List.{List}
use lib.Dec.{leb}
use lib.Ieee.{Float}
use lib.ListN.{length}
use Rattle.geometry.specs.Segment.{ray_admitted}
use Rattle.geometry.specs.declared.ray.Ray.{Ray}
use Rattle.casts.specs.Answer.{invalid_input, bad_shape, no_room}
use Rattle.nearest_hit.specs.Nearest.{Indexed, stopped}
use Rattle.tree.specs.Layout.{Tree}
use Rattle.tree.specs.Mesh.{Mesh, thirds, lengths_admitted}
use Rattle.mesh.specs.MeshCast.{shape_admitted, ray_mesh}
use Rattle.results.specs.Results.{ReturnedIndexed, with_room, short_of, returned_indexed, results_fit, answered_mesh}
use Rattle.exports.proofs.Kept.{room_there}

module _ (area : List Float) (place : List ℕ) where
  unreturned : ℕ → ReturnedIndexed
  unreturned number = record { number = number; hit = area; index = place }

  unreturned_short : (p q fits : Bool) (rest : Indexed) (number : ℕ) → fits ≡ false → number ≡ short_of p q
      → unreturned number ≡ with_room (p && q) fits (returned_indexed (cond p (cond q rest (stopped bad_shape)) (stopped invalid_input))
      area
      place)
      (unreturned no_room)
  unfolding unreturned returned_indexed
  unreturned_short true true fits rest number f e = simp (f, e)
  unreturned_short true false fits rest number f e = simp e
  unreturned_short false q fits rest number f e = simp e

  module _ (r : Ray) (m : Mesh) (pose : List Float) (t : Tree) (list stack : ℕ) where
    -- the test of 2 as the code makes it
    abbrev admitted : Bool
    admitted =
        lengths_admitted (length m.vertices) (length m.triangles)
        && (lengths_admitted (length pose) (length m.triangles) && leb t.node_count (2 * thirds (length m.triangles)))

    pub mesh_short : (number : ℕ) → results_fit area place ≡ false → number ≡ short_of (ray_admitted r) admitted
        → record { number = number; hit = area; index = place } ≡ answered_mesh r m pose t list stack area place
    unfolding answered_mesh ray_mesh shape_admitted unreturned
    mesh_short number short e = unreturned_short (ray_admitted r) admitted (results_fit area place) _ number short e

    pub mesh_returned : (returned : ReturnedIndexed) (answer : Indexed) → results_fit area place ≡ true → answer ≡ ray_mesh r m pose t list
        stack
        → returned ≡ returned_indexed answer area place → returned ≡ answered_mesh r m pose t list stack area place
    unfolding answered_mesh
    mesh_returned returned answer fits e f =
        f ∙ ap (λ (a : Indexed). returned_indexed a area place) e
        ∙ sym (room_there (ray_admitted r && shape_admitted m pose t) (results_fit area place) _ _ fits)
