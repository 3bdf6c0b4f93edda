-- What the call of the mesh cast without a tree tells, and that every tree that passes the check tells the same. Assumes nothing.
use Prim.Native.Nat.{ℕ, ◌<◌, ◌≤◌}
use mathlib.Core.Path.{◌≡◌, refl, sym, ap, ◌∙◌}
use mathlib.Core.Bool.{Bool, true, false, cond}
use mathlib.Core.List.{List}
use borrow.Author.Tests.{le-leb, lt-leb}
use lib.Ieee.{Float}
use lib.ListN.{length}
use Rattle.geometry.specs.Segment.{ray_admitted}
use Rattle.geometry.specs.declared.ray.Ray.{Ray}
use Rattle.casts.specs.Answer.{invalid_input, bad_shape, no_room}
use Rattle.nearest_hit.specs.Nearest.{Indexed, stopped}
use Rattle.tree.specs.Mesh.{Mesh, lengths_admitted}
use Rattle.mesh_plain.specs.PlainCast.{plain_cast, ray_mesh_plain}
use Rattle.mesh_plain.proofs.Agreement.{agrees_with_trees}
use Rattle.results.specs.Results.{ReturnedIndexed, returned_indexed, results_fit}
use Rattle.exports.specs.Plain.{returned_number, plain_returned, ReturnedByTrees}
use Rattle.exports.proofs.Kept.{results_fit_lem}

module _ (r : Ray) (m : Mesh) (hit : List Float) (index : List ℕ) where
  -- where the result slices fit, the definition's answer is told
  plain_returned_lem : results_fit hit index ≡ true → returned_indexed (ray_mesh_plain r m) hit index ≡ plain_returned r m hit index
  unfolding plain_returned ray_mesh_plain returned_indexed
  plain_returned_lem fit = go (ray_admitted r) (lengths_admitted (length m.vertices) (length m.triangles))
    where
      go : (ray shape : Bool)
          → returned_indexed (cond ray (cond shape (plain_cast r m) (stopped bad_shape)) (stopped invalid_input)) hit index
          ≡ cond ray
          (cond shape
          (cond (results_fit hit index) (returned_indexed (plain_cast r m) hit index) (returned_number no_room hit index))
          (returned_number bad_shape hit index))
          (returned_number invalid_input hit index)
      go true true = simp fit
      go true false = refl
      go false shape = refl

  -- both clauses of the call's contract, from the first
  returned_by_trees : (returned : ReturnedIndexed) → returned ≡ plain_returned r m hit index
      → (returned ≡ plain_returned r m hit index) × ReturnedByTrees r m hit index returned
  returned_by_trees returned e = (
    e,
    λ t list stack passes room fit.
        ap (λ (a : Indexed). returned_indexed a hit index) (agrees_with_trees r m t list stack passes room) ∙ plain_returned_lem fit
        ∙ sym e,
  )

  pub returned_invalid : ray_admitted r ≡ false → returned_number invalid_input hit index ≡ plain_returned r m hit index
  unfolding plain_returned
  returned_invalid h = simp h

  module _ (v : ray_admitted r ≡ true) where
    pub returned_bad : lengths_admitted (length m.vertices) (length m.triangles) ≡ false
        → returned_number bad_shape hit index ≡ plain_returned r m hit index
    unfolding plain_returned
    returned_bad h = simp (v, h)

    module _ (s : lengths_admitted (length m.vertices) (length m.triangles) ≡ true) where
      pub returned_short_hit : length hit < 4 → returned_number no_room hit index ≡ plain_returned r m hit index
      unfolding plain_returned results_fit
      returned_short_hit h = simp (v, s, lt-leb 4 (length hit) h)

      pub returned_short_index : 4 ≤ length hit → length index < 1 → returned_number no_room hit index ≡ plain_returned r m hit index
      unfolding plain_returned results_fit
      returned_short_index h k = simp (v, s, le-leb 4 (length hit) h, lt-leb 1 (length index) k)

      pub returned_passed : 4 ≤ length hit → 1 ≤ length index → (returned : ReturnedIndexed) (answer : Indexed)
          → returned ≡ returned_indexed answer hit index → answer ≡ plain_cast r m → returned ≡ plain_returned r m hit index
      unfolding plain_returned
      returned_passed h k returned answer e a =
          e ∙ ap (λ (b : Indexed). returned_indexed b hit index) a ∙ simp (v, s, results_fit_lem hit index h k)

-- both clauses for the ray that the call's numbers make
pub returned_for : (made r : Ray) → made ≡ r → (m : Mesh) (hit : List Float) (index : List ℕ) (returned : ReturnedIndexed)
    → returned ≡ plain_returned made m hit index → (returned ≡ plain_returned r m hit index) × ReturnedByTrees r m hit index returned
returned_for made r e m hit index returned h = returned_by_trees r m hit index returned
    (h ∙ ap (λ (s : Ray). plain_returned s m hit index) e)
