-- What the calls of the exact cast tell, without a tree and through one; that what is read back from the one without a tree is certain;
-- that a hit through any tree is a true one; and that with every tree that passes the check the call through a tree promises the same as
-- the one without. Assumes nothing.
use Prim.Native.Nat.{ℕ, ◌*◌}
use mathlib.Core.Path.{◌≡◌, sym, ap, subst, ◌∙◌}
use mathlib.Core.Bool.{Bool, true, false, ◌&&◌, cond}
use mathlib.Core.List.{List}
use native.Mathlib.Omega.{arith}
use lib.Dec.{leb}
use lib.Ieee.{Float}
use lib.ListN.{length}
use Rattle.geometry.specs.Segment.{ray_admitted}
use Rattle.geometry.specs.declared.ray.Ray.{Ray}
use Rattle.casts.specs.Answer.{invalid_input, bad_shape, no_room, out_of_range}
use Rattle.nearest_hit.specs.Nearest.{Indexed, stopped}
use Rattle.tree.specs.Layout.{Tree}
use Rattle.tree.specs.Mesh.{Mesh, thirds, lengths_admitted}
use Rattle.tree_check.proofs.Answers.{yes_passes}
use Rattle.exact_triangle.specs.Grid.{grid_admitted}
use Rattle.mesh.specs.MeshCast.{shape_admitted}
use Rattle.mesh.specs.Demand3.{PassesCheck}
use Rattle.mesh_plain.proofs.Agreement.{yes_lengths}
use Rattle.mesh_exact.specs.GridCast.{over_triangles, ray_mesh_exact_plain}
use Rattle.mesh_exact.specs.Certain.{CertainMesh}
use Rattle.mesh_exact.proofs.Certainty.{certain}
use Rattle.tree_exact.specs.Numbers.{NoNaN, has_numbers}
use Rattle.tree_exact.specs.ExactMesh.{room_for, ray_mesh_exact}
use Rattle.tree_exact.proofs.Agreement.{shape_admitted_lem, agrees}
use Rattle.tree_exact.proofs.AnyTree.{hit_anywhere}
use Rattle.results.specs.Results.{ReturnedIndexed, returned_indexed, results_fit, with_room, yes_code, no_code}
use Rattle.exports.specs.Plain.{returned_number}
use Rattle.exports.specs.Reading.{answer_read, TrueHitRead}
use Rattle.exports.specs.ExactResults.{exact_returned, tree_returned, short_exact, ExactPlainCall, ExactRead, NumbersCall}
use Rattle.exports.proofs.Kept.{room_there}
use Rattle.exports.proofs.Codes.{refusals_below_codes}
use Rattle.exports.proofs.Reading.{answer_read_lem}

-- ---- the number where a result slice is too short, test by test
module _ (r : Ray) (shape : Bool) where
  pub short_invalid : ray_admitted r ≡ false → invalid_input ≡ short_exact r shape
  short_invalid h = simp h

  module _ (v : ray_admitted r ≡ true) where
    pub short_off : grid_admitted r ≡ false → out_of_range ≡ short_exact r shape
    short_off h = simp (v, h)

    module _ (g : grid_admitted r ≡ true) where
      pub short_bad : shape ≡ false → bad_shape ≡ short_exact r shape
      short_bad h = simp (v, g, h)

      pub short_room : shape ≡ true → no_room ≡ short_exact r shape
      short_room h = simp (v, g, h)

module _ (hit : List Float) (index : List ℕ) where
  -- the tests of 1, 12 and 2 go before the result slices
  unreturned_short : (p q s fits : Bool) (rest : Indexed) (number : ℕ) → fits ≡ false
      → number ≡ cond p (cond q (cond s no_room bad_shape) out_of_range) invalid_input
      → returned_number number hit index
      ≡ with_room (p && (q && s)) fits
      (returned_indexed (cond p (cond q (cond s rest (stopped bad_shape)) (stopped out_of_range)) (stopped invalid_input)) hit index)
      (returned_number no_room hit index)
  unfolding returned_indexed
  unreturned_short true true true fits rest number f e = simp (f, e)
  unreturned_short true true false fits rest number f e = simp e
  unreturned_short true false s fits rest number f e = simp e
  unreturned_short false q s fits rest number f e = simp e

  -- ---- without a tree
  module _ (r : Ray) (m : Mesh) where
    pub plain_short : (number : ℕ) (shape : Bool) → results_fit hit index ≡ false
        → shape ≡ lengths_admitted (length m.vertices) (length m.triangles) → number ≡ short_exact r shape
        → returned_number number hit index ≡ exact_returned r m hit index
    unfolding exact_returned ray_mesh_exact_plain
    plain_short number shape short s e =
        unreturned_short (ray_admitted r) (grid_admitted r) (lengths_admitted (length m.vertices) (length m.triangles))
        (results_fit hit index) (over_triangles r m) number short (e ∙ ap (λ (b : Bool). short_exact r b) s)

    fitting : results_fit hit index ≡ true → exact_returned r m hit index ≡ returned_indexed (ray_mesh_exact_plain r m) hit index
    unfolding exact_returned
    fitting fits =
        room_there (ray_admitted r && (grid_admitted r && lengths_admitted (length m.vertices) (length m.triangles)))
        (results_fit hit index) _ _ fits

    pub plain_returned_lem : (returned : ReturnedIndexed) (answer : Indexed) → results_fit hit index ≡ true → answer
        ≡ ray_mesh_exact_plain r m
        → returned ≡ returned_indexed answer hit index → returned ≡ exact_returned r m hit index
    plain_returned_lem returned answer fits e f = f ∙ ap (λ (a : Indexed). returned_indexed a hit index) e ∙ sym (fitting fits)

    -- both clauses of the call's contract, from the first
    pub exact_certain : (returned : ReturnedIndexed) → returned ≡ exact_returned r m hit index → ExactPlainCall r m hit index returned
    exact_certain returned e = (
      e,
      λ fits.
          let read = answer_read_lem hit index fits (ray_mesh_exact_plain r m) (refusals_below_codes.exact_plain r m) in
          subst (CertainMesh r m) (sym (ap answer_read (e ∙ fitting fits) ∙ read)) (certain r m),
    )

  -- ---- through a tree
  module _ (r : Ray) (m : Mesh) (pose : List Float) (t : Tree) (stack : ℕ) where
    -- the test of 2 as the code makes it
    abbrev admitted : Bool
    admitted =
        lengths_admitted (length m.vertices) (length m.triangles)
        && (lengths_admitted (length pose) (length m.triangles) && leb t.node_count (2 * thirds (length m.triangles)))

    pub tree_short : (number : ℕ) (shape : Bool) → results_fit hit index ≡ false → shape ≡ admitted → number ≡ short_exact r shape
        → returned_number number hit index ≡ tree_returned r m pose t stack hit index
    unfolding tree_returned ray_mesh_exact shape_admitted
    tree_short number shape short s e =
        unreturned_short (ray_admitted r) (grid_admitted r) admitted (results_fit hit index) _ number short
        (e ∙ ap (λ (b : Bool). short_exact r b) s)

    pub tree_returned_lem : (returned : ReturnedIndexed) (answer : Indexed) → results_fit hit index ≡ true → answer
        ≡ ray_mesh_exact r m pose t
        stack
        → returned ≡ returned_indexed answer hit index → returned ≡ tree_returned r m pose t stack hit index
    unfolding tree_returned
    tree_returned_lem returned answer fits e f =
        f ∙ ap (λ (a : Indexed). returned_indexed a hit index) e
        ∙ sym (room_there (ray_admitted r && (grid_admitted r && shape_admitted m pose t)) (results_fit hit index) _ _ fits)

  -- with a tree that passes the check, for a mesh without a NaN
  tree_as_plain : (r : Ray) (m : Mesh) (t : Tree) (stack : ℕ) → PassesCheck m t → NoNaN m → room_for m t stack ≡ true
      → tree_returned r m m.vertices t stack hit index ≡ exact_returned r m hit index
  unfolding tree_returned exact_returned
  tree_as_plain r m t stack p numbers room =
      let lengths = yes_lengths m t p.marks p.says_yes in
      let shape = shape_admitted_lem r m t (yes_passes m t p.marks p.says_yes) lengths in
      simp (shape, lengths, agrees r m t stack p numbers room)

  -- a hit that is read back is the definition's, and that is a true one
  true_hit_read : (r : Ray) (m : Mesh) (pose : List Float) (t : Tree) (stack : ℕ) (returned : ReturnedIndexed)
      → returned ≡ tree_returned r m pose t stack hit index → TrueHitRead r m pose hit index returned
  unfolding tree_returned
  true_hit_read r m pose t stack returned e fits normal distance i h =
      let told = room_there (ray_admitted r && (grid_admitted r && shape_admitted m pose t)) (results_fit hit index) _ _ fits in
      let read = answer_read_lem hit index fits (ray_mesh_exact r m pose t stack) (refusals_below_codes.exact r m pose t stack) in
      hit_anywhere r m pose t stack normal distance i (sym (ap answer_read (e ∙ told) ∙ read) ∙ h)

  -- the clauses of the call's contract: what is told, what is kept, that a hit is true, and the agreement
  pub with_agreement : (r : Ray) (m : Mesh) (pose : List Float) (t : Tree) (stack : ℕ) (returned : ReturnedIndexed) (Kept : Type 0)
      → returned ≡ tree_returned r m pose t stack hit index → Kept
      → (returned ≡ tree_returned r m pose t stack hit index) × (Kept × ExactRead r m pose t stack hit index returned)
  with_agreement r m pose t stack returned Kept e k = (
    e,
    (
      k,
      (
        true_hit_read r m pose t stack returned e,
        λ own p numbers room.
            exact_certain r m returned
            (e ∙ ap (λ (vs : List Float). tree_returned r m vs t stack hit index) own ∙ tree_as_plain r m t stack p numbers room),
      ),
    ),
  )

-- ---- a mesh without a NaN
pub numbers_yes : (m : Mesh) (b : Bool) → b ≡ has_numbers m → (b ≡ true → NoNaN m) → b ≡ true → NumbersCall m yes_code
numbers_yes m b e means taken = (simp (sym e ∙ taken), λ _. means taken)

pub numbers_no : (m : Mesh) (b : Bool) → b ≡ has_numbers m → b ≡ false → NumbersCall m no_code
numbers_no m b e left = (simp (sym e ∙ left), λ (same : no_code ≡ yes_code). absurd (omega (arith, same)))
