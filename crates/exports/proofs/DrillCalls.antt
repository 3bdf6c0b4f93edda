-- What the calls of the drill answer, without a tree, through one and for many drills; that what is read back from the one without a tree
-- is certain, and says of the part as drawn what it should; and that with every tree that passes the check the call through a tree promises
-- the same. Assumes nothing.
use Prim.Native.Nat.{ℕ, ◌*◌, ◌≤◌, ◌<◌}
use mathlib.Core.Path.{◌≡◌, refl, sym, ap, subst, ◌∙◌}
use mathlib.Core.Bool.{Bool, true, false, ◌&&◌, cond, false≢true}
use mathlib.Core.List.{List, [], ◌∷◌}
use native.Mathlib.Omega.{arith}
use borrow.Author.Tests.{le-leb, lt-leb, ne_eqb}
use lib.Dec.{leb}
use lib.Ieee.{Float}
use lib.ListN.{length}
use Rattle.lists.specs.Refusals.{all_pass}
use Rattle.geometry.specs.Segment.{ray_admitted}
use Rattle.geometry.specs.declared.ray.Ray.{Ray}
use Rattle.casts.specs.Answer.{invalid_input, bad_shape, no_room, out_of_range}
use Rattle.tree.specs.Layout.{Tree, word_at}
use Rattle.tree.specs.Mesh.{Mesh, thirds, triangle_count, lengths_admitted}
use Rattle.tree_check.proofs.Answers.{yes_passes}
use Rattle.tree_query.specs.Query.{walk_fits}
use Rattle.exact_triangle.specs.Grid.{within, grid_admitted}
use Rattle.mesh.specs.MeshCast.{shape_admitted}
use Rattle.mesh.specs.Demand3.{PassesCheck}
use Rattle.mesh_plain.proofs.Agreement.{yes_lengths}
use Rattle.tree_exact.specs.Numbers.{NoNaN}
use Rattle.tree_exact.proofs.Agreement.{shape_admitted_lem}
use Rattle.mesh_drill.specs.MeshDrill.{DrillAnswer, Clear, Touches, Stopped}
use Rattle.mesh_drill.specs.Radius.{widestᶠ, radius_admitted}
use Rattle.mesh_drill.specs.Drilling.{drill_tests, over_mesh, drill_plain, CertainRayDrill}
use Rattle.mesh_drill.specs.Through.{drill_through}
use Rattle.mesh_drill.specs.Part.{PartAsDrawn}
use Rattle.mesh_drill.proofs.Answers.{drill_sure}
use Rattle.mesh_drill.proofs.Agreement.{agrees}
use Rattle.mesh_drill.proofs.AnyTree.{touched_anywhere}
use Rattle.mesh_drill.proofs.Parts.{part_as_drawn}
use Rattle.results.specs.Results.{with_room, hit_code, none_code}
use Rattle.many_drills.specs.Returned.{ReturnedDrill, returned_drill}
use Rattle.many_drills.specs.Many.{ray_at, radius_at, drill_count, Places, tree_answer, read_at, EachAsSingle}
use Rattle.exports.specs.Codes.{Below}
use Rattle.exports.specs.Drills.{index_fits, refused_drill, drill_plain_returned, drill_returned, short_drill, drill_read}
use Rattle.exports.specs.Drills.{TouchedRead, DrillPlainCall, DrillAsPlain, DrillTreeRead, DrillAnswered}
use Rattle.exports.proofs.Kept.{room_there}
use Rattle.exports.proofs.Codes.{refusals_below_codes}

-- ---- the number where the index slice is too short, test by test
module _ (r : Ray) (radius : Float) (shape : Bool) where
  pub short_ray : ray_admitted r ≡ false → invalid_input ≡ short_drill r radius shape
  short_ray h = simp h

  module _ (v : ray_admitted r ≡ true) where
    pub short_radius : radius_admitted radius ≡ false → invalid_input ≡ short_drill r radius shape
    short_radius h = simp (v, h)

    module _ (z : radius_admitted radius ≡ true) where
      pub short_off : grid_admitted r ≡ false → out_of_range ≡ short_drill r radius shape
      short_off h = simp (v, z, h)

      module _ (g : grid_admitted r ≡ true) where
        pub short_wide : within widestᶠ radius ≡ false → out_of_range ≡ short_drill r radius shape
        short_wide h = simp (v, z, g, h)

        module _ (w : within widestᶠ radius ≡ true) where
          pub short_bad : shape ≡ false → bad_shape ≡ short_drill r radius shape
          short_bad h = simp (v, z, g, w, h)

          pub short_room : shape ≡ true → no_room ≡ short_drill r radius shape
          short_room h = simp (v, z, g, w, h)

-- ---- a slice that has a place, and one that has none
pub index_there : (index : List ℕ) → 1 ≤ length index → index_fits index ≡ true
index_there index long = le-leb 1 (length index) long

pub index_missing : (index : List ℕ) → length index < 1 → index_fits index ≡ false
index_missing index short = lt-leb 1 (length index) short

-- ---- the number and the slice say the answer
pub drill_read_lem : (index : List ℕ) → index_fits index ≡ true → (x : DrillAnswer) → Below Stopped x → drill_read (returned_drill x index)
    ≡ x
unfolding drill_read returned_drill
drill_read_lem index fits Clear small = refl
drill_read_lem [] fits (Touches i) small = absurd (false≢true fits)
drill_read_lem (k ∷ index) fits (Touches i) small = refl
drill_read_lem index fits (Stopped number) small =
    let below = small number refl in
    simp (ne_eqb number hit_code (λ same. omega arith), ne_eqb number none_code (λ same. omega arith))

module _ (index : List ℕ) where
  -- the tests of 1, 12 and 2 go before the index slice
  unreturned_short : (p q u v s fits : Bool) (rest : DrillAnswer) (number : ℕ) → fits ≡ false
      → number ≡ cond p (cond q (cond u (cond v (cond s no_room bad_shape) out_of_range) out_of_range) invalid_input) invalid_input
      → refused_drill number index
      ≡ with_room ((p && (q && (u && v))) && s) fits
      (returned_drill (cond p (cond q (cond u (cond v (cond s rest (Stopped bad_shape)) (Stopped out_of_range)) (Stopped out_of_range))
      (Stopped invalid_input)) (Stopped invalid_input)) index)
      (refused_drill no_room index)
  unfolding returned_drill
  unreturned_short true true true true true fits rest number f e = simp (f, e)
  unreturned_short true true true true false fits rest number f e = simp e
  unreturned_short true true true false s fits rest number f e = simp e
  unreturned_short true true false v s fits rest number f e = simp e
  unreturned_short true false u v s fits rest number f e = simp e
  unreturned_short false q u v s fits rest number f e = simp e

  -- ---- without a tree
  module _ (r : Ray) (radius : Float) (m : Mesh) where
    pub plain_short : (number : ℕ) (shape : Bool) → index_fits index ≡ false
        → shape ≡ lengths_admitted (length m.vertices) (length m.triangles) → number ≡ short_drill r radius shape
        → refused_drill number index ≡ drill_plain_returned r radius m index
    unfolding drill_plain_returned drill_plain
    plain_short number shape short s e =
        unreturned_short (ray_admitted r) (radius_admitted radius) (grid_admitted r) (within widestᶠ radius)
        (lengths_admitted (length m.vertices) (length m.triangles)) (index_fits index) (over_mesh r radius m) number short
        (e ∙ ap (λ (b : Bool). short_drill r radius b) s)

    fitting : index_fits index ≡ true → drill_plain_returned r radius m index ≡ returned_drill (drill_plain r radius m) index
    unfolding drill_plain_returned
    fitting fits =
        room_there (all_pass (drill_tests r radius) && lengths_admitted (length m.vertices) (length m.triangles)) (index_fits index) _ _
        fits

    pub plain_returned_lem : (returned : ReturnedDrill) (answer : DrillAnswer) → index_fits index ≡ true → answer ≡ drill_plain r radius m
        → returned ≡ returned_drill answer index → returned ≡ drill_plain_returned r radius m index
    plain_returned_lem returned answer fits e f = f ∙ ap (λ (a : DrillAnswer). returned_drill a index) e ∙ sym (fitting fits)

    -- both clauses of the call's contract, from the first
    pub drill_plain_certain : (returned : ReturnedDrill) → returned ≡ drill_plain_returned r radius m index
        → DrillPlainCall r radius m index returned
    drill_plain_certain returned e = (
      e,
      λ fits.
          let read = ap drill_read (e ∙ fitting fits) ∙ drill_read_lem index fits (drill_plain r radius m)
          (refusals_below_codes.drill_plain r radius m) in (
            subst (CertainRayDrill r radius m) (sym read) (drill_sure r radius m),
            subst (PartAsDrawn r radius m) (sym read) (part_as_drawn r radius m),
          ),
    )

  -- ---- through a tree
  module _ (r : Ray) (radius : Float) (m : Mesh) (t : Tree) (list stack : ℕ) where
    -- the test of 2 as the code makes it
    abbrev admitted : Bool
    admitted =
        lengths_admitted (length m.vertices) (length m.triangles)
        && (lengths_admitted (length m.vertices) (length m.triangles) && leb t.node_count (2 * thirds (length m.triangles)))

    pub tree_short : (number : ℕ) (shape : Bool) → index_fits index ≡ false → shape ≡ admitted → number ≡ short_drill r radius shape
        → refused_drill number index ≡ drill_returned r radius m t list stack index
    unfolding drill_returned drill_through shape_admitted
    tree_short number shape short s e =
        unreturned_short (ray_admitted r) (radius_admitted radius) (grid_admitted r) (within widestᶠ radius) admitted (index_fits index) _
        number short (e ∙ ap (λ (b : Bool). short_drill r radius b) s)

    pub tree_returned_lem : (returned : ReturnedDrill) (answer : DrillAnswer) → index_fits index ≡ true
        → answer ≡ drill_through r radius m t list stack → returned ≡ returned_drill answer index
        → returned ≡ drill_returned r radius m t list stack index
    unfolding drill_returned
    tree_returned_lem returned answer fits e f =
        f ∙ ap (λ (a : DrillAnswer). returned_drill a index) e
        ∙ sym (room_there (all_pass (drill_tests r radius) && shape_admitted m m.vertices t) (index_fits index) _ _ fits)

    -- with a tree that passes the check, for a mesh without a NaN
    tree_as_plain : PassesCheck m t → NoNaN m → walk_fits (triangle_count m) t list stack ≡ true
        → drill_returned r radius m t list stack index ≡ drill_plain_returned r radius m index
    unfolding drill_returned drill_plain_returned
    tree_as_plain p numbers room =
        let lengths = yes_lengths m t p.marks p.says_yes in
        let shape = shape_admitted_lem r m t (yes_passes m t p.marks p.says_yes) lengths in
        simp (shape, lengths, agrees r radius m t list stack p numbers room)

    as_plain : (returned : ReturnedDrill) → returned ≡ drill_returned r radius m t list stack index
        → DrillAsPlain r radius m t list stack index returned
    as_plain returned e p numbers room = drill_plain_certain r radius m returned (e ∙ tree_as_plain p numbers room)

    -- a triangle that is read back is the definition's, and that one has a point in the drill
    touched_read : (returned : ReturnedDrill) → returned ≡ drill_returned r radius m t list stack index
        → TouchedRead r radius m index returned
    unfolding drill_returned
    touched_read returned e fits i h =
        let room = room_there (all_pass (drill_tests r radius) && shape_admitted m m.vertices t) (index_fits index) _ _ fits in
        let read = drill_read_lem index fits (drill_through r radius m t list stack) (refusals_below_codes.drill r radius m t list stack) in
        touched_anywhere r radius m t i list stack (sym (ap drill_read (e ∙ room) ∙ read) ∙ h)

    -- what is read back, from the answer
    pub tree_read : (returned : ReturnedDrill) → returned ≡ drill_returned r radius m t list stack index
        → DrillTreeRead r radius m t list stack index returned
    tree_read returned e = (touched_read returned e, as_plain returned e)

    -- the clauses of the call's contract: what is answered, what is kept, and what is read back
    pub with_reading : (returned : ReturnedDrill) (Kept : Type 0) → returned ≡ drill_returned r radius m t list stack index → Kept
        → (returned ≡ drill_returned r radius m t list stack index) × (Kept × DrillTreeRead r radius m t list stack index returned)
    with_reading returned Kept e k = (e, (k, tree_read returned e))

-- ---- many drills
pub drill_each : (drills : List Float) (m : Mesh) (t : Tree) (p after : Places) (list stack : ℕ)
    → EachAsSingle (tree_answer m t list stack) drills p after → (i : ℕ) → i < drill_count drills
    → DrillAnswered m t list stack (ray_at drills i) (radius_at drills i) (word_at p.indices i ∷ []) (read_at after i)
drill_each drills m t p after list stack single i h =
    let place = word_at p.indices i ∷ [] in
    let returned = tree_returned_lem place (ray_at drills i) (radius_at drills i) m t list stack (read_at after i) _ refl refl
    (single.each i h) in
    (returned, tree_read place (ray_at drills i) (radius_at drills i) m t list stack (read_at after i) returned)
