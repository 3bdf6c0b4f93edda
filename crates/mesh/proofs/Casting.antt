-- The mesh cast's answers: each refusal, and the fold over the walk's list. Assumes nothing.
use Prim.Native.Nat.{ℕ, ◌*◌, ◌%◌, ◌≤◌}
use mathlib.Core.Path.{◌≡◌, sym, ap, subst, ◌∙◌}
use mathlib.Core.Bool.{Bool, true, false, ◌&&◌}
use mathlib.Core.List.{List, []}
use native.Mathlib.Omega.{arith}
use borrow.Author.Tests.{leb-true, eq-eqb, ne_eqb}
use lib.Dec.{leb, eqb}
use lib.Ieee.{Float}
use lib.ListN.{length, take}
use Rattle.vectors.specs.Vector.{finite_vec}
use Rattle.geometry.specs.Box.{valid_box}
use Rattle.geometry.specs.Segment.{ray_admitted, segment_end, segment_box}
use Rattle.vectors.specs.declared.vec3.Vec3.{Vec3}
use Rattle.geometry.specs.declared.aabb.Aabb.{Aabb}
use Rattle.geometry.specs.declared.ray.Ray.{Ray}
use Rattle.geometry.proofs.BoxLaws.{segment_box_valid}
use Rattle.casts.specs.Answer.{invalid_input, bad_shape, no_room, wrong_pose, out_of_bounds, overflow}
use Rattle.nearest_hit.specs.Nearest.{Indexed, stopped, no_hit, fold_from, nearest_of}
use Rattle.lists.specs.Lists.{sort_by, sorted, all_below}
use Rattle.tree.specs.Layout.{Tree}
use Rattle.tree.specs.Mesh.{Mesh, thirds, lengths_admitted, triangle_answer}
use Rattle.lists.proofs.JoinedTests.{and_first, and_second}
use Rattle.tree_walk.specs.Walk.{walking, broken, ended, walk_of}
use Rattle.tree_walk.specs.Areas.{listed, Grown, GrownTo}
use Rattle.std.specs.Prelude.{Option, Some, None}
use Rattle.tree_query.specs.Query.{walk_fits}
use Rattle.lists.proofs.RefusalLaws as Refusals
use Rattle.mesh.specs.MeshCast.{shape_admitted, room_for, mesh_tests, tests_pass, over_walk, mesh_cast, ray_mesh}

-- what admitted lengths say of the counts
module _ (vertices triangles pose nodes : ℕ) (h : (lengths_admitted vertices triangles && (lengths_admitted pose triangles && leb nodes (2 *
    thirds triangles))) ≡ true) where
  pub triangles_few : thirds triangles ≤ 65536
  unfolding lengths_admitted
  triangles_few =
      let a : lengths_admitted vertices triangles ≡ true = and_first (lengths_admitted vertices triangles)
      (lengths_admitted pose triangles && leb nodes (2 * thirds triangles)) h in
      let b = and_second (leb vertices 196608) (eqb (triangles % 3) 0 && leb triangles 196608)
      (and_second (eqb (vertices % 3) 0) (leb vertices 196608 && (eqb (triangles % 3) 0 && leb triangles 196608)) a) in
      let k : triangles ≤ 196608 = leb-true triangles 196608 (and_second (eqb (triangles % 3) 0) (leb triangles 196608) b) in
      omega arith

  pub nodes_few : leb nodes (2 * thirds triangles) ≡ true
  nodes_few =
      and_second (lengths_admitted pose triangles) (leb nodes (2 * thirds triangles))
      (and_second (lengths_admitted vertices triangles) (lengths_admitted pose triangles && leb nodes (2 * thirds triangles)) h)

-- what a test of the segment's end says of it
pub end_is : (x : Bool) (v : Vec3) (r : Ray) → x ≡ finite_vec v → v ≡ segment_end r → (b : Bool) → x ≡ b → finite_vec (segment_end r) ≡ b
end_is x v r e f b g = cc

-- the cast past refusals 1 to 4
module _ (r : Ray) (m : Mesh) (pose : List Float) (t : Tree) where
  abbrev n : ℕ
  n = thirds (length m.triangles)

  pub cast_overflow : finite_vec (segment_end r) ≡ false → stopped overflow ≡ mesh_cast r m pose t
  unfolding mesh_cast
  cast_overflow h = simp h

  module _ (v : ray_admitted r ≡ true) (f : finite_vec (segment_end r) ≡ true) (box : Aabb) (b : box ≡ segment_box r) (x : Option ℕ)
      (exit : List ℕ)
      (w : ended t n box (listed [] x exit) ≡ walk_of t n box) where
    -- both ends are finite
    valid : valid_box box ≡ true
    valid = ap valid_box b ∙ segment_box_valid r v f

    over : over_walk r pose m.triangles (walk_of t n box) ≡ mesh_cast r m pose t
    unfolding mesh_cast
    over = simp (f, sym b, valid)

    pub cast_broken : x ≡ None → stopped out_of_bounds ≡ mesh_cast r m pose t
    unfolding over_walk ended
    cast_broken e =
        let w' : broken ≡ walk_of t n box = subst (λ (y : Option ℕ). ended t n box (listed [] y exit) ≡ walk_of t n box) e w in
        ap (over_walk r pose m.triangles) w' ∙ over

    pub cast_nearest : (k : ℕ) (answer : Indexed) → x ≡ Some k → answer ≡ nearest_of (triangle_answer r pose m.triangles)
        (sorted (take k exit)) → answer ≡ mesh_cast r m pose t
    unfolding over_walk ended
    cast_nearest k answer e a =
        let w' : walking [] (sorted (take k exit)) ≡ walk_of t n box = subst
        (λ (y : Option ℕ). ended t n box (listed [] y exit) ≡ walk_of t n box) e w in
        a ∙ ap (over_walk r pose m.triangles) w' ∙ over

    -- nothing is listed
    pub cast_empty : (k : ℕ) → x ≡ Some k → k ≡ 0 → no_hit ≡ mesh_cast r m pose t
    unfolding fold_from sort_by
    cast_empty k e z = cast_nearest k no_hit e (rw z)

-- the walk's list is within its area and below the triangle count
pub list_inside : (n k : ℕ) (entry exit : List ℕ) (x : Option ℕ) → GrownTo n entry 0 x exit → x ≡ Some k → (k ≤ length exit) ×
    (all_below n (take k exit) ≡ true)
list_inside n k entry exit x g e =
    let g' : Grown n entry exit 0 k = subst (λ (y : Option ℕ). GrownTo n entry 0 y exit) e g in
    (g'.inside, g'.below)

-- refusals 1 to 4, in their order
module _ (r : Ray) (m : Mesh) (pose : List Float) (t : Tree) (list stack : ℕ) where
  pub mesh_invalid : ray_admitted r ≡ false → stopped invalid_input ≡ ray_mesh r m pose t list stack
  unfolding ray_mesh
  mesh_invalid h = simp h

  abbrev admitted : Bool
  admitted =
      lengths_admitted (length m.vertices) (length m.triangles)
      && (lengths_admitted (length pose) (length m.triangles) && leb t.node_count (2 * thirds (length m.triangles)))

  module _ (v : ray_admitted r ≡ true) where
    pub mesh_bad : admitted ≡ false → stopped bad_shape ≡ ray_mesh r m pose t list stack
    unfolding ray_mesh shape_admitted
    mesh_bad h = simp (v, h)

    module _ (s : admitted ≡ true) where
      pub mesh_short : walk_fits (thirds (length m.triangles)) t list stack ≡ false → stopped no_room ≡ ray_mesh r m pose t list stack
      unfolding ray_mesh shape_admitted room_for walk_fits
      mesh_short h = simp (v, s, h)

      module _ (f : walk_fits (thirds (length m.triangles)) t list stack ≡ true) where
        pub mesh_posed : (length pose ≡ length m.vertices → ⊥) → stopped wrong_pose ≡ ray_mesh r m pose t list stack
        unfolding ray_mesh shape_admitted room_for walk_fits
        mesh_posed h = simp (v, s, f, ne_eqb (length pose) (length m.vertices) h)

        -- past them, the mesh's own vertices do not matter
        pub mesh_passed : length pose ≡ length m.vertices → (other : List Float) (answer : Indexed)
            → answer ≡ mesh_cast r (record { vertices = other; triangles = m.triangles }) pose t → answer ≡ ray_mesh r m pose t list stack
        unfolding ray_mesh shape_admitted room_for walk_fits mesh_cast
        mesh_passed h other answer a = a ∙ simp (v, s, f, eq-eqb (length pose) (length m.vertices) h)

        -- and the areas may change
        pub tests_passed : length pose ≡ length m.vertices → tests_pass r m pose t list stack ≡ false → ⊥
        unfolding tests_pass shape_admitted room_for walk_fits
        tests_passed h = Refusals.tests_passed (mesh_tests r m pose t list stack)
            (v, (s, (f, eq-eqb (length pose) (length m.vertices) h)))
