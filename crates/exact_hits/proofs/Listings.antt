-- The exact listing's answers over a mesh: each refusal, and the hits of the walk's list. Assumes nothing.
use Rattle.std.specs.Prelude.{Option, Some, None}
use Prim.Native.Nat.{ℕ, ◌*◌}
use mathlib.Core.Path.{◌≡◌, ap, subst, ◌∙◌}
use mathlib.Core.Bool.{Bool, true, false, ◌&&◌}
use mathlib.Core.List.{List, []}
use borrow.Author.Tests.{eq-eqb, ne_eqb}
use lib.Dec.{leb}
use lib.Ieee.{Float}
use lib.ListN.{length, take}
use Rattle.lists.specs.Lists.{sorted}
use Rattle.lists.proofs.RefusalLaws as Refusals
use Rattle.geometry.specs.Segment.{ray_admitted}
use Rattle.geometry.specs.declared.aabb.Aabb.{Aabb}
use Rattle.geometry.specs.declared.ray.Ray.{Ray}
use Rattle.casts.specs.Answer.{Answer, invalid_input, bad_shape, no_room, wrong_pose, out_of_bounds, out_of_range}
use Rattle.tree.specs.Layout.{Tree, box_at}
use Rattle.tree.specs.Mesh.{Mesh, thirds, lengths_admitted}
use Rattle.tree_walk.specs.Walk.{ended}
use Rattle.tree_walk.specs.Areas.{listed}
use Rattle.tree_query.specs.Query.{walk_fits}
use Rattle.mesh.specs.MeshCast.{shape_admitted, room_for}
use Rattle.mesh_hits.specs.HitArea.{HitArea, Outcome, refused_at}
use Rattle.mesh_hits.specs.HitListing.{listing_of}
use Rattle.mesh_hits.specs.Listing.{over_walk, unchanged}
use Rattle.exact_triangle.specs.Grid.{grid_admitted, grid_line}
use Rattle.mesh_exact.specs.GridCast.{exact_answer}
use Rattle.exact_hits.specs.LineWalk.{walk_box, line_walk}
use Rattle.exact_hits.specs.ExactListing.{exact_listing, listing_tests, tests_pass, ray_mesh_exact_all}

-- ---- past refusals 1, 12 of the ray and 2 to 4
module _ (r : Ray) (triangles : List ℕ) (pose : List Float) (t : Tree) (area : HitArea) (x : Option ℕ) (exit : List ℕ)
    (w : ended t (thirds (length triangles)) (walk_box (grid_line r) (box_at t.node_boxes 0)) (listed [] x exit)
    ≡ line_walk (grid_line r) t (thirds (length triangles))) where
  abbrev n : ℕ
  n = thirds (length triangles)

  abbrev box : Aabb
  box = walk_box (grid_line r) (box_at t.node_boxes 0)

  abbrev answer : ℕ → Answer
  answer = exact_answer r pose triangles

  walked : (y : Option ℕ) → x ≡ y → ended t n box (listed [] y exit) ≡ line_walk (grid_line r) t n
  walked y e = subst (λ (z : Option ℕ). ended t n box (listed [] z exit) ≡ line_walk (grid_line r) t n) e w

  pub listing_broken : x ≡ None → (o : Outcome) → o ≡ refused_at out_of_bounds area → o ≡ exact_listing r triangles pose t area
  unfolding exact_listing over_walk ended
  listing_broken e o a = a ∙ ap (over_walk answer area) (walked None e)

  pub listing_walked : (k : ℕ) (o : Outcome) → x ≡ Some k → o ≡ listing_of answer area (sorted (take k exit))
      → o ≡ exact_listing r triangles pose t area
  unfolding exact_listing over_walk ended
  listing_walked k o e a = a ∙ ap (over_walk answer area) (walked (Some k) e)

-- ---- those refusals, in their order
module _ (r : Ray) (m : Mesh) (pose : List Float) (t : Tree) (list stack : ℕ) (area : HitArea) where
  abbrev whole : Outcome
  whole = ray_mesh_exact_all r m pose t list stack area

  pub all_invalid : ray_admitted r ≡ false → unchanged invalid_input area ≡ whole
  unfolding ray_mesh_exact_all
  all_invalid h = simp h

  module _ (v : ray_admitted r ≡ true) where
    pub all_off : grid_admitted r ≡ false → unchanged out_of_range area ≡ whole
    unfolding ray_mesh_exact_all
    all_off h = simp (v, h)

    module _ (g : grid_admitted r ≡ true) where
      abbrev admitted : Bool
      admitted =
          lengths_admitted (length m.vertices) (length m.triangles)
          && (lengths_admitted (length pose) (length m.triangles) && leb t.node_count (2 * thirds (length m.triangles)))

      pub all_bad : admitted ≡ false → unchanged bad_shape area ≡ whole
      unfolding ray_mesh_exact_all shape_admitted
      all_bad h = simp (v, g, h)

      module _ (s : admitted ≡ true) where
        pub all_short : walk_fits (thirds (length m.triangles)) t list stack ≡ false → unchanged no_room area ≡ whole
        unfolding ray_mesh_exact_all shape_admitted room_for walk_fits
        all_short h = simp (v, g, s, h)

        module _ (f : walk_fits (thirds (length m.triangles)) t list stack ≡ true) where
          pub all_posed : (length pose ≡ length m.vertices → ⊥) → unchanged wrong_pose area ≡ whole
          unfolding ray_mesh_exact_all shape_admitted room_for walk_fits
          all_posed h = simp (v, g, s, f, ne_eqb (length pose) (length m.vertices) h)

          module _ (p : length pose ≡ length m.vertices) where
            pub all_passed : (o : Outcome) → o ≡ exact_listing r m.triangles pose t area → o ≡ whole
            unfolding ray_mesh_exact_all shape_admitted room_for walk_fits
            all_passed o a = a ∙ simp (v, g, s, f, eq-eqb (length pose) (length m.vertices) p)

-- past them the list and the stack may change
pub tests_passed : (r : Ray) (m : Mesh) (pose : List Float) (t : Tree) (list stack : ℕ) → ray_admitted r ≡ true → grid_admitted r ≡ true
    → (lengths_admitted (length m.vertices) (length m.triangles)
    && (lengths_admitted (length pose) (length m.triangles) && leb t.node_count (2 * thirds (length m.triangles)))) ≡ true
    → walk_fits (thirds (length m.triangles)) t list stack ≡ true → length pose ≡ length m.vertices
    → tests_pass r m pose t list stack ≡ false → ⊥
unfolding tests_pass shape_admitted room_for walk_fits
tests_passed r m pose t list stack v g s f p =
    Refusals.tests_passed (listing_tests r m pose t list stack) (v, (g, (s, (f, eq-eqb (length pose) (length m.vertices) p))))
