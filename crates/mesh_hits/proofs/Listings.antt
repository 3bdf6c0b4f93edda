-- The listing's answers over a mesh: each refusal, and the hits of the walk's list. Assumes nothing.
use Prim.Native.Nat.{ℕ, ◌*◌}
use mathlib.Core.Path.{◌≡◌, sym, ap, subst, ◌∙◌}
use mathlib.Core.Bool.{Bool, true, false, ◌&&◌}
use mathlib.Core.List.{List, [], ◌∷◌}
use native.Mathlib.Omega.{arith}
use borrow.Author.Tests.{eq-eqb, ne_eqb}
use lib.Dec.{leb}
use lib.Ieee.{Float}
use lib.ListN.{length, take}
use Rattle.vectors.specs.Vector.{finite_vec}
use Rattle.geometry.specs.Box.{valid_box}
use Rattle.geometry.specs.Segment.{ray_admitted, segment_end, segment_box}
use Rattle.geometry.specs.declared.aabb.Aabb.{Aabb}
use Rattle.geometry.specs.declared.ray.Ray.{Ray}
use Rattle.geometry.proofs.BoxLaws.{segment_box_valid}
use Rattle.casts.specs.Answer.{invalid_input, bad_shape, no_room, wrong_pose, out_of_bounds, overflow}
use Rattle.lists.proofs.Members.{Rising}
use Rattle.lists.specs.Lists.{sorted}
use Rattle.lists.proofs.SortLaws.{sorted_rises}
use Rattle.tree.specs.Layout.{Tree}
use Rattle.tree.specs.Mesh.{Mesh, thirds, lengths_admitted, triangle_answer}
use Rattle.tree_walk.specs.Walk.{Walking, walking, broken, ended, walk_of}
use Rattle.tree_walk.specs.Areas.{listed}
use Rattle.std.specs.Prelude.{Option, Some, None}
use Rattle.tree_query.specs.Query.{walk_fits}
use Rattle.mesh.specs.MeshCast.{shape_admitted, room_for}
use Rattle.mesh_hits.specs.HitArea.{HitArea, Outcome, refused_at}
use Rattle.mesh_hits.specs.Listing.{unchanged, over_walk, mesh_listing, ray_mesh_all}
use Rattle.mesh_hits.specs.HitListing.{listing_of}

-- the list of the walk does not fall
pub ended_rises : (t : Tree) (n : ℕ) (box : Aabb) (w : Walking) (stack l : List ℕ) → ended t n box w ≡ walking stack l → Rising l
unfolding ended
ended_rises t n box broken stack l h = absurd (broken_not_walking h)
  where
    broken_not_walking : broken ≡ walking stack l → ⊥
    broken_not_walking g = let z : ◌≡◌ {A = ℕ} 0 1 = cc in omega arith
ended_rises t n box (walking [] list) stack l h = subst Rising same (sorted_rises list)
  where
    same : sorted list ≡ l
    same = cc
ended_rises t n box (walking (node ∷ rest) list) stack l h = absurd (broken_not_walking h)
  where
    broken_not_walking : broken ≡ walking stack l → ⊥
    broken_not_walking g = let z : ◌≡◌ {A = ℕ} 0 1 = cc in omega arith

-- past refusals 1 to 4
module _ (r : Ray) (triangles : List ℕ) (pose : List Float) (t : Tree) (area : HitArea) where
  abbrev n : ℕ
  n = thirds (length triangles)

  pub listing_overflow : finite_vec (segment_end r) ≡ false → (o : Outcome) → o ≡ refused_at overflow area
      → o ≡ mesh_listing r triangles pose t area
  unfolding mesh_listing
  listing_overflow h o e = e ∙ simp h

  module _ (v : ray_admitted r ≡ true) (f : finite_vec (segment_end r) ≡ true) (box : Aabb) (b : box ≡ segment_box r) (x : Option ℕ)
      (exit : List ℕ)
      (w : ended t n box (listed [] x exit) ≡ walk_of t n box) where
    valid : valid_box box ≡ true
    valid = ap valid_box b ∙ segment_box_valid r v f

    over : over_walk (triangle_answer r pose triangles) area (walk_of t n box) ≡ mesh_listing r triangles pose t area
    unfolding mesh_listing
    over = simp (f, sym b, valid)

    pub listing_broken : x ≡ None → (o : Outcome) → o ≡ refused_at out_of_bounds area → o ≡ mesh_listing r triangles pose t area
    unfolding over_walk ended
    listing_broken e o a =
        let w' : broken ≡ walk_of t n box = subst (λ (y : Option ℕ). ended t n box (listed [] y exit) ≡ walk_of t n box) e w in
        a ∙ ap (over_walk (triangle_answer r pose triangles) area) w' ∙ over

    pub listing_walked : (k : ℕ) (o : Outcome) → x ≡ Some k
        → o ≡ listing_of (triangle_answer r pose triangles) area (sorted (take k exit)) → o ≡ mesh_listing r triangles pose t area
    unfolding over_walk ended
    listing_walked k o e a =
        let w' : walking [] (sorted (take k exit)) ≡ walk_of t n box = subst
        (λ (y : Option ℕ). ended t n box (listed [] y exit) ≡ walk_of t n box) e w in
        a ∙ ap (over_walk (triangle_answer r pose triangles) area) w' ∙ over

-- refusals 1 to 4, in their order
module _ (r : Ray) (m : Mesh) (pose : List Float) (t : Tree) (list stack : ℕ) (area : HitArea) where
  pub all_invalid : ray_admitted r ≡ false → unchanged invalid_input area ≡ ray_mesh_all r m pose t list stack area
  unfolding ray_mesh_all
  all_invalid h = simp h

  abbrev admitted : Bool
  admitted =
      lengths_admitted (length m.vertices) (length m.triangles)
      && (lengths_admitted (length pose) (length m.triangles) && leb t.node_count (2 * thirds (length m.triangles)))

  module _ (v : ray_admitted r ≡ true) where
    pub all_bad : admitted ≡ false → unchanged bad_shape area ≡ ray_mesh_all r m pose t list stack area
    unfolding ray_mesh_all shape_admitted
    all_bad h = simp (v, h)

    module _ (s : admitted ≡ true) where
      pub all_short : walk_fits (thirds (length m.triangles)) t list stack ≡ false
          → unchanged no_room area ≡ ray_mesh_all r m pose t list stack area
      unfolding ray_mesh_all shape_admitted room_for walk_fits
      all_short h = simp (v, s, h)

      module _ (f : walk_fits (thirds (length m.triangles)) t list stack ≡ true) where
        pub all_posed : (length pose ≡ length m.vertices → ⊥) → unchanged wrong_pose area ≡ ray_mesh_all r m pose t list stack area
        unfolding ray_mesh_all shape_admitted room_for walk_fits
        all_posed h = simp (v, s, f, ne_eqb (length pose) (length m.vertices) h)

        pub all_passed : length pose ≡ length m.vertices → (o : Outcome) → o ≡ mesh_listing r m.triangles pose t area
            → o ≡ ray_mesh_all r m pose t list stack area
        unfolding ray_mesh_all shape_admitted room_for walk_fits
        all_passed h o a = a ∙ simp (v, s, f, eq-eqb (length pose) (length m.vertices) h)
