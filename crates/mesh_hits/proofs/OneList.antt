-- Past the tests one list, the walk's, serves the mesh cast and the listing: where the listing counts, and where the cast is a hit. Assumes
-- nothing.
use Prim.Native.Nat.{ℕ}
use mathlib.Core.Path.{◌≡◌, refl, sym, ap, ◌∙◌}
use mathlib.Core.Bool.{Bool, true, false, cond}
use mathlib.Core.List.{List}
use lib.Dec.{eqb}
use lib.Ieee.{Float}
use lib.ListN.{length}
use Rattle.vectors.specs.Vector.{finite_vec}
use Rattle.geometry.specs.Box.{valid_box}
use Rattle.geometry.specs.Segment.{ray_admitted, segment_end, segment_box}
use Rattle.vectors.specs.declared.vec3.Vec3.{Vec3}
use Rattle.geometry.specs.declared.ray.Ray.{Ray}
use Rattle.casts.specs.Answer.{Answer, invalid_input, bad_shape, no_room, wrong_pose, out_of_bounds, overflow}
use Rattle.nearest_hit.specs.Nearest.{Indexed, hit_at, stopped, nearest_of}
use Rattle.nearest_hit.proofs.IndexedCases.{hit_not_stopped}
use Rattle.lists.proofs.Members.{Rising}
use Rattle.tree.specs.Layout.{Tree}
use Rattle.tree.specs.Mesh.{Mesh, thirds, triangle_answer}
use Rattle.tree_walk.specs.Walk.{Walking, walking, broken, walk_of}
use Rattle.tree_query.specs.Query.{count as count_of}
use Rattle.mesh.specs.MeshCast.{shape_admitted, room_for, over_walk as castOverWalk, mesh_cast, ray_mesh}
use Rattle.mesh_hits.specs.HitArea.{HitArea, Outcome, refused_at}
use Rattle.mesh_hits.specs.HitListing.{listing_of}
use Rattle.mesh_hits.specs.Listing.{unchanged, over_walk, mesh_listing, ray_mesh_all}
use Rattle.mesh_hits.proofs.Listings.{ended_rises}
use Rattle.mesh_hits.proofs.CountedHits.{refused_not_count}

-- ---- the tests
-- what they let pass, of the cast and of the listing
abbrev pub cast : Bool → Bool → Bool → Bool → Bool → Bool → Indexed → Indexed
cast b₁ b₂ b₃ b₄ b₅ b₆ z =
    cond b₁ (cond b₂ (cond b₃ (cond b₄ (cond b₅ (cond b₆ z (stopped out_of_bounds)) (stopped overflow)) (stopped wrong_pose))
    (stopped no_room)) (stopped bad_shape)) (stopped invalid_input)

module _ (area : HitArea) where
  abbrev pub listing : Bool → Bool → Bool → Bool → Bool → Bool → Outcome → Outcome
  listing b₁ b₂ b₃ b₄ b₅ b₆ o =
      cond b₁
      (cond b₂ (cond b₃ (cond b₄ (cond b₅ (cond b₆ o (refused_at out_of_bounds area)) (refused_at overflow area))
      (unchanged wrong_pose area)) (unchanged no_room area)) (unchanged bad_shape area))
      (unchanged invalid_input area)

  record Passed (b₁ b₂ b₃ b₄ b₅ b₆ : Bool) (z : Indexed) (o : Outcome) : Type 0 where
    cast_is : cast b₁ b₂ b₃ b₄ b₅ b₆ z ≡ z
    listing_is : listing b₁ b₂ b₃ b₄ b₅ b₆ o ≡ o

  -- a listing that counts has passed them
  counts_pass : (b₁ b₂ b₃ b₄ b₅ b₆ : Bool) (z : Indexed) (o : Outcome) (k : ℕ) → (listing b₁ b₂ b₃ b₄ b₅ b₆ o).answer ≡ count_of k
      → Passed b₁ b₂ b₃ b₄ b₅ b₆ z o
  counts_pass false b₂ b₃ b₄ b₅ b₆ z o k h = absurd (refused_not_count k invalid_input h)
  counts_pass true false b₃ b₄ b₅ b₆ z o k h = absurd (refused_not_count k bad_shape h)
  counts_pass true true false b₄ b₅ b₆ z o k h = absurd (refused_not_count k no_room h)
  counts_pass true true true false b₅ b₆ z o k h = absurd (refused_not_count k wrong_pose h)
  counts_pass true true true true false b₆ z o k h = absurd (refused_not_count k overflow h)
  counts_pass true true true true true false z o k h = absurd (refused_not_count k out_of_bounds h)
  counts_pass true true true true true true z o k h = record { cast_is = refl; listing_is = refl }

  -- and so has a cast that hits
  hits_pass : (b₁ b₂ b₃ b₄ b₅ b₆ : Bool) (z : Indexed) (o : Outcome) (n : Vec3) (d : Float) (i : ℕ)
      → cast b₁ b₂ b₃ b₄ b₅ b₆ z ≡ hit_at n d i → Passed b₁ b₂ b₃ b₄ b₅ b₆ z o
  hits_pass false b₂ b₃ b₄ b₅ b₆ z o n d i h = absurd (hit_not_stopped n d i invalid_input (sym h))
  hits_pass true false b₃ b₄ b₅ b₆ z o n d i h = absurd (hit_not_stopped n d i bad_shape (sym h))
  hits_pass true true false b₄ b₅ b₆ z o n d i h = absurd (hit_not_stopped n d i no_room (sym h))
  hits_pass true true true false b₅ b₆ z o n d i h = absurd (hit_not_stopped n d i wrong_pose (sym h))
  hits_pass true true true true false b₆ z o n d i h = absurd (hit_not_stopped n d i overflow (sym h))
  hits_pass true true true true true false z o n d i h = absurd (hit_not_stopped n d i out_of_bounds (sym h))
  hits_pass true true true true true true z o n d i h = record { cast_is = refl; listing_is = refl }

-- ---- past them: the walk's list
module _ (r : Ray) (m : Mesh) (pose : List Float) (t : Tree) (list stack : ℕ) (area : HitArea) where
  abbrev pub answers : ℕ → Answer
  answers = triangle_answer r pose m.triangles

  abbrev walked : Walking
  walked = walk_of t (thirds (length m.triangles)) (segment_box r)

  pub record OneList : Type 0 where
    pub stack' : List ℕ
    pub list' : List ℕ
    pub walk_is : walked ≡ walking stack' list'
    pub rises : Rising list'
    pub cast_is : ray_mesh r m pose t list stack ≡ nearest_of answers list'
    pub listing_is : ray_mesh_all r m pose t list stack area ≡ listing_of answers area list'

  abbrev Tested : Type 0
  Tested = Passed area (ray_admitted r) (shape_admitted m pose t) (room_for m t list stack) (eqb (length pose) (length m.vertices))
      (finite_vec (segment_end r)) (valid_box (segment_box r))
      (castOverWalk r pose m.triangles walked) (over_walk answers area walked)

  one_list : Tested → ((walked ≡ broken) → ⊥) → OneList
  unfolding ray_mesh mesh_cast ray_mesh_all mesh_listing walk_of
  one_list p whole = go walked refl
    where
      go : (w : Walking) → walked ≡ w → OneList
      go broken e = absurd (whole e)
      go (walking s l) e = record {
        stack' = s;
        list' = l;
        walk_is = e;
        rises = ended_rises t (thirds (length m.triangles)) (segment_box r) _ s l e;
        cast_is = p.cast_is ∙ ap (castOverWalk r pose m.triangles) e ∙ unfold castOverWalk in refl;
        listing_is = p.listing_is ∙ ap (over_walk answers area) e ∙ unfold over_walk in refl;
      }

  pub list_of_count : (k : ℕ) → (ray_mesh_all r m pose t list stack area).answer ≡ count_of k → OneList
  unfolding ray_mesh mesh_cast ray_mesh_all mesh_listing
  list_of_count k h =
      one_list p
      (λ e. refused_not_count k out_of_bounds (unfold over_walk in ap (λ (w : Walking). (over_walk answers area w).answer) (sym e)
      ∙ ap (λ (o : Outcome). o.answer) (sym p.listing_is) ∙ h))
    where
      p : Tested
      p =
          counts_pass area (ray_admitted r) (shape_admitted m pose t) (room_for m t list stack) (eqb (length pose) (length m.vertices))
          (finite_vec (segment_end r)) (valid_box (segment_box r))
          (castOverWalk r pose m.triangles walked) (over_walk answers area walked) k h

  pub list_of_hit : (n : Vec3) (d : Float) (i : ℕ) → ray_mesh r m pose t list stack ≡ hit_at n d i → OneList
  unfolding ray_mesh mesh_cast ray_mesh_all mesh_listing
  list_of_hit n d i h =
      one_list p
      (λ e. hit_not_stopped n d i out_of_bounds (sym h ∙ p.cast_is ∙ unfold castOverWalk in ap (castOverWalk r pose m.triangles) e))
    where
      p : Tested
      p =
          hits_pass area (ray_admitted r) (shape_admitted m pose t) (room_for m t list stack) (eqb (length pose) (length m.vertices))
          (finite_vec (segment_end r)) (valid_box (segment_box r))
          (castOverWalk r pose m.triangles walked) (over_walk answers area walked) n d i h
