-- What a user finds in a listing: each hit once for a checked tree, and how it fits the mesh cast for any. Assumes nothing.
use Prim.Native.Nat.{ℕ, ◌+◌, ◌*◌, ◌<◌}
use mathlib.Core.Path.{◌≡◌, refl, sym, ap, subst, ◌∙◌}
use mathlib.Core.Bool.{Bool, true, false}
use mathlib.Core.List.{List}
use native.Mathlib.Omega.{arith}
use borrow.Author.Tests.{eq-eqb}
use lib.Dec.{eqb}
use lib.Ieee.{Float}
use lib.ListN.{length}
use Rattle.vectors.specs.Vector.{finite_vec}
use Rattle.geometry.specs.Box.{valid_box}
use Rattle.geometry.specs.Segment.{ray_admitted, segment_end, segment_box}
use Rattle.vectors.specs.declared.vec3.Vec3.{Vec3}
use Rattle.geometry.specs.declared.ray.Ray.{Ray}
use Rattle.geometry.proofs.BoxLaws.{segment_box_valid}
use Rattle.casts.specs.Answer.{Answer, invalid_input, bad_shape, no_room, wrong_pose, out_of_bounds, overflow}
use Rattle.nearest_hit.specs.Nearest.{Indexed, hit_at, no_hit, stopped, nearest_of}
use Rattle.nearest_hit.proofs.IndexedCases.{same_number, stopped_not_none}
use Rattle.lists.specs.Lists.{count}
use Rattle.tree.specs.Layout.{Tree, word_at, number_at, vector_at}
use Rattle.tree.specs.Mesh.{Mesh, thirds, triangle_answer, candidates}
use Rattle.lists.proofs.CountLaws.{member_of_count, count_range_inside, keep_alike}
use Rattle.tree.proofs.Corners.{answers_are_numbers}
use Rattle.tree_walk.specs.Walk.{Walking, walking, broken, walk_of}
use Rattle.tree_query.specs.Query.{Listing, count as count_of, refused as refused_with}
use Rattle.mesh.specs.MeshCast.{shape_admitted, room_for, over_walk as castOverWalk, mesh_cast, ray_mesh}
use Rattle.mesh.specs.Demand3.{Admitted, Candidate, IsHit, answer_of}
use Rattle.mesh.proofs.Demand3.{candidates_count, listed_candidate, passes, shape_admitted_lem, answers_same}
use Rattle.mesh.proofs.WalkLists.{walk_lists_candidates}
use Rattle.mesh_hits.specs.HitArea.{HitArea, Outcome, is_hit, hits_of, places_in}
use Rattle.mesh_hits.specs.HitListing.{listing_of}
use Rattle.mesh_hits.specs.Listing.{over_walk, mesh_listing, ray_mesh_all}
use Rattle.mesh_hits.specs.Promise.{ListsHits, FitsCast, Ascends, first_of, KeepsPromises, Promised}
use Rattle.mesh_hits.specs.Promise.{hits_of_walk, hit_count, hit_triangles, CountsHits}
use Rattle.mesh_hits.proofs.PlaceLaws.{at_counted}
use Rattle.mesh_hits.proofs.CountedHits.{listing_stops, listing_empty, places, Counted, counted}
use Rattle.mesh_hits.proofs.CountedHits.{listed_of_hit, all_hit, first_are, index_at, place_at, hit_at_lem}
use Rattle.mesh_hits.proofs.CastAmong.{hit_is, fits_cast, counts_hits}
use Rattle.mesh_hits.proofs.InDepth.{in_order, first_is_the_cast}
use Rattle.mesh_hits.proofs.OneList.{cast, listing, OneList, list_of_count, list_of_hit}

-- ---- a checked tree
module _ (r : Ray) (m : Mesh) (t : Tree) (list stack : ℕ) (area : HitArea) (k : ℕ) (a : Admitted r m t list stack) where
  abbrev answer : ℕ → Answer
  answer = triangle_answer r m.vertices m.triangles

  abbrev those : List ℕ
  those = candidates m (segment_box r)

  pub listing_is : ray_mesh_all r m m.vertices t list stack area ≡ listing_of answer area those
  unfolding ray_mesh_all mesh_listing over_walk
  listing_is =
      simp (
        a.ray,
        shape_admitted_lem r m t list stack a,
        a.areas,
        eq-eqb (length m.vertices)
            (length m.vertices) refl,
        a.end,
        segment_box_valid r a.ray a.end,
        walk_lists_candidates m t (segment_box r)
            (passes r m t list stack a),
      )

  candidate_once : (i : ℕ) → Candidate r m i → count i those ≡ 1
  candidate_once i c = candidates_count r m i true c.near
      ∙ count_range_inside i 0 (thirds (length m.triangles)) (omega arith) (omega (arith, c.triangle))

  module _ (c : Counted answer area those k) where
    is_hit_is : (i : ℕ) (normal : Vec3) (distance : Float) → IsHit r m i normal distance → is_hit (answer i) ≡ true
    is_hit_is i normal distance h = hit_is (answer i) normal distance (answers_same r m t list stack a i h.candidate ∙ h.answers)

    hits_listed : ListsHits r m k (listing_of answer area those).area
    hits_listed = record {
      once =
          λ (i : ℕ) (normal : Vec3) (distance : Float) (h : IsHit r m i normal distance).
          ap (count i) (first_are answer area those k c) ∙ listed_of_hit answer area those k i (is_hit_is i normal distance h)
          ∙ candidate_once i h.candidate;
      only = only;
    }
      where
        only : (j : ℕ) → j < k
            → IsHit r m (word_at (listing_of answer area those).area.indices j)
            (vector_at (listing_of answer area those).area.numbers (4 * j + 1))
            (number_at (listing_of answer area those).area.numbers (4 * j))
        only j h =
            let x = word_at (places answer area those k) j in
            let i = hit_at_lem answer area those k c j h in
            let s = place_at answer area those k c j h i.normal i.distance i.is in
            let here = at_counted (places answer area those k) j (omega (arith, c.long)) in
            let member : 0 < count x those = omega
            (arith, here, listed_of_hit answer area those k x (all_hit answer area those k x here)) in
            let candidate = listed_candidate r m x (member_of_count x those member) in
            rw (index_at answer area those k c j h, s.distance_is, s.normal_is)
            record { candidate = candidate; answers = sym (answers_same r m t list stack a x candidate) ∙ i.is }

  each_hit_once : (ray_mesh_all r m m.vertices t list stack area).answer ≡ count_of k
      → ListsHits r m k (ray_mesh_all r m m.vertices t list stack area).area
  each_hit_once h =
      let e = listing_is in
      rw e (hits_listed (counted answer area those k (sym (ap (λ (o : Outcome). o.answer) e) ∙ h)))

  hits_of_mesh : hit_count r m m.vertices t ≡ length (hit_triangles r m)
  unfolding hits_of_walk
  hits_of_mesh =
      ap (hits_of_walk answer) (walk_lists_candidates m t (segment_box r) (passes r m t list stack a))
      ∙ ap length (keep_alike (λ (i : ℕ). is_hit (answer i)) (λ (i : ℕ). is_hit (answer_of r m i)) those
      (λ (i : ℕ) (h : 0 < count i those).
      ap is_hit (answers_same r m t list stack a i (listed_candidate r m i (member_of_count i those h)))))

-- ---- any tree
module _ (area : HitArea) where
  -- where the cast is w the listing's answer is v, if it is so at every refusal and past the tests
  module _ (w : Indexed) (v : Listing) (stops : (number : ℕ) → stopped number ≡ w → refused_with number ≡ v) where
    answers_alike : (b₁ b₂ b₃ b₄ b₅ b₆ : Bool) (z : Indexed) (o : Outcome) → (z ≡ w → o.answer ≡ v)
        → cast b₁ b₂ b₃ b₄ b₅ b₆ z ≡ w → (listing area b₁ b₂ b₃ b₄ b₅ b₆ o).answer ≡ v
    answers_alike false b₂ b₃ b₄ b₅ b₆ z o h e = stops invalid_input e
    answers_alike true false b₃ b₄ b₅ b₆ z o h e = stops bad_shape e
    answers_alike true true false b₄ b₅ b₆ z o h e = stops no_room e
    answers_alike true true true false b₅ b₆ z o h e = stops wrong_pose e
    answers_alike true true true true false b₆ z o h e = stops overflow e
    answers_alike true true true true true false z o h e = stops out_of_bounds e
    answers_alike true true true true true true z o h e = h e

    -- the same of the mesh cast and its listing, from the walk's list
    module _ (r : Ray) (m : Mesh) (pose : List Float) (t : Tree) (list stack : ℕ)
        (walked : (l : List ℕ) → nearest_of (triangle_answer r pose m.triangles) l ≡ w
        → (listing_of (triangle_answer r pose m.triangles) area l).answer ≡ v) where
      over_walk_lem : (x : Walking) → castOverWalk r pose m.triangles x ≡ w
          → (over_walk (triangle_answer r pose m.triangles) area x).answer ≡ v
      unfolding castOverWalk over_walk
      over_walk_lem broken e = stops out_of_bounds e
      over_walk_lem (walking s l) e = walked l e

      answers_as_the_cast : ray_mesh r m pose t list stack ≡ w → (ray_mesh_all r m pose t list stack area).answer ≡ v
      unfolding ray_mesh mesh_cast ray_mesh_all mesh_listing
      answers_as_the_cast =
          answers_alike (ray_admitted r) (shape_admitted m pose t) (room_for m t list stack) (eqb (length pose) (length m.vertices))
          (finite_vec (segment_end r)) (valid_box (segment_box r))
          (castOverWalk r pose m.triangles (walk_of t (thirds (length m.triangles)) (segment_box r)))
          (over_walk (triangle_answer r pose m.triangles) area (walk_of t (thirds (length m.triangles)) (segment_box r)))
          (over_walk_lem (walk_of t (thirds (length m.triangles)) (segment_box r)))

refuses_as_the_cast : (r : Ray) (m : Mesh) (pose : List Float) (t : Tree) (list stack : ℕ) (area : HitArea) (number : ℕ)
    → ray_mesh r m pose t list stack ≡ stopped number → (ray_mesh_all r m pose t list stack area).answer ≡ refused_with number
refuses_as_the_cast r m pose t list stack area number =
    answers_as_the_cast area (stopped number) (refused_with number) (λ (k : ℕ) e. ap refused_with (same_number k number e)) r m pose t list
    stack (listing_stops (triangle_answer r pose m.triangles) area number)

empty_as_the_cast : (r : Ray) (m : Mesh) (pose : List Float) (t : Tree) (list stack : ℕ) (area : HitArea)
    → ray_mesh r m pose t list stack ≡ no_hit → (ray_mesh_all r m pose t list stack area).answer ≡ count_of 0
empty_as_the_cast r m pose t list stack area =
    answers_as_the_cast area no_hit (count_of 0) (λ (k : ℕ) e. absurd (stopped_not_none k e)) r m pose t list stack
    (listing_empty (triangle_answer r pose m.triangles) area)

module _ (r : Ray) (m : Mesh) (pose : List Float) (t : Tree) (list stack : ℕ) (area : HitArea) where
  abbrev answers : ℕ → Answer
  answers = triangle_answer r pose m.triangles

  lists_as_the_cast : (k : ℕ) → (ray_mesh_all r m pose t list stack area).answer ≡ count_of k
      → FitsCast (ray_mesh r m pose t list stack) k (ray_mesh_all r m pose t list stack area).area
  lists_as_the_cast k h =
      let o = list_of_count r m pose t list stack area k h in
      let e = o.listing_is in
      let c = counted answers area o.list' k (sym (ap (λ (z : Outcome). z.answer) e) ∙ h) in
      rw (o.cast_is, e) (fits_cast answers area o.list' k c)

  rows_in_order : (k : ℕ) → (ray_mesh_all r m pose t list stack area).answer ≡ count_of k
      → Ascends k (ray_mesh_all r m pose t list stack area).area
  rows_in_order k h =
      let o = list_of_count r m pose t list stack area k h in
      let e = o.listing_is in
      rw e (in_order answers area o.list' k (counted answers area o.list' k (sym (ap (λ (z : Outcome). z.answer) e) ∙ h)))

  first_of_rows : (k : ℕ) → (ray_mesh_all r m pose t list stack area).answer ≡ count_of k → 0 < k
      → ray_mesh r m pose t list stack ≡ first_of (ray_mesh_all r m pose t list stack area).area
  first_of_rows k h some =
      let o = list_of_count r m pose t list stack area k h in
      let e = o.listing_is in
      let c = counted answers area o.list' k (sym (ap (λ (z : Outcome). z.answer) e) ∙ h) in
      rw (o.cast_is, e)
      (first_is_the_cast answers area o.list' k c o.rises (answers_are_numbers r pose m.triangles) some)

  -- the walk's list has as many hits as the definition counts
  hits_of_list : (o : OneList r m pose t list stack area) → length (hits_of answers o.list') ≡ hit_count r m pose t
  unfolding hits_of_walk
  hits_of_list o = sym (ap (hits_of_walk answers) o.walk_is)

  hits_counted : (normal : Vec3) (distance : Float) (i : ℕ) → ray_mesh r m pose t list stack ≡ hit_at normal distance i
      → CountsHits (hit_count r m pose t) (places_in area) (ray_mesh_all r m pose t list stack area).answer
  hits_counted normal distance i h =
      let o = list_of_hit r m pose t list stack area normal distance i h in
      rw (sym (hits_of_list o), o.listing_is)
      (counts_hits answers area o.list' normal distance i (sym o.cast_is ∙ h))

pub promised : Promised
promised r m pose t list stack area = record {
  each_hit_once =
      λ (k : ℕ) (h : (ray_mesh_all r m pose t list stack area).answer ≡ count_of k) (own : pose ≡ m.vertices)
      (a : Admitted r m t list stack).
      subst (λ (vs : List Float). ListsHits r m k (ray_mesh_all r m vs t list stack area).area) (sym own)
      (each_hit_once r m t list stack area k a (ap (λ (vs : List Float). (ray_mesh_all r m vs t list stack area).answer) (sym own) ∙ h));
  all_counted =
      λ (own : pose ≡ m.vertices) (a : Admitted r m t list stack).
      ap (λ (vs : List Float). hit_count r m vs t) own ∙ hits_of_mesh r m t list stack area 0 a;
  fits_cast = lists_as_the_cast r m pose t list stack area;
  in_order = rows_in_order r m pose t list stack area;
  first = first_of_rows r m pose t list stack area;
  empty_if = empty_as_the_cast r m pose t list stack area;
  refuses = refuses_as_the_cast r m pose t list stack area;
  counts = hits_counted r m pose t list stack area;
}

-- the contract's three clauses: the equation, what is kept, and the promises
pub with_promises : (r : Ray) (m : Mesh) (pose : List Float) (t : Tree) (list stack : ℕ) (area : HitArea) (o : Outcome) (Kept : Type 0)
    → o ≡ ray_mesh_all r m pose t list stack area → Kept
    → (o ≡ ray_mesh_all r m pose t list stack area) × (Kept × KeepsPromises r m pose t list stack (places_in area) o)
with_promises r m pose t list stack area o Kept e k =
    (e, (k, subst (KeepsPromises r m pose t list stack (places_in area)) (sym e) (promised r m pose t list stack area)))
