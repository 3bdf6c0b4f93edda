-- Every refusal of a listing has a number below the codes of the calls. Assumes nothing.
use Prim.Native.Nat.{ℕ, ◌<◌}
use mathlib.Core.Path.{◌≡◌, refl, sym, ◌∙◌}
use mathlib.Core.Bool.{Bool, true, false, cond}
use mathlib.Core.List.{List}
use native.Mathlib.Omega.{arith}
use lib.Dec.{leb, eqb}
use lib.Ieee.{Float, lt, le, is_nan}
use lib.ListN.{length}
use Rattle.vectors.specs.Numbers.{◌+ᶠ◌, ◌*ᶠ◌, ◌/ᶠ◌, zeroᶠ, oneᶠ}
use Rattle.vectors.specs.Vector.{finite_vec, sub_of, cross_of, dot_of, checked_dot, try_normalize}
use Rattle.geometry.specs.Box.{valid_box}
use Rattle.geometry.specs.Segment.{ray_admitted, segment_end, segment_box}
use Rattle.vectors.specs.declared.vec3.Vec3.{Vec3}
use Rattle.std.specs.Prelude.{Option, Some, None}
use Rattle.geometry.specs.declared.ray.Ray.{Ray}
use Rattle.casts.specs.Answer.{Answer, hit, none, refused, with_value, with_normal, no_normal}
use Rattle.casts.specs.Answer.{invalid_input, bad_shape, no_room, wrong_pose, out_of_bounds, overflow}
use Rattle.nearest_hit.specs.Nearest.{Indexed, hit_at, no_hit, stopped, nearest_of}
use Rattle.casts.specs.Surface.{off_segment, facing}
use Rattle.triangle_cast.specs.Triangle.{flat, triangle_normal, triangle_above, triangle_at, triangle_of}
use Rattle.casts.proofs.AnswerLists.{none_not_refused, hit_not_refused}
use Rattle.nearest_hit.proofs.IndexedCases.{stopped_not_none}
use Rattle.nearest_hit.proofs.NearestRefusals.{stopped_by_first_refusal}
use Rattle.tree.specs.Layout.{Tree}
use Rattle.tree.specs.Mesh.{Mesh, thirds, corners_inside, corner_at, triangle_answer}
use Rattle.tree_walk.specs.Walk.{Walking, walking, broken, walk_of}
use Rattle.tree_query.specs.Query.{refused as refused_with}
use Rattle.mesh.specs.MeshCast.{shape_admitted, room_for}
use Rattle.mesh_hits.specs.HitArea.{HitArea, Outcome, hits_of, in_order, places_of, refused_at}
use Rattle.mesh_hits.specs.HitListing.{written, fitted}
use Rattle.mesh_hits.specs.HitListing.{after_refusals, listing_of}
use Rattle.mesh_hits.specs.Listing.{over_walk, mesh_listing, ray_mesh_all}
use Rattle.mesh_hits.proofs.CountedHits.{refused_not_count, written_counts}
use Rattle.mesh_hits.proofs.OneList.{listing}

-- ---- one triangle
pub record Small (a : Answer) : Type 0 where
  pub below : (number : ℕ) → a ≡ refused number → number < 256

none_small : Small none
none_small = record { below = λ (number : ℕ) (h : none ≡ refused number). absurd (none_not_refused none number refl h) }

hit_small : (n : Vec3) (d : Float) → Small (hit n d)
hit_small n d = record { below = λ (number : ℕ) (h : hit n d ≡ refused number). absurd (hit_not_refused (hit n d) n d number refl h) }

refused_small : (k : ℕ) → k < 256 → Small (refused k)
refused_small k h = record { below = λ (number : ℕ) (e : refused k ≡ refused number). let same : k ≡ number = cc in omega arith }

either_small : (b : Bool) (x y : Answer) → Small x → Small y → Small (cond b x y)
either_small true x y p q = p
either_small false x y p q = q

pub normal_small : (r : Ray) (a b : Vec3) (distance : Float) → Small (triangle_normal r a b distance)
unfolding triangle_normal
normal_small r a b distance = go (try_normalize (cross_of a b))
  where
    go : (n : Option Vec3) → Small (with_normal n no_normal
        (λ (normal : Vec3). hit (facing normal (dot_of r.direction normal)) distance))
    go (Some normal) = hit_small (facing normal (dot_of r.direction normal)) distance
    go None = refused_small no_normal (omega arith)

above_small : (r : Ray) (offset a b : Vec3) (inverse u : Float) → Small (triangle_above r offset a b inverse u)
unfolding triangle_above
above_small r offset a b inverse u =
    let v = dot_of r.direction (cross_of offset a) *ᶠ inverse in
    let t = dot_of b (cross_of offset a) *ᶠ inverse in
    let normal = triangle_normal r a b t in
    let last = cond (is_nan t) (refused overflow) normal in
    let number = either_small (is_nan t) (refused overflow) normal (refused_small overflow (omega arith)) (normal_small r a b t) in
    let kept = either_small (off_segment r t) none last none_small number in
    let within = either_small (lt oneᶠ (u +ᶠ v)) none (cond (off_segment r t) none last) none_small kept in
    either_small (lt v zeroᶠ) none (cond (lt oneᶠ (u +ᶠ v)) none (cond (off_segment r t) none last)) none_small within

at_small : (r : Ray) (offset a b p : Vec3) (determinant : Float) → Small (triangle_at r offset a b p determinant)
unfolding triangle_at
at_small r offset a b p determinant =
    let inverse = oneᶠ /ᶠ determinant in
    let u = dot_of offset p *ᶠ inverse in
    let last = triangle_above r offset a b inverse u in
    either_small (le zeroᶠ u) (cond (le u oneᶠ) last none) none
    (either_small (le u oneᶠ) last none (above_small r offset a b inverse u) none_small) none_small

pub triangle_small : (r : Ray) (v w u : Vec3) → Small (triangle_of r v w u)
unfolding triangle_of
triangle_small r v w u = go (checked_dot (sub_of w v) (cross_of r.direction (sub_of u v)))
  where
    go : (c : Option Float) → Small (with_value c (λ (determinant : Float).
        cond (flat determinant (sub_of w v) (sub_of u v)) none
        (triangle_at r (sub_of r.origin v) (sub_of w v) (sub_of u v) (cross_of r.direction (sub_of u v)) determinant)))
    go (Some d) =
        either_small (flat d (sub_of w v) (sub_of u v)) none
        (triangle_at r (sub_of r.origin v) (sub_of w v) (sub_of u v) (cross_of r.direction (sub_of u v)) d) none_small
        (at_small r (sub_of r.origin v) (sub_of w v) (sub_of u v) (cross_of r.direction (sub_of u v)) d)
    go None = refused_small overflow (omega arith)

pub answer_small : (r : Ray) (pose : List Float) (triangles : List ℕ) (i : ℕ) → Small (triangle_answer r pose triangles i)
unfolding triangle_answer
answer_small r pose triangles i =
    let v = corner_at pose triangles i 0 in
    let w = corner_at pose triangles i 1 in
    let u = corner_at pose triangles i 2 in
    either_small (corners_inside (thirds (length pose)) triangles i) (triangle_of r v w u) (refused out_of_bounds) (triangle_small r v w u)
    (refused_small out_of_bounds (omega arith))

-- ---- many triangles
same_refusal : (k number : ℕ) → refused_with k ≡ refused_with number → k ≡ number
same_refusal k number h = cc

small_refusal : (k number : ℕ) → k < 256 → refused_with k ≡ refused_with number → number < 256
small_refusal k number h e = let same = same_refusal k number e in omega arith

module _ (area : HitArea) (number : ℕ) where
  fitted_small : (answer : ℕ → Answer) (hits : List ℕ) → (fitted answer area hits).answer ≡ refused_with number → number < 256
  unfolding fitted
  fitted_small answer hits = go (leb (length hits) (places_of (length area.indices) (length area.numbers)))
    where
      go : (b : Bool) → (cond b (written answer area hits) (refused_at no_room area)).answer ≡ refused_with number → number < 256
      go true h = absurd (refused_not_count (length hits) number (sym h ∙ written_counts answer area hits))
      go false h = small_refusal no_room number (omega arith) h

  module _ (r : Ray) (pose : List Float) (triangles : List ℕ) where
    abbrev answer : ℕ → Answer
    answer = triangle_answer r pose triangles

    abbrev rest : List ℕ → Outcome
    rest l = fitted answer area (in_order answer (hits_of answer l))

    after_small : (l : List ℕ) (z : Indexed) → nearest_of answer l ≡ z → (after_refusals z area (rest l)).answer ≡ refused_with number
        → number < 256
    unfolding after_refusals
    after_small l (stopped k) e h =
        let f = stopped_by_first_refusal answer no_hit l k (λ (n : ℕ) (s : no_hit ≡ stopped n). stopped_not_none n (sym s)) e in
        small_refusal k number ((answer_small r pose triangles f.index).below k f.refuses) h
    after_small l no_hit e h = fitted_small answer (in_order answer (hits_of answer l)) h
    after_small l (hit_at n d i) e h = fitted_small answer (in_order answer (hits_of answer l)) h

    walk_small : (w : Walking) → (over_walk answer area w).answer ≡ refused_with number → number < 256
    unfolding over_walk listing_of
    walk_small broken h = small_refusal out_of_bounds number (omega arith) h
    walk_small (walking stack l) h = after_small l (nearest_of answer l) refl h

  tests_small : (b₁ b₂ b₃ b₄ b₅ b₆ : Bool) (o : Outcome) → (o.answer ≡ refused_with number → number < 256)
      → (listing area b₁ b₂ b₃ b₄ b₅ b₆ o).answer ≡ refused_with number → number < 256
  tests_small false b₂ b₃ b₄ b₅ b₆ o h e = small_refusal invalid_input number (omega arith) e
  tests_small true false b₃ b₄ b₅ b₆ o h e = small_refusal bad_shape number (omega arith) e
  tests_small true true false b₄ b₅ b₆ o h e = small_refusal no_room number (omega arith) e
  tests_small true true true false b₅ b₆ o h e = small_refusal wrong_pose number (omega arith) e
  tests_small true true true true false b₆ o h e = small_refusal overflow number (omega arith) e
  tests_small true true true true true false o h e = small_refusal out_of_bounds number (omega arith) e
  tests_small true true true true true true o h e = h e

pub refusals_small : (r : Ray) (m : Mesh) (pose : List Float) (t : Tree) (list stack : ℕ) (area : HitArea) (number : ℕ)
    → (ray_mesh_all r m pose t list stack area).answer ≡ refused_with number → number < 256
unfolding ray_mesh_all mesh_listing
refusals_small r m pose t list stack area number =
    tests_small area number (ray_admitted r) (shape_admitted m pose t) (room_for m t list stack) (eqb (length pose) (length m.vertices))
    (finite_vec (segment_end r)) (valid_box (segment_box r))
    (over_walk (triangle_answer r pose m.triangles) area (walk_of t (thirds (length m.triangles)) (segment_box r)))
    (walk_small area number r pose m.triangles (walk_of t (thirds (length m.triangles)) (segment_box r)))
