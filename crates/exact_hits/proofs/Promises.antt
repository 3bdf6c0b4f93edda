-- What a user finds in a listing of exact hits: true hits in order through any tree, and through one that passes the check each triangle
-- that is met, once. Assumes nothing.
use Prim.Native.Nat.{ℕ, ◌+◌, ◌*◌, ◌<◌}
use mathlib.Core.Path.{◌≡◌, refl, sym, ap, subst, ◌∙◌}
use mathlib.Core.Bool.{Bool, true, false, ◌&&◌, cond}
use mathlib.Core.List.{List, Memᴰ}
use native.Mathlib.Omega.{arith}
use borrow.Author.Tests.{eq-eqb}
use lib.Dec.{leb, eqb}
use lib.IntN.{ℤ}
use lib.Ieee.{Float}
use lib.ListN.{length, take}
use Rattle.lists.specs.Lists.{range, count}
use Rattle.lists.proofs.JoinedTests.{and_first, and_second, and_both}
use Rattle.lists.proofs.CountLaws.{count_range_inside, member_of_count}
use Rattle.lists.proofs.SortLaws.{ascending_rises, range_ascends}
use Rattle.vectors.specs.declared.vec3.Vec3.{Vec3}
use Rattle.geometry.specs.Segment.{ray_admitted}
use Rattle.geometry.specs.declared.ray.Ray.{Ray}
use Rattle.casts.specs.Answer.{Answer, hit, none, refused, invalid_input, bad_shape, no_room, wrong_pose, out_of_bounds, out_of_range}
use Rattle.nearest_hit.specs.Nearest.{Indexed, hit_at, no_hit, stopped, nearest_of}
use Rattle.nearest_hit.proofs.IndexedCases.{same_number, stopped_not_none, hit_not_stopped}
use Rattle.nearest_hit.proofs.NearestRefusals.{refusal_stops}
use Rattle.tree.specs.Layout.{Tree, word_at, number_at, vector_at}
use Rattle.tree.specs.Mesh.{Mesh, mesh, thirds, triangle_count}
use Rattle.tree_walk.specs.Walk.{Walking, walking, broken}
use Rattle.tree_query.specs.Query.{tree_fits, count as count_of, refused as refused_with}
use Rattle.tree_check.proofs.Answers.{yes_passes}
use Rattle.mesh.specs.MeshCast.{shape_admitted, room_for}
use Rattle.mesh_plain.proofs.Agreement.{yes_lengths}
use Rattle.mesh_hits.specs.HitArea.{HitArea, Outcome, is_hit, places_in}
use Rattle.mesh_hits.specs.HitListing.{listing_of}
use Rattle.mesh_hits.specs.Listing.{over_walk, unchanged}
use Rattle.mesh_hits.specs.Promise.{Ascends, FitsCast, CountsHits, first_of}
use Rattle.mesh_hits.proofs.CountedHits.{refused_not_count, listing_stops, listing_empty, places, Counted, counted, listed_of_hit}
use Rattle.mesh_hits.proofs.CountedHits.{first_are, index_at, place_at, hit_at_lem}
use Rattle.mesh_hits.proofs.CastAmong.{hit_is, of_list, fits_cast, counts_hits}
use Rattle.mesh_hits.proofs.InDepth.{in_order, first_is_the_cast}
use Rattle.lists.proofs.CountLaws.{count_of_member}
use Rattle.exact_triangle.specs.Grid.{grid_admitted, grid_line}
use Rattle.mesh_exact.specs.GridCast.{exact_answer}
use Rattle.mesh_exact.specs.Certain.{Met, TrueHit}
use Rattle.mesh_exact.proofs.OneTriangle.{none_unmet}
use Rattle.mesh_exact.proofs.TrueHits.{true_hit}
use Rattle.tree_exact.specs.ExactMesh.{room_for as roomForStack, ray_mesh_exact}
use Rattle.tree_exact.proofs.Answers.{hits_are_numbers}
use Rattle.tree_exact.proofs.Agreement.{casts_agree, shape_admitted_lem}
use Rattle.exact_hits.specs.LineWalk.{line_walk}
use Rattle.exact_hits.specs.ExactListing.{met_triangles, exact_listing, ray_mesh_exact_all}
use Rattle.exact_hits.specs.Promise.{Sound, TrueRows, ListsMet, KeepsPromises}
use Rattle.exact_hits.proofs.BelowCount.{walk_below}
use Rattle.exact_hits.proofs.WholeListing.{lists_all}

-- ---- any tree: a listing that counts has passed the tests, and is that of the walk's list
module _ (r : Ray) (m : Mesh) (pose : List Float) (t : Tree) (list stack : ℕ) (area : HitArea) where
  abbrev answer : ℕ → Answer
  answer = exact_answer r pose m.triangles

  abbrev n : ℕ
  n = thirds (length m.triangles)

  abbrev whole : Outcome
  whole = ray_mesh_exact_all r m pose t list stack area

  record Walked (k : ℕ) : Type 0 where
    admitted : ray_admitted r ≡ true
    read : grid_admitted r ≡ true
    those : List ℕ
    below : (x : ℕ) → 0 < count x those → x < n
    is : whole ≡ listing_of answer area those
    counts : Counted answer area those k

  over_walk_lem : (k : ℕ) → ray_admitted r ≡ true → grid_admitted r ≡ true → whole ≡ exact_listing r m.triangles pose t area
      → whole.answer ≡ count_of k → Walked k
  unfolding exact_listing line_walk
  over_walk_lem k v g e h = go (line_walk (grid_line r) t n) refl
    where
      go : (w : Walking) → line_walk (grid_line r) t n ≡ w → Walked k
      go broken f =
          absurd (refused_not_count k out_of_bounds
          (unfold over_walk in ap (λ (z : Walking). (over_walk answer area z).answer) (sym f) ∙ sym (ap (λ (o : Outcome). o.answer) e) ∙ h))
      go (walking s l) f =
          let is : whole ≡ listing_of answer area l = e ∙ ap (over_walk answer area) f ∙ unfold over_walk in refl in
          record {
            admitted = v;
            read = g;
            those = l;
            below = walk_below t n _ _ s l f;
            is = is;
            counts = counted answer area l k (sym (ap (λ (o : Outcome). o.answer) is) ∙ h);
          }

  walked : (k : ℕ) → whole.answer ≡ count_of k → Walked k
  unfolding ray_mesh_exact_all
  walked k h =
      go (ray_admitted r) refl (grid_admitted r) refl (shape_admitted m pose t) (room_for m t list stack)
      (eqb (length pose) (length m.vertices)) refl
    where
      not_refused : (number : ℕ) → whole ≡ unchanged number area → ⊥
      not_refused number is = refused_not_count k number (sym (ap (λ (o : Outcome). o.answer) is) ∙ h)

      go : (a : Bool) → ray_admitted r ≡ a → (b : Bool) → grid_admitted r ≡ b → (c d e : Bool)
          → whole ≡ cond a (cond b (cond c (cond d (cond e (exact_listing r m.triangles pose t area) (unchanged wrong_pose area))
          (unchanged no_room area)) (unchanged bad_shape area)) (unchanged out_of_range area)) (unchanged invalid_input area)
          → Walked k
      go false f b g c d e is = absurd (not_refused invalid_input is)
      go true f false g c d e is = absurd (not_refused out_of_range is)
      go true f true g false d e is = absurd (not_refused bad_shape is)
      go true f true g true false e is = absurd (not_refused no_room is)
      go true f true g true true false is = absurd (not_refused wrong_pose is)
      go true f true g true true true is = over_walk_lem k f g is h

  module _ (k : ℕ) (h : whole.answer ≡ count_of k) where
    w : Walked k
    w = walked k h

    rows_in_order : Ascends k whole.area
    unfolding w
    rows_in_order = rw w.is (in_order answer area w.those k w.counts)

    rows_true : TrueRows r (mesh pose m.triangles) k whole.area
    unfolding w
    rows_true = rw w.is (record { row = row })
      where
        row : (j : ℕ) → j < k
            → TrueHit r (mesh pose m.triangles) (vector_at (listing_of answer area w.those).area.numbers (4 * j + 1))
            (number_at (listing_of answer area w.those).area.numbers (4 * j))
            (word_at (listing_of answer area w.those).area.indices j)
        row j g =
            let x = word_at (places answer area w.those k) j in
            let i = hit_at_lem answer area w.those k w.counts j g in
            let s = place_at answer area w.those k w.counts j g i.normal i.distance i.is in
            let inside = w.below x (count_of_member x w.those (of_list answer area w.those k w.counts j g)) in
            rw (index_at answer area w.those k w.counts j g, s.distance_is, s.normal_is)
            (true_hit r (mesh pose m.triangles) x i.normal i.distance i.is w.admitted w.read inside)

-- ---- through a tree that passes the check
module _ (r : Ray) (m : Mesh) (t : Tree) (list stack : ℕ) (area : HitArea) (sound : Sound m m.vertices t list stack) where
  abbrev answers : ℕ → Answer
  answers = exact_answer r m.vertices m.triangles

  abbrev all : List ℕ
  all = range 0 (triangle_count m)

  abbrev listing : Outcome
  listing = ray_mesh_exact_all r m m.vertices t list stack area

  abbrev cast : Indexed
  cast = ray_mesh_exact r m m.vertices t stack

  -- the ray refuses, or one list serves the cast and the listing
  record Refused (number : ℕ) : Type 0 where
    cast_is : cast ≡ stopped number
    listing_is : listing ≡ unchanged number area

  record OneList : Type 0 where
    admitted : ray_admitted r ≡ true
    read : grid_admitted r ≡ true
    cast_is : cast ≡ nearest_of answers all
    listing_is : listing ≡ listing_of answers area all

  data Either : Type 0 where
    refuses : (number : ℕ) → Refused number → Either
    goes : OneList → Either

  room_stack : roomForStack m t stack ≡ true
  unfolding roomForStack room_for
  room_stack =
      let fits = tree_fits (thirds (length m.triangles)) t in
      let long = leb (thirds (length m.triangles)) list in
      let high = leb (t.node_count + 1) stack in
      and_both fits high (and_first fits (long && high) sound.areas)
      (and_second long high (and_second fits (long && high) sound.areas))

  either : Either
  unfolding ray_mesh_exact_all ray_mesh_exact
  either = go (ray_admitted r) refl (grid_admitted r) refl
    where
      go : (a : Bool) → ray_admitted r ≡ a → (b : Bool) → grid_admitted r ≡ b → Either
      go false f b g = refuses invalid_input record { cast_is = simp f; listing_is = simp f }
      go true f false g = refuses out_of_range record { cast_is = simp (f, g); listing_is = simp (f, g) }
      go true f true g =
          let p = sound.tree in
          let passes = yes_passes m t p.marks p.says_yes in
          let shape = shape_admitted_lem r m t passes (yes_lengths m t p.marks p.says_yes) in
          let own = eq-eqb (length m.vertices) (length m.vertices) refl in
          goes record {
            admitted = f;
            read = g;
            cast_is = simp (f, g, shape, room_stack, own) (casts_agree r m t passes f g sound.numbers);
            listing_is = simp (f, g, shape, sound.areas, own) (lists_all r m t f g sound.numbers area passes);
          }

  module _ (k : ℕ) (h : listing.answer ≡ count_of k) where
    one : OneList
    one = go either
      where
        go : Either → OneList
        go (refuses number f) = absurd (refused_not_count k number (sym (ap (λ (o : Outcome). o.answer) f.listing_is) ∙ h))
        go (goes o) = o

    counts : Counted answers area all k
    unfolding one
    counts = counted answers area all k (sym (ap (λ (o : Outcome). o.answer) one.listing_is) ∙ h)

    cast_fits : FitsCast cast k listing.area
    unfolding one counts
    cast_fits = rw (one.cast_is, one.listing_is) (fits_cast answers area all k counts)

    first_row : 0 < k → cast ≡ first_of listing.area
    unfolding one counts
    first_row some =
        rw (one.cast_is, one.listing_is)
        (first_is_the_cast answers area all k counts (ascending_rises all (range_ascends 0 (triangle_count m)))
        (hits_are_numbers r m.vertices m.triangles one.admitted one.read) some)

    -- a triangle that is met is hit
    met_hit : (i D : ℕ) (d : ℤ) → Met (grid_line r) m i D d → is_hit (answers i) ≡ true
    unfolding one counts
    met_hit i D d q = go (answers i) refl
      where
        member : Memᴰ i all
        member =
            member_of_count i all (omega (
              arith,
              count_range_inside i 0 (triangle_count m) (omega arith) (omega (arith, q.triangle)),
            ))

        go : (a : Answer) → answers i ≡ a → is_hit (answers i) ≡ true
        go (hit normal distance) e = hit_is (answers i) normal distance e
        go none e = absurd (none_unmet r m one.admitted one.read i e D d q)
        go (refused number) e = let s = refusal_stops answers no_hit all i number member e in absurd (counts.goes s.0 s.1)

    met_once : ListsMet r m k listing.area
    unfolding one counts
    met_once = rw one.listing_is (record { once = once })
      where
        once : (i D : ℕ) (d : ℤ) → Met (grid_line r) m i D d → count i (take k (listing_of answers area all).area.indices) ≡ 1
        once i D d q =
            ap (count i) (first_are answers area all k counts)
            ∙ listed_of_hit answers area all k i (met_hit i D d q)
            ∙ count_range_inside i 0 (triangle_count m) (omega arith) (omega (arith, q.triangle))

  empty : cast ≡ no_hit → listing.answer ≡ count_of 0
  empty h = go either
    where
      go : Either → listing.answer ≡ count_of 0
      go (refuses number f) = absurd (stopped_not_none number (sym f.cast_is ∙ h))
      go (goes o) = ap (λ (z : Outcome). z.answer) o.listing_is ∙ listing_empty answers area all (sym o.cast_is ∙ h)

  refuses_too : (number : ℕ) → cast ≡ stopped number → listing.answer ≡ refused_with number
  refuses_too number h = go either
    where
      go : Either → listing.answer ≡ refused_with number
      go (refuses k f) =
          ap (λ (z : Outcome). z.answer) f.listing_is ∙ ap refused_with (same_number k number (sym f.cast_is ∙ h))
      go (goes o) = ap (λ (z : Outcome). z.answer) o.listing_is ∙ listing_stops answers area number all (sym o.cast_is ∙ h)

  counts_met : (normal : Vec3) (distance : Float) (i : ℕ) → cast ≡ hit_at normal distance i
      → CountsHits (length (met_triangles r m)) (places_in area) listing.answer
  counts_met normal distance i h = go either
    where
      go : Either → CountsHits (length (met_triangles r m)) (places_in area) listing.answer
      go (refuses number f) = absurd (hit_not_stopped normal distance i number (sym h ∙ f.cast_is))
      go (goes o) = rw o.listing_is (counts_hits answers area all normal distance i (sym o.cast_is ∙ h))

-- ---- the promises
module _ (r : Ray) (m : Mesh) (t : Tree) (list stack : ℕ) (area : HitArea) where
  -- at the mesh's own vertices
  module _ (pose : List Float) where
    abbrev outcome : Outcome
    outcome = ray_mesh_exact_all r m pose t list stack area

    -- what holds of the mesh's own vertices holds of such a pose
    moved : (P : List Float → Type 0) → Sound m pose t list stack → (Sound m m.vertices t list stack → P m.vertices) → P pose
    moved P s f =
        subst P (sym s.own) (f (record { own = refl; tree = s.tree; numbers = s.numbers; areas = s.areas }))

    own_count : (k : ℕ) → Sound m pose t list stack → outcome.answer ≡ count_of k
        → (ray_mesh_exact_all r m m.vertices t list stack area).answer ≡ count_of k
    own_count k s h = ap (λ (vs : List Float). (ray_mesh_exact_all r m vs t list stack area).answer) (sym s.own) ∙ h

    own_cast_lem : (z : Indexed) → Sound m pose t list stack → ray_mesh_exact r m pose t stack ≡ z → ray_mesh_exact r m m.vertices t stack
        ≡ z
    own_cast_lem z s h = ap (λ (vs : List Float). ray_mesh_exact r m vs t stack) (sym s.own) ∙ h

    pub promised : KeepsPromises r m pose t list stack (places_in area) outcome
    promised = record {
      true_rows = rows_true r m pose t list stack area;
      in_order = rows_in_order r m pose t list stack area;
      each_met_once = λ k h s.
          moved (λ (vs : List Float). ListsMet r m k (ray_mesh_exact_all r m vs t list stack area).area) s
          (λ s'. met_once r m t list stack area s' k (own_count k s h));
      fits_cast = λ k h s.
          moved (λ (vs : List Float). FitsCast (ray_mesh_exact r m vs t stack) k (ray_mesh_exact_all r m vs t list stack area).area) s
          (λ s'. cast_fits r m t list stack area s' k (own_count k s h));
      empty_if = λ s h.
          moved (λ (vs : List Float). (ray_mesh_exact_all r m vs t list stack area).answer ≡ count_of 0) s
          (λ s'. empty r m t list stack area s' (own_cast_lem no_hit s h));
      first = λ k h s some.
          moved (λ (vs : List Float). ray_mesh_exact r m vs t stack ≡ first_of (ray_mesh_exact_all r m vs t list stack area).area) s
          (λ s'. first_row r m t list stack area s' k (own_count k s h) some);
      refuses = λ number s h.
          moved (λ (vs : List Float). (ray_mesh_exact_all r m vs t list stack area).answer ≡ refused_with number) s
          (λ s'. refuses_too r m t list stack area s' number (own_cast_lem (stopped number) s h));
      counts = λ normal distance i s h.
          moved (λ (vs : List Float). CountsHits (length (met_triangles r m)) (places_in area)
          (ray_mesh_exact_all r m vs t list stack area).answer) s
          (λ s'. counts_met r m t list stack area s' normal distance i (own_cast_lem (hit_at normal distance i) s h));
    }

-- the contract's three clauses: the equation, what is kept, and the promises
pub with_promises : (r : Ray) (m : Mesh) (pose : List Float) (t : Tree) (list stack : ℕ) (area : HitArea) (o : Outcome) (Kept : Type 0)
    → o ≡ ray_mesh_exact_all r m pose t list stack area → Kept
    → (o ≡ ray_mesh_exact_all r m pose t list stack area) × (Kept × KeepsPromises r m pose t list stack (places_in area) o)
with_promises r m pose t list stack area o Kept e k =
    (e, (k, subst (KeepsPromises r m pose t list stack (places_in area)) (sym e) (promised r m t list stack area pose)))
