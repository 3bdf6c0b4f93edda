-- What the answer of the cast at a cabinet says of its parts: the nearest hit, none of them, or the first refusal. Assumes nothing.
use Prim.Native.Nat.{ℕ, ◌<◌}
use mathlib.Core.Path.{◌≡◌, refl, sym, ap, ◌∙◌}
use mathlib.Core.Bool.{Bool, true, false, not, cond, true≢false}
use mathlib.Core.List.{List, Memᴰ}
use native.Mathlib.Omega.{arith}
use borrow.Author.Tests.{leb-true, leb-false, ne_eqb}
use lib.Dec.{leb, eqb}
use lib.Ieee.{Float}
use lib.ListN.{length}
use Rattle.vectors.specs.Vector.{finite_vec, sub_of}
use Rattle.vectors.specs.declared.vec3.Vec3.{Vec3}
use Rattle.geometry.specs.Segment.{ray_admitted, segment_end}
use Rattle.geometry.specs.declared.ray.Ray.{Ray}
use Rattle.casts.specs.Answer as Casts
use Rattle.casts.specs.Answer.{invalid_input, bad_shape, no_room, wrong_pose, overflow, limit_reached}
use Rattle.casts.proofs.AnswerLists.{IsNumber}
use Rattle.nearest_hit.specs.Nearest.{Indexed, hit_at, no_hit, stopped, nearest_of, without_index}
use Rattle.nearest_hit.proofs.IndexedCases.{hit_not_stopped}
use Rattle.nearest_hit.proofs.IndexedHits.{OfIndexedHit, stopped_such, cond_such, without_index_such}
use Rattle.nearest_hit.proofs.NearestRefusals.{refusal_stops, nones_of_none}
use Rattle.nearest_hit.proofs.NearestLaws.{LowestRefusal, LowestNearest, stopped_by_lowest_refusal, hit_of_lowest_nearest}
use Rattle.lists.specs.Lists.{range}
use Rattle.lists.proofs.CountLaws.{count_of_member, range_bounds}
use Rattle.lists.proofs.JoinedTests.{and_first}
use Rattle.lists.proofs.SortLaws.{range_ascends}
use Rattle.tree.specs.Layout.{Tree}
use Rattle.tree.specs.Mesh.{Mesh, lengths_admitted}
use Rattle.mesh.specs.MeshCast.{shape_admitted, room_for, mesh_cast, ray_mesh}
use Rattle.mesh.specs.Demand3.{PassesCheck, Admitted, NearestHit}
use Rattle.mesh.proofs.Demand3.{demand3}
use Rattle.mesh.proofs.HitDistances.{ray_mesh_hit_measured}
use Rattle.cabinet.specs.declared.part.Part.{Part}
use Rattle.cabinet.specs.Found.{Found, Nothing, Hit, Refused}
use Rattle.cabinet.specs.Parts.{Areas, mesh_of, tree_of_part, shape_fits, room_fits}
use Rattle.cabinet.specs.PartCast.{moved_ray}
use Rattle.cabinet.specs.Cabinet.{Answer, hit_in, none_after, refused, refused_after, answer_with, answer_of, beginning, cast_parts}
use Rattle.cabinet.specs.Cabinet.{all_parts, cast_cabinet, with_results}
use Rattle.cabinet.specs.Promises.{nearest_part, alone, Passes, needed, answer_at}
use Rattle.cabinet.specs.PartAnswers.{part_at, alone_at, NearestOfParts, FirstRefuses, AnswersParts}
use Rattle.cabinet.proofs.Promises.{limits_hold}
use Rattle.cabinet.proofs.NearestParts.{by_part, nearest_answered, plain_at, folded, in_range_lem}

-- ---- one part
none_back : (x : Indexed) → without_index x ≡ Casts.none → x ≡ no_hit
unfolding without_index
none_back (hit_at n d i) h = absurd (let z : ◌≡◌ {A = ℕ} 0 1 = cc in omega arith)
none_back no_hit h = refl
none_back (stopped k) h = absurd (let z : ◌≡◌ {A = ℕ} 0 1 = cc in omega arith)

refused_back : (x : Indexed) (number : ℕ) → without_index x ≡ Casts.refused number → x ≡ stopped number
unfolding without_index
refused_back (hit_at n d i) number h = absurd (let z : ◌≡◌ {A = ℕ} 0 1 = cc in omega arith)
refused_back no_hit number h = absurd (let z : ◌≡◌ {A = ℕ} 0 1 = cc in omega arith)
refused_back (stopped k) number h = let same : k ≡ number = cc in ap stopped same

hit_on : (x : Indexed) (n : Vec3) (d : Float) (i : ℕ) → x ≡ hit_at n d i → without_index x ≡ Casts.hit n d
unfolding without_index
hit_on x n d i h = ap without_index h

refused_on : (x : Indexed) (number : ℕ) → x ≡ stopped number → without_index x ≡ Casts.refused number
unfolding without_index
refused_on x number h = ap without_index h

-- a cast that hits has passed its tests
module _ (normal : Vec3) (distance : Float) (triangle : ℕ) where
  abbrev found : Indexed
  found = hit_at normal distance triangle

  test_passes : (b : Bool) (number : ℕ) (z : Indexed) → cond b z (stopped number) ≡ found → (b ≡ true) × (z ≡ found)
  test_passes true number z h = (refl, h)
  test_passes false number z h = absurd (hit_not_stopped normal distance triangle number (sym h))

  hit_admitted : (r : Ray) (m : Mesh) (t : Tree) (list stack : ℕ) → PassesCheck m t → ray_mesh r m m.vertices t list stack ≡ found
      → Admitted r m t list stack
  unfolding ray_mesh mesh_cast shape_admitted
  hit_admitted r m t list stack c h =
      let ray = test_passes (ray_admitted r) invalid_input _ h in
      let shape = test_passes (shape_admitted m m.vertices t) bad_shape _ ray.1 in
      let room = test_passes (room_for m t list stack) no_room _ shape.1 in
      let pose = test_passes (eqb (length m.vertices) (length m.vertices)) wrong_pose _ room.1 in
      let end = test_passes (finite_vec (segment_end r)) overflow _ pose.1 in
      record {
        mesh = and_first (lengths_admitted (length m.vertices) (length m.triangles)) _ shape.0;
        ray = ray.0;
        end = end.0;
        tree = c;
        areas = room.0;
      }

  -- so that demand 3 says which triangle it is
  alone_nearest : (r : Ray) (a : Areas) (list stack : ℕ) (p : Part) → alone r a list stack p ≡ found
      → PassesCheck (mesh_of a p) (tree_of_part a p) → NearestHit (moved_ray r p.origin) (mesh_of a p) triangle normal distance
  unfolding alone
  alone_nearest r a list stack p h c =
      let moved = moved_ray r p.origin in
      let cast = (test_passes (finite_vec (sub_of r.origin p.origin)) overflow _ h).1 in
      (demand3 moved (mesh_of a p) (tree_of_part a p) list stack (hit_admitted moved (mesh_of a p) (tree_of_part a p) list stack c cast)
      ).hit_only_if normal distance triangle cast

-- a hit's distance is a number, so that nothing is asked of the parts
alone_number : (r : Ray) (a : Areas) (list stack : ℕ) (p : Part) → OfIndexedHit IsNumber (alone r a list stack p)
unfolding alone
alone_number r a list stack p =
    let cast = ray_mesh (moved_ray r p.origin) (mesh_of a p) (mesh_of a p).vertices (tree_of_part a p) list stack in
    let measured = ray_mesh_hit_measured (moved_ray r p.origin) (mesh_of a p) (mesh_of a p).vertices (tree_of_part a p) list stack in
    cond_such IsNumber (finite_vec (sub_of r.origin p.origin)) cast (stopped overflow)
    (λ (n : Vec3) (d : Float) (i : ℕ) e. (measured n d i e).number) (stopped_such IsNumber overflow)

-- ---- all parts
module _ (r : Ray) (a : Areas) (list stack : ℕ) (parts : List Part) (few : length parts < 18446744073709551616) where
  abbrev nearest : Found
  nearest = nearest_part (alone r a list stack) Nothing 0 parts

  abbrev plain : ℕ → Casts.Answer
  plain = plain_at (alone r a list stack) parts

  abbrev numbers : List ℕ
  numbers = range 0 (length parts)

  fold_is : (f : Found) → nearest ≡ f → nearest_of plain numbers ≡ by_part f
  fold_is f h = sym (folded (alone r a list stack) parts few) ∙ ap by_part h

  listed_number : (k : ℕ) → Memᴰ k numbers → k < length parts
  listed_number k m = let b = range_bounds k 0 (length parts) (count_of_member k numbers m) in omega (arith, b.1)

  nearest_of_parts : (part triangle : ℕ) (normal : Vec3) (distance : Float) → nearest ≡ Hit part triangle normal distance
      → NearestOfParts r a list stack parts part triangle normal distance
  nearest_of_parts part triangle normal distance h = record {
    listed = inside;
    answers = own;
    as_far =
        λ (k : ℕ) (m : k < length parts) (n : Vec3) (d : Float) (i : ℕ) e.
        lowest.nearest k (in_range_lem k (length parts) m) n d (hit_on (alone_at r a list stack parts k) n d i e);
    farther =
        λ (k : ℕ) (m : k < part) (n : Vec3) (d : Float) (i : ℕ) e.
        lowest.farther_below k (in_range_lem k (length parts) (omega (arith, m, inside))) m n d
        (hit_on (alone_at r a list stack parts k) n d i e);
    none_refuses =
        λ (k number : ℕ) (m : k < length parts) e.
        let s = refusal_stops plain no_hit numbers k number (in_range_lem k (length parts) m)
        (refused_on (alone_at r a list stack parts k) number e) in
        hit_not_stopped normal distance part s.0 (sym folds ∙ s.1);
    of_triangles = alone_nearest normal distance triangle r a list stack (part_at parts part) own;
  }
    where
      folds : nearest_of plain numbers ≡ hit_at normal distance part
      folds = fold_is (Hit part triangle normal distance) h

      lowest : LowestNearest plain numbers normal distance part
      lowest =
          hit_of_lowest_nearest plain numbers (range_ascends 0 (length parts)) normal distance part
          (λ (k : ℕ) m. without_index_such IsNumber (alone_at r a list stack parts k)
          (alone_number r a list stack (part_at parts k))) folds

      inside : part < length parts
      inside = listed_number part lowest.member

      own : alone_at r a list stack parts part ≡ hit_at normal distance triangle
      own =
          let answered = nearest_answered (alone r a list stack) part triangle normal distance parts few h in
          let same : part ≡ answered.place = omega (arith, answered.number) in
          ap (alone_at r a list stack parts) same ∙ answered.hits

  none_of_parts : nearest ≡ Nothing → (k : ℕ) → k < length parts → alone_at r a list stack parts k ≡ no_hit
  none_of_parts h k m =
      none_back (alone_at r a list stack parts k) (nones_of_none plain numbers (fold_is Nothing h) k (in_range_lem k (length parts) m))

  first_of_parts : (number : ℕ) → nearest ≡ Refused number → FirstRefuses r a list stack parts number
  first_of_parts number h = record {
    part = lowest.index;
    listed = listed_number lowest.index lowest.member;
    refuses = refused_back (alone_at r a list stack parts lowest.index) number lowest.refuses;
    first =
        λ (k other : ℕ) (m : k < lowest.index) e.
        let inside = in_range_lem k (length parts) (omega (arith, m, listed_number lowest.index lowest.member)) in
        absurd (omega (arith, m, lowest.lowest k other inside (refused_on (alone_at r a list stack parts k) other e)));
  }
    where
      lowest : LowestRefusal plain numbers number
      lowest = stopped_by_lowest_refusal plain numbers (range_ascends 0 (length parts)) number (fold_is (Refused number) h)

-- ---- the call
-- whether an answer was met at the parts, and is not the limit's
abbrev of_parts : Answer → Bool
of_parts (hit_in part triangle normal distance spent) = true
of_parts (none_after spent) = true
of_parts (refused number) = false
of_parts (refused_after number spent) = not (eqb number limit_reached)

same_hit : (f : Found) (spent spent' part triangle : ℕ) (normal : Vec3) (distance : Float)
    → answer_with f spent ≡ hit_in part triangle normal distance spent' → f ≡ Hit part triangle normal distance
same_hit Nothing spent spent' part triangle normal distance h = absurd (let z : ◌≡◌ {A = ℕ} 0 1 = cc in omega arith)
same_hit (Refused k) spent spent' part triangle normal distance h = absurd (let z : ◌≡◌ {A = ℕ} 0 1 = cc in omega arith)
same_hit (Hit q j n d) spent spent' part triangle normal distance h = cc

same_none : (f : Found) (spent spent' : ℕ) → answer_with f spent ≡ none_after spent' → f ≡ Nothing
same_none Nothing spent spent' h = refl
same_none (Refused k) spent spent' h = absurd (let z : ◌≡◌ {A = ℕ} 0 1 = cc in omega arith)
same_none (Hit q j n d) spent spent' h = absurd (let z : ◌≡◌ {A = ℕ} 0 1 = cc in omega arith)

same_refusal : (f : Found) (spent spent' number : ℕ) → answer_with f spent ≡ refused_after number spent' → f ≡ Refused number
same_refusal Nothing spent spent' number h = absurd (let z : ◌≡◌ {A = ℕ} 0 1 = cc in omega arith)
same_refusal (Refused k) spent spent' number h = cc
same_refusal (Hit q j n d) spent spent' number h = absurd (let z : ◌≡◌ {A = ℕ} 0 1 = cc in omega arith)

module _ (r : Ray) (a : Areas) (list stack : ℕ) (parts : List Part) (limit : ℕ) where
  -- such an answer has passed refusals 1, 2 and 3
  tests_passed : of_parts (answer_at r a list stack parts limit) ≡ true → Passes r a list stack parts
  unfolding cast_cabinet
  tests_passed = go (ray_admitted r) refl (all_parts (shape_fits a) parts) refl (all_parts (room_fits a list stack) parts) refl
    where
      go : (b : Bool) → ray_admitted r ≡ b → (c : Bool) → all_parts (shape_fits a) parts ≡ c → (d : Bool)
          → all_parts (room_fits a list stack) parts ≡ d
          → of_parts (cond b (cond c (cond d (answer_of (cast_parts r a limit beginning parts)) (refused no_room)) (refused bad_shape))
          (refused invalid_input)) ≡ true
          → Passes r a list stack parts
      go true e true f true g h = record { ray = e; shapes = f; rooms = g }
      go true e true f false g h = absurd (true≢false (sym h))
      go true e false f d g h = absurd (true≢false (sym h))
      go false e c f d g h = absurd (true≢false (sym h))

  of_parts_lem : of_parts (answer_at r a list stack parts limit) ≡ true
      → answer_at r a list stack parts limit ≡ answer_with (nearest_part (alone r a list stack) Nothing 0 parts)
      (needed r a list stack parts)
  of_parts_lem h = go (leb (needed r a list stack parts) limit) refl
    where
      go : (b : Bool) → leb (needed r a list stack parts) limit ≡ b
          → answer_at r a list stack parts limit ≡ answer_with (nearest_part (alone r a list stack) Nothing 0 parts)
          (needed r a list stack parts)
      go true e =
          (limits_hold r a list stack parts (tests_passed h)).each_alone limit (leb-true (needed r a list stack parts) limit e)
      go false e =
          let used = (limits_hold r a list stack parts (tests_passed h)).used_up limit (leb-false (needed r a list stack parts) limit e) in
          absurd (true≢false (sym h ∙ ap of_parts used))

  pub answers_parts : length parts < 18446744073709551616 → AnswersParts r a list stack parts (answer_at r a list stack parts limit)
  answers_parts few = record {
    hit_is =
        λ (part triangle : ℕ) (normal : Vec3) (distance : Float) (spent : ℕ) e.
        nearest_of_parts r a list stack parts few part triangle normal distance
        (same_hit _ _ spent part triangle normal distance (sym (of_parts_lem (ap of_parts e)) ∙ e));
    none_is = λ (spent : ℕ) e. none_of_parts r a list stack parts few (same_none _ _ spent (sym (of_parts_lem (ap of_parts e)) ∙ e));
    refusal_is =
        λ (number spent : ℕ) e (other : number ≡ limit_reached → ⊥).
        let plainly : of_parts (answer_at r a list stack parts limit) ≡ true = ap of_parts e ∙ ap not (ne_eqb number limit_reached other) in
        first_of_parts r a list stack parts few number (same_refusal _ _ spent number (sym (of_parts_lem plainly) ∙ e));
  }

-- a refusal before the first part says nothing of them
answers_early : (r : Ray) (a : Areas) (list stack : ℕ) (parts : List Part) (number : ℕ) → AnswersParts r a list stack parts (refused number)
answers_early r a list stack parts number = record {
  hit_is =
      λ (part triangle : ℕ) (normal : Vec3) (distance : Float) (spent : ℕ) (e : refused number ≡ hit_in part triangle normal distance
      spent). absurd (let z : ◌≡◌ {A = ℕ} 0 1 = cc in omega arith);
  none_is = λ (spent : ℕ) (e : refused number ≡ none_after spent). absurd (let z : ◌≡◌ {A = ℕ} 0 1 = cc in omega arith);
  refusal_is =
      λ (k spent : ℕ) (e : refused number ≡ refused_after k spent) (other : k ≡ limit_reached → ⊥).
      absurd (let z : ◌≡◌ {A = ℕ} 0 1 = cc in omega arith);
}

pub answers_with_results : (r : Ray) (a : Areas) (list stack : ℕ) (parts : List Part) (fits : Bool) (answer : Answer)
    → AnswersParts r a list stack parts answer → AnswersParts r a list stack parts (with_results fits answer)
unfolding with_results
answers_with_results r a list stack parts true answer h = h
answers_with_results r a list stack parts false (refused number) h = answers_early r a list stack parts number
answers_with_results r a list stack parts false (refused_after number spent) h = answers_early r a list stack parts no_room
answers_with_results r a list stack parts false (none_after spent) h = answers_early r a list stack parts no_room
answers_with_results r a list stack parts false (hit_in part triangle normal distance spent) h =
    answers_early r a list stack parts no_room
