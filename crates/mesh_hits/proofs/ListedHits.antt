-- The listing from the hits of the walk's list: its refusals, and what is written at the places. Assumes nothing.
use Prim.Native.Nat.{ℕ, ◌*◌, ◌/◌, ◌<◌, ◌≤◌}
use mathlib.Core.Path.{◌≡◌, refl, sym, ap, subst, ◌∙◌}
use mathlib.Core.Bool.{Bool, true, false, cond, true≢false}
use mathlib.Core.List.{List, ◌++◌}
use native.Mathlib.Omega.{arith}
use borrow.Author.Tests.{leb-true, leb-false, ltb-true}
use lib.Dec.{leb, ltb}
use lib.Ieee.{Float, nan}
use lib.ListN.{length, take, drop, length-append, get_or-append}
use lib.Seq.{length-take-le, take_at, drop_at, get_or-take}
use Rattle.casts.specs.Answer.{Answer, hit, none, refused, no_room}
use Rattle.nearest_hit.specs.Nearest.{Indexed, no_hit, next_of}
use Rattle.casts.specs.Reach.{At, reach_of}
use Rattle.nearest_hit.specs.Summary.{Summary, nothing, summary_from, winner}
use Rattle.casts.proofs.AnswerLists.{HitsAreNumbers}
use Rattle.nearest_hit.specs.Summary.{Outcome as Won, Nobody, RefusedBy, NearestHit as HitBy}
use Rattle.lists.specs.Lists.{count, sorted, all_below}
use Rattle.nearest_hit.proofs.NextLaws.{miss_not_at, refused_not_at}
use Rattle.tree.specs.Layout.{word_at}
use Rattle.lists.proofs.CountLaws.{count_keep, member_of_count, every_at}
use Rattle.lists.proofs.SortLaws.{same_length}
use Rattle.tree_query.specs.Query.{count as count_of}
use Rattle.mesh.proofs.Folding.{nobody_wins, refusal_wins, hit_wins, winner_reached}
use Rattle.mesh_hits.specs.HitArea.{HitArea, hit_area, Outcome, is_hit, depth_of, hits_of, depth_at, in_order, numbers_of, places_of}
use Rattle.mesh_hits.specs.HitListing.{written, fitted, after_refusals, listing_of}
use Rattle.mesh_hits.specs.HitArea.{refused_at}
use Rattle.mesh_hits.specs.Rows.{Stored, Ready, HitsInPlaces}
use Rattle.depth_sort.specs.SortRows.{Keyed, Ordered}
use Rattle.mesh_hits.proofs.HitOrder.{in_order_count, sorted_hits}
use Rattle.mesh_hits.proofs.GatheredHits.{keep_shorter}
use Rattle.mesh_hits.proofs.PlaceLaws.{at_counted}

-- ---- what the winner says
module _ (answer : ℕ → Answer) (numbers : HitsAreNumbers answer) (l : List ℕ) (notes : Summary)
    (h : notes ≡ summary_from answer nothing l) (outcome : Won) (w : outcome ≡ winner notes) (area : HitArea) where
  pub refusal_lists : (number : ℕ) → outcome ≡ RefusedBy number → refused_at number area ≡ listing_of answer area (sorted l)
  unfolding listing_of after_refusals
  refusal_lists number e = ap (λ (z : Indexed). after_refusals z area (fitted answer area (in_order answer (hits_of answer (sorted l)))))
      (refusal_wins answer numbers l notes h outcome w number e)

  abbrev rest : Outcome
  rest = fitted answer area (in_order answer (hits_of answer (sorted l)))

  pub nobody_lists : outcome ≡ Nobody → rest ≡ listing_of answer area (sorted l)
  unfolding listing_of after_refusals
  nobody_lists e = ap (λ (z : Indexed). after_refusals z area rest) (nobody_wins answer numbers l notes h outcome w e)

  pub hit_lists : (n : ℕ) → all_below n l ≡ true → (index : ℕ) (distance : Float) → outcome ≡ HitBy index distance
      → rest ≡ listing_of answer area (sorted l)
  unfolding listing_of
  hit_lists n below index distance e =
      go (answer index) (winner_reached answer numbers l notes h outcome w index distance e n below).1
      ∙ ap (λ (z : Indexed). after_refusals z area rest)
      (hit_wins answer numbers l notes h outcome w index distance e (answer index) refl (next_of no_hit index (answer index)) refl)
    where
      go : (a : Answer) → reach_of a ≡ At distance → rest ≡ after_refusals (next_of no_hit index a) area rest
      go (hit normal d) r = unfold next_of after_refusals in refl
      go none r = absurd (miss_not_at distance (unfold reach_of in r))
      go (refused number) r = absurd (refused_not_at number distance (unfold reach_of in r))

-- ---- the hits gathered, ready to be sorted
-- what is answered depends on the area only where it is not written
written_alike : (answer : ℕ → Answer) (hits : List ℕ) (k : ℕ) → length hits ≡ k → (a b : HitArea)
    → drop k a.indices ≡ drop k b.indices → drop (4 * k) a.numbers ≡ drop (4 * k) b.numbers
    → written answer a hits ≡ written answer b hits
unfolding written
written_alike answer hits k e a b p q = rw (e, p, q)

pub refused_alike : (number : ℕ) (a b : HitArea) → length a.indices ≡ length b.indices
    → length a.numbers ≡ length b.numbers → refused_at number a ≡ refused_at number b
refused_alike number a b p q = rw (p, q)

pub places_within : (indices numbers : ℕ) → (places_of indices numbers ≤ indices) × (4 * places_of indices numbers ≤ numbers)
unfolding places_of
places_within indices numbers = go (leb indices (numbers / 4)) refl
  where
    go : (b : Bool) → leb indices (numbers / 4) ≡ b → (cond b indices (numbers / 4) ≤ indices)
        × (4 * cond b indices (numbers / 4) ≤ numbers)
    go true e = let h = leb-true indices (numbers / 4) e in (omega arith, omega arith)
    go false e = let h = leb-false indices (numbers / 4) e in (omega arith, omega arith)

module _ (answer : ℕ → Answer) (list : List ℕ) (work : ℕ) (lent : length list ≤ work) (n : ℕ) (below : all_below n list ≡ true)
    (indices₀ : List ℕ) (numbers₀ : List Float) (places : ℕ) (p : places ≡ places_of (length indices₀) (length numbers₀))
    (hits : ℕ) (indices : List ℕ) (numbers : List Float) (long : length indices ≡ length indices₀)
    (longN : length numbers ≡ length numbers₀)
    (s : Stored answer list places indices₀ numbers₀ hits indices numbers)
  where
    abbrev these : List ℕ
    these = hits_of answer list

    pub first_hits : hits ≤ places → take hits indices ≡ these
    first_hits few = ap (take hits) (s.holds few) ∙ take_at these (drop hits indices₀) hits (sym s.counts)

    pub hits_ready : hits ≤ places → Ready answer n hits indices numbers work
    hits_ready few =
        let w = places_within (length indices₀) (length numbers₀) in
        record {
          inside = omega (arith, w, p, long);
          fits = omega (arith, w, p, longN);
          room = omega (arith, s.counts, keep_shorter (λ (t : ℕ). is_hit (answer t)) list, lent);
          keyed = s.keyed few;
          hits = λ (x : ℕ) (h : 0 < count x (take hits indices)). member x (subst (λ (l : List ℕ). 0 < count x l) (first_hits few) h);
        }
      where
        member : (x : ℕ) → 0 < count x these → (x < n) × (is_hit (answer x) ≡ true)
        member x h = go (is_hit (answer x)) refl (count_keep (λ (t : ℕ). is_hit (answer t)) x list)
          where
            go : (b : Bool) → is_hit (answer x) ≡ b → count x these ≡ cond (is_hit (answer x)) (count x list) 0 → (x < n)
                × (is_hit (answer x) ≡ true)
            go true e c =
                let k : 0 < count x list = omega
                (arith, h, c ∙ ap (λ (b : Bool). cond b (count x list) 0) e) in
                (ltb-true x n (every_at (λ (y : ℕ). ltb y n) list below x (member_of_count x list k)), e)
            go false e c = absurd (omega (arith, h, c ∙ ap (λ (b : Bool). cond b (count x list) 0) e))

    -- what is answered of them
    pub fits_as_listed : (exit : Outcome)
        → exit ≡ cond (leb hits places) (written answer (hit_area indices numbers) (in_order answer (take hits indices)))
        (refused_at no_room (hit_area indices numbers))
        → exit ≡ fitted answer (hit_area indices₀ numbers₀) (in_order answer (hits_of answer (sorted list)))
    fits_as_listed exit e =
        e ∙ go (leb hits places) refl ∙ ap (λ (z : List ℕ). fitted answer (hit_area indices₀ numbers₀) z)
        (sorted_hits answer list)
      where
        as_many : length (in_order answer these) ≡ hits
        as_many = same_length (in_order answer these) these (λ (x : ℕ). in_order_count answer x these) ∙ sym s.counts

        test : leb (length (in_order answer these)) (places_of (length indices₀) (length numbers₀)) ≡ leb hits places
        test = ap (λ (k : ℕ). leb k (places_of (length indices₀) (length numbers₀))) as_many ∙ ap (leb hits) (sym p)

        fitting : (b : Bool) → leb hits places ≡ b
            → fitted answer (hit_area indices₀ numbers₀) (in_order answer these) ≡ cond b
            (written answer (hit_area indices₀ numbers₀) (in_order answer these)) (refused_at no_room (hit_area indices₀ numbers₀))
        fitting b f = unfold fitted in ap
            (λ (c : Bool). cond c (written answer (hit_area indices₀ numbers₀) (in_order answer these))
            (refused_at no_room (hit_area indices₀ numbers₀))) (test ∙ f)

        go : (b : Bool) → leb hits places ≡ b
            → cond (leb hits places) (written answer (hit_area indices numbers) (in_order answer (take hits indices)))
            (refused_at no_room (hit_area indices numbers))
            ≡ fitted answer (hit_area indices₀ numbers₀) (in_order answer these)
        go true f =
            let few : hits ≤ places = leb-true hits places f in
            ap (λ (c : Bool). cond c (written answer (hit_area indices numbers) (in_order answer (take hits indices)))
            (refused_at no_room (hit_area indices numbers))) f
            ∙ ap (λ (z : List ℕ). written answer (hit_area indices numbers) (in_order answer z)) (first_hits few)
            ∙ written_alike answer (in_order answer these) hits as_many (hit_area indices numbers) (hit_area indices₀ numbers₀)
            (ap (drop hits) (s.holds few) ∙ drop_at these (drop hits indices₀) hits (sym s.counts)) (s.rest few)
            ∙ sym (fitting true f)
        go false f =
            ap (λ (c : Bool). cond c (written answer (hit_area indices numbers) (in_order answer (take hits indices)))
            (refused_at no_room (hit_area indices numbers))) f
            ∙ refused_alike no_room (hit_area indices numbers) (hit_area indices₀ numbers₀) long longN
            ∙ sym (fitting false f)

-- ---- sorted, with their normals
module _ (answer : ℕ → Answer) (n k : ℕ) (indices : List ℕ) (numbers : List Float) (work : ℕ)
    (r : Ready answer n k indices numbers work) where
  pub part_keyed : Keyed (depth_at answer) (take k indices) (take (4 * k) numbers)
  part_keyed = record {
    at = λ (i : ℕ) (h : i < length (take k indices)).
        let j : i < k = omega (arith, length-take-le k indices r.inside) in
        get_or-take (4 * k) numbers (4 * i) nan (omega arith) ∙ r.keyed.at i h;
  }

  module _ (exit : List ℕ) (exitN : List Float)
      (o : (depth : ℕ → Float) → Keyed depth (take k indices) (take (4 * k) numbers) → Ordered depth (take k indices) exit exitN)
      (long : length exit ≡ length (take k indices)) (longN : length exitN ≡ length (take (4 * k) numbers))
    where
      ordered : Ordered (depth_at answer) (take k indices) exit exitN
      ordered = o (depth_at answer) part_keyed

      exit_long : length exit ≡ k
      exit_long = long ∙ length-take-le k indices r.inside

      exit_n_long : length exitN ≡ 4 * k
      exit_n_long = longN ∙ length-take-le (4 * k) numbers r.fits

      at_place : (j : ℕ) → j < k → (word_at exit j < n) × (is_hit (answer (word_at exit j)) ≡ true)
      at_place j h =
          let c : 0 < count (word_at exit j) exit = at_counted exit j (omega (arith, exit_long)) in
          let same = ap (count (word_at exit j)) ordered.sorted ∙ in_order_count answer (word_at exit j) (take k indices) in
          r.hits (word_at exit j) (omega (arith, c, same))

      reached : (a : Answer) → is_hit a ≡ true → reach_of a ≡ At (depth_of a)
      reached (hit normal d) h = unfold reach_of depth_of in refl
      reached none h = absurd (true≢false (sym h ∙ unfold is_hit in refl))
      reached (refused number) h = absurd (true≢false (sym h ∙ unfold is_hit in refl))

      pub sorted_in_places : HitsInPlaces answer n (exit ++ drop k indices) k (exitN ++ drop (4 * k) numbers)
      sorted_in_places = record {
        inside = omega (arith, length-append exit (drop k indices), exit_long);
        fits = omega (arith, length-append exitN (drop (4 * k) numbers), exit_n_long);
        below = λ (j : ℕ) (h : j < k). subst (λ (x : ℕ). x < n) (sym (first j h)) (at_place j h).0;
        reached =
            λ (j : ℕ) (h : j < k).
            ap (λ (x : ℕ). reach_of (answer x)) (first j h)
            ∙ reached (answer (word_at exit j)) (at_place j h).1
            ∙ ap At (sym (get_or-append exitN (drop (4 * k) numbers) nan (4 * j) (omega (arith, exit_n_long))
            ∙ ordered.keyed.at j (omega (arith, exit_long))));
      }
        where
          first : (j : ℕ) → j < k → word_at (exit ++ drop k indices) j ≡ word_at exit j
          first j h = get_or-append exit (drop k indices) 0 j (omega (arith, exit_long))

      pub sorted_written : (final : List Float)
          → final ≡ numbers_of answer (take k (exit ++ drop k indices)) ++ drop (4 * k) (exitN ++ drop (4 * k) numbers)
          → record { answer = count_of k; area = hit_area (exit ++ drop k indices) final } ≡ written answer (hit_area indices numbers)
          (in_order answer (take k indices))
      unfolding written
      sorted_written final f =
          let numbers_are_lem : final ≡ numbers_of answer exit ++ drop (4 * k) numbers =
          f
          ∙ ap (λ (z : List ℕ). numbers_of answer z ++ drop (4 * k) (exitN ++ drop (4 * k) numbers))
          (take_at exit (drop k indices) k exit_long)
          ∙ ap (λ (z : List Float). numbers_of answer exit ++ z) (drop_at exitN (drop (4 * k) numbers) (4 * k) exit_n_long)
          in
          ap (λ (z : List Float). record { answer = count_of k; area = hit_area (exit ++ drop k indices) z }) numbers_are_lem
          ∙ ap (λ (j : ℕ). record {
            answer = count_of j;
            area = hit_area (exit ++ drop j indices)
                (numbers_of answer exit ++ drop (4 * j) numbers);
          }) (sym exit_long)
          ∙ ap (λ (z : List ℕ). record {
            answer = count_of (length z);
            area = hit_area (z ++ drop (length z) indices)
                (numbers_of answer z ++ drop (4 * length z) numbers);
          }) ordered.sorted
