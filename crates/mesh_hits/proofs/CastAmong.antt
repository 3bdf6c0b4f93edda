-- The mesh cast's hit is among the hits of its list, they are none exactly where the cast answers none, and the listing counts them where
-- they fit. Assumes nothing.
use Prim.Native.Nat.{ℕ, ◌<◌, ◌≤◌}
use mathlib.Core.Path.{◌≡◌, refl, sym, ap, ◌∙◌}
use mathlib.Core.Logic.{◌⊎◌, inl, inr}
use mathlib.Core.Bool.{Bool, true, false, cond}
use mathlib.Core.List.{List, [], ◌∷◌, Memᴰ}
use native.Mathlib.Omega.{arith}
use borrow.Author.Tests.{le-leb, lt-leb}
use lib.Dec.{leb}
use lib.Ieee.{Float, lt}
use lib.ListN.{length}
use Rattle.vectors.specs.declared.vec3.Vec3.{Vec3}
use Rattle.casts.specs.Answer.{Answer, hit, none, refused, no_room}
use Rattle.nearest_hit.specs.Nearest.{Indexed, hit_at, no_hit, stopped, next_of, fold_from, nearest_of}
use Rattle.nearest_hit.proofs.IndexedCases.{hit_not_stopped, hit_not_none}
use Rattle.nearest_hit.proofs.NearestRefusals.{refusal_stops, none_of_nones}
use Rattle.lists.specs.Lists.{count}
use Rattle.lists.proofs.Apart.{sorted_long}
use Rattle.lists.proofs.CountLaws.{member_of_count, count_of_member, count_keep, count_nil}
use Rattle.tree.specs.Layout.{word_at}
use Rattle.tree_query.specs.Query.{count as count_of, refused as refused_with}
use Rattle.depth_sort.specs.Order.{ahead}
use Rattle.mesh_hits.specs.HitArea.{HitArea, Outcome, is_hit, hits_of, depth_at, places_in}
use Rattle.mesh_hits.specs.HitListing.{written, fitted, after_refusals, listing_of}
use Rattle.mesh_hits.specs.Promise.{IsListed, FitsCast, CountsHits}
use Rattle.mesh_hits.proofs.PlaceLaws.{at_counted, Place, place_of_lem}
use Rattle.mesh_hits.proofs.CountedHits.{same_count, written_counts, listing_empty, places, Counted, listed_of_hit, all_hit}
use Rattle.mesh_hits.proofs.CountedHits.{index_at, place_at}

pub hit_is : (a : Answer) (normal : Vec3) (distance : Float) → a ≡ hit normal distance → is_hit a ≡ true
unfolding is_hit
hit_is a normal distance e = ap is_hit e

-- ---- the fold's hit is one of its list
module _ (answer : ℕ → Answer) (normal : Vec3) (distance : Float) (i : ℕ) where
  pub record Member (l : List ℕ) : Type 0 where
    pub of : Memᴰ i l
    pub is : answer i ≡ hit normal distance

  taken : (n : Vec3) (d : Float) (x : ℕ) (l : List ℕ) → answer x ≡ hit n d → hit_at n d x ≡ hit_at normal distance i → Member (x ∷ l)
  taken n d x l a h =
      let same : i ≡ x = cc in
      let alike : hit n d ≡ hit normal distance = cc in
      record { of = Memᴰ.head same; is = ap answer same ∙ a ∙ alike }

  abbrev Either : Indexed → List ℕ → Type 0
  Either best l = (best ≡ hit_at normal distance i) ⊎ Member l

  next_either : (best : Indexed) (x : ℕ) (l : List ℕ) (a : Answer) → answer x ≡ a → next_of best x a ≡ hit_at normal distance i
      → Either best (x ∷ l)
  unfolding next_of
  next_either (stopped number) x l a e h = inl h
  next_either no_hit x l (hit n d) e h = inr (taken n d x l e h)
  next_either no_hit x l none e h = inl h
  next_either no_hit x l (refused number) e h = absurd (hit_not_stopped normal distance i number (sym h))
  next_either (hit_at n d j) x l (hit n' d') e h = either (lt d' d) h
    where
      either : (b : Bool) → cond b (hit_at n' d' x) (hit_at n d j) ≡ hit_at normal distance i → Either (hit_at n d j) (x ∷ l)
      either true g = inr (taken n' d' x l e g)
      either false g = inl g
  next_either (hit_at n d j) x l none e h = inl h
  next_either (hit_at n d j) x l (refused number) e h = absurd (hit_not_stopped normal distance i number (sym h))

  fold_either : (best : Indexed) (l : List ℕ) → fold_from answer best l ≡ hit_at normal distance i → Either best l
  unfolding fold_from
  fold_either best [] h = inl h
  fold_either best (x ∷ l) h = go (fold_either (next_of best x (answer x)) l h)
    where
      go : Either (next_of best x (answer x)) l → Either best (x ∷ l)
      go (inl e) = next_either best x l (answer x) refl e
      go (inr m) = inr record { of = Memᴰ.tail m.of; is = m.is }

  pub nearest_member : (l : List ℕ) → nearest_of answer l ≡ hit_at normal distance i → Member l
  nearest_member l h = go (fold_either no_hit l h)
    where
      go : Either no_hit l → Member l
      go (inl e) = absurd (hit_not_none normal distance i (sym e))
      go (inr m) = m

module _ (answer : ℕ → Answer) (area : HitArea) (l : List ℕ) (k : ℕ) (c : Counted answer area l k) where
  abbrev ts : List ℕ
  ts = places answer area l k

  -- a hit of the list stands at a place, and what stands at a place is of the list
  pub placed : (x : ℕ) → Memᴰ x l → is_hit (answer x) ≡ true → Place x ts
  placed x m e = place_of_lem x ts (omega (arith, listed_of_hit answer area l k x e, count_of_member x l m))

  pub of_list : (j : ℕ) → j < k → Memᴰ (word_at ts j) l
  of_list j h =
      let here = at_counted ts j (omega (arith, c.long)) in
      let e = listed_of_hit answer area l k (word_at ts j) (all_hit answer area l k (word_at ts j) here) in
      member_of_count (word_at ts j) l (omega (arith, here, e))

  pub empty_if : nearest_of answer l ≡ no_hit → k ≡ 0
  empty_if h =
      sym c.long
      ∙ same_count 0 (length ts) (sym (written_counts answer area ts) ∙ sym (ap (λ (o : Outcome). o.answer) c.is)
      ∙ listing_empty answer area l h)

  empty_only_if : k ≡ 0 → nearest_of answer l ≡ no_hit
  empty_only_if e = none_of_nones answer l (λ (x : ℕ) (m : Memᴰ x l). go x m (answer x) refl)
    where
      go : (x : ℕ) → Memᴰ x l → (a : Answer) → answer x ≡ a → answer x ≡ none
      go x m (hit normal distance) f =
          let p = placed x m (hit_is (answer x) normal distance f) in absurd (omega (arith, p.inside, c.long))
      go x m none f = f
      go x m (refused number) f = let s = refusal_stops answer no_hit l x number m f in absurd (c.goes s.0 s.1)

  pub fits_cast : FitsCast (nearest_of answer l) k (listing_of answer area l).area
  fits_cast = record { empty_only_if = empty_only_if; among = among }
    where
      among : (normal : Vec3) (distance : Float) (i : ℕ) → nearest_of answer l ≡ hit_at normal distance i
          → IsListed k (listing_of answer area l).area normal distance i
      among normal distance i h =
          let m = nearest_member answer normal distance i l h in
          let p = placed i m.of (hit_is (answer i) normal distance m.is) in
          let within : p.place < k = omega (arith, p.inside, c.long) in
          let s = place_at answer area l k c p.place within normal distance (ap answer p.holds ∙ m.is) in
          record {
            place = p.place;
            within = within;
            stands = record {
              index_is = index_at answer area l k c p.place within ∙ p.holds;
              distance_is = s.distance_is;
              normal_is = s.normal_is;
            };
          }

-- ---- how many: the count of the hits where they fit, else 3
module _ (answer : ℕ → Answer) (area : HitArea) (l : List ℕ) (normal : Vec3) (distance : Float) (i : ℕ)
    (h : nearest_of answer l ≡ hit_at normal distance i) where
  abbrev hits : ℕ
  hits = length (hits_of answer l)

  counted_some : (x : ℕ) (ts : List ℕ) → 0 < count x ts → 1 ≤ length ts
  counted_some x [] some = absurd (omega (arith, count_nil x))
  counted_some x (y ∷ ts) some = omega arith

  some_hit : 1 ≤ hits
  some_hit =
      let m = nearest_member answer normal distance i l h in
      let kept : count i (hits_of answer l) ≡ count i l = count_keep (λ (t : ℕ). is_hit (answer t)) i l
      ∙ ap (λ (b : Bool). cond b (count i l) 0) (hit_is (answer i) normal distance m.is) in
      counted_some i (hits_of answer l) (omega (arith, kept, count_of_member i l m.of))

  listing_is : (b : Bool) → leb hits (places_in area) ≡ b
      → (listing_of answer area l).answer ≡ cond b (count_of hits) (refused_with no_room)
  unfolding listing_of after_refusals fitted written
  listing_is true e = simp (h, sorted_long (ahead (depth_at answer)) (hits_of answer l), e)
  listing_is false e = simp (h, sorted_long (ahead (depth_at answer)) (hits_of answer l), e)

  pub counts_hits : CountsHits hits (places_in area) (listing_of answer area l).answer
  counts_hits = record {
    some = some_hit;
    counted = λ fits. listing_is true (le-leb hits (places_in area) fits);
    too_many = λ more. listing_is false (lt-leb hits (places_in area) more);
  }
