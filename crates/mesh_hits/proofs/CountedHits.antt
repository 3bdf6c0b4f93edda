-- A listing that gives a count has written the hits of its list: how often each stands there, and what stands at each place. Assumes
-- nothing.
use Prim.Native.Nat.{ℕ, ◌*◌, ◌<◌}
use mathlib.Core.Path.{◌≡◌, refl, sym, ap, subst, ◌∙◌}
use mathlib.Core.Bool.{Bool, true, false, cond}
use mathlib.Core.List.{List, [], ◌∷◌, ◌++◌, Memᴰ}
use native.Mathlib.Omega.{arith}
use borrow.Author.Tests.{le-leb}
use lib.Dec.{leb}
use lib.Ieee.{Float}
use lib.ListN.{length, take, drop, get_or-append}
use lib.Seq.{take_at}
use Rattle.vectors.specs.declared.vec3.Vec3.{Vec3}
use Rattle.casts.specs.Answer.{Answer, hit, none, no_room}
use Rattle.nearest_hit.specs.Nearest.{Indexed, hit_at, no_hit, stopped, nearest_of}
use Rattle.nearest_hit.proofs.IndexedCases.{stopped_not_none, hit_not_stopped}
use Rattle.nearest_hit.proofs.NearestRefusals.{nones_of_none}
use Rattle.lists.specs.Lists.{count, keep, sort_by}
use Rattle.tree.specs.Layout.{word_at}
use Rattle.lists.proofs.CountLaws.{count_keep}
use Rattle.tree_query.specs.Query.{count as count_of, refused as refused_with}
use Rattle.mesh_hits.specs.HitArea.{HitArea, Outcome, is_hit, hits_of, in_order, numbers_of, places_of, refused_at}
use Rattle.mesh_hits.specs.HitListing.{written, fitted, after_refusals, listing_of}
use Rattle.mesh_hits.proofs.HitOrder.{in_order_count}
use Rattle.mesh_hits.proofs.PlaceLaws.{at_counted, IsHitOf, hit_of_lem, AllHit, NumbersAt, stands_at}

-- ---- a count is no refusal
pub refused_not_count : (k number : ℕ) → refused_with number ≡ count_of k → ⊥
refused_not_count k number h = let z : ◌≡◌ {A = ℕ} 0 1 = cc in omega arith

pub same_count : (k j : ℕ) → count_of j ≡ count_of k → j ≡ k
same_count k j h = cc

pub written_counts : (answer : ℕ → Answer) (area : HitArea) (ts : List ℕ) → (written answer area ts).answer ≡ count_of (length ts)
unfolding written
written_counts answer area ts = refl

stopped_refuses : (number : ℕ) (area : HitArea) (rest : Outcome)
    → (after_refusals (stopped number) area rest).answer ≡ refused_with number
unfolding after_refusals
stopped_refuses number area rest = refl

pub listing_stops : (answer : ℕ → Answer) (area : HitArea) (number : ℕ) (l : List ℕ) → nearest_of answer l ≡ stopped number
    → (listing_of answer area l).answer ≡ refused_with number
unfolding listing_of
listing_stops answer area number l h =
    let rest : Outcome = fitted answer area (in_order answer (hits_of answer l)) in
    ap (λ (z : Indexed). (after_refusals z area rest).answer) h ∙ stopped_refuses number area rest

-- ---- no hits: where the fold finds none the listing is a count of 0, however short the area
no_hits : (answer : ℕ → Answer) (l : List ℕ) → ((x : ℕ) → Memᴰ x l → answer x ≡ none) → hits_of answer l ≡ []
unfolding keep is_hit
no_hits answer [] h = refl
no_hits answer (x ∷ l) h =
    simp (ap is_hit (h x (Memᴰ.head refl)), no_hits answer l (λ (y : ℕ) m. h y (Memᴰ.tail m)))

empty_fits : (answer : ℕ → Answer) (area : HitArea) → (fitted answer area []).answer ≡ count_of 0
unfolding fitted written
empty_fits answer area = simp (le-leb 0 (places_of (length area.indices) (length area.numbers)) (omega arith))

pub listing_empty : (answer : ℕ → Answer) (area : HitArea) (l : List ℕ) → nearest_of answer l ≡ no_hit
    → (listing_of answer area l).answer ≡ count_of 0
unfolding listing_of after_refusals
listing_empty answer area l h =
    ap (λ (z : Indexed). (after_refusals z area (fitted answer area (in_order answer (hits_of answer l)))).answer) h
    ∙ ap (λ (ts : List ℕ). (fitted answer area (in_order answer ts)).answer) (no_hits answer l (nones_of_none answer l h))
    ∙ unfold sort_by in empty_fits answer area

-- ---- the hits of a list, in order
module _ (answer : ℕ → Answer) (area : HitArea) (l : List ℕ) (k : ℕ) where
  abbrev pub places : List ℕ
  places = in_order answer (hits_of answer l)

  -- a listing that counts has written the hits, and no triangle refuses
  pub record Counted : Type 0 where
    pub long : length places ≡ k
    pub is : listing_of answer area l ≡ written answer area places
    pub goes : (number : ℕ) → nearest_of answer l ≡ stopped number → ⊥

  pub counted : (listing_of answer area l).answer ≡ count_of k → Counted
  counted h = go (nearest_of answer l) refl (leb (length places) (places_of (length area.indices) (length area.numbers))) refl
    where
      opened : (z : Indexed) → nearest_of answer l ≡ z → listing_of answer area l ≡ after_refusals z area (fitted answer area places)
      opened z e = unfold listing_of in ap (λ (y : Indexed). after_refusals y area (fitted answer area places)) e

      fits : (b : Bool) → leb (length places) (places_of (length area.indices) (length area.numbers)) ≡ b
          → fitted answer area places ≡ cond b (written answer area places) (refused_at no_room area)
      fits b e = unfold fitted in ap (λ (c : Bool). cond c (written answer area places) (refused_at no_room area)) e

      done : (b : Bool) → leb (length places) (places_of (length area.indices) (length area.numbers)) ≡ b
          → listing_of answer area l ≡ fitted answer area places
          → ((number : ℕ) → nearest_of answer l ≡ stopped number → ⊥) → Counted
      done true e f n =
          let w = f ∙ fits true e in
          record {
            long = same_count k (length places)
                (sym (written_counts answer area places) ∙ sym (ap (λ (o : Outcome). o.answer) w) ∙ h);
            is = w;
            goes = n;
          }
      done false e f n = absurd (refused_not_count k no_room (sym (ap (λ (o : Outcome). o.answer) (f ∙ fits false e)) ∙ h))

      go : (z : Indexed) → nearest_of answer l ≡ z → (b : Bool)
          → leb (length places) (places_of (length area.indices) (length area.numbers)) ≡ b → Counted
      go (stopped number) e b f = absurd
          (refused_not_count k number (sym (stopped_refuses number area (fitted answer area places))
          ∙ sym (ap (λ (o : Outcome). o.answer) (opened (stopped number) e)) ∙ h))
      go no_hit e b f = done b f (unfold after_refusals in opened no_hit e) (λ number g. stopped_not_none number (sym g ∙ e))
      go (hit_at n d i) e b f = done b f (unfold after_refusals in opened (hit_at n d i) e)
          (λ number g. hit_not_stopped n d i number (sym e ∙ g))

  -- how often a triangle is listed
  pub listed_count : (x : ℕ) → count x places ≡ cond (is_hit (answer x)) (count x l) 0
  listed_count x = in_order_count answer x (hits_of answer l) ∙ count_keep (λ (t : ℕ). is_hit (answer t)) x l

  pub all_hit : AllHit answer places
  all_hit x h = go (is_hit (answer x)) refl
    where
      go : (b : Bool) → is_hit (answer x) ≡ b → is_hit (answer x) ≡ true
      go true e = e
      go false e = absurd (omega (arith, h, listed_count x ∙ ap (λ (b : Bool). cond b (count x l) 0) e))

  pub listed_of_hit : (x : ℕ) → is_hit (answer x) ≡ true → count x places ≡ count x l
  listed_of_hit x e = listed_count x ∙ ap (λ (b : Bool). cond b (count x l) 0) e

  module _ (c : Counted) where
    abbrev after : HitArea
    after = (listing_of answer area l).area

    indices_are_lem : after.indices ≡ places ++ drop (length places) area.indices
    indices_are_lem = unfold written in ap (λ (o : Outcome). o.area.indices) c.is

    numbers_are_lem : after.numbers ≡ numbers_of answer places ++ drop (4 * length places) area.numbers
    numbers_are_lem = unfold written in ap (λ (o : Outcome). o.area.numbers) c.is

    pub first_are : take k after.indices ≡ places
    first_are = ap (take k) indices_are_lem ∙ take_at places (drop (length places) area.indices) k c.long

    pub index_at : (j : ℕ) → j < k → word_at after.indices j ≡ word_at places j
    index_at j h = ap (λ (xs : List ℕ). word_at xs j) indices_are_lem
        ∙ get_or-append places (drop (length places) area.indices) 0 j (omega (arith, c.long))

    pub place_at : (j : ℕ) → j < k → (normal : Vec3) (distance : Float) → answer (word_at places j) ≡ hit normal distance
        → NumbersAt answer after.numbers (4 * j) normal distance
    place_at j h normal distance e =
        subst (λ (xs : List Float). NumbersAt answer xs (4 * j) normal distance) (sym numbers_are_lem)
        (stands_at answer places (drop (4 * length places) area.numbers) j normal distance all_hit (omega (arith, c.long)) e)

    pub hit_at_lem : (j : ℕ) → j < k → IsHitOf (answer (word_at places j))
    hit_at_lem j h = hit_of_lem (answer (word_at places j)) (all_hit (word_at places j) (at_counted places j (omega (arith, c.long))))
