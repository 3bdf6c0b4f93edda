-- The hits that were gathered, arranged: what is left of the listing, over the answers of whichever cast. Assumes nothing.
use Prim.Native.Nat.{ℕ, ◌*◌, ◌<◌, ◌≤◌}
use mathlib.Core.Path.{◌≡◌, refl, sym, ap, subst, ◌∙◌}
use mathlib.Core.List.{List, ◌++◌}
use borrow.Author.Tests.{le-leb, lt-leb}
use lib.Ieee.{Float}
use lib.ListN.{length, take, drop}
use Rattle.lists.specs.Lists.{sorted}
use Rattle.casts.specs.Answer.{Answer, no_room}
use Rattle.nearest_hit.specs.Summary.{winner, says_nearest_so_far}
use Rattle.nearest_hit.specs.Summary.{Outcome as Won, Nobody, RefusedBy, NearestHit as HitBy, says_outcome}
use Rattle.nearest_hit.specs.declared.summary.IndexedReach.{IndexedReach}
use Rattle.tree_query.specs.Query.{says_listed, refused as refused_with}
use Rattle.casts.specs.declared.answer.Refusal.{Refusal}
use Rattle.std.specs.Prelude.{Option, Some, None, Result, Ok, Err}
use Rattle.depth_sort.specs.SortRows.{Keyed, Ordered}
use Rattle.mesh_hits.specs.HitArea.{hit_area, Outcome, hits_of, in_order, numbers_of, refused_at}
use Rattle.mesh_hits.specs.HitListing.{fitted, listing_of}
use Rattle.mesh_hits.specs.Rows.{HitsInPlaces, Ready, SortRoom, HitsGathered, fit_rows, ArrangedBy, Arranged}
use Rattle.mesh_hits.specs.declared.gathering.Gathered.{Gathered}
use Rattle.mesh_hits.proofs.CountedHits.{refused_not_count}
use Rattle.mesh_hits.proofs.ListedHits.{refused_alike, hits_ready, fits_as_listed, sorted_in_places, sorted_written}
use Rattle.mesh_hits.proofs.ListedHits.{refusal_lists, nobody_lists, hit_lists}

module _ (answer : ℕ → Answer) (n : ℕ) where
  abbrev after : Result ℕ Refusal → List ℕ → List Float → Outcome
  after r indices numbers = record { answer = says_listed r; area = hit_area indices numbers }

  pub arranged_as : (whole whole' : Outcome) (r : Result ℕ Refusal) (indices : List ℕ) (numbers : List Float) → whole ≡ whole'
      → Arranged answer n whole r indices numbers → Arranged answer n whole' r indices numbers
  arranged_as whole whole' r indices numbers e a = subst (λ (o : Outcome). Arranged answer n o r indices numbers) e a

  -- ---- a refusal
  pub refusal_arranged : (number : ℕ) (whole o : Outcome) (r : Result ℕ Refusal) (indices : List ℕ) (numbers : List Float)
      → after r indices numbers ≡ o → o ≡ whole → o.answer ≡ refused_with number
      → Arranged answer n whole r indices numbers
  refusal_arranged number whole o (Ok k) indices numbers e f g =
      absurd (refused_not_count k number (sym g ∙ sym (ap (λ (z : Outcome). z.answer) e)))
  refusal_arranged number whole o (Err m) indices numbers e f g = record { stands = e ∙ f }

  module _ (whole : Outcome) (r : Result ℕ Refusal) (indices : List ℕ) (numbers : List Float) (a : Arranged answer n whole r indices
      numbers) where
    pub refused_whole : (refusal : Refusal) → r ≡ Err refusal → after (Err refusal) indices numbers ≡ whole
    refused_whole refusal e = (subst (λ (z : Result ℕ Refusal). Arranged answer n whole z indices numbers) e a).stands

    module _ (k : ℕ) (e : r ≡ Ok k) where
      counted : ArrangedBy answer n whole (Ok k) indices numbers
      counted = (subst (λ (z : Result ℕ Refusal). Arranged answer n whole z indices numbers) e a).stands

      -- the hits stand in their places
      pub arranged_places : HitsInPlaces answer n indices k numbers
      arranged_places = counted.0

      -- .. and with their normals the listing is whole
      pub arranged_whole : (final : List Float) → final ≡ numbers_of answer (take k indices) ++ drop (4 * k) numbers
          → after (Ok k) indices final ≡ whole
      arranged_whole = counted.1

  -- ---- the hits fitted to the places
  module _ (hits places : ℕ) (work : ℕ) (indices : List ℕ) (numbers : List Float) where
    pub fit_refused : places < hits → (r : Result ℕ Refusal) (indices' : List ℕ) (numbers' : List Float)
        → after r indices' numbers' ≡ refused_at no_room (hit_area indices numbers)
        → Arranged answer n (fit_rows answer hits places (hit_area indices numbers)) r indices' numbers'
    fit_refused more r indices' numbers' e =
        refusal_arranged no_room _ (refused_at no_room (hit_area indices numbers)) r indices' numbers' e
        (sym (simp (lt-leb hits places more)))
        refl

    module _ (few : hits ≤ places) (ready : Ready answer n hits indices numbers work) (exit : List ℕ) (exitN : List Float)
        (o : (depth : ℕ → Float) → Keyed depth (take hits indices) (take (4 * hits) numbers) → Ordered depth (take hits indices) exit exitN)
        (long : length exit ≡ length (take hits indices)) (longN : length exitN ≡ length (take (4 * hits) numbers)) where
      pub fit_sorted : Arranged answer n (fit_rows answer hits places (hit_area indices numbers)) (Ok hits) (exit ++ drop hits indices)
          (exitN ++ drop (4 * hits) numbers)
      fit_sorted = record {
        stands = (
          sorted_in_places answer n hits indices numbers work ready exit exitN o long longN,
          λ final f. sorted_written answer n hits indices numbers work ready exit exitN o long longN final f
              ∙ sym (simp (le-leb hits places few)),
        );
      }

  -- ---- all that was gathered
  module _ (l : List ℕ) (work : ℕ) (indices₀ : List ℕ) (numbers₀ : List Float) (gathered : Gathered) (places : ℕ) (indices : List ℕ)
      (numbers : List Float) (g : HitsGathered answer n l work indices₀ numbers₀ gathered places indices numbers) where
    abbrev whole : Outcome
    whole = listing_of answer (hit_area indices₀ numbers₀) (sorted l)

    pub gathered_ready : gathered.hits ≤ places → Ready answer n gathered.hits indices numbers work
    gathered_ready =
        hits_ready answer l work g.lent n g.below indices₀ numbers₀ places g.places_are gathered.hits indices numbers
        g.long g.numbers_long g.stored

    pub gathered_room : gathered.hits ≤ places → SortRoom gathered.hits (length indices) (length numbers) work
    gathered_room few = let r = gathered_ready few in record { inside = r.inside; fits = r.fits; room = r.room }

    module _ (outcome : Won) (w : outcome ≡ winner (says_nearest_so_far gathered.notes)) where
      pub arranged_refusal : (number : ℕ) → outcome ≡ RefusedBy number → (r : Result ℕ Refusal) (indices' : List ℕ) (numbers' : List Float)
          → after r indices' numbers' ≡ refused_at number (hit_area indices numbers) → Arranged answer n whole r indices' numbers'
      arranged_refusal number e r indices' numbers' f =
          refusal_arranged number whole (refused_at number (hit_area indices numbers)) r indices' numbers' f
          (refused_alike number (hit_area indices numbers) (hit_area indices₀ numbers₀) g.long g.numbers_long
          ∙ refusal_lists answer g.at_numbers l (says_nearest_so_far gathered.notes) g.noted outcome w (hit_area indices₀ numbers₀)
          number e)
          refl

      abbrev Fitted : Result ℕ Refusal → List ℕ → List Float → Type 0
      Fitted r indices' numbers' =
          Arranged answer n (fit_rows answer gathered.hits places (hit_area indices numbers)) r indices' numbers'

      as_listed : (r : Result ℕ Refusal) (indices' : List ℕ) (numbers' : List Float) → Fitted r indices' numbers'
          → Arranged answer n (fitted answer (hit_area indices₀ numbers₀) (in_order answer (hits_of answer (sorted l)))) r indices' numbers'
      as_listed r indices' numbers' a =
          arranged_as _ _ r indices' numbers'
          (fits_as_listed answer l work g.lent n g.below indices₀ numbers₀ places g.places_are gathered.hits indices numbers
          g.long g.numbers_long g.stored _ refl) a

      pub arranged_nobody : outcome ≡ Nobody → (r : Result ℕ Refusal) (indices' : List ℕ) (numbers' : List Float)
          → Fitted r indices' numbers'
          → Arranged answer n whole r indices' numbers'
      arranged_nobody e r indices' numbers' a =
          arranged_as _ _ r indices' numbers'
          (nobody_lists answer g.at_numbers l (says_nearest_so_far gathered.notes) g.noted outcome w (hit_area indices₀ numbers₀) e)
          (as_listed r indices' numbers' a)

      pub arranged_hit : (index : ℕ) (distance : Float) → outcome ≡ HitBy index distance → (r : Result ℕ Refusal) (indices' : List ℕ)
          (numbers' : List Float) → Fitted r indices' numbers' → Arranged answer n whole r indices' numbers'
      arranged_hit index distance e r indices' numbers' a =
          arranged_as _ _ r indices' numbers'
          (hit_lists answer g.at_numbers l (says_nearest_so_far gathered.notes) g.noted outcome w (hit_area indices₀ numbers₀) n
          g.below index distance e)
          (as_listed r indices' numbers' a)

      -- none refuses, whether one is hit or not
      pub arranged_found : (found : Option IndexedReach) → outcome ≡ says_outcome (Ok found) → (r : Result ℕ Refusal)
          (indices' : List ℕ) (numbers' : List Float) → Fitted r indices' numbers' → Arranged answer n whole r indices' numbers'
      arranged_found None e = arranged_nobody e
      arranged_found (Some reached) e = arranged_hit reached.index reached.distance e
