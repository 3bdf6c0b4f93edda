-- The rows of a listing stand in order of depth, and the first is the mesh cast's own hit. Assumes nothing.
use Prim.Native.Nat.{ℕ, zero, suc, ◌*◌, ◌<◌, ◌≤◌}
use mathlib.Core.Path.{◌≡◌, refl, sym, ap, subst, ◌∙◌}
use mathlib.Core.Logic.{⊎_elim}
use mathlib.Core.Bool.{true}
use mathlib.Core.List.Memᴰ
use mathlib.Core.List.{List, [], ◌∷◌, ◌++◌, Memᴰ}
use native.Mathlib.Omega.{arith}
use lib.Ieee.{Float}
use lib.ListN.{length}
use Rattle.vectors.specs.declared.vec3.Vec3.{Vec3}
use Rattle.casts.specs.Answer.{Answer, hit}
use Rattle.nearest_hit.specs.Nearest.{Indexed, hit_at, no_hit, stopped, nearest_of}
use Rattle.lists.proofs.Members.{Each, Rising as RisingList}
use Rattle.casts.proofs.AnswerLists.{HitsAreNumbers}
use Rattle.nearest_hit.proofs.NearestHits.{FirstNearest, hit_of_first_nearest}
use Rattle.lists.specs.Lists.{count}
use Rattle.tree.specs.Layout.{word_at, number_at}
use Rattle.lists.proofs.CountLaws.{member_of_count}
use Rattle.lists.proofs.InOrder.{Rising, rising_sorted}
use Rattle.depth_sort.specs.Order.{ahead}
use Rattle.mesh_hits.specs.HitArea.{HitArea, depth_of, hits_of, depth_at}
use Rattle.mesh_hits.specs.HitListing.{listing_of}
use Rattle.mesh_hits.specs.Promise.{Ascends, first_of}
use Rattle.depth_sort.proofs.OrderLaws.{ahead_total, ahead_transitive, ahead_antisymmetric, ahead_itself, ahead_level, ahead_nearer}
use Rattle.mesh_hits.proofs.PlaceLaws.{at_counted, Place, IsHitOf}
use Rattle.mesh_hits.proofs.CountedHits.{places, Counted, index_at, place_at, hit_at_lem}
use Rattle.mesh_hits.proofs.CastAmong.{hit_is, placed, of_list, empty_if}

-- ---- sorted lists and lists that do not fall
module _ (depth : ℕ → Float) where
  rises_at_lem : (ts : List ℕ) (j : ℕ) → Rising (ahead depth) ts → suc j < length ts → ahead depth (word_at ts j) (word_at ts (suc j))
      ≡ true
  rises_at_lem [] j r h = absurd (omega arith)
  rises_at_lem (x ∷ []) j r h = absurd (omega arith)
  rises_at_lem (x ∷ (y ∷ ts)) zero r h = r.0
  rises_at_lem (x ∷ (y ∷ ts)) (suc j) r h = rises_at_lem (y ∷ ts) j r.1 (omega arith)

  itself : (t x : ℕ) → x ≡ t → ahead depth t x ≡ true
  itself t x e = subst (λ (y : ℕ). ahead depth t y ≡ true) (sym e) (ahead_itself depth t)

  first_ahead : (ts : List ℕ) (x : ℕ) → Rising (ahead depth) ts → Memᴰ x ts → ahead depth (word_at ts 0) x ≡ true
  first_ahead [] x r m = absurd (Memᴰ.not-nil m)
  first_ahead (t ∷ []) x r m =
      ⊎_elim (λ (e : x ≡ t). itself t x e) (λ (n : Memᴰ x []). absurd (Memᴰ.not-nil n)) (Memᴰ.cases_cons m)
  first_ahead (t ∷ (u ∷ ts)) x r m =
      ⊎_elim (λ (e : x ≡ t). itself t x e)
      (λ (n : Memᴰ x (u ∷ ts)). ahead_transitive depth t u x r.0 (first_ahead (u ∷ ts) x r.1 n))
      (Memᴰ.cases_cons m)

rising_after : (before : List ℕ) (index : ℕ) (after : List ℕ) → RisingList (before ++ (index ∷ after))
    → Each (λ (j : ℕ). index ≤ j) after
rising_after [] index after a = a.0
rising_after (x ∷ xs) index after a = rising_after xs index after a.1

module _ (answer : ℕ → Answer) (area : HitArea) (l : List ℕ) (k : ℕ) (c : Counted answer area l k) where
  abbrev ts : List ℕ
  ts = places answer area l k

  abbrev depth : ℕ → Float
  depth = depth_at answer

  abbrev after : HitArea
  after = (listing_of answer area l).area

  sorted_rows : Rising (ahead depth) ts
  sorted_rows = rising_sorted (ahead depth) (ahead_total depth) (ahead_transitive depth) (hits_of answer l)

  depth_is : (x : ℕ) (normal : Vec3) (distance : Float) → answer x ≡ hit normal distance → depth x ≡ distance
  unfolding depth_of
  depth_is x normal distance e = ap depth_of e

  -- ---- in order
  depth_at_lem : (j : ℕ) → j < k → number_at after.numbers (4 * j) ≡ depth (word_at ts j)
  depth_at_lem j h =
      let i = hit_at_lem answer area l k c j h in
      (place_at answer area l k c j h i.normal i.distance i.is).distance_is
      ∙ sym (depth_is (word_at ts j) i.normal i.distance i.is)

  pub in_order : Ascends k after
  in_order = record {
    ordered = λ (j : ℕ) (h : suc j < k).
        let below : j < k = omega arith in
        rw (
          depth_at_lem j below,
          depth_at_lem (suc j) h,
          index_at answer area l k c j below,
          index_at answer area l k c (suc j) h,
        )
        (rises_at_lem depth ts j sorted_rows (omega (arith, c.long)));
  }

  -- ---- the first
  module _ (rises : RisingList l) (numbers : HitsAreNumbers answer) (some : 0 < k) where
    module _ (normal : Vec3) (distance : Float) (i : ℕ) (near : nearest_of answer l ≡ hit_at normal distance i) where
      f : FirstNearest answer l normal distance i
      f = hit_of_first_nearest answer normal distance i l (λ (x : ℕ) (m : Memᴰ x l). numbers x) near

      member : Memᴰ i l
      member = subst (Memᴰ i) (sym f.split) (Memᴰ.append_right f.before (Memᴰ.head refl))

      p : Place i ts
      p = placed answer area l k c i member (hit_is (answer i) normal distance f.answers)

      forth : ahead depth (word_at ts 0) i ≡ true
      forth =
          let here = at_counted ts p.place p.inside in
          first_ahead depth ts i sorted_rows (member_of_count i ts (subst (λ (y : ℕ). 0 < count y ts) p.holds here))

      h : IsHitOf (answer (word_at ts 0))
      h = hit_at_lem answer area l k c 0 some

      dx : depth (word_at ts 0) ≡ h.distance
      dx = depth_is (word_at ts 0) h.normal h.distance h.is

      di : depth i ≡ distance
      di = depth_is i normal distance f.answers

      -- one before the cast's hit in the list is farther, one behind it at least as far and of no lower index
      earlier : Memᴰ (word_at ts 0) f.before → ahead depth i (word_at ts 0) ≡ true
      earlier b =
          rw (di, dx)
          (ahead_nearer distance h.distance i (word_at ts 0) (numbers i normal distance f.answers)
          (numbers (word_at ts 0) h.normal h.distance h.is) (f.earlier (word_at ts 0) b h.normal h.distance h.is))

      later : Memᴰ (word_at ts 0) f.after → ahead depth i (word_at ts 0) ≡ true
      later a =
          rw (di, dx)
          (ahead_level distance h.distance i (word_at ts 0) (f.later (word_at ts 0) a h.normal h.distance h.is)
          (rising_after f.before i f.after (subst RisingList f.split rises) (word_at ts 0) a))

      back : ahead depth i (word_at ts 0) ≡ true
      back =
          ⊎_elim earlier
          (λ (b : Memᴰ (word_at ts 0) (i ∷ f.after)).
          ⊎_elim (λ (e : word_at ts 0 ≡ i). itself depth i (word_at ts 0) e) later (Memᴰ.cases_cons b))
          (Memᴰ.append_cases f.before (subst (Memᴰ (word_at ts 0)) f.split (of_list answer area l k c 0 some)))

      first_is : word_at ts 0 ≡ i
      first_is = ahead_antisymmetric depth (word_at ts 0) i forth back

      first_place : hit_at normal distance i ≡ first_of after
      first_place =
          let s = place_at answer area l k c 0 some normal distance (ap answer first_is ∙ f.answers) in
          sym (rw (s.distance_is, s.normal_is, index_at answer area l k c 0 some, first_is) refl)

    first_found_lem : (z : Indexed) → nearest_of answer l ≡ z → nearest_of answer l ≡ first_of after
    first_found_lem (stopped number) e = absurd (c.goes number e)
    first_found_lem no_hit e = let none = empty_if answer area l k c e in absurd (omega arith)
    first_found_lem (hit_at normal distance i) e = e ∙ first_place normal distance i e

    pub first_is_the_cast : nearest_of answer l ≡ first_of after
    first_is_the_cast = first_found_lem (nearest_of answer l) refl
