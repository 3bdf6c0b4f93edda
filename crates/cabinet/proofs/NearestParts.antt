-- The nearest of the parts' answers: without the triangle it is casts' fold over the parts' numbers, so the first refusal, and else the
-- least distance with the lowest part on ties; and the triangle is that part's own. Assumes nothing.
use Prim.Native.Nat.{ℕ, suc, ◌+◌, ◌<◌}
use mathlib.Core.Path.{◌≡◌, refl, sym, ap, ◌∙◌}
use mathlib.Core.Logic.{◌⊎◌, inl, inr}
use mathlib.Core.Bool.{Bool, true, false, cond}
use mathlib.Core.List.{List, [], ◌∷◌, Memᴰ}
use native.Mathlib.Omega.{arith}
use native.Mathlib.Numerals.{add-one}
use borrow.Author.Tests.{lt-ltb}
use lib.Ieee.{Float, lt}
use lib.ListN.{length, get_or}
use Rattle.vectors.specs.declared.vec3.Vec3.{Vec3}
use Rattle.casts.specs.Answer.{Answer}
use Rattle.nearest_hit.specs.Nearest.{Indexed, hit_at, no_hit, stopped, next_of, fold_from, nearest_of, without_index}
use Rattle.lists.specs.Lists.{range}
use Rattle.lists.proofs.CountLaws.{member_of_count, count_range_inside}
use Rattle.cabinet.specs.declared.part.Part.{Part}
use Rattle.cabinet.specs.Found.{Found, Nothing, Hit, Refused}
use Rattle.cabinet.specs.Cabinet.{found_next, next_part}
use Rattle.cabinet.specs.Promises.{nearest_part}
use Rattle.cabinet.specs.Steps.{no_part}

-- the part in the triangle's place
abbrev pub by_part : Found → Indexed
by_part Nothing = no_hit
by_part (Hit part index normal distance) = hit_at normal distance part
by_part (Refused number) = stopped number

next_by_part : (f : Found) (part : ℕ) (a : Indexed) → by_part (found_next f part a) ≡ next_of (by_part f) part (without_index a)
unfolding found_next next_of without_index
next_by_part (Refused k) part a = refl
next_by_part Nothing part (hit_at n d i) = refl
next_by_part Nothing part no_hit = refl
next_by_part Nothing part (stopped k) = refl
next_by_part (Hit q j n d) part (hit_at n' d' i) = go (lt d' d)
  where
    go : (b : Bool) → by_part (cond b (Hit part i n' d') (Hit q j n d)) ≡ cond b (hit_at n' d' part) (hit_at n d q)
    go true = refl
    go false = refl
next_by_part (Hit q j n d) part no_hit = refl
next_by_part (Hit q j n d) part (stopped k) = refl

-- no list in memory is so long that a part's number stays behind
next_is : (k : ℕ) → k < 18446744073709551615 → next_part k ≡ suc k
next_is k h = simp (lt-ltb k 18446744073709551615 h) (add-one k)

module _ (answer : Part → Indexed) (answers : ℕ → Answer) where
  -- the answers of the parts from a number on
  abbrev From : ℕ → List Part → Type 0
  From k ps = (i : ℕ) → i < length ps → answers (k + i) ≡ without_index (answer (get_or ps i no_part))

  pub nearest_by_part : (f : Found) (k : ℕ) (ps : List Part) → k + length ps < 18446744073709551616 → From k ps
      → by_part (nearest_part answer f k ps) ≡ fold_from answers (by_part f) (range k (length ps))
  unfolding nearest_part fold_from range
  nearest_by_part f k [] l h = refl
  nearest_by_part f k (p ∷ ps) l h =
      let here : answers k ≡ without_index (answer p) = (let e : k ≡ k + 0 = omega arith in ap answers e) ∙ h 0 (omega arith) in
      let next = next_is k (omega arith) in
      ap (λ (j : ℕ). by_part (nearest_part answer (found_next f k (answer p)) j ps)) next
      ∙ nearest_by_part (found_next f k (answer p)) (suc k) ps (omega arith)
      (λ (i : ℕ) (m : i < length ps). let e : suc k + i ≡ k + suc i = omega arith in ap answers e ∙ h (suc i) (omega arith))
      ∙ ap (λ (x : Indexed). fold_from answers x (range (suc k) (length ps))) (next_by_part f k (answer p) ∙ ap (next_of (by_part f) k)
      (sym here))

-- ---- the triangle: a hit is one part's whole answer
module _ (answer : Part → Indexed) (part triangle : ℕ) (normal : Vec3) (distance : Float) where
  -- of parts that are numbered from k on
  pub record Answered (k : ℕ) (ps : List Part) : Type 0 where
    pub place : ℕ
    pub inside : place < length ps
    pub number : part ≡ k + place
    pub hits : answer (get_or ps place no_part) ≡ hit_at normal distance triangle

  abbrev pub found : Found
  found = Hit part triangle normal distance

  taken : (k index : ℕ) (n : Vec3) (d : Float) (p : Part) (ps : List Part) → answer p ≡ hit_at n d index → Hit k index n d ≡ found
      → Answered k (p ∷ ps)
  taken k index n d p ps e h =
      let same : part ≡ k = cc in
      let alike : hit_at n d index ≡ hit_at normal distance triangle = cc in
      record { place = 0; inside = omega arith; number = omega (arith, same); hits = e ∙ alike }

  next_either : (f : Found) (k : ℕ) (p : Part) (ps : List Part) (a : Indexed) → answer p ≡ a → found_next f k a ≡ found
      → (f ≡ found) ⊎ Answered k (p ∷ ps)
  unfolding found_next
  next_either (Refused number) k p ps a e h = inl h
  next_either Nothing k p ps (hit_at n d i) e h = inr (taken k i n d p ps e h)
  next_either Nothing k p ps no_hit e h = inl h
  next_either Nothing k p ps (stopped number) e h = absurd (let z : ◌≡◌ {A = ℕ} 0 1 = cc in omega arith)
  next_either (Hit q j n d) k p ps (hit_at n' d' i) e h = go (lt d' d) h
    where
      go : (b : Bool) → cond b (Hit k i n' d') (Hit q j n d) ≡ found → (Hit q j n d ≡ found) ⊎ Answered k (p ∷ ps)
      go true g = inr (taken k i n' d' p ps e g)
      go false g = inl g
  next_either (Hit q j n d) k p ps no_hit e h = inl h
  next_either (Hit q j n d) k p ps (stopped number) e h = absurd (let z : ◌≡◌ {A = ℕ} 0 1 = cc in omega arith)

  nearest_either : (f : Found) (k : ℕ) (ps : List Part) → k + length ps < 18446744073709551616 → nearest_part answer f k ps ≡ found
      → (f ≡ found) ⊎ Answered k ps
  unfolding nearest_part
  nearest_either f k [] l h = inl h
  nearest_either f k (p ∷ ps) l h =
      let next = next_is k (omega arith) in
      go (nearest_either (found_next f k (answer p)) (suc k) ps (omega arith)
      (ap (λ (j : ℕ). nearest_part answer (found_next f k (answer p)) j ps) (sym next) ∙ h))
    where
      go : (found_next f k (answer p) ≡ found) ⊎ Answered (suc k) ps → (f ≡ found) ⊎ Answered k (p ∷ ps)
      go (inl e) = next_either f k p ps (answer p) refl e
      go (inr m) = inr record {
        place = suc m.place;
        inside = omega (arith, m.inside);
        number = omega (arith, m.number);
        hits = m.hits;
      }

  pub nearest_answered : (ps : List Part) → length ps < 18446744073709551616 → nearest_part answer Nothing 0 ps ≡ found → Answered 0 ps
  nearest_answered ps l h = go (nearest_either Nothing 0 ps (omega arith) h)
    where
      go : (Nothing ≡ found) ⊎ Answered 0 ps → Answered 0 ps
      go (inl e) = absurd (let z : ◌≡◌ {A = ℕ} 0 1 = cc in omega arith)
      go (inr m) = m

-- ---- all parts
module _ (answer : Part → Indexed) (ps : List Part) where
  -- their answers by their numbers
  abbrev pub plain_at : ℕ → Answer
  plain_at k = without_index (answer (get_or ps k no_part))

  pub folded : length ps < 18446744073709551616 → by_part (nearest_part answer Nothing 0 ps) ≡ nearest_of plain_at (range 0 (length ps))
  folded l =
      nearest_by_part answer plain_at Nothing 0 ps (omega arith)
      (λ (i : ℕ) (m : i < length ps). let z : 0 + i ≡ i = omega arith in ap plain_at z)

pub in_range_lem : (k size : ℕ) → k < size → Memᴰ k (range 0 size)
in_range_lem k size h = member_of_count k (range 0 size) (omega (arith, count_range_inside k 0 size (omega arith) (omega arith)))
