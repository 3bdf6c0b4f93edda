-- What stands at the places of a listing: each hit's distance and normal. Assumes nothing.
use Prim.Native.Nat.{ℕ, zero, suc, ◌+◌, ◌*◌, ◌<◌}
use mathlib.Core.Path.{◌≡◌, refl, sym, ap, subst, ◌∙◌}
use mathlib.Core.Logic.{◌⊎◌, inl, inr}
use mathlib.Core.Bool.{true, true≢false}
use mathlib.Core.List.{List, [], ◌∷◌, ◌++◌, append_assoc}
use native.Mathlib.Omega.{arith}
use lib.Ieee.{Float, nan}
use lib.ListN.{length, get_or}
use lib.Seq.{get_or-append-add}
use Rattle.vectors.specs.declared.vec3.Vec3.{Vec3}
use Rattle.casts.specs.Answer.{Answer, hit, none, refused}
use Rattle.lists.specs.Lists.{count}
use Rattle.tree.specs.Layout.{number_at, word_at, vector_at}
use Rattle.lists.proofs.CountLaws.{one_same, one_other, same_or_other, count_cons, count_nil}
use Rattle.mesh_hits.specs.HitArea.{is_hit, place_of, numbers_of}

-- ---- a number of a list stands at a place
pub at_counted : (l : List ℕ) (j : ℕ) → j < length l → 0 < count (get_or l j 0) l
at_counted [] j h = absurd (omega arith)
at_counted (x ∷ l) zero h = omega (arith, count_cons x x l, one_same x x refl)
at_counted (x ∷ l) (suc j) h = omega (arith, count_cons (get_or l j 0) x l, at_counted l j (omega arith))

pub record Place (x : ℕ) (l : List ℕ) : Type 0 where
  pub place : ℕ
  pub inside : place < length l
  pub holds : get_or l place 0 ≡ x

pub place_of_lem : (x : ℕ) (l : List ℕ) → 0 < count x l → Place x l
place_of_lem x [] h = absurd (omega (arith, count_nil x))
place_of_lem x (y ∷ l) h = go (same_or_other x y) (place_of_lem x l)
  where
    go : (x ≡ y) ⊎ (x ≡ y → ⊥) → (0 < count x l → Place x l) → Place x (y ∷ l)
    go (inl e) rest = record { place = 0; inside = omega arith; holds = sym e }
    go (inr n) rest =
        let p = rest (omega (arith, count_cons x y l, one_other x y n)) in
        record { place = suc p.place; inside = omega (arith, p.inside); holds = p.holds }

-- ---- a hit
pub record IsHitOf (a : Answer) : Type 0 where
  pub normal : Vec3
  pub distance : Float
  pub is : a ≡ hit normal distance

pub hit_of_lem : (a : Answer) → is_hit a ≡ true → IsHitOf a
unfolding is_hit
hit_of_lem (hit normal distance) h = record { normal = normal; distance = distance; is = refl }
hit_of_lem none h = absurd (true≢false (sym h))
hit_of_lem (refused number) h = absurd (true≢false (sym h))

place_long : (a : Answer) → is_hit a ≡ true → length (place_of a) ≡ 4
unfolding is_hit place_of
place_long (hit normal distance) h = refl
place_long none h = absurd (true≢false (sym h))
place_long (refused number) h = absurd (true≢false (sym h))

module _ (answer : ℕ → Answer) where
  abbrev pub AllHit : List ℕ → Type 0
  AllHit ts = (x : ℕ) → 0 < count x ts → is_hit (answer x) ≡ true

  pub record NumbersAt (numbers : List Float) (at : ℕ) (normal : Vec3) (distance : Float) : Type 0 where
    pub distance_is : number_at numbers at ≡ distance
    pub normal_is : vector_at numbers (at + 1) ≡ normal

  here : (normal : Vec3) (distance : Float) (rest : List Float) → NumbersAt (place_of (hit normal distance) ++ rest) 0 normal distance
  unfolding place_of vector_at
  here normal distance rest = record { distance_is = refl; normal_is = refl }

  vector_later : (P rest : List Float) (i : ℕ) → length P ≡ 4 → vector_at (P ++ rest) (4 + i) ≡ vector_at rest i
  unfolding vector_at
  vector_later P rest i l =
      let e : (j : ℕ) → number_at (P ++ rest) (4 + i + j) ≡ number_at rest (i + j) =
      λ (j : ℕ). let k : 4 + i + j ≡ length P + (i + j) = omega (arith, l) in ap (number_at (P ++ rest)) k
      ∙ get_or-append-add P rest (i + j) nan
      in
      let z : number_at (P ++ rest) (4 + i) ≡ number_at rest i =
      let k : 4 + i ≡ length P + i = omega (arith, l) in ap (number_at (P ++ rest)) k ∙ get_or-append-add P rest i nan
      in
      rw (z, e 1, e 2)

  pub stands_at : (ts : List ℕ) (rest : List Float) (j : ℕ) (normal : Vec3) (distance : Float) → AllHit ts → j < length ts
      → answer (word_at ts j) ≡ hit normal distance
      → NumbersAt (numbers_of answer ts ++ rest) (4 * j) normal distance
  unfolding numbers_of
  stands_at [] rest j normal distance all h e = absurd (omega arith)
  stands_at (t ∷ ts) rest zero normal distance all h e =
      subst (λ (l : List Float). NumbersAt l 0 normal distance) (sym (append_assoc (place_of (answer t)) (numbers_of answer ts) rest))
      (subst (λ (a : Answer). NumbersAt (place_of a ++ (numbers_of answer ts ++ rest)) 0 normal distance) (sym e)
      (here normal distance (numbers_of answer ts ++ rest)))
  stands_at (t ∷ ts) rest (suc j) normal distance all h e =
      let l = place_long (answer t) (all t (omega (arith, count_cons t t ts, one_same t t refl))) in
      let ih = stands_at ts rest j normal distance (λ x c. all x (omega (arith, count_cons x t ts))) (omega arith) e in
      let k : 4 * suc j ≡ length (place_of (answer t)) + 4 * j = omega (arith, l) in
      let k' : 4 * suc j + 1 ≡ 4 + (4 * j + 1) = omega arith in
      subst (λ (z : List Float). NumbersAt z (4 * suc j) normal distance)
      (sym (append_assoc (place_of (answer t)) (numbers_of answer ts) rest))
      record {
        distance_is = ap (number_at (place_of (answer t) ++ (numbers_of answer ts ++ rest))) k
            ∙ get_or-append-add (place_of (answer t)) (numbers_of answer ts ++ rest) (4 * j) nan ∙ ih.distance_is;
        normal_is = ap (vector_at (place_of (answer t) ++ (numbers_of answer ts ++ rest))) k'
            ∙ vector_later (place_of (answer t)) (numbers_of answer ts ++ rest) (4 * j + 1) l ∙ ih.normal_is;
      }
