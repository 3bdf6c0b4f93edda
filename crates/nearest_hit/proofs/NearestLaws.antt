-- In an ascending list the first is the lowest: the fold of triangle answers stops with the lowest one's refusal, and finds the lowest of
-- the nearest hits. Assumes nothing.
use Prim.Native.Nat.{ℕ, ◌<◌, ◌≤◌}
use mathlib.Core.Path.{◌≡◌, refl, sym, ap, ◌∙◌, subst}
use mathlib.Core.Logic.{◌⊎◌, inl, inr}
use mathlib.Core.Bool.{true}
use mathlib.Core.List.Memᴰ
use mathlib.Core.List.{List, [], ◌∷◌, ◌++◌, Memᴰ}
use native.Mathlib.Omega.{arith}
use lib.Ieee.{Float, lt, le}
use Rattle.arithmetic.proofs.Order.{le_of_lt, le_reflexive}
use Rattle.vectors.specs.declared.vec3.Vec3.{Vec3}
use Rattle.casts.specs.Answer.{Answer, hit, refused}
use Rattle.nearest_hit.specs.Nearest.{hit_at, no_hit, stopped, nearest_of}
use Rattle.lists.proofs.Members.{Each, Ascending}
use Rattle.casts.proofs.AnswerLists.{HitSuch, IsNumber, AtLeast, Farther}
use Rattle.nearest_hit.proofs.IndexedCases.{stopped_not_none}
use Rattle.nearest_hit.proofs.NearestRefusals.{FirstRefusal, stopped_by_first_refusal}
use Rattle.nearest_hit.proofs.NearestHits.{FirstNearest, hit_such, hit_of_first_nearest}

-- what stands after one of them is higher
ascending_after : (before : List ℕ) (index : ℕ) (after : List ℕ) → Ascending (before ++ (index ∷ after)) → Each (λ (j : ℕ). index < j) after
ascending_after [] index after a = a.0
ascending_after (x ∷ xs) index after a = ascending_after xs index after a.1

-- the lowest of a list that refuses
pub record LowestRefusal (answer : ℕ → Answer) (l : List ℕ) (number : ℕ) : Type 0 where
  pub index : ℕ
  pub member : Memᴰ index l
  pub refuses : answer index ≡ refused number
  pub lowest : (j other : ℕ) → Memᴰ j l → answer j ≡ refused other → index ≤ j

-- the lowest of a list's nearest hits
pub record LowestNearest (answer : ℕ → Answer) (l : List ℕ) (normal : Vec3) (distance : Float) (index : ℕ) : Type 0 where
  pub member : Memᴰ index l
  pub answers : answer index ≡ hit normal distance
  pub nearest : Each (HitSuch (AtLeast distance) answer) l
  pub farther_below : (j : ℕ) → Memᴰ j l → j < index → HitSuch (Farther distance) answer j

member_cases : (l before : List ℕ) (index : ℕ) (after : List ℕ) → l ≡ before ++ (index ∷ after) → (j : ℕ) → Memᴰ j l
    → Memᴰ j before ⊎ ((j ≡ index) ⊎ Memᴰ j after)
member_cases l before index after split j m = go (Memᴰ.append_cases before (subst (Memᴰ j) split m))
  where
    go : Memᴰ j before ⊎ Memᴰ j (index ∷ after) → Memᴰ j before ⊎ ((j ≡ index) ⊎ Memᴰ j after)
    go (inl b) = inl b
    go (inr a) = inr (Memᴰ.cases_cons a)

member_at : (l before : List ℕ) (index : ℕ) (after : List ℕ) → l ≡ before ++ (index ∷ after) → Memᴰ index l
member_at l before index after split = subst (Memᴰ index) (sym split) (Memᴰ.append_right before (Memᴰ.head refl))

module _ (answer : ℕ → Answer) (l : List ℕ) (ascending : Ascending l) where
  pub stopped_by_lowest_refusal : (number : ℕ) → nearest_of answer l ≡ stopped number → LowestRefusal answer l number
  stopped_by_lowest_refusal number h = record {
    index = f.index;
    member = member_at l f.before f.index f.after f.split;
    refuses
        = f.refuses;
    lowest = lowest;
  }
    where
      f : FirstRefusal answer l number
      f = stopped_by_first_refusal answer no_hit l number (λ (k : ℕ) (e : no_hit ≡ stopped k). stopped_not_none k (sym e)) h

      parts : Ascending (f.before ++ (f.index ∷ f.after))
      parts = subst Ascending f.split ascending

      lowest : (j other : ℕ) → Memᴰ j l → answer j ≡ refused other → f.index ≤ j
      lowest j other m e = go (member_cases l f.before f.index f.after f.split j m)
        where
          go : Memᴰ j f.before ⊎ ((j ≡ f.index) ⊎ Memᴰ j f.after) → f.index ≤ j
          go (inl b) = absurd (f.earlier j b other e)
          go (inr (inl s)) = omega arith
          go (inr (inr a)) = omega (arith, ascending_after f.before f.index f.after parts j a)

  pub hit_of_lowest_nearest : (normal : Vec3) (distance : Float) (index : ℕ) → Each (HitSuch IsNumber answer) l → nearest_of answer l
      ≡ hit_at
      normal distance index
      → LowestNearest answer l normal distance index
  hit_of_lowest_nearest normal distance index numbers h = record
      { member = member_at l f.before index f.after f.split; answers = f.answers; nearest = nearest; farther_below = below }
    where
      f : FirstNearest answer l normal distance index
      f = hit_of_first_nearest answer normal distance index l numbers h

      parts : Ascending (f.before ++ (index ∷ f.after))
      parts = subst Ascending f.split ascending

      self : le distance distance ≡ true
      self = le_reflexive distance (numbers index (member_at l f.before index f.after f.split) normal distance f.answers)

      nearest : Each (HitSuch (AtLeast distance) answer) l
      nearest j m n d e = go (member_cases l f.before index f.after f.split j m)
        where
          go : Memᴰ j f.before ⊎ ((j ≡ index) ⊎ Memᴰ j f.after) → le distance d ≡ true
          go (inl b) = le_of_lt distance d (f.earlier j b n d e)
          go (inr (inl s)) = hit_such answer (AtLeast distance) j normal distance (ap answer s ∙ f.answers) self n d e
          go (inr (inr a)) = f.later j a n d e

      below : (j : ℕ) → Memᴰ j l → j < index → HitSuch (Farther distance) answer j
      below j m lower n d e = go (member_cases l f.before index f.after f.split j m)
        where
          go : Memᴰ j f.before ⊎ ((j ≡ index) ⊎ Memᴰ j f.after) → lt distance d ≡ true
          go (inl b) = f.earlier j b n d e
          go (inr (inl s)) = absurd (omega arith)
          go (inr (inr a)) = absurd (omega (arith, ascending_after f.before index f.after parts j a))
