-- Of two that come, it does not matter which comes first: the one that goes before the other is kept. Assumes that the test is asymmetric
-- and transitive and tells any two apart that are not the same.
use Prim.Native.Nat.{ℕ, ◌<◌, ◌≤◌}
use mathlib.Core.Path.{◌≡◌, refl, sym, ap, ◌∙◌}
use mathlib.Core.Logic.{◌⊎◌, inl, inr}
use mathlib.Core.Bool.{Bool, true, false, ◌&&◌, ◌||◌, cond, true≢false, false≢true}
use native.Mathlib.Omega.{arith}
use borrow.Author.Tests.{lt-ltb, le-ltb, ltb-true, ltb-false}
use lib.Dec.{ltb}
use lib.Ieee.{Float, lt, le, is_nan}
use Rattle.arithmetic.proofs.Order.{not_lt_of_le, lt_asymmetric, le_of_not_lt, le_transitive, lt_of_lt_le, lt_of_le_lt, lt_transitive}
use Rattle.lists.proofs.JoinedTests.{and_first, and_second}
use Rattle.nearest_hit.specs.Summary.{Kept, nobody, kept, keep_of, Found, found, lower, nearer}

-- a test that goes one way only, and on
pub record Goes {A : Type 0} (before : A → A → Bool) : Type 0 where
  pub one_way : (a b : A) → before a b ≡ true → before b a ≡ false
  pub on : (a b c : A) → before a b ≡ true → before b c ≡ true → before a c ≡ true

-- the same, or one before the other
pub record Apart {A : Type 0} (before : A → A → Bool) (a b : A) : Type 0 where
  pub same : before a b ≡ false → before b a ≡ false → a ≡ b

module _ {A : Type 0} (before : A → A → Bool) (goes : Goes before) (a b : A) (apart : Apart before a b) where
  keep_first : cond (before b a) (kept b) (kept a) ≡ cond (before a b) (kept a) (kept b)
  keep_first = go (before a b) refl (before b a) refl
    where
      go : (p : Bool) → before a b ≡ p → (q : Bool) → before b a ≡ q → cond q (kept b) (kept a) ≡ cond p (kept a) (kept b)
      go true e true f = absurd (true≢false (sym f ∙ goes.one_way a b e))
      go true e false f = refl
      go false e true f = refl
      go false e false f = ap kept (apart.same e f)

  pub keep_commutes : (k : Kept A) → keep_of before (keep_of before k a) b ≡ keep_of before (keep_of before k b) a
  unfolding keep_of
  keep_commutes nobody = keep_first
  keep_commutes (kept c) = go (before a c) refl (before b c) refl (before a b) refl (before b a) refl
    where
      go : (p : Bool) → before a c ≡ p → (q : Bool) → before b c ≡ q → (u : Bool) → before a b ≡ u → (v : Bool) → before b a ≡ v
          → keep_of before (cond p (kept a) (kept c)) b ≡ keep_of before (cond q (kept b) (kept c)) a
      go true e true f u g v h = keep_first
      go true e false f u g true h = absurd (true≢false (sym (goes.on b a c h e) ∙ f))
      go true e false f u g false h = simp (h, e)
      go false e true f true g v h = absurd (true≢false (sym (goes.on a b c g f) ∙ e))
      go false e true f false g v h = simp (g, f)
      go false e false f u g v h = simp (e, f)

-- ---- the lowest index
ltb_goes : Goes ltb
ltb_goes = record {
  one_way = λ a b h. let k : a < b = ltb-true a b h in le-ltb b a (omega arith);
  on = λ a b c h k. let u : a < b = ltb-true a b h in let v : b < c = ltb-true b c k in lt-ltb a c (omega arith);
}

ltb_apart : (a b : ℕ) → Apart ltb a b
ltb_apart a b = record { same = λ h k. let u : b ≤ a = ltb-false a b h in let v : a ≤ b = ltb-false b a k in omega arith }

-- an index has one distance, and one number
found_same : {A : Type 0} (i j : ℕ) (d e : A) → i ≡ j → (i ≡ j → d ≡ e) → found i d ≡ found j e
found_same i j d e h same = let k : d ≡ e = same h in cc

pub lower_goes : {A : Type 0} → Goes (lower {A = A})
unfolding lower
lower_goes = record {
  one_way = λ a b. ltb_goes.one_way a.index b.index;
  on = λ a b c. ltb_goes.on a.index b.index c.index;
}

pub lower_apart : {A : Type 0} (i j : ℕ) (d e : A) → (i ≡ j → d ≡ e) → Apart lower (found i d) (found j e)
unfolding lower
lower_apart i j d e same = record { same = λ h k. found_same i j d e ((ltb_apart i j).same h k) same }

-- ---- the nearest, the lowest of equals
nearer_cases : (a b : Found Float) → nearer a b ≡ true → (lt a.value b.value ≡ true) ⊎
    ((le a.value b.value ≡ true) × (ltb a.index b.index ≡ true))
unfolding nearer
nearer_cases a b = go (lt a.value b.value) (le a.value b.value) (ltb a.index b.index)
  where
    go : (p q r : Bool) → (p || (q && r)) ≡ true → (p ≡ true) ⊎ ((q ≡ true) × (r ≡ true))
    go true q r h = inl refl
    go false q r h = inr (and_first q r h, and_second q r h)

not_nearer : (a b : Found Float) → nearer a b ≡ false → (lt a.value b.value ≡ false) ×
    (le a.value b.value ≡ true → ltb a.index b.index ≡ false)
unfolding nearer
not_nearer a b = go (lt a.value b.value) (le a.value b.value) (ltb a.index b.index)
  where
    go : (p q r : Bool) → (p || (q && r)) ≡ false → (p ≡ false) × (q ≡ true → r ≡ false)
    go true q r h = absurd (true≢false h)
    go false true r h = (refl, λ e. h)
    go false false r h = (refl, λ e. absurd (false≢true e))

pub nearer_by_distance : (a b : Found Float) → lt a.value b.value ≡ true → nearer a b ≡ true
unfolding nearer
nearer_by_distance a b h = simp h

nearer_by_index : (a b : Found Float) → le a.value b.value ≡ true → ltb a.index b.index ≡ true → nearer a b ≡ true
unfolding nearer
nearer_by_index a b h k = go (lt a.value b.value)
  where
    go : (p : Bool) → (p || (le a.value b.value && ltb a.index b.index)) ≡ true
    go true = refl
    go false = simp (h, k)

-- not nearer where the other is as near at least and not higher
pub stays_nearest : (a b : Found Float) → lt a.value b.value ≡ false → ltb a.index b.index ≡ false → nearer a b ≡ false
unfolding nearer
stays_nearest a b h k = simp (h, k) (go (le a.value b.value))
  where
    go : (p : Bool) → (p && false) ≡ false
    go true = refl
    go false = refl

one_nearer : (a b : Found Float) → nearer a b ≡ true → nearer b a ≡ false
one_nearer a b h = go (nearer b a) refl
  where
    both : (lt a.value b.value ≡ true) ⊎ ((le a.value b.value ≡ true) × (ltb a.index b.index ≡ true))
        → (lt b.value a.value ≡ true) ⊎ ((le b.value a.value ≡ true) × (ltb b.index a.index ≡ true)) → ⊥
    both (inl p) (inl q) = true≢false (sym q ∙ lt_asymmetric a.value b.value p)
    both (inl p) (inr q) = true≢false (sym p ∙ not_lt_of_le b.value a.value q.0)
    both (inr p) (inl q) = true≢false (sym q ∙ not_lt_of_le a.value b.value p.0)
    both (inr p) (inr q) = true≢false (sym q.1 ∙ ltb_goes.one_way a.index b.index p.1)

    go : (v : Bool) → nearer b a ≡ v → v ≡ false
    go true k = absurd (both (nearer_cases a b h) (nearer_cases b a k))
    go false k = refl

nearer_on : (a b c : Found Float) → nearer a b ≡ true → nearer b c ≡ true → nearer a c ≡ true
nearer_on a b c h k = go (nearer_cases a b h) (nearer_cases b c k)
  where
    go : (lt a.value b.value ≡ true) ⊎ ((le a.value b.value ≡ true) × (ltb a.index b.index ≡ true))
        → (lt b.value c.value ≡ true) ⊎ ((le b.value c.value ≡ true) × (ltb b.index c.index ≡ true)) → nearer a c ≡ true
    go (inl p) (inl q) = nearer_by_distance a c (lt_transitive a.value b.value c.value p q)
    go (inl p) (inr q) = nearer_by_distance a c (lt_of_lt_le a.value b.value c.value p q.0)
    go (inr p) (inl q) = nearer_by_distance a c (lt_of_le_lt a.value b.value c.value p.0 q)
    go (inr p) (inr q) =
        nearer_by_index a c (le_transitive a.value b.value c.value p.0 q.0)
        (ltb_goes.on a.index b.index c.index p.1 q.1)

pub nearer_goes : Goes nearer
nearer_goes = record { one_way = one_nearer; on = nearer_on }

pub nearer_apart : (i j : ℕ) (d e : Float) → is_nan d ≡ false → is_nan e ≡ false → (i ≡ j → d ≡ e) → Apart nearer (found i d) (found j e)
nearer_apart i j d e n m same = record {
  same =
      λ h k.
      let a = not_nearer (found i d) (found j e) h in
      let b = not_nearer (found j e) (found i d) k in
      found_same i j d e ((ltb_apart i j).same (a.1 (le_of_not_lt d e n m b.0)) (b.1 (le_of_not_lt e d m n a.0))) same;
}
