-- The least of plain numbers, and the greatest, does not depend on their order: it is one of them and none is beyond it. Assumes nothing.
use mathlib.Core.Path.{◌≡◌, refl, sym, ap, ◌∙◌, subst}
use mathlib.Core.Logic.{◌⊎◌, inl, inr}
use mathlib.Core.Bool.{Bool, true, false}
use mathlib.Core.List.{List, [], ◌∷◌}
use Prim.Native.Nat.{ℕ, zero, suc, ◌+◌, ◌<◌}
use native.Mathlib.Omega.{arith}
use lib.Ieee.{Float, le, is_nan}
use lib.ListN.{length, get_or, drop}
use Rattle.arithmetic.specs.Extremes.{minimum_of, maximum_of}
use Rattle.arithmetic.proofs.Order.{le_transitive, le_reflexive}
use Rattle.arithmetic.proofs.ExtremesOrder.{minimum_one, maximum_one, minimum_below_first, minimum_below_second}
use Rattle.arithmetic.proofs.ExtremesOrder.{maximum_above_first, maximum_above_second}
use Rattle.lists.specs.Lists.{count, folded, folded_all}
use Rattle.lists.proofs.CountLaws.{one, one_same, one_other, same_or_other, count_cons, count_nil}
use Rattle.tree_ranges.specs.Plain.{plain}
use Rattle.tree_ranges.proofs.PlainNumbers.{plain_number, plain_same}

-- ---- minimum and maximum alike: a join gives one of two numbers, and neither is beyond it
pub record Extremum (join : Float → Float → Float) (within : Float → Float → Bool) : Type 0 where
  pub picks : (x y : Float) → (join x y ≡ x) ⊎ (join x y ≡ y)
  pub first : (x y : Float) → is_nan x ≡ false → is_nan y ≡ false → within (join x y) x ≡ true
  pub second : (x y : Float) → is_nan x ≡ false → is_nan y ≡ false → within (join x y) y ≡ true
  pub through : (x y z : Float) → within x y ≡ true → within y z ≡ true → within x z ≡ true
  pub itself : (x : Float) → is_nan x ≡ false → within x x ≡ true
  pub same : (x y : Float) → plain x ≡ true → plain y ≡ true → within x y ≡ true → within y x ≡ true → x ≡ y

pub least : Extremum minimum_of le
least = record {
  picks = minimum_one;
  first = minimum_below_first;
  second = minimum_below_second;
  through = le_transitive;
  itself = le_reflexive;
  same = plain_same;
}

pub greatest : Extremum maximum_of (λ (x y : Float). le y x)
greatest = record {
  picks = maximum_one;
  first = maximum_above_first;
  second = maximum_above_second;
  through = λ (x y z : Float) h k. le_transitive z y x k h;
  itself = le_reflexive;
  same = λ (x y : Float) p q h k. plain_same x y p q k h;
}

module _ (join : Float → Float → Float) (within : Float → Float → Bool) (extremum : Extremum join within) (value : ℕ → Float) where
  -- one of the values of a list, that none of them is beyond
  pub record Among (ts : List ℕ) (m : Float) : Type 0 where
    pub source : ℕ
    pub listed : 0 < count source ts
    pub is : m ≡ value source
    pub bounds : (t : ℕ) → 0 < count t ts → within m (value t) ≡ true

  -- one more that a listed one is not beyond
  more : (l l' : List ℕ) (m : Float) (b c : ℕ) → ((s : ℕ) → count s l' ≡ one s c + count s l) → 0 < count b l
      → within (value b) (value c) ≡ true → Among l m → Among l' m
  more l l' m b c counted h k a = record {
    source = a.source;
    listed = omega (arith, counted a.source, a.listed);
    is = a.is;
    bounds = λ s g. reached s g (same_or_other s c);
  }
    where
      reached : (s : ℕ) → 0 < count s l' → (s ≡ c) ⊎ (s ≡ c → ⊥) → within m (value s) ≡ true
      reached s g (inl e) = extremum.through m (value b) (value s) (a.bounds b h) (ap (λ (j : ℕ). within (value b) (value j)) e ∙ k)
      reached s g (inr n) = a.bounds s (omega (arith, counted s, one_other s c n))

  abbrev Numbered : List ℕ → Type 0
  Numbered ts = (t : ℕ) → 0 < count t ts → is_nan (value t) ≡ false

  step : (a t : ℕ) (ts : List ℕ) → is_nan (value a) ≡ false → is_nan (value t) ≡ false
      → Among (a ∷ ts) (folded join value (value a) ts) → Among (t ∷ ts) (folded join value (value t) ts)
      → (join (value a) (value t) ≡ value a) ⊎ (join (value a) (value t) ≡ value t)
      → Among (a ∷ (t ∷ ts)) (folded join value (join (value a) (value t)) ts)
  step a t ts p q by-a by-t (inl e) =
      subst (λ (z : Float). Among (a ∷ (t ∷ ts)) (folded join value z ts)) (sym e)
      (more (a ∷ ts) (a ∷ (t ∷ ts)) (folded join value (value a) ts) a t
      (λ s. omega (arith, count_cons s a (t ∷ ts), count_cons s t ts, count_cons s a ts))
      (omega (arith, count_cons a a ts, one_same a a refl))
      (ap (λ (z : Float). within z (value t)) (sym e) ∙ extremum.second (value a) (value t) p q) by-a)
  step a t ts p q by-a by-t (inr e) =
      subst (λ (z : Float). Among (a ∷ (t ∷ ts)) (folded join value z ts)) (sym e)
      (more (t ∷ ts) (a ∷ (t ∷ ts)) (folded join value (value t) ts) t a (λ s. count_cons s a (t ∷ ts))
      (omega (arith, count_cons t t ts, one_same t t refl))
      (ap (λ (z : Float). within z (value a)) (sym e) ∙ extremum.first (value a) (value t) p q) by-t)

  alone : (a : ℕ) → is_nan (value a) ≡ false → Among (a ∷ []) (value a)
  alone a p = record {
    source = a;
    listed = omega (arith, count_cons a a [], one_same a a refl);
    is = refl;
    bounds = λ s g. reached s g (same_or_other s a);
  }
    where
      reached : (s : ℕ) → 0 < count s (a ∷ []) → (s ≡ a) ⊎ (s ≡ a → ⊥) → within (value a) (value s) ≡ true
      reached s g (inl e) = ap (λ (j : ℕ). within (value a) (value j)) e ∙ extremum.itself (value a) p
      reached s g (inr n) = absurd (omega (arith, count_cons s a [], one_other s a n, count_nil s))

  fold_among : (a : ℕ) (ts : List ℕ) → Numbered (a ∷ ts) → Among (a ∷ ts) (folded join value (value a) ts)
  unfolding folded
  fold_among a [] n = alone a (n a (omega (arith, count_cons a a [], one_same a a refl)))
  fold_among a (t ∷ ts) n =
      let at_a = n a (omega (arith, count_cons a a (t ∷ ts), one_same a a refl)) in
      let at-t = n t (omega (arith, count_cons t a (t ∷ ts), count_cons t t ts, one_same t t refl)) in
      step a t ts at_a at-t
      (fold_among a ts (λ s g. n s (omega (arith, count_cons s a (t ∷ ts), count_cons s t ts, count_cons s a ts))))
      (fold_among t ts (λ s g. n s (omega (arith, count_cons s a (t ∷ ts)))))
      (extremum.picks (value a) (value t))

  -- the same numbers in two lists
  module _ (ts us : List ℕ) (counted : (t : ℕ) → count t ts ≡ count t us) (plains : (t : ℕ) → 0 < count t ts → plain (value t) ≡ true) where
    same_among : (m k : Float) → Among ts m → Among us k → m ≡ k
    same_among m k a b =
        extremum.same m k
        (ap plain a.is ∙ plains a.source a.listed)
        (ap plain b.is ∙ plains b.source (omega (arith, counted b.source, b.listed)))
        (ap (within m) b.is ∙ a.bounds b.source (omega (arith, counted b.source, b.listed)))
        (ap (within k) a.is ∙ b.bounds a.source (omega (arith, counted a.source, a.listed)))

  pub fold_same : (ts us : List ℕ) → ((t : ℕ) → count t ts ≡ count t us) → ((t : ℕ) → 0 < count t ts → plain (value t) ≡ true)
      → folded_all join value ts ≡ folded_all join value us
  fold_same [] [] counted plains = refl
  fold_same [] (y ∷ ys) counted plains = absurd (omega (arith, counted y, count_nil y, count_cons y y ys, one_same y y refl))
  fold_same (x ∷ xs) [] counted plains = absurd (omega (arith, counted x, count_nil x, count_cons x x xs, one_same x x refl))
  fold_same (x ∷ xs) (y ∷ ys) counted plains =
      same_among (x ∷ xs) (y ∷ ys) counted plains (folded join value (value x) xs) (folded join value (value y) ys)
      (fold_among x xs (λ t g. plain_number (value t) (plains t g)))
      (fold_among y ys (λ t g. plain_number (value t) (plains t (omega (arith, counted t)))))

  -- ---- two lists that are joined to a third
  joined_among : (l r ts : List ℕ) (m k : Float) → ((t : ℕ) → count t ts ≡ count t l + count t r) → is_nan m ≡ false → is_nan k ≡ false
      → Among l m → Among r k → Among ts (join m k)
  joined_among l r ts m k counted p q a b = picked (extremum.picks m k)
    where
      from_left : (t n : ℕ) → count t l ≡ n → 0 < count t ts → within (join m k) (value t) ≡ true
      from_left t zero e h = extremum.through (join m k) k (value t) (extremum.second m k p q) (b.bounds t (omega (arith, counted t)))
      from_left t (suc n) e h = extremum.through (join m k) m (value t) (extremum.first m k p q) (a.bounds t (omega arith))

      picked : (join m k ≡ m) ⊎ (join m k ≡ k) → Among ts (join m k)
      picked (inl e) = record {
        source = a.source;
        listed = omega (arith, counted a.source, a.listed);
        is = e ∙ a.is;
        bounds = λ t h. from_left t (count t l) refl h;
      }
      picked (inr e) = record {
        source = b.source;
        listed = omega (arith, counted b.source, b.listed);
        is = e ∙ b.is;
        bounds = λ t h. from_left t (count t l) refl h;
      }

  pub fold_joined : (ts l r : List ℕ) → 0 < length l → 0 < length r → ((t : ℕ) → count t ts ≡ count t l + count t r)
      → ((t : ℕ) → 0 < count t ts → plain (value t) ≡ true)
      → folded_all join value ts ≡ join (folded_all join value l) (folded_all join value r)
  fold_joined ts [] r some any counted plains = absurd (omega arith)
  fold_joined ts (x ∷ xs) [] some any counted plains = absurd (omega arith)
  fold_joined [] (x ∷ xs) (y ∷ ys) some any counted plains =
      absurd (omega (arith, counted x, count_nil x, count_cons x x xs, one_same x x refl))
  fold_joined (z ∷ zs) (x ∷ xs) (y ∷ ys) some any counted plains =
      let number : (t : ℕ) → 0 < count t (z ∷ zs) → is_nan (value t) ≡ false = λ t h. plain_number (value t) (plains t h) in
      let a = fold_among x xs (λ t h. number t (omega (arith, counted t))) in
      let b = fold_among y ys (λ t h. number t (omega (arith, counted t))) in
      let m = folded join value (value x) xs in
      let k = folded join value (value y) ys in
      let p : is_nan m ≡ false = ap is_nan a.is ∙ number a.source (omega (arith, counted a.source, a.listed)) in
      let q : is_nan k ≡ false = ap is_nan b.is ∙ number b.source (omega (arith, counted b.source, b.listed)) in
      same_among (z ∷ zs) (z ∷ zs) (λ t. refl) plains (folded join value (value z) zs) (join m k) (fold_among z zs number)
      (joined_among (x ∷ xs) (y ∷ ys) (z ∷ zs) m k counted p q a b)

-- ---- a part of what is folded, by itself
module _ {A : Type 0} (part : A → Float) (join : A → A → A) (only : Float → Float → Float) (value : ℕ → A)
    (apart : (x y : A) → part (join x y) ≡ only (part x) (part y)) where
  part_folded : (so_far : A) (ts : List ℕ) → part (folded join value so_far ts) ≡ folded only (λ (t : ℕ). part (value t)) (part so_far) ts
  unfolding folded
  part_folded so_far [] = refl
  part_folded so_far (t ∷ ts) =
      part_folded (join so_far (value t)) ts
      ∙ ap (λ (z : Float). folded only (λ (s : ℕ). part (value s)) z ts) (apart so_far (value t))

  pub part_same : (within : Float → Float → Bool) → Extremum only within → (ts us : List ℕ) → ((t : ℕ) → count t ts ≡ count t us)
      → ((t : ℕ) → 0 < count t ts → plain (part (value t)) ≡ true) → part (folded_all join value ts) ≡ part (folded_all join value us)
  part_same within extremum ts us counted plains =
      part_folded (value (get_or ts 0 0)) (drop 1 ts)
      ∙ fold_same only within extremum (λ (t : ℕ). part (value t)) ts us counted plains
      ∙ sym (part_folded (value (get_or us 0 0)) (drop 1 us))

  pub part_joined : (within : Float → Float → Bool) → Extremum only within → (ts l r : List ℕ) → 0 < length l → 0 < length r
      → ((t : ℕ) → count t ts ≡ count t l + count t r) → ((t : ℕ) → 0 < count t ts → plain (part (value t)) ≡ true)
      → part (folded_all join value ts) ≡ part (join (folded_all join value l) (folded_all join value r))
  part_joined within extremum ts l r some any counted plains =
      part_folded (value (get_or ts 0 0)) (drop 1 ts)
      ∙ fold_joined only within extremum (λ (t : ℕ). part (value t)) ts l r some any counted plains
      ∙ ap (λ (z : Float). only z (folded_all only (λ (t : ℕ). part (value t)) r)) (sym (part_folded (value (get_or l 0 0)) (drop 1 l)))
      ∙ ap (only (part (folded_all join value l))) (sym (part_folded (value (get_or r 0 0)) (drop 1 r)))
      ∙ sym (apart (folded_all join value l) (folded_all join value r))
