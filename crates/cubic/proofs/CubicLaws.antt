-- The halvings turn by turn, and the points where a cubic turns in order between 0 and 1. Assumes nothing.
use mathlib.Core.Path.{◌≡◌, refl, sym, ap, subst, ◌∙◌}
use mathlib.Core.Bool.{Bool, true, false, cond}
use mathlib.Core.List.{List, [], ◌∷◌, ◌++◌}
use Prim.Native.Nat.{ℕ, zero, suc, ◌+◌, ◌-◌, ◌≤◌, ◌<◌}
use native.Mathlib.Omega.{arith}
use lib.Ieee.{Float, of_bits, lt, le, ne, neg}
use Rattle.arithmetic.specs.Basic.{absolute}
use Rattle.arithmetic.specs.Extremes.{maximum_of}
use Rattle.arithmetic.specs.Ordering.{total_order}
use Rattle.arithmetic.proofs.TotalOrder.{lesser_before, greater_not_before}
use Rattle.vectors.specs.Numbers.{◌-ᶠ◌, ◌*ᶠ◌, ◌/ᶠ◌, zeroᶠ, oneᶠ, epsilon}
use Rattle.cubic.specs.Polynomial.{twoᶠ, threeᶠ, fourᶠ}
use Rattle.cubic.specs.Turns.{listed, between_ends, kept_point, kept_points, vertex, turning_by, turning_points, extrema, AllBetween}
use Rattle.cubic.specs.Turns.{none_left, one_more}
use Rattle.cubic.specs.Halving.{halve, halvings, settled}
use Rattle.cubic.specs.Roots.{Root, None, insert, sorted, points, search_on, search_from, search_list}
use Rattle.cubic.specs.declared.polynomial.Cubic.{Cubic}
use Rattle.cubic.specs.declared.turns.Turns.{Turns}
use Rattle.cubic.specs.declared.turns.Turns.TheVariants.{None as NoPoint, One, Two}
use Rattle.cubic.specs.declared.halving.Halving.{Halving}
use Rattle.cubic.specs.declared.halving.Halving.TheVariants.{Found}
use Rattle.lists.proofs.JoinedTests.{and_first, and_second}

-- ---- the halvings: what is left gives the whole
module _ (p : Cubic) (tolerance : Float) where
  found_stays : (n : ℕ) (u : Float) → halvings p tolerance n (Found u) ≡ Found u
  unfolding halvings halve
  found_stays zero u = refl
  found_stays (suc n) u = found_stays n u

  one_turn : (n m : ℕ) (h : Halving) → m + 1 ≡ n → halvings p tolerance n h ≡ halvings p tolerance m (halve p tolerance h)
  unfolding halvings
  one_turn zero m h l = absurd (omega arith)
  one_turn (suc n) m h l = let e : n ≡ m = omega arith in ap (λ (k : ℕ). halvings p tolerance k (halve p tolerance h)) e

  pub turn_open : (n m : ℕ) (h next whole : Halving) → halvings p tolerance n h ≡ whole → m + 1 ≡ n → next ≡ halve p tolerance h
      → halvings p tolerance m next ≡ whole
  turn_open n m h next whole i l e = ap (λ (k : Halving). halvings p tolerance m k) e ∙ sym (one_turn n m h l) ∙ i

  pub turn_found : (n : ℕ) (h whole : Halving) (u : Float) → halvings p tolerance n h ≡ whole → 0 < n → Found u ≡ halve p tolerance h → u ≡
      settled whole
  turn_found n h whole u i l e =
      unfold settled in
      ap settled (sym (found_stays (n - 1) u) ∙ turn_open n (n - 1) h (Found u) whole i (omega arith) e)

  pub turn_last : (n : ℕ) (h whole : Halving) → halvings p tolerance n h ≡ whole → n ≤ 0 → settled h ≡ settled whole
  turn_last zero h whole i l = ap settled (unfold halvings in i)
  turn_last (suc n) h whole i l = absurd (omega arith)

-- ---- the points where a cubic turns lie strictly between 0 and 1
chosen_between : (b : Bool) {us vs : List Float} → AllBetween us → AllBetween vs → AllBetween (cond b us vs)
chosen_between true p q = p
chosen_between false p q = q

joined_between : {us vs : List Float} → AllBetween us → AllBetween vs → AllBetween (us ++ vs)
joined_between none_left q = q
joined_between (one_more h p) q = one_more h (joined_between p q)

kept_between : (u : Float) → AllBetween (kept_point u)
unfolding kept_point
kept_between u = go (between_ends u) refl
  where
    go : (b : Bool) → between_ends u ≡ b → AllBetween (cond b (u ∷ []) [])
    go true h = one_more h none_left
    go false h = none_left

both_between : (u v : Float) → AllBetween (kept_points u v)
unfolding kept_points
both_between u v = joined_between (kept_between u) (kept_between v)

vertex_between : (slope c : Float) → AllBetween (vertex slope c)
unfolding vertex
vertex_between slope c = chosen_between (ne slope zeroᶠ) (kept_between (neg c /ᶠ slope)) none_left

turned_between : (da db discriminant : Float) → AllBetween (turning_by da db discriminant)
unfolding turning_by
turned_between da db discriminant = chosen_between (le zeroᶠ discriminant) (both_between _ _) none_left

turning_between : (da db c : Float) → AllBetween (turning_points da db c)
unfolding turning_points
turning_between da db c = turned_between da db (db *ᶠ db -ᶠ fourᶠ *ᶠ da *ᶠ c)

pub extrema_between : (p : Cubic) → AllBetween (extrema p)
unfolding extrema
extrema_between p =
    chosen_between (le (absolute (threeᶠ *ᶠ p.a)) (epsilon *ᶠ maximum_of (absolute p.b) oneᶠ))
    (vertex_between (twoᶠ *ᶠ p.b) p.c)
    (turning_between (threeᶠ *ᶠ p.a) (twoᶠ *ᶠ p.b) p.c)

head_between : (u : Float) (us : List Float) → AllBetween (u ∷ us) → between_ends u ≡ true
head_between u us (one_more h p) = h

tail_between : (u : Float) (us : List Float) → AllBetween (u ∷ us) → AllBetween us
tail_between u us (one_more h p) = p

-- ---- such points stand between 0 and 1 in totalOrder
zero_before : (u : Float) → between_ends u ≡ true → total_order zeroᶠ u ≡ true
unfolding between_ends
zero_before u h = lesser_before zeroᶠ u (and_first (lt zeroᶠ u) (lt u oneᶠ) h)

one_not_before : (u : Float) → between_ends u ≡ true → total_order oneᶠ u ≡ false
unfolding between_ends
one_not_before u h = greater_not_before oneᶠ u (and_second (lt zeroᶠ u) (lt u oneᶠ) h)

points_none : points [] ≡ zeroᶠ ∷ oneᶠ ∷ []
unfolding points sorted insert of_bits
points_none = simp (lesser_before zeroᶠ oneᶠ (unfold lt in refl))

points_one : (u : Float) → between_ends u ≡ true → points (u ∷ []) ≡ zeroᶠ ∷ u ∷ oneᶠ ∷ []
unfolding points sorted insert
points_one u h = simp (one_not_before u h, zero_before u h)

points_two : (u v : Float) → between_ends u ≡ true → between_ends v ≡ true → total_order u v ≡ true → points (u ∷ v ∷ []) ≡ zeroᶠ ∷ u ∷ v ∷
    oneᶠ ∷ []
unfolding points sorted insert
points_two u v h k e = simp (e, one_not_before u h, one_not_before v k, zero_before u h)

points_two_turned : (u v : Float) → between_ends u ≡ true → between_ends v ≡ true → total_order u v ≡ false → points (u ∷ v ∷ []) ≡ zeroᶠ
    ∷ v ∷
    u ∷ oneᶠ ∷ []
unfolding points sorted insert
points_two_turned u v h k e = simp (e, one_not_before u h, one_not_before v k, zero_before v k)

-- ---- the same for what the code holds
pub search_none : (p : Cubic) (tolerance : Float) (t : Turns) → t ≡ NoPoint → search_on None p tolerance zeroᶠ oneᶠ
    ≡ search_list p tolerance
    (points (listed t))
unfolding search_list search_from
search_none p tolerance t e = sym (ap (λ (k : Turns). search_list p tolerance (points (listed k))) e ∙ ap (search_list p tolerance)
    points_none)

pub search_one : (p : Cubic) (tolerance : Float) (t : Turns) (u : Float) (start : Root) → t ≡ One u → AllBetween (listed t)
    → start ≡ search_on None p tolerance zeroᶠ u → search_on start p tolerance u oneᶠ ≡ search_list p tolerance (points (listed t))
unfolding search_list search_from
search_one p tolerance t u start e b f =
    let h = head_between u [] (subst (λ (k : Turns). AllBetween (listed k)) e b) in
    ap (λ (r : Root). search_on r p tolerance u oneᶠ) f
    ∙ sym (ap (λ (k : Turns). search_list p tolerance (points (listed k))) e ∙ ap (search_list p tolerance) (points_one u h))

pub search_ordered : (p : Cubic) (tolerance : Float) (t : Turns) (u v : Float) → t ≡ Two u v → AllBetween (listed t) → total_order u v
    ≡ true
    → search_list p tolerance (zeroᶠ ∷ u ∷ v ∷ oneᶠ ∷ []) ≡ search_list p tolerance (points (listed t))
search_ordered p tolerance t u v e b o =
    let all = subst (λ (k : Turns). AllBetween (listed k)) e b in
    let h = head_between u (v ∷ []) all in
    let k = head_between v [] (tail_between u (v ∷ []) all) in
    sym (ap (λ (k : Turns). search_list p tolerance (points (listed k))) e ∙ ap (search_list p tolerance) (points_two u v h k o))

pub search_turned : (p : Cubic) (tolerance : Float) (t : Turns) (u v : Float) → t ≡ Two u v → AllBetween (listed t) → total_order u v
    ≡ false
    → search_list p tolerance (zeroᶠ ∷ v ∷ u ∷ oneᶠ ∷ []) ≡ search_list p tolerance (points (listed t))
search_turned p tolerance t u v e b o =
    let all = subst (λ (k : Turns). AllBetween (listed k)) e b in
    let h = head_between u (v ∷ []) all in
    let k = head_between v [] (tail_between u (v ∷ []) all) in
    sym (ap (λ (k : Turns). search_list p tolerance (points (listed k))) e ∙ ap (search_list p tolerance) (points_two_turned u v h k o))
