-- A coordinate outside an axis' nodes is drawn to the nearest that a sample admits, by monotone rounding alone. Assumes nothing.
use mathlib.Core.Path.{◌≡◌, refl, sym, ap, subst, ◌∙◌}
use mathlib.Core.Bool.{Bool, true, false, cond, true≢false, false≢true, ◌&&◌}
use Prim.Native.Nat.{ℕ, ◌-◌, ◌*◌}
use native.Mathlib.Omega.{arith}
use lib.Dec.{T}
use lib.Ieee.{Float, nan, inf, fin, binary64, up, down, of_bits, fits, is_nan, neg, add, sub, mul, div, lt, le}
use lib.Ieee.Exact.{HasValue}
use lib.Ieee.Fits.{add-fits, mul-fits}
use borrow.Author.Tests.{le-ltb}
use Rattle.arithmetic.specs.Basic.{is_finite, negative, clamp_to}
use Rattle.arithmetic.specs.Below.{just_below}
use Rattle.arithmetic.proofs.BelowLaws.{just_below_less, just_below_greatest, just_below_fits}
use Rattle.arithmetic.proofs.Exactness.{of_int_value}
use Rattle.arithmetic.proofs.Numbers.{finite_number}
use Rattle.arithmetic.proofs.Order.{le_of_lt, le_of_not_lt, le_reflexive, le_transitive, lt_of_lt_le, lt_of_le_lt, lt_irreflexive}
use Rattle.arithmetic.proofs.RoundedSigns.{round_not_negative}
use Rattle.arithmetic.proofs.SumOrder.{nothing, sum_at_most, sum_above, difference_at_most, difference_not_negative, difference_mono}
use Rattle.arithmetic.proofs.SumOrder.{neg_finite}
use Rattle.arithmetic.proofs.QuotientOrder.{Positive, positive, positive_of, between_finite, quotient_finite, product_divided}
use Rattle.geometry.proofs.Differences.{own_difference as less-itself}
use Rattle.lists.proofs.JoinedTests.{and_first, and_second}
use Rattle.vectors.specs.Numbers.{◌+ᶠ◌, ◌-ᶠ◌, ◌*ᶠ◌, ◌/ᶠ◌, zeroᶠ}
use Rattle.geometry.specs.Spacing.{spacing_admitted}
use Rattle.distance_grid.specs.Grid.{whole, last_node}
use Rattle.distance_grid.specs.Places.{top_of, clamped_to, clamped, place_of, place_at, locate_axis}
use Rattle.grid_laws.specs.Clamping.{AxisStands, Admitted, Nearest, ClampedRight}
use Rattle.distance_grid.specs.Places.{Place, PlaceAt, NoPlace}

-- ---- small facts of floats
plain_above : (p : Float) → is_finite p ≡ true → negative p ≡ false → le nothing p ≡ true
plain_above p h k = le_of_not_lt nothing p (unfold is_nan in refl) (finite_number p h) (go p h k)
  where
    go : (p : Float) → is_finite p ≡ true → negative p ≡ false → lt p nothing ≡ false
    go nan h k = unfold lt in refl
    go (inf true) h k = absurd (true≢false (unfold negative in k))
    go (inf false) h k = unfold lt in refl
    go (fin true m e) h k = absurd (true≢false (unfold negative in k))
    go (fin false m e) h k = unfold lt in (le-ltb (m * up e * 1) (0 * down e) (omega arith))

added_finite : (o p : Float) → is_finite o ≡ true → is_finite (o +ᶠ p) ≡ true → is_finite p ≡ true
unfolding is_finite add
added_finite nan p h k = absurd (false≢true h)
added_finite (inf s) p h k = absurd (false≢true h)
added_finite (fin s m e) nan h k = k
added_finite (fin s m e) (inf t) h k = k
added_finite (fin s m e) (fin t n d) h k = refl

divided_finite : (y s : Float) → Positive s → is_finite (y /ᶠ s) ≡ true → is_finite y ≡ true
unfolding is_finite div
divided_finite nan s (positive n d l) h = h
divided_finite (inf t) s (positive n d l) h = h
divided_finite (fin t m e) s (positive n d l) h = refl

own_difference : (o : Float) → is_finite o ≡ true → o -ᶠ o ≡ nothing
own_difference o h = less-itself o ∙ ap (λ (b : Bool). cond b nothing nan) h

product_plain : (s w : Float) (k : ℕ) → Positive s → HasValue w false k 1 → negative (s *ᶠ w) ≡ false
unfolding mul
product_plain s nan k p v = absurd v
product_plain s (inf t) k p v = absurd v
product_plain s (fin true m e) k p v = absurd (true≢false v.0)
product_plain s (fin false m e) k (positive n d l) v = round_not_negative binary64 (n * up d * (m * up e)) (down d * down e)

zero_is_nothing : zeroᶠ ≡ nothing
unfolding of_bits
zero_is_nothing = refl

is_place : Place → Bool
is_place (PlaceAt cell fraction) = true
is_place NoPlace = false

raw_located : (q o s : Float) (side : ℕ) → is_finite ((q -ᶠ o) /ᶠ s) ≡ true → locate_axis q o s side ≡ NoPlace → ⊥
unfolding locate_axis place_at place_of is_place
raw_located q o s side h e =
    true≢false (sym (ap (λ (b : Bool). is_place (cond b (place_of (clamp_to ((q -ᶠ o) /ᶠ s) zeroᶠ (whole (side - 1))) side) NoPlace)) h)
    ∙ ap is_place e)

-- ---- one axis
module _ (o s : Float) (side : ℕ) (axis : AxisStands o s side) where
  -- the way from the origin to the last node
  way : Float
  way = s *ᶠ whole (side - 1)

  last : Float
  last = o +ᶠ way

  last_is : last ≡ last_node o s side
  unfolding last way last_node
  last_is = refl

  last_finite : is_finite last ≡ true
  last_finite = ap is_finite last_is ∙ axis.last_finite

  last_fits : T (fits binary64 last)
  unfolding last
  last_fits = add-fits binary64 o way

  count : HasValue (whole (side - 1)) false (side - 1) 1
  count = let l = axis.side_stands.most in of_int_value (side - 1) (omega arith)

  spacing_positive : Positive s
  spacing_positive =
      let a : (is_finite s && lt zeroᶠ s) ≡ true = unfold spacing_admitted in axis.spacing_admitted in
      positive_of s (and_first (is_finite s) (lt zeroᶠ s) a)
      (subst (λ (z : Float). lt z s ≡ true) zero_is_nothing (and_second (is_finite s) (lt zeroᶠ s) a))

  way_finite : is_finite way ≡ true
  unfolding last
  way_finite = added_finite o way axis.origin_finite last_finite

  way_plain : negative way ≡ false
  unfolding way
  way_plain = product_plain s (whole (side - 1)) (side - 1) spacing_positive count

  way_fits : T (fits binary64 way)
  unfolding way
  way_fits = mul-fits binary64 s (whole (side - 1))

  way_located : is_finite (way /ᶠ s) ≡ true
  unfolding way
  way_located =
      let l = axis.side_stands.most in
      product_divided s (whole (side - 1)) (side - 1) axis.spacing_fits spacing_positive count (omega arith) way_finite

  -- what lies from 0 to the whole way is located
  way_along : (d : Float) → le nothing d ≡ true → le d way ≡ true → is_finite (d /ᶠ s) ≡ true
  way_along d h k = quotient_finite d way s way_finite spacing_positive h k way_located

  origin_last : le o last ≡ true
  unfolding last
  origin_last = sum_above o way axis.origin_finite way_finite axis.origin_fits way_plain

  -- a float below the last node: its exact way from the origin is at most the whole one
  below_last : (q : Float) → is_finite q ≡ true → T (fits binary64 q) → le o q ≡ true → lt q last ≡ true → is_finite ((q -ᶠ o) /ᶠ s) ≡ true
  unfolding last sub
  below_last q p f h k =
      way_along (q -ᶠ o) (difference_not_negative o q axis.origin_finite p h)
      (sum_at_most q (neg o) way p (neg_finite o ∙ axis.origin_finite) way_finite way_fits
      (difference_at_most o way q axis.origin_finite way_finite p f k))

  origin_located : is_finite ((o -ᶠ o) /ᶠ s) ≡ true
  origin_located =
      subst (λ (d : Float). is_finite (d /ᶠ s) ≡ true) (sym (own_difference o axis.origin_finite))
      (way_along nothing (le_reflexive nothing (unfold is_nan in refl)) (plain_above way way_finite way_plain))

  -- a last node at the origin
  level_located : le last o ≡ true → is_finite ((last -ᶠ o) /ᶠ s) ≡ true
  level_located h =
      way_along (last -ᶠ o) (difference_not_negative o last axis.origin_finite last_finite origin_last)
      (le_transitive (last -ᶠ o) nothing way
      (subst (λ (d : Float). le (last -ᶠ o) d ≡ true) (own_difference o axis.origin_finite)
      (difference_mono last o o last_finite axis.origin_finite axis.origin_finite h))
      (plain_above way way_finite way_plain))

  origin_below : is_finite ((last -ᶠ o) /ᶠ s) ≡ false → lt o last ≡ true
  origin_below h = go (lt o last) refl
    where
      go : (b : Bool) → lt o last ≡ b → lt o last ≡ true
      go true e = e
      go false e =
          absurd (true≢false
          (sym (level_located (le_of_not_lt last o (finite_number last last_finite) (finite_number o axis.origin_finite) e)) ∙ h))

  top_is : (b : Bool) → is_finite ((last -ᶠ o) /ᶠ s) ≡ b → top_of o s last ≡ cond b last (just_below last)
  unfolding top_of
  top_is b h = ap (λ (c : Bool). cond c last (just_below last)) h

  top_admitted : Admitted o s last (top_of o s last)
  top_admitted = go (is_finite ((last -ᶠ o) /ᶠ s)) refl
    where
      go : (b : Bool) → is_finite ((last -ᶠ o) /ᶠ s) ≡ b → Admitted o s last (top_of o s last)
      go true h =
          subst (Admitted o s last) (sym (top_is true h))
          (record { from = origin_last; to = le_reflexive last (finite_number last last_finite); located = h })
      go false h =
          let b = just_below last in
          let under : lt b last ≡ true = just_below_less last last_fits last_finite in
          let over : le o b ≡ true = just_below_greatest last last_fits last_finite o axis.origin_fits (origin_below h) in
          let p : is_finite b ≡ true = between_finite o b last axis.origin_finite last_finite over (le_of_lt b last under) in
          subst (Admitted o s last) (sym (top_is false h))
          (record { from = over; to = le_of_lt b last under; located = below_last b p (just_below_fits last last_fits) over under })

  -- what is admitted is at most the top
  top_greatest : (q : Float) → T (fits binary64 q) → Admitted o s last q → le q (top_of o s last) ≡ true
  top_greatest q f a = go (is_finite ((last -ᶠ o) /ᶠ s)) refl
    where
      finite : is_finite q ≡ true
      finite = between_finite o q last axis.origin_finite last_finite a.from a.to

      moved : le last q ≡ true → is_finite ((last -ᶠ o) /ᶠ s) ≡ true
      moved k =
          quotient_finite (last -ᶠ o) (q -ᶠ o) s (divided_finite (q -ᶠ o) s spacing_positive a.located) spacing_positive
          (difference_not_negative o last axis.origin_finite last_finite origin_last)
          (difference_mono last q o last_finite finite axis.origin_finite k) a.located

      lower : (b : Bool) → lt q last ≡ b → is_finite ((last -ᶠ o) /ᶠ s) ≡ false → le q (just_below last) ≡ true
      lower true k h = just_below_greatest last last_fits last_finite q f k
      lower false k h =
          absurd (true≢false (sym (moved (le_of_not_lt last q (finite_number last last_finite) (finite_number q finite) k)) ∙ h))

      go : (b : Bool) → is_finite ((last -ᶠ o) /ᶠ s) ≡ b → le q (top_of o s last) ≡ true
      go true h = subst (λ (z : Float). le q z ≡ true) (sym (top_is true h)) a.to
      go false h = subst (λ (z : Float). le q z ≡ true) (sym (top_is false h)) (lower (lt q last) refl h)

  -- ---- the drawn coordinate
  module _ (p : Float) where
    clamped_below : lt p o ≡ true → clamped_to p o s last ≡ o
    unfolding clamped_to
    clamped_below h = simp h

    clamped_above : lt p o ≡ false → lt last p ≡ true → clamped_to p o s last ≡ top_of o s last
    unfolding clamped_to
    clamped_above h k = simp (h, k)

    clamped_inside : lt p o ≡ false → lt last p ≡ false → clamped_to p o s last ≡ p
    unfolding clamped_to
    clamped_inside h k = simp (h, k)

    -- past the last node is not before the origin
    past : lt last p ≡ true → lt p o ≡ false
    past k = go (lt p o) refl
      where
        go : (b : Bool) → lt p o ≡ b → lt p o ≡ false
        go false e = e
        go true e = absurd (true≢false (sym (lt_of_lt_le p o p e (le_of_lt o p (lt_of_le_lt o last p origin_last k))) ∙ lt_irreflexive p))

    nearest_below : lt p o ≡ true → Nearest o s last p o
    nearest_below h = record {
      admitted = record { from = le_reflexive o (finite_number o axis.origin_finite); to = origin_last; located = origin_located };
      before = λ k q f a. (le_of_lt p o h, a.from);
      behind = λ k. absurd (true≢false (sym h ∙ past k));
    }

    nearest_above : lt last p ≡ true → Nearest o s last p (top_of o s last)
    nearest_above h = record {
      admitted = top_admitted;
      before = λ k. absurd (true≢false (sym k ∙ past h));
      behind = λ k q f a. (top_greatest q f a, le_of_lt (top_of o s last) p (lt_of_le_lt (top_of o s last) last p top_admitted.to k));
    }

    clamped_is : clamped p o s side ≡ clamped_to p o s last
    unfolding clamped
    clamped_is = ap (clamped_to p o s) (sym last_is)

    -- of the last node by its name
    named : {d e : Float} → e ≡ d → Nearest o s last p d → Nearest o s (last_node o s side) p e
    named {d} {e} q n = subst (λ (l : Float). Nearest o s l p e) last_is (subst (Nearest o s last p) (sym q) n)

    below_nearest : lt p o ≡ true → Nearest o s (last_node o s side) p (clamped p o s side)
    below_nearest h = named (clamped_is ∙ clamped_below h) (nearest_below h)

    above_nearest : lt last p ≡ true → Nearest o s (last_node o s side) p (clamped p o s side)
    above_nearest k = named (clamped_is ∙ clamped_above (past k) k) (nearest_above k)

    outside_nearest : (lt p o ≡ false → lt last p ≡ false → ⊥) → Nearest o s (last_node o s side) p (clamped p o s side)
    outside_nearest out = go (lt p o) (lt last p) refl refl
      where
        go : (b c : Bool) → lt p o ≡ b → lt last p ≡ c → Nearest o s (last_node o s side) p (clamped p o s side)
        go true c h k = below_nearest h
        go false true h k = above_nearest k
        go false false h k = absurd (out h k)

    to_last : {b : Bool} → lt (last_node o s side) p ≡ b → lt last p ≡ b
    to_last k = ap (λ (l : Float). lt l p) last_is ∙ k

    from_last : {b : Bool} → lt last p ≡ b → lt (last_node o s side) p ≡ b
    from_last k = ap (λ (l : Float). lt l p) (sym last_is) ∙ k

    pub clamped_right : ClampedRight o s side p
    clamped_right = record {
      inside = λ h k. clamped_is ∙ clamped_inside h (to_last k);
      below = below_nearest;
      above = λ k. above_nearest (to_last k);
      located = λ out. raw_located (clamped p o s side) o s side (outside_nearest (λ h k. out h (from_last k))).admitted.located;
    }
