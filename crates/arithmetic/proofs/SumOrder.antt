-- A sum is the exact sum, rounded: it is at most, or at least, a float where the exact sum is, and it keeps the order. Assumes nothing.
use Rattle.std.proofs.Common.{◌≡◌, ℕ, ◌+◌, ◌-◌, ◌*◌, ◌<◌, ◌≤◌, Bool, true, false, cond, T, ltb, leb, ℤ, pos, sym, refl, ap, ◌∙◌, subst}
use Rattle.std.proofs.Common.{true≢false, le_of_lt, mul-le-mul_right, mul_comm, mul-pos, zero-mul, arith, ltb-false, ltb-true, leb-false}
use Rattle.std.proofs.Common.{leb-true}
use mathlib.Core.Bool.{false≢true}
use lib.Ieee.{Float, nan, inf, fin, binary64, up, down, fits, neg, round, sum, add, sub, lt, le}
use lib.Ieee.Fits.{down_pos}
use Rattle.arithmetic.specs.Basic.{is_finite, negative}
use Rattle.arithmetic.proofs.Order.{not_lt_of_le}
use Rattle.arithmetic.proofs.SignedOrder.{plus, less, plus_times, less_times, not_below}
use Rattle.arithmetic.proofs.OwnRounding.{own_rounding}
use Rattle.arithmetic.proofs.RoundedOrder.{rounding_mono}

-- ---- a sum is the exact sum, rounded
pub record Rounded (x : Float) (s : Bool) (a : ℕ) (t : Bool) (b c : ℕ) : Type 0 where
  pub sign : Bool
  pub size_of_lem : ℕ
  pub is : x ≡ round binary64 sign size_of_lem c
  pub exact : plus sign size_of_lem + (less s a + less t b) ≡ plus s a + plus t b + less sign size_of_lem

apart_rounded : (a b c : ℕ) → Rounded (cond (ltb a b) (round binary64 true (b - a) c) (round binary64 false (a - b) c)) false a true b c
apart_rounded a b c = go (ltb a b) (ltb-true a b) (ltb-false a b)
  where
    go : (k : Bool) → (k ≡ true → a < b) → (k ≡ false → b ≤ a)
        → Rounded (cond k (round binary64 true (b - a) c) (round binary64 false (a - b) c)) false a true b c
    go true p q = let l = p refl in record { sign = true; size_of_lem = b - a; is = refl; exact = omega arith }
    go false p q = let l = q refl in record { sign = false; size_of_lem = a - b; is = refl; exact = omega arith }

turned_rounded : (a b c : ℕ)
    → Rounded (cond (ltb a b) (round binary64 false (b - a) c) (round binary64 (ltb b a) (a - b) c)) true a false b c
turned_rounded a b c = go (ltb a b) (ltb b a) (ltb-true a b) (ltb-false a b) (ltb-true b a) (ltb-false b a)
  where
    go : (k j : Bool) → (k ≡ true → a < b) → (k ≡ false → b ≤ a) → (j ≡ true → b < a) → (j ≡ false → a ≤ b)
        → Rounded (cond k (round binary64 false (b - a) c) (round binary64 j (a - b) c)) true a false b c
    go true j p q r s = let l = p refl in record { sign = false; size_of_lem = b - a; is = refl; exact = omega arith }
    go false true p q r s = let l = r refl in record { sign = true; size_of_lem = a - b; is = refl; exact = omega arith }
    go false false p q r s = let l = q refl in let k = s refl in
        record { sign = false; size_of_lem = a - b; is = refl; exact = omega arith }

sum_rounded : (s : Bool) (a : ℕ) (t : Bool) (b c : ℕ) → Rounded (sum binary64 s a t b c) s a t b c
unfolding sum
sum_rounded false a false b c = record { sign = false; size_of_lem = a + b; is = refl; exact = omega arith }
sum_rounded true a true b c = record { sign = true; size_of_lem = a + b; is = refl; exact = omega arith }
sum_rounded false a true b c = apart_rounded a b c
sum_rounded true a false b c = turned_rounded a b c

-- ---- finite floats as differences over a denominator
abbrev pub upper : Float → ℕ
upper nan = 0
upper (inf s) = 0
upper (fin s m e) = plus s (m * up e)

abbrev pub lower : Float → ℕ
lower nan = 0
lower (inf s) = 0
lower (fin s m e) = less s (m * up e)

abbrev pub under : Float → ℕ
under nan = 1
under (inf s) = 1
under (fin s m e) = down e

-- x + y ≤ z and z ≤ x + y, exactly
pub record SumAtMost (x y z : Float) : Type 0 where
  pub holds : upper x * (under y * under z) + upper y * (under x * under z) + lower z * (under x * under y)
      ≤ upper z * (under x * under y) + lower x * (under y * under z) + lower y * (under x * under z)

pub record SumAtLeast (x y z : Float) : Type 0 where
  pub holds : upper z * (under x * under y) + lower x * (under y * under z) + lower y * (under x * under z)
      ≤ upper x * (under y * under z) + upper y * (under x * under z) + lower z * (under x * under y)

sum_is : (s : Bool) (m : ℕ) (e : ℤ) (t : Bool) (n : ℕ) (d : ℤ)
    → add binary64 (fin s m e) (fin t n d) ≡ sum binary64 s (m * up e * down d) t (n * up d * down e) (down e * down d)
unfolding add
sum_is s m e t n d = refl

combine_most : (N M pa la pb lb pz lz e d g : ℕ) → N + (la * d + lb * e) ≡ pa * d + pb * e + M
    → pa * (d * g) + pb * (e * g) + lz * (e * d) ≤ pz * (e * d) + la * (d * g) + lb * (e * g) → N * g + lz * (e * d) ≤ pz * (e * d) + M * g
combine_most N M pa la pb lb pz lz e d g h k =
    let f : (N + (la * d + lb * e)) * g ≡ (pa * d + pb * e + M) * g = ap (λ (z : ℕ). z * g) h in omega (arith, f, k)

combine_least : (N M pa la pb lb pz lz e d g : ℕ) → N + (la * d + lb * e) ≡ pa * d + pb * e + M
    → pz * (e * d) + la * (d * g) + lb * (e * g) ≤ pa * (d * g) + pb * (e * g) + lz * (e * d) → pz * (e * d) + M * g ≤ N * g + lz * (e * d)
combine_least N M pa la pb lb pz lz e d g h k =
    let f : (N + (la * d + lb * e)) * g ≡ (pa * d + pb * e + M) * g = ap (λ (z : ℕ). z * g) h in omega (arith, f, k)

-- the exact sum over the common denominator
exact_parts : (sg : Bool) (N : ℕ) (s : Bool) (a d : ℕ) (t : Bool) (b e : ℕ)
    → plus sg N + (less s (a * d) + less t (b * e)) ≡ plus s (a * d) + plus t (b * e) + less sg N
    → plus sg N + (less s a * d + less t b * e) ≡ plus s a * d + plus t b * e + less sg N
exact_parts sg N s a d t b e h = simp (plus_times, less_times) at h

pub sum_at_most : (x y z : Float) → is_finite x ≡ true → is_finite y ≡ true → is_finite z ≡ true → T (fits binary64 z) → SumAtMost x y z
    → le (add binary64 x y) z ≡ true
unfolding is_finite
sum_at_most nan y z p q r f h = absurd (false≢true p)
sum_at_most (inf s) y z p q r f h = absurd (false≢true p)
sum_at_most (fin s m e) nan z p q r f h = absurd (false≢true q)
sum_at_most (fin s m e) (inf t) z p q r f h = absurd (false≢true q)
sum_at_most (fin s m e) (fin t n d) nan p q r f h = absurd (false≢true r)
sum_at_most (fin s m e) (fin t n d) (inf u) p q r f h = absurd (false≢true r)
sum_at_most (fin s m e) (fin t n d) (fin u k g) p q r f h =
    let w = sum_rounded s (m * up e * down d) t (n * up d * down e) (down e * down d) in
    subst (λ (v : Float). le v (fin u k g) ≡ true) (sym (sum_is s m e t n d ∙ w.is))
    (subst (λ (v : Float). le (round binary64 w.sign w.size_of_lem (down e * down d)) v ≡ true) (own_rounding u k g f)
    (rounding_mono w.sign w.size_of_lem (down e * down d) u (k * up g) (down g) (mul-pos (down_pos e) (down_pos d)) (down_pos g)
    (combine_most (plus w.sign w.size_of_lem) (less w.sign w.size_of_lem) (plus s (m * up e)) (less s (m * up e)) (plus t (n * up d))
    (less t (n * up d))
    (plus u (k * up g)) (less u (k * up g)) (down e) (down d) (down g)
    (exact_parts w.sign w.size_of_lem s (m * up e) (down d) t (n * up d) (down e) w.exact) h.holds)))

pub sum_at_least : (x y z : Float) → is_finite x ≡ true → is_finite y ≡ true → is_finite z ≡ true → T (fits binary64 z) → SumAtLeast x y z
    → le z (add binary64 x y) ≡ true
unfolding is_finite
sum_at_least nan y z p q r f h = absurd (false≢true p)
sum_at_least (inf s) y z p q r f h = absurd (false≢true p)
sum_at_least (fin s m e) nan z p q r f h = absurd (false≢true q)
sum_at_least (fin s m e) (inf t) z p q r f h = absurd (false≢true q)
sum_at_least (fin s m e) (fin t n d) nan p q r f h = absurd (false≢true r)
sum_at_least (fin s m e) (fin t n d) (inf u) p q r f h = absurd (false≢true r)
sum_at_least (fin s m e) (fin t n d) (fin u k g) p q r f h =
    let w = sum_rounded s (m * up e * down d) t (n * up d * down e) (down e * down d) in
    subst (λ (v : Float). le (fin u k g) v ≡ true) (sym (sum_is s m e t n d ∙ w.is))
    (subst (λ (v : Float). le v (round binary64 w.sign w.size_of_lem (down e * down d)) ≡ true) (own_rounding u k g f)
    (rounding_mono u (k * up g) (down g) w.sign w.size_of_lem (down e * down d) (down_pos g) (mul-pos (down_pos e) (down_pos d))
    (combine_least (plus w.sign w.size_of_lem) (less w.sign w.size_of_lem) (plus s (m * up e)) (less s (m * up e)) (plus t (n * up d))
    (less t (n * up d))
    (plus u (k * up g)) (less u (k * up g)) (down e) (down d) (down g)
    (exact_parts w.sign w.size_of_lem s (m * up e) (down d) t (n * up d) (down e) w.exact) h.holds)))

-- ---- differences
neg_upper : (x : Float) → upper (neg x) ≡ lower x
unfolding neg
neg_upper nan = refl
neg_upper (inf s) = refl
neg_upper (fin true m e) = refl
neg_upper (fin false m e) = refl

neg_lower : (x : Float) → lower (neg x) ≡ upper x
unfolding neg
neg_lower nan = refl
neg_lower (inf s) = refl
neg_lower (fin true m e) = refl
neg_lower (fin false m e) = refl

neg_under : (x : Float) → under (neg x) ≡ under x
unfolding neg
neg_under nan = refl
neg_under (inf s) = refl
neg_under (fin s m e) = refl

pub neg_finite : (x : Float) → is_finite (neg x) ≡ is_finite x
unfolding is_finite neg
neg_finite nan = refl
neg_finite (inf s) = refl
neg_finite (fin s m e) = refl

pub le_parts : (x y : Float) → is_finite x ≡ true → is_finite y ≡ true → le x y ≡ true
    → upper x * under y + lower y * under x ≤ upper y * under x + lower x * under y
unfolding is_finite lt
le_parts nan y p q h = absurd (false≢true p)
le_parts (inf s) y p q h = absurd (false≢true p)
le_parts (fin s m e) nan p q h = absurd (false≢true q)
le_parts (fin s m e) (inf t) p q h = absurd (false≢true q)
le_parts (fin s m e) (fin t n d) p q h = not_below t (n * up d) (down d) s (m * up e) (down e) (not_lt_of_le (fin s m e) (fin t n d) h)

-- where q is below the rounded sum of o and p, the exact difference of q and o is at most p: else the sum would be rounded to q at most
turn_around : (po lo pp lp pq lq o p q : ℕ) → pq * (o * p) + lo * (p * q) + lp * (o * q) ≤ po * (p * q) + pp * (o * q) + lq * (o * p)
    → pq * (o * p) + lo * (q * p) + lp * (q * o) ≤ pp * (q * o) + lq * (o * p) + po * (q * p)
turn_around po lo pp lp pq lq o p q h = omega (arith, h)

pub difference_at_most : (o p q : Float) → is_finite o ≡ true → is_finite p ≡ true → is_finite q ≡ true → T (fits binary64 q)
    → lt q (add binary64 o p) ≡ true → SumAtMost q (neg o) p
difference_at_most o p q a b c f h =
    go (leb more rest) (leb-true more rest) (leb-false more rest)
  where
    more : ℕ
    more = upper o * (under p * under q) + upper p * (under o * under q) + lower q * (under o * under p)

    rest : ℕ
    rest = upper q * (under o * under p) + lower o * (under p * under q) + lower p * (under o * under q)

    go : (k : Bool) → (k ≡ true → more ≤ rest) → (k ≡ false → rest < more) → SumAtMost q (neg o) p
    go true u v = absurd (true≢false (sym h ∙ not_lt_of_le (add binary64 o p) q (sum_at_most o p q a b c f (record { holds = u refl }))))
    go false u v =
        let turned = turn_around (upper o) (lower o) (upper p) (lower p) (upper q) (lower q) (under o) (under p) (under q)
        (le_of_lt (v refl)) in
        record { holds = simp (neg_upper, neg_lower, neg_under) turned }

-- ---- what a sum and a difference are at least
abbrev pub nothing : Float
nothing = fin false 0 (pos 0)

lower_none : (x : Float) → negative x ≡ false → lower x ≡ 0
unfolding negative
lower_none nan h = refl
lower_none (inf s) h = refl
lower_none (fin true m e) h = absurd (true≢false h)
lower_none (fin false m e) h = refl

-- what is added is not negative
pub sum_above : (o p : Float) → is_finite o ≡ true → is_finite p ≡ true → T (fits binary64 o) → negative p ≡ false
    → le o (add binary64 o p) ≡ true
sum_above o p a b f h =
    let none = lower_none p h in
    let gone : lower p * (under o * under o) ≡ 0 = ap (λ (z : ℕ). z * (under o * under o)) none ∙ zero-mul (under o * under o) in
    let commute : under o * under p ≡ under p * under o = mul_comm (under o) (under p) in
    let swapped : lower o * (under o * under p) ≡ lower o * (under p * under o) = ap (λ (z : ℕ). lower o * z) commute in
    let turned : upper o * (under o * under p) ≡ upper o * (under p * under o) = ap (λ (z : ℕ). upper o * z) commute in
    sum_at_least o p o a b a f (record { holds = omega (arith, gone, swapped, turned) })

-- from one number to another that is not below it
at_least_nothing : (po lo pq lq o q : ℕ) → po * q + lq * o ≤ pq * o + lo * q
    → 0 * (q * o) + lq * (o * 1) + po * (q * 1) ≤ pq * (o * 1) + lo * (q * 1) + 0 * (q * o)
at_least_nothing po lo pq lq o q h = omega (arith, h)

nothing_fits : T (fits binary64 nothing)
unfolding fits
nothing_fits = tt

pub difference_not_negative : (o q : Float) → is_finite o ≡ true → is_finite q ≡ true → le o q ≡ true → le nothing (sub binary64 q o) ≡ true
unfolding sub
difference_not_negative o q a b h =
    let parts = at_least_nothing (upper o) (lower o) (upper q) (lower q) (under o) (under q) (le_parts o q a b h) in
    sum_at_least q (neg o) nothing b (neg_finite o ∙ a) (unfold is_finite in refl) nothing_fits
    (record { holds = unfold plus less in (simp (neg_upper, neg_lower, neg_under) parts) })

-- ---- sums keep the order
sums_ordered : (n m j i px lx py ly pz lz x y z : ℕ) → n + (lx * z + lz * x) ≡ px * z + pz * x + m
    → j + (ly * z + lz * y) ≡ py * z + pz * y + i
    → px * y + ly * x ≤ py * x + lx * y → n * (y * z) + i * (x * z) ≤ j * (x * z) + m * (y * z)
sums_ordered n m j i px lx py ly pz lz x y z h k l =
    let first : (n + (lx * z + lz * x)) * (y * z) ≡ (px * z + pz * x + m) * (y * z) = ap (λ (w : ℕ). w * (y * z)) h in
    let second : (j + (ly * z + lz * y)) * (x * z) ≡ (py * z + pz * y + i) * (x * z) = ap (λ (w : ℕ). w * (x * z)) k in
    let third : (px * y + ly * x) * (z * z) ≤ (py * x + lx * y) * (z * z) = mul-le-mul_right (z * z) l in
    omega (arith, first, second, third)

pub sum_mono : (x y z : Float) → is_finite x ≡ true → is_finite y ≡ true → is_finite z ≡ true → le x y ≡ true
    → le (add binary64 x z) (add binary64 y z) ≡ true
unfolding is_finite
sum_mono nan y z p q r h = absurd (false≢true p)
sum_mono (inf s) y z p q r h = absurd (false≢true p)
sum_mono (fin s m e) nan z p q r h = absurd (false≢true q)
sum_mono (fin s m e) (inf t) z p q r h = absurd (false≢true q)
sum_mono (fin s m e) (fin t n d) nan p q r h = absurd (false≢true r)
sum_mono (fin s m e) (fin t n d) (inf u) p q r h = absurd (false≢true r)
sum_mono (fin s m e) (fin t n d) (fin u k g) p q r h =
    let v = sum_rounded s (m * up e * down g) u (k * up g * down e) (down e * down g) in
    let w = sum_rounded t (n * up d * down g) u (k * up g * down d) (down d * down g) in
    subst (λ (i : Float). le i (add binary64 (fin t n d) (fin u k g)) ≡ true) (sym (sum_is s m e u k g ∙ v.is))
    (subst (λ (i : Float). le (round binary64 v.sign v.size_of_lem (down e * down g)) i ≡ true) (sym (sum_is t n d u k g ∙ w.is))
    (rounding_mono v.sign v.size_of_lem (down e * down g) w.sign w.size_of_lem (down d * down g) (mul-pos (down_pos e) (down_pos g))
    (mul-pos (down_pos d) (down_pos g))
    (sums_ordered (plus v.sign v.size_of_lem) (less v.sign v.size_of_lem) (plus w.sign w.size_of_lem) (less w.sign w.size_of_lem)
    (plus s (m * up e)) (less s (m * up e)) (plus t (n * up d)) (less t (n * up d)) (plus u (k * up g)) (less u (k * up g)) (down e)
    (down d) (down g)
    (exact_parts v.sign v.size_of_lem s (m * up e) (down g) u (k * up g) (down e) v.exact)
    (exact_parts w.sign w.size_of_lem t (n * up d) (down g) u (k * up g) (down d) w.exact)
    (le_parts (fin s m e) (fin t n d) (unfold is_finite in refl) (unfold is_finite in refl) h))))

pub difference_mono : (x y o : Float) → is_finite x ≡ true → is_finite y ≡ true → is_finite o ≡ true → le x y ≡ true
    → le (sub binary64 x o) (sub binary64 y o) ≡ true
unfolding sub
difference_mono x y o p q r h = sum_mono x y (neg o) p q (neg_finite o ∙ r) h
