-- A part of the way from one distance to a later one, each step rounded, does not lie before the first. Assumes nothing.
use mathlib.Core.Path.{◌≡◌, refl, sym, ◌∙◌, subst}
use mathlib.Core.Bool.{true, false, false≢true}
use Prim.Native.Nat.{ℕ, ◌+◌, ◌*◌, ◌≤◌}
use native.Mathlib.Nat.{mul-pos, mul-le-mul_right, mul-le-mul_left}
use native.Mathlib.Omega.{arith}
use lib.Dec.{T, lit<}
use lib.IntN.{ℤ}
use lib.Ieee.{Float, nan, inf, fin, binary64, up, down, fits, neg, round, add, sub, mul, le}
use lib.Ieee.Fits.{down_pos, sub-fits}
use Rattle.arithmetic.specs.Basic.{is_finite}
use Rattle.arithmetic.proofs.BelowLaws.{le_neg}
use Rattle.arithmetic.proofs.Numbers.{finite_number}
use Rattle.arithmetic.proofs.Order.{le_transitive}
use Rattle.arithmetic.proofs.OwnRounding.{own_rounding}
use Rattle.arithmetic.proofs.QuotientOrder.{between_finite}
use Rattle.arithmetic.proofs.RoundedOrder.{plain_mono, rounding_mono, zero_rounds}
use Rattle.arithmetic.proofs.SumOrder.{nothing, upper, lower, under, le_parts, neg_finite, sum_at_most, sum_at_least}
use Rattle.arithmetic.proofs.SumOrder.{difference_not_negative}
use Rattle.cubic.proofs.UnitLaws.{Below, below}
use Rattle.vectors.specs.Numbers.{◌-ᶠ◌, ◌*ᶠ◌}
use Rattle.level_set.specs.Hits.{along}

nothing_finite : is_finite nothing ≡ true
unfolding is_finite
nothing_finite = refl

-- ---- what is added is not below 0, or not above it
from_nothing : (p : Float) → is_finite p ≡ true → le nothing p ≡ true → lower p ≤ upper p
from_nothing p h l = let parts = le_parts nothing p nothing_finite h l in omega (arith, parts)

to_nothing : (p : Float) → is_finite p ≡ true → le p nothing ≡ true → upper p ≤ lower p
to_nothing p h l = let parts = le_parts p nothing h nothing_finite l in omega (arith, parts)

more : (uo lo up lp o p : ℕ) → lp ≤ up
    → uo * (o * p) + lo * (p * o) + lp * (o * o) ≤ uo * (p * o) + up * (o * o) + lo * (o * p)
more uo lo up lp o p h =
    let grown : lp * (o * o) ≤ up * (o * o) = mul-le-mul_right (o * o) h in omega (arith, grown)

pub sum_not_below : (o p : Float) → is_finite o ≡ true → is_finite p ≡ true → T (fits binary64 o) → le nothing p ≡ true
    → le o (add binary64 o p) ≡ true
sum_not_below o p a b f l =
    sum_at_least o p o a b a f (record { holds = more (upper o) (lower o) (upper p) (lower p) (under o) (under p) (from_nothing p b l) })

fewer : (uo lo up lp o p : ℕ) → up ≤ lp
    → uo * (p * o) + up * (o * o) + lo * (o * p) ≤ uo * (o * p) + lo * (p * o) + lp * (o * o)
fewer uo lo up lp o p h =
    let grown : up * (o * o) ≤ lp * (o * o) = mul-le-mul_right (o * o) h in omega (arith, grown)

pub sum_not_above : (o p : Float) → is_finite o ≡ true → is_finite p ≡ true → T (fits binary64 o) → le p nothing ≡ true
    → le (add binary64 o p) o ≡ true
sum_not_above o p a b f l =
    sum_at_most o p o a b a f (record { holds = fewer (upper o) (lower o) (upper p) (lower p) (under o) (under p) (to_nothing p b l) })

-- ---- the way
zeros_level : le (neg nothing) nothing ≡ true
unfolding le neg
zeros_level = refl

neg_nothing : (c : Float) → is_finite c ≡ true → le nothing c ≡ true → le (neg c) nothing ≡ true
neg_nothing c h l =
    le_transitive (neg c) (neg nothing) nothing
    (le_neg nothing c (finite_number nothing nothing_finite) (finite_number c h) l) zeros_level

-- from one distance to a later one: from 0 to the later one
way_finite : (c e : Float) → is_finite c ≡ true → is_finite e ≡ true → T (fits binary64 e) → le nothing c ≡ true → le c e ≡ true
    → is_finite (e -ᶠ c) ≡ true
way_finite c e a b f l k =
    between_finite nothing (e -ᶠ c) e nothing_finite b (difference_not_negative c e a b k)
    (unfold sub in sum_not_above e (neg c) b (neg_finite c ∙ a) f (neg_nothing c a l))

-- ---- a part of it
plain_product : (n : ℕ) (d : ℤ) (m : ℕ) (e : ℤ)
    → mul binary64 (fin false n d) (fin false m e) ≡ round binary64 false (n * up d * (m * up e)) (down d * down e)
unfolding mul
plain_product n d m e = refl

turned_product : (n : ℕ) (d : ℤ) (m : ℕ) (e : ℤ)
    → mul binary64 (fin true n d) (fin false m e) ≡ round binary64 true (n * up d * (m * up e)) (down d * down e)
unfolding mul
turned_product n d m e = refl

-- a negative number that is not below 0 is 0
none_left : (n : ℕ) (d : ℤ) → le nothing (fin true n d) ≡ true → n * up d ≤ 0
none_left n d l = let parts = le_parts nothing (fin true n d) nothing_finite (unfold is_finite in refl) l in omega (arith, parts)

less_of : (a b c d : ℕ) → b ≤ c → a * b * d ≤ a * (d * c)
less_of a b c d h = let g : a * d * b ≤ a * d * c = mul-le-mul_left (a * d) h in omega (arith, g)

zero_of : (a b c : ℕ) → a ≤ 0 → a * b * c ≤ 0
zero_of a b c h = let g : a * (b * c) ≤ 0 * (b * c) = mul-le-mul_right (b * c) h in omega (arith, g)

pub record PartOf (x p : Float) : Type 0 where
  pub least : le nothing p ≡ true
  pub most : le p x ≡ true

part_of : (x f : Float) → is_finite x ≡ true → T (fits binary64 x) → le nothing x ≡ true → Below 1 f → PartOf x (x *ᶠ f)
unfolding is_finite
part_of nan f p t l b = absurd (false≢true p)
part_of (inf s) f p t l b = absurd (false≢true p)
part_of (fin false n d) f p t l (below m e h) = record {
  least =
      subst (λ (y : Float). le nothing y ≡ true) (sym (plain_product n d m e))
      (subst (λ (y : Float). le y (round binary64 false (n * up d * (m * up e)) (down d * down e)) ≡ true) zero_rounds
      (plain_mono 0 1 (n * up d * (m * up e)) (down d * down e) (lit< tt) (mul-pos (down_pos d) (down_pos e)) (omega arith)));
  most =
      subst (λ (y : Float). le y (fin false n d) ≡ true) (sym (plain_product n d m e))
      (subst (λ (y : Float). le (round binary64 false (n * up d * (m * up e)) (down d * down e)) y ≡ true) (own_rounding false n d t)
      (plain_mono (n * up d * (m * up e)) (down d * down e) (n * up d) (down d) (mul-pos (down_pos d) (down_pos e)) (down_pos d)
      (less_of (n * up d) (m * up e) (down e) (down d) (omega (arith, h)))));
}
part_of (fin true n d) f p t l (below m e h) =
    let gone = none_left n d l in
    record {
      least =
          subst (λ (y : Float). le nothing y ≡ true) (sym (turned_product n d m e))
          (subst (λ (y : Float). le y (round binary64 true (n * up d * (m * up e)) (down d * down e)) ≡ true) zero_rounds
          (rounding_mono false 0 1 true (n * up d * (m * up e)) (down d * down e) (lit< tt) (mul-pos (down_pos d) (down_pos e))
          (let z = zero_of (n * up d) (m * up e) 1 gone in omega (arith, z))));
      most =
          subst (λ (y : Float). le y (fin true n d) ≡ true) (sym (turned_product n d m e))
          (subst (λ (y : Float). le (round binary64 true (n * up d * (m * up e)) (down d * down e)) y ≡ true) (own_rounding true n d t)
          (rounding_mono true (n * up d * (m * up e)) (down d * down e) true (n * up d) (down d) (mul-pos (down_pos d) (down_pos e))
          (down_pos d)
          (let z = zero_of (n * up d) (down d) (down e) gone in omega (arith, z))));
    }

-- from a distance a part of the way to a later one
pub along_not_before : (c e f : Float) → is_finite c ≡ true → T (fits binary64 c) → is_finite e ≡ true → T (fits binary64 e)
    → le nothing c ≡ true → le c e ≡ true → Below 1 f → le c (along c e f) ≡ true
unfolding along
along_not_before c e f a t b u l k w =
    let way = e -ᶠ c in
    let finite = way_finite c e a b u l k in
    let part = part_of way f finite (sub-fits binary64 e c) (difference_not_negative c e a b k) w in
    sum_not_below c (way *ᶠ f) a (between_finite nothing (way *ᶠ f) way nothing_finite finite part.least part.most) t part.least
