-- Numbers are in order as their words are, the highest first. Assumes nothing.
use Rattle.std.proofs.Common.{◌≡◌, ℕ, suc, ◌+◌, ◌*◌, ◌<◌, ◌≤◌, ℤ, Option, Some, None, Ordering, Less, Equal, Greater, sym, ap, subst, arith}
use Rattle.std.proofs.Common.{mul-le-mul_right}
use Rattle.std.specs.Cmp.{ranks}
use Rattle.std.specs.Ordering.{MatchOrdering, nat_cmp, partial_ordering_then, is_some_and, is_lt}
use lib.Signed.{lt_z}
use Rattle.wide_integers.specs.declared.number.Wide.{Wide}
use Rattle.wide_integers.specs.declared.triples.Long.{Long}
use Rattle.wide_integers.specs.Value.{base, zero_at, raised, value}
use Rattle.wide_integers.specs.Triples.{Words, triple_base}
use Rattle.wide_integers.specs.LongValue.{long_zero, long_raised, long_value}
use Rattle.wide_integers.proofs.Polynomials.{Rep}
use Rattle.wide_integers.proofs.Order.{lt_rep, nlt_rep}
use Rattle.wide_integers.proofs.ValueLaws.{value_rep}
use Rattle.wide_integers.proofs.LongLaws.{long_rep, words_below}

-- the answer is that of x and y
abbrev pub Ranked : Option Ordering → ℕ → ℕ → Type 0
Ranked None x y = ⊥
Ranked (Some r) x y = MatchOrdering r (x < y) (x ≡ y) (y < x)

-- a higher and a lower part, which is below C
ranked_then : (C : ℕ) (p q : Option Ordering) (h k l m : ℕ) → l < C → m < C → Ranked p h k → Ranked q l m
    → Ranked (partial_ordering_then p q) (h * C + l) (k * C + m)
ranked_then C (Some Less) q h k l m a b r s = let g : suc h * C ≤ _ = mul-le-mul_right C r in omega (arith, g, a)
ranked_then C (Some Greater) q h k l m a b r s = let g : suc k * C ≤ _ = mul-le-mul_right C r in omega (arith, g, b)
ranked_then C (Some Equal) (Some Less) h k l m a b r s = let g = ap (λ (n : ℕ). n * C) r in omega (arith, g, s)
ranked_then C (Some Equal) (Some Equal) h k l m a b r s = let g = ap (λ (n : ℕ). n * C) r in omega (arith, g, s)
ranked_then C (Some Equal) (Some Greater) h k l m a b r s = let g = ap (λ (n : ℕ). n * C) r in omega (arith, g, s)
ranked_then C (Some Equal) None h k l m a b r s = absurd s
ranked_then C None q h k l m a b r s = absurd r

-- numbers as differences by one number
pub below_ranked : (o : Option Ordering) {z w : ℤ} (x y n : ℕ) → Rep z x n → Rep w y n → Ranked o x y → is_some_and is_lt o ≡ lt_z z w
below_ranked (Some Less) x y n a b r = sym (lt_rep a b (omega (arith, r)))
below_ranked (Some Equal) x y n a b r = sym (nlt_rep a b (omega (arith, r)))
below_ranked (Some Greater) x y n a b r = sym (nlt_rep a b (omega (arith, r)))
below_ranked None x y n a b r = absurd r

-- the order of three words
abbrev wide_cmp : Wide → Wide → Option Ordering
wide_cmp a b =
    partial_ordering_then (Some (nat_cmp a.high b.high))
    (partial_ordering_then (Some (nat_cmp a.middle b.middle)) (Some (nat_cmp a.low b.low)))

ranked_words : (a b : Wide) → Words a → Words b → Ranked (wide_cmp a b) (raised a) (raised b)
ranked_words a b s t =
    subst (λ (n : ℕ). Ranked (wide_cmp a b) n (raised b)) (whole a)
    (subst (λ (n : ℕ). Ranked (wide_cmp a b) (a.high * (base * base) + (a.middle * base + a.low)) n) (whole b)
    (ranked_then (base * base) (Some (nat_cmp a.high b.high)) _ a.high b.high _ _ (small a s) (small b t) (ranks a.high b.high)
    (ranked_then base (Some (nat_cmp a.middle b.middle)) (Some (nat_cmp a.low b.low)) a.middle b.middle a.low b.low s.low t.low
    (ranks a.middle b.middle)
    (ranks a.low b.low))))
  where
    whole : (w : Wide) → w.high * (base * base) + (w.middle * base + w.low) ≡ raised w
    whole w = omega arith

    small : (w : Wide) → Words w → w.middle * base + w.low < base * base
    small w k = let m = k.middle in let l = k.low in omega (arith, m, l)

pub wide_order : (a b : Wide) → Words a → Words b → is_some_and is_lt (wide_cmp a b) ≡ lt_z (value a) (value b)
wide_order a b s t = below_ranked (wide_cmp a b) (raised a) (raised b) zero_at (value_rep a) (value_rep b) (ranked_words a b s t)

-- .. and of six
pub long_order : (a b : Long) → Words a.high → Words a.low → Words b.high → Words b.low
    → is_some_and is_lt (partial_ordering_then (wide_cmp a.high b.high) (wide_cmp a.low b.low)) ≡ lt_z (long_value a) (long_value b)
long_order a b s t u v =
    below_ranked (partial_ordering_then (wide_cmp a.high b.high) (wide_cmp a.low b.low)) (long_raised a) (long_raised b) long_zero
    (long_rep a) (long_rep b)
    (ranked_then triple_base (wide_cmp a.high b.high) (wide_cmp a.low b.low) (raised a.high) (raised b.high) (raised a.low) (raised b.low)
    (words_below t) (words_below v)
    (ranked_words a.high b.high s u) (ranked_words a.low b.low t v))
