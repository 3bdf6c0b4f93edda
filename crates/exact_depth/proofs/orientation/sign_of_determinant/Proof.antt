-- `exact_depth::orientation::sign_of_determinant` meets its contract. Assumes nothing.
use mathlib.Core.Path.{◌≡◌, sym, ap, ◌∙◌, subst}
use Prim.Native.Nat.{ℕ, ◌+◌, ◌*◌, ◌≤◌, ◌<◌}
use native.Mathlib.Omega.{arith}
use lib.Dec.{lit≤}
use lib.IntN.{ℤ, nat_abs, ◌+ℤ◌}
use mir.Syntax.{w64}
use mir.Val.{to_z, of_z}
use Rattle.wide_integers.specs.Sizes.{Sized, Sized61}
use Rattle.wide_integers.specs.Determinant.{determinant}
use Rattle.wide_integers.proofs.Reading.{bits, widen}
use Rattle.exact_depth.specs.declared.orientation.Limbs.{Limbs}
use Rattle.exact_depth.specs.Orientation.{radix, LimbsOf, LimbsSized, SignOf, middle_part, low_part}
use Rattle.exact_depth.proofs.Terms.{Term, term, plus, plus_fits, read_sized}
use Rattle.exact_depth.proofs.LimbLaws.{limbs_sized, sign_by_high, sign_by_low}
use Rattle.exact_depth.proofs.orientation.sign_of_determinant.Statement.{statement}
use Rattle.exact_depth.proofs.orientation.sign_of_determinant.Tie as tie

-- a number up to 2^61, as it comes
as-it-comes : {x : ℤ} → Sized61 x → Sized 9223372034707292160 (bits x)
as-it-comes h = read_sized (term (widen h (lit≤ tt)) (lit≤ tt))

plainly : {x : ℤ} {h : Limbs} → Sized61 x → LimbsOf (bits x) h → LimbsOf x h
plainly {x} {h} s k = subst (λ (z : ℤ). LimbsOf z h) (term s (lit≤ tt)).is k

high_small : (B K : ℕ) {x : ℤ} {h : Limbs} → Sized B x → LimbsOf x h → ((n : ℕ) → n * radix < B + radix → n ≤ K) → Sized K h.high
high_small B K {x} {h} s k f =
    record { size = let m = s.size in let n = k.high in f (nat_abs h.high) (more (nat_abs h.high) (nat_abs x) B n m) }
  where
    more : (n x B : ℕ) → n * radix < x + radix → x ≤ B → n * radix < B + radix
    more n x B p q = omega (arith, p, q)

low-sized : {x : ℤ} {h : Limbs} → LimbsOf x h → Sized 2147483647 h.low
low-sized {x} {h} k = subst (Sized 2147483647) (sym k.low) (record { size = let m = k.small in omega (arith, m) })

limbs-of-requires : tie.Need-limbs_of-p-requires
limbs-of-requires c κs = let s : tie.Start = search in as-it-comes s.requires.0.0

limbs-of-requires-2 : tie.Need-limbs_of-q-requires
limbs-of-requires-2 c κs = let s : tie.Start = search in as-it-comes s.requires.0.1

limbs-of-requires-3 : tie.Need-limbs_of-r-requires
limbs-of-requires-3 c κs = let s : tie.Start = search in as-it-comes s.requires.1.0

limbs-of-requires-4 : tie.Need-limbs_of-s-requires
limbs-of-requires-4 c κs = let s : tie.Start = search in as-it-comes s.requires.1.1

-- the limbs of the four
first : (k : tie.After-limbs_of-p) → let s : tie.Start = search in LimbsOf s.args.a k.limbs_of-p.result
first k = let s : tie.Start = search in plainly s.requires.0.0 k.limbs_of-p.ensures

second : (k : tie.After-limbs_of-q) → let s : tie.Start = search in LimbsOf s.args.b k.limbs_of-q.result
second k = let s : tie.Start = search in plainly s.requires.0.1 k.limbs_of-q.ensures

third : (k : tie.After-limbs_of-r) → let s : tie.Start = search in LimbsOf s.args.c k.limbs_of-r.result
third k = let s : tie.Start = search in plainly s.requires.1.0 k.limbs_of-r.ensures

fourth : (k : tie.After-limbs_of-s) → let s : tie.Start = search in LimbsOf s.args.d k.limbs_of-s.result
fourth k = let s : tie.Start = search in plainly s.requires.1.1 k.limbs_of-s.ensures

sized : (k : tie.After-limbs_of-s) → let (p, q, r) : tie.After-limbs_of-p × tie.After-limbs_of-q × tie.After-limbs_of-r = search in
    (LimbsSized p.limbs_of-p.result × LimbsSized q.limbs_of-q.result)
    × (LimbsSized r.limbs_of-r.result × LimbsSized k.limbs_of-s.result)
sized k =
    let (s, p, q, r) : tie.Start × tie.After-limbs_of-p × tie.After-limbs_of-q × tie.After-limbs_of-r = search in (
      (limbs_sized s.requires.0.0 (first p), limbs_sized s.requires.0.1 (second q)),
      (limbs_sized s.requires.1.0 (third r), limbs_sized s.requires.1.1 (fourth k)),
    )

low-part-requires : tie.Need-low_part-requires
low-part-requires c κs = let k : tie.After-limbs_of-s = search in sized k

-- the low part
low-term : (l : tie.After-low_part) → Term (bits l.low_part.result) l.low_part.result 4611686014132420609
low-term l = term l.low_part.ensures.1 (lit≤ tt)

limbs-of-requires-5 : tie.Need-limbs_of-low-requires
limbs-of-requires-5 c κs = let l : tie.After-low_part = search in widen (read_sized (low-term l)) (lit≤ tt)

fifth : (k : tie.After-limbs_of-low) → let l : tie.After-low_part = search in LimbsOf l.low_part.result k.limbs_of-low.result
fifth k =
    let l : tie.After-low_part = search in
    subst (λ (z : ℤ). LimbsOf z k.limbs_of-low.result) (low-term l).is k.limbs_of-low.ensures

carry-sized : (k : tie.After-limbs_of-low) → Sized 2147483648 k.limbs_of-low.result.high
carry-sized k =
    let l : tie.After-low_part = search in
    high_small 4611686014132420609 2147483648 l.low_part.ensures.1 (fifth k) (λ n h. omega (arith, h))

middle-part-requires : tie.Need-middle_part-requires
middle-part-requires c κs = let k : tie.After-limbs_of-s = search in sized k

carry-term : (i : tie.After-middle_part) → let k : tie.After-limbs_of-low = search in
    Term (bits k.limbs_of-low.result.high) k.limbs_of-low.result.high 2147483648
carry-term i = let k : tie.After-limbs_of-low = search in term (carry-sized k) (lit≤ tt)

middle-term : (i : tie.After-middle_part) → Term (bits i.middle_part.result) i.middle_part.result 9223372032559808512
middle-term i = term i.middle_part.ensures.1 (lit≤ tt)

add-limbs-of : tie.Need-overflow_add-middle_part
add-limbs-of c = let i : tie.After-middle_part = search in plus_fits (middle-term i) (carry-term i) (lit≤ tt)

sum-term : (i : tie.After-middle_part) → let k : tie.After-limbs_of-low = search in
    Term (bits (bits i.middle_part.result +ℤ bits k.limbs_of-low.result.high))
    (i.middle_part.result +ℤ k.limbs_of-low.result.high) 9223372034707292160
sum-term i = plus (middle-term i) (carry-term i) (lit≤ tt)

limbs-of-requires-6 : tie.Need-limbs_of-middle-requires
limbs-of-requires-6 c κs = let i : tie.After-middle_part = search in read_sized (sum-term i)

sixth : (k : tie.After-limbs_of-middle) → let (i, j) : tie.After-middle_part × tie.After-limbs_of-low = search in
    LimbsOf (i.middle_part.result +ℤ j.limbs_of-low.result.high) k.limbs_of-middle.result
sixth k =
    let i : tie.After-middle_part = search in
    subst (λ (z : ℤ). LimbsOf z k.limbs_of-middle.result) (sum-term i).is k.limbs_of-middle.ensures

high-part-requires : tie.Need-high_part-requires
high-part-requires c κs = let k : tie.After-limbs_of-s = search in sized k

own-high-term : (o : tie.After-high_part) → Term (bits o.high_part.result) o.high_part.result 2305843009213693952
own-high-term o = term o.high_part.ensures.1 (lit≤ tt)

over-term : (o : tie.After-high_part) → let k : tie.After-limbs_of-middle = search in
    Term (bits k.limbs_of-middle.result.high) k.limbs_of-middle.result.high 4294967296
over-term o =
    let (k, i) : tie.After-limbs_of-middle × tie.After-middle_part = search in
    term (high_small 9223372034707292160 4294967296 (sum-term i).sized (sixth k) (λ n h. omega (arith, h))) (lit≤ tt)

add-high : tie.Need-overflow_add-high
add-high c = let o : tie.After-high_part = search in plus_fits (own-high-term o) (over-term o) (lit≤ tt)

add-result : tie.Need-overflow_add-result
add-result c =
    let (k, j) : tie.After-limbs_of-middle × tie.After-limbs_of-low = search in
    plus_fits (term (low-sized (sixth k)) (lit≤ tt)) (term (low-sized (fifth j)) (lit≤ tt)) (lit≤ tt)

-- the highest part, and what the limbs say of the determinant
high-term : (o : tie.After-high_part) → let k : tie.After-limbs_of-middle = search in
    Term (bits (bits o.high_part.result +ℤ bits k.limbs_of-middle.result.high))
    (o.high_part.result +ℤ k.limbs_of-middle.result.high) 2305843013508661248
high-term o = plus (own-high-term o) (over-term o) (lit≤ tt)

sum_is : (o : tie.After-high_part) → let k : tie.After-limbs_of-middle = search in
    bits o.high_part.result +ℤ bits k.limbs_of-middle.result.high ≡ o.high_part.result +ℤ k.limbs_of-middle.result.high
sum_is o = λ i. (own-high-term o).is i +ℤ (over-term o).is i

low-limbs : (o : tie.After-high_part)
    → let (j, p, q, r, s) : tie.After-limbs_of-low × tie.After-limbs_of-p × tie.After-limbs_of-q × tie.After-limbs_of-r
    × tie.After-limbs_of-s = search in
    LimbsOf (low_part p.limbs_of-p.result q.limbs_of-q.result r.limbs_of-r.result s.limbs_of-s.result) j.limbs_of-low.result
low-limbs o =
    let (l, j) : tie.After-low_part × tie.After-limbs_of-low = search in
    subst (λ (z : ℤ). LimbsOf z j.limbs_of-low.result) l.low_part.ensures.0 (fifth j)

middle-limbs : (o : tie.After-high_part)
    → let (k, j, p, q, r, s) : tie.After-limbs_of-middle × tie.After-limbs_of-low × tie.After-limbs_of-p × tie.After-limbs_of-q
    × tie.After-limbs_of-r
    × tie.After-limbs_of-s = search in
    LimbsOf (middle_part p.limbs_of-p.result q.limbs_of-q.result r.limbs_of-r.result s.limbs_of-s.result
    +ℤ j.limbs_of-low.result.high) k.limbs_of-middle.result
middle-limbs o =
    let (k, i, j) : tie.After-limbs_of-middle × tie.After-middle_part × tie.After-limbs_of-low = search in
    subst (λ (z : ℤ). LimbsOf (z +ℤ j.limbs_of-low.result.high) k.limbs_of-middle.result) i.middle_part.ensures.0 (sixth k)

-- the high part is 0, so the two limbs below it, which are not negative, have the sign
returns : tie.Need-returns-then-high-eq0
returns c =
    let (e, o, k, j) : tie.Then-high-eq0 × tie.After-high_part × tie.After-limbs_of-middle × tie.After-limbs_of-low = search in
    let (p, q, r, s) : tie.After-limbs_of-p × tie.After-limbs_of-q × tie.After-limbs_of-r × tie.After-limbs_of-s = search in
    let x : tie.Start = search in
    let v = x.args in
    let t = plus (term (low-sized (sixth k)) (lit≤ tt)) (term (low-sized (fifth j)) (lit≤ tt)) (lit≤ tt) in
    let w = e.if-high-eq0.true in (
      subst (λ (z : ℤ). SignOf z (determinant v.a v.b v.c v.d)) (sym t.is)
          (sign_by_low (first p) (second q) (third r) (fourth s) (low-limbs o) (middle-limbs o)
          (ap (λ (z : ℤ). z +ℤ k.limbs_of-middle.result.high) (sym o.high_part.ensures.0) ∙ sym (high-term o).is
          ∙ ap (λ (n : ℕ). to_z w64 n) w)),
      widen (read_sized t) (lit≤ tt),
    )

-- the high part has the sign, since what is below it is less than one unit of it
returns-2 : tie.Need-returns
returns-2 c =
    let (o, k, p, q, r, s) : tie.After-high_part × tie.After-limbs_of-middle × tie.After-limbs_of-p × tie.After-limbs_of-q
    × tie.After-limbs_of-r
    × tie.After-limbs_of-s = search in
    let (x, e) : tie.Start × tie.Else-high-eq0 = search in
    let v = x.args in
    let w = e.if-high-eq0.false in (
      subst (λ (z : ℤ). SignOf z (determinant v.a v.b v.c v.d))
          (ap (λ (z : ℤ). z +ℤ k.limbs_of-middle.result.high) (sym o.high_part.ensures.0) ∙ sym (high-term o).is)
          (sign_by_high (first p) (second q) (third r) (fourth s) (low-limbs o) (middle-limbs o)
          (λ z. w (ap (λ (y : ℤ). of_z w64 y) (sum_is o ∙ ap (λ (y : ℤ). y +ℤ k.limbs_of-middle.result.high) o.high_part.ensures.0 ∙ z)))),
      read_sized (high-term o),
    )

pub sign_of_determinant_spec : {M : Type 1} → statement M
sign_of_determinant_spec =
    tie.close
    (tie.spec
    limbs-of-requires
    limbs-of-requires-2
    limbs-of-requires-3
    limbs-of-requires-4
    low-part-requires
    limbs-of-requires-5
    middle-part-requires
    add-limbs-of
    limbs-of-requires-6
    high-part-requires
    add-high
    add-result
    returns
    returns-2)
