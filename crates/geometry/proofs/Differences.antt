-- A number less itself is +0 where the number is finite and else NaN, which no sum loses: so one comparison with 0 tells whether all three
-- numbers of a vector are finite. Assumes nothing.
use mathlib.Core.Path.{◌≡◌, refl, sym, ap, ◌∙◌}
use mathlib.Core.Bool.{Bool, true, false, cond, ◌&&◌}
use Prim.Native.Nat.{ℕ, ◌-◌, ◌*◌, ◌<◌}
use native.Mathlib.Nat.{zero-mul, mul-pos}
use native.Mathlib.Omega.{arith}
use lib.Dec.{ltb, lit<}
use lib.Ieee.{Float, nan, inf, fin, binary64, up, down, of_bits, neg, round, sum, add, sub, eq}
use lib.Ieee.Fits.{down_pos}
use lib.Ieee.Scale.{round_same}
use borrow.Author.Tests.{le-ltb}
use Rattle.arithmetic.specs.Basic.{is_finite}
use Rattle.arithmetic.proofs.SumOrder.{nothing}
use Rattle.vectors.specs.Numbers.{◌+ᶠ◌, ◌-ᶠ◌, zeroᶠ}
use Rattle.vectors.specs.Vector.{finite_vec}
use Rattle.vectors.specs.declared.vec3.Vec3.{Vec3}

zero_rounds : (c : ℕ) → 0 < c → round binary64 false 0 c ≡ nothing
zero_rounds c l = round_same binary64 false 0 c 0 1 l (lit< tt) (sym (zero-mul c)) ∙ one_zero
  where
    one_zero : round binary64 false 0 1 ≡ nothing
    one_zero = unfold round in refl

no_way : (a c : ℕ) → 0 < c → cond (ltb a a) (round binary64 true (a - a) c) (round binary64 false (a - a) c) ≡ nothing
no_way a c l =
    ap (λ (b : Bool). cond b (round binary64 true (a - a) c) (round binary64 false (a - a) c)) (le-ltb a a (omega arith))
    ∙ (let e : a - a ≡ 0 = omega arith in ap (λ (z : ℕ). round binary64 false z c) e)
    ∙ zero_rounds c l

no_way_back : (a c : ℕ) → 0 < c → cond (ltb a a) (round binary64 false (a - a) c) (round binary64 (ltb a a) (a - a) c) ≡ nothing
no_way_back a c l =
    ap (λ (b : Bool). cond b (round binary64 false (a - a) c) (round binary64 b (a - a) c)) (le-ltb a a (omega arith))
    ∙ (let e : a - a ≡ 0 = omega arith in ap (λ (z : ℕ). round binary64 false z c) e)
    ∙ zero_rounds c l

pub own_difference : (x : Float) → x -ᶠ x ≡ cond (is_finite x) nothing nan
unfolding is_finite sub add neg sum
own_difference nan = refl
own_difference (inf true) = refl
own_difference (inf false) = refl
own_difference (fin false m e) = no_way (m * up e * down e) (down e * down e) (mul-pos (down_pos e) (down_pos e))
own_difference (fin true m e) = no_way_back (m * up e * down e) (down e * down e) (mul-pos (down_pos e) (down_pos e))

zeros_or_nan : (a b c : Bool) → eq ((cond a nothing nan +ᶠ cond b nothing nan) +ᶠ cond c nothing nan) zeroᶠ ≡ (a && (b && c))
unfolding add sum round eq of_bits
zeros_or_nan false b c = refl
zeros_or_nan true false c = refl
zeros_or_nan true true false = refl
zeros_or_nan true true true = refl

pub differences_tell : (v : Vec3) → eq (((v.x -ᶠ v.x) +ᶠ (v.y -ᶠ v.y)) +ᶠ (v.z -ᶠ v.z)) zeroᶠ ≡ finite_vec v
unfolding finite_vec
differences_tell v =
    ap (λ (d : Float). eq ((d +ᶠ (v.y -ᶠ v.y)) +ᶠ (v.z -ᶠ v.z)) zeroᶠ) (own_difference v.x)
    ∙ ap (λ (d : Float). eq ((cond (is_finite v.x) nothing nan +ᶠ d) +ᶠ (v.z -ᶠ v.z)) zeroᶠ) (own_difference v.y)
    ∙ ap (λ (d : Float). eq ((cond (is_finite v.x) nothing nan +ᶠ cond (is_finite v.y) nothing nan) +ᶠ d) zeroᶠ) (own_difference v.z)
    ∙ zeros_or_nan (is_finite v.x) (is_finite v.y) (is_finite v.z)
