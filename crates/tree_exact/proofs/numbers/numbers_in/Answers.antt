-- `tree_exact::numbers::numbers_in` meets its contract. Assumes nothing.
use mathlib.Core.Path.{◌≡◌, sym, ap, ◌∙◌}
use mathlib.Core.Bool.{Bool, true, false, not, ◌&&◌}
use lib.Ieee.{is_nan}
use Rattle.arithmetic.proofs.Order.{ne_self_is_nan}
use Rattle.tree_exact.proofs.numbers.numbers_in.Goals as goal

-- the first is none
pub returns-then-v : goal.returns-then-v
returns-then-v c =
    let v = c.args.v in
    sym (ap (λ (b : Bool). not b && (not (is_nan v.y) && not (is_nan v.z))) (sym (ne_self_is_nan v.x) ∙ c.if-v.true))

-- the second is none
pub returns-then-v-2 : goal.returns-then-v-2
returns-then-v-2 c =
    let v = c.args.v in
    let x : is_nan v.x ≡ false = sym (ne_self_is_nan v.x) ∙ c.if-v.false in
    let y : is_nan v.y ≡ true = sym (ne_self_is_nan v.y) ∙ c.if-v-2.true in
    sym (λ i. not (x i) && (not (y i) && not (is_nan v.z)))

-- the third is none
pub returns-then-v-3 : goal.returns-then-v-3
returns-then-v-3 c =
    let v = c.args.v in
    let x : is_nan v.x ≡ false = sym (ne_self_is_nan v.x) ∙ c.if-v.false in
    let y : is_nan v.y ≡ false = sym (ne_self_is_nan v.y) ∙ c.if-v-2.false in
    let z : is_nan v.z ≡ true = sym (ne_self_is_nan v.z) ∙ c.if-v-3.true in
    sym (λ i. not (x i) && (not (y i) && not (z i)))

-- all are numbers
pub returns : goal.returns
returns c =
    let v = c.args.v in
    let x : is_nan v.x ≡ false = sym (ne_self_is_nan v.x) ∙ c.if-v.false in
    let y : is_nan v.y ≡ false = sym (ne_self_is_nan v.y) ∙ c.if-v-2.false in
    let z : is_nan v.z ≡ false = sym (ne_self_is_nan v.z) ∙ c.if-v-3.false in
    sym (λ i. not (x i) && (not (y i) && not (z i)))
