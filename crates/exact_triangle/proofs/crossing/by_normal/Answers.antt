-- `exact_triangle::crossing::by_normal` meets its contract. Assumes nothing.
use Rattle.std.proofs.Common.{◌≡◌, ℕ, ◌+◌, ◌*◌, true, ℤ, pos, ◌*ℤ◌, neg_ℤ, sym, ap, ◌∙◌, subst, lit<}
use lib.Signed.{lt_z}
use Rattle.wide_integers.specs.Sizes.{Sized}
use Rattle.wide_integers.proofs.Reading.{product_size, sum_size, negated_size}
use Rattle.exact_depth.specs.declared.projection.Point.{Point}
use Rattle.wide_integers.specs.Value.{value, Middling}
use Rattle.wide_integers.proofs.OperationLaws.{held, middling}
use Rattle.exact_triangle.specs.Shear.{from}
use Rattle.exact_triangle.specs.Sizes.{SizedAt}
use Rattle.exact_triangle.specs.Normal.{cross_of, dot_of}
use Rattle.exact_triangle.specs.CrossingDistance.{Between}
use Rattle.exact_triangle.proofs.CrossingLaws.{above_decides, below_decides}
use Rattle.exact_triangle.proofs.crossing.by_normal.Goals as goal

dot-size : {A B : ℕ} {n p : Point} → SizedAt A n → SizedAt B p → Sized (A * B + A * B + A * B) (dot_of n p)
dot-size h g = sum_size (sum_size (product_size h.x g.x) (product_size h.y g.y)) (product_size h.z g.z)

pub times-requires : goal.times-requires
times-requires c =
    let over-middling : Middling (value c.dot-over.result) =
    subst Middling (sym c.dot-over.ensures) (middling (dot-size c.cross_of-n.ensures.1 c.from.ensures.1) (lit< tt)) in
    over-middling

pub times-requires-then-is_negative : goal.times-requires-then-is_negative
times-requires-then-is_negative c =
    let over-middling : Middling (value c.dot-over.result) =
    subst Middling (sym c.dot-over.ensures) (middling (dot-size c.cross_of-n.ensures.1 c.from.ensures.1) (lit< tt)) in
    over-middling

pub negate-requires : goal.negate-requires
negate-requires c =
    let under-sized : Sized 3713820117856140824697372672 (value c.dot-under.result) =
    subst (Sized 3713820117856140824697372672) (sym c.dot-under.ensures) (dot-size c.cross_of-n.ensures.1 c.requires.0.direction) in
    held (negated_size under-sized) (lit< tt)

-- n · d is above 0
pub returns-then-is_positive : goal.returns-then-is_positive
returns-then-is_positive c =
    let under-as : ℤ =
    let v = c.args in dot_of (cross_of v.a v.b v.c) v.line.direction in
    let under-is : value c.dot-under.result ≡ under-as =
    c.dot-under.ensures ∙ ap (λ (m : Point). dot_of m c.args.line.direction) c.cross_of-n.ensures.0 in
    let over-as : ℤ =
    let v = c.args in dot_of (cross_of v.a v.b v.c) (from v.line.origin v.a) in
    let over-is : value c.dot-over.result ≡ over-as =
    c.dot-over.ensures ∙ (λ i. dot_of (c.cross_of-n.ensures.0 i) (c.from.ensures.0 i)) in
    let above : c.is_positive.result ≡ true →
    lt_z (pos 0) under-as ≡ true =
    λ h. ap (λ (z : ℤ). lt_z (pos 0) z) (sym under-is) ∙ sym c.is_positive.ensures ∙ h in
    let v = c.args in
    let n = cross_of v.a v.b v.c in
    λ l h k.
    let D = h.direction in
    above_decides l v.a v.b v.c k v.line.start v.line.finish h.start h.finish
    (subst (λ (q : Point). lt_z (pos 0) (dot_of n q) ≡ true) D (above c.if-is_positive.true)) c.between_ends.result
    (subst (λ (z : ℤ). Between z (dot_of n l.direction) v.line.start v.line.finish c.between_ends.result)
    (c.times.ensures ∙ ap (λ (z : ℤ). z *ℤ pos 32768) over-is ∙ (λ i. dot_of n (from (h.origin i) v.a) *ℤ pos 32768))
    (subst (λ (z : ℤ). Between (value c.times.result) z v.line.start v.line.finish c.between_ends.result)
    (under-is ∙ (λ i. dot_of n (D i))) c.between_ends.ensures))

-- .. or below
pub returns-then-is_negative : goal.returns-then-is_negative
returns-then-is_negative c =
    let under-as : ℤ =
    let v = c.args in dot_of (cross_of v.a v.b v.c) v.line.direction in
    let under-is : value c.dot-under.result ≡ under-as =
    c.dot-under.ensures ∙ ap (λ (m : Point). dot_of m c.args.line.direction) c.cross_of-n.ensures.0 in
    let over-as : ℤ =
    let v = c.args in dot_of (cross_of v.a v.b v.c) (from v.line.origin v.a) in
    let over-is : value c.dot-over.result ≡ over-as =
    c.dot-over.ensures ∙ (λ i. dot_of (c.cross_of-n.ensures.0 i) (c.from.ensures.0 i)) in
    let below : c.is_negative.result ≡ true →
    lt_z under-as (pos 0) ≡ true =
    λ h. ap (λ (z : ℤ). lt_z z (pos 0)) (sym under-is) ∙ sym c.is_negative.ensures ∙ h in
    let v = c.args in
    let n = cross_of v.a v.b v.c in
    λ l h k.
    let D = h.direction in
    below_decides l v.a v.b v.c k v.line.start v.line.finish h.start h.finish
    (subst (λ (q : Point). lt_z (dot_of n q) (pos 0) ≡ true) D (below c.if-is_negative.true)) c.between_ends-then-is_negative.result
    (subst (λ (z : ℤ). Between z (neg_ℤ (dot_of n l.direction)) v.line.start v.line.finish c.between_ends-then-is_negative.result)
    (c.times-then-is_negative.ensures ∙ ap (λ (z : ℤ). z *ℤ neg_ℤ (pos 32768)) over-is
    ∙ (λ i. dot_of n (from (h.origin i) v.a) *ℤ neg_ℤ (pos 32768)))
    (subst (λ (z : ℤ). Between (value c.times-then-is_negative.result) z v.line.start v.line.finish c.between_ends-then-is_negative.result)
    (c.negate.ensures ∙ ap neg_ℤ under-is ∙ (λ i. neg_ℤ (dot_of n (D i)))) c.between_ends-then-is_negative.ensures))

pub returns : goal.returns
returns c = λ l h k. tt
