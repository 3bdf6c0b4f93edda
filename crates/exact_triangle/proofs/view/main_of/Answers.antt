-- `exact_triangle::view::main_of` meets its contract. Assumes nothing.
use Rattle.std.proofs.Common.{◌≡◌, Bool, true, false, ◌&&◌, leb, ℤ, pos, nat_abs, sym, refl, ap, ◌∙◌, lit≤}
use lib.Signed.{le_z}
use Rattle.wide_integers.specs.Sizes.{Sized}
use Rattle.wide_integers.proofs.Reading.{bits, plain, widen, taken, left, sized_bits}
use Rattle.exact_triangle.specs.Shear.{alongX, alongY, alongZ, main_of}
use Rattle.exact_triangle.proofs.Laws.{least_read}
use Rattle.exact_triangle.proofs.view.main_of.Goals as goal

-- a size, as it is told and read back
told : {z r : ℤ} → Sized 2147483648 z → r ≡ pos (nat_abs (bits z)) → bits r ≡ pos (nat_abs z)
told {z} {r} h e =
    let p : r ≡ pos (nat_abs z) = e ∙ ap (λ (w : ℤ). pos (nat_abs w)) (plain (widen h (lit≤ tt))) in
    ap (λ (w : ℤ). bits w) p ∙ plain (widen {z = pos (nat_abs z)} (record { size = h.size }) (lit≤ tt))

second-told : {z r y q : ℤ} {b : Bool} → Sized 2147483648 z → r ≡ pos (nat_abs (bits z)) → Sized 2147483648 y → q ≡ pos (nat_abs (bits y))
    → le_z (bits r) (bits q) ≡ b → leb (nat_abs z) (nat_abs y) ≡ b
second-told h e g d t = least_read (told h e) (told g d) t

pub size-x-requires : goal.size-x-requires
size-x-requires c = sized_bits c.requires.x (lit≤ tt)

pub size-y-requires : goal.size-y-requires
size-y-requires c = sized_bits c.requires.y (lit≤ tt)

pub size-z-requires : goal.size-z-requires
size-z-requires c = sized_bits c.requires.z (lit≤ tt)

pub returns-then-leads : goal.returns-then-leads
unfolding main_of
returns-then-leads c =
    let leads-told : (b : Bool) → c.leads.result ≡ b →
    (leb (nat_abs c.args.d.y) (nat_abs c.args.d.x) && leb (nat_abs c.args.d.z) (nat_abs c.args.d.x)) ≡ b =
    λ b t. let p = told c.requires.x c.size-x.ensures in
    let q = told c.requires.y c.size-y.ensures in
    let r = told c.requires.z c.size-z.ensures in
    sym (c.leads.ensures ∙ (λ i. le_z (q i) (p i) && le_z (r i) (p i))) ∙ t in
    taken _ (leads-told true c.if-leads.true) refl

pub returns-then-z-y : goal.returns-then-z-y
unfolding main_of
returns-then-z-y c =
    let leads-told : (b : Bool) → c.leads.result ≡ b →
    (leb (nat_abs c.args.d.y) (nat_abs c.args.d.x) && leb (nat_abs c.args.d.z) (nat_abs c.args.d.x)) ≡ b =
    λ b t. let p = told c.requires.x c.size-x.ensures in
    let q = told c.requires.y c.size-y.ensures in
    let r = told c.requires.z c.size-z.ensures in
    sym (c.leads.ensures ∙ (λ i. le_z (q i) (p i) && le_z (r i) (p i))) ∙ t in
    left alongX (leads-told false c.if-leads.false)
    (taken alongZ (second-told c.requires.z c.size-z.ensures c.requires.y c.size-y.ensures c.if-z-y.true) refl)

pub returns : goal.returns
unfolding main_of
returns c =
    let leads-told : (b : Bool) → c.leads.result ≡ b →
    (leb (nat_abs c.args.d.y) (nat_abs c.args.d.x) && leb (nat_abs c.args.d.z) (nat_abs c.args.d.x)) ≡ b =
    λ b t. let p = told c.requires.x c.size-x.ensures in
    let q = told c.requires.y c.size-y.ensures in
    let r = told c.requires.z c.size-z.ensures in
    sym (c.leads.ensures ∙ (λ i. le_z (q i) (p i) && le_z (r i) (p i))) ∙ t in
    left alongX (leads-told false c.if-leads.false)
    (left alongY (second-told c.requires.z c.size-z.ensures c.requires.y c.size-y.ensures c.if-z-y.false) refl)
