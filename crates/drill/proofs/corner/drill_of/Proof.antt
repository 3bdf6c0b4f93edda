-- `drill::corner::drill_of` meets its contract. Assumes nothing.
use Rattle.drill.specs.Code.{SideOf}
use Rattle.drill.proofs.Laws.{sized_as, dot_size}
use Rattle.drill.specs.Drill.{square}
use Rattle.exact_triangle.proofs.Laws.{times_fits, times_read}
use Rattle.wide_integers.proofs.Reading.{bits, plain, widen, sized_bits, product_size}
use Rattle.wide_integers.proofs.Polynomials.{times_comm}
use Rattle.wide_integers.proofs.OperationLaws.{middling}
use Rattle.wide_integers.specs.Value.{value, Middling}
use Rattle.wide_integers.specs.Sizes.{Sized}
use lib.IntN.{ℤ, pos, ◌*ℤ◌}
use lib.Dec.{lit<, lit≤}
use Prim.Native.Nat.{◌*◌, ◌^◌}
use mathlib.Core.Path.{◌≡◌, sym, ap, ◌∙◌, subst}
use borrow.Author.Rules.{rules}
use Rattle.drill.proofs.corner.drill_of.Statement.{statement}
use Rattle.drill.proofs.corner.drill_of.Tie as tie

length-size : (k : tie.After-dot-length) → Sized (3 * 2 ^ 62) (value k.dot-length.result)
length-size k =
    let s : tie.Start = search in
    widen (sized_as k.dot-length.ensures (dot_size s.requires.0.1 s.requires.0.1)) (lit≤ tt)

middling-length : (k : tie.After-dot-length) → Middling (value k.dot-length.result)
middling-length k = middling (length-size k) (lit< tt)

times-requires : tie.Need-times-from-requires
times-requires c κs = let k : tie.After-dot-length = search in middling-length k

times-requires-2 : tie.Need-times-to-requires
times-requires-2 c κs = let k : tie.After-dot-length = search in middling-length k

times-requires-3 : tie.Need-times-reach-requires
times-requires-3 c κs = let k : tie.After-dot-length = search in middling-length k

mul-area : tie.Need-overflow_mul-area
mul-area c =
    let s : tie.Start = search in
    let h = s.requires.1.1.1 in
    times_fits h h (lit≤ tt) (lit≤ tt) (lit≤ tt)

area-is : (s : tie.Start) → bits (bits s.args.radius *ℤ bits s.args.radius) ≡ s.args.radius *ℤ s.args.radius
area-is s = let h = s.requires.1.1.1 in times_read h h (lit≤ tt) (lit≤ tt) (lit≤ tt)

-- times a word, in the order of the definition
ordered : {a v x : ℤ} (b y : ℤ) → v ≡ a *ℤ x → a ≡ b → x ≡ y → v ≡ y *ℤ b
ordered b y e f g = e ∙ (λ i. f i *ℤ g i) ∙ times_comm b y

side-of-requires : tie.Need-side_of-requires
side-of-requires c κs =
    let (s, k) : tie.Start × tie.After-dot-length = search in
    (widen (length-size k) (lit≤ tt), sized_bits s.requires.1.1.1 (lit≤ tt))

-- the same limit, of the numbers as they come
side-as : {R R' L L' : ℤ} → R ≡ R' → L ≡ L' → SideOf R L' → SideOf R' L
side-as {R} {R'} {L} {L'} e f h = subst (λ (z : ℤ). SideOf z L) e (subst (SideOf R) (sym f) h)

returns : tie.Need-returns
returns c =
    let (s, k, n, f) : tie.Start × tie.After-dot-length × tie.After-times-from × tie.After-times-to = search in
    let (t, d) : tie.After-times-reach × tie.After-side_of = search in
    let v = s.args in
    let hn = s.requires.1.0 in
    let hf = s.requires.1.1.0 in
    let hr = s.requires.1.1.1 in
    let e = area-is s in
    let back-near = plain (widen hn (lit≤ tt)) in
    let back-far = plain (widen hf (lit≤ tt)) in (
      record {
        origin = s.requires.0.0;
        direction = s.requires.0.1;
        length = widen (length-size k) (lit≤ tt);
        near = widen (sized_as n.times-from.ensures (product_size (length-size k) (sized_bits hn (lit≤ tt)))) (lit≤ tt);
        far = widen (sized_as f.times-to.ensures (product_size (length-size k) (sized_bits hf (lit≤ tt)))) (lit≤ tt);
        start = sized_bits hn (lit≤ tt);
        end = sized_bits hf (lit≤ tt);
        area = widen (sized_as e (product_size hr hr)) (lit≤ tt);
        side = sized_bits d.side_of.ensures.0 (lit≤ tt);
      },
      (λ l ρ o.
          let q = k.dot-length.ensures ∙ ap square o.direction in
          let w = e ∙ (λ i. o.radius i *ℤ o.radius i) in
          record {
            origin = o.origin;
            direction = o.direction;
            length = q;
            near = ordered (square l.direction) (pos l.near) n.times-from.ensures q (back-near ∙ o.near);
            far = ordered (square l.direction) (pos l.far) f.times-to.ensures q (back-far ∙ o.far);
            start = back-near ∙ o.near;
            end = back-far ∙ o.far;
            reach = ordered (square l.direction) (pos (ρ * ρ)) t.times-reach.ensures q w;
            area = w;
            side =
                side-as (ap (λ (z : ℤ). pos (ρ * ρ) *ℤ z) q) (plain (widen d.side_of.ensures.0 (lit≤ tt)))
                (d.side_of.ensures.1 ρ (plain (widen hr (lit≤ tt)) ∙ o.radius));
          }),
    )

pub drill_of_spec : {M : Type 1} → statement M
drill_of_spec =
    tie.close
    (tie.spec
    (λ c κs. search rules)  -- dot-length-requires
    times-requires
    times-requires-2
    mul-area
    times-requires-3
    side-of-requires
    returns)
