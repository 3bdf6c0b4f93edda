-- `exact_triangle::normal::cross_of` meets its contract. Assumes nothing.
use Rattle.std.proofs.Common.{◌≡◌, ℤ, ◌∙◌, lit≤, rules}
use Rattle.wide_integers.specs.Sizes.{Sized}
use Rattle.wide_integers.specs.Determinant.{determinant}
use Rattle.wide_integers.proofs.Reading.{bits, plain, widen, sized_bits}
use Rattle.exact_triangle.proofs.Laws.{told_read, told_sized}
use Rattle.exact_triangle.proofs.normal.cross_of.Statement.{statement}
use Rattle.exact_triangle.proofs.normal.cross_of.Tie as tie

abbrev Edge : ℤ → Type 0
Edge = Sized 536870912

-- what one turn asks, and what it is of the numbers as they come
module _ {a b c d : ℤ} (ha : Edge a) (hb : Edge b) (hc : Edge c) (hd : Edge d) where
  asked : (Edge (bits a) × Edge (bits b)) × (Edge (bits c) × Edge (bits d))
  asked = ((sized_bits ha (lit≤ tt), sized_bits hb (lit≤ tt)), (sized_bits hc (lit≤ tt), sized_bits hd (lit≤ tt)))

  as-come : {r : ℤ} → r ≡ determinant (bits a) (bits b) (bits c) (bits d) → r ≡ determinant a b c d
  as-come e =
      e ∙ (λ i. determinant (plain (widen ha (lit≤ tt)) i) (plain (widen hb (lit≤ tt)) i) (plain (widen hc (lit≤ tt)) i)
      (plain (widen hd (lit≤ tt)) i))

determinant-requires : tie.Need-determinant-requires
determinant-requires c κs =
    let (x, y) : tie.After-from-e × tie.After-from-f = search in
    let e = x.from-e.ensures.1 in
    let f = y.from-f.ensures.1 in
    asked e.y e.z f.y f.z

determinant-requires-2 : tie.Need-determinant-requires-2
determinant-requires-2 c κs =
    let (x, y) : tie.After-from-e × tie.After-from-f = search in
    let e = x.from-e.ensures.1 in
    let f = y.from-f.ensures.1 in
    asked e.z e.x f.z f.x

determinant-requires-3 : tie.Need-determinant-requires-3
determinant-requires-3 c κs =
    let (x, y) : tie.After-from-e × tie.After-from-f = search in
    let e = x.from-e.ensures.1 in
    let f = y.from-f.ensures.1 in
    asked e.x e.y f.x f.y

first-is : (t : tie.After-determinant) → let (s, x, y) : tie.Start × tie.After-from-e × tie.After-from-f = search in
    t.determinant.result ≡ determinant x.from-e.result.y x.from-e.result.z y.from-f.result.y y.from-f.result.z
first-is t =
    let (x, y) : tie.After-from-e × tie.After-from-f = search in
    let e = x.from-e.ensures.1 in
    let f = y.from-f.ensures.1 in
    as-come e.y e.z f.y f.z t.determinant.ensures.0

second_is : (t : tie.After-determinant-2) → let (s, x, y) : tie.Start × tie.After-from-e × tie.After-from-f = search in
    t.determinant-2.result ≡ determinant x.from-e.result.z x.from-e.result.x y.from-f.result.z y.from-f.result.x
second_is t =
    let (x, y) : tie.After-from-e × tie.After-from-f = search in
    let e = x.from-e.ensures.1 in
    let f = y.from-f.ensures.1 in
    as-come e.z e.x f.z f.x t.determinant-2.ensures.0

third-is : (t : tie.After-determinant-3) → let (s, x, y) : tie.Start × tie.After-from-e × tie.After-from-f = search in
    t.determinant-3.result ≡ determinant x.from-e.result.x x.from-e.result.y y.from-f.result.x y.from-f.result.y
third-is t =
    let (x, y) : tie.After-from-e × tie.After-from-f = search in
    let e = x.from-e.ensures.1 in
    let f = y.from-f.ensures.1 in
    as-come e.x e.y f.x f.y t.determinant-3.ensures.0

returns : tie.Need-returns
returns c =
    let (x, y, t, u, v) : tie.After-from-e × tie.After-from-f × tie.After-determinant × tie.After-determinant-2 × tie.After-determinant-3 =
    search in
    let e = x.from-e.ensures.0 in
    let f = y.from-f.ensures.0 in (
      (λ i. record {
        x = told_read (first-is t ∙ (λ j. determinant (e j).y (e j).z (f j).y (f j).z)) t.determinant.ensures.1 (lit≤ tt) i;
        y = told_read (second_is u ∙ (λ j. determinant (e j).z (e j).x (f j).z (f j).x)) u.determinant-2.ensures.1 (lit≤ tt) i;
        z = told_read (third-is v ∙ (λ j. determinant (e j).x (e j).y (f j).x (f j).y)) v.determinant-3.ensures.1 (lit≤ tt) i;
      }),
      record {
        x = told_sized t.determinant.ensures.1 (lit≤ tt);
        y = told_sized u.determinant-2.ensures.1 (lit≤ tt);
        z = told_sized v.determinant-3.ensures.1 (lit≤ tt);
      },
    )

pub cross_of_spec : {M : Type 1} → statement M
cross_of_spec =
    tie.close
    (tie.spec
    (search rules)  -- from-e-requires
    (search rules)  -- from-f-requires
    determinant-requires
    determinant-requires-2
    determinant-requires-3
    returns)
